-- `ground_parts::count_same` meets its contract: the chain counts the pairs at the head that are alike. Assumes nothing.
use mathlib.Core.Path.{◌∙◌}
use mathlib.Core.Bool.{Bool}
use Prim.Native.Nat.{ℕ}
use borrow.Author.Rules.{rules}
use borrow.Author.Tests.{tests}
use lib.Dec.{eqb}
use lib.ListN.{take}
use Rattle.std.specs.List.{zip}
use Rattle.std.proofs.lemmas.Iterator.{YieldsList-from_slice, YieldsList-from_zip}
use Rattle.std.proofs.lemmas.Iterator.Consumers.{count_from_yields_List}
use Rattle.std.proofs.lemmas.Iterator.Search.{YieldsList-from_take_while}
use Rattle.std.proofs.lemmas.List.Folds.{length-prefix_len}
use Rattle.ground.proofs.Lists.{agree_pairs}
use Rattle.ground_parts.proofs.count_same.Goals as goal

abbrev alike : ℕ × ℕ → Bool
alike p = eqb p.0 p.1

pub returns : goal.returns
returns c =
    let n = c.min-n.result in
    let part = take n c.args.part.now in
    let want = take n c.args.want.now in
    count_from_yields_List c.take_while.result _ c.count.ensures.ran (YieldsList-from_take_while _ alike (YieldsList-from_zip (YieldsList-from_slice part (cc)) (YieldsList-from_slice want (cc))) c.take_while.ensures.closure c.take_while.ensures.done (λ x b q k. search (rules, tests)))
    ∙ length-prefix_len alike (zip part want)
    ∙ agree_pairs c.args.want.now c.args.part.now n c.min-n.ensures
