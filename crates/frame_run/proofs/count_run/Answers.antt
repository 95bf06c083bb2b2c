-- `frame_run::count_run` meets its contract: all bytes are b, or the chain counts those at the head that are. Assumes nothing.
use mathlib.Core.Path.{sym, ◌∙◌}
use Prim.Native.Nat.{ℕ}
use borrow.Author.Rules.{rules}
use borrow.Author.Tests.{tests, eqb-true}
use lib.Dec.{eqb}
use Rattle.std.proofs.lemmas.Iterator.{YieldsList-from_slice}
use Rattle.std.proofs.lemmas.Iterator.Consumers.{count_from_yields_List}
use Rattle.std.proofs.lemmas.Iterator.Search.{YieldsList-from_take_while}
use Rattle.std.proofs.lemmas.List.Folds.{length-prefix_len}
use Rattle.ground.proofs.Runs.{run_counted}
use Rattle.frame_run.proofs.count_run.Goals as goal

pub returns-then-is_run : goal.returns-then-is_run
returns-then-is_run c = sym (eqb-true _ _ (sym c.is_run.ensures ∙ c.if-is_run.true))

pub returns : goal.returns
returns c =
    let part = c.args.part.now in
    let is_b = λ (x : ℕ). eqb x c.args.b in
    count_from_yields_List c.take_while.result _ c.count.ensures.ran (YieldsList-from_take_while _ is_b (YieldsList-from_slice part (cc)) c.take_while.ensures.closure c.take_while.ensures.done (λ x b q k. search (rules, tests)))
    ∙ length-prefix_len is_b part
    ∙ run_counted part c.args.b
