-- `rules_kinds::worst_of` meets its contract. The invariant: with what is passed in `worst`, the rest tells what the whole tells. Assumes nothing.
use mathlib.Core.Path.{sym, ◌∙◌}
use Prim.Native.Nat.{◌<◌}
use native.Mathlib.Omega.{arith}
use lib.ListN.{length, get_or}
use Rattle.rules.proofs.Tables.{worst_next, worst_end}
use Rattle.rules_kinds.proofs.worst_of.Goals as goal

pub loop-b-preserved : goal.loop-b-preserved
loop-b-preserved c =
    let l = c.loop-b in
    let v = c.args.v.now in
    let t = c.args.kinds.now in
    let inside : get_or v l.b-index 0 < length t = omega (arith, c.requires, c.type_inv.v l.b-index) in
    worst_next t v l.b-index l.worst (omega arith) inside ∙ l.invariant

pub returns : goal.returns
returns c =
    let l = c.loop-b in
    let a = c.args in
    sym (worst_end a.kinds.now a.v.now l.b-index l.worst (omega arith)) ∙ l.invariant
