-- `card_ends::count_spaces` meets its contract, test by test. Assumes nothing.
use Prim.Native.Nat.{◌-◌}
use mathlib.Core.Path.{◌≡◌, sym, ◌∙◌}
use native.Mathlib.Omega.{arith}
use Rattle.card.proofs.Room.{spaces_below, spaces_edge, spaces_above}
use Rattle.card_ends.proofs.count_spaces.Goals as goal

pub returns-then-t-lt2 : goal.returns-then-t-lt2
returns-then-t-lt2 c =
    let z : c.args.t - 2 ≡ 0 = omega arith in
    sym (spaces_below c.args.t (omega arith) ∙ z)

pub returns-then-t-le129 : goal.returns-then-t-le129
returns-then-t-le129 c = sym (spaces_below c.args.t (omega arith))

pub returns-then-t-eq130 : goal.returns-then-t-eq130
returns-then-t-eq130 c = sym (spaces_edge c.args.t (omega arith))

pub returns : goal.returns
returns c = sym (spaces_above c.args.t (omega arith))
