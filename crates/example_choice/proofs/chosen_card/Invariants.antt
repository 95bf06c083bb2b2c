-- `example_choice::chosen_card` meets its contract. The invariant: what is searched for is the first from the number reached on. Assumes nothing.
use Prim.Native.Nat.{◌-◌, ◌≤◌}
use mathlib.Core.Path.{◌≡◌}
use Rattle.example.specs.Cards.{enough, first_from}
use Rattle.example_choice.proofs.chosen_card.Given as goal

abbrev pub invariant-loop-long : goal.invariant-loop-long
invariant-loop-long l = first_from (enough l.inner l.outer l.told) 16 0 ≡ first_from (enough l.inner l.outer l.told) (16 - l.long) l.long
