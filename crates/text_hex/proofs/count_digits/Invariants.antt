-- `text_hex::count_digits`: what is passed with what is left makes the whole. Assumes nothing.
use Prim.Native.Nat.{◌+◌}
use mathlib.Core.Path.{◌≡◌}
use lib.ListN.{drop}
use Rattle.ground.specs.Lists.{leading}
use Rattle.card_text.specs.Hex.{is_digit}
use Rattle.text_hex.proofs.count_digits.Given as goal

abbrev pub invariant-loop-i : goal.invariant-loop-i
invariant-loop-i l = l.i + leading is_digit (drop l.i l.value) ≡ leading is_digit l.value
