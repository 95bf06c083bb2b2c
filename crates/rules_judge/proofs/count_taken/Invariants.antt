-- `rules_judge::count_taken` meets its contract. The invariant: what is passed with what is left makes the whole. Assumes nothing.
use mathlib.Core.Path.{◌≡◌, sym, ap, ◌∙◌}
use Prim.Native.Nat.{◌+◌, ◌-◌, ◌≤◌}
use native.Mathlib.Nat.{zero-add}
use native.Mathlib.Omega.{arith}
use borrow.Author.Rules.{rules}
use borrow.Author.Tests.{not-true, not-false}
use lib.ListN.{length, drop}
use Rattle.rules_judge.specs.declared.Characters.{Characters}
use Rattle.rules_judge.specs.Characters.{has_byte}
use Rattle.ground.specs.Lists.{leading}
use Rattle.rules.specs.Values.{takes}
use Rattle.ground.proofs.Lists.{leading_pass, leading_stop, leading_end}
use Rattle.rules_judge.proofs.Bits.{leading_bits}
use Rattle.rules_judge.proofs.count_taken.Given as goal

abbrev pub invariant-loop-i : goal.invariant-loop-i
invariant-loop-i l = l.i + leading (has_byte l.characters) (drop l.i l.v) ≡ leading (has_byte l.characters) l.v
