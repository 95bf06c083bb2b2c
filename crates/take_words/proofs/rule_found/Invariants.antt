-- `take_words::rule_found` meets its contract. The invariant: the word is none of those passed. Assumes nothing.
use mathlib.Core.Path.{◌≡◌}
use Prim.Native.Nat.{◌-◌}
use Rattle.table_take.specs.Words.{rule_found}
use Rattle.take_words.proofs.rule_found.Given as goal

abbrev pub invariant-loop-n : goal.invariant-loop-n
invariant-loop-n l = rule_found l.word l.n (27 - l.n) ≡ rule_found l.word 19 8
