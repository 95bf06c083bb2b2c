-- `take_words::words_taken` meets its contract. The invariant: the words that are left, with what was said so far, make the whole. Assumes nothing.
use mathlib.Core.Path.{◌≡◌}
use Prim.Native.Nat.{◌-◌}
use lib.ListN.{length, drop}
use Rattle.table_take.specs.Splitting.{words, through}
use Rattle.table_take.specs.Words.{no_fields, word_taken}
use Rattle.take_words.proofs.words_taken.Given as goal

abbrev pub invariant-loop-at : goal.invariant-loop-at
invariant-loop-at l = through (word_taken l.due) l.got (words (drop l.at l.line)) ≡ through (word_taken l.due) no_fields (words l.line)

abbrev pub decreases-loop-at : goal.decreases-loop-at
decreases-loop-at l = length l.line - l.at
