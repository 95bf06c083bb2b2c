-- One turn of the loops over words and lines, and their ends. Assumes nothing.
use Prim.Native.Nat.{ℕ, ◌+◌, ◌-◌, ◌≤◌, ◌<◌}
use native.Mathlib.Numerals.{add-one}
use mathlib.Core.Path.{◌≡◌}
use mathlib.Core.List.{List}
use lib.ListN.{length, take, drop, drop_of_length-le}
use Rattle.table_take.specs.declared.Kind.TheVariants.{Blanks, Signs, Line}
use Rattle.table_take.specs.declared.Taking.{Taking}
use Rattle.table_take.specs.Splitting.{behind_kind, lines, words, through}
use Rattle.table_take.specs.Taking.{with_line, finished, taken_from}
use Rattle.table_take.proofs.Splits.{word_next, no_word_next, line_next}

module _ {A : Type 0} (f : A → List ℕ → A) (got : A) (line : List ℕ) (at : ℕ) where
  pub word_turn : (s e : ℕ) → s ≡ behind_kind Blanks line at → e ≡ behind_kind Signs line s → s < e
      → through f (f got (take (e - s) (drop s line))) (words (drop (e + 1) line)) ≡ through f got (words (drop at line))
  unfolding through
  word_turn s e blanks signs h = rw (word_next line at s e blanks signs h)

  pub no_word_turn : (s e : ℕ) → s ≡ behind_kind Blanks line at → e ≡ behind_kind Signs line s → e ≤ s
      → through f got (words (drop (e + 1) line)) ≡ through f got (words (drop at line))
  no_word_turn s e blanks signs h = rw (no_word_next line at s e blanks signs h)

  pub words_over : length line ≤ at → through f got (words (drop at line)) ≡ got
  unfolding through words
  words_over h = rw (drop_of_length-le line h)

module _ (state : Taking) (n : ℕ) (text : List ℕ) (at : ℕ) where
  pub line_turn : (e : ℕ) → at < length text → e ≡ behind_kind Line text at
      → taken_from (with_line state n (take (e - at) (drop at text))) (n + 1) (lines (drop (e + 1) text)) ≡ taken_from state n (lines (drop at text))
  unfolding taken_from
  line_turn e h is = rw (line_next text at e h is, add-one n)

  pub lines_over : length text ≤ at → taken_from state n (lines (drop at text)) ≡ finished state n
  unfolding taken_from lines
  lines_over h = rw (drop_of_length-le text h)
