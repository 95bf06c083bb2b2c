-- One turn of the loops over the lines of a text, and their ends. Assumes nothing.
use Prim.Native.Nat.{ℕ, ◌+◌, ◌-◌, ◌≤◌, ◌<◌}
use native.Mathlib.Numerals.{add-one}
use borrow.Author.Tests.{eq-eqb, ne_eqb}
use mathlib.Core.Path.{◌≡◌}
use mathlib.Core.List.{List, []}
use lib.ListN.{length, take, drop}
use Rattle.std.specs.Prelude.{Option, Some, None}
use Rattle.card_lines.specs.Lines.{feed_from, lines}
use Rattle.card_lines.specs.Keys.{key_of}
use Rattle.card_lines.proofs.Splits.{line_next, lines_over}
use Rattle.card_text.specs.declared.Wrong.{Wrong}
use Rattle.card_text.specs.Entries.{line_from, line_with}
use Rattle.card_text.specs.Faults.{fault_of_line, fault_at, fault_from}

-- the line from `at` on ends at e
module _ (text : List ℕ) (at e n : ℕ) (h : at < length text) (is : e ≡ feed_from text at) where
  abbrev line : List ℕ
  line = take (e - at) (drop at text)

  module _ (key k : ℕ) (said : k ≡ key_of line) where
    pub number_here : k ≡ key → line_from key n (lines (drop at text)) ≡ Some n
    unfolding line_from
    number_here s = rw (line_next text at e h is, ← said, eq-eqb k key s)

    pub number_farther : (k ≡ key → ⊥) → line_from key (n + 1) (lines (drop (e + 1) text)) ≡ line_from key n (lines (drop at text))
    unfolding line_from
    number_farther s = rw (line_next text at e h is, ← said, ne_eqb k key s, add-one n)

    pub line_here : k ≡ key → line_with key (lines (drop at text)) ≡ line
    unfolding line_with
    line_here s = rw (line_next text at e h is, ← said, eq-eqb k key s)

    pub line_farther : (k ≡ key → ⊥) → line_with key (lines (drop (e + 1) text)) ≡ line_with key (lines (drop at text))
    unfolding line_with
    line_farther s = rw (line_next text at e h is, ← said, ne_eqb k key s)

  module _ (m : Option Wrong) (said : m ≡ fault_of_line text line n) where
    pub fault_here : (w : Wrong) → m ≡ Some w → Some (fault_at w n line) ≡ fault_from text n (lines (drop at text))
    unfolding fault_from
    fault_here w s = rw (line_next text at e h is, ← said, s)

    pub fault_farther : m ≡ None → fault_from text (n + 1) (lines (drop (e + 1) text)) ≡ fault_from text n (lines (drop at text))
    unfolding fault_from
    fault_farther s = rw (line_next text at e h is, ← said, s, add-one n)

-- no line is left
module _ (text : List ℕ) (at n : ℕ) (h : length text ≤ at) where
  pub number_over : (key : ℕ) → line_from key n (lines (drop at text)) ≡ None
  unfolding line_from
  number_over key = rw (lines_over text at h)

  pub line_over : (key : ℕ) → line_with key (lines (drop at text)) ≡ []
  unfolding line_with
  line_over key = rw (lines_over text at h)

  pub fault_over : None ≡ fault_from text n (lines (drop at text))
  unfolding fault_from
  fault_over = rw (lines_over text at h)
