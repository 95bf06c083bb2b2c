-- The lines of a text.
use Rattle.std.specs.Prelude.{ℕ, ◌+◌, ◌-◌, Bool, cond, not, List, [], ◌∷◌, eqb, length, get_or, take, drop}
use Rattle.ground.specs.Lists.{leading}

-- how many bytes at the head of a text are other than one
abbrev pub other : ℕ → ℕ → Bool
other byte x = not (eqb x byte)

abbrev pub before : ℕ → List ℕ → ℕ
before byte text = leading (other byte) text

-- where the line that starts at `at` ends: at its line feed, or where the text ends
abbrev pub feed_from : List ℕ → ℕ → ℕ
feed_from text at = at + before 0x0A (drop at text)

-- a byte in front of the first of some lines
abbrev pub in_front : ℕ → List (List ℕ) → List (List ℕ)
in_front b [] = (b ∷ []) ∷ []
in_front b (l ∷ ls) = (b ∷ l) ∷ ls

-- the lines of a text; the last may lack its line feed
unfoldable pub lines : List ℕ → List (List ℕ)
lines [] = []
lines (b ∷ bs) = cond (eqb b 0x0A) ([] ∷ lines bs) (in_front b (lines bs))

-- a line without a carriage return at its end
unfoldable pub without_return : List ℕ → List ℕ
without_return line = cond (eqb (get_or line (length line - 1) 0) 0x0D) (take (length line - 1) line) line

-- without the blanks at its head
unfoldable pub without_blanks : List ℕ → List ℕ
without_blanks line = drop (leading (eqb 0x20) line) line

-- without both
abbrev pub trimmed : List ℕ → List ℕ
trimmed line = without_blanks (without_return line)
