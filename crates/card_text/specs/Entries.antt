-- The lines that speak of something, by their keys: the first line with a key counts.
use Rattle.std.specs.Prelude.{ℕ, suc, cond, List, [], ◌∷◌, Option, Some, None, eqb}
use Rattle.card_lines.specs.Lines.{lines}
use Rattle.card_lines.specs.Keys.{key_of, value_in}

-- the number of the first line with a key, where there is one; the lines are counted from n on
unfoldable pub line_from : ℕ → ℕ → List (List ℕ) → Option ℕ
line_from key n [] = None
line_from key n (l ∷ ls) = cond (eqb (key_of l) key) (Some n) (line_from key (suc n) ls)

-- the first line with a key; nothing where there is none
unfoldable pub line_with : ℕ → List (List ℕ) → List ℕ
line_with key [] = []
line_with key (l ∷ ls) = cond (eqb (key_of l) key) l (line_with key ls)

abbrev pub line_of : ℕ → List ℕ → Option ℕ
line_of key text = line_from key 1 (lines text)

-- what that line says
abbrev pub value_of : ℕ → List ℕ → List ℕ
value_of key text = value_in (line_with key (lines text))
