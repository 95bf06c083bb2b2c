-- What the pieces of the code answer: a content whose values have their places on the lines, and what is put where they have not.
use Rattle.std.specs.Prelude.{ℕ, zero, suc, ◌+◌, ◌≤◌, ◌<◌, cond, ◌||◌, List, [], ◌∷◌, ◌++◌, eqb, leb, length, take}
use Rattle.card.specs.declared.Object.{Object}
use Rattle.card.specs.Content.{Content, value_of}
use Rattle.front.specs.Lines.{value, addition_sign, status_shown, forenames, second_of, field, name_line}

pub record Fits (c : Content) : Type 0 where
  pub short : (k : ℕ) → k < 16 → length (value c k) ≤ 28
  pub number : length (value c 1) ≤ 7
  pub insured : length (value c 3) ≤ 12
  pub status : length (value c 4) ≤ 4
  pub validity : length (value c 15) ≤ 4
  pub names : length (forenames c) ≤ 28

-- a sign as a byte, a blank for none
abbrev pub signed : ℕ → List ℕ
signed r = cond (eqb r 0x20) [] (r ∷ [])

-- a status with the places that are printed of it
unfoldable pub status_object : Object → Object
status_object o = record { length = length (status_shown (value_of o)); bytes = o.bytes }

-- a value in n places, of a longer one the first n
unfoldable pub placed : ℕ → List ℕ → List ℕ
placed n v = field n (take n v)

-- what is put for a field: more places than an object has bytes are not put
unfoldable pub field_put : ℕ → List ℕ → List ℕ
field_put n v = cond (leb n 28) (placed n v) []

-- what is put behind names of n bytes for a part more
unfoldable pub behind : ℕ → List ℕ → List ℕ
behind zero v = v
behind (suc n) [] = []
behind (suc n) (y ∷ b) = 0x20 ∷ y ∷ b

-- how many bytes names of n bytes have with a part of k behind them; 29 where a line does not hold them
unfoldable pub spaced_size : ℕ → ℕ → ℕ
spaced_size n k = cond (eqb n 0 || eqb k 0) (n + k) (n + 1 + k)

unfoldable pub capped : ℕ → ℕ
capped n = cond (leb n 28) n 29

unfoldable pub line_end : ℕ → ℕ → ℕ
line_end n k = capped (spaced_size n k)

-- what is put for the two name lines: nothing, where the forenames are longer than a line
unfoldable pub names_put : Content → List ℕ
names_put c = cond (leb (length (forenames c)) 28) (name_line c ++ placed 28 (second_of (forenames c) (value c 9))) []

-- what is put for the fourth line
abbrev pub state_put : Content → List ℕ
state_put c = placed 4 (status_shown (value c 4)) ++ (field 1 (addition_sign (value c 5)) ++ placed 4 (value c 15))

unfoldable pub numbers_put : Content → List ℕ
numbers_put c = placed 7 (value c 1) ++ (placed 12 (value c 3) ++ state_put c)
