-- A text is lines, and a line is words with blanks between them.
use Rattle.std.specs.Prelude.{ℕ, ◌+◌, Bool, false, cond, not, ◌||◌, List, [], ◌∷◌, eqb, drop}
use Rattle.ground.specs.Lists.{leading}
use Rattle.table_take.specs.declared.Kind.{Kind}
use Rattle.table_take.specs.declared.Kind.TheVariants.{Blanks, Signs, Line}

-- a blank, a tab or a carriage return
abbrev pub is_blank : ℕ → Bool
is_blank b = eqb b 0x20 || eqb b 0x09 || eqb b 0x0D

abbrev pub of_kind : Kind → Bool → Bool → Bool
of_kind Blanks blank end = blank
of_kind Signs blank end = not blank
of_kind Line blank end = not end

unfoldable pub is_kind : Kind → ℕ → Bool
is_kind kind b = of_kind kind (is_blank b) (eqb b 0x0A)

-- the place behind the bytes of a kind from `at` on
abbrev pub behind_kind : Kind → List ℕ → ℕ → ℕ
behind_kind kind text at = at + leading (is_kind kind) (drop at text)

-- a byte in front of the first of some lines or words
abbrev pub before : ℕ → List (List ℕ) → List (List ℕ)
before b [] = (b ∷ []) ∷ []
before b (l ∷ ls) = (b ∷ l) ∷ ls

-- the lines of a text; the last may lack its end
unfoldable pub lines : List ℕ → List (List ℕ)
lines [] = []
lines (b ∷ bs) = cond (eqb b 0x0A) ([] ∷ lines bs) (before b (lines bs))

-- whether a word starts at once
abbrev pub begins : List ℕ → Bool
begins [] = false
begins (b ∷ bs) = not (is_blank b)

-- the words of a line
unfoldable pub words : List ℕ → List (List ℕ)
words [] = []
words (b ∷ bs) = cond (is_blank b) (words bs) (cond (begins bs) (before b (words bs)) ((b ∷ []) ∷ words bs))

-- what comes of the elements of a list, one after the other
unfoldable pub through : {A B : Type 0} → (A → B → A) → A → List B → A
through f a [] = a
through f a (b ∷ bs) = through f (f a b) bs
