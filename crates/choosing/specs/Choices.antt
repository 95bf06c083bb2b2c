-- The lengths of three objects that their rows permit and whose sum fits: of all such the ones of the fewest bytes, or of the most.
use Rattle.std.specs.Prelude.{ℕ, zero, suc, ◌+◌, ◌-◌, ◌/◌, ◌%◌, Bool, true, cond, not, ◌&&◌, List, [], ◌∷◌, eqb, leb, ltb}
use Rattle.edition.specs.declared.Row.{Row}
use Rattle.edition.specs.Sets.{permitted}
use Rattle.card.specs.Rules.{sum_fits}
use Rattle.choosing.specs.declared.Three.{Three}

-- a length will do for a row's object: one of the set, or 0, absent, where it is not required
unfoldable pub will_do : Row → ℕ → Bool
will_do r n = cond (eqb n 0) (not r.required) (permitted r.lengths n)

-- how many bytes an object takes in the template
unfoldable pub size_of : ℕ → ℕ
size_of n = cond (eqb n 0) 0 (n + 2)

abbrev pub three : ℕ → ℕ → ℕ → Three
three a b c = record { first = a; second = b; third = c }

-- three lengths of at most 28 by their number
unfoldable pub three_of : ℕ → Three
three_of code = three (code / 841) (code / 29 % 29) (code % 29)

-- the sum of document 01: that of the names, or that of the town
unfoldable pub sum_holds : Bool → Three → Bool
sum_holds names t =
    sum_fits (cond names (leb t.first 15 && leb t.second 28 && leb t.third 15) true) t.first t.second t.third

-- the lengths of the sixteen objects where none but these three are there
unfoldable pub placed : Bool → Three → List ℕ
placed names t =
    cond names
    (0 ∷ 0 ∷ 0 ∷ 0 ∷ 0 ∷ 0 ∷ t.first ∷ t.second ∷ t.third ∷ 0 ∷ 0 ∷ 0 ∷ 0 ∷ 0 ∷ 0 ∷ 0 ∷ [])
    (0 ∷ 0 ∷ 0 ∷ 0 ∷ 0 ∷ 0 ∷ 0 ∷ 0 ∷ 0 ∷ 0 ∷ 0 ∷ 0 ∷ t.first ∷ t.second ∷ t.third ∷ 0 ∷ [])

unfoldable pub fits : Bool → Row → Row → Row → Three → Bool
fits names a b c t = will_do a t.first && will_do b t.second && will_do c t.third && sum_holds names t

unfoldable pub size_in : Three → ℕ
size_in t = size_of t.first + size_of t.second + size_of t.third

-- the least is looked for, and what does not fit weighs most
unfoldable pub weight : Bool → Bool → Row → Row → Row → Three → ℕ
weight long names a b c t = cond (fits names a b c t) (cond long (999 - size_in t) (size_in t)) 1000

-- of the numbers below m the first that weighs least; d where none weighs less than d
unfoldable pub least : (ℕ → ℕ) → ℕ → ℕ → ℕ
least f d zero = d
least f d (suc m) = cond (ltb (f m) (f (least f d m))) m (least f d m)

abbrev pub weight_at : Bool → Bool → Row → Row → Row → ℕ → ℕ
weight_at long names a b c code = weight long names a b c (three_of code)

-- 28, 28 and 28, whose sum never fits, where no three lengths do
unfoldable pub chosen : Bool → Bool → Row → Row → Row → Three
chosen long names a b c = three_of (least (weight_at long names a b c) 24388 24389)
