-- The decision of nesting: of two rows the first clause that fails, of two editions the first such row; and a value for a clause of values.
use Rattle.std.specs.Prelude.{ℕ, suc, ◌-◌, Bool, true, false, cond, not, ◌&&◌, ◌||◌, List, [], ◌∷◌, eqb, get_or, replicate}
use Rattle.std.specs.Int.Bits.{bit_and}
use Rattle.rules.specs.declared.Rule.{Rule}
use Rattle.rules.specs.declared.Rule.TheVariants.{Digits, Text, Lead, Code, Birth, Expiry, Raw, NotD}
use Rattle.edition.specs.declared.Row.{Row}
use Rattle.edition.specs.declared.Edition.{Edition}
use Rattle.edition.specs.declared.Formed.{Formed}
use Rattle.edition.specs.declared.Formed.TheVariants.{Well, Bad, Unnumbered}
use Rattle.edition.specs.Sets.{permitted, shortest_of}
use Rattle.edition.specs.Rows.{formed_of}
use Rattle.nesting.specs.declared.Nesting.{Nesting}
use Rattle.nesting.specs.declared.Sample.{Sample}

abbrev pub number_of : Rule → ℕ
number_of Digits = 0
number_of Text = 1
number_of Lead = 2
number_of Code = 3
number_of Birth = 4
number_of Expiry = 5
number_of Raw = 6
number_of NotD = 7

-- the rules before the last, by their numbers
abbrev pub rules : List Rule
rules = Digits ∷ Text ∷ Lead ∷ Code ∷ Birth ∷ Expiry ∷ Raw ∷ []

abbrev pub rule_of : ℕ → Rule
rule_of n = get_or rules n NotD

-- the same rule; all but raw within text; lead, birth and expiry within digits; within text other than the single D what has digits alone,
-- and text and code where the length 1 is not permitted
unfoldable pub numbers_in : Bool → ℕ → ℕ → Bool
numbers_in single i o =
    eqb i o
    || (eqb o 1 && not (eqb i 6))
    || (eqb o 0 && (eqb i 2 || eqb i 4 || eqb i 5))
    || (eqb o 7 && (eqb i 0 || eqb i 2 || eqb i 4 || eqb i 5))
    || (eqb o 7 && not single && (eqb i 1 || eqb i 3))

abbrev pub rule_in : ℕ → Rule → Rule → Bool
rule_in lengths i o = numbers_in (permitted lengths 1) (number_of i) (number_of o)

-- 1 a length, 2 a value, 3 required: the first clause that fails; 0 where none does
unfoldable pub clause_of : Row → Row → ℕ
clause_of i o =
    cond (eqb (bit_and i.lengths o.lengths) i.lengths)
    (cond (rule_in i.lengths i.rule o.rule)
    (cond (not o.required || i.required) 0 3)
    2)
    1

abbrev pub told : ℕ → ℕ → Nesting
told clause row = record { clause = clause; row = row }

-- the first row, of those from number k on, of which a clause fails
unfoldable pub nesting_from : ℕ → List Row → List Row → Nesting
nesting_from k [] [] = told 0 17
nesting_from k [] (o ∷ os) = told 4 17
nesting_from k (i ∷ is) [] = told 5 17
nesting_from k (i ∷ is) (o ∷ os) = cond (eqb (clause_of i o) 0) (nesting_from (suc k) is os) (told (clause_of i o) k)

abbrev pub is_well : Formed → Bool
is_well Well = true
is_well (Bad k) = false
is_well Unnumbered = false

-- 4 the inner edition is not well formed, 5 the outer is not
unfoldable pub nesting_of : Edition → Edition → Nesting
nesting_of i o =
    cond (is_well (formed_of i)) (cond (is_well (formed_of o)) (nesting_from 0 i.rows o.rows) (told 5 17)) (told 4 17)

-- a byte for each rule
abbrev pub by_name : Rule → ℕ → ℕ → ℕ → ℕ → ℕ → ℕ
by_name Digits digits text lead code date = digits
by_name Text digits text lead code date = text
by_name Lead digits text lead code date = lead
by_name Code digits text lead code date = code
by_name Birth digits text lead code date = 0x30
by_name Expiry digits text lead code date = date
by_name Raw digits text lead code date = 0
by_name NotD digits text lead code date = text

-- 2, B, 3, M or 0, again and again, but a validity goes on with 2; D where it is the outer rule that leaves D out; of the shortest length
unfoldable pub witness_of : Row → Row → Sample
witness_of i o = record {
  length = shortest_of i.lengths;
  first = cond (eqb (number_of o.rule) 7) 0x44 (by_name i.rule 0x32 0x42 0x33 0x4D 0x30);
  rest = cond (eqb (number_of o.rule) 7) 0x44 (by_name i.rule 0x32 0x42 0x33 0x4D 0x32);
}

-- the value that a witness stands for
abbrev pub value_of : Sample → List ℕ
value_of w = w.first ∷ replicate (w.length - 1) w.rest
