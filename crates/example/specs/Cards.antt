-- A card that shows that one edition is not nested in another: as short as can be, and at the row told an object that shows it.
use Rattle.std.specs.Prelude.{ℕ, zero, suc, ◌+◌, ◌-◌, ◌%◌, Bool, false, cond, not, ◌&&◌, ◌||◌, List, [], ◌∷◌, ◌++◌, eqb, leb, ltb, get_or, set, replicate}
use Rattle.std.specs.Int.Bits.{bit_and, bit_xor}
use Rattle.rules.specs.declared.Rule.TheVariants.{Text}
use Rattle.edition.specs.declared.Row.{Row}
use Rattle.edition.specs.declared.Edition.{Edition}
use Rattle.edition.specs.Sets.{only}
use Rattle.edition.specs.Rows.{no_row}
use Rattle.nesting.specs.declared.Nesting.{Nesting}
use Rattle.nesting.specs.declared.Sample.{Sample}
use Rattle.nesting.specs.Decision.{number_of, nesting_of, witness_of}
use Rattle.card.specs.declared.Record.{Record}
use Rattle.card.specs.Content.{Content, record_of, empty_record}
use Rattle.card.specs.Layout.{objects_of, template_length}
use Rattle.choosing.specs.declared.Three.{Three}
use Rattle.choosing.specs.Choices.{chosen}

-- f of 0, of 1, and on, n of them
unfoldable pub listed : {A : Type 0} → ℕ → (ℕ → A) → List A
listed zero f = []
listed (suc n) f = listed n f ++ (f n ∷ [])

-- the lengths that the inner has and the outer has not
abbrev pub lacking : ℕ → ℕ → ℕ
lacking i o = bit_xor i (bit_and i o)

-- the rule that leaves D out: only the single D shows that a value is not taken by it
abbrev pub leaves_d : Row → Bool
leaves_d o = eqb (number_of o.rule) 7

-- the inner row where an object has to show the clause told: 1 a length that the outer lacks, 2 a value that it does not take, 3 absent
unfoldable pub narrow : ℕ → Row → Row → Row
narrow clause i o = record {
  required = not (eqb clause 3);
  rule = i.rule;
  lengths =
      cond (eqb clause 1) (lacking i.lengths o.lengths)
      (cond (eqb clause 3) 0 (cond (leaves_d o) (only 1) i.lengths));
}

-- the inner's rows, the one told narrowed
unfoldable pub rows_for : List Row → List Row → Nesting → List Row
rows_for is os n = set is n.row (narrow n.clause (get_or is n.row no_row) (get_or os n.row no_row))

-- the names, 84 to 86, and the town, 8A to 8C, stand in a sum
unfoldable pub grouped : ℕ → Bool
grouped k = (leb 6 k && leb k 8) || (leb 12 k && leb k 14)

-- the first row of the sum that row k stands in, or row k itself
unfoldable pub start_of : ℕ → ℕ
start_of k = cond (grouped k) (k - k % 3) k

-- a row that permits no length and requires nothing
abbrev pub plain_row : Row
plain_row = record { required = false; rule = Text; lengths = 0 }

-- the lengths of the three objects of a sum; of a row that stands in none two are absent
unfoldable pub three_at : Bool → List Row → ℕ → Three
three_at long rows k =
    cond (grouped k)
    (chosen long (ltb k 9) (get_or rows (start_of k) no_row) (get_or rows (start_of k + 1) no_row) (get_or rows (start_of k + 2) no_row))
    (chosen long false plain_row plain_row (get_or rows k no_row))

-- of three lengths that of row k
unfoldable pub place_of : ℕ → ℕ
place_of k = cond (grouped k) (k % 3) 2

unfoldable pub by_place : ℕ → Three → ℕ
by_place p t = cond (eqb p 0) t.first (cond (eqb p 1) t.second t.third)

-- as many bytes as can be where the first row of its sum, or the row itself, is one of the first `long` rows; else as few
unfoldable pub length_at : List Row → ℕ → ℕ → ℕ
length_at rows long k = by_place (place_of k) (three_at (ltb (start_of k) long) rows k)

-- the clause at the row told, and 4 elsewhere
unfoldable pub part_of : Nesting → ℕ → ℕ
part_of n k = cond (eqb k n.row) n.clause 4

-- a value of the inner rule: where it is a value that is to show the clause, one that the outer rule does not take
unfoldable pub sample_for : ℕ → Row → Row → Sample
sample_for part i o = cond (eqb part 2) (witness_of i o) (witness_of i plain_row)

-- so many bytes: the first, and then the others
unfoldable pub spelled : ℕ → ℕ → ℕ → List ℕ
spelled n first rest = cond (eqb n 0) [] (first ∷ replicate (n - 1) rest)

unfoldable pub at_most : ℕ → ℕ
at_most n = cond (ltb 28 n) 28 n

unfoldable pub value_for : ℕ → Row → Row → ℕ → List ℕ
value_for part i o n = spelled (at_most n) (sample_for part i o).first (sample_for part i o).rest

abbrev pub value_at : List Row → List Row → List Row → Nesting → ℕ → ℕ → List ℕ
value_at is os rows n long k = value_for (part_of n k) (get_or is k no_row) (get_or os k no_row) (length_at rows long k)

unfoldable pub values_of : List Row → List Row → Nesting → ℕ → List (List ℕ)
values_of is os n long = listed 16 (value_at is os (rows_for is os n) n long)

unfoldable pub card_of : Edition → Edition → Nesting → ℕ → Content
card_of i o n long = record { first = 0x92; free = replicate 12 0; last = 0; values = values_of i.rows o.rows n long }

-- whether a template has its 70 bytes with so many long rows
unfoldable pub enough : Edition → Edition → Nesting → ℕ → Bool
enough i o n long = leb 70 (template_length (objects_of (card_of i o n long)))

-- of k and what follows the first that will do; the one m further on where none before it does
unfoldable pub first_from : (ℕ → Bool) → ℕ → ℕ → ℕ
first_from f zero k = k
first_from f (suc m) k = cond (f k) k (first_from f m (suc k))

-- as few long rows as are enough, and all 16 where none are
unfoldable pub chosen_card : Edition → Edition → Nesting → Content
chosen_card i o n = card_of i o n (first_from (enough i o n) 16 0)

-- the empty record where no row of an object is told
unfoldable pub example_of : Edition → Edition → Record
example_of i o = cond (leb 16 (nesting_of i o).row) empty_record (record_of i.number (chosen_card i o (nesting_of i o)))
