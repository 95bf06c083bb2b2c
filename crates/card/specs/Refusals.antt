-- A refusal: number, place, tag, and with number 7 the ends of the row's length set.
use Rattle.std.specs.Prelude.{ℕ, Bool, true, false, cond, eqb}
use Rattle.edition.specs.declared.Formed.{Formed}
use Rattle.edition.specs.declared.Formed.TheVariants.{Well, Bad, Unnumbered}
use Rattle.edition.specs.Rows.{tag_of}
use Rattle.edition.specs.Sets.{shortest_of, longest_of}
use Rattle.card.specs.declared.Refusal.{Refusal}

abbrev pub refuse : ℕ → ℕ → ℕ → Refusal
refuse number place tag = record { number = number; place = place; tag = tag; shortest = 0; longest = 0 }

abbrev pub refuse_length : ℕ → ℕ → ℕ → Refusal
refuse_length place tag lengths = record { number = 7; place = place; tag = tag; shortest = shortest_of lengths; longest = longest_of lengths }

-- nothing is refused
abbrev pub none : Refusal
none = refuse 0 0 0

-- on with w where the test holds, else x
unfoldable pub gate : {A : Type 0} → Bool → A → A → A
gate true x w = w
gate false x w = x

-- the first of two refusals; the number of none is 0
unfoldable pub or_else : Refusal → Refusal → Refusal
or_else a b = cond (eqb a.number 0) b a

-- an image or a buffer of n bytes has not 256
abbrev pub size_refusal : ℕ → ℕ → Refusal
size_refusal number n = gate (eqb n 256) (refuse number 0 0) none

-- 2: the tag of the first bad row; 0 for an edition with no number
unfoldable pub bad_row : Formed → Refusal
bad_row Well = none
bad_row (Bad k) = refuse 2 0 (tag_of k)
bad_row Unnumbered = refuse 2 0 0
