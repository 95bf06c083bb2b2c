-- The seventeen rows: their tags, and when a table of rows is well formed.
use Rattle.std.specs.Prelude.{ℕ, suc, ◌%◌, ◌^◌, Bool, false, cond, not, ◌&&◌, List, [], ◌∷◌, eqb, ltb, get_or}
use Rattle.rules.specs.declared.Rule.{Rule}
use Rattle.rules.specs.declared.Rule.TheVariants.{Digits, Text, Lead, Code, Birth, Expiry, Raw, NotD}
use Rattle.edition.specs.declared.Row.{Row}
use Rattle.edition.specs.declared.Edition.{Edition}
use Rattle.edition.specs.declared.Formed.{Formed}
use Rattle.edition.specs.declared.Formed.TheVariants.{Well, Bad, Unnumbered}
use Rattle.edition.specs.Sets.{only}

-- the tags in card order, '8E' last
unfoldable pub tags : List ℕ
tags = 0x80 ∷ 0x81 ∷ 0x8F ∷ 0x82 ∷ 0x83 ∷ 0x90 ∷ 0x84 ∷ 0x85 ∷ 0x86 ∷ 0x87 ∷ 0x88 ∷ 0x89 ∷ 0x8A ∷ 0x8B ∷ 0x8C ∷ 0x8D ∷ 0x8E ∷ []

abbrev pub tag_of : ℕ → ℕ
tag_of k = get_or tags k 0

-- what stands past the end of a list of rows
abbrev pub no_row : Row
no_row = record { required = false; rule = Digits; lengths = 0 }

-- each set is non-empty and within 1 to 28
abbrev pub set_formed : ℕ → Bool
set_formed lengths = ltb 0 lengths && eqb (lengths % 2) 0 && ltb lengths (2 ^ 29)

-- of four tests, the one that a rule asks for
abbrev pub by_rule : Rule → Bool → Bool → Bool → Bool → Bool
by_rule Digits plain birth expiry raw = plain
by_rule Text plain birth expiry raw = plain
by_rule Lead plain birth expiry raw = plain
by_rule Code plain birth expiry raw = plain
by_rule Birth plain birth expiry raw = birth
by_rule Expiry plain birth expiry raw = expiry
by_rule Raw plain birth expiry raw = raw
by_rule NotD plain birth expiry raw = plain

-- row 8E, the last, is required, {1}, raw, and no other row is raw; a birth row has {8}, an expiry row {4}
abbrev pub row_formed : Bool → Row → Bool
row_formed last r =
    set_formed r.lengths
    && by_rule r.rule (not last) (not last && eqb r.lengths (only 8)) (not last && eqb r.lengths (only 4))
    (last && r.required && eqb r.lengths (only 1))

-- the first bad row, of the rows from number k on
unfoldable pub formed_from : ℕ → List Row → Formed
formed_from k [] = Well
formed_from k (r ∷ rs) = cond (row_formed (eqb k 16) r) (formed_from (suc k) rs) (Bad k)

-- an edition numbered 0 is not well formed, which is told only if all its rows are right
abbrev pub and_number : ℕ → Formed → Formed
and_number number Well = cond (eqb number 0) Unnumbered Well
and_number number (Bad k) = Bad k
and_number number Unnumbered = Unnumbered

unfoldable pub formed_of : Edition → Formed
formed_of e = and_number e.number (formed_from 0 e.rows)

-- the answer in the document's numbers: 2 with the tag of the first bad row; tag 0 for the number
pub record ToldFormed : Type 0 where
  pub number : ℕ
  pub row : ℕ
  pub tag : ℕ

abbrev pub formed_told : Formed → ToldFormed
formed_told Well = record { number = 0; row = 0; tag = 0 }
formed_told (Bad k) = record { number = 2; row = k; tag = tag_of k }
formed_told Unnumbered = record { number = 2; row = 0; tag = 0 }
