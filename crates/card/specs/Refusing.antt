-- What a record is refused with: 20, 2, 22, 3, row by row 6, 7, 9, 10, then 11, then 4.
use Rattle.std.specs.Prelude.{ℕ, ◌&&◌, List, [], ◌∷◌, map, length, eqb, leb}
use Rattle.edition.specs.declared.Edition.{Edition}
use Rattle.edition.specs.Rows.{formed_of}
use Rattle.card.specs.declared.Refusal.{Refusal}
use Rattle.card.specs.Content.{Content}
use Rattle.card.specs.Refusals.{refuse, refuse_length, none, gate, or_else, size_refusal, bad_row}
use Rattle.card.specs.Layout.{template_length, objects_of}
use Rattle.card.specs.Rules.{Entry, object_rows, Fault, met, missing, length-out, byte-out, value_out, fault, first_allowed, last_allowed}
use Rattle.card.specs.Sums.{sums_refusal, nowhere}

-- the place is 0, but with 9 the index within the value
unfoldable pub row_refusal : Entry → Fault → Refusal
row_refusal r met = none
row_refusal r missing = refuse 6 0 r.tag
row_refusal r length-out = refuse_length 0 r.tag r.row.lengths
row_refusal r (byte-out i) = refuse 9 i r.tag
row_refusal r value_out = refuse 10 0 r.tag

-- 6, 7, 9, 10, row by row
unfoldable pub rows_refusal : List Entry → List (List ℕ) → Refusal
rows_refusal [] vs = none
rows_refusal (r ∷ rs) [] = or_else (row_refusal r (fault r.row [])) (rows_refusal rs [])
rows_refusal (r ∷ rs) (v ∷ vs) = or_else (row_refusal r (fault r.row v)) (rows_refusal rs vs)

-- 3: address 0, then the last byte
unfoldable pub ends_refusal : ℕ → ℕ → Refusal
ends_refusal first last = gate (first_allowed first) (refuse 3 0 0) (gate (last_allowed first last) (refuse 3 0 0) none)

-- 4: the template's length
unfoldable pub template_refusal : Content → Refusal
template_refusal c = gate (leb 70 (template_length (objects_of c)) && leb (template_length (objects_of c)) 212) (refuse 4 0 0) none

-- 22: the numbers of edition and record differ
unfoldable pub number_refusal : ℕ → ℕ → Refusal
number_refusal edition number = gate (eqb number edition) (refuse 22 0 0) none

-- what a content is refused with under a well-formed edition
unfoldable pub content_refusal : Edition → Content → Refusal
content_refusal e c =
    or_else (ends_refusal c.first c.last)
    (or_else (rows_refusal (object_rows e) c.values)
    (or_else (sums_refusal nowhere (map length c.values))
    (template_refusal c)))

-- what an edition refuses of a content, whatever number stands beside it
unfoldable pub edition_refusal : Edition → Content → Refusal
edition_refusal e c = or_else (bad_row (formed_of e)) (content_refusal e c)

-- what a content with a number is refused with, in a buffer of n bytes
unfoldable pub write_refusal : Edition → ℕ → Content → ℕ → Refusal
write_refusal e number c n =
    or_else (size_refusal 20 n)
    (or_else (bad_row (formed_of e))
    (or_else (number_refusal e.number number)
    (content_refusal e c)))
