-- A table is 103 bytes: for each row required (0 or 1), rule (0 to 7), and the lengths in four bytes, high first; then the edition's number.
use Rattle.std.specs.Prelude.{ℕ, ◌/◌, ◌%◌, ◌^◌, cond, ◌&&◌, List, [], ◌∷◌, ◌++◌, map, eqb, leb, length, get_or, replicate}
use Rattle.edition.specs.declared.Row.{Row}
use Rattle.edition.specs.declared.Edition.{Edition}
use Rattle.edition.specs.Rows.{no_row}
use Rattle.ground.specs.Pieces.{four_bytes, pieces, joined}
-- 0 digits, 1 text, 2 lead, 3 code, 4 birth, 5 expiry, 6 raw, 7 text other than the single letter D
pub use Rattle.nesting.specs.Decision.{number_of, rules, rule_of}

-- a row of six bytes; one with another byte in its first two is not well formed: its set is empty
unfoldable pub row_from : List ℕ → Row
row_from bs = record {
  required = eqb (get_or bs 0 0) 1;
  rule = rule_of (get_or bs 1 0);
  lengths = cond (leb (get_or bs 0 0) 1 && leb (get_or bs 1 0) 7) (four_bytes (get_or bs 2 0) (get_or bs 3 0) (get_or bs 4 0) (get_or bs 5 0)) 0;
}

unfoldable pub edition_from : List ℕ → Edition
edition_from bs = record { rows = map row_from (pieces 6 17 bs); number = get_or bs 102 0 }

-- a table of another size gives an edition with no good row
abbrev pub no_edition : Edition
no_edition = record { rows = replicate 17 no_row; number = 0 }

unfoldable pub lent_edition : List ℕ → Edition
lent_edition bs = cond (eqb (length bs) 103) (edition_from bs) no_edition

-- the bytes of a row, and of an edition
unfoldable pub row_bytes : Row → List ℕ
row_bytes r =
    cond r.required 1 0 ∷ number_of r.rule
    ∷ (r.lengths / 2 ^ 24) ∷ (r.lengths / 2 ^ 16 % 256) ∷ (r.lengths / 2 ^ 8 % 256) ∷ (r.lengths % 256) ∷ []

unfoldable pub table_bytes : Edition → List ℕ
table_bytes e = joined row_bytes e.rows ++ (e.number ∷ [])

-- a room of another size is left as it is
unfoldable pub table_room : Edition → List ℕ → List ℕ
table_room e room = cond (eqb (length room) 103) (table_bytes e) room
