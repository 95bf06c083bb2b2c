-- An edition comes back from its bytes. Assumes nothing.
use Prim.Native.Nat.{ℕ, ◌/◌, ◌%◌, ◌^◌}
use native.Mathlib.Omega.{arith}
use mathlib.Core.Path.{◌≡◌, refl, ap₂, ◌∙◌}
use mathlib.Core.Bool.{Bool, true, false, cond}
use mathlib.Core.List.{List, [], ◌∷◌}
use lib.Dec.{eqb, leb}
use lib.ListN.{length}
use Rattle.rules.specs.declared.Rule.{Rule}
use Rattle.rules.specs.declared.Rule.TheVariants.{Digits, Text, Lead, Code, Birth, Expiry, Raw, NotD}
use Rattle.edition.specs.declared.Row.{Row}
use Rattle.edition.specs.declared.Edition.{Edition}
use lib.Seq.{get_or_at}
use Rattle.ground.specs.Pieces.{four_bytes, joined}
use Rattle.ground.proofs.Pieces.{Each, none_left, one_more, pieces_back, joined_length}
use Rattle.wire_tables.specs.Tables.{number_of, rule_of, row_from, edition_from, row_bytes, table_bytes}

four_back : (n : ℕ) → four_bytes (n / 2 ^ 24) (n / 2 ^ 16 % 256) (n / 2 ^ 8 % 256) (n % 256) ≡ n
four_back n = omega arith

required_back : (b : Bool) → (eqb (cond b 1 0) 1 ≡ b) × (leb (cond b 1 0) 1 ≡ true)
required_back true = (refl, refl)
required_back false = (refl, refl)

rule_back : (rule : Rule) → (rule_of (number_of rule) ≡ rule) × (leb (number_of rule) 7 ≡ true)
rule_back Digits = (refl, refl)
rule_back Text = (refl, refl)
rule_back Lead = (refl, refl)
rule_back Code = (refl, refl)
rule_back Birth = (refl, refl)
rule_back Expiry = (refl, refl)
rule_back Raw = (refl, refl)
rule_back NotD = (refl, refl)

row_back : (r : Row) → row_from (row_bytes r) ≡ r
unfolding row_from row_bytes
row_back r = rw ((required_back r.required).0, (required_back r.required).1, (rule_back r.rule).0, (rule_back r.rule).1, four_back)

rows_six : (rs : List Row) → Each row_bytes 6 rs
unfolding row_bytes
rows_six [] = none_left
rows_six (r ∷ rs) = one_more refl (rows_six rs)

pub edition_back : (e : Edition) → length e.rows ≡ 17 → edition_from (table_bytes e) ≡ e
unfolding edition_from table_bytes
edition_back e n =
    let long : length (joined row_bytes e.rows) ≡ 102 = joined_length row_bytes 6 (rows_six e.rows) ∙ rw n refl in
    ap₂ (λ (rs : List Row) (number : ℕ). record { rows = rs; number = number })
    (rw n at (pieces_back row_bytes row_from 6 row_back (rows_six e.rows) (e.number ∷ [])))
    (get_or_at (joined row_bytes e.rows) e.number [] 0 102 long)
