-- Rows that refuse nothing are met. Assumes nothing.
use mathlib.Core.Path.{◌≡◌, refl}
use mathlib.Core.List.{List, [], ◌∷◌}
use Prim.Native.Nat.{ℕ, zero, suc, ◌<◌}
use native.Mathlib.Nat.{le_of_suc-le-suc, not-suc-le-zero}
use native.Mathlib.Omega.{arith}
use lib.ListN.{length, get_or}
use Rattle.card.specs.Rules.{Entry, RowMet, Fault, met, missing, length-out, byte-out, value_out, fault}
use Rattle.card.specs.Refusing.{row_refusal, rows_refusal}
use Rattle.card.proofs.Chains.{neither}
use Rattle.card.proofs.Walks.{met_fault}

pub row_in : (r : Entry) (v : List ℕ) (f : Fault) → fault r.row v ≡ f → (row_refusal r f).number ≡ 0 → RowMet r.row v
unfolding row_refusal
row_in r v met e h = met_fault r.row v e
row_in r v missing e h = absurd (omega arith)
row_in r v length-out e h = absurd (omega arith)
row_in r v (byte-out i) e h = absurd (omega arith)
row_in r v value_out e h = absurd (omega arith)

-- the k-th row, where a value that is not there is absent
pub row_met : (rs : List Entry) (vs : List (List ℕ)) (k : ℕ) (d : Entry) → k < length rs → (rows_refusal rs vs).number ≡ 0 → RowMet (get_or rs k d).row (get_or vs k [])
unfolding rows_refusal
row_met [] vs k d h z = absurd (not-suc-le-zero h)
row_met (r ∷ rs) [] zero d h z = row_in r [] _ refl (neither (row_refusal r (fault r.row [])) (rows_refusal rs []) z).first
row_met (r ∷ rs) [] (suc k) d h z = row_met rs [] k d (le_of_suc-le-suc h) (neither (row_refusal r (fault r.row [])) (rows_refusal rs []) z).second
row_met (r ∷ rs) (v ∷ vs) zero d h z = row_in r v _ refl (neither (row_refusal r (fault r.row v)) (rows_refusal rs vs) z).first
row_met (r ∷ rs) (v ∷ vs) (suc k) d h z = row_met rs vs k d (le_of_suc-le-suc h) (neither (row_refusal r (fault r.row v)) (rows_refusal rs vs) z).second
