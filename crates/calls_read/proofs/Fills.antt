-- The record of an image by its table of places: value after value, and what a refused image leaves. Assumes nothing.
use Prim.Native.Nat.{ℕ, ◌+◌, ◌-◌}
use native.Mathlib.Omega.{arith}
use borrow.Author.Tests.{eqb-true}
use mathlib.Core.Path.{◌≡◌, refl, ap, ◌∙◌}
use mathlib.Core.Bool.{Bool, true, false}
use mathlib.Core.List.{List, [], ◌∷◌, ◌++◌, map}
use lib.Dec.{eqb}
use lib.ListN.{length, get_or, take, drop, replicate}
use Rattle.ground.specs.Pieces.{pieces, joined}
use Rattle.card.specs.declared.Refusal.{Refusal}
use Rattle.card.specs.declared.Places.{Places}
use Rattle.card.specs.declared.Reading.{Reading}
use Rattle.card.specs.Content.{object_of, record_of, empty_record}
use Rattle.card.specs.Refusals.{refuse, gate}
use Rattle.card.specs.Reading.{reading}
use Rattle.card.specs.Places.{no_places, places}
use Rattle.reader_steps.specs.Steps.{values_at}
use Rattle.reader_steps.proofs.Copies.{value_at_lem}
use Rattle.reader_steps.proofs.Values.{Given, reads_refused, reads_accepted}
use Rattle.wire_tables.specs.Tables.{edition_from}
use Rattle.wire_records.specs.Records.{object_bytes, record_bytes}
use Rattle.calls_cards.specs.Calls.{value_bytes, table_reading}
use Rattle.calls_cards.specs.PlaceCalls.{table_places}

-- value k, as the code cuts it out
pub value_cut : (s st ls : List ℕ) (k : ℕ) → length st ≡ length ls → get_or (values_at s st ls) k [] ≡ take (get_or st k 0 + get_or ls k 0 - get_or st k 0) (drop (get_or st k 0) s)
value_cut s st ls k e =
    let n : get_or st k 0 + get_or ls k 0 - get_or st k 0 ≡ get_or ls k 0 = omega arith in
    value_at_lem s st ls k e ∙ rw n

pub values_joined : (vs : List (List ℕ)) → joined value_bytes vs ≡ joined object_bytes (map object_of vs)
unfolding joined
values_joined [] = refl
values_joined (v ∷ vs) = ap (λ (l : List ℕ). value_bytes v ++ l) (values_joined vs)

pub empty_bytes : replicate 479 0 ≡ record_bytes empty_record
unfolding record_bytes empty_record record_of object_of joined
empty_bytes = refl

-- ---- a reading under a table, by the places under it
abbrev refused_by : Refusal → Reading
refused_by x = record { refusal = x; content = empty_record }

module _ (t s : List ℕ) (p : Places) (is : p ≡ table_places t s) where
  pub fills_refused : (p.refusal.number ≡ 0 → ⊥) → refused_by p.refusal ≡ table_reading t s
  unfolding table_places table_reading gate no_places
  fills_refused h = go (eqb (length s) 256) (eqb (length t) 103) is
    where
      go : (q r : Bool) → p ≡ gate q (no_places (refuse 1 0 0)) (gate r (no_places (refuse 2 0 0)) (places (edition_from t) s))
          → refused_by p.refusal ≡ gate q (refused_by (refuse 1 0 0)) (gate r (refused_by (refuse 2 0 0)) (reading (edition_from t) s))
      go false r e = ap (λ (y : Places). refused_by y.refusal) e
      go true false e = ap (λ (y : Places). refused_by y.refusal) e
      go true true e = reads_refused (edition_from t) s p e h

  pub record Filled : Type 0 where
    pub size : length t ≡ 103
    pub given : Given (edition_from t) s p
    pub under : reading (edition_from t) s ≡ table_reading t s

  pub fills_accepted : p.refusal.number ≡ 0 → Filled
  unfolding table_places table_reading gate no_places edition_from pieces
  fills_accepted z = go (eqb (length s) 256) refl (eqb (length t) 103) refl is
    where
      go : (q : Bool) → eqb (length s) 256 ≡ q → (r : Bool) → eqb (length t) 103 ≡ r
          → p ≡ gate q (no_places (refuse 1 0 0)) (gate r (no_places (refuse 2 0 0)) (places (edition_from t) s)) → Filled
      go false a r b e = absurd (let k = ap (λ (y : Places). y.refusal.number) e in omega arith)
      go true a false b e = absurd (let k = ap (λ (y : Places). y.refusal.number) e in omega arith)
      go true a true b e = record { size = eqb-true _ _ b; given = reads_accepted (edition_from t) s p refl e z; under = rw (a, b) }
