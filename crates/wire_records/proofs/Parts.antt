-- The parts of 479 lent bytes: its ends, its objects one by one. Assumes nothing.
use Prim.Native.Nat.{ℕ, zero, suc, ◌+◌, ◌*◌, ◌<◌}
use native.Mathlib.Nat.{zero-mul, suc-mul, add_comm, le_of_suc-le-suc, not-suc-le-zero}
use mathlib.Core.Path.{◌≡◌, ap, ◌∙◌}
use mathlib.Core.List.{List, []}
use lib.ListN.{length, get_or, take, drop, get_or-map}
use lib.Seq.{drop-drop}
use Rattle.card.specs.Content.{no_object}
use Rattle.ground.specs.Pieces.{pieces}
use Rattle.wire_records.specs.Records.{object_from, record_from, lent_record}
use Rattle.wire_records.proofs.Sizes.{lent_record_lem}

-- ---- one piece
piece_at : (size n : ℕ) (bs : List ℕ) (i : ℕ) → i < n → get_or (pieces size n bs) i [] ≡ take size (drop (i * size) bs)
unfolding pieces
piece_at size zero bs i h = absurd (not-suc-le-zero h)
piece_at size (suc n) bs zero h = rw (zero-mul)
piece_at size (suc n) bs (suc i) h =
    let at : size + i * size ≡ suc i * size = rw (suc-mul) (add_comm size (i * size)) in
    piece_at size n (drop size bs) i (le_of_suc-le-suc h) ∙ rw (drop-drop, at)

module _ (bs : List ℕ) (n : length bs ≡ 479) where
  pub lent_first : (lent_record bs).first ≡ get_or bs 0 0
  unfolding record_from
  lent_first = rw (lent_record_lem bs n)

  pub lent_free : (lent_record bs).free ≡ take 12 (drop 1 bs)
  unfolding record_from
  lent_free = rw (lent_record_lem bs n)

  pub lent_last : (lent_record bs).last ≡ get_or bs 13 0
  unfolding record_from
  lent_last = rw (lent_record_lem bs n)

  pub lent_number : (lent_record bs).number ≡ get_or bs 478 0
  unfolding record_from
  lent_number = rw (lent_record_lem bs n)

  pub lent_count : length (lent_record bs).objects ≡ 16
  unfolding record_from pieces
  lent_count = rw (lent_record_lem bs n)

  pub lent_object : (i : ℕ) → i < 16 → get_or (lent_record bs).objects i no_object ≡ object_from (take 29 (drop (14 + i * 29) bs))
  unfolding record_from
  lent_object i h =
      let same : take 29 (drop (i * 29) (drop 14 bs)) ≡ take 29 (drop (14 + i * 29) bs) = rw drop-drop in
      rw (lent_record_lem bs n) (get_or-map object_from (pieces 29 16 (drop 14 bs)) i [] ∙ ap object_from (piece_at 29 16 (drop 14 bs) i h ∙ same))
