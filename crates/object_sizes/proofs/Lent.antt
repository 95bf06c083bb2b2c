-- An object of 479 lent bytes: its 29 bytes, its length and its value. Assumes nothing.
use Prim.Native.Nat.{ℕ, ◌+◌, ◌-◌, ◌*◌, ◌≤◌, ◌<◌}
use native.Mathlib.Nat.{add-zero}
use native.Mathlib.Omega.{arith}
use mathlib.Core.Path.{◌≡◌, sym, ap, ◌∙◌}
use mathlib.Core.List.{List, []}
use lib.ListN.{length, get_or, take, drop, length-drop}
use lib.Seq.{length-take-le, get_or-take, get_or-drop}
use Rattle.card.specs.declared.Object.{Object}
use Rattle.card.specs.Content.{value_of, content_of, no_object}
use Rattle.wire_records.specs.Records.{object_from, lent_record}
use Rattle.wire_records.proofs.Parts.{lent_object}
use Rattle.object_sizes.proofs.Items.{value_long, value_first, value_at_lem}

-- 29 bytes are an object of 28
pub held_from : (bs : List ℕ) → length bs ≡ 29 → length (object_from bs).bytes ≡ 28
held_from bs n = omega (arith, length-drop 1 bs)

-- a value of 29 bytes is as long as the first byte says
pub long_from : (bs : List ℕ) → length bs ≡ 29 → get_or bs 0 0 ≤ 255 → length (value_of (object_from bs)) ≡ get_or bs 0 0
long_from bs n h = value_long (object_from bs) (held_from bs n) h

module _ (bs : List ℕ) (n : length bs ≡ 479) (i : ℕ) (h : i < 16) where
  pub part_long : length (take 29 (drop (14 + i * 29) bs)) ≡ 29
  part_long = length-take-le 29 (drop (14 + i * 29) bs) (omega (arith, length-drop (14 + i * 29) bs))

  pub first_of_part : get_or (take 29 (drop (14 + i * 29) bs)) 0 0 ≡ get_or bs (14 + i * 29) 0
  first_of_part = get_or-take 29 (drop (14 + i * 29) bs) 0 0 (omega arith) ∙ get_or-drop (14 + i * 29) bs 0 0 ∙ ap (λ (x : ℕ). get_or bs x 0) (add-zero (14 + i * 29))

  -- the length of the i-th value stands in front of it
  pub lent_length : get_or bs (14 + i * 29) 0 ≤ 255 → get_or bs (14 + i * 29) 0 ≡ length (get_or (content_of (lent_record bs)).values i [])
  lent_length byte =
      let first = first_of_part in
      let long = long_from (take 29 (drop (14 + i * 29) bs)) part_long (omega arith) in
      sym (ap length (value_at_lem (lent_record bs) i) ∙ ap (λ (o : Object). length (value_of o)) (lent_object bs n i h) ∙ long ∙ first)

-- the value is the part behind the first byte, up to the length
pub value_part : (bs : List ℕ) → length bs ≡ 29 → get_or bs 0 0 ≤ 28 → take (get_or bs 0 0 + 1 - 1) (drop 1 bs) ≡ value_of (object_from bs)
value_part bs n h =
    let same : get_or bs 0 0 + 1 - 1 ≡ get_or bs 0 0 = omega arith in
    ap (λ (k : ℕ). take k (drop 1 bs)) same ∙ sym (value_first (object_from bs) (omega (arith, held_from bs n)))

-- the i-th object of 479 bytes is that of its 29 bytes
pub object_part : (bs : List ℕ) → length bs ≡ 479 → (i : ℕ) → i < 16 → object_from (take (14 + i * 29 + 29 - (14 + i * 29)) (drop (14 + i * 29) bs)) ≡ get_or (lent_record bs).objects i no_object
object_part bs n i h =
    let same : 14 + i * 29 + 29 - (14 + i * 29) ≡ 29 = omega arith in
    ap (λ (k : ℕ). object_from (take k (drop (14 + i * 29) bs))) same ∙ sym (lent_object bs n i h)
