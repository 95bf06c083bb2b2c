-- The filler and the last bytes, part by part. Assumes nothing.
use Prim.Native.Nat.{ℕ, zero, suc, ◌+◌, ◌-◌, ◌≤◌, ◌<◌}
use native.Mathlib.Nat.{add-zero}
use native.Mathlib.Omega.{arith}
use mathlib.Core.Path.{◌≡◌, refl, sym, ap, ◌∙◌}
use mathlib.Core.List.{List, ◌∷◌, ◌++◌}
use lib.ListN.{length, get_or, take, drop, replicate, length-take, length-drop, length-replicate}
use lib.Seq.{get_or-drop}
use Rattle.ground.specs.Lists.{agree}
use Rattle.ground.proofs.Lists.{agree_within}
use Rattle.lengths.specs.Lengths.{length_field}
use Rattle.card.specs.Layout.{spaces, lasts, filler}
use Rattle.card.proofs.Room.{room}
use Rattle.ground.proofs.Runs.{agree_short, agree_over, agree_none, agree_all, part_stops, part_passes, part_to_end}
use Rattle.card.specs.Frame.{tail_part}
use borrow.Author.Tests.{eq-eqb, ne_eqb, le-leb, lt-leb}
use Rattle.frame.specs.Checks.{same_tail, same_in, tail_from}

-- a part behind a template, its n spaces beginning at `start`
pub record Placed (p : List ℕ) (n start : ℕ) : Type 0 where
  pub least : 3 ≤ length p
  pub most : length p ≤ 256
  pub n_is : n ≡ spaces (length p - 1)
  pub start_is : start ≡ 1 + length (length_field n)

pub record Sizes (p : List ℕ) (n start : ℕ) : Type 0 where
  pub small : n ≤ 255
  pub lead : start ≤ 3
  pub some : start + n < length p
  pub ends : start + n + lasts (length p - 1) ≡ length p
  pub two : lasts (length p - 1) ≤ 2

pub sizes : (p : List ℕ) (n start : ℕ) → Placed p n start → Sizes p n start
sizes p n start w =
    let l = w.least in
    let m = w.most in
    let r = room (length p - 1) (omega arith) (omega arith) in
    let f = ap (λ (x : ℕ). length (length_field x)) w.n_is in
    record {
      small = omega (arith, r.small, w.n_is);
      lead = omega (arith, r.field, w.start_is);
      some = omega (arith, r.some, r.whole, w.n_is, w.start_is);
      ends = omega (arith, r.whole, w.n_is, w.start_is);
      two = r.two;
    }

abbrev last_of : List ℕ → ℕ
last_of p = get_or p (length p - 1) 0

abbrev ends_of : List ℕ → List ℕ
ends_of p = replicate (lasts (length p - 1)) (last_of p)

module _ (p : List ℕ) (n start : ℕ) (w : Placed p n start) {m : ℕ} (led : m ≡ agree (0xC0 ∷ length_field n) p) where
  filler_is : filler (length p - 1) (last_of p) ≡ (0xC0 ∷ length_field n) ++ (replicate n 0x20 ++ ends_of p)
  unfolding filler
  filler_is = rw w.n_is

  pub lead_stops : m < start → m ≡ same_tail p
  lead_stops h = rw (filler_is) (led ∙ sym (agree_short (0xC0 ∷ length_field n) (replicate n 0x20 ++ ends_of p) p (omega (arith, w.start_is))))

  module _ (passed : start ≤ m) where
    at-spaces : same_tail p ≡ start + agree (replicate n 0x20 ++ ends_of p) (drop start p)
    at-spaces =
        let same : start ≡ length (0xC0 ∷ length_field n) = omega (arith, w.start_is) in
        rw (filler_is, same) (agree_over (0xC0 ∷ length_field n) (replicate n 0x20 ++ ends_of p) p (omega arith))

    module _ {r : ℕ} (ran : r ≡ agree (replicate (length (take (start + n - start) (drop start p))) 0x20) (take (start + n - start) (drop start p))) where
      counted : r ≡ agree (replicate n 0x20) (take (start + n - start) (drop start p))
      counted =
          let z = (sizes p n start w).some in
          let long : length (take (start + n - start) (drop start p)) ≡ n = simp (length-take, length-drop) (omega arith) in
          rw long at ran

      pub spaces_stop : r < n → start + r ≡ same_tail p
      spaces_stop h =
          let l = length-replicate {A = ℕ} n 0x20 in
          part_stops p start (start + n - start) (replicate n 0x20) (ends_of p) counted (omega arith) (omega arith) ∙ sym at-spaces

      at-ends : n ≤ r → same_tail p ≡ start + n + agree (ends_of p) (drop (start + n) p)
      at-ends h =
          let l = length-replicate {A = ℕ} n 0x20 in
          at-spaces ∙ rw l at (part_passes p start (start + n - start) (replicate n 0x20) (ends_of p) counted (omega arith) (omega arith))

      pub ends_differ : n ≤ r → (get_or p (start + n) 0 ≡ last_of p → ⊥) → start + n ≡ same_tail p
      ends_differ h d =
          let z = sizes p n start w in
          let here = get_or-drop (start + n) p 0 0 ∙ ap (λ (x : ℕ). get_or p x 0) (add-zero (start + n)) in
          let none = agree_none (lasts (length p - 1)) (last_of p) (drop (start + n) p) (λ e. d (sym here ∙ e)) in
          omega (arith, at-ends h)

      pub ends_same : n ≤ r → get_or p (start + n) 0 ≡ last_of p → length p ≡ same_tail p
      ends_same h e =
          let z = sizes p n start w in
          let all = agree_all (lasts (length p - 1)) (last_of p) (drop (start + n) p) (simp length-drop (omega (arith, z.ends))) (λ i l. get_or-drop (start + n) p i 0 ∙ each z i l) in
          omega (arith, at-ends h, z.ends)
        where
          each : Sizes p n start → (i : ℕ) → i < lasts (length p - 1) → get_or p (start + n + i) 0 ≡ last_of p
          each z zero l = ap (λ (x : ℕ). get_or p x 0) (add-zero (start + n)) ∙ e
          each z (suc i) l = ap (λ (x : ℕ). get_or p x 0) (omega (arith, z.ends, z.two))

-- ---- the part behind a template that ends at `end`
module _ (s : List ℕ) (end : ℕ) (long : length s ≡ 256) (most : end ≤ 253) where
  tail-found : end + same_tail (drop end s) ≡ tail_from s end
  unfolding tail_from
  tail-found =
      let size : length (drop end s) - 1 ≡ 255 - end = rw (length-drop, long) (omega arith) in
      let place : end + (255 - end) ≡ 255 = omega arith in
      let last : get_or (drop end s) (255 - end) 0 ≡ get_or s 255 0 = get_or-drop end s (255 - end) 0 ∙ ap (λ (x : ℕ). get_or s x 0) place in
      rw (size, last)

  -- as the answer has it
  pub tail_counted : (n : ℕ) → n ≡ same_in (take (length s - end) (drop end s)) → end + n ≡ tail_from s end
  unfolding same_in
  tail_counted n e =
      let l = length-drop end s in
      let lo : 3 ≤ length (drop end s) = omega arith in
      let hi : length (drop end s) ≤ 256 = omega arith in
      let is : n ≡ same_tail (drop end s) = rw (part_to_end end s, le-leb 3 _ lo, le-leb _ 256 hi) at e in
      rw is tail-found

  pub tail_most : tail_from s end ≤ 256
  unfolding tail_from
  tail_most = omega (arith, agree_within (filler (255 - end) (get_or s 255 0)) (drop end s), length-drop end s)

-- ---- in which part a byte lies, where n spaces begin at `start`
module _ (t at n start : ℕ) (counted : n ≡ spaces t) (led : start ≡ 1 + length (length_field n)) where
  field-before : 1 + length (length_field (spaces t)) ≡ start
  field-before = sym (led ∙ ap (λ (m : ℕ). 1 + length (length_field m)) counted)

  pub in_tag : at ≡ 0 → 14 ≡ tail_part t at
  unfolding tail_part
  in_tag e = rw (eq-eqb at 0 e) refl

  pub in_length : (at ≡ 0 → ⊥) → at < start → 15 ≡ tail_part t at
  unfolding tail_part
  in_length some h = rw (ne_eqb at 0 some, le-leb at (length (length_field (spaces t))) (omega (arith, field-before))) refl

  pub in_spaces : (at ≡ 0 → ⊥) → start ≤ at → at < start + n → 16 ≡ tail_part t at
  unfolding tail_part
  in_spaces some past h =
      rw (
        ne_eqb at 0 some,
        lt-leb at (length (length_field (spaces t))) (omega (arith, field-before)),
        le-leb at (length (length_field (spaces t)) + spaces t) (omega (arith, field-before, counted)),
      ) refl

  pub in_last : (at ≡ 0 → ⊥) → start + n ≤ at → 17 ≡ tail_part t at
  unfolding tail_part
  in_last some h =
      rw (
        ne_eqb at 0 some,
        lt-leb at (length (length_field (spaces t))) (omega (arith, field-before)),
        lt-leb at (length (length_field (spaces t)) + spaces t) (omega (arith, field-before, counted)),
      ) refl
