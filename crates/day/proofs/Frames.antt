-- What the checks of a file's length, count and trailer find. Assumes nothing.
use Prim.Native.Nat.{ℕ, ◌+◌, ◌-◌, ◌*◌, ◌≤◌, ◌<◌}
use native.Mathlib.Omega.{arith}
use borrow.Author.Tests.{le-leb, lt-leb, eq-eqb, ne_eqb, leb-true, eqb-true}
use mathlib.Core.Path.{◌≡◌, sym, ap, ◌∙◌}
use mathlib.Core.Bool.{true, false, ◌&&◌}
use mathlib.Core.List.{List, ◌++◌}
use lib.Dec.{leb, eqb}
use lib.ListN.{length, take, drop}
use lib.Seq.{sets}
use Rattle.ground.proofs.Lists.{and_left, and_right}
use Rattle.ground.proofs.Pieces.{to_end}
use Rattle.ground.specs.Lists.{same_list}
use Rattle.day.specs.Files.{count_in, index_in, size_of, most_cards, trailer, fits, closed}

module _ (s : List ℕ) where
  pub too_short : length s < 8 → fits s ≡ false
  unfolding fits
  too_short h = rw (lt-leb 8 (length s) h)

  pub too_many : 8 ≤ length s → 200 < count_in s → fits s ≡ false
  unfolding fits
  too_many h k = rw (le-leb 8 (length s) h, lt-leb (count_in s) 200 k)

  pub other_size : 8 ≤ length s → count_in s ≤ 200 → (length s ≡ size_of (count_in s) → ⊥) → fits s ≡ false
  unfolding fits
  other_size h k n = rw (le-leb 8 (length s) h, le-leb (count_in s) 200 k, ne_eqb (length s) (size_of (count_in s)) n)

  pub by_trailer : 8 ≤ length s → count_in s ≤ 200 → length s ≡ size_of (count_in s)
      → fits s ≡ same_list (drop (count_in s * 270) s) (trailer (count_in s) (index_in s))
  unfolding fits
  by_trailer h k n = rw (le-leb 8 (length s) h, le-leb (count_in s) 200 k, eq-eqb (length s) (size_of (count_in s)) n)

  -- the same, of the parts as they are lent
  pub by_trailer_lent : (n : ℕ) (t : List ℕ) → n ≡ count_in s → t ≡ trailer n (take (n * 270 - n * 256) (drop (n * 256) s)) → 8 ≤ length s → n ≤ 200 → length s ≡ n * 270 + 8
      → same_list (take (length s - n * 270) (drop (n * 270) s)) t ≡ fits s
  by_trailer_lent n t e f h k m =
      let d : n * 270 - n * 256 ≡ n * 14 = omega arith in
      ap (λ (x : List ℕ). same_list x t) (to_end s (n * 270))
      ∙ ap (same_list (drop (n * 270) s)) (f ∙ ap (λ (x : ℕ). trailer n (take x (drop (n * 256) s))) d)
      ∙ ap (λ (x : ℕ). same_list (drop (x * 270) s) (trailer x (take (x * 14) (drop (x * 256) s)))) e
      ∙ sym (by_trailer h (omega arith) (omega arith))

-- what fits
pub record Framed (s : List ℕ) : Type 0 where
  pub least : 8 ≤ length s
  pub most : count_in s ≤ 200
  pub size : length s ≡ count_in s * 270 + 8
  pub trail : same_list (drop (count_in s * 270) s) (trailer (count_in s) (index_in s)) ≡ true

pub framed : (s : List ℕ) → fits s ≡ true → Framed s
unfolding fits
framed s t =
    let a = leb 8 (length s) in
    let b = leb (count_in s) most_cards in
    let d = eqb (length s) (size_of (count_in s)) in
    let e = same_list (drop (count_in s * 270) s) (trailer (count_in s) (index_in s)) in
    let t1 = and_right a (b && (d && e)) t in
    let t2 = and_right b (d && e) t1 in
    record {
      least = leb-true 8 (length s) (and_left a (b && (d && e)) t);
      most = leb-true (count_in s) 200 (and_left b (d && e) t1);
      size = eqb-true (length s) (size_of (count_in s)) (and_left d e t2);
      trail = and_right d e t2;
    }

-- what is closed
module _ (n : ℕ) (index room : List ℕ) where
  pub closed_many : 200 < n → room ≡ closed n index room
  unfolding closed
  closed_many h = rw (lt-leb n 200 h)

  pub closed_odd : n ≤ 200 → (length index ≡ n * 14 → ⊥) → room ≡ closed n index room
  unfolding closed
  closed_odd h k = rw (le-leb n 200 h, ne_eqb (length index) (n * 14) k)

  pub closed_small : n ≤ 200 → length index ≡ n * 14 → length room < n * 270 + 8 → room ≡ closed n index room
  unfolding closed
  closed_small h k l = rw (le-leb n 200 h, eq-eqb (length index) (n * 14) k, lt-leb (n * 270 + 8) (length room) l)

  pub closed_right : n ≤ 200 → length index ≡ n * 14 → n * 270 + 8 ≤ length room → closed n index room ≡ sets room (n * 256) (index ++ trailer n index)
  unfolding closed
  closed_right h k l = rw (le-leb n 200 h, eq-eqb (length index) (n * 14) k, le-leb (n * 270 + 8) (length room) l)
