-- A refusal is the fault with the lowest address, 51 first there and then 50, 53, 52; where nothing is refused there is no fault. Assumes nothing.
use mathlib.Core.Path.{◌≡◌, refl, sym, ap, ◌∙◌}
use Prim.Native.Nat.{ℕ, zero, suc, ◌+◌, ◌-◌, ◌≤◌, ◌<◌}
use native.Mathlib.Nat.{not-suc-le-zero, le_refl}
use native.Mathlib.Omega.{arith}
use mathlib.Core.Bool.{Bool, true, false}
use mathlib.Core.List.{List, [], ◌∷◌}
use borrow.Author.Tests.{lt-ltb, le-ltb, ltb-true, ltb-false, eqb-true, eqb-false, ne_eqb}
use lib.Dec.{eqb, ltb}
use Rattle.std.specs.Prelude.{Result}
use Rattle.lengths.specs.declared.Field.{Field}
use Rattle.lengths.specs.declared.FieldError.{FieldError}
use lib.ListN.{length, drop, take, length-drop}
use lib.Seq.{length-take-le}
use Rattle.lengths.specs.Lengths.{read, length_read, length_told}
use Rattle.tree.specs.Heads.{bad_tag, found, refuse, is_list, head_at}
use Rattle.tree.specs.Listing.{entry, Out, took, refused, above, before, and_then, listing}
use Rattle.tree.proofs.Listings.{list_none, list_more}
use Rattle.tree.specs.Faults.{Fault, bad-tag, too-deep, bad-field, too_long, inner, later, Before}
use Rattle.tree.proofs.Steps.{object_refused, object_plain, object_inner}
use Rattle.tree.specs.Trees.{Judged}
use Rattle.tree.proofs.Behind.{field_in, told_read, read_told}

-- a fault lies at the list's address or behind
from : {d at : ℕ} {s : List ℕ} {y q : ℕ} → Fault d at s y q → at ≤ q
from (bad-tag e i j) = omega arith
from (too-deep e i j) = omega arith
from (bad-field e i j) = omega arith
from (too_long n u e h i j) = omega arith
from (inner n u e h i f) = omega (arith, from f)
from (later n u e h f) = omega (arith, from f)

-- .. and before its end, or at the end where a length field is missing
pub record Ends (at : ℕ) (s : List ℕ) (y q : ℕ) : Type 0 where
  pub at_most : q ≤ at + length s
  pub within : (y ≡ 51 → ⊥) → q < at + length s

value_length : (b : ℕ) (r : List ℕ) (n u : ℕ) → u ≤ length r → n ≤ length (b ∷ r) - (u + 1) → length (take n (drop (u + 1) (b ∷ r))) ≡ n
value_length b r n u h g = length-take-le n (drop (u + 1) (b ∷ r)) (omega (arith, length-drop (u + 1) (b ∷ r)))

pub ends : {d at : ℕ} {s : List ℕ} {y q : ℕ} → Fault d at s y q → Ends at s y q
ends (bad-tag e i j) = record { at_most = omega arith; within = λ _. omega arith }
ends (too-deep e i j) = record { at_most = omega arith; within = λ _. omega arith }
ends (bad-field e i j) = record { at_most = omega arith; within = λ k. absurd (k i) }
ends (too_long n u e h i j) = record { at_most = omega arith; within = λ _. omega arith }
ends {d} {at} {s = b ∷ r} (inner n u e h i f) =
    let k = field_in r n u e in
    let l = value_length b r n u k.1 h in
    let w = ends f in
    record { at_most = omega (arith, w.at_most); within = λ g. omega (arith, w.within g) }
ends {d} {at} {s = b ∷ r} (later n u e h f) =
    let k = field_in r n u e in
    let l = length-drop (u + 1 + n) (b ∷ r) in
    let w = ends f in
    record { at_most = omega (arith, w.at_most); within = λ g. omega (arith, w.within g) }

never : {A : Type 0} → true ≡ false → A
never e = absurd (let z : ◌≡◌ {A = ℕ} 0 1 = cc in omega arith)

-- the head by its tests, and the faults that each leaves
module _ (d at b : ℕ) (r : List ℕ) where
  h50 : bad_tag b ≡ true → head_at (b ∷ r) at d ≡ refuse 50 at
  unfolding head_at
  h50 e = rw e

  first50 : (y q : ℕ) → Fault d at (b ∷ r) y q → Before 50 at y q
  first50 y q (bad-tag e i j) = record { lower = omega arith; first = λ _. rw i (omega arith) }
  first50 y q (too-deep e i j) = record { lower = omega arith; first = λ _. rw i (omega arith) }
  first50 y q (bad-field e i j) = record { lower = omega arith; first = λ h. absurd (omega arith) }
  first50 y q (too_long n u e h i j) = record { lower = omega arith; first = λ _. rw i (omega arith) }
  first50 y q (inner n u e h i f) = record { lower = omega (arith, from f); first = λ g. absurd (omega (arith, from f)) }
  first50 y q (later n u e h f) = record { lower = omega (arith, from f); first = λ g. absurd (omega (arith, from f)) }

  module _ (good : bad_tag b ≡ false) where
    h53 : 6 < d → head_at (b ∷ r) at d ≡ refuse 53 at
    unfolding head_at
    h53 e = rw (good, lt-ltb 6 d e)

    first53 : (y q : ℕ) → Fault d at (b ∷ r) y q → Before 53 at y q
    first53 y q (bad-tag e i j) = never (sym e ∙ good)
    first53 y q (too-deep e i j) = record { lower = omega arith; first = λ _. rw i (omega arith) }
    first53 y q (bad-field e i j) = record { lower = omega arith; first = λ h. absurd (omega arith) }
    first53 y q (too_long n u e h i j) = record { lower = omega arith; first = λ _. rw i (omega arith) }
    first53 y q (inner n u e h i f) = record { lower = omega (arith, from f); first = λ g. absurd (omega (arith, from f)) }
    first53 y q (later n u e h f) = record { lower = omega (arith, from f); first = λ g. absurd (omega (arith, from f)) }

    module _ (flat : d ≤ 6) where
      h51 : ((length_told (length_read r)).number ≡ 0 → ⊥) → head_at (b ∷ r) at d ≡ refuse 51 (at + 1)
      unfolding head_at
      h51 e = rw (good, le-ltb 6 d flat, ne_eqb (length_told (length_read r)).number 0 e)

      other : (n u : ℕ) → ((length_told (length_read r)).number ≡ 0 → ⊥) → length_read r ≡ read n u → ⊥
      other n u e f = e (read_told (length_read r) n u f)

      first51 : ((length_told (length_read r)).number ≡ 0 → ⊥) → (y q : ℕ) → Fault d at (b ∷ r) y q → Before 51 (at + 1) y q
      first51 k y q (bad-tag e i j) = never (sym e ∙ good)
      first51 k y q (too-deep e i j) = absurd (omega arith)
      first51 k y q (bad-field e i j) = record { lower = omega arith; first = λ _. rw i (omega arith) }
      first51 k y q (too_long n u e h i j) = absurd (other n u k e)
      first51 k y q (inner n u e h i f) = absurd (other n u k e)
      first51 k y q (later n u e h f) = absurd (other n u k e)

      module _ (n u : ℕ) (e : length_read r ≡ read n u) where
        same-n : (m v : ℕ) → length_read r ≡ read m v → (m ≡ n) × (v ≡ u)
        same-n m v f =
            let g : read n u ≡ read m v = sym e ∙ f in
            (sym (ap (λ (l : Result Field FieldError). (length_told l).length) g), sym (ap (λ (l : Result Field FieldError). (length_told l).used) g))

        h52 : length (b ∷ r) - (u + 1) < n → head_at (b ∷ r) at d ≡ refuse 52 at
        unfolding head_at
        h52 h = rw (good, le-ltb 6 d flat, e, lt-ltb (length (b ∷ r) - (u + 1)) n h)

        first52 : length (b ∷ r) - (u + 1) < n → (y q : ℕ) → Fault d at (b ∷ r) y q → Before 52 at y q
        first52 h y q (bad-tag e1 i j) = never (sym e1 ∙ good)
        first52 h y q (too-deep e1 i j) = absurd (omega arith)
        first52 h y q (bad-field e1 i j) = absurd (other n u e1 e)
        first52 h y q (too_long m v e1 h1 i j) = record { lower = omega arith; first = λ _. rw i (omega arith) }
        first52 h y q (inner m v e1 h1 i f) = let s = same-n m v e1 in absurd (omega arith)
        first52 h y q (later m v e1 h1 f) = let s = same-n m v e1 in absurd (omega arith)

        h-object : n ≤ length (b ∷ r) - (u + 1) → head_at (b ∷ r) at d ≡ found b (u + 1) n
        unfolding head_at
        h-object h = rw (good, le-ltb 6 d flat, e, le-ltb (length (b ∷ r) - (u + 1)) n h)

        -- a fault of an object that is fine itself lies in its value or behind it
        apart : {A : Type 0} (y q : ℕ) → n ≤ length (b ∷ r) - (u + 1)
            → (is_list b ≡ true → Fault (suc d) (at + (u + 1)) (take n (drop (u + 1) (b ∷ r))) y q → A)
            → (Fault d (at + (u + 1 + n)) (drop (u + 1 + n) (b ∷ r)) y q → A) → Fault d at (b ∷ r) y q → A
        apart y q h in-it behind-it (bad-tag e1 i j) = never (sym e1 ∙ good)
        apart y q h in-it behind-it (too-deep e1 i j) = absurd (omega arith)
        apart y q h in-it behind-it (bad-field e1 i j) = absurd (other n u e1 e)
        apart y q h in-it behind-it (too_long m v e1 h1 i j) = let s = same-n m v e1 in absurd (omega arith)
        apart y q h in-it behind-it (inner m v e1 h1 i f) = in-it i (rw ((same-n m v e1).0, (same-n m v e1).1) at f)
        apart y q h in-it behind-it (later m v e1 h1 f) = behind-it (rw ((same-n m v e1).0, (same-n m v e1).1) at f)

-- a fault inside comes before every fault behind
inside_first : (x p y q end : ℕ) → p ≤ end → ((x ≡ 51 → ⊥) → p < end) → end ≤ q → Before x p y q
inside_first x p y q end h g k = go (eqb x 51) refl
  where
    go : (t : Bool) → eqb x 51 ≡ t → Before x p y q
    go true e = record { lower = omega arith; first = λ _. rw e (omega arith) }
    go false e = let l : p < end = g (eqb-false x 51 e) in record { lower = omega arith; first = λ w. absurd (omega arith) }

some : {d at : ℕ} {s : List ℕ} {y q : ℕ} → Fault d at s y q → 0 < length s
some (bad-tag e i j) = omega arith
some (too-deep e i j) = omega arith
some (bad-field e i j) = omega arith
some (too_long n u e h i j) = omega arith
some (inner n u e h i f) = omega arith
some (later n u e h f) = omega arith

judged_none : (d at : ℕ) → Judged d at [] (listing d at [])
judged_none d at = rw (list_none d at) (λ y q f. absurd (not-suc-le-zero (some f)))

judged_refused : (d at b : ℕ) (r : List ℕ) (x p : ℕ) → head_at (b ∷ r) at d ≡ refuse x p → Fault d at (b ∷ r) x p
    → ((y q : ℕ) → Fault d at (b ∷ r) y q → Before x p y q) → Judged d at (b ∷ r) (listing d at (b ∷ r))
judged_refused d at b r x p e f first =
    let k : listing d at (b ∷ r) ≡ refused x p = list_more d at (b ∷ r) (omega arith) ∙ rw (object_refused d at (b ∷ r) x p e) in
    rw k (f, first)

module _ (d at b : ℕ) (r : List ℕ) (good : bad_tag b ≡ false) (flat : d ≤ 6) (n u : ℕ) (e : length_read r ≡ read n u) (h : n ≤ length (b ∷ r) - (u + 1)) where
  abbrev rest : List ℕ
  rest = drop (u + 1 + n) (b ∷ r)

  abbrev value : List ℕ
  value = take n (drop (u + 1) (b ∷ r))

  abbrev goes_on : ℕ → Out
  goes_on v = listing d (at + v) (drop v (b ∷ r))

  on-plain : is_list b ≡ false → (o : Out) → goes_on (u + 1 + n) ≡ o → Judged d (at + (u + 1 + n)) rest o
      → Judged d at (b ∷ r) (before (entry b d at n ∷ []) (u + 1 + n) o)
  on-plain leaf (took es m) k j = λ y q f. apart d at b r good flat n u e y q h (λ i g. never (sym i ∙ leaf)) (λ g. j y q g) f
  on-plain leaf (refused x p) k j =
      (later n u e h j.0, λ y q f. apart d at b r good flat n u e y q h (λ i g. never (sym i ∙ leaf)) (λ g. j.1 y q g) f)

  on-template : is_list b ≡ true → (o1 o2 : Out) → goes_on (u + 1 + n) ≡ o2 → Judged (suc d) (at + (u + 1)) value o1 → Judged d (at + (u + 1 + n)) rest o2
      → Judged d at (b ∷ r) (and_then (above (entry b d at n) (u + 1 + n) o1) goes_on)
  on-template node (took gs m) (took es k) a j1 j2 = rw a (λ y q f. apart d at b r good flat n u e y q h (λ i g. j1 y q g) (λ g. j2 y q g) f)
  on-template node (took gs m) (refused x p) a j1 j2 =
      rw a (later n u e h j2.0, λ y q f. apart d at b r good flat n u e y q h (λ i g. absurd (j1 y q g)) (λ g. j2.1 y q g) f)
  on-template node (refused x p) o2 a j1 j2 =
      let l = value_length b r n u (field_in r n u e).1 h in
      let w = ends j1.0 in (
        inner n u e h node j1.0,
        λ y q f. apart d at b r good flat n u e y q h (λ i g. j1.1 y q g)
            (λ g. inside_first x p y q (at + (u + 1 + n)) (omega (arith, w.at_most)) (λ v. omega (arith, w.within v)) (from g)) f,
      )

  judged-object : Judged (suc d) (at + (u + 1)) value (listing (suc d) (at + (u + 1)) value) → Judged d (at + (u + 1 + n)) rest (listing d (at + (u + 1 + n)) rest)
      → (q : Bool) → is_list b ≡ q → Judged d at (b ∷ r) (listing d at (b ∷ r))
  judged-object j1 j2 false leaf =
      rw (list_more d at (b ∷ r) (omega arith), object_plain d at (b ∷ r) b (u + 1) n (h-object d at b r good flat n u e h) leaf) (on-plain leaf (goes_on (u + 1 + n)) refl j2)
  judged-object j1 j2 true node =
      rw (list_more d at (b ∷ r) (omega arith), object_inner d at (b ∷ r) b (u + 1) n (h-object d at b r good flat n u e h) node)
      (on-template node (listing (suc d) (at + (u + 1)) value) (goes_on (u + 1 + n)) refl j1 j2)

-- the tests in turn
module _ (f d at b : ℕ) (r : List ℕ) (short : length r ≤ f) (all : (d at : ℕ) (s : List ℕ) → length s ≤ f → Judged d at s (listing d at s)) where
  by-long : bad_tag b ≡ false → d ≤ 6 → (n u : ℕ) → length_read r ≡ read n u → (q : Bool) → ltb (length (b ∷ r) - (u + 1)) n ≡ q → Judged d at (b ∷ r) (listing d at (b ∷ r))
  by-long good flat n u e true k =
      let h : length (b ∷ r) - (u + 1) < n = ltb-true (length (b ∷ r) - (u + 1)) n k in
      judged_refused d at b r 52 at (h52 d at b r good flat n u e h) (too_long n u e h refl refl) (first52 d at b r good flat n u e h)
  by-long good flat n u e false k =
      let h : n ≤ length (b ∷ r) - (u + 1) = ltb-false (length (b ∷ r) - (u + 1)) n k in
      let w = field_in r n u e in
      judged-object d at b r good flat n u e h
      (all (suc d) (at + (u + 1)) (take n (drop (u + 1) (b ∷ r))) (omega (arith, value_length b r n u w.1 h)))
      (all d (at + (u + 1 + n)) (drop (u + 1 + n) (b ∷ r)) (omega (arith, length-drop (u + 1 + n) (b ∷ r)))) (is_list b) refl

  by_field : bad_tag b ≡ false → d ≤ 6 → (q : Bool) → eqb (length_told (length_read r)).number 0 ≡ q → Judged d at (b ∷ r) (listing d at (b ∷ r))
  by_field good flat false k =
      let e = eqb-false (length_told (length_read r)).number 0 k in
      judged_refused d at b r 51 (at + 1) (h51 d at b r good flat e) (bad-field e refl refl) (first51 d at b r good flat e)
  by_field good flat true k =
      let n = (length_told (length_read r)).length in
      let u = (length_told (length_read r)).used in
      by-long good flat n u (told_read (length_read r) (eqb-true (length_told (length_read r)).number 0 k)) (ltb (length (b ∷ r) - (u + 1)) n) refl

  by-depth : bad_tag b ≡ false → (q : Bool) → ltb 6 d ≡ q → Judged d at (b ∷ r) (listing d at (b ∷ r))
  by-depth good true k =
      let h : 6 < d = ltb-true 6 d k in
      judged_refused d at b r 53 at (h53 d at b r good h) (too-deep h refl refl) (first53 d at b r good)
  by-depth good false k = by_field good (ltb-false 6 d k) (eqb (length_told (length_read r)).number 0) refl

  by_tag : (q : Bool) → bad_tag b ≡ q → Judged d at (b ∷ r) (listing d at (b ∷ r))
  by_tag true k = judged_refused d at b r 50 at (h50 d at b r k) (bad-tag k refl refl) (first50 d at b r)
  by_tag false k = by-depth k (ltb 6 d) refl

judged_at : (f d at : ℕ) (s : List ℕ) → length s ≤ f → Judged d at s (listing d at s)
judged_at zero d at [] p = judged_none d at
judged_at zero d at (b ∷ r) p = absurd (not-suc-le-zero p)
judged_at (suc f) d at [] p = judged_none d at
judged_at (suc f) d at (b ∷ r) p = by_tag f d at b r (omega arith) (judged_at f) (bad_tag b) refl

-- the refusal is the fault with the lowest address, 51 first there and then 50, 53, 52; where nothing is refused there is no fault
pub judged : (d at : ℕ) (s : List ℕ) → Judged d at s (listing d at s)
judged d at s = judged_at (length s) d at s (le_refl (length s))

-- ---- a refusal of the bytes is one of 50 to 53
fault_number : {d at : ℕ} {s : List ℕ} {y q : ℕ} → Fault d at s y q → (50 ≤ y) × (y ≤ 53)
fault_number (bad-tag e i j) = (omega arith, omega arith)
fault_number (too-deep e i j) = (omega arith, omega arith)
fault_number (bad-field e i j) = (omega arith, omega arith)
fault_number (too_long n u e h i j) = (omega arith, omega arith)
fault_number (inner n u e h i f) = fault_number f
fault_number (later n u e h f) = fault_number f

abbrev pub Numbered : Out → Type 0
Numbered (took es u) = Unit {0}
Numbered (refused x p) = (50 ≤ x) × (x ≤ 53)

pub numbered : (d at : ℕ) (s : List ℕ) → Numbered (listing d at s)
numbered d at s = go (listing d at s) (judged d at s)
  where
    go : (o : Out) → Judged d at s o → Numbered o
    go (took es u) j = tt
    go (refused x p) j = fault_number j.0
