-- The object that stands at a tag lies in its bytes, at most six deep. Assumes nothing.
use mathlib.Core.Path.{◌≡◌, refl}
use Prim.Native.Nat.{ℕ, ◌+◌, ◌-◌, ◌≤◌, ◌<◌}
use native.Mathlib.Omega.{arith}
use mathlib.Core.Bool.{Bool, true, false, cond}
use mathlib.Core.List.{List}
use borrow.Author.Tests.{lt-ltb, le-ltb, ltb-false, eq-eqb, ne_eqb, eqb-true}
use lib.Dec.{ltb, eqb}
use lib.ListN.{length, get_or, drop, length-drop}
use Rattle.std.specs.Prelude.{Result, Ok, Err}
use Rattle.lengths.specs.declared.ToldLength.{ToldLength}
use Rattle.lengths.specs.Lengths.{length_read}
use Rattle.tree.specs.declared.Head.{Head}
use Rattle.tree.specs.declared.Refusal.{Refusal}
use Rattle.tree.specs.Heads.{bad_tag, found, refuse, field_behind, on_field, head_at, head_for}
use Rattle.tree.proofs.Behind.{field_in, told_read}

-- what holds on both sides of a test
pub either_way : {A : Type 0} (P : A → Type 0) (b : Bool) (x y : A) → (b ≡ true → P x) → (b ≡ false → P y) → P (cond b x y)
either_way P true x y f g = f refl
either_way P false x y f g = g refl

-- an object's value starts behind its tag, and ends in s
abbrev pub Inside : List ℕ → Result Head Refusal → Type 0
Inside s (Ok h) = (0 < h.start) × (h.start + h.length ≤ length s)
Inside s (Err e) = Unit {0}

on_field_lem : (s : List ℕ) (at : ℕ) (f : ToldLength) → (f.number ≡ 0 → f.used ≤ length (drop 1 s)) → 0 < length s → Inside s (on_field f s at)
on_field_lem s at f w p =
    either_way (Inside s) (eqb f.number 0) _ _ (λ z.
    either_way (Inside s) (ltb (length s - (f.used + 1)) f.length) _ _ (λ _. tt) (λ e.
    let h : f.length ≤ length s - (f.used + 1) = ltb-false (length s - (f.used + 1)) f.length e in
    let k : f.used ≤ length (drop 1 s) = w (eqb-true f.number 0 z) in
    (omega arith, omega (arith, length-drop 1 s)))) (λ _. tt)

pub inside_head : (s : List ℕ) (at d : ℕ) → 0 < length s → Inside s (head_at s at d)
unfolding head_at
inside_head s at d p =
    either_way (Inside s) (bad_tag (get_or s 0 0)) _ _ (λ _. tt) (λ _.
    either_way (Inside s) (ltb 6 d) _ _ (λ _. tt) (λ _.
    on_field_lem s at (field_behind s) (λ z. (field_in (drop 1 s) (field_behind s).length (field_behind s).used (told_read (length_read (drop 1 s)) z)).1) p))

-- an object is at most six deep
abbrev pub Shallow : ℕ → Result Head Refusal → Type 0
Shallow d (Ok h) = d ≤ 6
Shallow d (Err e) = Unit {0}

pub shallow_head : (s : List ℕ) (at d : ℕ) → Shallow d (head_at s at d)
unfolding head_at
shallow_head s at d =
    either_way (Shallow d) (bad_tag (get_or s 0 0)) _ _ (λ _. tt) (λ _.
    either_way (Shallow d) (ltb 6 d) _ _ (λ _. tt) (λ e.
    either_way (Shallow d) (eqb (field_behind s).number 0) _ _ (λ _.
    either_way (Shallow d) (ltb (length s - ((field_behind s).used + 1)) (field_behind s).length) _ _ (λ _. tt) (λ _. ltb-false 6 d e)) (λ _. tt)))

-- ---- the head by its tests
module _ (s : List ℕ) (at d : ℕ) where
  pub head_bad : bad_tag (get_or s 0 0) ≡ true → head_at s at d ≡ refuse 50 at
  unfolding head_at
  head_bad e = rw e

  module _ (good : bad_tag (get_or s 0 0) ≡ false) where
    pub head_deep : 6 < d → head_at s at d ≡ refuse 53 at
    unfolding head_at
    head_deep e = rw (good, lt-ltb 6 d e)

    module _ (flat : d ≤ 6) where
      pub head_field : ((field_behind s).number ≡ 0 → ⊥) → head_at s at d ≡ refuse 51 (at + 1)
      unfolding head_at
      head_field e = rw (good, le-ltb 6 d flat, ne_eqb (field_behind s).number 0 e)

      pub head_long : (field_behind s).number ≡ 0 → length s - ((field_behind s).used + 1) < (field_behind s).length → head_at s at d ≡ refuse 52 at
      unfolding head_at
      head_long e h = rw (good, le-ltb 6 d flat, eq-eqb (field_behind s).number 0 e, lt-ltb _ _ h)

      pub head_object : (field_behind s).number ≡ 0 → (field_behind s).length ≤ length s - ((field_behind s).used + 1)
          → head_at s at d ≡ found (get_or s 0 0) ((field_behind s).used + 1) (field_behind s).length
      unfolding head_at
      head_object e h = rw (good, le-ltb 6 d flat, eq-eqb (field_behind s).number 0 e, le-ltb _ _ h)

-- the field lies behind the tag
pub field_behind_lem : (s : List ℕ) → (field_behind s).number ≡ 0 → 0 < length s → (field_behind s).used + 1 ≤ length s
field_behind_lem s z p =
    omega (arith, length-drop 1 s, (field_in (drop 1 s) (field_behind s).length (field_behind s).used (told_read (length_read (drop 1 s)) z)).1)

-- what is told for any bytes, address and levels is what is told where they are those of a list
pub head_for_lem : (s : List ℕ) (at left : ℕ) → 0 < length s → at ≤ 4096 → left ≤ 6 → head_for s at left ≡ head_at s at (7 - left)
unfolding head_for
head_for_lem s at left p q r =
    let e : eqb (length s) 0 ≡ false = ne_eqb (length s) 0 (λ z. absurd (omega arith)) in
    rw (e, le-ltb 4096 at q, le-ltb 6 left r)
