-- Where a right length field puts the template, and what is refused only where it is wrong. Assumes nothing.
use Prim.Native.Nat.{ℕ, suc, ◌+◌, ◌-◌, ◌≤◌}
use native.Mathlib.Omega.{arith}
use borrow.Author.Tests.{eqb-true, eqb-false, leb-true}
use mathlib.Core.Path.{◌≡◌, refl, sym, ap, ◌∙◌}
use mathlib.Core.Bool.{Bool, true, false, cond, ◌&&◌}
use mathlib.Core.List.{List, [], ◌∷◌}
use lib.Dec.{eqb, leb}
use lib.ListN.{length, take, drop}
use Rattle.ground.proofs.Lists.{and_left, and_right}
use Rattle.card.specs.declared.LengthField.{LengthField}
use Rattle.card.specs.declared.LengthField.TheVariants.{One, Other}
use Rattle.card.specs.declared.Refusal.{Refusal}
use Rattle.card.specs.Fields.{length_at, second_byte, field_told}
use Rattle.card.specs.Reading.{front_refusal}
use Rattle.card.proofs.Chains.{neither, gate_in}
use Rattle.card.specs.Frame.{field_wrong, field_of, start_of, end_of, objects_in}
use Rattle.frame.specs.declared.Front.{Front}
use Rattle.frame.specs.Checks.{open_refusal, front_of, Framed}

record Extent (f : LengthField) : Type 0 where
  used : (field_told f).used ≤ 2
  least : 70 ≤ (field_told f).length
  most : (field_told f).length ≤ 212

passes : (q : Bool) (n : ℕ) → cond q 0 (suc n) ≡ 0 → q ≡ true
passes true n e = refl
passes false n e = absurd (omega arith)

extent : (bs : List ℕ) → field_wrong (length_at bs) ≡ 0 → Extent (length_at bs)
unfolding field_wrong
extent [] e = absurd (omega arith)
extent (b ∷ bs) e = go (leb b 127) refl (eqb b 0x81) bs e
  where
    go : (p : Bool) → leb b 127 ≡ p → (q : Bool) (bs : List ℕ) → field_wrong (cond p (One b) (cond q (second_byte bs) (Other b))) ≡ 0
        → Extent (cond p (One b) (cond q (second_byte bs) (Other b)))
    go true p q bs e = record { used = omega arith; least = leb-true 70 b (passes (leb 70 b) 30 e); most = omega (arith, leb-true b 127 p) }
    go false p false bs e = absurd (omega arith)
    go false p true [] e = absurd (omega arith)
    go false p true (n ∷ bs) e =
        let t = passes (leb 128 n && leb n 212) 31 e in
        record {
          used = omega arith;
          least = omega (arith, leb-true 128 n (and_left (leb 128 n) (leb n 212) t));
          most = leb-true n 212 (and_right (leb 128 n) (leb n 212) t);
        }

module _ (s : List ℕ) (long : length s ≡ 256) (right : field_wrong (field_of s) ≡ 0) where
  pub framed : Framed s (end_of s)
  unfolding end_of start_of
  framed =
      let x = extent (drop 31 s) right in
      record { long = long; is = refl; least = omega (arith, x.least); most = omega (arith, x.used, x.most) }

  -- where the objects start, and how many bytes they have
  pub start_most : start_of s ≤ 33
  unfolding start_of
  start_most = omega (arith, (extent (drop 31 s) right).used)

  pub size_most : (field_told (field_of s)).length ≤ 212
  size_most = (extent (drop 31 s) right).most

  pub ordered : start_of s ≤ end_of s
  unfolding end_of
  ordered = omega arith

  pub template_is : objects_in s ≡ take (end_of s - start_of s) (drop (start_of s) s)
  unfolding end_of
  template_is =
      let same : (field_told (field_of s)).length ≡ start_of s + (field_told (field_of s)).length - start_of s = omega arith in
      ap (λ (n : ℕ). take n (drop (start_of s) s)) same

-- the length field is right where nothing is refused before the objects
pub open_right : (edition : Refusal) (s : List ℕ) → (open_refusal edition s).number ≡ 0 → (length s ≡ 256) × (field_wrong (field_of s) ≡ 0)
unfolding open_refusal front_refusal
open_right edition s z =
    let n1 = neither _ _ z in
    let n2 = neither _ _ n1.second in
    let g = gate_in _ _ _ (omega arith) n1.first in
    let g1 = gate_in _ _ _ (omega arith) n2.second in
    let g2 = gate_in _ _ _ (omega arith) g1.1 in
    let g3 = gate_in _ _ _ (omega arith) g2.1 in
    let g4 = gate_in _ _ _ (omega arith) g3.1 in
    (eqb-true _ _ g.0, eqb-true _ _ g4.0)

-- ---- what a front says
pub front_refused : (x : Refusal) (s : List ℕ) (f : Front) → f ≡ front_of x s → (f.refusal.number ≡ 0 → ⊥) → f.refusal ≡ open_refusal x s
unfolding front_of
front_refused x s f e h = go (eqb (open_refusal x s).number 0) refl
  where
    go : (q : Bool) → eqb (open_refusal x s).number 0 ≡ q → f.refusal ≡ open_refusal x s
    go true t = absurd (h (ap (λ (y : Front). y.refusal.number) (rw t at e)))
    go false t = ap (λ (y : Front). y.refusal) (rw t at e)

pub record Opened (x : Refusal) (s : List ℕ) (f : Front) : Type 0 where
  pub passed : (open_refusal x s).number ≡ 0
  pub start : f.start ≡ start_of s
  pub end : f.end ≡ end_of s

pub front_opened : (x : Refusal) (s : List ℕ) (f : Front) → f ≡ front_of x s → f.refusal.number ≡ 0 → Opened x s f
unfolding front_of
front_opened x s f e h = go (eqb (open_refusal x s).number 0) refl
  where
    go : (q : Bool) → eqb (open_refusal x s).number 0 ≡ q → Opened x s f
    go true t =
        let is = rw t at e in
        record { passed = eqb-true _ _ t; start = ap (λ (y : Front). y.start) is; end = ap (λ (y : Front). y.end) is }
    go false t = absurd (eqb-false _ _ t (sym (ap (λ (y : Front). y.refusal.number) (rw t at e)) ∙ h))

pub open_formed : (x : Refusal) (s : List ℕ) → (open_refusal x s).number ≡ 0 → x.number ≡ 0
unfolding open_refusal
open_formed x s z = (neither x _ (neither _ _ z).second).first
