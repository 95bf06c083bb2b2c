-- What a file is that no check refuses, and what each check tells. Assumes nothing.
use Prim.Native.Nat.{ℕ, ◌-◌, ◌*◌}
use native.Mathlib.Omega.{arith}
use borrow.Author.Tests.{eq-eqb, ne_eqb, eqb-true, eqb-false}
use mathlib.Core.Path.{◌≡◌, refl, ap, ◌∙◌}
use mathlib.Core.Bool.{Bool, true, false}
use mathlib.Core.List.{List, [], ◌∷◌}
use lib.Dec.{eqb}
use lib.ListN.{take, drop}
use Rattle.card.specs.declared.Refusal.{Refusal}
use Rattle.card.specs.Refusals.{refuse, none, gate, or_else}
use Rattle.ground.specs.Pieces.{pieces}
use Rattle.ground.specs.Lists.{same_list}
use Rattle.ground.proofs.Lists.{same_equal}
use Rattle.day.specs.Files.{count_in, images_in, index_in, index_bytes, fits, cards_refusal, file_refusal, Cards}
use Rattle.day.proofs.Turns.{none_refused}
use Rattle.day.proofs.Frames.{Framed, framed}

-- ---- refusals in turn
module _ (a b : Refusal) where
  pub or_stop : (a.number ≡ 0 → ⊥) → or_else a b ≡ a
  unfolding or_else
  or_stop h = rw (ne_eqb a.number 0 h)

  pub or_on : a.number ≡ 0 → or_else a b ≡ b
  unfolding or_else
  or_on h = rw (eq-eqb a.number 0 h)

module _ {A : Type 0} (x w : A) where
  pub gate_on : {t : Bool} → t ≡ true → gate t x w ≡ w
  unfolding gate
  gate_on e = rw e

  pub gate_off : {t : Bool} → t ≡ false → gate t x w ≡ x
  unfolding gate
  gate_off e = rw e

-- ---- a run is the same as itself
pub same_self : (a : List ℕ) → same_list a a ≡ true
unfolding same_list
same_self [] = refl
same_self (x ∷ a) = rw (eq-eqb x x refl) (same_self a)

-- ---- the checks of a file
module _ (s : List ℕ) where
  pub file_unframed : fits s ≡ false → file_refusal s ≡ refuse 40 0 0
  unfolding file_refusal
  file_unframed t = gate_off _ _ t

  abbrev indexRefusal : Refusal
  indexRefusal = gate (same_list (index_in s) (index_bytes (images_in s))) (refuse 42 0 0) none

  framed-file : fits s ≡ true → file_refusal s ≡ or_else (cards_refusal 0 (images_in s)) indexRefusal
  unfolding file_refusal
  framed-file t = gate_on _ _ t

  pub file_card : fits s ≡ true → ((cards_refusal 0 (images_in s)).number ≡ 0 → ⊥) → file_refusal s ≡ cards_refusal 0 (images_in s)
  file_card t h = framed-file t ∙ or_stop (cards_refusal 0 (images_in s)) indexRefusal h

  pub file_index : fits s ≡ true → (cards_refusal 0 (images_in s)).number ≡ 0 → same_list (index_in s) (index_bytes (images_in s)) ≡ false → file_refusal s ≡ refuse 42 0 0
  file_index t h e = framed-file t ∙ or_on (cards_refusal 0 (images_in s)) indexRefusal h ∙ gate_off _ _ e

  pub file_opens : fits s ≡ true → (cards_refusal 0 (images_in s)).number ≡ 0 → same_list (index_in s) (index_bytes (images_in s)) ≡ true → file_refusal s ≡ none
  file_opens t h e = framed-file t ∙ or_on (cards_refusal 0 (images_in s)) indexRefusal h ∙ gate_on _ _ e

  -- the images and the index as they are lent
  module _ (n : ℕ) (e : n ≡ count_in s) where
    pub images_lent : pieces 256 n s ≡ images_in s
    unfolding images_in
    images_lent = ap (λ (x : ℕ). pieces 256 x s) e

    pub index_lent : take (n * 270 - n * 256) (drop (n * 256) s) ≡ index_in s
    index_lent =
        let d : n * 270 - n * 256 ≡ n * 14 = omega arith in
        ap (λ (x : ℕ). take x (drop (n * 256) s)) d ∙ ap (λ (x : ℕ). take (x * 14) (drop (x * 256) s)) e

-- a file that is not refused
pub record Opened (s : List ℕ) : Type 0 where
  pub frame : Framed s
  pub cards : Cards (images_in s)
  pub index : index_in s ≡ index_bytes (images_in s)

pub opened : (s : List ℕ) → (file_refusal s).number ≡ 0 → Opened s
opened s z = go (fits s) refl
  where
    last : fits s ≡ true → (cards_refusal 0 (images_in s)).number ≡ 0 → (q : Bool) → same_list (index_in s) (index_bytes (images_in s)) ≡ q → Opened s
    last t h true u = record { frame = framed s t; cards = none_refused 0 (images_in s) h; index = same_equal (index_in s) (index_bytes (images_in s)) u }
    last t h false u = absurd (omega (arith, ap (λ (x : Refusal). x.number) (file_index s t h u)))

    next : fits s ≡ true → (q : Bool) → eqb (cards_refusal 0 (images_in s)).number 0 ≡ q → Opened s
    next t true u = last t (eqb-true (cards_refusal 0 (images_in s)).number 0 u) (same_list (index_in s) (index_bytes (images_in s))) refl
    next t false u =
        let h = eqb-false (cards_refusal 0 (images_in s)).number 0 u in
        absurd (h (omega (arith, ap (λ (x : Refusal). x.number) (file_card s t h))))

    go : (q : Bool) → fits s ≡ q → Opened s
    go true t = next t (eqb (cards_refusal 0 (images_in s)).number 0) refl
    go false t = absurd (omega (arith, ap (λ (x : Refusal). x.number) (file_unframed s t)))
