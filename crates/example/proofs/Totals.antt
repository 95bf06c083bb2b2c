-- The sizes of the sixteen objects, one by one and by the sums that they stand in. Assumes nothing.
use Prim.Native.Nat.{ℕ, zero, suc, ◌+◌, ◌%◌, ◌<◌, ◌≤◌}
use native.Mathlib.Omega.{arith}
use mathlib.Core.Path.{◌≡◌, refl, sym, ap, ap₂, ◌∙◌}
use mathlib.Core.Bool.{cond}
use mathlib.Core.List.{List, [], ◌∷◌}
use lib.Dec.{eqb}
use lib.ListN.{length, get_or, length-append}
use borrow.Author.Tests.{ne_eqb}
use Rattle.edition.specs.Rows.{tags}
use Rattle.card.specs.Content.{Content}
use Rattle.card.specs.Layout.{object, body, object_tags, objects_of, template_length}
use Rattle.choosing.specs.Choices.{size_of}
use Rattle.example.specs.Cards.{grouped}

unfoldable pub total : ℕ → (ℕ → ℕ) → ℕ
total zero f = 0
total (suc m) f = f 0 + total m (λ (k : ℕ). f (suc k))

pub total_less : (m : ℕ) (f g : ℕ → ℕ) → ((k : ℕ) → k < m → f k ≤ g k) → total m f ≤ total m g
unfolding total
total_less zero f g h = omega arith
total_less (suc m) f g h = omega (arith, h 0 (omega arith), total_less m (λ (k : ℕ). f (suc k)) (λ (k : ℕ). g (suc k)) (λ k b. h (suc k) (omega (arith, b))))

-- two that differ at one place
pub total_one : (m : ℕ) (f g : ℕ → ℕ) (j : ℕ) → ((k : ℕ) → k < m → (k ≡ j → ⊥) → g k ≤ f k) → g j ≤ f j + 32 → total m g ≤ total m f + 32
unfolding total
total_one zero f g j h l = omega arith
total_one (suc m) f g zero h l =
    omega (arith, total_less m (λ (k : ℕ). g (suc k)) (λ (k : ℕ). f (suc k)) (λ k b. h (suc k) (omega (arith, b)) (λ z. omega (arith, z))))
total_one (suc m) f g (suc j) h l =
    omega (arith, h 0 (omega arith) (λ z. omega (arith, z)), total_one m (λ (k : ℕ). f (suc k)) (λ (k : ℕ). g (suc k)) j (λ k b n. h (suc k) (omega (arith, b)) (λ z. n (omega (arith, z)))) l)

pub total_same : (m : ℕ) (f g : ℕ → ℕ) → ((k : ℕ) → k < m → f k ≡ g k) → total m f ≡ total m g
unfolding total
total_same zero f g h = refl
total_same (suc m) f g h = ap₂ ◌+◌ (h 0 (omega arith)) (total_same m (λ (k : ℕ). f (suc k)) (λ (k : ℕ). g (suc k)) (λ k b. h (suc k) (omega (arith, b))))

-- ---- by the sums: the bytes of the objects of a sum are those of its first row, and the others have none
unfoldable pub unit_size : (ℕ → ℕ) → ℕ → ℕ
unit_size n u = cond (grouped u) (cond (eqb (u % 3) 0) (size_of (n u) + size_of (n (u + 1)) + size_of (n (u + 2))) 0) (size_of (n u))

pub by_units : (n : ℕ → ℕ) → total 16 (λ (k : ℕ). size_of (n k)) ≡ total 16 (unit_size n)
unfolding total unit_size grouped
by_units n = omega arith

-- ---- the template of a content
object_size : (t : ℕ) (v : List ℕ) → length (object t v) ≡ size_of (length v)
unfolding size_of
object_size t [] = refl
object_size t (b ∷ v) = rw (ne_eqb (suc (length v)) 0 (omega arith)) (omega arith)

body_size : (ts : List ℕ) (vs : List (List ℕ)) → length ts ≡ length vs → length (body ts vs) ≡ total (length vs) (λ (k : ℕ). size_of (length (get_or vs k [])))
unfolding body total
body_size [] [] e = refl
body_size [] (v ∷ vs) e = absurd (omega arith)
body_size (t ∷ ts) [] e = absurd (omega arith)
body_size (t ∷ ts) (v ∷ vs) e = length-append (object t v) (body ts vs) ∙ ap₂ ◌+◌ (object_size t v) (body_size ts vs (omega arith))

pub template_size : (c : Content) (f : ℕ → ℕ) → length c.values ≡ 16 → ((k : ℕ) → k < 16 → length (get_or c.values k []) ≡ f k)
    → template_length (objects_of c) ≡ total 16 (unit_size f) + 3
unfolding tags
template_size c f l h =
    let e = body_size object_tags c.values (sym l) in
    let s : total (length c.values) (λ (k : ℕ). size_of (length (get_or c.values k []))) ≡ total 16 (λ (k : ℕ). size_of (length (get_or c.values k []))) =
    ap (λ (m : ℕ). total m (λ (k : ℕ). size_of (length (get_or c.values k [])))) l in
    let g = total_same 16 (λ (k : ℕ). size_of (length (get_or c.values k []))) (λ (k : ℕ). size_of (f k)) (λ k b. ap size_of (h k b)) in
    ap (λ (x : ℕ). x + 3) (e ∙ s ∙ g ∙ by_units f)
