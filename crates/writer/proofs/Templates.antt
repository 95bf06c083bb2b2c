-- The template's runs of stores make it, and with head and filler the whole layout. Assumes nothing.
use mathlib.Core.Path.{◌≡◌, sym, ap, ◌∙◌}
use mathlib.Core.List.{List, [], ◌∷◌, ◌++◌, append_assoc}
use Prim.Native.Nat.{ℕ, suc, ◌+◌, ◌-◌, ◌≤◌}
use native.Mathlib.Numerals.{add-one}
use native.Mathlib.Omega.{arith}
use lib.ListN.{length, take, drop, set, length-append, length-set}
use lib.Seq.{sets, length-take-le, take_at, drop_at, take-add, take-suc-set}
use Rattle.card.specs.Content.{Content}
use Rattle.lengths.specs.Lengths.{length_field}
use Rattle.card.specs.Layout.{head, template_length, summed, xor_all, template, filler, objects_of, layout}
use Rattle.ground.proofs.Stores.{stored_first}
use Rattle.writer.proofs.Grown.{grown}
use Rattle.writer.proofs.Heading.{head_long}
use Rattle.card.proofs.Layouts.{length_field_lem}

-- ---- how long a template is
summed_long : (s : List ℕ) → length (summed s) ≡ length (length_field (template_length s)) + template_length s
unfolding summed
summed_long s = simp length-append (omega arith)

template_long : (s : List ℕ) → length (template s) ≡ length (length_field (template_length s)) + template_length s + 1
unfolding template
template_long s = simp (length-append, summed_long)

pub template_most : (s : List ℕ) → template_length s ≤ 212 → length (template s) ≤ 215
template_most s h =
    let a = template_long s in
    let b = length_field_lem (template_length s) (omega arith) in
    omega arith

-- where the objects begin, once the length is written
pub record Begun (s : List ℕ) (n start : ℕ) : Type 0 where
  pub n_is : n ≡ template_length s
  pub start_is : start ≡ 31 + length (length_field n)
  pub few : length s + 3 ≤ 212
  pub most : length (length_field n) ≤ 2

pub begun : (s : List ℕ) (m start : ℕ) → m ≡ length s → template_length s ≤ 212 → start ≡ 31 + length (length_field (m + 3)) → Begun s (m + 3) start
begun s m start e h f = record { n_is = ap (λ (k : ℕ). k + 3) e; start_is = f; few = h; most = (length_field_lem (m + 3) (omega arith)).1 }

-- what stands behind the first 30 bytes
behind_front : (l p v : List ℕ) (q : ℕ) → length p ≡ 30 → 30 ≤ q → q ≤ length l → take q l ≡ p ++ v → take (q - 30) (drop 30 l) ≡ v
behind_front l p v q hp hq room e =
    let same : 30 + (q - 30) ≡ q = omega arith in
    let front : length (take 30 l) ≡ 30 = length-take-le 30 l (omega arith) in
    let both : take 30 l ++ take (q - 30) (drop 30 l) ≡ p ++ v = sym (take-add 30 (q - 30) l) ∙ ap (λ (k : ℕ). take k l) same ∙ e in
    sym (drop_at (take 30 l) (take (q - 30) (drop 30 l)) 30 front) ∙ ap (drop 30) both ∙ drop_at p v 30 hp

module _ (s : List ℕ) {n start end : ℕ} (at : Begun s n start) (he : end ≡ start + length s) where
  pub template_ends : end + 2 + 1 ≡ 30 + length (template s)
  template_ends =
      let a = template_long s in
      let c : length (length_field n) ≡ length (length_field (template_length s)) = ap (λ (k : ℕ). length (length_field k)) at.n_is in
      omega (arith, at.start_is)

  pub templated : (b : List ℕ) {l₂ : List ℕ} (l₃ : List ℕ) (x : ℕ) → l₂ ≡ sets (set b 30 0x60) 31 (length_field n) → take end l₃ ≡ take start l₂ ++ s
      → start ≤ length b → end + 3 ≤ length l₃ → x ≡ xor_all (take (end + 2 - 30) (drop 30 (set (set l₃ end 0x8E) (end + 1) 0x01)))
      → take (end + 2 + 1) (set (set (set l₃ end 0x8E) (end + 1) 0x01) (end + 2) x) ≡ take 30 b ++ template s
  unfolding template summed
  templated b {l₂} l₃ x e₂ e₃ inside room hx =
      let p : List ℕ = take 30 b in
      let f : List ℕ = 0x60 ∷ length_field n in
      let z : List ℕ = 0x8E ∷ 0x01 ∷ [] in
      let g₂ : start ≡ 30 + length f = omega (arith, at.start_is) in
      let fits : 30 + length f ≤ length b = omega arith in
      let d₂ : take start l₂ ≡ p ++ f = ap (take start) e₂ ∙ ap (λ (k : ℕ). take k (sets b 30 f)) g₂ ∙ grown b f 30 fits in
      let l₄ : List ℕ = set (set l₃ end 0x8E) (end + 1) 0x01 in
      let h₄ : l₄ ≡ sets l₃ end z = rw (add-one end) in
      let room₄ : end + length z ≤ length l₃ = omega arith in
      let d₄ : take (end + 2) l₄ ≡ take end l₃ ++ z = ap (take (end + 2)) h₄ ∙ grown l₃ z end room₄ in
      let same : (f ++ s) ++ z ≡ summed s =
      ap (λ (k : ℕ). ((0x60 ∷ length_field k) ++ s) ++ z) at.n_is ∙ ap (λ (y : List ℕ). 0x60 ∷ y) (append_assoc (length_field (template_length s)) s z) in
      let d : take (end + 2) l₄ ≡ p ++ summed s =
      d₄ ∙ ap (λ (y : List ℕ). y ++ z) (e₃ ∙ ap (λ (y : List ℕ). y ++ s) d₂ ∙ append_assoc p f s) ∙ append_assoc p (f ++ s) z ∙ ap (λ (y : List ℕ). p ++ y) same in
      let long : length l₄ ≡ length l₃ = simp length-set in
      let v : x ≡ xor_all (summed s) = hx ∙ ap xor_all (behind_front l₄ p (summed s) (end + 2) (length-take-le 30 b (omega arith)) (omega arith) (omega arith) d) in
      let more : end + 2 + 1 ≡ suc (end + 2) = add-one (end + 2) in
      ap (λ (k : ℕ). take k (set l₄ (end + 2) x)) more ∙ take-suc-set l₄ (end + 2) x (omega arith)
      ∙ ap (λ (y : List ℕ). y ++ (x ∷ [])) d ∙ append_assoc p (summed s) (x ∷ []) ∙ ap (λ (k : ℕ). p ++ (summed s ++ (k ∷ []))) v

-- ---- head, template and filler
pub laid_out : (b : List ℕ) (c : Content) (l₂ rest : List ℕ) (end : ℕ) {l₁ l₃ f : List ℕ} → 30 ≤ length b → length c.free ≡ 12 → l₁ ≡ sets b 0 (head c.first c.free)
    → take end l₂ ≡ take 30 l₁ ++ template (objects_of c) → end ≡ 30 + length (template (objects_of c)) → f ≡ filler (255 - end) c.last → end + length f ≡ 256
    → l₃ ≡ take end l₂ ++ (f ++ rest) → take 256 l₃ ≡ layout c
unfolding layout
laid_out b c l₂ rest end {l₁} {l₃} {f} hb hf e₁ e₂ he ef long e₃ =
    let top : List ℕ = head c.first c.free in
    let t : List ℕ = template (objects_of c) in
    let h : length top ≡ 30 = head_long c.first c.free hf in
    let a : take end l₂ ≡ top ++ t = e₂ ∙ ap (λ (x : List ℕ). x ++ t) (ap (take 30) e₁ ∙ stored_first b top 30 (sym h) hb) in
    let m : length (take end l₂) ≡ 30 + length t = ap length a ∙ length-append top t ∙ ap (λ (k : ℕ). k + length t) h in
    let n : length (take end l₂ ++ f) ≡ 256 = length-append (take end l₂) f ∙ omega arith in
    ap (take 256) (e₃ ∙ sym (append_assoc (take end l₂) f rest)) ∙ take_at (take end l₂ ++ f) rest 256 n
    ∙ ap (λ (x : List ℕ). x ++ f) a ∙ ap (λ (x : List ℕ). (top ++ t) ++ x) (ef ∙ ap (λ (k : ℕ). filler (255 - k) c.last) he)
    ∙ append_assoc top t (filler (255 - (30 + length t)) c.last)
