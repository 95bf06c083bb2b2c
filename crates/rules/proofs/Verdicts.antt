-- What the verdicts mean. Assumes nothing.
use Prim.Native.Nat.{ℕ, zero, suc, ◌≤◌, ◌<◌}
use native.Mathlib.Omega.{arith}
use borrow.Author.Tests.{eqb-true, ne_eqb, ltb-true, ltb-false, le-ltb}
use mathlib.Core.Path.{◌≡◌, refl, ap}
use mathlib.Core.Logic.{◌↔◌}
use mathlib.Core.Bool.{Bool, true, false, cond, not, ◌&&◌}
use mathlib.Core.List.{List, [], ◌∷◌}
use lib.Dec.{eqb, ltb}
use lib.ListN.{length, get_or}
use Rattle.rules.specs.declared.Rule.{Rule}
use Rattle.std.specs.Prelude.{Ok, Err}
use Rattle.rules.specs.declared.Fault.TheVariants.{Outside, Breaks}
use Rattle.ground.specs.Lists.{among, leading}
use Rattle.rules.specs.declared.Rule.TheVariants.{Digits, Text, Lead, Code, Birth, Expiry, Raw, NotD}
use Rattle.rules.specs.Values.{is_digit, is_text, takes, is_not_d, holds, Verdict, judged, ToldVerdict, verdict_told, by_sense}
use Rattle.ground.proofs.Lists.{true_false, leading_before, leading_at}

-- no two verdicts are told alike
pub told_apart : (a b : Verdict) → verdict_told a ≡ verdict_told b → a ≡ b
told_apart a b e = go a b (ap (λ (t : ToldVerdict). t.number) e) (ap (λ (t : ToldVerdict). t.index) e)
  where
    go : (a b : Verdict) → (verdict_told a).number ≡ (verdict_told b).number → (verdict_told a).index ≡ (verdict_told b).index → a ≡ b
    go (Ok u) (Ok w) n i = refl
    go (Ok u) (Err (Outside k)) n i = absurd (omega arith)
    go (Ok u) (Err Breaks) n i = absurd (omega arith)
    go (Err (Outside k)) (Ok u) n i = absurd (omega arith)
    go (Err (Outside k)) (Err (Outside j)) n i = ap (λ (m : ℕ). Err (Outside m)) i
    go (Err (Outside k)) (Err Breaks) n i = absurd (omega arith)
    go (Err Breaks) (Ok u) n i = absurd (omega arith)
    go (Err Breaks) (Err (Outside k)) n i = absurd (omega arith)
    go (Err Breaks) (Err Breaks) n i = refl

-- exactly 79 bytes are text
unfoldable pub count : (ℕ → Bool) → ℕ → ℕ
count f zero = 0
count f (suc n) = cond (f n) (suc (count f n)) (count f n)

pub text_79 : count is_text 256 ≡ 79
unfolding count is_text among
text_79 = refl

-- ---- what each verdict says
data View (rule : Rule) (v : List ℕ) : Verdict → Type 0 where
  taken : length v ≤ leading (takes rule) v → holds rule v ≡ true → View rule v (Ok tt)
  outside : leading (takes rule) v < length v → View rule v (Err (Outside (leading (takes rule) v)))
  broken : length v ≤ leading (takes rule) v → holds rule v ≡ false → View rule v (Err Breaks)

view : (rule : Rule) (v : List ℕ) → View rule v (judged rule v)
unfolding judged
view rule v = go (ltb (leading (takes rule) v) (length v)) refl (holds rule v) refl
  where
    go : (q : Bool) → ltb (leading (takes rule) v) (length v) ≡ q → (h : Bool) → holds rule v ≡ h
        → View rule v (cond q (Err (Outside (leading (takes rule) v))) (cond h (Ok tt) (Err Breaks)))
    go true e h f = outside (ltb-true _ _ e)
    go false e true f = taken (ltb-false _ _ e) f
    go false e false f = broken (ltb-false _ _ e) f

-- 9: every byte before the index is of the characters, and that one is not
pub record FirstOutside (rule : Rule) (v : List ℕ) (i : ℕ) : Type 0 where
  pub inside : i < length v
  pub before : (k : ℕ) → k < i → takes rule (get_or v k 0) ≡ true
  pub there : takes rule (get_or v i 0) ≡ false

pub nine_means : (rule : Rule) (v : List ℕ) (i : ℕ) → judged rule v ≡ Err (Outside i) → FirstOutside rule v i
nine_means rule v i e = go (judged rule v) (view rule v) e
  where
    go : (j : Verdict) → View rule v j → j ≡ Err (Outside i) → FirstOutside rule v i
    go j (outside h) p =
        let is : leading (takes rule) v ≡ i = cc in
        rw (← is) (record { inside = h; before = leading_before (takes rule) 0 v; there = leading_at (takes rule) 0 v h })
    go j (taken a b) p = absurd (let z : ◌≡◌ {A = ℕ} 0 1 = cc in omega arith)
    go j (broken a b) p = absurd (let z : ◌≡◌ {A = ℕ} 0 1 = cc in omega arith)

-- 10 is never given where a byte is outside
pub ten_means : (rule : Rule) (v : List ℕ) → judged rule v ≡ Err Breaks → ((k : ℕ) → k < length v → takes rule (get_or v k 0) ≡ true) × (holds rule v ≡ false)
ten_means rule v e = go (judged rule v) (view rule v) e
  where
    go : (j : Verdict) → View rule v j → j ≡ Err Breaks → ((k : ℕ) → k < length v → takes rule (get_or v k 0) ≡ true) × (holds rule v ≡ false)
    go j (broken a b) p = (λ k h. leading_before (takes rule) 0 v k (omega arith), b)
    go j (taken a b) p = absurd (let z : ◌≡◌ {A = ℕ} 0 1 = cc in omega arith)
    go j (outside h) p = absurd (let z : ◌≡◌ {A = ℕ} 0 1 = cc in omega arith)

-- a value is taken exactly where all its bytes are of the characters and it has the sense of the rule
pub taken_means : (rule : Rule) (v : List ℕ) → judged rule v ≡ Ok tt → (length v ≤ leading (takes rule) v) × (holds rule v ≡ true)
taken_means rule v e = go (judged rule v) (view rule v) e
  where
    go : (j : Verdict) → View rule v j → j ≡ Ok tt → (length v ≤ leading (takes rule) v) × (holds rule v ≡ true)
    go j (taken a b) p = (a, b)
    go j (broken a b) p = absurd (let z : ◌≡◌ {A = ℕ} 0 1 = cc in omega arith)
    go j (outside h) p = absurd (let z : ◌≡◌ {A = ℕ} 0 1 = cc in omega arith)

pub means_taken : (rule : Rule) (v : List ℕ) → length v ≤ leading (takes rule) v → holds rule v ≡ true → judged rule v ≡ Ok tt
unfolding judged
means_taken rule v a b = rw (le-ltb (leading (takes rule) v) (length v) a, b)

-- a rule that asks for nothing beyond its characters holds of every value
pub plain_holds : (rule : Rule) (v : List ℕ) → by_sense rule false false false false false ≡ true → holds rule v ≡ true
unfolding holds
plain_holds Digits v h = refl
plain_holds Text v h = refl
plain_holds Lead v h = absurd (true_false h refl)
plain_holds Code v h = absurd (true_false h refl)
plain_holds Birth v h = absurd (true_false h refl)
plain_holds Expiry v h = absurd (true_false h refl)
plain_holds Raw v h = refl
plain_holds NotD v h = absurd (true_false h refl)

-- text other than the single letter D is what its name says
other_than_d : (v : List ℕ) → (v ≡ 0x44 ∷ [] → ⊥) → is_not_d (length v) (get_or v 0 0) ≡ true
other_than_d [] h = refl
other_than_d (b ∷ []) h = go (eqb b 0x44) refl
  where
    go : (q : Bool) → eqb b 0x44 ≡ q → not (eqb 1 1 && q) ≡ true
    go true e = absurd (h (ap (λ (x : ℕ). x ∷ []) (eqb-true b 0x44 e)))
    go false e = refl
other_than_d (b ∷ c ∷ v) h = rw (ne_eqb (length (b ∷ c ∷ v)) 1 (λ e. absurd (omega arith)))

pub not_d_means : (v : List ℕ) → judged NotD v ≡ Ok tt ↔ ((judged Text v ≡ Ok tt) × (v ≡ 0x44 ∷ [] → ⊥))
unfolding holds
not_d_means v = (
  λ t. let m = taken_means NotD v t in
      (means_taken Text v m.0 refl, λ e. true_false m.1 (rw e)),
  λ p. let m = taken_means Text v p.0 in
      means_taken NotD v m.0 (other_than_d v p.1),
)
