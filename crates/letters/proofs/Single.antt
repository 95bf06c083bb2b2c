-- Single letters: which bytes a letter has, and that it has one at least. The cases of a table are taken one by one. Assumes nothing.
use Prim.Native.Nat.{ℕ, zero, suc, ◌+◌, ◌≤◌, ◌<◌}
use native.Mathlib.Omega.{arith}
use borrow.Author.Tests.{eqb-true, eqb-false, eq-eqb, ne_eqb, leb-true}
use mathlib.Core.Path.{◌≡◌, refl, sym, ap, ◌∙◌}
use mathlib.Core.Bool.{Bool, true, false, cond, not, ◌&&◌, ◌||◌}
use mathlib.Core.List.{List, [], ◌∷◌, ◌++◌, append_assoc}
use lib.Dec.{eqb, leb}
use lib.ListN.{length}
use Rattle.ground.proofs.Lists.{true_false, and_left, and_right}
use Rattle.letters.specs.Letters.{second_of, first_of, has_letter, letter, utf8}
use Rattle.letters.specs.Turning.{is_plain, is_first, behind_c2, behind_c3, pair_of, byte_for}

-- what holds of one entry of a table, and of all behind it
pub entry : (P : ℕ → Type 0) (x k b other : ℕ) → (x ≡ k → P b) → P other → P (cond (eqb x k) b other)
entry P x k b other yes-it no-it = go (eqb x k) refl
  where
    go : (q : Bool) → eqb x k ≡ q → P (cond q b other)
    go true e = yes-it (eqb-true x k e)
    go false e = no-it

-- a number is k, or another
pub by_eq : (S : ℕ → Type 0) (b k : ℕ) → S k → ((b ≡ k → ⊥) → S b) → S b
by_eq S b k same other = go (eqb b k) refl
  where
    go : (q : Bool) → eqb b k ≡ q → S b
    go true e = rw (eqb-true b k e) same
    go false e = other (eqb-false b k e)

-- what holds of the eight letters that are others than in ASCII, and of each byte that is the same, holds of each byte
pub each_letter : (S : ℕ → Type 0) (b : ℕ) → S 0x40 → S 0x5B → S 0x5C → S 0x5D → S 0x7B → S 0x7C → S 0x7D → S 0x7E → (second_of b ≡ 0 → S b) → S b
each_letter S b s1 s2 s3 s4 s5 s6 s7 s8 plain =
    by_eq S b 0x40 s1 (λ n1. by_eq S b 0x5B s2 (λ n2. by_eq S b 0x5C s3 (λ n3. by_eq S b 0x5D s4 (λ n4.
    by_eq S b 0x7B s5 (λ n5. by_eq S b 0x7C s6 (λ n6. by_eq S b 0x7D s7 (λ n7. by_eq S b 0x7E s8 (λ n8.
    plain (rw (ne_eqb b 0x40 n1, ne_eqb b 0x5B n2, ne_eqb b 0x5C n3, ne_eqb b 0x5D n4, ne_eqb b 0x7B n5, ne_eqb b 0x7C n6, ne_eqb b 0x7D n7, ne_eqb b 0x7E n8))))))))))

-- a letter has a byte
pub letter_some : (b : ℕ) → 0 < length (letter b)
unfolding letter
letter_some b = go (eqb (second_of b) 0)
  where
    go : (q : Bool) → 0 < length (cond q (b ∷ []) (first_of b ∷ second_of b ∷ []))
    go true = omega arith
    go false = omega arith

-- a letter of one byte, and of two
pub one_byte : (b : ℕ) → second_of b ≡ 0 → letter b ≡ b ∷ []
unfolding letter
one_byte b h = rw (h)

pub two_bytes : (b : ℕ) → (second_of b ≡ 0 → ⊥) → letter b ≡ first_of b ∷ second_of b ∷ []
unfolding letter
two_bytes b h = rw (ne_eqb (second_of b) 0 h)

-- ---- a letter of two bytes
abbrev Spelt : ℕ → ℕ → ℕ → Type 0
Spelt p x n = (n ≡ 0 → ⊥) → (letter n ≡ p ∷ x ∷ []) × (has_letter n ≡ true)

c3 : (x : ℕ) → Spelt 0xC3 x (behind_c3 x)
unfolding letter
c3 x =
    entry (Spelt 0xC3 x) x 0x84 0x5B _ (λ e z. (rw e, refl)) (entry (Spelt 0xC3 x) x 0x96 0x5C _ (λ e z. (rw e, refl))
    (entry (Spelt 0xC3 x) x 0x9C 0x5D _ (λ e z. (rw e, refl)) (entry (Spelt 0xC3 x) x 0xA4 0x7B _ (λ e z. (rw e, refl))
    (entry (Spelt 0xC3 x) x 0xB6 0x7C _ (λ e z. (rw e, refl)) (entry (Spelt 0xC3 x) x 0xBC 0x7D _ (λ e z. (rw e, refl))
    (entry (Spelt 0xC3 x) x 0x9F 0x7E 0 (λ e z. (rw e, refl)) (λ z. absurd (z refl))))))))

c2 : (x : ℕ) → Spelt 0xC2 x (behind_c2 x)
unfolding letter
c2 x = entry (Spelt 0xC2 x) x 0xA7 0x40 0 (λ e z. (rw e, refl)) (λ z. absurd (z refl))

-- ---- the letter that ends with x, where p is what it began with
-- p is 0, or the first byte of a letter of two
abbrev pub started : ℕ → Bool
started p = eqb p 0 || is_first p

abbrev pub front : ℕ → List ℕ
front p = cond (eqb p 0) [] (p ∷ [])

plain_letter : (x : ℕ) → is_plain x ≡ true → letter x ≡ x ∷ []
unfolding letter
plain_letter x h = rw (and_right (has_letter x) (eqb (second_of x) 0) h)

abbrev Ended : ℕ → ℕ → ℕ → Type 0
Ended p x n = (n ≡ 0 → ⊥) → (letter n ≡ front p ++ (x ∷ [])) × (has_letter n ≡ true)

ended_plain : (x : ℕ) → Ended 0 x (cond (is_plain x) x 0)
ended_plain x = go (is_plain x) refl
  where
    go : (q : Bool) → is_plain x ≡ q → Ended 0 x (cond q x 0)
    go true e z = (plain_letter x e, and_left (has_letter x) (eqb (second_of x) 0) e)
    go false e z = absurd (z refl)

pub ended : (p x : ℕ) → started p ≡ true → Ended p x (byte_for p x)
ended p x s = go (eqb p 0) refl (eqb p 0xC2) refl (eqb p 0xC3) refl s
  where
    go : (q : Bool) → eqb p 0 ≡ q → (r : Bool) → eqb p 0xC2 ≡ r → (t : Bool) → eqb p 0xC3 ≡ t → (q || (r || t)) ≡ true
        → Ended p x (cond q (cond (is_plain x) x 0) (cond t (behind_c3 x) (behind_c2 x)))
    go true e r f t g h = rw (eqb-true p 0 e) (ended_plain x)
    go false e r f true g h = rw (eqb-true p 0xC3 g) (c3 x)
    go false e true f false g h = rw (eqb-true p 0xC2 f) (c2 x)
    go false e false f false g h = absurd (true_false h refl)
