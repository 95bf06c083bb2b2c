-- One set of lengths within another, by its bits; and a length that shows where it is not. Assumes nothing.
use Prim.Native.Nat.{ℕ, zero, suc, ◌+◌, ◌*◌, ◌/◌, ◌%◌, ◌^◌, ◌<◌, ◌≤◌, min}
use native.Mathlib.Omega.{arith}
use native.Mathlib.Nat.{mod-lt, zero-lt-suc, div-add-mod', div-one, min-eq_left, pow-succ', div-div-eq-div-mul, not-suc-le-zero, lt_of_lt_of_le}
use mathlib.Core.Path.{◌≡◌, refl, sym, ap, ap₂, ◌∙◌}
use mathlib.Core.Logic.{◌⊎◌, inl, inr}
use mathlib.Core.Bool.{Bool, true, false}
use lib.Dec.{eqb, ltb, leb}
use lib.Pow.{pow_mono}
use lib.Arith.{bin_ind}
use lib.Bits.{bit_and, and_step, and_shr, and_mod}
use borrow.Author.Tests.{eqb-true, eqb-false, eq-eqb, leb-true, leb-false, lt-ltb}
use Rattle.ground.proofs.Lists.{true_false, and_left, and_right}
use Rattle.edition.specs.Sets.{permitted}
use Rattle.edition.proofs.Sets.{beyond}

-- the digit n of a number is 1
abbrev has : ℕ → ℕ → Bool
has set n = eqb (set / 2 ^ n % 2) 1

has_permitted : (set n : ℕ) → 0 < n → has set n ≡ true → permitted set n ≡ true
unfolding permitted
has_permitted set n p h = rw (lt-ltb 0 n p, h)

permitted_has : (set n : ℕ) → permitted set n ≡ true → has set n ≡ true
unfolding permitted
permitted_has set n h = and_right (ltb 0 n) (has set n) h

permitted_some : (set n : ℕ) → permitted set n ≡ true → ltb 0 n ≡ true
unfolding permitted
permitted_some set n h = and_left (ltb 0 n) (has set n) h

permitted_by : (set n : ℕ) → ltb 0 n ≡ true → has set n ≡ true → permitted set n ≡ true
unfolding permitted
permitted_by set n p h = rw (p, h)

least : (a b : ℕ) → a < 2 → b < 2 → bit_and a b ≡ 1 → b ≡ 1
least zero b p q e = absurd (omega arith)
least (suc zero) zero p q e = absurd (omega arith)
least (suc zero) (suc zero) p q e = refl
least (suc zero) (suc (suc b)) p q e = absurd (omega arith)
least (suc (suc a)) b p q e = absurd (omega arith)

-- a digit of both is a digit of the second
both_second : (i o n : ℕ) → has (bit_and i o) n ≡ true → has o n ≡ true
both_second i o n h =
    let e : bit_and i o / 2 ^ n % 2 ≡ 1 = eqb-true (bit_and i o / 2 ^ n % 2) 1 h in
    let f : bit_and (i / 2 ^ n % 2) (o / 2 ^ n % 2) ≡ 1 = sym (ap (λ (x : ℕ). x % 2) (and_shr i o n) ∙ and_mod (i / 2 ^ n) (o / 2 ^ n) 1) ∙ e in
    eq-eqb (o / 2 ^ n % 2) 1 (least (i / 2 ^ n % 2) (o / 2 ^ n % 2) (mod-lt (i / 2 ^ n) (zero-lt-suc 1)) (mod-lt (o / 2 ^ n) (zero-lt-suc 1)) f)

pub bits_within : (i o : ℕ) → bit_and i o ≡ i → (n : ℕ) → permitted i n ≡ true → permitted o n ≡ true
bits_within i o e n h = permitted_by o n (permitted_some i n h) (both_second i o n (rw e (permitted_has i n h)))

half : (set k : ℕ) → has set (suc k) ≡ has (set / 2) k
half set k = rw (pow-succ') (rw (div-div-eq-div-mul set 2 (2 ^ k)))

low_bit : (i o : ℕ) → (has i 0 ≡ true → has o 0 ≡ true) → min (i % 2) (o % 2) ≡ i % 2
low_bit i o h = min-eq_left (go (eqb (i / 2 ^ 0 % 2) 1) refl)
  where
    go : (q : Bool) → eqb (i / 2 ^ 0 % 2) 1 ≡ q → i % 2 ≤ o % 2
    go true e =
        let a : i / 1 % 2 ≡ 1 = eqb-true (i / 2 ^ 0 % 2) 1 e in
        let b : o / 1 % 2 ≡ 1 = eqb-true (o / 2 ^ 0 % 2) 1 (h e) in
        omega arith
    go false e =
        let a : i / 1 % 2 ≡ 1 → ⊥ = eqb-false (i / 2 ^ 0 % 2) 1 e in
        omega arith

has_within : (i o : ℕ) → ((n : ℕ) → has i n ≡ true → has o n ≡ true) → bit_and i o ≡ i
has_within i =
    bin_ind (λ (i : ℕ). (o : ℕ) → ((n : ℕ) → has i n ≡ true → has o n ≡ true) → bit_and i o ≡ i)
    (λ o h. refl)
    (λ n ih o h.
    and_step n o
    ∙ ap₂ (λ (a b : ℕ). a * 2 + b) (ih (o / 2) (λ k l. sym (half o k) ∙ h (suc k) (half n k ∙ l))) (low_bit n o (h 0))
    ∙ div-add-mod' n 2)
    i

even_none : (i : ℕ) → i % 2 ≡ 0 → has i 0 ≡ true → ⊥
even_none i e h =
    let a : i / 2 ^ 0 % 2 ≡ 1 = eqb-true (i / 2 ^ 0 % 2) 1 h in
    omega (arith, rw (div-one) at a)

pub within_bits : (i o : ℕ) → i % 2 ≡ 0 → ((n : ℕ) → permitted i n ≡ true → permitted o n ≡ true) → bit_and i o ≡ i
within_bits i o even h = has_within i o go
  where
    go : (n : ℕ) → has i n ≡ true → has o n ≡ true
    go zero t = absurd (even_none i even t)
    go (suc n) t = permitted_has o (suc n) (h (suc n) (has_permitted i (suc n) (omega arith) t))

-- ---- a length that the inner set has and the outer has not
pub record Lone (i o : ℕ) : Type 0 where
  pub size : ℕ
  pub inner : permitted i size ≡ true
  pub outer : permitted o size ≡ false

abbrev Below : ℕ → ℕ → ℕ → Type 0
Below k i o = (n : ℕ) → n < k → permitted i n ≡ true → permitted o n ≡ true

-- one length more
more : (k i o : ℕ) → Below k i o → (permitted i k ≡ true → permitted o k ≡ true) → Below (suc k) i o
more k i o h here n l t = at (eqb n k) refl
  where
    at : (q : Bool) → eqb n k ≡ q → permitted o n ≡ true
    at true e = rw (eqb-true n k e) (here (rw (← eqb-true n k e) t))
    at false e = h n (omega (arith, eqb-false n k e)) t

-- all lengths below k are in the outer set, or one is not
below : (k i o : ℕ) → Below k i o ⊎ Lone i o
below zero i o = inl (λ n l. absurd (not-suc-le-zero l))
below (suc k) i o = go (below k i o) (permitted i k) (permitted o k) refl refl
  where
    go : Below k i o ⊎ Lone i o → (p q : Bool) → permitted i k ≡ p → permitted o k ≡ q → Below (suc k) i o ⊎ Lone i o
    go (inr l) p q e f = inr l
    go (inl h) p true e f = inl (more k i o h (λ t. f))
    go (inl h) false false e f = inl (more k i o h (λ t. absurd (true_false t e)))
    go (inl h) true false e f = inr (record { size = k; inner = e; outer = f })

-- a set within 1 to 28 has no other length
all_below : (i o : ℕ) → i < 2 ^ 29 → Below 29 i o → (n : ℕ) → permitted i n ≡ true → permitted o n ≡ true
all_below i o small h n t = at (leb 29 n) refl
  where
    at : (q : Bool) → leb 29 n ≡ q → permitted o n ≡ true
    at true e = absurd (true_false t (beyond i n (lt_of_lt_of_le small (pow_mono (leb-true 29 n e)))))
    at false e = h n (leb-false 29 n e) t

-- where the bits are not within, a length shows it
pub lone : (i o : ℕ) → i % 2 ≡ 0 → i < 2 ^ 29 → eqb (bit_and i o) i ≡ false → Lone i o
lone i o even small b = go (below 29 i o)
  where
    go : Below 29 i o ⊎ Lone i o → Lone i o
    go (inl h) = absurd (eqb-false (bit_and i o) i b (within_bits i o even (all_below i o small h)))
    go (inr l) = l
