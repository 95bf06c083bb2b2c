-- The ends of a set of lengths, and what lies beyond them. Assumes nothing.
use mathlib.Core.Path.{◌≡◌, refl, sym, ap}
use mathlib.Core.Bool.{Bool, true, false, ◌&&◌}
use Prim.Native.Nat.{ℕ, zero, suc, ◌/◌, ◌%◌, ◌^◌, ◌≤◌, ◌<◌}
use native.Mathlib.Nat.{pow-suc, pow-succ', div-div-eq-div-mul, div-one, div-eq_of_lt, div-eq_of_lt-le, mod-lt, le_of_suc-le-suc, not-suc-le-zero, zero-lt-suc, lt_of_lt_of_le}
use native.Mathlib.Omega.{arith}
use lib.Dec.{ltb}
use borrow.Author.Tests.{lt-ltb}
use lib.Pow.{pow_mono}
use lib.Count.{count_trailing_zeros, leading_top, trailing_le, under}
use Rattle.edition.specs.Sets.{permitted, shortest_of, longest_of}

pub record Least (set r : ℕ) : Type 0 where
  pub member : permitted set r ≡ true
  pub least : (k : ℕ) → k < r → permitted set k ≡ false

pub record Greatest (set r : ℕ) : Type 0 where
  pub member : permitted set r ≡ true
  pub greatest : (k : ℕ) → r < k → permitted set k ≡ false

-- a digit above the lowest is a digit of the half
step : (n t : ℕ) → n / 2 ^ suc t ≡ n / 2 / 2 ^ t
step n t = rw (pow-succ') (sym (div-div-eq-div-mul n 2 (2 ^ t)))

half_lt : (k n : ℕ) → n < 2 ^ suc k → n / 2 < 2 ^ k
half_lt k n h = omega (arith, pow-suc 2 k)

-- at the count of trailing zeros stands a set digit, and below it none. The lowest digit d is taken apart, with what holds of the half
set_by : (n d t k : ℕ) → n % 2 ≡ d → 0 < n → n < 2 ^ suc k → (0 < n / 2 → n / 2 < 2 ^ k → n / 2 / 2 ^ t % 2 ≡ 1) → n / 2 ^ under d t % 2 ≡ 1
set_by n zero t k e p h rest = rw (step) (rest (omega arith) (half_lt k n h))
set_by n (suc d) t k e p h rest = rw (div-one) (omega (arith, mod-lt n (zero-lt-suc 1)))

tz_set : (k n : ℕ) → 0 < n → n < 2 ^ k → n / 2 ^ count_trailing_zeros k n % 2 ≡ 1
unfolding count_trailing_zeros
tz_set zero n p h = absurd (omega arith)
tz_set (suc k) n p h = set_by n (n % 2) (count_trailing_zeros k (n / 2)) k refl p h (tz_set k (n / 2))

low_by : (n d t j : ℕ) → n % 2 ≡ d → j < under d t → ((i : ℕ) → i < t → n / 2 / 2 ^ i % 2 ≡ 0) → n / 2 ^ j % 2 ≡ 0
low_by n (suc d) t j e h rest = absurd (not-suc-le-zero h)
low_by n zero t zero e h rest = rw (div-one) e
low_by n zero t (suc j) e h rest = rw (step) (rest j (le_of_suc-le-suc h))

tz_low : (k n j : ℕ) → j < count_trailing_zeros k n → n / 2 ^ j % 2 ≡ 0
unfolding count_trailing_zeros
tz_low zero n j h = absurd (not-suc-le-zero h)
tz_low (suc k) n j h = low_by n (n % 2) (count_trailing_zeros k (n / 2)) j refl h (tz_low k (n / 2))

-- a digit that is 0 is no member
out : (set k : ℕ) → set / 2 ^ k % 2 ≡ 0 → permitted set k ≡ false
unfolding permitted
out set k z = rw z (go (ltb 0 k))
  where
    go : (q : Bool) → (q && false) ≡ false
    go true = refl
    go false = refl

-- a digit that is 1, but for that of 0, is a member
within : (set k : ℕ) → 0 < k → set / 2 ^ k % 2 ≡ 1 → permitted set k ≡ true
unfolding permitted
within set k p e = rw (lt-ltb 0 k p, e)

-- 0 is no member
pub never_0 : (set : ℕ) → permitted set 0 ≡ false
unfolding permitted
never_0 set = refl

-- a length past the number's digits is no member
pub beyond : (set k : ℕ) → set < 2 ^ k → permitted set k ≡ false
beyond set k h = out set k (rw (div-eq_of_lt h))

-- an even number has no digit 1 at 0
even_up : (set k : ℕ) → set % 2 ≡ 0 → set / 2 ^ k % 2 ≡ 1 → 0 < k
even_up set zero e h = absurd (omega (arith, rw (div-one) at h))
even_up set (suc k) e h = omega arith

-- the ends of a set of which 0 is no digit
pub shortest_least : (set : ℕ) → 0 < set → set % 2 ≡ 0 → set < 2 ^ 32 → Least set (shortest_of set)
unfolding shortest_of
shortest_least set p e h = record {
  member = within set _ (even_up set _ e (tz_set 32 set p h)) (tz_set 32 set p h);
  least = λ k b. out set k (tz_low 32 set k b);
}

pub longest_greatest : (set : ℕ) → 0 < set → set % 2 ≡ 0 → set < 2 ^ 32 → Greatest set (longest_of set)
unfolding longest_of
longest_greatest set p e h =
    let t = leading_top 32 set p h in
    let j = t.0 in
    let is : longest_of set ≡ j = omega (arith, t.1) in
    let top : set / 2 ^ j % 2 ≡ 1 = ap (λ (x : ℕ). x % 2) (div-eq_of_lt-le {k = 1} (2 ^ j) (omega (arith, t.2)) (omega (arith, t.3, pow-suc 2 j))) in
    rw is record {
      member = within set j (even_up set j e top) top;
      greatest = λ k b. beyond set k (lt_of_lt_of_le t.3 (pow_mono b));
    }

-- both ends fit a byte
pub shortest_small : (set : ℕ) → shortest_of set ≤ 32
unfolding shortest_of
shortest_small set = trailing_le 32 set

pub longest_small : (set : ℕ) → longest_of set ≤ 31
unfolding longest_of
longest_small set = omega arith
