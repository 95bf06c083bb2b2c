-- The lengths of a set, from their text: after the part of length n the set holds what lies below n, but for a run that is still open. Assumes nothing.
use Prim.Native.Nat.{ℕ, zero, suc, ◌+◌, ◌-◌, ◌*◌, ◌/◌, ◌%◌, ◌^◌, ◌≤◌, ◌<◌}
use native.Mathlib.Nat.{pow-suc, mod-lt, mod-eq_of_lt, div-eq_of_lt, zero-lt-suc}
use native.Mathlib.Numerals.{add-one}
use native.Mathlib.Omega.{arith}
use borrow.Author.Tests.{eqb-true, eqb-false, eq-eqb, ne_eqb, le-ltb}
use mathlib.Core.Path.{◌≡◌, refl, sym, ap, ◌∙◌}
use mathlib.Core.Bool.{Bool, true, false, cond}
use mathlib.Core.List.{List, [], ◌∷◌}
use lib.Bits.{bit_or, or_shifted_r}
use lib.Pow.{pow_pos, mod-pow-add}
use lib.Dec.{eqb}
use lib.ListN.{length}
use Rattle.ground.specs.Lists.{same_list}
use Rattle.ground.specs.Rooms.{decimal}
use Rattle.ground.proofs.Lists.{true_false}
use Rattle.table_text.specs.Vocabulary.{vocabulary, word_of}
use Rattle.table_text.specs.Texts.{has, has_before, first_part, length_part, length_parts, lengths_text}
use Rattle.table_text.proofs.LengthLaws.{part_none, part_first, part_inside, part_last}
use Rattle.table_take.specs.declared.Listed.{Listed}
use Rattle.table_take.specs.Splitting.{through}
use Rattle.table_take.specs.Numbers.{with_byte, number_of}
use Rattle.table_take.specs.LengthSets.{with_range, item_fault, range_fault, listed, nothing_listed, settled, closed, begun, with_sign, lengths_of}
use Rattle.table_take.proofs.Signs.{Among, none, more, among_append, among_wider, Word, through_cons, through_append}
use Rattle.table_take.proofs.Decimals.{decimal_back, decimal_digits}
use Rattle.table_take.proofs.Spelled.{same_self, word_signs}

-- ---- digits make a number
sign_digit : (x f m b : ℕ) → 0x30 ≤ b → with_sign (listed 0 x f m) b ≡ listed 0 x f (with_byte m b)
unfolding with_sign
sign_digit x f m b h = rw (ne_eqb b 0x2C (λ z. omega arith), ne_eqb b 0x2D (λ z. omega arith))

through_digits : {w : List ℕ} → Among 0x30 0x39 w → (x f m : ℕ) → through with_sign (listed 0 x f m) w ≡ listed 0 x f (through with_byte m w)
unfolding through
through_digits none x f m = refl
through_digits (more {b} {bs} lo hi s) x f m = rw (sign_digit x f m b lo) (through_digits s x f (with_byte m b))

written : (x f n : ℕ) → n < 32 → through with_sign (listed 0 x f 258) (decimal n) ≡ listed 0 x f n
unfolding number_of
written x f n h = through_digits (decimal_digits n (omega arith)) x f 258 ∙ ap (listed 0 x f) (decimal_back n (omega arith))

-- ---- lengths that are added
or_above : (x a : ℕ) → x < 2 ^ a → bit_or x (2 ^ a) ≡ x + 2 ^ a
or_above x a h =
    let one : 1 * 2 ^ a ≡ 2 ^ a = omega arith in
    let e : bit_or x (1 * 2 ^ a) ≡ 1 * 2 ^ a + x = or_shifted_r 1 a x h in
    rw one at e ∙ omega arith

range_sum : (k a x : ℕ) → x < 2 ^ a → with_range x a k + 2 ^ a ≡ x + 2 ^ (a + k)
unfolding with_range
range_sum zero a x h = let e : a + 0 ≡ a = omega arith in rw e
range_sum (suc k) a x h =
    let o = or_above x a h in
    let d = pow-suc 2 a in
    let ih = range_sum k (suc a) (x + 2 ^ a) (omega arith) in
    let e : a + suc k ≡ suc a + k = omega arith in
    rw (o, e) (omega arith)

close_alone : (x a : ℕ) → a < 32 → x < 2 ^ a → closed (listed 0 x 32 a) ≡ listed 0 (x + 2 ^ a) 32 258
unfolding closed settled item_fault with_range
close_alone x a h l =
    let e : a + 1 - a ≡ 1 = omega arith in
    rw (le-ltb 256 a (omega arith), le-ltb 31 a (omega arith), le-ltb a a (omega arith), e, or_above x a l)

close_range : (x a n : ℕ) → a ≤ n → n < 32 → closed (listed 0 x a n) ≡ listed 0 (with_range x a (n + 1 - a)) 32 258
unfolding closed settled item_fault
close_range x a n h l = rw (le-ltb 256 n (omega arith), le-ltb 31 n (omega arith), ne_eqb a 32 (λ z. omega arith), le-ltb n a h)

-- ---- the digits of a set
module _ (set n : ℕ) where
  split : set % 2 ^ suc n ≡ set / 2 ^ n % 2 * 2 ^ n + set % 2 ^ n
  split = let e : 1 + n ≡ suc n = omega arith in rw e at (mod-pow-add set 1 n)

  bit-on : has set n ≡ true → set % 2 ^ suc n ≡ set % 2 ^ n + 2 ^ n
  unfolding has
  bit-on h = let s = rw (eqb-true (set / 2 ^ n % 2) 1 h) at split in omega arith

  bit-off : has set n ≡ false → set % 2 ^ suc n ≡ set % 2 ^ n
  unfolding has
  bit-off h =
      let z : set / 2 ^ n % 2 ≡ 0 = omega (arith, eqb-false (set / 2 ^ n % 2) 1 h, mod-lt (set / 2 ^ n) (zero-lt-suc 1)) in
      let s = rw z at split in
      omega arith

  next-before : has_before set (suc n) ≡ has set n
  unfolding has_before
  next-before = refl

  low : set % 2 ^ n < 2 ^ n
  low = mod-lt set (pow_pos n)

-- ---- what is listed when the parts of the lengths below n are read
data At (set n : ℕ) : Listed → Type 0 where
  nothing : set % 2 ^ n ≡ 0 → has_before set n ≡ false → At set n nothing_listed
  open-from : (a : ℕ) → a < n → has_before set n ≡ true → set % 2 ^ n + 2 ^ a ≡ set % 2 ^ a + 2 ^ n → (has set n ≡ false → a + 1 ≡ n) → At set n (listed 0 (set % 2 ^ a) 32 a)
  shut : {s : Listed} → s.wrong ≡ 0 → closed s ≡ listed 0 (set % 2 ^ n) 32 258 → 0 < set % 2 ^ n → (has set n ≡ true → has_before set n ≡ false) → At set n s

abbrev done : ℕ → Listed
done v = listed 0 v 32 258

module _ (set n : ℕ) (h : n < 32) where
  -- the length is not in the set
  step-off : has set n ≡ false → {s : Listed} → At set n s → At set (suc n) s
  step-off z (nothing e b) = nothing (bit-off set n z ∙ e) (next-before set n ∙ z)
  step-off z (open-from a l b e one) =
      let p : 2 ^ n ≡ 2 ^ a * 2 = rw (← one z, add-one) (pow-suc 2 a) in
      let v : set % 2 ^ a + 2 ^ a ≡ set % 2 ^ suc n = omega (arith, bit-off set n z) in
      shut refl (close_alone (set % 2 ^ a) a (omega arith) (low set a) ∙ ap done v) (omega (arith, pow_pos a)) (λ on. next-before set n ∙ z)
  step-off z (shut w c q f) =
      let v : set % 2 ^ n ≡ set % 2 ^ suc n = sym (bit-off set n z) in
      shut w (c ∙ ap done v) (omega arith) (λ on. next-before set n ∙ z)

  -- it is the first of a run
  opened : has set n ≡ true → At set (suc n) (listed 0 (set % 2 ^ n) 32 n)
  opened on = open-from n (omega arith) (next-before set n ∙ on) (omega (arith, bit-on set n on, pow-suc 2 n)) (λ off. add-one n)

  comma : (s : Listed) → s.wrong ≡ 0 → with_sign s 0x2C ≡ closed s
  unfolding with_sign
  comma s e = rw (eq-eqb s.wrong 0 e)

  first_alone : set % 2 ^ n ≡ 0 → first_part set n ≡ decimal n
  unfolding first_part
  first_alone e = rw (eq-eqb (set % 2 ^ n) 0 e)

  first_more : 0 < set % 2 ^ n → first_part set n ≡ 0x2C ∷ decimal n
  unfolding first_part
  first_more q = rw (ne_eqb (set % 2 ^ n) 0 (λ z. omega arith))

  after-sign : (s : Listed) (b x f : ℕ) → with_sign s b ≡ listed 0 x f 258 → through with_sign s (b ∷ decimal n) ≡ listed 0 x f n
  after-sign s b x f e = through_cons with_sign s b (decimal n) ∙ ap (λ (t : Listed). through with_sign t (decimal n)) e ∙ written x f n h

  step-first : has set n ≡ true → has_before set n ≡ false → {s : Listed} → At set n s → At set (suc n) (through with_sign s (first_part set n))
  step-first on off (nothing e b) =
      let z : through with_sign nothing_listed (decimal n) ≡ listed 0 (set % 2 ^ n) 32 n = written 0 32 n h ∙ ap (λ (v : ℕ). listed 0 v 32 n) (sym e) in
      rw (first_alone e, z) (opened on)
  step-first on off (open-from a l b e one) = absurd (true_false b off)
  step-first on off (shut {s} w c q f) = rw (first_more q, after-sign s 0x2C (set % 2 ^ n) 32 (comma s w ∙ c)) (opened on)

  -- it is within a run
  step-inside : has set n ≡ true → has_before set n ≡ true → has set (n + 1) ≡ true → {s : Listed} → At set n s → At set (suc n) s
  step-inside on there next (nothing e b) = absurd (true_false there b)
  step-inside on there next (open-from a l b e one) =
      open-from a (omega arith) (next-before set n ∙ on) (omega (arith, bit-on set n on, pow-suc 2 n)) (λ off. absurd (true_false (rw (add-one) at next) off))
  step-inside on there next (shut w c q f) = absurd (true_false there (f on))

  -- it is the last of a run
  dash : (x a : ℕ) → a < 32 → with_sign (listed 0 x 32 a) 0x2D ≡ listed 0 x a 258
  unfolding with_sign begun range_fault
  dash x a l = rw (le-ltb 256 a (omega arith), le-ltb 31 a (omega arith))

  step-last : has set n ≡ true → has_before set n ≡ true → has set (n + 1) ≡ false → {s : Listed} → At set n s → At set (suc n) (through with_sign s (0x2D ∷ decimal n))
  step-last on there off (nothing e b) = absurd (true_false there b)
  step-last on there off (open-from a l b e one) =
      let k : a + (n + 1 - a) ≡ suc n = omega arith in
      let r = rw k at (range_sum (n + 1 - a) a (set % 2 ^ a) (low set a)) in
      let v : with_range (set % 2 ^ a) a (n + 1 - a) ≡ set % 2 ^ suc n = omega (arith, bit-on set n on, pow-suc 2 n) in
      rw (after-sign (listed 0 (set % 2 ^ a) 32 a) 0x2D (set % 2 ^ a) a (dash (set % 2 ^ a) a (omega arith)))
      (shut refl (close_range (set % 2 ^ a) a n (omega arith) h ∙ ap done v) (omega (arith, bit-on set n on, pow_pos n)) (λ yes. absurd (true_false yes (rw (add-one) at off))))
  step-last on there off (shut w c q f) = absurd (true_false there (f on))

  step : {s : Listed} → At set n s → At set (suc n) (through with_sign s (length_part set n))
  unfolding through
  step {s} m = go (has set n) refl (has_before set n) refl (has set (n + 1)) refl
    where
      go : (q : Bool) → has set n ≡ q → (r : Bool) → has_before set n ≡ r → (t : Bool) → has set (n + 1) ≡ t → At set (suc n) (through with_sign s (length_part set n))
      go false e r f t g = rw (part_none set n e) (step-off e m)
      go true e false f t g = rw (part_first set n e f) (step-first e f m)
      go true e true f true g = rw (part_inside set n e f g) (step-inside e f g m)
      go true e true f false g = rw (part_last set n e f g) (step-last e f g m)

steps : (set k n : ℕ) → n + k ≡ 32 → {s : Listed} → At set n s → At set 32 (through with_sign s (length_parts set n k))
unfolding length_parts through
steps set zero n e m = let z : n ≡ 32 = omega arith in rw z at m
steps set (suc k) n e {s} m = rw (through_append with_sign s (length_part set n) (length_parts set (suc n) k)) (steps set k (suc n) (omega arith) (step set n (omega arith) m))

at_start : (set : ℕ) → At set 0 nothing_listed
unfolding has_before
at_start set = nothing (omega (arith, mod-lt set (pow_pos 0))) refl

at_end : (set : ℕ) → set < 2 ^ 32 → 0 < set → {s : Listed} → At set 32 s → closed s ≡ done set
unfolding has
at_end set h p (nothing e b) = absurd (omega (arith, mod-eq_of_lt h))
at_end set h p (open-from a l b e one) =
    let off : eqb (set / 2 ^ 32 % 2) 1 ≡ false = rw (div-eq_of_lt h) in
    let last : a ≡ 31 = omega (arith, one off) in
    let t : 2 ^ a * 2 ≡ 2 ^ 32 = rw last in
    let v : set % 2 ^ a + 2 ^ a ≡ set = omega (arith, mod-eq_of_lt h) in
    close_alone (set % 2 ^ a) a l (low set a) ∙ ap done v
at_end set h p (shut w c q f) = c ∙ ap done (mod-eq_of_lt h)

-- ---- the signs of such a text
part_signs : (set n : ℕ) → n < 32 → Among 0x2C 0x39 (length_part set n)
unfolding length_part first_part
part_signs set n h = go (has set n) (has_before set n) (has set (n + 1)) (eqb (set % 2 ^ n) 0)
  where
    digits : Among 0x2C 0x39 (decimal n)
    digits = among_wider 0x2C 0x39 (omega arith) (omega arith) (decimal_digits n (omega arith))

    go : (q r t u : Bool) → Among 0x2C 0x39 (cond q (cond r (cond t [] (0x2D ∷ decimal n)) (cond u (decimal n) (0x2C ∷ decimal n))) [])
    go false r t u = none
    go true true true u = none
    go true true false u = more {b = 0x2D} (omega arith) (omega arith) digits
    go true false t true = digits
    go true false t false = more {b = 0x2C} (omega arith) (omega arith) digits

parts_signs : (set k n : ℕ) → n + k ≤ 32 → Among 0x2C 0x39 (length_parts set n k)
unfolding length_parts
parts_signs set zero n h = none
parts_signs set (suc k) n h = among_append (part_signs set n (omega arith)) (parts_signs set k (suc n) (omega arith))

not_none : {w : List ℕ} → Among 0x2C 0x39 w → same_list w (word_of 28) ≡ false
unfolding same_list vocabulary
not_none none = refl
not_none (more {b} {bs} lo hi s) = rw (ne_eqb b 0x6E (λ z. omega arith))

-- ---- the set comes back
pub lengths_back : (set : ℕ) → set < 2 ^ 32 → lengths_of (lengths_text set) ≡ done set
unfolding lengths_text lengths_of
lengths_back set h = go (eqb set 0) refl
  where
    go : (q : Bool) → eqb set 0 ≡ q → lengths_of (cond q (word_of 28) (length_parts set 0 32)) ≡ done set
    go true e = rw (same_self (word_of 28)) (ap done (sym (eqb-true set 0 e)))
    go false e = rw (not_none (parts_signs set 32 0 (omega arith))) (at_end set h (omega (arith, eqb-false set 0 e)) (steps set 32 0 (omega arith) (at_start set)))

some_listed : (set : ℕ) (w : List ℕ) → lengths_of w ≡ done set → 0 < length w
unfolding lengths_of closed settled item_fault through same_list vocabulary
some_listed set [] e = let z : ◌≡◌ {A = ℕ} 7 0 = ap (λ (s : Listed). s.wrong) e in absurd (omega arith)
some_listed set (b ∷ bs) e = omega arith

pub lengths_word : (set : ℕ) → set < 2 ^ 32 → Word (lengths_text set)
unfolding lengths_text
lengths_word set h = record { some = some_listed set (lengths_text set) (lengths_back set h); signs = go (eqb set 0) }
  where
    go : (q : Bool) → Among 0x21 0x7E (cond q (word_of 28) (length_parts set 0 32))
    go true = word_signs 28 (omega arith)
    go false = among_wider 0x21 0x7E (omega arith) (omega arith) (parts_signs set 32 0 (omega arith))
