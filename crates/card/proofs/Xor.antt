-- The exclusive or of bytes: the order in which it is taken does not matter. Assumes nothing.
use mathlib.Core.Path.{◌≡◌, refl, sym, ap, ap₂, ◌∙◌}
use mathlib.Core.List.{List, [], ◌∷◌, ◌++◌}
use Prim.Native.Nat.{ℕ, zero, suc, ◌+◌, ◌*◌, ◌/◌, ◌%◌, ◌^◌, ◌≤◌, ◌<◌}
use native.Mathlib.Nat.{mod-lt, zero-lt-suc}
use native.Mathlib.Omega.{arith}
use native.Mathlib.Numerals.{add-one}
use lib.ListN.{length, get_or, take}
use lib.Seq.{take-suc}
use lib.Arith.{bin_ind}
use lib.Bits.{bit_xor, differ, xor_step, xor_comm, xor_shr, xor_mod, xor_zero_r, xor_self, xor_lt}
use Rattle.card.specs.Layout.{xor_all}

digit_assoc : (x y z : ℕ) → x < 2 → y < 2 → z < 2 → differ (bit_xor x y) z ≡ differ x (bit_xor y z)
digit_assoc zero zero z hx hy hz = refl
digit_assoc zero (suc zero) zero hx hy hz = refl
digit_assoc zero (suc zero) (suc zero) hx hy hz = refl
digit_assoc zero (suc zero) (suc (suc z)) hx hy hz = absurd (omega arith)
digit_assoc zero (suc (suc y)) z hx hy hz = absurd (omega arith)
digit_assoc (suc zero) zero z hx hy hz = refl
digit_assoc (suc zero) (suc zero) zero hx hy hz = refl
digit_assoc (suc zero) (suc zero) (suc zero) hx hy hz = refl
digit_assoc (suc zero) (suc zero) (suc (suc z)) hx hy hz = absurd (omega arith)
digit_assoc (suc zero) (suc (suc y)) z hx hy hz = absurd (omega arith)
digit_assoc (suc (suc x)) y z hx hy hz = absurd (omega arith)

pub xor_assoc : (a b c : ℕ) → bit_xor (bit_xor a b) c ≡ bit_xor a (bit_xor b c)
xor_assoc a =
    bin_ind (λ (n : ℕ). (b c : ℕ) → bit_xor (bit_xor n b) c ≡ bit_xor n (bit_xor b c))
    (λ b c. refl)
    (λ n ih b c.
    xor_step (bit_xor n b) c
    ∙ ap₂ (λ (h d : ℕ). bit_xor h (c / 2) * 2 + differ d (c % 2)) (xor_shr n b 1) (xor_mod n b 1)
    ∙ ap₂ (λ (h d : ℕ). h * 2 + d) (ih (b / 2) (c / 2))
    (digit_assoc (n % 2) (b % 2) (c % 2) (mod-lt n (zero-lt-suc 1)) (mod-lt b (zero-lt-suc 1)) (mod-lt c (zero-lt-suc 1)))
    ∙ ap₂ (λ (h d : ℕ). bit_xor (n / 2) h * 2 + differ (n % 2) d) (sym (xor_shr b c 1)) (sym (xor_mod b c 1))
    ∙ sym (xor_step n (bit_xor b c)))
    a

-- what is taken twice is gone
pub xor_cancel : (a b : ℕ) → bit_xor (bit_xor a b) b ≡ a
xor_cancel a b = xor_assoc a b b ∙ ap (bit_xor a) (xor_self b) ∙ xor_zero_r a

pub xor_append : (xs ys : List ℕ) → xor_all (xs ++ ys) ≡ bit_xor (xor_all xs) (xor_all ys)
unfolding xor_all
xor_append [] ys = refl
xor_append (x ∷ xs) ys = ap (bit_xor x) (xor_append xs ys) ∙ sym (xor_assoc x (xor_all xs) (xor_all ys))

-- one byte more
pub xor_next : (i : ℕ) (l : List ℕ) → i < length l → bit_xor (xor_all (take i l)) (get_or l i 0) ≡ xor_all (take (i + 1) l)
unfolding xor_all
xor_next i l h =
    ap (bit_xor (xor_all (take i l))) (sym (xor_zero_r (get_or l i 0))) ∙ sym (xor_append (take i l) (get_or l i 0 ∷ []))
    ∙ ap xor_all (sym (take-suc l i 0 h) ∙ ap (λ (n : ℕ). take n l) (sym (add-one i)))

-- ---- words of four bytes, the first byte lowest

-- the exclusive or of a word's bytes
abbrev pub folded : ℕ → ℕ
folded w = bit_xor (bit_xor (bit_xor (w % 256) (w / 256 % 256)) (w / 65536 % 256)) (w / 16777216)

-- two pairs crosswise
xor_cross : (a b x y : ℕ) → bit_xor (bit_xor a x) (bit_xor b y) ≡ bit_xor (bit_xor a b) (bit_xor x y)
xor_cross a b x y =
    xor_assoc a x (bit_xor b y)
    ∙ ap (bit_xor a) (sym (xor_assoc x b y) ∙ ap (λ (z : ℕ). bit_xor z y) (xor_comm x b) ∙ xor_assoc b x y)
    ∙ sym (xor_assoc a b (bit_xor x y))

-- folding words and then their bytes is folding the bytes
pub folded_xor : (v w : ℕ) → folded (bit_xor v w) ≡ bit_xor (folded v) (folded w)
folded_xor v w =
    let byte : (k : ℕ) → bit_xor v w / 2 ^ k % 256 ≡ bit_xor (v / 2 ^ k % 256) (w / 2 ^ k % 256) = λ k. ap (λ (n : ℕ). n % 256) (xor_shr v w k) ∙ xor_mod (v / 2 ^ k) (w / 2 ^ k) 8 in
    ap₂ bit_xor (ap₂ bit_xor (ap₂ bit_xor (xor_mod v w 8) (byte 8)) (byte 16)) (xor_shr v w 24)
    ∙ ap (λ (k : ℕ). bit_xor (bit_xor k (bit_xor (v / 65536 % 256) (w / 65536 % 256))) (bit_xor (v / 16777216) (w / 16777216))) (xor_cross (v % 256) (v / 256 % 256) (w % 256) (w / 256 % 256))
    ∙ ap (λ (k : ℕ). bit_xor k (bit_xor (v / 16777216) (w / 16777216)))
    (xor_cross (bit_xor (v % 256) (v / 256 % 256)) (v / 65536 % 256) (bit_xor (w % 256) (w / 256 % 256)) (w / 65536 % 256))
    ∙ xor_cross (bit_xor (bit_xor (v % 256) (v / 256 % 256)) (v / 65536 % 256)) (v / 16777216) (bit_xor (bit_xor (w % 256) (w / 256 % 256)) (w / 65536 % 256)) (w / 16777216)

-- a word more: its bytes are the next four
pub xor_word : (v w i : ℕ) (l : List ℕ) → i + 4 ≤ length l → folded v ≡ xor_all (take i l)
    → w % 256 ≡ get_or l i 0 → w / 256 % 256 ≡ get_or l (i + 1) 0 → w / 65536 % 256 ≡ get_or l (i + 2) 0 → w / 16777216 ≡ get_or l (i + 3) 0
    → folded (bit_xor v w) ≡ xor_all (take (i + 4) l)
xor_word v w i l h so first second third fourth =
    let b₀ = get_or l i 0 in
    let b₁ = get_or l (i + 1) 0 in
    let b₂ = get_or l (i + 2) 0 in
    let b₃ = get_or l (i + 3) 0 in
    let s = xor_all (take i l) in
    let e₂ : i + 1 + 1 ≡ i + 2 = omega arith in
    let e₃ : i + 2 + 1 ≡ i + 3 = omega arith in
    let e₄ : i + 3 + 1 ≡ i + 4 = omega arith in
    let two : bit_xor (xor_all (take (i + 1) l)) b₁ ≡ xor_all (take (i + 2) l) = xor_next (i + 1) l (omega arith) ∙ rw e₂ refl in
    let three : bit_xor (xor_all (take (i + 2) l)) b₂ ≡ xor_all (take (i + 3) l) = xor_next (i + 2) l (omega arith) ∙ rw e₃ refl in
    let four : bit_xor (xor_all (take (i + 3) l)) b₃ ≡ xor_all (take (i + 4) l) = xor_next (i + 3) l (omega arith) ∙ rw e₄ refl in
    folded_xor v w ∙ ap₂ bit_xor so (ap₂ bit_xor (ap₂ bit_xor (ap₂ bit_xor first second) third) fourth)
    ∙ sym (xor_assoc s (bit_xor (bit_xor b₀ b₁) b₂) b₃)
    ∙ ap (λ (n : ℕ). bit_xor n b₃)
    (sym (xor_assoc s (bit_xor b₀ b₁) b₂)
    ∙ ap (λ (n : ℕ). bit_xor n b₂) (sym (xor_assoc s b₀ b₁) ∙ ap (λ (n : ℕ). bit_xor n b₁) (xor_next i l (omega arith)) ∙ two)
    ∙ three)
    ∙ four

-- of bytes it is a byte
pub xor_below : (l : List ℕ) → ((k : ℕ) → k < length l → get_or l k 0 < 256) → xor_all l < 256
unfolding xor_all
xor_below [] h = omega arith
xor_below (x ∷ xs) h = xor_lt 8 x (xor_all xs) (h 0 (omega arith)) (xor_below xs (λ k j. h (suc k) (omega arith)))

-- a run closed with its own exclusive or makes 0
pub xor_closed : (xs : List ℕ) → xor_all (xs ++ (xor_all xs ∷ [])) ≡ 0
unfolding xor_all
xor_closed xs = xor_append xs (xor_all xs ∷ []) ∙ ap (bit_xor (xor_all xs)) (xor_zero_r (xor_all xs)) ∙ xor_self (xor_all xs)
