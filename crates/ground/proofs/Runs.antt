-- How far a list agrees with another, part by part. Assumes nothing.
use Prim.Native.Nat.{ℕ, zero, suc, ◌+◌, ◌-◌, ◌≤◌, ◌<◌}
use native.Mathlib.Nat.{le_of_suc-le-suc}
use native.Mathlib.Omega.{arith}
use borrow.Author.Count.{below_more}
use borrow.Author.Tests.{eqb-true, eqb-false, eq-eqb, ne_eqb}
use mathlib.Core.Path.{◌≡◌, refl, sym, ap, ◌∙◌}
use mathlib.Core.Bool.{Bool, true, false, cond, ◌&&◌}
use mathlib.Core.List.{List, [], ◌∷◌, ◌++◌}
use lib.Bits.{bit_or, bit_xor, or_add_and, xor_add_and, and_le_l, and_le_r, xor_self}
use lib.Dec.{eqb}
use lib.ListN.{length, get_or, take, drop, replicate, length-replicate, get_or-replicate, length-drop}
use lib.Seq.{drop-drop, take_all}
use Rattle.std.specs.List.{prefix_len}
use Rattle.ground.specs.Lists.{agree, same_list}
use Rattle.ground.proofs.Lists.{agree_same, eqb_turned, one_more}

-- what lies behind the length of the first list is not looked at
pub agree_cut : (n : ℕ) (xs zs : List ℕ) → length xs ≤ n → agree xs (take n zs) ≡ agree xs zs
unfolding agree
agree_cut n [] zs h = refl
agree_cut zero (x ∷ xs) zs h = absurd (omega arith)
agree_cut (suc n) (x ∷ xs) [] h = refl
agree_cut (suc n) (x ∷ xs) (z ∷ zs) h = rw (agree_cut n xs zs (le_of_suc-le-suc h))

-- a list agrees with its own head
pub agree_own : (n : ℕ) (zs : List ℕ) → agree (take n zs) zs ≡ length (take n zs)
unfolding agree
agree_own zero zs = refl
agree_own (suc n) [] = refl
agree_own (suc n) (z ∷ zs) = rw (eq-eqb z z refl) (ap suc (agree_own n zs))

-- two parts, where the first differs, and where it does not
pub agree_short : (xs ys zs : List ℕ) → agree xs zs < length xs → agree (xs ++ ys) zs ≡ agree xs zs
unfolding agree
agree_short [] ys zs h = absurd (omega arith)
agree_short (x ∷ xs) ys [] h = refl
agree_short (x ∷ xs) ys (z ∷ zs) h = go (eqb x z) h (agree_short xs ys zs)
  where
    go : (q : Bool) → cond q (suc (agree xs zs)) 0 < suc (length xs) → (agree xs zs < length xs → agree (xs ++ ys) zs ≡ agree xs zs)
        → cond q (suc (agree (xs ++ ys) zs)) 0 ≡ cond q (suc (agree xs zs)) 0
    go true l ih = ap suc (ih (le_of_suc-le-suc l))
    go false l ih = refl

pub agree_over : (xs ys zs : List ℕ) → length xs ≤ agree xs zs → agree (xs ++ ys) zs ≡ length xs + agree ys (drop (length xs) zs)
unfolding agree
agree_over [] ys zs h = omega arith
agree_over (x ∷ xs) ys [] h = absurd (omega arith)
agree_over (x ∷ xs) ys (z ∷ zs) h = go (eqb x z) h (agree_over xs ys zs)
  where
    go : (q : Bool) → suc (length xs) ≤ cond q (suc (agree xs zs)) 0
        → (length xs ≤ agree xs zs → agree (xs ++ ys) zs ≡ length xs + agree ys (drop (length xs) zs))
        → cond q (suc (agree (xs ++ ys) zs)) 0 ≡ suc (length xs) + agree ys (drop (length xs) zs)
    go true l ih = let e = ih (le_of_suc-le-suc l) in omega arith
    go false l ih = absurd (omega arith)

-- the same by address, from `at` on
module _ (s : List ℕ) (at : ℕ) (xs ys : List ℕ) where
  pub run_stops : agree xs (drop at s) < length xs → at + agree (xs ++ ys) (drop at s) ≡ at + agree xs (drop at s)
  run_stops h = ap (λ (n : ℕ). at + n) (agree_short xs ys (drop at s) h)

  pub run_passes : length xs ≤ agree xs (drop at s) → at + agree (xs ++ ys) (drop at s) ≡ at + length xs + agree ys (drop (at + length xs) s)
  run_passes h = rw (agree_over xs ys (drop at s) h, drop-drop) (omega arith)

-- .. where the first part was counted in a part of the bytes
module _ (s : List ℕ) (at k : ℕ) (xs ys : List ℕ) {n : ℕ} (counted : n ≡ agree xs (take k (drop at s))) (within : length xs ≤ k) where
  pub part_stops : n < length xs → at + n ≡ at + agree (xs ++ ys) (drop at s)
  part_stops h =
      let e = counted ∙ agree_cut k xs (drop at s) within in
      ap (λ (m : ℕ). at + m) e ∙ sym (run_stops s at xs ys (omega arith))

  pub part_passes : length xs ≤ n → at + agree (xs ++ ys) (drop at s) ≡ at + length xs + agree ys (drop (at + length xs) s)
  part_passes h =
      let e = counted ∙ agree_cut k xs (drop at s) within in
      run_passes s at xs ys (omega arith)

-- ---- a run of one byte, b, over the whole of a part
pub run_counted : (part : List ℕ) (b : ℕ) → prefix_len (λ (x : ℕ). eqb x b) part ≡ agree (replicate (length part) b) part
unfolding agree
run_counted [] b = refl
run_counted (x ∷ xs) b = rw (eqb_turned x b, run_counted xs b) (one_more (eqb b x) (agree (replicate (length xs) b) xs))

-- bytes that are all b agree with a run of b
pub agree_all : (k b : ℕ) (zs : List ℕ) → k ≤ length zs → ((i : ℕ) → i < k → get_or zs i 0 ≡ b) → agree (replicate k b) zs ≡ k
unfolding agree
agree_all zero b zs h e = refl
agree_all (suc k) b [] h e = absurd (omega arith)
agree_all (suc k) b (z ∷ zs) h e = rw (eq-eqb b z (sym (e 0 (omega arith)))) (ap suc (agree_all k b zs (le_of_suc-le-suc h) (λ i l. e (suc i) (omega arith))))

pub agree_none : (k b : ℕ) (zs : List ℕ) → (get_or zs 0 0 ≡ b → ⊥) → agree (replicate k b) zs ≡ 0
unfolding agree
agree_none zero b zs d = refl
agree_none (suc k) b [] d = refl
agree_none (suc k) b (z ∷ zs) d = rw (ne_eqb b z (λ e. d (sym e)))

-- a part that goes to the end of the bytes
pub part_to_end : (n : ℕ) (s : List ℕ) → take (length s - n) (drop n s) ≡ drop n s
part_to_end n s = take_all (length s - n) (drop n s) (simp length-drop (omega arith))

-- ---- bytes compared by the bits in which some of them differ
or_none : (a c : ℕ) → bit_or a c ≡ 0 → (a ≡ 0) × (c ≡ 0)
or_none a c e =
    let s = or_add_and a c in
    let l = and_le_l a c in
    let r = and_le_r a c in
    (omega arith, omega arith)

xor_none : (a c : ℕ) → bit_xor a c ≡ 0 → a ≡ c
xor_none a c e =
    let s = xor_add_and a c in
    let l = and_le_l a c in
    let r = and_le_r a c in
    omega arith

-- the first i bytes are those wanted
abbrev pub AllAre : List ℕ → (ℕ → ℕ) → ℕ → Type 0
AllAre part want i = (k : ℕ) → k < i → get_or part k 0 ≡ want k

-- no bit differs so far exactly where all bytes so far are those wanted
pub record Differs (part : List ℕ) (want : ℕ → ℕ) (difference i : ℕ) : Type 0 where
  pub none : difference ≡ 0 → AllAre part want i
  pub some : AllAre part want i → difference ≡ 0

pub differs_start : (part : List ℕ) (want : ℕ → ℕ) → Differs part want 0 0
differs_start part want = record { none = λ e k h. absurd (omega arith); some = λ a. refl }

pub differs_next : (part : List ℕ) (want : ℕ → ℕ) (d i : ℕ) → Differs part want d i → Differs part want (bit_or d (bit_xor (get_or part i 0) (want i))) (i + 1)
differs_next part want d i w = record {
  none = λ e. let z = or_none d (bit_xor (get_or part i 0) (want i)) e in below_more (λ (k : ℕ). get_or part k 0 ≡ want k) i (w.none z.0) (xor_none (get_or part i 0) (want i) z.1);
  some = λ a. rw (w.some (λ k h. a k (omega arith)), a i (omega arith), xor_self (want i));
}

-- .. of a run of b
pub differs_run : (part : List ℕ) (b d : ℕ) → Differs part (λ (k : ℕ). b) d (length part) → eqb d 0 ≡ eqb (agree (replicate (length part) b) part) (length part)
differs_run part b d w = go (eqb d 0) refl
  where
    go : (q : Bool) → eqb d 0 ≡ q → q ≡ eqb (agree (replicate (length part) b) part) (length part)
    go true e = sym (eq-eqb _ _ (agree_all (length part) b part (omega arith) (w.none (eqb-true d 0 e))))
    go false e = sym (ne_eqb _ _ (λ same. eqb-false d 0 e (w.some (λ k h.
        let l = length-replicate (length part) b in
        let is : replicate (length part) b ≡ part = agree_same (replicate (length part) b) part l (same ∙ sym l) in
        ap (λ (x : List ℕ). get_or x k 0) (sym is) ∙ get_or-replicate (length part) k b 0 h))))

-- .. and pair by pair
pub differs_pair : (d x y : ℕ) → eqb (bit_or d (bit_xor x y)) 0 ≡ (eqb d 0 && eqb x y)
differs_pair d x y = go (eqb d 0) refl (eqb x y) refl (eqb (bit_or d (bit_xor x y)) 0) refl
  where
    go : (p : Bool) → eqb d 0 ≡ p → (q : Bool) → eqb x y ≡ q → (r : Bool) → eqb (bit_or d (bit_xor x y)) 0 ≡ r → r ≡ (p && q)
    go true e true f true g = refl
    go true e true f false g = absurd (eqb-false _ 0 g (rw (eqb-true d 0 e, eqb-true x y f, xor_self y)))
    go true e false f true g = absurd (eqb-false x y f (xor_none x y (or_none d (bit_xor x y) (eqb-true _ 0 g)).1))
    go true e false f false g = refl
    go false e q f true g = absurd (eqb-false d 0 e (or_none d (bit_xor x y) (eqb-true _ 0 g)).0)
    go false e q f false g = refl

and_then : (p q r : Bool) → ((p && q) && r) ≡ (p && (q && r))
and_then true q r = refl
and_then false q r = refl

and_all : (p : Bool) → p ≡ (p && true)
and_all true = refl
and_all false = refl

-- what is told so far, with what is left: a pair more, and nothing more
pub same_next : (d x y : ℕ) (xs ys : List ℕ) → (eqb (bit_or d (bit_xor x y)) 0 && same_list xs ys) ≡ (eqb d 0 && same_list (x ∷ xs) (y ∷ ys))
unfolding same_list
same_next d x y xs ys = rw (differs_pair d x y) (and_then (eqb d 0) (eqb x y) (same_list xs ys))

pub same_over : (d : ℕ) (xs ys : List ℕ) → length xs ≡ 0 → length xs ≡ length ys → eqb d 0 ≡ (eqb d 0 && same_list xs ys)
unfolding same_list
same_over d [] [] h e = and_all (eqb d 0)
same_over d [] (y ∷ ys) h e = absurd (omega arith)
same_over d (x ∷ xs) ys h e = absurd (omega arith)
