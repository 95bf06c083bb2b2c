-- Laws on `sets`, a run of stores: two runs in a row are one, a run over the whole, a run in a part that was lent. Assumes nothing.
use mathlib.Core.Path.{◌≡◌, refl, sym, ap, ◌∙◌}
use mathlib.Core.List.{List, [], ◌∷◌, ◌++◌, append-nil, append_assoc}
use Prim.Native.Nat.{ℕ, zero, suc, ◌+◌, ◌-◌, ◌≤◌, ◌<◌}
use native.Mathlib.Nat.{add-suc, suc-add, add-zero, zero-add}
use native.Mathlib.Numerals.{add-one}
use native.Mathlib.Omega.{arith}
use borrow.Author.Tests.{eqb-true, eqb-false}
use mathlib.Core.Bool.{Bool, true, false}
use lib.Dec.{eqb}
use lib.ListN.{length, get_or, take, drop, set, drop_of_length-le, length-drop, replicate, length-replicate}
use lib.Seq.{sets, sets-eq, drop-drop, take_all, take-suc, take_at, drop_at, length-take-le, get_or-set_same, get_or-set_other}

-- two runs, the second behind the first, are one
sets_append : (l : List ℕ) (i : ℕ) (xs ys : List ℕ) → sets (sets l i xs) (i + length xs) ys ≡ sets l i (xs ++ ys)
sets_append l i [] ys = ap (λ (k : ℕ). sets l k ys) (add-zero i)
sets_append l i (x ∷ xs) ys =
    ap (λ (k : ℕ). sets (sets (set l i x) (suc i) xs) k ys) (add-suc i (length xs) ∙ sym (suc-add i (length xs)))
    ∙ sets_append (set l i x) (suc i) xs ys

-- the same, where the first run is known by an equation and the second's place too
pub sets_then : (l xs : List ℕ) (i : ℕ) {l₁ : List ℕ} {j : ℕ} (ys : List ℕ) → l₁ ≡ sets l i xs → j ≡ i + length xs → sets l₁ j ys ≡ sets l i (xs ++ ys)
sets_then l xs i ys e f = rw (e, f) (sets_append l i xs ys)

-- a run as long as the list is the list
pub sets_whole : (l vs : List ℕ) → length vs ≡ length l → sets l 0 vs ≡ vs
sets_whole l vs e =
    let h : length l ≤ 0 + length vs = omega arith in
    sets-eq vs l 0 (omega arith) ∙ ap (λ (r : List ℕ). vs ++ r) (drop_of_length-le l h) ∙ append-nil vs

-- one turn of a loop that copies s to `at` on
pub sets_copy : (l : List ℕ) (at : ℕ) (s : List ℕ) (i : ℕ) → i < length s → set (sets l at (take i s)) (at + i) (get_or s i 0) ≡ sets l at (take (i + 1) s)
sets_copy l at s i h =
    let k : i ≤ length s = omega arith in
    sets_then l (take i s) at (get_or s i 0 ∷ []) refl (rw length-take-le)
    ∙ ap (sets l at) (sym (ap (λ (n : ℕ). take n s) (add-one i) ∙ take-suc s i 0 h))

-- what a run stored is read there
pub stored : (l v : List ℕ) (a q : ℕ) → q ≡ a + length v → q ≤ length l → take (q - a) (drop a (sets l a v)) ≡ v
stored l v a q e h =
    let j : a ≤ length l = omega arith in
    let rest = drop (a + length v) l in
    ap (λ (x : List ℕ). take (q - a) (drop a x)) (sets-eq v l a (omega arith) ∙ append_assoc (take a l) v rest)
    ∙ ap (take (q - a)) (drop_at (take a l) (v ++ rest) a (length-take-le a l j))
    ∙ take_at v rest (q - a) (omega arith)

pub stored_first : (l v : List ℕ) (q : ℕ) → q ≡ length v → q ≤ length l → take q (sets l 0 v) ≡ v
stored_first l v q e h =
    let z : q - 0 ≡ q = omega arith in
    rw z at (stored l v 0 q (omega arith) h)

-- a part lent from a on to the end: how long it is, and what comes back
pub lent_end_length : (l : List ℕ) (a : ℕ) → length (take (length l - a) (drop a l)) ≡ length l - a
lent_end_length l a =
    let h : length (drop a l) ≤ length l - a = simp length-drop (omega arith) in
    ap length (take_all (length l - a) (drop a l) h) ∙ length-drop a l

pub lent_end_back : (l ys : List ℕ) (a : ℕ) → take a l ++ (ys ++ drop (length l - a) (drop a l)) ≡ take a l ++ ys
lent_end_back l ys a =
    let h : length (drop a l) ≤ length l - a = simp length-drop (omega arith) in
    rw (drop_of_length-le (drop a l) h, append-nil)

-- a part lent from a on: what comes back in its place is a run of stores
pub lent_part_back : (l ys : List ℕ) (a n : ℕ) → n ≡ length ys → a + length ys ≤ length l → take a l ++ (ys ++ drop n (drop a l)) ≡ sets l a ys
lent_part_back l ys a n e h =
    rw (e, drop-drop (length ys) a l)
    (sym (sets-eq ys l a h ∙ append_assoc (take a l) ys (drop (a + length ys) l)))

-- ---- a list filled by its index: what holds below i, and of what is stored at i, holds below i + 1
pub filled_more : (l : List ℕ) (f : ℕ → ℕ) (i v : ℕ) → i < length l → v ≡ f i → ((k : ℕ) → k < i → get_or l k 0 ≡ f k) → (k : ℕ) → k < i + 1 → get_or (set l i v) k 0 ≡ f k
filled_more l f i v h is below k lt = go (eqb k i) refl
  where
    go : (q : Bool) → eqb k i ≡ q → get_or (set l i v) k 0 ≡ f k
    go true e = rw (eqb-true k i e, get_or-set_same l i v 0 h) is
    go false e = rw (get_or-set_other l i k v 0 (eqb-false k i e)) (below k (omega (arith, eqb-false k i e)))

-- ---- a run at the start of a list that holds one byte throughout
drop_blank : (k n z : ℕ) → drop k (replicate n z) ≡ replicate (n - k) z
drop_blank zero n z = let same : n ≡ n - 0 = omega arith in ap (λ (m : ℕ). replicate m z) same
drop_blank (suc k) zero z = let same : 0 ≡ 0 - suc k = omega arith in ap (λ (m : ℕ). replicate m z) same
drop_blank (suc k) (suc n) z =
    let same : n - k ≡ suc n - suc k = omega arith in
    drop_blank k n z ∙ ap (λ (m : ℕ). replicate m z) same

pub sets_blank : (n z : ℕ) (v : List ℕ) → length v ≤ n → sets (replicate n z) 0 v ≡ v ++ replicate (n - length v) z
sets_blank n z v h =
    sets-eq v (replicate n z) 0 (rw (zero-add, length-replicate) h)
    ∙ ap (λ (l : List ℕ). v ++ l) (ap (λ (k : ℕ). drop k (replicate n z)) (zero-add (length v)) ∙ drop_blank (length v) n z)
