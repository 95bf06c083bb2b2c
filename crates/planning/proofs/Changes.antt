-- The steps to the addresses where a byte becomes another, by index, for loops; and how many there are. Assumes nothing.
use Prim.Native.Nat.{ℕ, suc, ◌+◌, ◌-◌, ◌≤◌, ◌<◌}
use native.Mathlib.Omega.{arith}
use native.Mathlib.Nat.{add-zero, add-suc}
use native.Mathlib.Numerals.{add-one}
use mathlib.Core.Path.{◌≡◌, refl}
use mathlib.Core.Bool.{Bool, true, false, cond}
use mathlib.Core.List.{List, [], ◌∷◌, ◌++◌}
use lib.Dec.{eqb, ltb}
use lib.ListN.{length, take, drop, get_or, length-append, length-drop}
use lib.Seq.{drop-cons, drop-length, length-take-le}
use borrow.Author.Tests.{eqb-true, eq-eqb, ne_eqb}
use Rattle.ground.specs.Rooms.{Put}
use Rattle.ground.proofs.Puts.{put_then}
use Rattle.ground.proofs.Pieces.{to_end}
use Rattle.rewriting.specs.Plans.{step_to}
use Rattle.planning.specs.Planning.{change, changes, spoiled, rewritten, our_plan}

-- one address more, and no more
pub changes_next : (at : ℕ) (os ns : List ℕ) (i : ℕ) → i < length os → length ns ≡ length os
    → changes (at + i) (drop i os) (drop i ns) ≡ change (at + i) (get_or os i 0) (get_or ns i 0) ++ changes (at + (i + 1)) (drop (i + 1) os) (drop (i + 1) ns)
unfolding changes
changes_next at os ns i h e = rw (drop-cons os i 0 h, drop-cons ns i 0 (omega arith), add-one, add-suc at i)

pub changes_end : (at : ℕ) (os ns : List ℕ) (i : ℕ) → i ≡ length os → changes (at + i) (drop i os) (drop i ns) ≡ []
unfolding changes
changes_end at os ns i h = rw (h, drop-length)

pub changes_start : (at : ℕ) (os ns : List ℕ) → changes (at + 0) (drop 0 os) (drop 0 ns) ≡ changes at os ns
changes_start at os ns = rw (add-zero at)

-- a byte that stays, and one that becomes another
pub change_none : (address o n : ℕ) → o ≡ n → change address o n ≡ []
change_none address o n h = rw (eq-eqb o n h)

pub change_one : (address o n : ℕ) → (o ≡ n → ⊥) → change address o n ≡ step_to address n ∷ []
change_one address o n h = rw (ne_eqb o n h)

-- ---- how many
pub change_few : (address o n : ℕ) → length (change address o n) ≤ 1
change_few address o n = go (eqb o n)
  where
    go : (q : Bool) → length (cond q [] (step_to address n ∷ [])) ≤ 1
    go true = omega arith
    go false = omega arith

pub change_size : (address o n : ℕ) → length (change address o n) ≡ length (change 0 o n)
change_size address o n = go (eqb o n)
  where
    go : (q : Bool) → length (cond q [] (step_to address n ∷ [])) ≡ length (cond q [] (step_to 0 n ∷ []))
    go true = refl
    go false = refl

pub few : (at : ℕ) (os ns : List ℕ) → length (changes at os ns) ≤ length os
unfolding changes
few at [] ns = omega arith
few at (o ∷ os) [] = omega arith
few at (o ∷ os) (n ∷ ns) = rw length-append (omega (arith, change_few at o n, few (suc at) os ns))

pub rewritten_short : (old new : List ℕ) → length old ≡ 256 → length (rewritten old new) ≤ 257
unfolding rewritten
rewritten_short old new p =
    let a : length (take 30 old) ≡ 30 = length-take-le 30 old (omega arith) in
    let b : length (drop 31 old) ≡ 225 = rw (length-drop, p) in
    let t = change_few 30 (get_or old 30 0) (spoiled (get_or old 30 0)) in
    let u = change_few 30 (spoiled (get_or old 30 0)) (get_or new 30 0) in
    simp length-append (omega (arith, few 0 (take 30 old) (take 30 new), few 31 (drop 31 old) (drop 31 new), a, b, t, u))

-- Twelve: a plan has at most 257 steps
pub plan_short : (old new : List ℕ) → length old ≡ 256 → length (our_plan old new) ≤ 257
unfolding our_plan
plan_short old new p = go (ltb (length (changes 0 old new)) 2)
  where
    go : (q : Bool) → length (cond q (changes 0 old new) (rewritten old new)) ≤ 257
    go true = omega (arith, few 0 old new, p)
    go false = rewritten_short old new p

-- where nothing changes, the lists are the same; and the same lists have no steps
pub none_same : (at : ℕ) (os ns : List ℕ) → length ns ≡ length os → length (changes at os ns) ≡ 0 → os ≡ ns
unfolding changes
none_same at [] [] e h = refl
none_same at [] (n ∷ ns) e h = absurd (omega arith)
none_same at (o ∷ os) [] e h = absurd (omega arith)
none_same at (o ∷ os) (n ∷ ns) e h = go (none_same (suc at) os ns (omega arith)) (eqb o n) refl (rw length-append at h)
  where
    go : (length (changes (suc at) os ns) ≡ 0 → os ≡ ns) → (q : Bool) → eqb o n ≡ q → length (cond q [] (step_to at n ∷ [])) + length (changes (suc at) os ns) ≡ 0 → (o ∷ os) ≡ (n ∷ ns)
    go rest true f g =
        let here = eqb-true o n f in
        let there = rest (omega arith) in
        cc
    go rest false f g = absurd (omega arith)

pub same_none : (at : ℕ) (os : List ℕ) → changes at os os ≡ []
unfolding changes
same_none at [] = refl
same_none at (o ∷ os) = rw (eq-eqb o o refl) (same_none (suc at) os)

-- ---- the runs of steps, one put behind the other
pub length_back : (l : List ℕ) → length l ≡ 256 → length (take (length l - 31) (drop 31 l)) ≡ 225
length_back l n = rw (to_end l 31, length-drop, n)

pub put_rewritten : (old new : List ℕ) (t : ℕ) {room r₁ r₂ r₃ r₄ : List ℕ} {k₁ k₂ k₃ k₄ : ℕ} → t ≡ spoiled (get_or old 30 0) → Put room 0 (change 30 (get_or old 30 0) t) r₁ k₁
    → Put r₁ k₁ (changes 0 (take 30 old) (take 30 new)) r₂ k₂ → Put r₂ k₂ (changes 31 (take (length old - 31) (drop 31 old)) (take (length new - 31) (drop 31 new))) r₃ k₃
    → Put r₃ k₃ (change 30 t (get_or new 30 0)) r₄ k₄ → Put room 0 (rewritten old new) r₄ k₄
unfolding rewritten
put_rewritten old new t h p q r s = rw (← h) (put_then p (put_then q (put_then (rw (to_end old 31, to_end new 31) at r) s)))
