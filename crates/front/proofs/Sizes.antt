-- How much of a line names and a part take, where it holds them and where it does not. Assumes nothing.
use mathlib.Core.Path.{◌≡◌, refl, sym, ap, ◌∙◌}
use mathlib.Core.Bool.{Bool, true, false, cond, ◌||◌}
use mathlib.Core.List.{List, [], ◌∷◌}
use Prim.Native.Nat.{ℕ, ◌+◌, ◌≤◌, ◌<◌}
use native.Mathlib.Omega.{arith}
use borrow.Author.Tests.{le-leb, lt-leb, leb-true, leb-false}
use lib.Dec.{eqb, leb}
use lib.ListN.{length}
use Rattle.card.specs.declared.Record.{Record}
use Rattle.card.specs.Content.{content_of}
use Rattle.front.specs.Lines.{spaced, forenames}
use Rattle.front.specs.Placing.{spaced_size, line_end, capped}
use Rattle.front.proofs.Spaced.{spaced_long, behind_alone, behind_blank, item, names_of}

pub spaced_size_lem : (a v : List ℕ) → length (spaced a v) ≡ spaced_size (length a) (length v)
unfolding spaced_size
spaced_size_lem a v = go (eqb (length a) 0 || eqb (length v) 0) refl
  where
    go : (q : Bool) → (eqb (length a) 0 || eqb (length v) 0) ≡ q → length (spaced a v) ≡ cond q (length a + length v) (length a + 1 + length v)
    go true e = omega (arith, spaced_long a v, ap length (behind_alone (length a) (length v) v refl e))
    go false e = omega (arith, spaced_long a v, ap length (behind_blank (length a) (length v) v refl e))

size_least : (n k : ℕ) → n ≤ spaced_size n k
unfolding spaced_size
size_least n k = go (eqb n 0 || eqb k 0)
  where
    go : (q : Bool) → n ≤ cond q (n + k) (n + 1 + k)
    go true = omega arith
    go false = omega arith

-- ---- a size that a line holds, and one that it does not
pub capped_held : (n : ℕ) → n ≤ 28 → capped n ≡ n
unfolding capped
capped_held n h = rw (le-leb n 28 h)

pub capped_past : (n : ℕ) → 28 < n → capped n ≡ 29
unfolding capped
capped_past n h = rw (lt-leb n 28 h)

pub capped_in : (n : ℕ) → capped n ≤ 28 → capped n ≡ n
unfolding capped
capped_in n h = go (leb n 28) refl h
  where
    go : (q : Bool) → leb n 28 ≡ q → cond q n 29 ≤ 28 → cond q n 29 ≡ n
    go true e k = refl
    go false e k = absurd (omega arith)

pub capped_out : (n : ℕ) → 28 < capped n → 28 < n
unfolding capped
capped_out n h = go (leb n 28) refl h
  where
    go : (q : Bool) → leb n 28 ≡ q → 28 < cond q n 29 → 28 < n
    go true e k = k
    go false e k = leb-false n 28 e

-- ---- the end of the names on their line
pub end_long : (n k : ℕ) → 28 < n → 29 ≡ line_end n k
unfolding line_end
end_long n k h = sym (capped_past (spaced_size n k) (omega (arith, size_least n k)))

pub end_spaced : (a v : List ℕ) (n k : ℕ) → n ≡ length a → k ≡ length v → line_end n k ≡ capped (length (spaced a v))
unfolding line_end
end_spaced a v n k e f = rw (e, f, spaced_size_lem a v)

-- whether a part has its place on the line
pub end_held : (a v : List ℕ) (n k : ℕ) → n ≡ length a → k ≡ line_end n (length v) → k ≤ 28 → length (spaced a v) ≤ 28
end_held a v n k e f h =
    let same = f ∙ end_spaced a v n (length v) e refl in
    omega (arith, same, capped_in (length (spaced a v)) (omega (arith, same)))

pub end_past : (a v : List ℕ) (n k : ℕ) → n ≡ length a → k ≡ line_end n (length v) → 28 < k → 28 < length (spaced a v)
end_past a v n k e f h =
    let same = f ∙ end_spaced a v n (length v) e refl in
    capped_out (length (spaced a v)) (omega (arith, same))

pub end_again : (a v : List ℕ) (n k : ℕ) → n ≡ capped (length a) → k ≡ length v → line_end n k ≡ capped (length (spaced a v))
end_again a v n k e f = go (leb (length a) 28) refl
  where
    go : (q : Bool) → leb (length a) 28 ≡ q → line_end n k ≡ capped (length (spaced a v))
    go true t = end_spaced a v n k (e ∙ capped_held (length a) (leb-true (length a) 28 t)) f
    go false t =
        let past = leb-false (length a) 28 t in
        let long : 28 < n = omega (arith, e, capped_past (length a) past) in
        sym (end_long n k long) ∙ sym (capped_past (length (spaced a v)) (omega (arith, past, spaced_size_lem a v, size_least (length a) (length v))))

-- the three forenames one behind the other
spaced_none : (v : List ℕ) → spaced [] v ≡ v
unfolding spaced
spaced_none [] = refl
spaced_none (y ∷ b) = refl

pub forenames_end : (r : Record) {p q s : ℕ} → p ≡ line_end 0 (length (item r 6)) → q ≡ line_end p (length (item r 7)) → s ≡ line_end q (length (item r 8)) → s ≡ capped (length (forenames (content_of r)))
forenames_end r {p} {q} e f g =
    let one : p ≡ capped (length (item r 6)) = e ∙ end_spaced [] (item r 6) 0 (length (item r 6)) refl refl ∙ ap (λ (l : List ℕ). capped (length l)) (spaced_none (item r 6)) in
    let two : q ≡ capped (length (spaced (item r 6) (item r 7))) = f ∙ end_again (item r 6) (item r 7) p (length (item r 7)) one refl in
    g ∙ end_again (spaced (item r 6) (item r 7)) (item r 8) q (length (item r 8)) two refl ∙ ap (λ (l : List ℕ). capped (length l)) (sym (names_of r))
