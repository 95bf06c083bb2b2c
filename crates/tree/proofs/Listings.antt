-- The objects of a list, one after the other. Assumes nothing.
use mathlib.Core.Path.{◌≡◌, refl}
use Prim.Native.Nat.{ℕ, zero, suc, ◌+◌, ◌≤◌, ◌<◌}
use native.Mathlib.Nat.{not-suc-le-zero, le_of_suc-le-suc}
use native.Mathlib.Omega.{arith}
use mathlib.Core.Bool.{cond}
use mathlib.Core.List.{List, [], ◌∷◌}
use lib.ListN.{length, drop, take, length-drop, length-take}
use Rattle.tree.specs.declared.Head.{Head}
use Rattle.std.specs.Prelude.{Result, Ok, Err}
use Rattle.tree.specs.declared.Refusal.{Refusal}
use Rattle.tree.specs.Heads.{is_list, head_at}
use Rattle.tree.specs.Listing.{Entry, entry, Out, took, refused, on_head, above, and_then, one, run, listing, object}
use Rattle.tree.proofs.Inside.{Inside, inside_head}

-- the rest is read by what follows the object alone
then_above : (e : Entry) (u : ℕ) (o : Out) (k l : ℕ → Out) → k u ≡ l u → and_then (above e u o) k ≡ and_then (above e u o) l
then_above e u (took es m) k l h = rw h
then_above e u (refused x p) k l h = refl

-- two readers that agree on all shorter lists agree on s
agree : (R Q : ℕ → ℕ → List ℕ → Out) (d at : ℕ) (s : List ℕ) → 0 < length s
    → ((e a : ℕ) (l : List ℕ) → length l < length s → R e a l ≡ Q e a l)
    → and_then (one R d at s) (λ u. R d (at + u) (drop u s)) ≡ and_then (one Q d at s) (λ u. Q d (at + u) (drop u s))
agree R Q d at s p same = go (head_at s at d) (inside_head s at d p)
  where
    go : (h : Result Head Refusal) → Inside s h
        → and_then (on_head h (λ t start n. above (entry t d at n) (start + n) (cond (is_list t) (R (suc d) (at + start) (take n (drop start s))) (took [] 0)))) (λ u. R d (at + u) (drop u s))
        ≡ and_then (on_head h (λ t start n. above (entry t d at n) (start + n) (cond (is_list t) (Q (suc d) (at + start) (take n (drop start s))) (took [] 0)))) (λ u. Q d (at + u) (drop u s))
    go (Err x) w = refl
    go (Ok h) w =
        rw (same (suc d) (at + h.start) (take h.length (drop h.start s)) (simp (length-take, length-drop) (omega arith)))
        (then_above (entry h.tag d at h.length) (h.start + h.length) (cond (is_list h.tag) (Q (suc d) (at + h.start) (take h.length (drop h.start s))) (took [] 0)) (λ u. R d (at + u) (drop u s)) (λ u. Q d (at + u) (drop u s)) (same d (at + (h.start + h.length)) (drop (h.start + h.length) s) (simp length-drop (omega arith))))

-- more than enough makes no difference
enough : (f g d at : ℕ) (s : List ℕ) → length s ≤ f → length s ≤ g → run f d at s ≡ run g d at s
unfolding run
enough zero zero d at s p q = refl
enough zero (suc g) d at [] p q = refl
enough zero (suc g) d at (b ∷ r) p q = absurd (not-suc-le-zero p)
enough (suc f) zero d at [] p q = refl
enough (suc f) zero d at (b ∷ r) p q = absurd (not-suc-le-zero q)
enough (suc f) (suc g) d at [] p q = refl
enough (suc f) (suc g) d at (b ∷ r) p q =
    agree (λ e a l. run f e a l) (λ e a l. run g e a l) d at (b ∷ r) (omega arith)
    (λ e a l h. enough f g e a l (omega (arith, le_of_suc-le-suc p)) (omega (arith, le_of_suc-le-suc q)))

pub list_none : (d at : ℕ) → listing d at [] ≡ took [] 0
unfolding listing run
list_none d at = refl

pub list_more : (d at : ℕ) (s : List ℕ) → 0 < length s
    → listing d at s ≡ and_then (object d at s) (λ u. listing d (at + u) (drop u s))
unfolding listing object run
list_more d at [] p = absurd (not-suc-le-zero p)
list_more d at (b ∷ r) p =
    agree (λ e a l. run (length r) e a l) (λ e a l. run (length l) e a l) d at (b ∷ r) p
    (λ e a l h. enough (length r) (length l) e a l (omega arith) (omega arith))
