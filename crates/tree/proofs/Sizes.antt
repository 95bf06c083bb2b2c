-- How many bytes and how many objects a part has. Assumes nothing.
use Prim.Native.Nat.{ℕ, zero, suc, ◌+◌, ◌≤◌, ◌<◌}
use native.Mathlib.Omega.{arith}
use mathlib.Core.Bool.{Bool, true, false, cond}
use mathlib.Core.List.{List, [], ◌∷◌}
use lib.ListN.{length, drop, take, length-drop, length-take, length-append}
use Rattle.tree.specs.declared.Head.{Head}
use Rattle.std.specs.Prelude.{Result, Ok, Err}
use Rattle.tree.specs.declared.Refusal.{Refusal}
use Rattle.tree.specs.Heads.{is_list, head_at}
use Rattle.tree.proofs.Inside.{Inside, inside_head}
use Rattle.tree.specs.Listing.{Entry, entry, Out, took, refused, on_head, above, before, and_then, one, run, listing, object}

-- no more objects than bytes, and no more bytes than s has
abbrev pub Sized : List ℕ → Out → Type 0
Sized s (took es u) = (length es ≤ u) × (u ≤ length s)
Sized s (refused x p) = Unit {0}

-- .. and at least one byte
abbrev pub SizedOne : List ℕ → Out → Type 0
SizedOne s (took es u) = (0 < u) × ((length es ≤ u) × (u ≤ length s))
SizedOne s (refused x p) = Unit {0}

sized_above : (s l : List ℕ) (e : Entry) (start n : ℕ) (o : Out) → length l ≤ n → 0 < start → start + n ≤ length s → Sized l o → SizedOne s (above e (start + n) o)
sized_above s l e start n (took es u) h p q w = (omega arith, (omega arith, omega arith))
sized_above s l e start n (refused x a) h p q w = tt

sized_inner : (s l : List ℕ) (e : Entry) (start n : ℕ) (b : Bool) (o : Out) → length l ≤ n → 0 < start → start + n ≤ length s → Sized l o
    → SizedOne s (above e (start + n) (cond b o (took [] 0)))
sized_inner s l e start n true o h p q w = sized_above s l e start n o h p q w
sized_inner s l e start n false o h p q w = sized_above s [] e start n (took [] 0) (omega arith) p q (omega arith, omega arith)

sized_one : (R : ℕ → ℕ → List ℕ → Out) (d at : ℕ) (s : List ℕ) → 0 < length s → ((e a : ℕ) (l : List ℕ) → Sized l (R e a l)) → SizedOne s (one R d at s)
sized_one R d at s p all = go (head_at s at d) (inside_head s at d p)
  where
    go : (h : Result Head Refusal) → Inside s h
        → SizedOne s (on_head h (λ t start n. above (entry t d at n) (start + n) (cond (is_list t) (R (suc d) (at + start) (take n (drop start s))) (took [] 0))))
    go (Err x) w = tt
    go (Ok h) w =
        sized_inner s (take h.length (drop h.start s)) (entry h.tag d at h.length) h.start h.length (is_list h.tag) (R (suc d) (at + h.start) (take h.length (drop h.start s)))
        (simp (length-take, length-drop) (omega arith)) w.0 w.1 (all (suc d) (at + h.start) (take h.length (drop h.start s)))

sized_before : (s : List ℕ) (es : List Entry) (u : ℕ) (o : Out) → length es ≤ u → u ≤ length s → Sized (drop u s) o → Sized s (before es u o)
sized_before s es u (took fs m) h g w = (simp length-append (omega arith), omega (arith, length-drop u s))
sized_before s es u (refused x p) h g w = tt

sized_then : (s : List ℕ) (o : Out) (k : ℕ → Out) → SizedOne s o → ((u : ℕ) → Sized (drop u s) (k u)) → Sized s (and_then o k)
sized_then s (took es u) k w all = sized_before s es u (k u) w.1.0 w.1.1 (all u)
sized_then s (refused x p) k w all = tt

sized_run : (f d at : ℕ) (s : List ℕ) → Sized s (run f d at s)
unfolding run
sized_run zero d at s = (omega arith, omega arith)
sized_run (suc f) d at [] = (omega arith, omega arith)
sized_run (suc f) d at (b ∷ r) =
    sized_then (b ∷ r) (one (λ e a l. run f e a l) d at (b ∷ r)) (λ u. run f d (at + u) (drop u (b ∷ r)))
    (sized_one (λ e a l. run f e a l) d at (b ∷ r) (omega arith) (λ e a l. sized_run f e a l))
    (λ u. sized_run f d (at + u) (drop u (b ∷ r)))

pub sized_list : (d at : ℕ) (s : List ℕ) → Sized s (listing d at s)
unfolding listing
sized_list d at s = sized_run (length s) d at s

pub sized_object : (d at : ℕ) (s : List ℕ) → 0 < length s → SizedOne s (object d at s)
unfolding object
sized_object d at s p = sized_one (λ e a l. listing e a l) d at s p (λ e a l. sized_list e a l)
