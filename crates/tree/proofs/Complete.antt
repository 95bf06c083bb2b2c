-- Complete: the bytes of a valid forest are listed as that forest, object by object. Assumes nothing.
use mathlib.Core.Path.{◌≡◌, refl, sym, ap, ◌∙◌}
use Prim.Native.Nat.{ℕ, suc, ◌+◌}
use native.Mathlib.Numerals.{add-one}
use native.Mathlib.Omega.{arith}
use mathlib.Core.List.{List, ◌∷◌, ◌++◌}
use lib.ListN.{length, drop, take, length-append}
use lib.Seq.{take-append_seam, drop-append_seam, drop-drop}
use Rattle.tree.specs.Listing.{entry, took, listing}
use Rattle.tree.proofs.Listings.{list_none, list_more}
use Rattle.lengths.specs.Lengths.{length_field}
use Rattle.tree.specs.Forest.{Forest, done, plain, template, front, encode, entries, Valid}
use Rattle.tree.proofs.Steps.{object_plain, object_inner}
use Rattle.tree.proofs.HeadsRead.{head_read}

-- behind the length field stand the value, and then the rest
module _ (t n : ℕ) (v r : List ℕ) (e : length v ≡ n) where
  pub behind : drop (front n) (t ∷ (length_field n ++ (v ++ r))) ≡ v ++ r
  behind = rw (add-one (length (length_field n))) (drop-append_seam (length_field n) (v ++ r))

  pub value_is : take n (drop (front n) (t ∷ (length_field n ++ (v ++ r)))) ≡ v
  value_is = rw (behind, ← e) (take-append_seam v r)

  pub rest_is : drop (front n + n) (t ∷ (length_field n ++ (v ++ r))) ≡ r
  rest_is = rw (← drop-drop n (front n), behind, ← e) (drop-append_seam v r)

  pub all_is : length (t ∷ (length_field n ++ (v ++ r))) ≡ front n + n + length r
  all_is = simp (length-append, e) (omega arith)

pub complete : (d at : ℕ) (f : Forest) → Valid d f → listing d at (encode f) ≡ took (entries d at f) (length (encode f))
unfolding encode entries Valid
complete d at done w = list_none d at
complete d at (plain t v r) w =
    let s = t ∷ (length_field (length v) ++ (v ++ encode r)) in
    let u = front (length v) + length v in
    list_more d at s (omega arith)
    ∙ rw (object_plain d at s t (front (length v)) (length v) (head_read t d at (length v) v (encode r) refl w.0.0) w.0.1, rest_is t (length v) v (encode r) refl, complete d (at + u) r w.1)
    (ap (took (entry t d at (length v) ∷ entries d (at + u) r)) (sym (all_is t (length v) v (encode r) refl)))
complete d at (template t i r) w =
    let v = encode i in
    let s = t ∷ (length_field (length v) ++ (v ++ encode r)) in
    let u = front (length v) + length v in
    list_more d at s (omega arith)
    ∙ rw (
      object_inner d at s t (front (length v)) (length v) (head_read t d at (length v) v (encode r) refl w.0.0) w.0.1,
      value_is t (length v) v (encode r) refl,
      complete (suc d) (at + front (length v)) i w.1.0,
      rest_is t (length v) v (encode r) refl,
      complete d (at + u) r w.1.1,
    )
    (ap (took (entry t d at (length v) ∷ (entries (suc d) (at + front (length v)) i ++ entries d (at + u) r))) (sym (all_is t (length v) v (encode r) refl)))
