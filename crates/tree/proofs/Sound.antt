-- Sound: what is listed is a valid forest, and its bytes are those that were read; by the bytes that are left. Assumes nothing.
use mathlib.Core.Path.{◌≡◌, refl, sym, ◌∙◌}
use Prim.Native.Nat.{ℕ, zero, suc, ◌+◌, ◌≤◌, ◌<◌}
use native.Mathlib.Nat.{not-suc-le-zero, le_refl}
use native.Mathlib.Omega.{arith}
use mathlib.Core.Bool.{Bool, true, false}
use mathlib.Core.List.{List, [], ◌∷◌, ◌++◌}
use lib.Dec.{lit<}
use lib.ListN.{length, drop, take, length-drop, take-append-drop}
use lib.Seq.{length-take-le, drop-drop}
use Rattle.tree.specs.declared.Head.{Head}
use Rattle.std.specs.Prelude.{Result, Ok, Err}
use Rattle.tree.specs.declared.Refusal.{Refusal}
use Rattle.tree.specs.Heads.{is_list, head_at}
use Rattle.tree.proofs.Inside.{Inside, inside_head}
use Rattle.tree.specs.Listing.{Entry, entry, Out, took, refused, above, before, and_then, listing, object}
use Rattle.tree.proofs.Listings.{list_none, list_more}
use Rattle.tree.specs.Forest.{done, plain, template, encode, entries, Valid}
use Rattle.tree.proofs.Steps.{object_refused, object_plain, object_inner}
use Rattle.tree.proofs.Behind.{below_drop, below_take}
use Rattle.tree.proofs.Written.{Begins, BeginsIf, begins}
use Rattle.tree.specs.Trees.{Below, Tree}

tree_none : (d at : ℕ) → Tree d at [] []
unfolding Valid encode entries
tree_none d at = record { forest = done; valid = tt; bytes = refl; list = refl }

-- a plain object before a tree
module _ (d at : ℕ) (s : List ℕ) (t start n : ℕ) (b : Begins s d t start n) (in-s : start + n ≤ length s) where
  value_length : length (take n (drop start s)) ≡ n
  value_length = length-take-le n (drop start s) (omega (arith, length-drop start s))

  value-and-rest : take n (drop start s) ++ drop (start + n) s ≡ drop start s
  value-and-rest = rw (← drop-drop n start) (take-append-drop n (drop start s))

  tree_plain : is_list t ≡ false → (fs : List Entry) → Tree d (at + (start + n)) (drop (start + n) s) fs → Tree d at s (entry t d at n ∷ fs)
  unfolding Valid encode entries
  tree_plain leaf fs r =
      record {
        forest = plain t (take n (drop start s)) r.forest;
        valid = rw value_length ((b.fine, leaf), r.valid);
        bytes = rw (value_length, r.bytes, value-and-rest) (sym b.is);
        list = rw (value_length, ← b.starts, r.list);
      }

  tree-template : is_list t ≡ true → (gs fs : List Entry) → Tree (suc d) (at + start) (take n (drop start s)) gs → Tree d (at + (start + n)) (drop (start + n) s) fs
      → Tree d at s (entry t d at n ∷ (gs ++ fs))
  unfolding Valid encode entries
  tree-template node gs fs i r =
      record {
        forest = template t i.forest r.forest;
        valid = rw (i.bytes, value_length) ((b.fine, node), (i.valid, r.valid));
        bytes = rw (i.bytes, value_length, r.bytes, value-and-rest) (sym b.is);
        list = rw (i.bytes, value_length, ← b.starts, i.list, r.list);
      }

-- one object and the rest, from what holds of shorter lists
module _ (f : ℕ) (all : (d at : ℕ) (s : List ℕ) (es : List Entry) (u : ℕ) → length s ≤ f → Below 256 s → listing d at s ≡ took es u → Tree d at s es)
    (d at : ℕ) (s : List ℕ) (short : length s ≤ suc f) (ok : Below 256 s) (es : List Entry) (u : ℕ) where
  on-plain : (t start n : ℕ) → Begins s d t start n → 0 < start → start + n ≤ length s → is_list t ≡ false
      → (o : Out) → listing d (at + (start + n)) (drop (start + n) s) ≡ o → before (entry t d at n ∷ []) (start + n) o ≡ took es u → Tree d at s es
  on-plain t start n b p q leaf (took fs m) e h =
      let g : es ≡ entry t d at n ∷ fs = cc in
      rw g (tree_plain d at s t start n b q leaf fs (all d (at + (start + n)) (drop (start + n) s) fs m (omega (arith, length-drop (start + n) s)) (below_drop 256 (start + n) s (lit< tt) ok) e))
  on-plain t start n b p q leaf (refused x a) e h = absurd (let z : ◌≡◌ {A = ℕ} 0 1 = cc in omega arith)

  on-template : (t start n : ℕ) → Begins s d t start n → 0 < start → start + n ≤ length s → is_list t ≡ true
      → (i : Out) → listing (suc d) (at + start) (take n (drop start s)) ≡ i
      → (o : Out) → listing d (at + (start + n)) (drop (start + n) s) ≡ o
      → and_then (above (entry t d at n) (start + n) i) (λ v. listing d (at + v) (drop v s)) ≡ took es u → Tree d at s es
  on-template t start n b p q node (took gs k) c (took fs m) e h =
      let h2 : took ((entry t d at n ∷ gs) ++ fs) (start + n + m) ≡ took es u = rw e at h in
      let g : es ≡ entry t d at n ∷ (gs ++ fs) = cc in
      rw g (tree-template d at s t start n b q node gs fs
      (all (suc d) (at + start) (take n (drop start s)) gs k (omega (arith, value_length d at s t start n b q)) (below_take 256 n (drop start s) (lit< tt) (below_drop 256 start s (lit< tt) ok)) c)
      (all d (at + (start + n)) (drop (start + n) s) fs m (omega (arith, length-drop (start + n) s)) (below_drop 256 (start + n) s (lit< tt) ok) e))
  on-template t start n b p q node (took gs k) c (refused x a) e h =
      let h2 : refused x a ≡ took es u = rw e at h in
      absurd (let z : ◌≡◌ {A = ℕ} 0 1 = cc in omega arith)
  on-template t start n b p q node (refused x a) c o e h = absurd (let z : ◌≡◌ {A = ℕ} 0 1 = cc in omega arith)

  on-head : (h : Result Head Refusal) → head_at s at d ≡ h → Inside s h → BeginsIf s d h → and_then (object d at s) (λ v. listing d (at + v) (drop v s)) ≡ took es u → Tree d at s es
  on-head (Err x) e w b k =
      let k2 : refused x.number x.place ≡ took es u = rw (object_refused d at s x.number x.place e) at k in
      absurd (let z : ◌≡◌ {A = ℕ} 0 1 = cc in omega arith)
  on-head (Ok h) e w b k = by (is_list h.tag) refl
    where
      by : (q : Bool) → is_list h.tag ≡ q → Tree d at s es
      by false leaf =
          on-plain h.tag h.start h.length b w.0 w.1 leaf (listing d (at + (h.start + h.length)) (drop (h.start + h.length) s)) refl
          (rw (object_plain d at s h.tag h.start h.length e leaf) at k)
      by true node =
          on-template h.tag h.start h.length b w.0 w.1 node (listing (suc d) (at + h.start) (take h.length (drop h.start s))) refl
          (listing d (at + (h.start + h.length)) (drop (h.start + h.length) s)) refl (rw (object_inner d at s h.tag h.start h.length e node) at k)

empty : (d at : ℕ) (es : List Entry) (u : ℕ) → listing d at [] ≡ took es u → Tree d at [] es
empty d at es u e =
    let h = sym (list_none d at) ∙ e in
    let g : es ≡ [] = cc in
    rw g (tree_none d at)

pub sound_at : (f d at : ℕ) (s : List ℕ) (es : List Entry) (u : ℕ) → length s ≤ f → Below 256 s → listing d at s ≡ took es u → Tree d at s es
sound_at zero d at [] es u p w e = empty d at es u e
sound_at zero d at (b ∷ r) es u p w e = absurd (not-suc-le-zero p)
sound_at (suc f) d at [] es u p w e = empty d at es u e
sound_at (suc f) d at (b ∷ r) es u p w e =
    on-head f (sound_at f) d at (b ∷ r) p w es u (head_at (b ∷ r) at d) refl (inside_head (b ∷ r) at d (omega arith)) (begins (b ∷ r) at d (omega arith) w)
    (sym (list_more d at (b ∷ r) (omega arith)) ∙ e)

pub sound : (d at : ℕ) (s : List ℕ) (es : List Entry) (u : ℕ) → Below 256 s → listing d at s ≡ took es u → Tree d at s es
sound d at s es u w e = sound_at (length s) d at s es u (le_refl (length s)) w e
