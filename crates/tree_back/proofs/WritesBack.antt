-- The listing of some bytes and their plain values are put together as those bytes, and list again as that listing: by the forest. Assumes nothing.
use mathlib.Core.Path.{◌≡◌, refl, sym, ap, ◌∙◌}
use Prim.Native.Nat.{ℕ, zero, suc, ◌+◌, ◌*◌, ◌≤◌}
use native.Mathlib.Nat.{add-zero, add_assoc}
use native.Mathlib.Omega.{arith}
use mathlib.Core.Bool.{true, false}
use mathlib.Core.List.{List, [], ◌∷◌, ◌++◌, append-nil, append_assoc}
use borrow.Author.Tests.{le-ltb}
use lib.Dec.{lit<}
use lib.ListN.{length, drop, take, replicate, length-append, length-replicate}
use lib.Seq.{sets, sets-eq, take-append_seam, drop-append_seam}
use Rattle.tree.proofs.Whole.{listed}
use Rattle.tree.specs.Heads.{is_list}
use Rattle.tree.specs.Listing.{Entry, took, listing}
use Rattle.tree.specs.Answers.{words, answered, filled, tree_answer, tree_room}
use Rattle.tree.proofs.Words.{length_words, words_append}
use Rattle.lengths.specs.Lengths.{length_field}
use Rattle.tree.specs.Forest.{Forest, done, plain, template, front, encode, entries, Valid, values}
use Rattle.tree.proofs.Complete.{all_is}
use Rattle.tree.proofs.Sound.{sound}
use Rattle.tree.proofs.Order.{plain_values, two_each}
use Rattle.tree_back.specs.Glue.{value_size, object_bytes, fits, glued, prepend, glue, same_tree}
use Rattle.ground.proofs.Lists.{same_self}
use Rattle.lengths.proofs.Laws.{field_size}
use Rattle.tree_back.proofs.Putting.{fit}
use Rattle.tree_back.proofs.Sofar.{prepend_none, prepend_prepend}
use Rattle.tree.specs.Trees.{Below, plain_of}
use Rattle.tree_back.specs.Sources.{Those}

below_right : (xs ys : List ℕ) → Below 256 (xs ++ ys) → Below 256 ys
below_right [] ys w = w
below_right (x ∷ xs) ys w = below_right xs ys (λ i. w (suc i))

below_left : (xs ys : List ℕ) → Below 256 (xs ++ ys) → Below 256 xs
below_left [] ys w i = lit< tt
below_left (x ∷ xs) ys w zero = w 0
below_left (x ∷ xs) ys w (suc i) = below_left xs ys (λ j. w (suc j)) i

glue_cons : (cap p t d a n : ℕ) (ws vs : List ℕ) → fits cap p t n vs ≡ true
    → glue cap p (t ∷ d ∷ a ∷ n ∷ ws) vs ≡ prepend (object_bytes t n vs) (glue cap (p + length (object_bytes t n vs)) ws (drop (value_size t n) vs))
unfolding glue
glue_cons cap p t d a n ws vs e = rw e

size_plain : (t n : ℕ) → is_list t ≡ false → value_size t n ≡ n
unfolding value_size
size_plain t n e = rw e

size_template : (t n : ℕ) → is_list t ≡ true → value_size t n ≡ 0
unfolding value_size
size_template t n e = rw e

bytes_plain : (t : ℕ) (v vs : List ℕ) → is_list t ≡ false → object_bytes t (length v) (v ++ vs) ≡ t ∷ (length_field (length v) ++ v)
unfolding object_bytes
bytes_plain t v vs e = rw (size_plain t (length v) e, take-append_seam v vs)

bytes_template : (t n : ℕ) (vs : List ℕ) → is_list t ≡ true → object_bytes t n vs ≡ t ∷ length_field n
unfolding object_bytes
bytes_template t n vs e = rw (size_template t n e, append-nil)

pub glue_entries : (p d at : ℕ) (f : Forest) (ws vs : List ℕ) → Valid d f → Below 256 (encode f) → p + length (encode f) ≤ 4096
    → glue 4100 p (words (entries d at f) ++ ws) (values f ++ vs) ≡ prepend (encode f) (glue 4100 (p + length (encode f)) ws vs)
unfolding encode entries Valid values words
glue_entries p d at done ws vs w b h = rw add-zero (sym (prepend_none (glue 4100 p ws vs)))
glue_entries p d at (plain t v r) ws vs w b h =
    let n = length v in
    let u = front n + n in
    let z = field_size n in
    let l = all_is t n v (encode r) refl in
    let k = length-append v (values r ++ vs) in
    let ob : object_bytes t n (v ++ (values r ++ vs)) ≡ t ∷ (length_field n ++ v) = bytes_plain t v (values r ++ vs) w.0.1 in
    let size : length (t ∷ (length_field n ++ v)) ≡ u = simp length-append (omega arith) in
    let vz : value_size t n ≡ n = size_plain t n w.0.1 in
    let ok : fits 4100 p t n (v ++ (values r ++ vs)) ≡ true = fit 4100 p t n (v ++ (values r ++ vs)) (omega (arith, b 0)) (omega arith) (omega arith) in
    rw (
      append_assoc v (values r) vs,
      glue_cons 4100 p t d at n (words (entries d (at + u) r) ++ ws) (v ++ (values r ++ vs)) ok,
      ob,
      size,
      vz,
      drop-append_seam v (values r ++ vs),
      glue_entries (p + u) d (at + u) r ws vs w.1 (below_right v (encode r) (below_right (length_field n) (v ++ encode r) (λ i. b (suc i)))) (omega arith),
      l,
    )
    (prepend_prepend (t ∷ (length_field n ++ v)) (encode r) (glue 4100 (p + u + length (encode r)) ws vs) ∙ rw (append_assoc, add_assoc))
glue_entries p d at (template t i r) ws vs w b h =
    let n = length (encode i) in
    let u = front n + n in
    let z = field_size n in
    let l = all_is t n (encode i) (encode r) refl in
    let ob : object_bytes t n (values i ++ (values r ++ vs)) ≡ t ∷ length_field n = bytes_template t n (values i ++ (values r ++ vs)) w.0.1 in
    let size : length (t ∷ length_field n) ≡ front n = omega arith in
    let vz : value_size t n ≡ 0 = size_template t n w.0.1 in
    let ok : fits 4100 p t n (values i ++ (values r ++ vs)) ≡ true = fit 4100 p t n (values i ++ (values r ++ vs)) (omega (arith, b 0)) (omega arith) (omega arith) in
    let q : p + front n + n + length (encode r) ≡ p + (front n + n + length (encode r)) = omega arith in
    let b2 = below_right (length_field n) (encode i ++ encode r) (λ k. b (suc k)) in
    rw (
      append_assoc (values i) (values r) vs,
      words_append (entries (suc d) (at + front n) i) (entries d (at + u) r),
      append_assoc (words (entries (suc d) (at + front n) i)) (words (entries d (at + u) r)) ws,
      glue_cons 4100 p t d at n (words (entries (suc d) (at + front n) i) ++ (words (entries d (at + u) r) ++ ws)) (values i ++ (values r ++ vs)) ok,
      ob,
      size,
      vz,
      glue_entries (p + front n) (suc d) (at + front n) i (words (entries d (at + u) r) ++ ws) (values r ++ vs) w.1.0 (below_left (encode i) (encode r) b2) (omega arith),
      glue_entries (p + front n + n) d (at + u) r ws vs w.1.1 (below_right (encode i) (encode r) b2) (omega arith),
      l,
    )
    (ap (prepend (t ∷ length_field n)) (prepend_prepend (encode i) (encode r) (glue 4100 (p + front n + n + length (encode r)) ws vs))
    ∙ (prepend_prepend (t ∷ length_field n) (encode i ++ encode r) (glue 4100 (p + front n + n + length (encode r)) ws vs) ∙ ap (λ (x : ℕ). prepend (t ∷ (length_field n ++ (encode i ++ encode r))) (glue 4100 x ws vs)) q))

-- the listing of b again, in the room for the longest
module _ (b : List ℕ) (es : List Entry) (u : ℕ) (short : length b ≤ 4096) (lists : listing 1 0 b ≡ took es u) where
  tree_is : 4 * length es ≤ 8192 → (room : List ℕ) → length room ≡ 8192 → (tree_answer b room ≡ listed (length es)) × (tree_room b room ≡ sets room 0 (words es))
  unfolding tree_answer tree_room answered filled
  tree_is h room e =
      let q = le-ltb (length room) (4 * length es) (omega arith) in
      let z = le-ltb 4096 (length b) short in
      (rw (z, lists, q), rw (z, lists, q))

  pub room_is : (room : List ℕ) → 4 * length es ≤ length room → take (length es * 4) (sets room 0 (words es)) ≡ words es
  room_is room h =
      let k : length es * 4 ≡ length (words es) = omega (arith, length_words es) in
      rw (k, sets-eq (words es) room 0 (omega arith)) (take-append_seam (words es) (drop (0 + length (words es)) room))

  pub same_words : 2 * length es ≤ length b → same_tree b (words es) ≡ true
  unfolding same_tree
  same_words h =
      let l : length {A = ℕ} (replicate 8192 0) ≡ 8192 = length-replicate {A = ℕ} 8192 0 in
      let r = tree_is (omega arith) (replicate 8192 0) l in
      rw (r.0, r.1, room_is (replicate 8192 0) (omega arith), same_self (words es))

-- what belongs to bytes that the listing accepts is written back as those bytes
pub writes_back : (ws vs b : List ℕ) → Those ws vs b → (glue 4100 0 ws vs ≡ glued b) × (same_tree b ws ≡ true)
unfolding glue
writes_back ws vs b w =
    let t = sound 1 0 b w.es w.used w.bytes w.listed in
    let f = t.forest in
    let pv : plain_of b w.es ≡ values f = rw t.list at (plain_values b 1 0 f [] (sym (append-nil (encode f) ∙ t.bytes)) t.valid) in
    let vf : values f ≡ vs = sym pv ∙ w.are_values in
    let wf : words (entries 1 0 f) ≡ ws = ap words t.list ∙ w.are_words in
    let g = glue_entries 0 1 0 f [] [] t.valid (rw t.bytes w.bytes) (rw t.bytes (omega (arith, w.short))) in
    let two : 2 * length w.es ≤ length b = rw (t.list, t.bytes) at (two_each 1 0 f) in
    (rw (append-nil, append-nil, wf, vf, t.bytes, append-nil) at g, rw (← w.are_words) (same_words b w.es w.used w.short w.listed two))
