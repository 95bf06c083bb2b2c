-- What is put together and lists again as the words that were lent has their listing and values: the bytes tell the values. Assumes nothing.
use mathlib.Core.Path.{◌≡◌, refl, sym, ap, ◌∙◌}
use Prim.Native.Nat.{ℕ, zero, suc, ◌+◌, ◌*◌, ◌/◌, ◌%◌, ◌≤◌, ◌<◌}
use native.Mathlib.Omega.{arith}
use mathlib.Core.Bool.{Bool, true, false, cond, ◌&&◌}
use mathlib.Core.List.{List, [], ◌∷◌, ◌++◌, append-nil}
use borrow.Author.Tests.{lt-ltb, ltb-false, leb-true, leb-false}
use lib.Dec.{ltb, leb, eqb, lit<}
use lib.ListN.{length, drop, take, replicate, length-replicate, take-append-drop}
use lib.Seq.{sets}
use Rattle.std.specs.Prelude.{Result, is_ok}
use Rattle.tree.specs.declared.Refusal.{Refusal}
use Rattle.tree.specs.Heads.{refuse}
use Rattle.tree.specs.Listing.{Entry, Out, took, refused, listing}
use Rattle.tree.specs.Answers.{words, count_of, answered, filled, tree_answer, tree_room}
use Rattle.ground.specs.Lists.{same_list}
use Rattle.ground.proofs.Lists.{same_equal}
use Rattle.lengths.specs.Lengths.{length_field}
use Rattle.lengths.proofs.Forms.{field_one, field_two, field_three}
use Rattle.tree.specs.Forest.{encode, entries, values}
use Rattle.tree.proofs.Behind.{below_take, below_drop, below_both}
use Rattle.tree.proofs.Whole.{listed}
use Rattle.tree.proofs.Sound.{sound}
use Rattle.tree.proofs.Order.{plain_values}
use Rattle.tree_back.specs.Glue.{value_size, object_bytes, fits, Glue, glued, none, prepend, glue, same_tree}
use Rattle.tree_back.proofs.Putting.{bytes_size}
use Rattle.tree_back.proofs.Sofar.{fits_in}
use Rattle.tree_back.proofs.WritesBack.{glue_entries, room_is}
use Rattle.tree.specs.Trees.{Below, plain_of}
use Rattle.tree_back.specs.Sources.{Those}

below_cons : (b : ℕ) (bs : List ℕ) → b < 256 → Below 256 bs → Below 256 (b ∷ bs)
below_cons b bs h w zero = h
below_cons b bs h w (suc i) = w i

-- the bytes of a field are bytes
below_field : (n : ℕ) → n < 65536 → Below 256 (length_field n)
below_field n h = go (leb n 127) refl (leb n 255) refl
  where
    go : (p : Bool) → leb n 127 ≡ p → (q : Bool) → leb n 255 ≡ q → Below 256 (length_field n)
    go true a q b = rw (field_one n (leb-true n 127 a)) (below_cons n [] (omega (arith, leb-true n 127 a)) (λ i. lit< tt))
    go false a true b = rw (field_two n (leb-false n 127 a) (leb-true n 255 b)) (below_cons 0x81 (n ∷ []) (lit< tt) (below_cons n [] (omega (arith, leb-true n 255 b)) (λ i. lit< tt)))
    go false a false b =
        rw (field_three n (leb-false n 255 b))
        (below_cons 0x82 (n / 256 ∷ n % 256 ∷ []) (lit< tt) (below_cons (n / 256) (n % 256 ∷ []) (omega arith) (below_cons (n % 256) [] (omega arith) (λ i. lit< tt))))

-- what was glued, taken apart
record Split (cap p t n : ℕ) (ws vs b : List ℕ) : Type 0 where
  ok : fits cap p t n vs ≡ true
  rest : List ℕ
  glues : glue cap (p + length (object_bytes t n vs)) ws (drop (value_size t n) vs) ≡ glued rest
  is : b ≡ object_bytes t n vs ++ rest

module _ (cap p t n : ℕ) (ws vs b : List ℕ) where
  split_by : (q : Bool) (g : Glue) → fits cap p t n vs ≡ q → glue cap (p + length (object_bytes t n vs)) ws (drop (value_size t n) vs) ≡ g
      → cond q (prepend (object_bytes t n vs) g) none ≡ glued b → Split cap p t n ws vs b
  split_by true (glued c) e h k = let f : b ≡ object_bytes t n vs ++ c = cc in record { ok = e; rest = c; glues = h; is = f }
  split_by true none e h k = absurd (let z : ◌≡◌ {A = ℕ} 0 1 = cc in omega arith)
  split_by false g e h k = absurd (let z : ◌≡◌ {A = ℕ} 0 1 = cc in omega arith)

  split : (d a : ℕ) → glue cap p (t ∷ d ∷ a ∷ n ∷ ws) vs ≡ glued b → Split cap p t n ws vs b
  unfolding glue
  split d a e = split_by (fits cap p t n vs) (glue cap (p + length (object_bytes t n vs)) ws (drop (value_size t n) vs)) refl refl e

nothing_left : (vs b : List ℕ) → cond (ltb 0 (length vs)) none (glued []) ≡ glued b → (vs ≡ []) × (b ≡ [])
nothing_left [] b e = (refl, cc)
nothing_left (v ∷ vs) b e =
    let f : none ≡ glued b = rw (lt-ltb 0 (suc (length vs)) (omega arith)) at e in
    absurd (let z : ◌≡◌ {A = ℕ} 0 1 = cc in omega arith)

-- the bytes that are glued are bytes
pub glue_bytes : (cap p : ℕ) (ws vs b : List ℕ) → Below 65536 ws → Below 256 vs → glue cap p ws vs ≡ glued b → Below 256 b
unfolding glue object_bytes
glue_bytes cap p [] vs b w v e = rw (nothing_left vs b e).1 (λ i. lit< tt)
glue_bytes cap p (t ∷ []) vs b w v e = absurd (let z : ◌≡◌ {A = ℕ} 0 1 = cc in omega arith)
glue_bytes cap p (t ∷ d ∷ []) vs b w v e = absurd (let z : ◌≡◌ {A = ℕ} 0 1 = cc in omega arith)
glue_bytes cap p (t ∷ d ∷ a ∷ []) vs b w v e = absurd (let z : ◌≡◌ {A = ℕ} 0 1 = cc in omega arith)
glue_bytes cap p (t ∷ d ∷ a ∷ n ∷ ws) vs b w v e =
    let k = split cap p t n ws vs b d a e in
    let f = fits_in cap p t n vs k.ok in
    let own : Below 256 (t ∷ (length_field n ++ take (value_size t n) vs)) =
    below_cons t (length_field n ++ take (value_size t n) vs) (omega (arith, f.tag))
    (below_both 256 (length_field n) (take (value_size t n) vs) (below_field n (w 3)) (below_take 256 (value_size t n) vs (lit< tt) v)) in
    rw k.is (below_both 256 (t ∷ (length_field n ++ take (value_size t n) vs)) k.rest own
    (glue_bytes cap (p + length (object_bytes t n vs)) ws (drop (value_size t n) vs) k.rest (λ i. w (suc (suc (suc (suc i))))) (below_drop 256 (value_size t n) vs (lit< tt) v) k.glues))

-- the bytes tell the values
same_front : (ds bs xs ys : List ℕ) → length ds ≡ length bs → ds ++ xs ≡ bs ++ ys → (ds ≡ bs) × (xs ≡ ys)
same_front [] [] xs ys e h = (refl, h)
same_front [] (b ∷ bs) xs ys e h = absurd (omega arith)
same_front (a ∷ ds) [] xs ys e h = absurd (omega arith)
same_front (a ∷ ds) (b ∷ bs) xs ys e h =
    let f : a ≡ b = cc in
    let g : ds ++ xs ≡ bs ++ ys = cc in
    let l : length ds ≡ length bs = omega arith in
    let r = same_front ds bs xs ys l g in
    (rw (f, r.0), r.1)

object_tells : (t n : ℕ) (vs xs : List ℕ) → object_bytes t n vs ≡ object_bytes t n xs → take (value_size t n) vs ≡ take (value_size t n) xs
unfolding object_bytes
object_tells t n vs xs e =
    let f : length_field n ++ take (value_size t n) vs ≡ length_field n ++ take (value_size t n) xs = cc in
    (same_front (length_field n) (length_field n) (take (value_size t n) vs) (take (value_size t n) xs) refl f).1

pub glue_tells : (cap p : ℕ) (ws vs xs b : List ℕ) → glue cap p ws vs ≡ glued b → glue cap p ws xs ≡ glued b → vs ≡ xs
unfolding glue
glue_tells cap p [] vs xs b e h = (nothing_left vs b e).0 ∙ sym (nothing_left xs b h).0
glue_tells cap p (t ∷ []) vs xs b e h = absurd (let z : ◌≡◌ {A = ℕ} 0 1 = cc in omega arith)
glue_tells cap p (t ∷ d ∷ []) vs xs b e h = absurd (let z : ◌≡◌ {A = ℕ} 0 1 = cc in omega arith)
glue_tells cap p (t ∷ d ∷ a ∷ []) vs xs b e h = absurd (let z : ◌≡◌ {A = ℕ} 0 1 = cc in omega arith)
glue_tells cap p (t ∷ d ∷ a ∷ n ∷ ws) vs xs b e h =
    let m = value_size t n in
    let k = split cap p t n ws vs b d a e in
    let j = split cap p t n ws xs b d a h in
    let f = fits_in cap p t n vs k.ok in
    let g = fits_in cap p t n xs j.ok in
    let l : length (object_bytes t n vs) ≡ length (object_bytes t n xs) = bytes_size cap p t n vs f.enough ∙ sym (bytes_size cap p t n xs g.enough) in
    let r = same_front (object_bytes t n vs) (object_bytes t n xs) k.rest j.rest l (sym k.is ∙ j.is) in
    let gj : glue cap (p + length (object_bytes t n vs)) ws (drop m xs) ≡ glued k.rest = rw (l, r.1) j.glues in
    let i = glue_tells cap (p + length (object_bytes t n vs)) ws (drop m vs) (drop m xs) k.rest k.glues gj in
    sym (take-append-drop m vs) ∙ rw (object_tells t n vs xs r.0, i) (take-append-drop m xs)

-- what the test of the listing says
pub record Lists (b ws : List ℕ) : Type 0 where
  pub short : length b ≤ 4096
  pub es : List Entry
  pub used : ℕ
  pub listed : listing 1 0 b ≡ took es used
  pub are_words : words es ≡ ws

module _ (b ws room : List ℕ) (big : length room ≡ 8192) where
  abbrev Same : Result ℕ Refusal → List ℕ → Bool
  Same a after = is_ok a && same_list (take (count_of a * 4) after) ws

  refused-not : (x p : ℕ) (after : List ℕ) → Same (refuse x p) after ≡ true → Lists b ws
  refused-not x p after k = absurd (let z : ◌≡◌ {A = ℕ} 0 1 = cc in omega arith)

  lists-room : (es : List Entry) (u : ℕ) → listing 1 0 b ≡ took es u → length b ≤ 4096 → (q : Bool) → ltb (length room) (4 * length es) ≡ q
      → Same (cond q (refuse 55 0) (listed (length es))) (cond q room (sets room 0 (words es))) ≡ true → Lists b ws
  lists-room es u e h true r k = refused-not 55 0 room k
  lists-room es u e h false r k =
      let f : 4 * length es ≤ length room = ltb-false (length room) (4 * length es) r in
      record { short = h; es = es; used = u; listed = e; are_words = sym (room_is b es u h e room f) ∙ same_equal (take (length es * 4) (sets room 0 (words es))) ws k }

  lists-out : (o : Out) → listing 1 0 b ≡ o → length b ≤ 4096 → Same (answered o (length room)) (filled o room) ≡ true → Lists b ws
  unfolding answered filled
  lists-out (took es u) e h k = lists-room es u e h (ltb (length room) (4 * length es)) refl k
  lists-out (refused x p) e h k = refused-not x p room k

  lists-by : (q : Bool) → ltb 4096 (length b) ≡ q
      → Same (cond q (refuse 54 0) (answered (listing 1 0 b) (length room))) (cond q room (filled (listing 1 0 b) room)) ≡ true → Lists b ws
  lists-by true e k = refused-not 54 0 room k
  lists-by false e k = lists-out (listing 1 0 b) refl (ltb-false 4096 (length b) e) k

pub lists : (b ws : List ℕ) → same_tree b ws ≡ true → Lists b ws
unfolding same_tree tree_answer tree_room
lists b ws e = lists-by b ws (replicate 8192 0) (length-replicate {A = ℕ} 8192 0) (ltb 4096 (length b)) refl e

end : (b : List ℕ) → prepend b (glue 4100 (0 + length b) [] []) ≡ glued b
unfolding glue
end b = rw append-nil

-- where something is written back, words and values are those of the bytes
pub only_those : (ws vs b : List ℕ) → Below 65536 ws → Below 256 vs → glue 4100 0 ws vs ≡ glued b → same_tree b ws ≡ true → Those ws vs b
only_those ws vs b w v e s =
    let l = lists b ws s in
    let ok = glue_bytes 4100 0 ws vs b w v e in
    let t = sound 1 0 b l.es l.used ok l.listed in
    let f = t.forest in
    let pv : plain_of b l.es ≡ values f = rw t.list at (plain_values b 1 0 f [] (sym (append-nil (encode f) ∙ t.bytes)) t.valid) in
    let wf : words (entries 1 0 f) ≡ ws = ap words t.list ∙ l.are_words in
    let g = rw (append-nil, append-nil, wf, t.bytes) at (glue_entries 0 1 0 f [] [] t.valid (rw t.bytes ok) (rw t.bytes (omega (arith, l.short)))) in
    let g2 : glue 4100 0 ws (values f) ≡ glued b = g ∙ end b in
    record { short = l.short; bytes = ok; es = l.es; used = l.used; listed = l.listed; are_words = l.are_words; are_values = pv ∙ glue_tells 4100 0 ws (values f) vs b g2 e }
