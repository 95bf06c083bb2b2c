-- What any reading is refused with, whatever is lent: link by link of the chain, each where those before it refuse nothing. Assumes nothing.
use Prim.Native.Nat.{ℕ, zero, suc, ◌+◌, ◌-◌, ◌≤◌, ◌<◌}
use native.Mathlib.Omega.{arith}
use mathlib.Core.Path.{◌≡◌, refl, ap}
use mathlib.Core.Bool.{Bool, true, false, cond, ◌&&◌}
use mathlib.Core.List.{List, [], ◌∷◌, ◌++◌, map}
use lib.ListN.{length, take, drop, get_or, length-append, length-drop, length-map}
use lib.Dec.{leb}
use borrow.Author.Tests.{eqb-true, eqb-false}
use Rattle.edition.specs.declared.Row.{Row}
use Rattle.edition.specs.declared.Edition.{Edition}
use Rattle.edition.specs.declared.Formed.{Formed}
use Rattle.edition.specs.declared.Formed.TheVariants.{Well, Bad, Unnumbered}
use Rattle.ground.specs.Lists.{among}
use Rattle.ground.proofs.Lists.{agree_within, leading_most, among_more, among_front}
use Rattle.edition.specs.Rows.{tags, tag_of, no_row, formed_of}
use Rattle.edition.proofs.Rows.{bad_below, bad_rows, number_zero}
use Rattle.card.specs.declared.Refusal.{Refusal}
use Rattle.card.specs.declared.LengthField.{LengthField}
use Rattle.card.specs.declared.LengthField.TheVariants.{One, Two, Other, Cut}
use Rattle.card.specs.Refusals.{refuse_length, none, bad_row}
use Rattle.card.specs.Layout.{head, body, tag_at, filler}
use Rattle.card.specs.Rules.{Entry, entries, object_rows, is_zero, first_present}
use Rattle.card.specs.Sums.{sums_refusal}
use Rattle.card.specs.Walk.{Walked, through, stopped, walk}
use Rattle.card.specs.Frame.{free_of, head_end, field_wrong, field_of, start_of, end_of, tail_end, tail_part, objects_in}
use Rattle.card.specs.Reading.{refused, front_refusal, rest_refusal, checksum_refusal, tail_refusal, walk_refusal, walk_of, read_refusal, answer}
use Rattle.card.proofs.Chains.{of_tail, or_after, gate_after, gate_in, table_well, refused_in}
use Rattle.card.proofs.Layouts.{length_field_lem}
use Rattle.card.proofs.Walks.{sound, In, front, behind, Stops, no_tag, at_row, at_length, stops, stops_some}
use Rattle.card.proofs.Seventeen.{Table, table_of, with_eight}
use Rattle.card.proofs.FieldsRead.{size_of, FieldBack}
use Rattle.card.proofs.Readings.{front_in}
use Rattle.demands.specs.Demands.{LentEdition, ReadingSays, no-row, of_row, of_length, unnumbered}

-- of a link: it refuses nothing, or says what a reading may say
abbrev Says : Edition → Refusal → Type 0
Says e x = (x.number ≡ 0 → ⊥) → ReadingSays e x

nothing : (e : Edition) → Says e none
nothing e = λ some. absurd (some refl)

-- ---- 2
bad_says : (e : Edition) (f : Formed) → LentEdition e → formed_of e ≡ f → Says e (bad_row f)
unfolding bad_row among
bad_says e Well n q = nothing e
bad_says e (Bad k) n q = λ some. of_row 2 0 k refl (omega arith) (omega (arith, bad_below 0 e.rows k (bad_rows e k q)))
bad_says e Unnumbered n q = λ some. unnumbered (number_zero e q)

-- ---- 3 and 4
take_most : (n : ℕ) (l : List ℕ) → length (take n l) ≤ n
take_most zero l = omega arith
take_most (suc n) [] = omega arith
take_most (suc n) (x ∷ l) = omega (arith, take_most n l)

head_most : (s : List ℕ) → head_end s ≤ 30
unfolding head_end
head_most s = omega (arith, agree_within (head (get_or s 0 0) (free_of s)) (take 30 s), take_most 30 s)

cond_most : (q : Bool) (a b n : ℕ) → a ≤ n → b ≤ n → cond q a b ≤ n
cond_most true a b n h k = h
cond_most false a b n h k = k

field_most : (f : LengthField) → field_wrong f ≤ 32
unfolding field_wrong
field_most (One n) = cond_most (leb 70 n) 0 31 32 (omega arith) (omega arith)
field_most (Two n) = cond_most (leb 128 n && leb n 212) 0 32 32 (omega arith) (omega arith)
field_most (Other b) = omega arith
field_most Cut = omega arith

front_says : (e : Edition) (s : List ℕ) → Says e (front_refusal s)
unfolding front_refusal among
front_says e s =
    gate_after (Says e) _ _ _ (λ q some. no-row 3 0 refl (omega arith)) (λ q.
    gate_after (Says e) _ _ _ (λ q some. no-row 3 (head_end s) refl (omega (arith, head_most s))) (λ q.
    gate_after (Says e) _ _ _ (λ q some. no-row 4 30 refl (omega arith)) (λ q.
    gate_after (Says e) _ _ _ (λ q some. no-row 4 (field_wrong (field_of s)) refl (omega (arith, field_most (field_of s)))) (λ q. nothing e))))

-- ---- where the objects start and the template ends
record Framed (s : List ℕ) : Type 0 where
  end : end_of s ≤ 245
  objects : start_of s + length (objects_in s) ≤ 245

framed : (s : List ℕ) → FieldBack s → Framed s
unfolding end_of
framed s f =
    let l = length_field_lem (size_of s) (omega (arith, f.hi)) in
    let t = take_most (size_of s) (drop (start_of s) s) in
    record { end = omega (arith, f.start, f.hi); objects = omega (arith, f.start, f.hi) }

-- ---- 5 to 10: an entry of the table is a row with its tag
record Rowed (e : Edition) (r : Entry) : Type 0 where
  k : ℕ
  below : k < 17
  tag : r.tag ≡ tag_of k
  row : r.row ≡ get_or e.rows k no_row

record At (ts : List ℕ) (rs : List Row) (r : Entry) : Type 0 where
  k : ℕ
  below : k < length ts
  tag : r.tag ≡ get_or ts k 0
  row : r.row ≡ get_or rs k no_row

entry_at : (ts : List ℕ) (rs : List Row) (r : Entry) (es : List Entry) → es ≡ entries ts rs → In r es → At ts rs r
unfolding entries
entry_at [] rs r es q i = absurd (none es q i)
  where
    none : (es : List Entry) → es ≡ [] → In r es → ⊥
    none es e front = let z : ◌≡◌ {A = ℕ} 0 1 = cc in omega arith
    none es e (behind j) = let z : ◌≡◌ {A = ℕ} 0 1 = cc in omega arith
entry_at (t ∷ ts) [] r es q i = absurd (none es q i)
  where
    none : (es : List Entry) → es ≡ [] → In r es → ⊥
    none es e front = let z : ◌≡◌ {A = ℕ} 0 1 = cc in omega arith
    none es e (behind j) = let z : ◌≡◌ {A = ℕ} 0 1 = cc in omega arith
entry_at (t ∷ ts) (x ∷ rs) r es q front = record { k = 0; below = omega arith; tag = cc; row = cc }
entry_at (t ∷ ts) (x ∷ rs) r es q (behind {rs = more} j) =
    let h = entry_at ts rs r more (cc) j in
    record { k = suc h.k; below = omega (arith, h.below); tag = h.tag; row = h.row }

rowed : (e : Edition) (r : Entry) → In r (entries tags e.rows) → Rowed e r
unfolding tags
rowed e r i =
    let h = entry_at tags e.rows r (entries tags e.rows) refl i in
    record { k = h.k; below = h.below; tag = h.tag; row = h.row }

length_says : (e : Edition) (place k tag : ℕ) (r : Row) → tag ≡ tag_of k → r ≡ get_or e.rows k no_row → place < 256 → k < 17 → ReadingSays e (refuse_length place tag r.lengths)
length_says e place k tag r t q l b = rw (t, q) (of_length place k l b)

stops_says : (e : Edition) (end : ℕ) (x : Refusal) → end < 256 → Stops (entries tags e.rows) end x → ReadingSays e x
unfolding among
stops_says e end x l (no_tag place p) = no-row 5 place refl (omega arith)
stops_says e end x l (at_row number place {r} i a p) =
    let h = rowed e r i in
    rw h.tag (of_row number place h.k (among_more number 2 (6 ∷ 8 ∷ 9 ∷ 10 ∷ 11 ∷ []) (among_front number (6 ∷ 8 ∷ 9 ∷ 10 ∷ []) (11 ∷ []) a)) (omega arith) h.below)
stops_says e end x l (at_length place {r} i p) =
    let h = rowed e r i in
    length_says e place h.k r.tag r.row h.tag h.row (omega arith) h.below

-- ---- 11: the objects before one take no more bytes than all
body_front : (i : ℕ) (ts : List ℕ) (vs : List (List ℕ)) → length (body (take i ts) (take i vs)) ≤ length (body ts vs)
unfolding body
body_front zero ts vs = omega arith
body_front (suc i) ts [] = omega arith
body_front (suc i) [] (v ∷ vs) = omega arith
body_front (suc i) (t ∷ ts) (v ∷ vs) = rw (length-append, length-append) (omega (arith, body_front i ts vs))

body_take : (k : ℕ) (ts : List ℕ) (vs : List (List ℕ)) → length (body ts (take k vs)) ≤ length (body ts vs)
unfolding body
body_take zero ts vs = omega arith
body_take (suc k) ts [] = omega arith
body_take (suc k) [] (v ∷ vs) = omega arith
body_take (suc k) (t ∷ ts) (v ∷ vs) = rw (length-append, length-append) (omega (arith, body_take k ts vs))

-- the first object present of the sixteen, and where its tag stands
first_most : (k : ℕ) (all : List (List ℕ)) → k ≤ 16 → first_present k (map length (take 16 all)) ≤ 16
first_most k all h =
    let m = leading_most is_zero (drop k (map length (take 16 all))) in
    let d = length-drop k (map length (take 16 all)) in
    let n = length-map (take 16 all) length in
    let t = values-most 16 all in
    omega arith
  where
    values-most : (n : ℕ) (l : List (List ℕ)) → length (take n l) ≤ n
    values-most zero l = omega arith
    values-most (suc n) [] = omega arith
    values-most (suc n) (x ∷ l) = omega (arith, values-most n l)

group_low : (e : Edition) (s : List ℕ) (all : List (List ℕ)) (rest : List ℕ) (i : ℕ) → Table e → Framed s
    → walk_of e s ≡ through all rest → tag_at (start_of s) (take 16 all) i < 256
unfolding tag_at
group_low e s all rest i t f q =
    let w : walk (with_eight (object_rows e)) (start_of s) (objects_in s) ≡ through all rest = rw t.whole at q in
    let b = (sound (with_eight (object_rows e)) (start_of s) (objects_in s) all rest w).1 in
    let bytes : objects_in s ≡ body tags all ++ rest = rw t.tagged at b in
    let n = rw length-append at (ap length bytes) in
    let p = body_front i tags (take 16 all) in
    let r = body_take 16 tags all in
    let z = f.objects in
    omega arith

sums_says : (e : Edition) (s : List ℕ) (all : List (List ℕ)) (rest : List ℕ) → Table e → Framed s → walk_of e s ≡ through all rest
    → Says e (sums_refusal (tag_at (start_of s) (take 16 all)) (map length (take 16 all)))
unfolding sums_refusal among
sums_says e s all rest t f q =
    gate_after (Says e) _ _ _ (λ z some. of_row 11 _ _ refl (group_low e s all rest _ t f q) (omega (arith, first_most 6 all (omega arith)))) (λ z.
    gate_after (Says e) _ _ _ (λ z some. of_row 11 _ _ refl (group_low e s all rest _ t f q) (omega (arith, first_most 12 all (omega arith)))) (λ z. nothing e))

-- ---- 14 to 17
tail_among : (t at : ℕ) → among (tail_part t at) (1 ∷ 3 ∷ 4 ∷ 5 ∷ 12 ∷ 13 ∷ 14 ∷ 15 ∷ 16 ∷ 17 ∷ []) ≡ true
unfolding among
tail_among = of_tail (λ (n : ℕ). among n (1 ∷ 3 ∷ 4 ∷ 5 ∷ 12 ∷ 13 ∷ 14 ∷ 15 ∷ 16 ∷ 17 ∷ []) ≡ true) refl refl refl refl

tail_below : (s : List ℕ) → length s ≡ 256 → Framed s → (tail_end s ≡ 256 → ⊥) → tail_end s < 256
unfolding tail_end
tail_below s n f u =
    let c = f.end in
    let a = agree_within (filler (255 - end_of s) (get_or s 255 0)) (drop (end_of s) s) in
    let d = length-drop (end_of s) s in
    omega (arith, u)

-- ---- the links behind the front
walk_says : (e : Edition) (s : List ℕ) (w : Walked) → Table e → length s ≡ 256 → Framed s → walk_of e s ≡ w → Says e (walk_refusal s w)
unfolding walk_refusal rest_refusal checksum_refusal tail_refusal among
walk_says e s (stopped x) t n f q =
    let st = stops _ _ _ x q in
    or_after (Says e) _ _ (λ some. stops_says e _ x (omega (arith, f.objects)) st) (λ z. absurd (stops_some st z))
walk_says e s (through all rest) t n f q =
    let c = f.end in
    or_after (Says e) _ _ (nothing e) (λ z.
    or_after (Says e) _ _ (gate_after (Says e) _ _ _ (λ z some. no-row 12 _ refl (omega arith)) (λ z. nothing e)) (λ z.
    or_after (Says e) _ _ (sums_says e s all rest t f q) (λ z.
    or_after (Says e) _ _ (gate_after (Says e) _ _ _ (λ z some. no-row 13 _ refl (omega arith)) (λ z. nothing e)) (λ z.
    gate_after (Says e) _ _ _ (λ z some. no-row _ _ (tail_among _ _) (tail_below s n f (eqb-false (tail_end s) 256 z))) (λ z.
    gate_after (Says e) _ _ _ (λ z some. no-row _ 255 (tail_among _ _) (omega arith)) (λ z. nothing e))))))

chain_says : (e : Edition) (s : List ℕ) → LentEdition e → Says e (read_refusal e s)
unfolding read_refusal among
chain_says e s n =
    or_after (Says e) _ _ (gate_after (Says e) _ _ _ (λ z some. no-row 1 0 refl (omega arith)) (λ z. nothing e)) (λ size.
    or_after (Says e) _ _ (bad_says e _ n refl) (λ formed.
    or_after (Says e) _ _ (front_says e s) (λ front.
    let m : length s ≡ 256 = eqb-true _ _ (gate_in _ _ _ (omega arith) size).0 in
    walk_says e s _ (table_of e n (table_well _ formed)) m (framed s (front_in s m front).field) refl)))

pub reading_says : (e : Edition) (s : List ℕ) (x : Refusal) → LentEdition e → answer e s ≡ refused x → ReadingSays e x
unfolding answer
reading_says e s x n h = let r = refused_in _ _ x h in rw r.1 at (chain_says e s n r.0)

-- a refusal of a reading has a number
pub reading_some : (e : Edition) (s : List ℕ) (x : Refusal) → answer e s ≡ refused x → x.number ≡ 0 → ⊥
unfolding answer
reading_some e s x h z = let r = refused_in _ _ x h in r.0 (rw r.1 z)
