-- The walk one row after the other, beside the table that is filled. Assumes nothing.
use Prim.Native.Nat.{ℕ, zero, suc, ◌+◌, ◌-◌, ◌≤◌, ◌<◌}
use native.Mathlib.Nat.{zero-add, add-zero, not-suc-le-zero}
use native.Mathlib.Omega.{arith}
use borrow.Author.Tests.{eqb-true, eqb-false, ne_eqb, ltb-true, ltb-false}
use mathlib.Core.Path.{◌≡◌, refl, sym, ap, ◌∙◌}
use mathlib.Core.Bool.{Bool, true, false, cond}
use mathlib.Core.List.{List, [], ◌∷◌, ◌++◌, append-nil, map}
use lib.Dec.{eqb, ltb}
use lib.ListN.{length, get_or, take, drop, set, replicate, length-append, length-drop, length-map, get_or-map, get_or-eq_default}
use lib.Seq.{drop-cons, append_snoc, take-suc, take-append-le, length-take-le, get_or_at, get_or-set_same, get_or-set_other, take-append_seam, take_all, ext_get_or}
use Rattle.edition.specs.declared.Row.{Row}
use Rattle.edition.specs.Rows.{tags, tag_of, no_row}
use Rattle.card.specs.declared.Refusal.{Refusal}
use Rattle.card.specs.Refusals.{none}
use Rattle.card.specs.Layout.{object, body, tag_at}
use Rattle.card.specs.Rules.{entries}
use Rattle.card.specs.Walk.{Seen, absent, there, wrong, look, Walked, through, stopped, push, onward, tags_of, walk}
use Rattle.card.specs.Reading.{rest_refusal}
use Rattle.card.proofs.Chains.{or_pass, or_stop}
use Rattle.card.proofs.Walks.{walk_refuses}
use Rattle.card.proofs.Starts.{starts_length, starts_at}
use Rattle.card.specs.Places.{start_at, starts_from, no_places, placed}
use Rattle.objects.specs.Objects.{entry_at, table_refusal, table_of}

-- ---- the entries of the rows from number k on
tags_of_lem : (ts : List ℕ) (rs : List Row) → length ts ≡ length rs → tags_of (entries ts rs) ≡ ts
unfolding entries
tags_of_lem [] rs e = refl
tags_of_lem (t ∷ ts) [] e = absurd (omega arith)
tags_of_lem (t ∷ ts) (r ∷ rs) e = ap (λ (us : List ℕ). t ∷ us) (tags_of_lem ts rs (omega arith))

-- the walk at row k
pub walk_row : (rows : List Row) (k at : ℕ) (bs : List ℕ) → length rows ≡ 17 → k < 17
    → walk (entries (drop k tags) (drop k rows)) at bs
    ≡ onward (walk (entries (drop (suc k) tags) (drop (suc k) rows))) at bs (look (entry_at k (get_or rows k no_row)) (drop (suc k) tags) at bs)
unfolding walk entries tags
walk_row rows k at bs n h =
    let left : length (drop (suc k) tags) ≡ length (drop (suc k) rows) = length-drop (suc k) tags ∙ sym (length-drop (suc k) rows ∙ ap (λ (m : ℕ). m - suc k) n) in
    rw (drop-cons tags k 0 h, drop-cons rows k no_row (omega arith), tags_of_lem (drop (suc k) tags) (drop (suc k) rows) left)

-- ---- the values that are read already stand before those of the walk that is left
abbrev pub push_all : List (List ℕ) → Walked → Walked
push_all vs (through ws rest) = through (vs ++ ws) rest
push_all vs (stopped x) = stopped x

push_all_lem : (vs : List (List ℕ)) (v : List ℕ) (w : Walked) → push_all vs (push v w) ≡ push_all (vs ++ (v ∷ [])) w
unfolding push
push_all_lem vs v (through ws rest) = ap (λ (us : List (List ℕ)). through us rest) (sym (append_snoc vs v ws))
push_all_lem vs v (stopped x) = refl

-- ---- the bytes of the objects
pub object_length : (t : ℕ) (v : List ℕ) → 0 < length v → length (object t v) ≡ length v + 2
object_length t [] h = absurd (not-suc-le-zero h)
object_length t (b ∷ v) h = omega arith

body_snoc : (ts : List ℕ) (vs : List (List ℕ)) (t : ℕ) (v : List ℕ) → length ts ≡ length vs
    → length (body (ts ++ (t ∷ [])) (vs ++ (v ∷ []))) ≡ length (body ts vs) + length (object t v)
unfolding body
body_snoc [] [] t v e = rw (append-nil (object t v), zero-add (length (object t v)))
body_snoc [] (w ∷ vs) t v e = absurd (omega arith)
body_snoc (u ∷ ts) [] t v e = absurd (omega arith)
body_snoc (u ∷ ts) (w ∷ vs) t v e =
    let rest = body_snoc ts vs t v (omega arith) in
    simp length-append (omega arith)

body_next : (k : ℕ) (vs : List (List ℕ)) (v : List ℕ) → k < 17 → length vs ≡ k
    → length (body (take (suc k) tags) (vs ++ (v ∷ []))) ≡ length (body (take k tags) vs) + length (object (tag_of k) v)
unfolding tags
body_next k vs v h n = rw (take-suc tags k 0 h) (body_snoc (take k tags) vs (tag_of k) v (length-take-le k tags (omega arith) ∙ sym n))

-- ---- the places of values, one more at the end
get_d_snoc : (vs : List (List ℕ)) (v : List ℕ) (j : ℕ) → (j ≡ length vs → ⊥) → get_or (vs ++ (v ∷ [])) j [] ≡ get_or vs j []
get_d_snoc [] v zero h = absurd (h refl)
get_d_snoc [] v (suc j) h = refl
get_d_snoc (w ∷ vs) v zero h = refl
get_d_snoc (w ∷ vs) v (suc j) h = get_d_snoc vs v j (λ e. h (ap suc e))

start_none : (at : ℕ) (vs : List (List ℕ)) (j : ℕ) → get_or vs j [] ≡ [] → start_at at vs j ≡ 0
unfolding start_at
start_none at vs j e = rw e

-- of the values before
start_before : (at : ℕ) (vs : List (List ℕ)) (v : List ℕ) (j : ℕ) → (j ≡ length vs → ⊥) → start_at at (vs ++ (v ∷ [])) j ≡ start_at at vs j
unfolding start_at tag_at
start_before at vs v j h = go (ltb j (length vs)) refl
  where
    go : (q : Bool) → ltb j (length vs) ≡ q → start_at at (vs ++ (v ∷ [])) j ≡ start_at at vs j
    go true e = rw (get_d_snoc vs v j h, take-append-le j vs (v ∷ []) (omega (arith, ltb-true j (length vs) e)))
    go false e =
        let none : get_or vs j [] ≡ [] = get_or-eq_default vs [] (ltb-false j (length vs) e) in
        start_none at (vs ++ (v ∷ [])) j (get_d_snoc vs v j h ∙ none) ∙ sym (start_none at vs j none)

-- of the new value
start_new : (at : ℕ) (vs : List (List ℕ)) (v : List ℕ) → 0 < length v → start_at at (vs ++ (v ∷ [])) (length vs) ≡ at + length (body (take (length vs) tags) vs) + 2
unfolding start_at tag_at
start_new at vs [] h = absurd (not-suc-le-zero h)
start_new at vs (b ∷ v) h = rw (get_or_at vs (b ∷ v) [] [] (length vs) refl, take-append_seam vs ((b ∷ v) ∷ []))

-- ---- what is known where the rows before k are done, and i bytes are passed
pub record Sofar (t : List ℕ) (rows : List Row) (from k i : ℕ) (st ls : List ℕ) : Type 0 where
  pub vs : List (List ℕ)
  pub many : length vs ≡ k
  pub drawn : i ≡ length (body (take k tags) vs)
  pub walked : walk (entries tags rows) from t ≡ push_all vs (walk (entries (drop k tags) (drop k rows)) (from + i) (drop i t))
  pub starts : (j : ℕ) → j < 16 → get_or st j 0 ≡ start_at from vs j
  pub lengths : (j : ℕ) → j < 16 → get_or ls j 0 ≡ length (get_or vs j [])

blank_at : (n j : ℕ) → ◌≡◌ {A = ℕ} (get_or (replicate n 0) j 0) 0
blank_at zero j = refl
blank_at (suc n) zero = refl
blank_at (suc n) (suc j) = blank_at n j

pub sofar_none : (t : List ℕ) (rows : List Row) (from : ℕ) → Sofar t rows from 0 0 (replicate 16 0) (replicate 16 0)
unfolding body
sofar_none t rows from = record {
  vs = [];
  many = refl;
  drawn = refl;
  walked = rw (add-zero from) (only (walk (entries tags rows) from t));
  starts = λ j h. blank_at 16 j ∙ sym (start_none from [] j (nil j));
  lengths = λ j h. blank_at 16 j ∙ sym (ap length (nil j));
}
  where
    only : (w : Walked) → w ≡ push_all [] w
    only (through vs rest) = refl
    only (stopped x) = refl

    nil : (j : ℕ) → get_or {A = List ℕ} [] j [] ≡ []
    nil zero = refl
    nil (suc j) = refl

module _ (t : List ℕ) (rows : List Row) (from k i : ℕ) (st ls : List ℕ) (seventeen : length rows ≡ 17) (below : k < 17) (p : Sofar t rows from k i st ls) where
  abbrev seen : Seen
  seen = look (entry_at k (get_or rows k no_row)) (drop (suc k) tags) (from + i) (drop i t)

  -- the walk behind what the row sees
  abbrev further : Seen → Walked
  further = onward (walk (entries (drop (suc k) tags) (drop (suc k) rows))) (from + i) (drop i t)

  pub next_absent : seen ≡ absent → Sofar t rows from (suc k) i st ls
  unfolding onward
  next_absent e = record {
    vs = p.vs ++ ([] ∷ []);
    many = length-append p.vs ([] ∷ []) ∙ omega (arith, p.many);
    drawn = p.drawn ∙ sym (body_next k p.vs [] (omega arith) p.many ∙ omega arith);
    walked = p.walked ∙ ap (push_all p.vs) (walk_row rows k (from + i) (drop i t) seventeen (omega arith) ∙ ap further e) ∙ push_all_lem p.vs [] _;
    starts = λ j h. p.starts j h ∙ sym (same j (eqb j (length p.vs)) refl);
    lengths = λ j h. p.lengths j h ∙ sym (ap length (kept j (eqb j (length p.vs)) refl));
  }
    where
      kept : (j : ℕ) (q : Bool) → eqb j (length p.vs) ≡ q → get_or (p.vs ++ ([] ∷ [])) j [] ≡ get_or p.vs j []
      kept j true f = rw (eqb-true j _ f) (get_or_at p.vs [] [] [] (length p.vs) refl ∙ sym (get_or-eq_default p.vs [] (omega arith)))
      kept j false f = get_d_snoc p.vs [] j (eqb-false j _ f)

      same : (j : ℕ) (q : Bool) → eqb j (length p.vs) ≡ q → start_at from (p.vs ++ ([] ∷ [])) j ≡ start_at from p.vs j
      same j true f =
          let none : get_or p.vs j [] ≡ [] = get_or-eq_default p.vs [] (omega (arith, eqb-true j _ f)) in
          start_none from (p.vs ++ ([] ∷ [])) j (kept j true f ∙ none) ∙ sym (start_none from p.vs j none)
      same j false f = start_before from p.vs [] j (eqb-false j _ f)

  -- ---- an object stands there: its place is put into the table, or is that of the checksum, which is not kept
  module _ (v : List ℕ) (n i' : ℕ) (long : length v ≡ n) (some : 0 < n) (moved : i' ≡ i + 2 + n) (e : seen ≡ there v (drop i' t)) where
    place : from + i + 2 + length v ≡ from + i'
    place = omega arith

    there-many : length (p.vs ++ (v ∷ [])) ≡ suc k
    there-many = length-append p.vs (v ∷ []) ∙ omega (arith, p.many)

    there-drawn : i' ≡ length (body (take (suc k) tags) (p.vs ++ (v ∷ [])))
    there-drawn = moved ∙ sym (body_next k p.vs v (omega arith) p.many ∙ omega (arith, p.drawn, object_length (tag_of k) v (omega arith)))

    there-walked : walk (entries tags rows) from t ≡ push_all (p.vs ++ (v ∷ [])) (walk (entries (drop (suc k) tags) (drop (suc k) rows)) (from + i') (drop i' t))
    unfolding onward
    there-walked =
        p.walked
        ∙ ap (push_all p.vs) (walk_row rows k (from + i) (drop i t) seventeen (omega arith) ∙ ap further e ∙ ap (λ (m : ℕ). push v (walk (entries (drop (suc k) tags) (drop (suc k) rows)) m (drop i' t))) place)
        ∙ push_all_lem p.vs v _

    pub next_there : (start : ℕ) → k < 16 → length st ≡ 16 → length ls ≡ 16 → start ≡ from + i + 2 → Sofar t rows from (suc k) i' (set st k start) (set ls k n)
    next_there start early hs hl begins = record {
      vs = p.vs ++ (v ∷ []);
      many = there-many;
      drawn = there-drawn;
      walked = there-walked;
      starts = λ j h. begun j h (eqb j k) refl;
      lengths = λ j h. lasts j h (eqb j k) refl;
    }
      where
        begun : (j : ℕ) → j < 16 → (q : Bool) → eqb j k ≡ q → get_or (set st k start) j 0 ≡ start_at from (p.vs ++ (v ∷ [])) j
        begun j h true f =
            rw (eqb-true j k f, get_or-set_same st k start 0 (omega arith), ← p.many)
            (begins ∙ sym (start_new from p.vs v (omega arith) ∙ omega (arith, p.drawn, ap (λ (m : ℕ). length (body (take m tags) p.vs)) p.many)))
        begun j h false f =
            rw (get_or-set_other st k j start 0 (eqb-false j k f)) (p.starts j h ∙ sym (start_before from p.vs v j (λ z. eqb-false j k f (z ∙ p.many))))

        lasts : (j : ℕ) → j < 16 → (q : Bool) → eqb j k ≡ q → get_or (set ls k n) j 0 ≡ length (get_or (p.vs ++ (v ∷ [])) j [])
        lasts j h true f = rw (eqb-true j k f, get_or-set_same ls k n 0 (omega arith), get_or_at p.vs v [] [] k p.many) (sym long)
        lasts j h false f = rw (get_or-set_other ls k j n 0 (eqb-false j k f), get_d_snoc p.vs v j (λ z. eqb-false j k f (z ∙ p.many))) (p.lengths j h)

    pub next_last : 16 ≤ k → Sofar t rows from (suc k) i' st ls
    next_last late = record {
      vs = p.vs ++ (v ∷ []);
      many = there-many;
      drawn = there-drawn;
      walked = there-walked;
      starts = λ j h. p.starts j h ∙ sym (start_before from p.vs v j (before j h));
      lengths = λ j h. p.lengths j h ∙ sym (ap length (get_d_snoc p.vs v j (before j h)));
    }
      where
        before : (j : ℕ) → j < 16 → j ≡ length p.vs → ⊥
        before j h z = omega (arith, h, z, late, p.many)

-- ---- all rows are done: what is left is told, and the first sixteen values are those of the table
front : (vs : List (List ℕ)) → length vs ≡ 17 → vs ≡ take 16 vs ++ (get_or vs 16 [] ∷ [])
front vs n = sym (take_all 17 vs (omega arith)) ∙ take-suc vs 16 [] (omega arith)

module _ (t : List ℕ) (rows : List Row) (from i : ℕ) (st ls : List ℕ) (hs : length st ≡ 16) (hl : length ls ≡ 16) (inside : i ≤ length t) (p : Sofar t rows from 17 i st ls) where
  abbrev first : List (List ℕ)
  first = take 16 p.vs

  first-long : length first ≡ 16
  first-long = length-take-le 16 p.vs (omega (arith, p.many))

  kept_at : (j : ℕ) → j < 16 → j ≡ length first → ⊥
  kept_at j h z = omega (arith, h, z, first-long)

  starts-are : st ≡ starts_from from first 0 16
  starts-are = ext_get_or 0 st _ (hs ∙ sym (starts_length from first 0 16))
      (λ j h. p.starts j (omega arith) ∙ ap (λ (vs : List (List ℕ)). start_at from vs j) (front p.vs p.many) ∙ start_before from first _ j (kept_at j (omega arith))
      ∙ sym (starts_at from first 0 16 j (omega arith) ∙ ap (start_at from first) (zero-add j)))

  lengths-are : ls ≡ map length first
  lengths-are = ext_get_or 0 ls _ (hl ∙ sym (length-map first length ∙ first-long))
      (λ j h. p.lengths j (omega arith) ∙ ap (λ (vs : List (List ℕ)). length (get_or vs j [])) (front p.vs p.many) ∙ ap length (get_d_snoc first _ j (kept_at j (omega arith)))
      ∙ sym (get_or-map length first j []))

  abbrev whole : Walked
  whole = walk (entries tags rows) from t

  walked-is : whole ≡ through p.vs (drop i t)
  unfolding walk entries tags
  walked-is = p.walked ∙ ap (λ (vs : List (List ℕ)). through vs (drop i t)) (append-nil p.vs)

  abbrev last : Refusal
  last = rest_refusal (from + i + (length t - i)) (length t - i)

  last-is : table_refusal (from + length t) whole ≡ last
  unfolding table_refusal
  last-is =
      let end : from + length t ≡ from + i + (length t - i) = omega arith in
      rw (walked-is, end, length-drop i t) (or_pass none _ refl)

  pub table_is : table_of from (from + length t) whole ≡ cond (eqb last.number 0) (record { refusal = none; starts = st; lengths = ls }) (no_places last)
  unfolding table_of placed
  table_is = rw (last-is, walked-is, ← starts-are, ← lengths-are)

-- a row is wrong: so is the table
pub table_wrong : (t : List ℕ) (rows : List Row) (from k i : ℕ) (st ls : List ℕ) → length rows ≡ 17 → k < 17 → Sofar t rows from k i st ls → (x : Refusal)
    → look (entry_at k (get_or rows k no_row)) (drop (suc k) tags) (from + i) (drop i t) ≡ wrong x → table_of from (from + length t) (walk (entries tags rows) from t) ≡ no_places x
unfolding table_of table_refusal placed onward
table_wrong t rows from k i st ls seventeen below p x e =
    let w : walk (entries tags rows) from t ≡ stopped x = p.walked ∙ ap (push_all p.vs) (walk_row rows k (from + i) (drop i t) seventeen (omega arith) ∙ ap (onward (walk (entries (drop (suc k) tags) (drop (suc k) rows))) (from + i) (drop i t)) e) in
    let some : x.number ≡ 0 → ⊥ = walk_refuses _ _ _ x w in
    rw (w, or_stop x (rest_refusal (from + length t) 0) some, ne_eqb x.number 0 some)
