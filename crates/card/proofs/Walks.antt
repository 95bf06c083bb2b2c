-- The walk over the bytes that values make, and what the bytes of a walk are. Assumes nothing.
use Prim.Native.Nat.{ℕ, suc, ◌+◌, ◌≤◌}
use native.Mathlib.Omega.{arith}
use native.Mathlib.Nat.{add-zero}
use mathlib.Core.Path.{◌≡◌, refl, ◌∙◌}
use mathlib.Core.Bool.{Bool, true, false, cond, not, or-true}
use mathlib.Core.List.{List, [], ◌∷◌, ◌++◌, append_assoc}
use lib.ListN.{length, take, drop, length-append, length-drop, take-append-drop}
use lib.Seq.{take-append_seam, drop-append_seam, length-take-le}
use lib.Dec.{leb, eqb}
use borrow.Author.Tests.{eqb-true, eq-eqb, ne_eqb, le-leb, leb-true, not-true}
use Rattle.edition.specs.declared.Row.{Row}
use Rattle.std.specs.Prelude.{Ok, Err}
use Rattle.rules.specs.declared.Fault.TheVariants.{Outside, Breaks}
use Rattle.ground.specs.Lists.{among, distinct}
use Rattle.edition.specs.Sets.{permitted}
use Rattle.edition.proofs.Sets.{never_0}
use Rattle.rules.specs.Values.{Verdict, judged}
use Rattle.rules.proofs.Verdicts.{nine_means}
use Rattle.ground.proofs.Lists.{true_false, and_left, and_right}
use Rattle.card.specs.declared.Refusal.{Refusal}
use Rattle.card.specs.Refusals.{refuse, refuse_length}
use Rattle.card.specs.Layout.{object, body}
use Rattle.card.specs.Rules.{Entry, RowMet, AllMet, none_left, one_more, Fault, met, missing, length-out, byte-out, value_out, of_verdict, fault}
use Rattle.card.specs.Walk.{Seen, absent, there, wrong, weighed, object_at, passed, look, fault_at, Walked, through, stopped, push, onward, tags_of, walk}

-- ---- the values in card order: the walk stops at the first row that is not met
unfoldable pub unless_met : Entry → ℕ → Fault → Walked → Walked
unless_met r at met w = w
unless_met r at missing w = stopped (fault_at r at missing)
unless_met r at length-out w = stopped (fault_at r at length-out)
unless_met r at (byte-out i) w = stopped (fault_at r at (byte-out i))
unless_met r at value_out w = stopped (fault_at r at value_out)

unfoldable pub appraise : List Entry → ℕ → List (List ℕ) → Walked
appraise [] at vs = through [] []
appraise (r ∷ rs) at [] = unless_met r at (fault r.row []) (push [] (appraise rs at []))
appraise (r ∷ rs) at (v ∷ vs) = unless_met r at (fault r.row v) (push v (appraise rs (at + length (object r.tag v)) vs))

-- ---- the bytes of a body begin with the tag of one of its rows
data Heads (ts : List ℕ) : List ℕ → Type 0 where
  nothing : Heads ts []
  starts : {b : ℕ} {bs : List ℕ} → among b ts ≡ true → Heads ts (b ∷ bs)

weaken : {ts : List ℕ} {bs : List ℕ} (t : ℕ) → Heads ts bs → Heads (t ∷ ts) bs
unfolding among
weaken t nothing = nothing
weaken {ts} t (starts {b} m) = starts {b = b} (rw (m, or-true))

heads : (ts : List ℕ) (vs : List (List ℕ)) → Heads ts (body ts vs)
unfolding body among
heads ts [] = nothing
heads [] (v ∷ vs) = nothing
heads (t ∷ ts) ([] ∷ vs) = weaken t (heads ts vs)
heads (t ∷ ts) ((b ∷ v) ∷ vs) = starts {b = t} (rw (eq-eqb t t refl))

look_later : (r : Entry) (ts : List ℕ) (at : ℕ) (bs : List ℕ) → Heads ts bs → among r.tag ts ≡ false → look r ts at bs ≡ passed r at true
unfolding look
look_later r ts at bs nothing h = refl
look_later r ts at bs (starts {b} m) h =
    let other : b ≡ r.tag → ⊥ = λ e. true_false m (rw e h) in
    rw (ne_eqb b r.tag other, m)

look_nothing : (r : Entry) (ts : List ℕ) (at : ℕ) → look r ts at [] ≡ passed r at true
unfolding look
look_nothing r ts at = refl

-- a row whose object is absent
absent_is : (k : ℕ → List ℕ → Walked) (r : Entry) (at : ℕ) (bs : List ℕ) (w : Walked) → k at bs ≡ w
    → onward k at bs (passed r at true) ≡ unless_met r at (fault r.row []) (push [] w)
unfolding onward passed fault unless_met fault_at
absent_is k r at bs w e = go r.row.required
  where
    go : (q : Bool) → onward k at bs (cond q (wrong (refuse 6 at r.tag)) absent) ≡ unless_met r at (cond q missing met) (push [] w)
    go true = refl
    go false = rw e

-- the object of row r stands next
look_object : (r : Entry) (ts : List ℕ) (at b : ℕ) (v rest : List ℕ)
    → look r ts at (object r.tag (b ∷ v) ++ rest)
    ≡ cond (permitted r.row.lengths (length (b ∷ v))) (weighed r (at + 2) (b ∷ v) rest (judged r.row.rule (b ∷ v))) (wrong (refuse_length (at + 1) r.tag r.row.lengths))
unfolding look object_at
look_object r ts at b v rest =
    let room : suc (length v) ≤ suc (length (v ++ rest)) = omega (arith, length-append v rest) in
    rw (eq-eqb r.tag r.tag refl, take-append_seam v rest, drop-append_seam v rest, le-leb (suc (length v)) (suc (length (v ++ rest))) room)

present_is : (k : ℕ → List ℕ → Walked) (r : Entry) (ts : List ℕ) (at b : ℕ) (v rest : List ℕ) (w : Walked) → k (at + length (object r.tag (b ∷ v))) rest ≡ w
    → onward k at (object r.tag (b ∷ v) ++ rest) (look r ts at (object r.tag (b ∷ v) ++ rest)) ≡ unless_met r at (fault r.row (b ∷ v)) (push (b ∷ v) w)
unfolding onward fault unless_met fault_at weighed
present_is k r ts at b v rest w e = rw look_object (go (permitted r.row.lengths (length (b ∷ v))) (judged r.row.rule (b ∷ v)))
  where
    next : at + 2 + suc (length v) ≡ at + suc (suc (suc (length v)))
    next = omega arith

    go : (q : Bool) (d : Verdict)
        → onward k at (object r.tag (b ∷ v) ++ rest) (cond q (weighed r (at + 2) (b ∷ v) rest d) (wrong (refuse_length (at + 1) r.tag r.row.lengths)))
        ≡ unless_met r at (cond q (of_verdict d) length-out) (push (b ∷ v) w)
    go false d = refl
    go true (Ok u) = rw (next, e)
    go true (Err (Outside i)) = refl
    go true (Err Breaks) = refl

distinct_head : (t : ℕ) (ts : List ℕ) → distinct (t ∷ ts) ≡ true → among t ts ≡ false
unfolding distinct
distinct_head t ts d = not-true (among t ts) (and_left (not (among t ts)) (distinct ts) d)

distinct_tail : (t : ℕ) (ts : List ℕ) → distinct (t ∷ ts) ≡ true → distinct ts ≡ true
unfolding distinct
distinct_tail t ts d = and_right (not (among t ts)) (distinct ts) d

-- over the bytes that any values make, the walk gives the values, or stops at the first row in card order that is not met
pub walk_body : (rs : List Entry) (vs : List (List ℕ)) (at : ℕ) → distinct (tags_of rs) ≡ true → walk rs at (body (tags_of rs) vs) ≡ appraise rs at vs
unfolding walk body appraise
walk_body [] [] at d = refl
walk_body [] (v ∷ vs) at d = refl
walk_body (r ∷ rs) [] at d = rw (look_nothing r (tags_of rs) at) (absent_is (walk rs) r at [] _ (walk_body rs [] at (distinct_tail r.tag (tags_of rs) d)))
walk_body (r ∷ rs) ([] ∷ vs) at d =
    let fresh : among r.tag (tags_of rs) ≡ false = distinct_head r.tag (tags_of rs) d in
    rw (look_later r (tags_of rs) at (body (tags_of rs) vs) (heads (tags_of rs) vs) fresh, add-zero)
    (absent_is (walk rs) r at (body (tags_of rs) vs) _ (walk_body rs vs at (distinct_tail r.tag (tags_of rs) d)))
walk_body (r ∷ rs) ((b ∷ v) ∷ vs) at d =
    present_is (walk rs) r (tags_of rs) at b v (body (tags_of rs) vs) _ (walk_body rs vs _ (distinct_tail r.tag (tags_of rs) d))

-- ---- a row is met exactly where it has no fault
pub fault_met : (r : Row) (v : List ℕ) → RowMet r v → fault r v ≡ met
unfolding fault
fault_met r [] h = rw h
fault_met r (b ∷ v) h = rw (h.0, h.1)

pub met_fault : (r : Row) (v : List ℕ) → fault r v ≡ met → RowMet r v
unfolding fault
met_fault r [] = go r.required
  where
    go : (q : Bool) → cond q missing met ≡ met → q ≡ false
    go true e = cc
    go false e = refl
met_fault r (b ∷ v) = go (permitted r.lengths (length (b ∷ v))) (judged r.rule (b ∷ v))
  where
    go : (q : Bool) (d : Verdict) → cond q (of_verdict d) length-out ≡ met → (q ≡ true) × (d ≡ Ok tt)
    go false d e = (cc, cc)
    go true (Ok u) e = (refl, refl)
    go true (Err (Outside i)) e = (refl, cc)
    go true (Err Breaks) e = (refl, cc)

pub appraise_met : {rs : List Entry} {vs : List (List ℕ)} (at : ℕ) → AllMet rs vs → appraise rs at vs ≡ through vs []
unfolding appraise unless_met push
appraise_met at none_left = refl
appraise_met at (one_more {r} {v} {rs} {vs} h t) = rw (fault_met r.row v h, appraise_met (at + length (object r.tag v)) t)

-- where every row is met, the walk gives the values
pub complete : (rs : List Entry) (vs : List (List ℕ)) (at : ℕ) → distinct (tags_of rs) ≡ true → AllMet rs vs → walk rs at (body (tags_of rs) vs) ≡ through vs []
complete rs vs at d h = walk_body rs vs at d ∙ appraise_met at h

-- ---- what a row that finds its object has before it
pub data View (r : Entry) (bs : List ℕ) : Seen → Type 0 where
  left_out : r.row.required ≡ false → View r bs absent
  found : {v rest : List ℕ} → bs ≡ r.tag ∷ length v ∷ (v ++ rest) → permitted r.row.lengths (length v) ≡ true → judged r.row.rule v ≡ Ok tt → View r bs (there v rest)
  amiss : {x : Refusal} → View r bs (wrong x)

view_passed : (r : Entry) (bs : List ℕ) (at : ℕ) (f : Bool) → View r bs (passed r at f)
unfolding passed
view_passed r bs at f = go r.row.required refl
  where
    go : (q : Bool) → r.row.required ≡ q → View r bs (cond q (wrong (cond f (refuse 6 at r.tag) (refuse 5 at 0))) absent)
    go true e = amiss
    go false e = left_out e

view_object : (r : Entry) (at : ℕ) (bs : List ℕ) → View r (r.tag ∷ bs) (object_at r at bs)
unfolding object_at weighed
view_object r at [] = amiss
view_object r at (n ∷ bs) = go (permitted r.row.lengths n) refl (leb n (length bs)) refl (judged r.row.rule (take n bs)) refl
  where
    go : (q : Bool) → permitted r.row.lengths n ≡ q → (m : Bool) → leb n (length bs) ≡ m → (d : Verdict) → judged r.row.rule (take n bs) ≡ d
        → View r (r.tag ∷ n ∷ bs) (cond q (cond m (weighed r (at + 2) (take n bs) (drop n bs) d) (wrong (refuse 8 at r.tag))) (wrong (refuse_length (at + 1) r.tag r.row.lengths)))
    go false p m l d e = amiss
    go true p false l d e = amiss
    go true p true l (Ok u) e =
        let same : length (take n bs) ≡ n = length-take-le n bs (leb-true n (length bs) l) in
        found {v = take n bs} {rest = drop n bs} (rw (same, take-append-drop)) (rw same p) e
    go true p true l (Err (Outside i)) e = amiss
    go true p true l (Err Breaks) e = amiss

pub view : (r : Entry) (ts : List ℕ) (at : ℕ) (bs : List ℕ) → View r bs (look r ts at bs)
unfolding look
view r ts at [] = view_passed r [] at true
view r ts at (b ∷ bs) = go (eqb b r.tag) refl
  where
    go : (q : Bool) → eqb b r.tag ≡ q → View r (b ∷ bs) (cond q (object_at r at bs) (passed r at (among b ts)))
    go true e = rw (eqb-true b r.tag e) (view_object r at bs)
    go false e = view_passed r (b ∷ bs) at (among b ts)

abbrev Sound : List Entry → List ℕ → Walked → Type 0
Sound rs bs (through vs rest) = AllMet rs vs × (bs ≡ body (tags_of rs) vs ++ rest)
Sound rs bs (stopped x) = Unit {0}

push_sound : (r : Entry) (rs : List Entry) (v bs bs' : List ℕ) (w : Walked) → RowMet r.row v → bs ≡ object r.tag v ++ bs' → Sound rs bs' w → Sound (r ∷ rs) bs (push v w)
unfolding push body
push_sound r rs v bs bs' (through vs rest) m e s = (one_more m s.0, rw (append_assoc) (rw (← s.1) e))
push_sound r rs v bs bs' (stopped x) m e s = tt

-- a value that is there has a length, and 0 is none
onward_sound : (r : Entry) (rs : List Entry) (at : ℕ) (bs : List ℕ) (x : Seen) → View r bs x
    → ((at' : ℕ) (bs' : List ℕ) → Sound rs bs' (walk rs at' bs')) → Sound (r ∷ rs) bs (onward (walk rs) at bs x)
unfolding onward
onward_sound r rs at bs x (left_out h) ih = push_sound r rs [] bs bs (walk rs at bs) h refl (ih at bs)
onward_sound r rs at bs x (found {v = []} {rest} e i f) ih = absurd (true_false i (never_0 r.row.lengths))
onward_sound r rs at bs x (found {v = b ∷ v} {rest} e i f) ih = push_sound r rs (b ∷ v) bs rest (walk rs _ rest) (i, f) e (ih _ rest)
onward_sound r rs at bs x amiss ih = tt

sound_all : (rs : List Entry) (at : ℕ) (bs : List ℕ) → Sound rs bs (walk rs at bs)
unfolding walk body
sound_all [] at bs = (none_left, refl)
sound_all (r ∷ rs) at bs = onward_sound r rs at bs (look r (tags_of rs) at bs) (view r (tags_of rs) at bs) (sound_all rs)

-- where the walk gives values, every row is met, and the bytes are exactly theirs
pub sound : (rs : List Entry) (at : ℕ) (bs : List ℕ) (vs : List (List ℕ)) (rest : List ℕ) → walk rs at bs ≡ through vs rest
    → AllMet rs vs × (bs ≡ body (tags_of rs) vs ++ rest)
sound rs at bs vs rest e = rw e at (sound_all rs at bs)

-- ---- what a walk is stopped with: 5 with no tag, or the tag of one of its rows; a place within the bytes, or right behind them
pub data In (r : Entry) : List Entry → Type 0 where
  front : {rs : List Entry} → In r (r ∷ rs)
  behind : {x : Entry} {rs : List Entry} → In r rs → In r (x ∷ rs)

pub data Stops (rs : List Entry) (end : ℕ) : Refusal → Type 0 where
  no_tag : (place : ℕ) → place ≤ end → Stops rs end (refuse 5 place 0)
  at_row : (number place : ℕ) {r : Entry} → In r rs → among number (6 ∷ 8 ∷ 9 ∷ 10 ∷ []) ≡ true → place ≤ end → Stops rs end (refuse number place r.tag)
  at_length : (place : ℕ) {r : Entry} → In r rs → place ≤ end → Stops rs end (refuse_length place r.tag r.row.lengths)

-- of a row that has `left` bytes before it
abbrev SeenStops : List Entry → ℕ → ℕ → Seen → Type 0
SeenStops rs at left absent = Unit {0}
SeenStops rs at left (there v rest) = 2 + length v + length rest ≤ left
SeenStops rs at left (wrong x) = Stops rs (at + left) x

module _ (r : Entry) (rs : List Entry) (at : ℕ) (i : In r rs) where
  passed-stops : (left : ℕ) (later : Bool) → SeenStops rs at left (passed r at later)
  unfolding passed among
  passed-stops left later = go r.row.required later
    where
      go : (q l : Bool) → SeenStops rs at left (cond q (wrong (cond l (refuse 6 at r.tag) (refuse 5 at 0))) absent)
      go true true = at_row 6 at i refl (omega arith)
      go true false = no_tag at (omega arith)
      go false l = tt

  weighed-stops : (n : ℕ) (bs : List ℕ) (d : Verdict) → judged r.row.rule (take n bs) ≡ d → n ≤ length bs
      → SeenStops rs at (suc (suc (length bs))) (weighed r (at + 2) (take n bs) (drop n bs) d)
  unfolding weighed among
  weighed-stops n bs (Ok u) e h = rw (length-take-le n bs h, length-drop) (omega arith)
  weighed-stops n bs (Err (Outside j)) e h =
      let f = (nine_means r.row.rule (take n bs) j e).inside in
      let t = length-take-le n bs h in
      at_row 9 (at + 2 + j) i refl (omega arith)
  weighed-stops n bs (Err Breaks) e h = at_row 10 (at + 2) i refl (omega arith)

  object-stops : (bs : List ℕ) → SeenStops rs at (suc (length bs)) (object_at r at bs)
  unfolding object_at among
  object-stops [] = at_row 8 at i refl (omega arith)
  object-stops (n ∷ bs) = go (permitted r.row.lengths n) (leb n (length bs)) refl
    where
      go : (q m : Bool) → leb n (length bs) ≡ m
          → SeenStops rs at (suc (suc (length bs)))
          (cond q (cond m (weighed r (at + 2) (take n bs) (drop n bs) (judged r.row.rule (take n bs))) (wrong (refuse 8 at r.tag)))
          (wrong (refuse_length (at + 1) r.tag r.row.lengths)))
      go true true e = weighed-stops n bs (judged r.row.rule (take n bs)) refl (leb-true n (length bs) e)
      go true false e = at_row 8 at i refl (omega arith)
      go false m e = at_length (at + 1) i (omega arith)

  look-stops : (ts bs : List ℕ) → SeenStops rs at (length bs) (look r ts at bs)
  unfolding look
  look-stops ts [] = passed-stops 0 true
  look-stops ts (b ∷ bs) = go (eqb b r.tag)
    where
      go : (q : Bool) → SeenStops rs at (suc (length bs)) (cond q (object_at r at bs) (passed r at (among b ts)))
      go true = object-stops bs
      go false = passed-stops (suc (length bs)) (among b ts)

-- a longer list of rows, a later end
wider : (x : Entry) {rs : List Entry} {m n : ℕ} {y : Refusal} → m ≤ n → Stops rs m y → Stops (x ∷ rs) n y
wider x l (no_tag place p) = no_tag place (omega arith)
wider x l (at_row number place i a p) = at_row number place (behind i) a (omega arith)
wider x l (at_length place i p) = at_length place (behind i) (omega arith)

abbrev WalkStops : List Entry → ℕ → Walked → Type 0
WalkStops rs end (through vs rest) = Unit {0}
WalkStops rs end (stopped x) = Stops rs end x

push_stops : (x : Entry) (rs : List Entry) (m n : ℕ) (v : List ℕ) (w : Walked) → m ≤ n → WalkStops rs m w → WalkStops (x ∷ rs) n (push v w)
unfolding push
push_stops x rs m n v (through vs rest) l h = tt
push_stops x rs m n v (stopped y) l h = wider x l h

walk_stops : (rs : List Entry) (at : ℕ) (bs : List ℕ) → WalkStops rs (at + length bs) (walk rs at bs)
unfolding walk onward
walk_stops [] at bs = tt
walk_stops (r ∷ rs) at bs = go (walk_stops rs) (look r (tags_of rs) at bs) (look-stops r (r ∷ rs) at front (tags_of rs) bs)
  where
    go : ((at' : ℕ) (bs' : List ℕ) → WalkStops rs (at' + length bs') (walk rs at' bs')) → (x : Seen) → SeenStops (r ∷ rs) at (length bs) x
        → WalkStops (r ∷ rs) (at + length bs) (onward (walk rs) at bs x)
    go ih absent h = push_stops r rs (at + length bs) (at + length bs) [] (walk rs at bs) (omega arith) (ih at bs)
    go ih (there v rest) h = push_stops r rs (at + 2 + length v + length rest) (at + length bs) v (walk rs (at + 2 + length v) rest) (omega arith) (ih (at + 2 + length v) rest)
    go ih (wrong x) h = h

pub stops : (rs : List Entry) (at : ℕ) (bs : List ℕ) (x : Refusal) → walk rs at bs ≡ stopped x → Stops rs (at + length bs) x
stops rs at bs x e = rw e at (walk_stops rs at bs)

-- so it has a number
pub stops_some : {rs : List Entry} {end : ℕ} {x : Refusal} → Stops rs end x → x.number ≡ 0 → ⊥
unfolding among
stops_some (no_tag place p) z = absurd (omega arith)
stops_some (at_row number place i a p) z = true_false (rw z at a) refl
stops_some (at_length place i p) z = absurd (omega arith)

pub walk_refuses : (rs : List Entry) (at : ℕ) (bs : List ℕ) (x : Refusal) → walk rs at bs ≡ stopped x → x.number ≡ 0 → ⊥
walk_refuses rs at bs x e = stops_some (stops rs at bs x e)
