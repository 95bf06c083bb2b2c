-- What the object reader finds, by the tests in their order, and what the walk over the rows makes of it. Assumes nothing.
use Prim.Native.Nat.{ℕ, suc, ◌+◌, ◌-◌, ◌≤◌, ◌<◌}
use native.Mathlib.Nat.{le_of_lt, not-suc-le-zero}
use native.Mathlib.Omega.{arith}
use borrow.Author.Tests.{leb-true, le-leb, lt-leb, eq-eqb, ne_eqb}
use mathlib.Core.Path.{◌≡◌, refl, sym, ap, ◌∙◌}
use mathlib.Core.Bool.{Bool, true, false, cond}
use mathlib.Core.List.{List, [], ◌∷◌, ◌++◌}
use lib.Dec.{eqb, leb}
use lib.ListN.{length, get_or, take, drop, length-append, length-drop, drop_of_length-le}
use lib.Seq.{drop-cons, take_all, length-take-le, drop-append_seam}
use Rattle.rules.specs.declared.Rule.{Rule}
use Rattle.edition.specs.declared.Row.{Row}
use Rattle.std.specs.Prelude.{Option, Some, None, Result, Ok, Err}
use Rattle.rules.specs.declared.Fault.TheVariants.{Outside, Breaks}
use Rattle.ground.specs.Lists.{among}
use Rattle.edition.specs.Sets.{permitted}
use Rattle.rules.specs.Values.{Verdict, judged, holds, verdict_told}
use Rattle.rules.specs.Kinds.{kind_table, within, judged_by}
use Rattle.edition.specs.Rows.{tags, tag_of}
use Rattle.ground.proofs.Lists.{true_false}
use Rattle.rules.proofs.Verdicts.{nine_means}
use Rattle.rules.proofs.Tables.{by_kinds}
use Rattle.card.specs.declared.Refusal.{Refusal}
use Rattle.card.specs.Refusals.{refuse, refuse_length}
use Rattle.card.specs.Walk.{Seen, absent, there, wrong, weighed, object_at, passed, look}
use Rattle.objects.specs.declared.Found.{Found}
use Rattle.objects.specs.declared.Refused.{Refused}
use Rattle.objects.specs.declared.Met.{Met}
use Rattle.card.specs.Rules.{Entry}
use Rattle.card.proofs.Walks.{View, left_out, found, amiss, view}
use Rattle.edition.proofs.Sets.{never_0}
use Rattle.objects.specs.Objects.{ToldFound, found_told, found_at, refused_at, met_at, entry_at, object_by, look_by, found_of, valued, here, passed_over, with_ends, met_of}

-- no two answers are told alike
pub told_apart : (a b : Result Found Refused) → found_told a ≡ found_told b → a ≡ b
told_apart (Ok f) (Ok g) e =
    ap (λ (k : ℕ). Ok (found_at k f.start f.length)) (ap (λ (t : ToldFound). t.row) e)
    ∙ ap (λ (start : ℕ). Ok (found_at g.row start f.length)) (ap (λ (t : ToldFound). t.start) e)
    ∙ ap (λ (n : ℕ). Ok (found_at g.row g.start n)) (ap (λ (t : ToldFound). t.length) e)
told_apart (Ok f) (Err y) e = absurd (true_false (ap (λ (t : ToldFound). t.refused) e) refl)
told_apart (Err x) (Ok g) e = absurd (true_false refl (ap (λ (t : ToldFound). t.refused) e))
told_apart (Err x) (Err y) e =
    ap (λ (number : ℕ). Err (refused_at number x.place x.tag)) (ap (λ (t : ToldFound). t.number) e)
    ∙ ap (λ (place : ℕ). Err (refused_at y.number place x.tag)) (ap (λ (t : ToldFound). t.place) e)
    ∙ ap (λ (tag : ℕ). Err (refused_at y.number y.place tag)) (ap (λ (t : ToldFound). t.tag) e)

-- the first byte outside a rule's characters lies within the value
judged_within : (rule : Rule) (v : List ℕ) → (verdict_told (judged rule v)).index ≤ length v
judged_within rule v = go (judged rule v) refl
  where
    go : (j : Verdict) → judged rule v ≡ j → (verdict_told j).index ≤ length v
    go (Ok u) e = omega arith
    go (Err (Outside i)) e = le_of_lt (nine_means rule v i e).inside
    go (Err Breaks) e = omega arith

pub index_within : (kinds : List ℕ) (rule : Rule) (v : List ℕ) → (verdict_told (judged_by kinds rule v)).index ≤ length v
unfolding judged_by
index_within kinds rule v = go (within kinds rule v) (holds rule v)
  where
    go : (q h : Bool) → (verdict_told (cond q (cond h (Ok tt) (Err Breaks)) (judged rule v))).index ≤ length v
    go true true = omega arith
    go true false = omega arith
    go false h = judged_within rule v

-- ---- the head of what is left
pub here_end : (k : ℕ) (l : List ℕ) → length l ≡ 0 → here k l ≡ false
here_end k [] e = refl
here_end k (b ∷ l) e = absurd (omega arith)

pub here_head : (k : ℕ) (l : List ℕ) → 0 < length l → here k l ≡ eqb (get_or l 0 0) (tag_of k)
here_head k [] h = absurd (not-suc-le-zero h)
here_head k (b ∷ l) h = refl

pub here_some : (k : ℕ) (l : List ℕ) → here k l ≡ true → 0 < length l
here_some k [] e = absurd (true_false e refl)
here_some k (b ∷ l) e = omega arith

-- a part up to the end is what is left
pub part_left : (n : ℕ) (l : List ℕ) → take (length l - n) (drop n l) ≡ drop n l
part_left n l = take_all (length l - n) (drop n l) (omega (arith, length-drop n l))

pub missing_end : (k at : ℕ) (l : List ℕ) → length l ≡ 0 → passed_over k at l ≡ refuse 6 at (tag_of k)
missing_end k at [] e = refl
missing_end k at (b ∷ l) e = absurd (omega arith)

pub missing_head : (k at : ℕ) (l : List ℕ) → 0 < length l → passed_over k at l ≡ cond (among (get_or l 0 0) (drop (suc k) tags)) (refuse 6 at (tag_of k)) (refuse 5 at 0)
missing_head k at [] h = absurd (not-suc-le-zero h)
missing_head k at (b ∷ l) h = refl

-- ---- the tags from number j on
pub later_here : (b j : ℕ) → j < 17 → b ≡ tag_of j → among b (drop j tags) ≡ true
unfolding among tags
later_here b j h e = rw (drop-cons tags j 0 h, eq-eqb b (tag_of j) e)

pub later_next : (b j : ℕ) → j < 17 → (b ≡ tag_of j → ⊥) → among b (drop j tags) ≡ among b (drop (suc j) tags)
unfolding among tags
later_next b j h e = rw (drop-cons tags j 0 h, ne_eqb b (tag_of j) e)

pub later_end : (b j : ℕ) → 17 ≤ j → among b (drop j tags) ≡ false
unfolding among tags
later_end b j h = rw (drop_of_length-le tags h)

-- ---- with the table of the kinds, as without one
object_by_lem : (r : Entry) (at : ℕ) (l : List ℕ) → object_by kind_table r at l ≡ object_at r at l
unfolding object_by object_at
object_by_lem r at [] = refl
object_by_lem r at (n ∷ l) = rw (by_kinds r.row.rule (take n l))

look_by_lem : (r : Entry) (ts : List ℕ) (at : ℕ) (l : List ℕ) → look_by kind_table r ts at l ≡ look r ts at l
unfolding look_by look
look_by_lem r ts at [] = refl
look_by_lem r ts at (b ∷ l) = rw (object_by_lem r at l)

pub met_by : (kinds : List ℕ) (r : Entry) (ts : List ℕ) (at : ℕ) (l : List ℕ) → kinds ≡ kind_table → met_of at (look_by kinds r ts at l) ≡ met_of at (look r ts at l)
met_by kinds r ts at l e = rw e (ap (met_of at) (look_by_lem r ts at l))

-- ---- the object that stands at `at`, where l is left behind its tag
module _ (kinds : List ℕ) (k at : ℕ) (r : Row) where
  pub found_cut : (l : List ℕ) → length l ≡ 0 → object_by kinds (entry_at k r) at l ≡ wrong (refuse 8 at (tag_of k))
  unfolding object_by
  found_cut [] e = refl
  found_cut (n ∷ l) e = absurd (omega arith)

  pub found_unlisted : (l : List ℕ) → 0 < length l → permitted r.lengths (get_or l 0 0) ≡ false
      → object_by kinds (entry_at k r) at l ≡ wrong (refuse_length (at + 1) (tag_of k) r.lengths)
  unfolding object_by
  found_unlisted [] h b = absurd (not-suc-le-zero h)
  found_unlisted (n ∷ l) h b = rw b

  pub found_overlong : (l : List ℕ) → 0 < length l → permitted r.lengths (get_or l 0 0) ≡ true → length l < 1 + get_or l 0 0
      → object_by kinds (entry_at k r) at l ≡ wrong (refuse 8 at (tag_of k))
  unfolding object_by
  found_overlong [] h b c = absurd (not-suc-le-zero h)
  found_overlong (n ∷ l) h b c = rw (b, lt-leb n (length l) (omega arith))

  pub found_weighed : (l : List ℕ) → 0 < length l → permitted r.lengths (get_or l 0 0) ≡ true → 1 + get_or l 0 0 ≤ length l
      → object_by kinds (entry_at k r) at l
      ≡ weighed (entry_at k r) (at + 2) (take (get_or l 0 0) (drop 1 l)) (drop (get_or l 0 0) (drop 1 l)) (judged_by kinds r.rule (take (get_or l 0 0) (drop 1 l)))
  unfolding object_by
  found_weighed [] h b c = absurd (not-suc-le-zero h)
  found_weighed (n ∷ l) h b c = rw (b, le-leb n (length l) (omega arith))

  pub weighed_found : (v rest : List ℕ) (d : Verdict) → found_of k at (weighed (entry_at k r) (at + 2) v rest d) ≡ valued k (at + 2) (length v) d
  unfolding found_of weighed valued
  weighed_found v rest (Ok u) = refl
  weighed_found v rest (Err (Outside i)) = refl
  weighed_found v rest (Err Breaks) = refl

  -- its value, or a refusal, which its number, place and tag tell whole
  pub data Stands (l : List ℕ) : Seen → Type 0 where
    taken : (n : ℕ) → permitted r.lengths n ≡ true → 1 + n ≤ length l → Stands l (there (take n (drop 1 l)) (drop n (drop 1 l)))
    turned : (x : Refusal) → with_ends r.lengths x.number x.place x.tag ≡ x → 0 < x.number → Stands l (wrong x)

  pub stands : (l : List ℕ) → Stands l (object_by kinds (entry_at k r) at l)
  unfolding object_by weighed with_ends
  stands [] = turned (refuse 8 at (tag_of k)) refl (omega arith)
  stands (n ∷ l) = go (permitted r.lengths n) refl (leb n (length l)) refl (judged_by kinds r.rule (take n l))
    where
      go : (p : Bool) → permitted r.lengths n ≡ p → (q : Bool) → leb n (length l) ≡ q → (d : Verdict)
          → Stands (n ∷ l)
          (cond p (cond q (weighed (entry_at k r) (at + 2) (take n l) (drop n l) d) (wrong (refuse 8 at (tag_of k)))) (wrong (refuse_length (at + 1) (tag_of k) r.lengths)))
      go false e q f d = turned (refuse_length (at + 1) (tag_of k) r.lengths) refl (omega arith)
      go true e false f d = turned (refuse 8 at (tag_of k)) refl (omega arith)
      go true e true f (Ok u) = taken n e (omega (arith, leb-true n (length l) f))
      go true e true f (Err (Outside i)) = turned (refuse 9 (at + 2 + i) (tag_of k)) refl (omega arith)
      go true e true f (Err Breaks) = turned (refuse 10 (at + 2) (tag_of k)) refl (omega arith)

  -- ---- what the row finds
  pub look_here : (ts l : List ℕ) → here k l ≡ true → look_by kinds (entry_at k r) ts at l ≡ object_by kinds (entry_at k r) at (drop 1 l)
  unfolding look_by
  look_here ts [] e = absurd (true_false e refl)
  look_here ts (b ∷ l) e = rw e

  pub look_passed : (ts l : List ℕ) → here k l ≡ false → r.required ≡ false → look_by kinds (entry_at k r) ts at l ≡ absent
  unfolding look_by passed
  look_passed ts [] e q = rw q
  look_passed ts (b ∷ l) e q = rw (e, q)

  pub look_missing : (l : List ℕ) → here k l ≡ false → r.required ≡ true → look_by kinds (entry_at k r) (drop (suc k) tags) at l ≡ wrong (passed_over k at l)
  unfolding look_by passed
  look_missing [] e q = rw q
  look_missing (b ∷ l) e q = rw (e, q)

  -- ---- what the answer of the object reader says of what stands there
  pub record Took (l : List ℕ) (start n : ℕ) (x : Seen) : Type 0 where
    pub begins : start ≡ at + 2
    pub inside : 1 + n ≤ length l
    pub allowed : permitted r.lengths n ≡ true
    pub is : x ≡ there (take n (drop 1 l)) (drop n (drop 1 l))

  pub took : (l : List ℕ) (x : Seen) (f : Found) → Stands l x → found_of k at x ≡ Ok f → Took l f.start f.length x
  unfolding found_of
  took l x f (taken m p h) e =
      let long : length (take m (drop 1 l)) ≡ m = length-take-le m (drop 1 l) (omega (arith, length-drop 1 l)) in
      let found : found_at k (at + 2) (length (take m (drop 1 l))) ≡ f = cc in
      let begins : at + 2 ≡ f.start = ap (λ (t : Found). t.start) found in
      let is : m ≡ f.length = sym long ∙ ap (λ (t : Found). t.length) found in
      record { begins = sym begins; inside = omega arith; allowed = rw (← is) p; is = rw (← is) refl }
  took l x f (turned y g h) e = absurd (let z : ◌≡◌ {A = ℕ} 0 1 = cc in omega arith)

  pub told_off : (l : List ℕ) (x : Seen) (o : Refused) → Stands l x → found_of k at x ≡ Err o
      → (x ≡ wrong (with_ends r.lengths o.number o.place o.tag)) × (0 < (with_ends r.lengths o.number o.place o.tag).number)
  unfolding found_of
  told_off l x o (taken m p h) e = absurd (let z : ◌≡◌ {A = ℕ} 0 1 = cc in omega arith)
  told_off l x o (turned y f h) e =
      let off : refused_at y.number y.place y.tag ≡ o = cc in
      let same : with_ends r.lengths o.number o.place o.tag ≡ y = rw (← off) f in
      rw same (refl, h)

  -- the answer is that of what stands there
  pub answer_is : (l part : List ℕ) (f : Result Found Refused) → part ≡ l → found_told f ≡ found_told (found_of k at (object_by kinds (entry_at k r) at part)) → found_of k at (object_by kinds (entry_at k r) at l) ≡ f
  answer_is l part f e t = sym (told_apart f _ t ∙ ap (λ (x : List ℕ). found_of k at (object_by kinds (entry_at k r) at x)) e)

  -- ---- what the row meets
  module _ (ts l : List ℕ) where
    pub meets_there : (start n : ℕ) → here k l ≡ true → Took (drop 1 l) start n (object_by kinds (entry_at k r) at (drop 1 l)) → Ok (Some (met_at start n)) ≡ met_of at (look_by kinds (entry_at k r) ts at l)
    unfolding met_of
    meets_there start n h t =
        let long : length (take n (drop 1 (drop 1 l))) ≡ n = length-take-le n (drop 1 (drop 1 l)) (omega (arith, t.inside, length-drop 1 (drop 1 l))) in
        rw (look_here ts l h, t.is, long, t.begins)

    pub meets_wrong : (x : Refusal) → here k l ≡ true → object_by kinds (entry_at k r) at (drop 1 l) ≡ wrong x → Err x ≡ met_of at (look_by kinds (entry_at k r) ts at l)
    unfolding met_of
    meets_wrong x h e = rw (look_here ts l h, e)

    pub meets_absent : here k l ≡ false → r.required ≡ false → Ok None ≡ met_of at (look_by kinds (entry_at k r) ts at l)
    unfolding met_of
    meets_absent h q = rw (look_passed ts l h q)

  pub meets_missing : (l : List ℕ) → here k l ≡ false → r.required ≡ true → Err (passed_over k at l) ≡ met_of at (look_by kinds (entry_at k r) (drop (suc k) tags) at l)
  unfolding met_of
  meets_missing l h q = rw (look_missing l h q)

-- ---- and what it has met
pub met_absent : (at : ℕ) (x : Seen) → met_of at x ≡ Ok None → x ≡ absent
unfolding met_of
met_absent at absent e = refl
met_absent at (there v rest) e = absurd (let z : ◌≡◌ {A = ℕ} 0 1 = cc in omega arith)
met_absent at (wrong y) e = absurd (let z : ◌≡◌ {A = ℕ} 0 1 = cc in omega arith)

pub met_wrong : (at : ℕ) (x : Seen) (y : Refusal) → met_of at x ≡ Err y → x ≡ wrong y
unfolding met_of
met_wrong at absent y e = absurd (let z : ◌≡◌ {A = ℕ} 0 1 = cc in omega arith)
met_wrong at (there v rest) y e = absurd (let z : ◌≡◌ {A = ℕ} 0 1 = cc in omega arith)
met_wrong at (wrong x) y e = cc

-- its value lies in the bytes that are left
pub record Lies (l : List ℕ) (at start n : ℕ) (x : Seen) : Type 0 where
  pub v : List ℕ
  pub begins : start ≡ at + 2
  pub some : 0 < n
  pub long : length v ≡ n
  pub inside : 2 + n ≤ length l
  pub is : x ≡ there v (drop (2 + n) l)

behind_value : (t n : ℕ) (v rest : List ℕ) → length v ≡ n → drop (2 + n) (t ∷ length v ∷ (v ++ rest)) ≡ rest
behind_value t n v rest e =
    let two : 2 + n ≡ suc (suc n) = omega arith in
    rw (two, ← e) (drop-append_seam v rest)

pub met_there : (r : Entry) (ts l : List ℕ) (at : ℕ) (m : Met) → met_of at (look r ts at l) ≡ Ok (Some m) → Lies l at m.start m.length (look r ts at l)
unfolding met_of
met_there r ts l at m e = go (view r ts at l) e
  where
    go : {x : Seen} → View r l x → met_of at x ≡ Ok (Some m) → Lies l at m.start m.length x
    go (left_out h) q = absurd (let z : ◌≡◌ {A = ℕ} 0 1 = cc in omega arith)
    go amiss q = absurd (let z : ◌≡◌ {A = ℕ} 0 1 = cc in omega arith)
    go (found {v} {rest} b p d) q =
        let met : met_at (at + 2) (length v) ≡ m = cc in
        let begins : at + 2 ≡ m.start = ap (λ (t : Met). t.start) met in
        let long : length v ≡ m.length = ap (λ (t : Met). t.length) met in
        let size = ap length b in
        record {
          v = v;
          begins = sym begins;
          some = not_none v long p;
          long = long;
          inside = omega (arith, length-append v rest);
          is = rw b (ap (there v) (sym (behind_value r.tag m.length v rest long)));
        }
      where
        not_none : (v : List ℕ) → length v ≡ m.length → permitted r.row.lengths (length v) ≡ true → 0 < m.length
        not_none [] e p = absurd (true_false p (never_0 r.row.lengths))
        not_none (b ∷ v) e p = omega arith
