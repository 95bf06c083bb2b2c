-- The table of places of an image, link by link: what is open before the objects, the objects and 12, then 11, 13 and 14. Assumes nothing.
use Prim.Native.Nat.{ℕ, ◌-◌}
use native.Mathlib.Omega.{arith}
use borrow.Author.Tests.{eqb-true, eqb-false, eq-eqb, ne_eqb, le-leb}
use mathlib.Core.Path.{◌≡◌, refl, sym, ap, ◌∙◌}
use mathlib.Core.Bool.{Bool, true, false}
use mathlib.Core.List.{List, map}
use lib.Dec.{eqb}
use lib.ListN.{length, take, drop, length-drop}
use lib.Seq.{length-take-le}
use Rattle.edition.specs.declared.Edition.{Edition}
use Rattle.edition.specs.declared.Formed.TheVariants.{Well}
use Rattle.edition.specs.Rows.{formed_of}
use Rattle.card.specs.declared.Refusal.{Refusal}
use Rattle.card.specs.declared.Places.{Places}
use Rattle.card.specs.Refusals.{none, or_else, bad_row}
use Rattle.card.specs.Fields.{field_told}
use Rattle.card.specs.Layout.{tag_at}
use Rattle.card.specs.Sums.{sums_refusal, tag_before}
use Rattle.card.specs.Frame.{field_wrong, field_of, start_of, end_of, objects_in, tail_end}
use Rattle.card.specs.Reading.{checksum_refusal, tail_refusal, values_in, walk_refusal, walk_of, read_refusal, content_at, answer}
use Rattle.card.specs.Places.{starts_from, no_places, placed, places}
use Rattle.card.proofs.Chains.{or_pass, or_stop, or_assoc, neither, places_by_lem, table_well}
use Rattle.card.proofs.Readings.{through_of}
use Rattle.card.proofs.Starts.{sums_starts}
use Rattle.frame.specs.Checks.{open_refusal, tail_from, Framed}
use Rattle.frame.proofs.Extents.{open_right, open_formed, framed, template_is, start_most, size_most}
use Rattle.objects.specs.Objects.{table_refusal, table_of, listed}
use Rattle.reader_steps.specs.Steps.{end_refusal, checksum_at, tail_at, end_at, last_refusal, settled, places_by}

-- ---- what is refused behind the objects of an image
pub end_is : (s : List ℕ) (end : ℕ) → Framed s end → end_at s end ≡ end_refusal s
unfolding end_at checksum_at tail_at tail_from checksum_refusal tail_refusal tail_end
end_is s end f = rw (eq-eqb (length s) 256 f.long, le-leb 101 end f.least, le-leb end 253 f.most, f.is)

-- ---- a table settled
module _ (s : List ℕ) (t : Places) where
  settle-first : (x : Refusal) → last_refusal s t ≡ x → (x.number ≡ 0 → ⊥) → no_places x ≡ settled s t
  unfolding settled
  settle-first x e h = rw (e, ne_eqb x.number 0 h)

  pub settle_own : (t.refusal.number ≡ 0 → ⊥) → no_places t.refusal ≡ settled s t
  unfolding last_refusal
  settle_own h = settle-first t.refusal (or_stop t.refusal _ h) h

  module _ (behind : Refusal) (is : behind ≡ or_else (sums_refusal (tag_before t.starts) t.lengths) (end_refusal s)) (own : t.refusal.number ≡ 0) where
    last-is : last_refusal s t ≡ behind
    unfolding last_refusal
    last-is = or_pass t.refusal _ own ∙ sym is

    pub settle_behind : (behind.number ≡ 0 → ⊥) → no_places behind ≡ settled s t
    settle_behind h = settle-first behind last-is h

    pub settle_none : behind.number ≡ 0 → t ≡ settled s t
    unfolding settled
    settle_none z = rw (last-is, z)

-- ---- the table that values make, with a refusal or without
placed_stop : (x : Refusal) (at : ℕ) (vs : List (List ℕ)) → (x.number ≡ 0 → ⊥) → placed x at vs ≡ no_places x
unfolding placed
placed_stop x at vs h = rw (ne_eqb x.number 0 h)

abbrev full : ℕ → List (List ℕ) → Places
full at vs = record { refusal = none; starts = starts_from at vs 0 16; lengths = map length vs }

placed_pass : (x : Refusal) (at : ℕ) (vs : List (List ℕ)) → x.number ≡ 0 → placed x at vs ≡ full at vs
unfolding placed
placed_pass x at vs z = rw z

settled_full : (s : List ℕ) (at : ℕ) (vs : List (List ℕ)) → length vs ≡ 16 → settled s (full at vs) ≡ placed (or_else (sums_refusal (tag_at at vs) (map length vs)) (end_refusal s)) at vs
unfolding settled placed last_refusal
settled_full s at vs many =
    let e : last_refusal s (full at vs) ≡ or_else (sums_refusal (tag_at at vs) (map length vs)) (end_refusal s) =
    or_pass none _ refl ∙ ap (λ (g : Refusal). or_else g (end_refusal s)) (sums_starts at vs many) in
    rw e

settled_stop : (s : List ℕ) (x : Refusal) (at : ℕ) (vs : List (List ℕ)) → (x.number ≡ 0 → ⊥) → settled s (placed x at vs) ≡ no_places x
unfolding no_places
settled_stop s x at vs h = ap (settled s) (placed_stop x at vs h) ∙ sym (settle_own s (no_places x) h)

-- ---- the chain behind the front
module _ (e : Edition) (s : List ℕ) (seventeen : length e.rows ≡ 17) (formed : formed_of e ≡ Well) where
  abbrev vals : List (List ℕ)
  vals = take 16 (values_in (walk_of e s))

  abbrev table : Refusal
  table = table_refusal (end_of s) (walk_of e s)

  abbrev sums : Refusal
  sums = sums_refusal (tag_at (start_of s) vals) (map length vals)

  walk-chain : walk_refusal s (walk_of e s) ≡ or_else table (or_else sums (end_refusal s))
  unfolding walk_refusal table_refusal
  walk-chain = sym (or_assoc _ _ _)

  -- a table that refuses nothing has sixteen values
  sixteen : table.number ≡ 0 → length vals ≡ 16
  unfolding table_refusal
  sixteen z =
      let n = neither _ _ z in
      let t = through_of e s seventeen formed n.first n.second in
      ap length t.values ∙ t.many

  settled_is : settled s (table_of (start_of s) (end_of s) (walk_of e s)) ≡ placed (walk_refusal s (walk_of e s)) (start_of s) vals
  unfolding table_of
  settled_is = rw walk-chain (go (eqb table.number 0) refl)
    where
      go : (q : Bool) → eqb table.number 0 ≡ q → settled s (placed table (start_of s) vals) ≡ placed (or_else table (or_else sums (end_refusal s))) (start_of s) vals
      go true q =
          let z = eqb-true _ _ q in
          ap (settled s) (placed_pass table (start_of s) vals z)
          ∙ settled_full s (start_of s) vals (sixteen z)
          ∙ sym (ap (λ (x : Refusal). placed x (start_of s) vals) (or_pass table (or_else sums (end_refusal s)) z))
      go false q =
          let h = eqb-false _ _ q in
          settled_stop s table (start_of s) vals h ∙ sym (ap (λ (x : Refusal). placed x (start_of s) vals) (or_stop table (or_else sums (end_refusal s)) h) ∙ placed_stop table (start_of s) vals h)

-- ---- the whole
read_open : (e : Edition) (s : List ℕ) → read_refusal e s ≡ or_else (open_refusal (bad_row (formed_of e)) s) (walk_refusal s (walk_of e s))
unfolding read_refusal open_refusal
read_open e s = sym (or_assoc _ _ _ ∙ ap (or_else _) (or_assoc _ _ _))

places_are : (e : Edition) (s : List ℕ) → places e s ≡ placed (read_refusal e s) (start_of s) (take 16 (values_in (walk_of e s)))
unfolding answer content_at
places_are e s = places_by_lem (start_of s) _ _

pub places_open : (e : Edition) (s : List ℕ) → ((open_refusal (bad_row (formed_of e)) s).number ≡ 0 → ⊥) → no_places (open_refusal (bad_row (formed_of e)) s) ≡ places e s
unfolding placed
places_open e s h = sym (places_are e s ∙ rw (read_open e s, or_stop (open_refusal (bad_row (formed_of e)) s) (walk_refusal s (walk_of e s)) h, ne_eqb _ 0 h))

pub places_passed : (e : Edition) (s : List ℕ) → length e.rows ≡ 17 → formed_of e ≡ Well → (open_refusal (bad_row (formed_of e)) s).number ≡ 0
    → settled s (table_of (start_of s) (end_of s) (walk_of e s)) ≡ places e s
places_passed e s n formed z =
    settled_is e s n formed ∙ sym (places_are e s ∙ ap (λ (x : Refusal). placed x (start_of s) (take 16 (values_in (walk_of e s)))) (read_open e s ∙ or_pass _ _ z))

-- the table of the image's objects
pub listed_is : (e : Edition) (s : List ℕ) → length s ≡ 256 → field_wrong (field_of s) ≡ 0
    → listed (take (end_of s - start_of s) (drop (start_of s) s)) e.rows (start_of s) ≡ table_of (start_of s) (end_of s) (walk_of e s)
unfolding listed end_of
listed_is e s long right =
    let size = (field_told (field_of s)).length in
    let n : length (objects_in s) ≡ size = length-take-le size (drop (start_of s) s) (omega (arith, length-drop (start_of s) s, (framed s long right).most)) in
    rw (← template_is s long right, le-leb (start_of s) 33 (start_most s long right), le-leb (length (objects_in s)) 212 (omega (arith, size_most s long right)), n)

-- ---- the places by their steps
pub by_refused : (x : Refusal) (e : Edition) (s : List ℕ) → ((open_refusal x s).number ≡ 0 → ⊥) → no_places (open_refusal x s) ≡ places_by x e s
unfolding places_by
by_refused x e s h = rw (ne_eqb _ 0 h)

pub by_passed : (x : Refusal) (e : Edition) (s : List ℕ) → (open_refusal x s).number ≡ 0
    → settled s (listed (take (end_of s - start_of s) (drop (start_of s) s)) e.rows (start_of s)) ≡ places_by x e s
unfolding places_by
by_passed x e s z = rw z

pub places_known : (e : Edition) (s : List ℕ) → length e.rows ≡ 17 → places_by (bad_row (formed_of e)) e s ≡ places e s
places_known e s n = go (eqb (open_refusal (bad_row (formed_of e)) s).number 0) refl
  where
    go : (q : Bool) → eqb (open_refusal (bad_row (formed_of e)) s).number 0 ≡ q → places_by (bad_row (formed_of e)) e s ≡ places e s
    go true t =
        let z = eqb-true _ _ t in
        let r = open_right _ s z in
        let formed = table_well _ (open_formed _ s z) in
        sym (by_passed _ e s z) ∙ ap (settled s) (listed_is e s r.0 r.1) ∙ places_passed e s n formed z
    go false t = sym (by_refused _ e s (eqb-false _ _ t)) ∙ places_open e s (eqb-false _ _ t)
