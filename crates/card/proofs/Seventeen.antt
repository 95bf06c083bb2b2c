-- The rows of a well-formed edition: sixteen, and that of the checksum behind them. Assumes nothing.
use Prim.Native.Nat.{ℕ, suc, ◌+◌}
use native.Mathlib.Omega.{arith}
use mathlib.Core.Path.{◌≡◌, refl, ap, ◌∙◌, subst}
use mathlib.Core.Bool.{true}
use mathlib.Core.List.{List, [], ◌∷◌, ◌++◌}
use lib.ListN.{length, length-map}
use Rattle.rules.specs.declared.Rule.TheVariants.{Raw}
use Rattle.edition.specs.declared.Row.{Row}
use Rattle.edition.specs.declared.Edition.{Edition}
use Rattle.edition.specs.declared.Formed.TheVariants.{Well}
use Rattle.ground.specs.Lists.{distinct}
use Rattle.edition.specs.Rows.{tags, row_formed, formed_from, formed_of}
use Rattle.edition.proofs.Rows.{formed_rows, tags_distinct, formed_head, last_formed}
use Rattle.card.specs.Layout.{body, object_tags}
use Rattle.card.specs.Rules.{Entry, entries, object_rows}
use Rattle.card.specs.Walk.{tags_of, walk}
use Rattle.card.proofs.Walks.{appraise, walk_body}

-- ---- row 8E is one row in every well-formed edition
abbrev pub eight : Entry
eight = record { tag = 0x8E; row = record { required = true; rule = Raw; lengths = 2 } }

abbrev pub with_eight : List Entry → List Entry
with_eight rs = rs ++ (eight ∷ [])

eight_is : (r : Row) → row_formed true r ≡ true → record { tag = 0x8E; row = r } ≡ eight
eight_is r h =
    let l = last_formed r h in
    let same : record { required = r.required; rule = r.rule; lengths = r.lengths } ≡ eight.row = rw (l.required, l.rule, l.lengths) in
    ap (λ (x : Row). record { tag = 0x8E; row = x }) same

-- ---- the rows of the tags, from row k on
record Rowed (ts : List ℕ) (rs : List Row) : Type 0 where
  whole : entries (ts ++ (0x8E ∷ [])) rs ≡ with_eight (entries ts rs)
  tagged : tags_of (entries ts rs) ≡ ts

rowed_last : (r : Row) → row_formed true r ≡ true → Rowed [] (r ∷ [])
unfolding entries
rowed_last r h = record { whole = ap (λ (x : Entry). x ∷ []) (eight_is r h); tagged = refl }

rowed_more : (t : ℕ) (ts : List ℕ) (r : Row) (rs : List Row) → Rowed ts rs → Rowed (t ∷ ts) (r ∷ rs)
unfolding entries
rowed_more t ts r rs f = record {
  whole = ap (λ (l : List Entry). record { tag = t; row = r } ∷ l) f.whole;
  tagged = ap (λ (l : List ℕ). t ∷ l) f.tagged;
}

rowed : (k : ℕ) (ts : List ℕ) (rs : List Row) → k + length ts ≡ 16 → length rs ≡ suc (length ts) → formed_from k rs ≡ Well → Rowed ts rs
unfolding formed_from
rowed k ts [] a n h = absurd (omega arith)
rowed k [] (r ∷ x ∷ rs) a n h = absurd (omega arith)
rowed k [] (r ∷ []) a n h =
    let at : k ≡ 16 = omega arith in
    let w = formed_head k r [] h in
    rowed_last r (rw at at w.0)
rowed k (t ∷ ts) (r ∷ rs) a n h =
    let w = formed_head k r rs h in
    rowed_more t ts r rs (rowed (suc k) ts rs (omega arith) (omega arith) w.1)

tags_eight : (rs : List Entry) → tags_of (with_eight rs) ≡ tags_of rs ++ (0x8E ∷ [])
tags_eight [] = refl
tags_eight (r ∷ rs) = ap (λ (l : List ℕ). r.tag ∷ l) (tags_eight rs)

-- ---- the seventeen rows of an edition
pub record Table (e : Edition) : Type 0 where
  pub whole : entries tags e.rows ≡ with_eight (object_rows e)
  pub tagged : tags_of (with_eight (object_rows e)) ≡ tags
  pub count : length (object_rows e) ≡ 16

pub table_of : (e : Edition) → length e.rows ≡ 17 → formed_of e ≡ Well → Table e
unfolding tags
table_of e n h =
    let r : Rowed object_tags e.rows = rowed 0 object_tags e.rows refl n (formed_rows e h) in
    record {
      whole = r.whole;
      tagged = tags_eight (object_rows e) ∙ ap (λ (ts : List ℕ). ts ++ (0x8E ∷ [])) r.tagged;
      count = simp length-map at (ap length r.tagged);
    }

-- over the bytes of any values the walk stops at the first row that is not met
pub walk_values : (e : Edition) (at : ℕ) (all : List (List ℕ)) → Table e → walk (entries tags e.rows) at (body tags all) ≡ appraise (with_eight (object_rows e)) at all
walk_values e at all t =
    let apart : distinct (tags_of (with_eight (object_rows e))) ≡ true = rw t.tagged tags_distinct in
    rw t.whole (subst (λ (ts : List ℕ). walk (with_eight (object_rows e)) at (body ts all) ≡ appraise (with_eight (object_rows e)) at all) t.tagged
    (walk_body (with_eight (object_rows e)) all at apart))
