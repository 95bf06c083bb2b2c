-- A record of a content holds that content. Assumes nothing.
use Prim.Native.Nat.{ℕ, suc, ◌≤◌}
use native.Mathlib.Omega.{arith}
use mathlib.Core.Path.{◌≡◌, refl}
use mathlib.Core.Bool.{true}
use mathlib.Core.List.{List, [], ◌∷◌, append_assoc, map}
use lib.ListN.{length}
use lib.Dec.{eqb}
use lib.Seq.{take-append_seam}
use Rattle.edition.specs.declared.Row.{Row}
use Rattle.edition.specs.declared.Edition.{Edition}
use Rattle.edition.specs.declared.Formed.TheVariants.{Well}
use Rattle.edition.specs.Rows.{row_formed, formed_from}
use Rattle.edition.proofs.Rows.{formed_rows, formed_head, row_within, permits_most}
use Rattle.card.specs.declared.Record.{Record}
use Rattle.card.specs.Content.{Content, value_of, content_of, object_of, record_of, numbered}
use Rattle.card.specs.Layout.{object_tags}
use Rattle.card.specs.Rules.{entries, RowMet, AllMet, none_left, one_more, Allowed}

-- values that fit their slots
pub data Short : List (List ℕ) → Type 0 where
  short-end : Short []
  short-more : {v : List ℕ} {vs : List (List ℕ)} → length v ≤ 28 → Short vs → Short (v ∷ vs)

-- what a well-formed row is met by has at most 28 bytes
row_short : (k : ℕ) (r : Row) (v : List ℕ) → row_formed (eqb k 16) r ≡ true → RowMet r v → length v ≤ 28
row_short k r [] f m = omega arith
row_short k r (b ∷ v) f m = permits_most r.lengths (suc (length v)) (row_within (eqb k 16) r f).small m.0

met_from : (k : ℕ) (ts : List ℕ) (rs : List Row) (vs : List (List ℕ)) → formed_from k rs ≡ Well → AllMet (entries ts rs) vs → Short vs
unfolding entries
met_from k [] rs vs f none_left = short-end
met_from k (t ∷ ts) [] vs f none_left = short-end
met_from k (t ∷ ts) (r ∷ rs) vs f (one_more {v = v} {vs = us} m a) =
    let h = formed_head k r rs f in
    short-more (row_short k r v h.0 m) (met_from (suc k) ts rs us h.1 a)

pub allowed_short : (e : Edition) (c : Content) → Allowed e c → Short c.values
allowed_short e c a = met_from 0 object_tags e.rows c.values (formed_rows e a.formed) a.rows

pub value_back : (v : List ℕ) → value_of (object_of v) ≡ v
unfolding value_of object_of
value_back v = rw append_assoc (take-append_seam v _)

values_back : (vs : List (List ℕ)) → map value_of (map object_of vs) ≡ vs
values_back [] = refl
values_back (v ∷ vs) = rw (value_back v, values_back vs)

-- the content of the record of a content is the content
pub content_back : (number : ℕ) (c : Content) → content_of (record_of number c) ≡ c
unfolding content_of record_of
content_back number c = rw (values_back c.values)

-- and its number the number
pub number_back : (number : ℕ) (c : Content) → (record_of number c).number ≡ number
unfolding record_of
number_back number c = refl

-- a number put on is all that changes
pub content_numbered : (number : ℕ) (r : Record) → content_of (numbered number r) ≡ content_of r
unfolding content_of
content_numbered number r = refl
