-- What a row says of its object, and the rows one after the other. Assumes nothing.
use mathlib.Core.Path.{◌≡◌, refl, sym, ap, ◌∙◌}
use mathlib.Core.Bool.{cond}
use mathlib.Core.List.{List, [], ◌∷◌, map}
use Prim.Native.Nat.{ℕ, ◌+◌, ◌<◌}
use native.Mathlib.Numerals.{add-one}
use native.Mathlib.Omega.{arith}
use lib.ListN.{length, get_or, drop}
use lib.Seq.{drop-cons}
use Rattle.edition.specs.declared.Row.{Row}
use Rattle.edition.specs.declared.Edition.{Edition}
use Rattle.edition.specs.Sets.{permitted}
use Rattle.rules.specs.Values.{judged}
use Rattle.edition.specs.Rows.{tags, tag_of, no_row}
use Rattle.card.specs.declared.Object.{Object}
use Rattle.card.specs.declared.Record.{Record}
use Rattle.card.specs.declared.Refusal.{Refusal}
use Rattle.card.specs.Content.{value_of, content_of}
use Rattle.card.specs.Layout.{object_tags}
use Rattle.card.specs.Refusals.{none, or_else}
use Rattle.card.specs.Rules.{entries, object_rows, met, missing, length-out, of_verdict, fault}
use Rattle.card.specs.Refusing.{row_refusal, rows_refusal}
use Rattle.card.specs.Rules.{entry_of}
use Rattle.card.specs.Content.{no_object}
use Rattle.card.proofs.Layouts.{tags_next}
use Rattle.card.proofs.Chains.{or_pass, or_stop}

-- ---- what is amiss with an object, by the length of its value
pub fault_absent : (row : Row) (v : List ℕ) → length v ≡ 0 → fault row v ≡ cond row.required missing met
unfolding fault
fault_absent row [] e = refl
fault_absent row (b ∷ v) e = absurd (omega arith)

pub fault_present : (row : Row) (v : List ℕ) (n : ℕ) → length v ≡ n → (n ≡ 0 → ⊥)
    → fault row v ≡ cond (permitted row.lengths n) (of_verdict (judged row.rule v)) length-out
unfolding fault
fault_present row [] n e h = absurd (h (sym e))
fault_present row (b ∷ v) n e h = ap (λ (k : ℕ). cond (permitted row.lengths k) (of_verdict (judged row.rule (b ∷ v))) length-out) e

-- ---- the rows from the i-th on
abbrev pub rows_from : ℕ → List Row → List Object → Refusal
rows_from i rs os = rows_refusal (entries (drop i object_tags) (drop i rs)) (map value_of (drop i os))

pub rows_start : (e : Edition) (r : Record) → rows_from 0 e.rows r.objects ≡ rows_refusal (object_rows e) (content_of r).values
unfolding content_of
rows_start e r = refl

pub rows_end : (rs : List Row) (os : List Object) → rows_from 16 rs os ≡ none
unfolding tags entries rows_refusal
rows_end rs os = refl

module _ (rs : List Row) (os : List Object) (i : ℕ) (h : i < 16) (k : length rs ≡ 17) (all : length os ≡ 16) (tag : ℕ) (tagged : tag ≡ tag_of i) {told : Refusal}
    (is : told ≡ row_refusal (entry_of tag (get_or rs i no_row)) (fault (get_or rs i no_row) (value_of (get_or os i no_object)))) where
  rows_cons : rows_from i rs os ≡ or_else told (rows_from (i + 1) rs os)
  unfolding entries rows_refusal
  rows_cons =
      let hr : i < length rs = omega arith in
      let ho : i < length os = omega arith in
      rw (is, tagged) (simp (tags_next i h, drop-cons rs i no_row hr, drop-cons os i no_object ho, add-one))

  pub rows_pass : told.number ≡ 0 → rows_from (i + 1) rs os ≡ rows_from i rs os
  rows_pass z = sym (rows_cons ∙ or_pass told (rows_from (i + 1) rs os) z)

  pub rows_stop : (told.number ≡ 0 → ⊥) → rows_from i rs os ≡ told
  rows_stop z = rows_cons ∙ or_stop told (rows_from (i + 1) rs os) z
