-- `objects_list::list_rows` meets its contract. The invariant: the walk of all rows is the values so far and the walk that is left, and the table
-- holds the places of those values. Assumes nothing.
use mathlib.Core.Path.{◌≡◌, refl, sym, ap, ◌∙◌}
use mathlib.Core.List.{List}
use Prim.Native.Nat.{ℕ, suc, ◌+◌, ◌-◌, ◌≤◌}
use native.Mathlib.Omega.{arith}
use native.Mathlib.Numerals.{add-one}
use borrow.Author.Rules.{rules}
use lib.ListN.{length, get_or, take, drop, length-set, length-drop}
use lib.Seq.{drop-drop}
use Rattle.std.specs.Prelude.{Option, Some, None, Result, Ok}
use Rattle.edition.specs.declared.Row.{Row}
use Rattle.rules.specs.Kinds.{kind_table}
use Rattle.edition.specs.Rows.{tags, no_row}
use Rattle.card.specs.declared.Refusal.{Refusal}
use Rattle.card.specs.Walk.{there, look}
use Rattle.objects.specs.declared.Met.{Met}
use Rattle.objects.specs.Objects.{entry_at, look_by, met_of}
use Rattle.objects.proofs.Finds.{part_left, met_by, met_absent, met_wrong, met_there, Lies}
use Rattle.objects.proofs.Steps.{sofar_none, next_absent, next_there, next_last, table_is, table_wrong}
use Rattle.objects_list.proofs.list_rows.Goals as goal
use Rattle.objects_list.proofs.list_rows.Goals.{then-k-lt16, else-k-lt16}

-- where the value lies that a row has met by the table of the kinds
lies : (kinds t : List ℕ) (r : Row) (from k i : ℕ) (x : Result (Option Met) Refusal) (o : Option Met) (m : Met) → kinds ≡ kind_table
    → x ≡ met_of (from + i) (look_by kinds (entry_at k r) (drop (suc k) tags) (from + i) (take (length t - i) (drop i t)))
    → x ≡ Ok o → o ≡ Some m → Lies (drop i t) (from + i) m.start m.length (look (entry_at k r) (drop (suc k) tags) (from + i) (drop i t))
lies kinds t r from k i x o m e q p s =
    let met = sym (q ∙ met_by _ _ _ _ _ e) ∙ p in
    met_there (entry_at k r) (drop (suc k) tags) (drop i t) (from + i) m (rw (part_left i t, s) at met)

pub loop-k-init : goal.loop-k-init
loop-k-init c = (search rules, refl, refl, sofar_none _ _ _)

pub loop-k-preserved-in-Ok-None : goal.loop-k-preserved-in-Ok-None
loop-k-preserved-in-Ok-None c =
    let a = c.args in
    let l = c.loop-k in
    let seventeen : length a.rows ≡ 17 = omega arith in
    let none : c.in-Ok-None.field-0 ≡ None = c.in-Ok-None.field-0-is in
    let met = sym (c.meet_row.ensures ∙ met_by _ _ _ _ _ c.requires.2) ∙ c.in-Ok-None.is in
    let seen = met_absent (a.from + l.i) _ (rw (part_left l.i a.template.now, none) at met) in
    (l.invariant.0, l.invariant.1, l.invariant.2, rw add-one (next_absent a.template.now a.rows a.from l.k l.i l.starts l.lengths seventeen (omega arith) l.invariant.3 seen))

pub returns-in-Err : goal.returns-in-Err
returns-in-Err c =
    let seventeen : length c.args.rows ≡ 17 = omega arith in
    let a = c.args in
    let l = c.loop-k in
    let met = sym (c.meet_row.ensures ∙ met_by _ _ _ _ _ c.requires.2) ∙ c.in-Err.is in
    let seen = met_wrong (a.from + l.i) _ _ (rw (part_left l.i a.template.now) at met) in
    c.refused.ensures
    ∙ sym (table_wrong a.template.now a.rows a.from l.k l.i l.starts l.lengths seventeen (omega arith) l.invariant.3 _ seen)

pub returns : goal.returns
returns c =
    let a = c.args in
    let l = c.loop-k in
    let all : l.k ≡ 17 = omega arith in
    c.close.ensures
    ∙ rw c.refuse_rest-rest.ensures
    (sym (table_is a.template.now a.rows a.from l.i l.starts l.lengths l.invariant.1 l.invariant.2 l.invariant.0 (rw all at l.invariant.3)))

pub overflow_add-i-in-loop-k : goal.overflow_add-i-in-loop-k
overflow_add-i-in-loop-k c =
    let a = c.args in
    let l = c.loop-k in
    let w = c.in-Ok-Some in
    let t = lies a.kinds.now a.template.now (get_or a.rows l.k no_row) a.from l.k l.i _ w.field-0 w.met c.requires.2 c.meet_row.ensures w.is w.field-0-is in
    omega (arith, t.inside, length-drop l.i a.template.now, c.requires.1)

pub overflow_cast-starts : goal.overflow_cast-starts
overflow_cast-starts c =
    let a = c.args in
    let l = c.loop-k in
    let w = c.in-Ok-Some in
    let t = lies a.kinds.now a.template.now (get_or a.rows l.k no_row) a.from l.k l.i _ w.field-0 w.met c.requires.2 c.meet_row.ensures w.is w.field-0-is in
    omega (arith, t.begins, t.inside, length-drop l.i a.template.now, c.requires.0, c.requires.1)

pub overflow_cast-lengths : goal.overflow_cast-lengths
overflow_cast-lengths c =
    let a = c.args in
    let l = c.loop-k in
    let w = c.in-Ok-Some in
    let t = lies a.kinds.now a.template.now (get_or a.rows l.k no_row) a.from l.k l.i _ w.field-0 w.met c.requires.2 c.meet_row.ensures w.is w.field-0-is in
    omega (arith, t.inside, length-drop l.i a.template.now, c.requires.1)

pub loop-k-preserved : goal.loop-k-preserved
loop-k-preserved c =
    let a = c.args in
    let l = c.loop-k in
    let o = c.in-Ok-Some in
    let n = o.met.length in
    let t = lies a.kinds.now a.template.now (get_or a.rows l.k no_row) a.from l.k l.i _ o.field-0 o.met c.requires.2 c.meet_row.ensures o.is o.field-0-is in
    let inside : l.i + 2 + n ≤ length a.template.now = omega (arith, t.inside, length-drop l.i a.template.now) in
    let seventeen : length a.rows ≡ 17 = omega arith in
    let place : l.i + (2 + n) ≡ l.i + 2 + n = omega arith in
    let onward : drop (2 + n) (drop l.i a.template.now) ≡ drop (l.i + 2 + n) a.template.now =
    drop-drop (2 + n) l.i a.template.now ∙ ap (λ (m : ℕ). drop m a.template.now) place in
    elim c.if-k-lt16.branch [
      | then-k-lt16 w ↦ rw (w.starts-is, w.lengths-is) (
        inside,
        length-set l.starts l.k _ ∙ l.invariant.1,
        length-set l.lengths l.k _ ∙ l.invariant.2,
        rw add-one
            (next_there a.template.now a.rows a.from l.k l.i l.starts l.lengths seventeen (omega arith) l.invariant.3 t.v n (l.i + 2 + n)
            t.long t.some refl (t.is ∙ ap (there t.v) onward) o.met.start w.if-k-lt16.true l.invariant.1 l.invariant.2 t.begins),
      )
      | else-k-lt16 w ↦ rw (w.starts-is, w.lengths-is) (
        inside,
        l.invariant.1,
        l.invariant.2,
        rw add-one
            (next_last a.template.now a.rows a.from l.k l.i l.starts l.lengths seventeen (omega arith) l.invariant.3 t.v n (l.i + 2 + n)
            t.long t.some refl (t.is ∙ ap (there t.v) onward) w.if-k-lt16.false),
      )
    ]
