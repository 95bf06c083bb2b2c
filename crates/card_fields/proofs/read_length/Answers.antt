-- `card_fields::read_length` meets its contract: the step from the length that was read to the card's form. Assumes nothing.
use Prim.Native.Nat.{ℕ, ◌≤◌, ◌<◌}
use native.Mathlib.Omega.{arith}
use mathlib.Core.List.{List}
use mathlib.Core.Path.{◌≡◌, sym, ap, subst, ◌∙◌}
use lib.ListN.{get_or}
use Rattle.std.specs.Prelude.{Result, Ok, Err}
use Rattle.lengths.specs.declared.Field.{Field}
use Rattle.lengths.specs.declared.FieldError.{FieldError}
use Rattle.lengths.specs.Lengths.{length_read, length_told}
use Rattle.lengths.proofs.Laws.{told_short}
use Rattle.card.specs.Fields.{length_at, field_told, taken}
use Rattle.card.proofs.Forms.{taken_one, taken_two, taken_else, by_taken}
use Rattle.card_fields.proofs.read_length.Goals as goal

-- what was read, as the card takes it
form : (r : Result Field FieldError) (bs : List ℕ) → r ≡ length_read bs → taken (length_told r) bs ≡ length_at bs
form r bs e = subst (λ (r : Result Field FieldError). taken (length_told r) bs ≡ length_at bs) (sym e) (by_taken bs)

short : (f : Field) (bs : List ℕ) → ((i : ℕ) → get_or bs i 0 < 256) → Ok f ≡ length_read bs → f.used ≤ 2 → f.length ≤ 255
short f bs w e =
    subst (λ (r : Result Field FieldError). (length_told r).used ≤ 2 → (length_told r).length ≤ 255) (sym e) (told_short bs w)

pub returns-in_default : goal.returns-in_default
returns-in_default c =
    ap field_told (c.form_unread.ensures ∙ form (Err c.in_default.field-0) c.args.bytes.now (sym c.in_default.is ∙ c.read_length.ensures.read))

pub overflow_cast-result : goal.overflow_cast-result
overflow_cast-result c = omega (arith, short c.in-Ok.field c.args.bytes.now (λ i. (c.type_inv.bytes i).fits) c.in-Ok.ensures.read (omega arith))

pub returns-then-field-eq1 : goal.returns-then-field-eq1
returns-then-field-eq1 c =
    let s = c.args.bytes.now in
    ap field_told (sym (taken_one (length_told (Ok c.in-Ok.field)) s c.if-field-eq1.true) ∙ form (Ok c.in-Ok.field) s c.in-Ok.ensures.read)

pub overflow_cast-result-then-field-eq2 : goal.overflow_cast-result-then-field-eq2
overflow_cast-result-then-field-eq2 c =
    omega (arith, short c.in-Ok.field c.args.bytes.now (λ i. (c.type_inv.bytes i).fits) c.in-Ok.ensures.read (omega arith))

pub returns-then-field-eq2 : goal.returns-then-field-eq2
returns-then-field-eq2 c =
    let s = c.args.bytes.now in
    ap field_told (sym (taken_two (length_told (Ok c.in-Ok.field)) s c.if-field-eq2.true) ∙ form (Ok c.in-Ok.field) s c.in-Ok.ensures.read)

pub returns : goal.returns
returns c =
    let s = c.args.bytes.now in
    let t = length_told (Ok c.in-Ok.field) in
    ap field_told (c.form_unread-2.ensures ∙ (sym (taken_else t s c.if-field-eq1.false c.if-field-eq2.false) ∙ form (Ok c.in-Ok.field) s c.in-Ok.ensures.read))
