-- `front_names::put_names` meets its contract: both lines, or nothing. Assumes nothing.
use mathlib.Core.Path.{sym, ◌∙◌}
use Prim.Native.Nat.{◌≤◌}
use native.Mathlib.Omega.{arith}
use borrow.Author.Tests.{leb-true}
use lib.ListN.{length}
use Rattle.card.specs.Content.{content_of}
use Rattle.front.specs.Lines.{forenames}
use Rattle.front.proofs.Sizes.{capped_in, capped_out}
use Rattle.front.proofs.NameLines.{names_none, names_out, names_in}
use Rattle.front_names.proofs.put_names.Goals as goal

pub returns-then-forenames_end-gt28 : goal.returns-then-forenames_end-gt28
returns-then-forenames_end-gt28 c =
    let r = c.args.content in
    record { value = (names_none (content_of r) _ _ (capped_out (length (forenames (content_of r))) (omega (arith, c.forenames_end.ensures, c.if-forenames_end-gt28.true)))).0; room_after = (names_none (content_of r) _ _ (capped_out (length (forenames (content_of r))) (omega (arith, c.forenames_end.ensures, c.if-forenames_end-gt28.true)))).1 }

pub returns-then-not-has_places : goal.returns-then-not-has_places
returns-then-not-has_places c =
    let held : length (forenames (content_of c.args.content)) ≤ 28 =
    let r = c.args.content in
    omega (arith, c.forenames_end.ensures, c.if-forenames_end-gt28.false, capped_in (length (forenames (content_of r))) (omega (arith, c.forenames_end.ensures, c.if-forenames_end-gt28.false))) in
    record { value = (names_out (content_of c.args.content) _ _ (held) (sym c.has_places.ensures ∙ c.if-not-has_places.true)).0; room_after = (names_out (content_of c.args.content) _ _ (held) (sym c.has_places.ensures ∙ c.if-not-has_places.true)).1 }

pub put_lines-requires : goal.put_lines-requires
put_lines-requires c =
    let held : length (forenames (content_of c.args.content)) ≤ 28 =
    let r = c.args.content in
    omega (arith, c.forenames_end.ensures, c.if-forenames_end-gt28.false, capped_in (length (forenames (content_of r))) (omega (arith, c.forenames_end.ensures, c.if-forenames_end-gt28.false))) in
    (held, leb-true _ _ (sym c.has_places.ensures ∙ c.if-not-has_places.false))

pub returns : goal.returns
returns c =
    let held : length (forenames (content_of c.args.content)) ≤ 28 =
    let r = c.args.content in
    omega (arith, c.forenames_end.ensures, c.if-forenames_end-gt28.false, capped_in (length (forenames (content_of r))) (omega (arith, c.forenames_end.ensures, c.if-forenames_end-gt28.false))) in
    record { value = (names_in (content_of c.args.content) (held) (leb-true _ _ (sym c.has_places.ensures ∙ c.if-not-has_places.false)) c.put_lines.ensures).0; room_after = (names_in (content_of c.args.content) (held) (leb-true _ _ (sym c.has_places.ensures ∙ c.if-not-has_places.false)) c.put_lines.ensures).1 }
