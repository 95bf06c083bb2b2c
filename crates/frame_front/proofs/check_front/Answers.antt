-- `frame_front::check_front` meets its contract: where nothing is refused before the objects, the length field is right and puts the template inside. Assumes nothing.
use mathlib.Core.Path.{sym, ap, ◌∙◌}
use borrow.Author.Tests.{ne_eqb}
use Rattle.card.specs.declared.Refusal.{Refusal}
use Rattle.card.specs.Frame.{start_of, end_of}
use Rattle.frame.specs.declared.Span.{Span}
use Rattle.frame.specs.Checks.{span_of, front_of}
use Rattle.frame_front.proofs.check_front.Goals as goal

pub refuse_open-refusal-requires : goal.refuse_open-refusal-requires
unfolding span_of
refuse_open-refusal-requires c = ap (λ (x : Span). x.wrong) c.read_span-span.ensures

pub returns-then-refusal-ne0 : goal.returns-then-refusal-ne0
unfolding front_of
returns-then-refusal-ne0 c = rw (← c.refuse_open-refusal.ensures, ne_eqb _ _ c.if-refusal-ne0.true)

pub returns : goal.returns
unfolding front_of span_of start_of end_of
returns c =
    let passed = ap (λ (x : Refusal). x.number) (sym c.refuse_open-refusal.ensures) ∙ c.if-refusal-ne0.false in
    rw (passed, c.none.ensures, c.read_span-span.ensures)
