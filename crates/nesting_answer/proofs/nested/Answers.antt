-- `nesting_answer::nested` meets its contract: both editions are asked, then the rows. Assumes nothing.
use mathlib.Core.Path.{◌≡◌, sym, ◌∙◌}
use mathlib.Core.Bool.{true, false}
use Rattle.edition.specs.Rows.{formed_of}
use Rattle.nesting.specs.Decision.{is_well, nesting_of}
use Rattle.nesting_answer.proofs.nested.Goals as goal

pub returns-then-not-is_formed : goal.returns-then-not-is_formed
unfolding nesting_of
returns-then-not-is_formed c =
    let e : is_well (formed_of c.args.inner) ≡ false = sym c.is_formed.ensures ∙ c.if-not-is_formed.true in
    rw e

pub returns-then-not-is_formed-2 : goal.returns-then-not-is_formed-2
unfolding nesting_of
returns-then-not-is_formed-2 c =
    let e : is_well (formed_of c.args.inner) ≡ true = sym c.is_formed.ensures ∙ c.if-not-is_formed.false in
    let f : is_well (formed_of c.args.outer) ≡ false = sym c.is_formed-2.ensures ∙ c.if-not-is_formed-2.true in
    rw (e, f)

pub returns : goal.returns
unfolding nesting_of
returns c =
    let e : is_well (formed_of c.args.inner) ≡ true = sym c.is_formed.ensures ∙ c.if-not-is_formed.false in
    let f : is_well (formed_of c.args.outer) ≡ true = sym c.is_formed-2.ensures ∙ c.if-not-is_formed-2.false in
    rw (e, f) c.rows_nested.ensures
