-- `host::asking::ask` meets its contract: the command, then the image, then the range. Assumes nothing.
use native.Mathlib.Omega.{arith}
use mathlib.Core.Path.{ap, ◌∙◌}
use Rattle.card.specs.declared.Refusal.{Refusal}
use Rattle.frame.specs.Checks.{front_of}
use Rattle.host.proofs.Replies.{asked_unfit, asked_refused, asked_range, asked_inside}
use Rattle.host.proofs.asking.ask.Goals as goal

pub returns-in-Err-clause-value : goal.returns-in-Err-clause-value
returns-in-Err-clause-value c =
    let a = c.args in
    rw c.decline.ensures (asked_unfit a.edition a.image.now _ _ c.parse.ensures _ c.in-Err.is)

pub returns-in-Err-clause-count_in_bounds : goal.returns-in-Err-clause-count_in_bounds
returns-in-Err-clause-count_in_bounds c =
    let a = c.args in
    rw c.decline.ensures (omega arith)

pub returns-then-refusal-ne0-clause-value : goal.returns-then-refusal-ne0-clause-value
returns-then-refusal-ne0-clause-value c =
    let a = c.args in
    rw c.decline-then-refusal-ne0.ensures
    (asked_refused a.edition a.image.now _ _ c.parse.ensures _ c.in-Ok.is _ c.places-table.ensures c.if-refusal-ne0.true)

pub returns-then-refusal-ne0-clause-count_in_bounds : goal.returns-then-refusal-ne0-clause-count_in_bounds
returns-then-refusal-ne0-clause-count_in_bounds c =
    let a = c.args in
    rw c.decline-then-refusal-ne0.ensures
    (omega arith)

pub returns-clause-value : goal.returns-clause-value
returns-clause-value c =
    let a = c.args in
    let front = c.check_front-front.ensures ∙ ap (λ (x : Refusal). front_of x a.image.now) c.none.ensures in
    rw c.choose.ensures (asked_range a.edition a.image.now _ _ c.parse.ensures _ c.in-Ok.is _ c.places-table.ensures c.if-refusal-ne0.false _ front)

pub returns-clause-count_in_bounds : goal.returns-clause-count_in_bounds
returns-clause-count_in_bounds c =
    let a = c.args in
    let front = c.check_front-front.ensures ∙ ap (λ (x : Refusal). front_of x a.image.now) c.none.ensures in
    rw c.choose.ensures (asked_inside a.edition a.image.now _ _ c.parse.ensures _ c.in-Ok.is _ c.places-table.ensures c.if-refusal-ne0.false _ front)
