-- `checks::rows::check_value` meets its contract: by the table of the kinds a value is judged as without one. Assumes nothing.
use mathlib.Core.Path.{◌≡◌, sym, ap, ◌∙◌}
use mathlib.Core.List.{List}
use Prim.Native.Nat.{ℕ}
use Rattle.rules.specs.declared.Fault.TheVariants.{Outside, Breaks}
use Rattle.rules.specs.Values.{judged}
use Rattle.rules.proofs.Verdicts.{told_apart}
use Rattle.rules.specs.Kinds.{judged_by}
use Rattle.rules.proofs.Tables.{by_kinds}
use Rattle.card.specs.Refusing.{row_refusal}
use Rattle.checks.proofs.rows.check_value.Goals as goal

pub returns-in-Ok : goal.returns-in-Ok
unfolding row_refusal
returns-in-Ok c =
    let judged-is : judged c.args.row.rule c.args.value.now ≡ c.judge_by.result =
    let v = c.args.value.now in
    sym (told_apart _ _ c.judge_by.ensures ∙ ap (λ (t : List ℕ). judged_by t c.args.row.rule v) c.requires ∙ by_kinds c.args.row.rule v) in
    rw (judged-is ∙ c.in-Ok.is)

pub returns-in-Err-Outside : goal.returns-in-Err-Outside
unfolding row_refusal
returns-in-Err-Outside c =
    let judged-is : judged c.args.row.rule c.args.value.now ≡ c.judge_by.result =
    let v = c.args.value.now in
    sym (told_apart _ _ c.judge_by.ensures ∙ ap (λ (t : List ℕ). judged_by t c.args.row.rule v) c.requires ∙ by_kinds c.args.row.rule v) in
    let outside : c.in-Err-Outside.field-0 ≡ Outside c.in-Err-Outside.index = c.in-Err-Outside.field-0-is in
    rw (judged-is ∙ c.in-Err-Outside.is, outside) c.new.ensures

pub returns-in-Err-Breaks : goal.returns-in-Err-Breaks
unfolding row_refusal
returns-in-Err-Breaks c =
    let judged-is : judged c.args.row.rule c.args.value.now ≡ c.judge_by.result =
    let v = c.args.value.now in
    sym (told_apart _ _ c.judge_by.ensures ∙ ap (λ (t : List ℕ). judged_by t c.args.row.rule v) c.requires ∙ by_kinds c.args.row.rule v) in
    let breaks : c.in-Err-Breaks.field-0 ≡ Breaks = c.in-Err-Breaks.field-0-is in
    rw (judged-is ∙ c.in-Err-Breaks.is, breaks) c.new-in-Err-Breaks.ensures
