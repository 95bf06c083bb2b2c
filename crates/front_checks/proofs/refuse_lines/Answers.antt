-- `front_checks::refuse_lines` meets its contract, test by test. Assumes nothing.
use mathlib.Core.Path.{◌≡◌, sym, ap, ◌∙◌}
use mathlib.Core.Bool.{Bool, true, false}
use lib.ListN.{get_or}
use Rattle.card.specs.declared.Record.{Record}
use Rattle.card.specs.Content.{value_of, content_of, no_object}
use Rattle.front.specs.Lines.{value, addition_sign}
use Rattle.front.specs.Refusing.{is_there}
use Rattle.front.specs.Placing.{signed}
use Rattle.front.proofs.Values.{value_at_lem}
use Rattle.front.proofs.Signs.{blank_none, sign_there, there_none, there_some}
use Rattle.front.proofs.Gates.{lines_30, lines_31, lines_32, lines_none}
use Rattle.front_checks.proofs.refuse_lines.Goals as goal

validity : (r : Record) (q : Bool) → is_there (value_of (get_or r.objects 15 no_object)) ≡ q → is_there (value (content_of r) 15) ≡ q
validity r q e = ap is_there (value_at_lem r 15) ∙ e

pub returns-then-addition-eq32 : goal.returns-then-addition-eq32
returns-then-addition-eq32 c =
    let sign : is_there (signed c.shown_addition-addition.result) ≡ is_there (addition_sign (value (content_of c.args.content) 5)) =
    ap is_there (c.shown_addition-addition.ensures ∙ ap addition_sign (sym (value_at_lem c.args.content 5))) in
    let a = c.args in
    c.new.ensures ∙ sym (lines_30 a.fund (content_of a.content) (sym (sign) ∙ blank_none c.shown_addition-addition.result c.if-addition-eq32.true))

pub returns-then-validity-eq0 : goal.returns-then-validity-eq0
returns-then-validity-eq0 c =
    let sign : is_there (signed c.shown_addition-addition.result) ≡ is_there (addition_sign (value (content_of c.args.content) 5)) =
    ap is_there (c.shown_addition-addition.ensures ∙ ap addition_sign (sym (value_at_lem c.args.content 5))) in
    let there : is_there (addition_sign (value (content_of c.args.content) 5)) ≡ true =
    sym (sign) ∙ sign_there c.shown_addition-addition.result c.if-addition-eq32.false in
    let a = c.args in
    c.new-then-validity-eq0.ensures ∙ sym (lines_31 a.fund (content_of a.content) (there) (validity a.content false (there_none (get_or a.content.objects 15 no_object) c.if-validity-eq0.true)))

pub returns-then-has_underscores : goal.returns-then-has_underscores
returns-then-has_underscores c =
    let sign : is_there (signed c.shown_addition-addition.result) ≡ is_there (addition_sign (value (content_of c.args.content) 5)) =
    ap is_there (c.shown_addition-addition.ensures ∙ ap addition_sign (sym (value_at_lem c.args.content 5))) in
    let there : is_there (addition_sign (value (content_of c.args.content) 5)) ≡ true =
    sym (sign) ∙ sign_there c.shown_addition-addition.result c.if-addition-eq32.false in
    let valid : is_there (value (content_of c.args.content) 15) ≡ true =
    let r = c.args.content in validity r true (there_some (get_or r.objects 15 no_object) c.if-validity-eq0.false) in
    let a = c.args in
    c.new-then-has_underscores.ensures ∙ sym (lines_32 a.fund (content_of a.content) (there) (valid) (sym c.has_underscores.ensures ∙ c.if-has_underscores.true))

pub returns : goal.returns
returns c =
    let sign : is_there (signed c.shown_addition-addition.result) ≡ is_there (addition_sign (value (content_of c.args.content) 5)) =
    ap is_there (c.shown_addition-addition.ensures ∙ ap addition_sign (sym (value_at_lem c.args.content 5))) in
    let there : is_there (addition_sign (value (content_of c.args.content) 5)) ≡ true =
    sym (sign) ∙ sign_there c.shown_addition-addition.result c.if-addition-eq32.false in
    let valid : is_there (value (content_of c.args.content) 15) ≡ true =
    let r = c.args.content in validity r true (there_some (get_or r.objects 15 no_object) c.if-validity-eq0.false) in
    let a = c.args in
    c.none.ensures ∙ sym (lines_none a.fund (content_of a.content) (there) (valid) (sym c.has_underscores.ensures ∙ c.if-has_underscores.false))
