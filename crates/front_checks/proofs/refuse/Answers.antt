-- `front_checks::refuse` meets its contract: writing's refusal, the room, the printed fields. Assumes nothing.
use mathlib.Core.Path.{◌≡◌, sym, ap, ◌∙◌}
use Rattle.edition.specs.declared.Edition.{Edition}
use Rattle.edition.specs.Tables.{terminal}
use Rattle.card.specs.declared.Refusal.{Refusal}
use Rattle.card.specs.Content.{content_of}
use Rattle.card.specs.Refusing.{edition_refusal}
use Rattle.front.proofs.Gates.{print_own, print_20, print_lines}
use Rattle.front_checks.proofs.refuse.Goals as goal

pub returns-then-own-ne0 : goal.returns-then-own-ne0
returns-then-own-ne0 c =
    let own : c.check_content-own.result ≡ edition_refusal terminal (content_of c.args.content) =
    c.check_content-own.ensures ∙ ap (λ (e : Edition). edition_refusal e (content_of c.args.content)) c.terminal.ensures in
    let a = c.args in
    own ∙ sym (print_own a.fund (content_of a.content) a.size (λ z. c.if-own-ne0.true (ap (λ (r : Refusal). r.number) (own) ∙ z)))

pub returns-then-size-ne112 : goal.returns-then-size-ne112
returns-then-size-ne112 c =
    let own : c.check_content-own.result ≡ edition_refusal terminal (content_of c.args.content) =
    c.check_content-own.ensures ∙ ap (λ (e : Edition). edition_refusal e (content_of c.args.content)) c.terminal.ensures in
    let zero : (edition_refusal terminal (content_of c.args.content)).number ≡ 0 =
    ap (λ (r : Refusal). r.number) (sym (own)) ∙ c.if-own-ne0.false in
    let a = c.args in
    c.new.ensures ∙ sym (print_20 a.fund (content_of a.content) a.size (zero) c.if-size-ne112.true)

pub returns : goal.returns
returns c =
    let own : c.check_content-own.result ≡ edition_refusal terminal (content_of c.args.content) =
    c.check_content-own.ensures ∙ ap (λ (e : Edition). edition_refusal e (content_of c.args.content)) c.terminal.ensures in
    let zero : (edition_refusal terminal (content_of c.args.content)).number ≡ 0 =
    ap (λ (r : Refusal). r.number) (sym (own)) ∙ c.if-own-ne0.false in
    let a = c.args in
    c.refuse_lines.ensures ∙ sym (print_lines a.fund (content_of a.content) a.size (zero) c.if-size-ne112.false)
