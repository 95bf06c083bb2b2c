-- `checks::check_under` meets its contract: the size, the edition, the number, then the content. Assumes nothing.
use mathlib.Core.Path.{◌≡◌, sym, ap, ap₂, ◌∙◌}
use native.Mathlib.Omega.{arith}
use Rattle.edition.specs.Rows.{formed_of}
use Rattle.card.specs.declared.Refusal.{Refusal}
use Rattle.card.specs.Content.{content_of}
use Rattle.card.specs.Refusals.{or_else}
use Rattle.card.specs.Refusing.{number_refusal, content_refusal, write_refusal}
use Rattle.card.proofs.Chains.{or_pass, or_stop, table_well}
use Rattle.wire_records.specs.Records.{lent_record}
use Rattle.wire_records.proofs.Parts.{lent_number}
use Rattle.checks.proofs.Order.{refused_size, in_order}
use Rattle.checks.proofs.check_under.Goals as goal

pub returns-then-size-ne256 : goal.returns-then-size-ne256
returns-then-size-ne256 c =
    let a = c.args in
    let r = lent_record a.bytes.now in
    c.new.ensures ∙ sym (refused_size a.edition r.number (content_of r) a.size c.if-size-ne256.true)

pub returns-then-known-ne0 : goal.returns-then-known-ne0
returns-then-known-ne0 c =
    let chained : write_refusal c.args.edition (lent_record c.args.bytes.now).number (content_of (lent_record c.args.bytes.now)) c.args.size ≡ or_else c.args.known (or_else (number_refusal c.args.edition.number (lent_record c.args.bytes.now).number) (content_refusal c.args.edition (content_of (lent_record c.args.bytes.now)))) =
    let r = lent_record c.args.bytes.now in
    in_order c.args.edition r.number (content_of r) c.args.size c.if-size-ne256.false c.requires.0 in
    sym (chained ∙ or_stop _ _ c.if-known-ne0.true)

pub bounds-bytes-478 : goal.bounds-bytes-478
bounds-bytes-478 c = omega (arith, c.requires.1)

pub returns-then-numbers-ne0 : goal.returns-then-numbers-ne0
returns-then-numbers-ne0 c =
    let chained : write_refusal c.args.edition (lent_record c.args.bytes.now).number (content_of (lent_record c.args.bytes.now)) c.args.size ≡ or_else c.args.known (or_else (number_refusal c.args.edition.number (lent_record c.args.bytes.now).number) (content_refusal c.args.edition (content_of (lent_record c.args.bytes.now)))) =
    let r = lent_record c.args.bytes.now in
    in_order c.args.edition r.number (content_of r) c.args.size c.if-size-ne256.false c.requires.0 in
    let numbered : c.check_numbers-numbers.result ≡ number_refusal c.args.edition.number (lent_record c.args.bytes.now).number =
    c.check_numbers-numbers.ensures ∙ ap (number_refusal c.args.edition.number) (sym (lent_number c.args.bytes.now c.requires.1)) in
    let a = c.args in
    let rest = content_refusal a.edition (content_of (lent_record a.bytes.now)) in
    sym (or_stop c.check_numbers-numbers.result rest c.if-numbers-ne0.true) ∙ ap (λ (x : Refusal). or_else x rest) (numbered) ∙ sym (chained ∙ or_pass _ _ c.if-known-ne0.false)

pub refuse_content-requires : goal.refuse_content-requires
refuse_content-requires c =
    (c.requires.1, table_well (formed_of c.args.edition) (ap (λ (r : Refusal). r.number) (sym c.requires.0) ∙ c.if-known-ne0.false))

pub returns : goal.returns
returns c =
    let chained : write_refusal c.args.edition (lent_record c.args.bytes.now).number (content_of (lent_record c.args.bytes.now)) c.args.size ≡ or_else c.args.known (or_else (number_refusal c.args.edition.number (lent_record c.args.bytes.now).number) (content_refusal c.args.edition (content_of (lent_record c.args.bytes.now)))) =
    let r = lent_record c.args.bytes.now in
    in_order c.args.edition r.number (content_of r) c.args.size c.if-size-ne256.false c.requires.0 in
    let numbered : c.check_numbers-numbers.result ≡ number_refusal c.args.edition.number (lent_record c.args.bytes.now).number =
    c.check_numbers-numbers.ensures ∙ ap (number_refusal c.args.edition.number) (sym (lent_number c.args.bytes.now c.requires.1)) in
    let pass = or_pass c.check_numbers-numbers.result c.refuse_content.result c.if-numbers-ne0.false in
    sym pass ∙ ap₂ or_else (numbered) c.refuse_content.ensures ∙ sym (chained ∙ or_pass _ _ c.if-known-ne0.false)
