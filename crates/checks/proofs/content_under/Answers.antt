-- `checks::content_under` meets its contract: the edition is asked first, and the content only of a well-formed one. Assumes nothing.
use mathlib.Core.Path.{sym, ap, ◌∙◌}
use Rattle.edition.specs.Rows.{formed_of}
use Rattle.card.specs.declared.Refusal.{Refusal}
use Rattle.card.specs.Content.{content_of}
use Rattle.card.proofs.Chains.{or_pass, or_stop, table_well}
use Rattle.wire_records.specs.Records.{lent_record}
use Rattle.checks.proofs.Order.{edition_order}
use Rattle.checks.proofs.content_under.Goals as goal

pub returns-then-table-ne0 : goal.returns-then-table-ne0
returns-then-table-ne0 c =
    sym (edition_order c.args.edition (content_of (lent_record c.args.bytes.now)) c.requires.0 ∙ or_stop _ _ c.if-table-ne0.true)

pub refuse_content-requires : goal.refuse_content-requires
refuse_content-requires c =
    (c.requires.1, table_well (formed_of c.args.edition) (ap (λ (r : Refusal). r.number) (sym c.requires.0) ∙ c.if-table-ne0.false))

pub returns : goal.returns
returns c =
    c.refuse_content.ensures ∙ sym (edition_order c.args.edition (content_of (lent_record c.args.bytes.now)) c.requires.0 ∙ or_pass _ _ c.if-table-ne0.false)
