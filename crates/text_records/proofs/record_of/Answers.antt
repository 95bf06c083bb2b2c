-- `text_records::record_of`: the parts are those of the definition. Assumes nothing.
use mathlib.Core.Path.{ap, ◌∙◌}
use Rattle.card_text.specs.Records.{free_said}
use Rattle.card_text.proofs.Told.{record_told}
use Rattle.text_records.proofs.record_of.Goals as goal

pub returns : goal.returns
returns c = record_told _ _ _ _ _ _ c.byte_or.ensures (c.free_bytes.ensures ∙ ap free_said c.value.ensures) c.byte_or-2.ensures c.objects_of.ensures
