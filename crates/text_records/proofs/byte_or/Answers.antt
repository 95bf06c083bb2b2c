-- `text_records::byte_or`: by whether there is a line. Assumes nothing.
use mathlib.Core.Path.{ap, ◌∙◌}
use mathlib.Core.List.{List}
use Prim.Native.Nat.{ℕ}
use Rattle.card_text.specs.Hex.{byte_at}
use Rattle.card_text.proofs.Told.{byte_other, byte_said}
use Rattle.text_records.proofs.byte_or.Goals as goal

pub returns-then-is_none : goal.returns-then-is_none
returns-then-is_none c = byte_other _ _ _ _ c.line_of.ensures c.if-is_none.ensures

pub returns : goal.returns
returns c = c.byte_at.ensures ∙ ap (λ (v : List ℕ). byte_at v 0) c.value.ensures ∙ byte_said _ _ _ _ c.line_of.ensures c.if-is_none.ensures
