-- `text_checks::fault_of_line`: the tests are those of the definition. Assumes nothing.
use Prim.Native.Nat.{ℕ}
use mathlib.Core.Path.{ap, ◌∙◌}
use Rattle.std.specs.Prelude.{Option, unwrap_or}
use Rattle.card_text.specs.Faults.{fault_of_value}
use Rattle.card_text.proofs.Told.{line_skipped, line_unknown, line_checksum, line_again, line_value}
use Rattle.text_checks.proofs.fault_of_line.Goals as goal

abbrev or_0 : Option ℕ → ℕ
or_0 n = unwrap_or n 0

pub returns-then-key-eq-SKIPPED : goal.returns-then-key-eq-SKIPPED
returns-then-key-eq-SKIPPED c = line_skipped _ _ _ _ c.key_of-key.ensures c.if-key-eq-SKIPPED.true

pub returns-then-key-eq-UNKNOWN : goal.returns-then-key-eq-UNKNOWN
returns-then-key-eq-UNKNOWN c = line_unknown _ _ _ _ c.key_of-key.ensures c.if-key-eq-SKIPPED.false c.if-key-eq-UNKNOWN.true

pub returns-then-key-eq-CHECKSUM : goal.returns-then-key-eq-CHECKSUM
returns-then-key-eq-CHECKSUM c = line_checksum _ _ _ _ c.key_of-key.ensures c.if-key-eq-SKIPPED.false c.if-key-eq-UNKNOWN.false c.if-key-eq-CHECKSUM.true

pub returns-then-first-number : goal.returns-then-first-number
returns-then-first-number c = line_again _ _ _ _ c.key_of-key.ensures c.if-key-eq-SKIPPED.false c.if-key-eq-UNKNOWN.false c.if-key-eq-CHECKSUM.false _ (c.unwrap_or-first.ensures ∙ ap or_0 c.line_of.ensures) c.if-first-number.true

pub returns : goal.returns
returns c = c.fault_of_value.ensures ∙ ap (fault_of_value _) c.value_in.ensures ∙ line_value _ _ _ _ c.key_of-key.ensures c.if-key-eq-SKIPPED.false c.if-key-eq-UNKNOWN.false c.if-key-eq-CHECKSUM.false _ (c.unwrap_or-first.ensures ∙ ap or_0 c.line_of.ensures) c.if-first-number.false
