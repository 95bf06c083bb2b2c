-- `text_values::fault_of_value`: letters for an object, hex digits for the others. Assumes nothing.
use Rattle.card_text.proofs.Told.{fault_letter, no_fault_letter, fault_hex, no_fault_hex}
use Rattle.text_values.proofs.fault_of_value.Goals as goal

pub returns-then-count_letters-value : goal.returns-then-count_letters-value
returns-then-count_letters-value c = fault_letter _ _ _ c.count_letters.ensures c.if-key-lt-FIRST.true c.if-count_letters-value.true

pub returns-then-key-lt-FIRST : goal.returns-then-key-lt-FIRST
returns-then-key-lt-FIRST c = no_fault_letter _ _ _ c.count_letters.ensures c.if-key-lt-FIRST.true c.if-count_letters-value.false

pub returns-then-is_hex : goal.returns-then-is_hex
returns-then-is_hex c = no_fault_hex _ _ _ c.digits_due.ensures _ c.is_hex.ensures c.if-key-lt-FIRST.false c.if-is_hex.true

pub returns-else-is_hex : goal.returns-else-is_hex
returns-else-is_hex c = fault_hex _ _ _ c.digits_due.ensures _ c.is_hex.ensures c.if-key-lt-FIRST.false c.if-is_hex.false
