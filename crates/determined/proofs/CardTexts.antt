-- No second answer of a card as text, stated as in `Determined`. Assumes nothing.
use mathlib.Core.Path.{◌≡◌, sym, ◌∙◌}
use Rattle.line_ends.proofs.find.Reads as find
use Rattle.line_ends.proofs.feed_from.Reads as feed-from
use Rattle.line_trims.proofs.trimmed.Reads as trimmed
use Rattle.named_keys.proofs.key_named.Reads as key-named
use Rattle.line_keys.proofs.key_of.Reads as key_of
use Rattle.line_values.proofs.value_in.Reads as value_in
use Rattle.line_names.proofs.put_line.Reads as put-line
use Rattle.line_names.proofs.put_name.Reads as put-name
use Rattle.text_hex.proofs.digit_value.Reads as hex-digit-value
use Rattle.text_hex.proofs.is_hex.Reads as is-hex
use Rattle.text_hex.proofs.byte_at.Reads as hex-byte-at
use Rattle.text_entries.proofs.line_of.Reads as Line-of
use Rattle.text_entries.proofs.value.Reads as value
use Rattle.text_values.proofs.count_letters.Reads as count-letters
use Rattle.text_values.proofs.fault_of_value.Reads as fault-of-value
use Rattle.text_checks.proofs.check.Reads as check
use Rattle.text_objects.proofs.objects_of.Reads as objects-of
use Rattle.text_records.proofs.record_of.Reads as record_of

pub feed_from_once : (κs : _) (a : _) (z y : _) (e f : _) → feed-from.Post κs a z e → feed-from.Post κs a y f → z ≡ y
feed_from_once κs a z y e f p q = p.0 ∙ sym q.0

pub key_of_once : (κs : _) (a : _) (z y : _) (e f : _) → key_of.Post κs a z e → key_of.Post κs a y f → z ≡ y
key_of_once κs a z y e f p q = p ∙ sym q

pub value_in_once : (κs : _) (a : _) (z y : _) (e f : _) → value_in.Post κs a z e → value_in.Post κs a y f → z.now ≡ y.now
value_in_once κs a z y e f p q = p ∙ sym q

pub put_name_once : (κs : _) (a : _) (z y : _) (e f : _) → put-name.Post κs a z e → put-name.Post κs a y f → z ≡ y
put_name_once κs a z y e f p q = p.0 ∙ sym q.0

pub put_name_room_once : (κs : _) (a : _) (z y : _) (e f : _) → put-name.Post κs a z e → put-name.Post κs a y f → e.0.now ≡ f.0.now
put_name_room_once κs a z y e f p q = p.1 ∙ sym q.1

pub line_of_once : (κs : _) (a : _) (z y : _) (e f : _) → Line-of.Post κs a z e → Line-of.Post κs a y f → z ≡ y
line_of_once κs a z y e f p q = p ∙ sym q

pub text_value_once : (κs : _) (a : _) (z y : _) (e f : _) → value.Post κs a z e → value.Post κs a y f → z.now ≡ y.now
text_value_once κs a z y e f p q = p ∙ sym q

pub text_check_once : (κs : _) (a : _) (z y : _) (e f : _) → check.Post κs a z e → check.Post κs a y f → z ≡ y
text_check_once κs a z y e f p q = p ∙ sym q

pub text_record_once : (κs : _) (a : _) (z y : _) (e f : _) → record_of.Post κs a z e → record_of.Post κs a y f → z ≡ y
text_record_once κs a z y e f p q = p ∙ sym q

pub find_once : (κs : _) (a : _) (z y : _) (e f : _) → find.Post κs a z e → find.Post κs a y f → z ≡ y
find_once κs a z y e f p q = p.0 ∙ sym q.0

pub trimmed_once : (κs : _) (a : _) (z y : _) (e f : _) → trimmed.Post κs a z e → trimmed.Post κs a y f → z.now ≡ y.now
trimmed_once κs a z y e f p q = p ∙ sym q

pub key_named_once : (κs : _) (a : _) (z y : _) (e f : _) → key-named.Post κs a z e → key-named.Post κs a y f → z ≡ y
key_named_once κs a z y e f p q = p ∙ sym q

pub hex_digit_value_once : (κs : _) (a : _) (z y : _) (e f : _) → hex-digit-value.Post κs a z e → hex-digit-value.Post κs a y f → z ≡ y
hex_digit_value_once κs a z y e f p q = p.0 ∙ sym q.0

pub is_hex_once : (κs : _) (a : _) (z y : _) (e f : _) → is-hex.Post κs a z e → is-hex.Post κs a y f → z ≡ y
is_hex_once κs a z y e f p q = p ∙ sym q

pub hex_byte_at_once : (κs : _) (a : _) (z y : _) (e f : _) → hex-byte-at.Post κs a z e → hex-byte-at.Post κs a y f → z ≡ y
hex_byte_at_once κs a z y e f p q = p ∙ sym q

pub count_letters_once : (κs : _) (a : _) (z y : _) (e f : _) → count-letters.Post κs a z e → count-letters.Post κs a y f → z ≡ y
count_letters_once κs a z y e f p q = p ∙ sym q

pub fault_of_value_once : (κs : _) (a : _) (z y : _) (e f : _) → fault-of-value.Post κs a z e → fault-of-value.Post κs a y f → z ≡ y
fault_of_value_once κs a z y e f p q = p ∙ sym q

pub text_objects_once : (κs : _) (a : _) (z y : _) (e f : _) → objects-of.Post κs a z e → objects-of.Post κs a y f → z ≡ y
text_objects_once κs a z y e f p q = p ∙ sym q

pub put_line_once : (κs : _) (a : _) (z y : _) (e f : _) → put-line.Post κs a z e → put-line.Post κs a y f → z ≡ y
put_line_once κs a z y e f p q = p.0 ∙ sym q.0

pub put_line_room_once : (κs : _) (a : _) (z y : _) (e f : _) → put-line.Post κs a z e → put-line.Post κs a y f → e.0.now ≡ f.0.now
put_line_room_once κs a z y e f p q = p.1 ∙ sym q.1
