-- No second answer: two answers, and two buffers, that meet a public function's contract for one input are the same. Assumes nothing.
use mathlib.Core.Path.{◌≡◌, sym, ◌∙◌}
use Rattle.rules.proofs.Verdicts
use Rattle.edition.proofs.Rows
use Rattle.card.proofs.Forms
use Rattle.ground_parts.proofs.byte_at.Reads as byte_at
use Rattle.ground_parts.proofs.count_same.Reads as count_same
use Rattle.ground_parts.proofs.is_same.Reads as is_same
use Rattle.ground_room.proofs.put.Reads as put
use Rattle.ground_room.proofs.put_byte.Reads as put_byte
use Rattle.ground_room.proofs.fill.Reads as fill
use Rattle.ground_digits.proofs.put_hex.Reads as put-hex
use Rattle.ground_digits.proofs.put_decimal.Reads as put-decimal
use Rattle.lengths.proofs.FieldError.number.Reads as lengths-number
use Rattle.lengths_read.proofs.told.Reads as lengths-told
use Rattle.lengths_read.proofs.read_length.Reads as lengths-read-length
use Rattle.lengths_put.proofs.put_length.Reads as put-length
use Rattle.edition.proofs.Edition.terminal.Reads as terminal
use Rattle.edition.proofs.Edition.issue.Reads as issue
use Rattle.edition.proofs.Edition.formed.Reads as formed
use Rattle.edition_tags.proofs.tag_of.Reads as tag_of
use Rattle.edition_lengths.proofs.permits.Reads as permits
use Rattle.edition_lengths.proofs.shortest.Reads as shortest
use Rattle.edition_lengths.proofs.longest.Reads as longest
use Rattle.rules_sense.proofs.is_plain.Reads as is_plain
use Rattle.rules_sense.proofs.holds_for.Reads as holds-for
use Rattle.rules_judge.proofs.judge.Reads as judge
use Rattle.rules_kinds.proofs.kinds.Reads as kinds
use Rattle.rules_kinds.proofs.judge_by.Reads as judge-by
use Rattle.card.proofs.Record.empty.Reads as empty
use Rattle.card.proofs.Refusal.new.Reads as new
use Rattle.card.proofs.Refusal.of_length.Reads as of_length
use Rattle.card.proofs.Refusal.none.Reads as none
use Rattle.card_editions.proofs.refuse_edition.Reads as refuse-edition
use Rattle.card_ends.proofs.allows_first.Reads as allows-first
use Rattle.card_ends.proofs.allows_last.Reads as allows-last
use Rattle.card_ends.proofs.count_spaces.Reads as count-spaces
use Rattle.card_checksum.proofs.checksum.Reads as checksum
use Rattle.card_fields.proofs.read_length.Reads as read_length
use Rattle.card_sums.proofs.check_sums.Reads as check-sums
use Rattle.card.proofs.Places.refused.Reads as places_refused
use Rattle.frame_front.proofs.check_front.Reads as check-front
use Rattle.frame_tail.proofs.count_tail.Reads as count-tail
use Rattle.frame_parts.proofs.number_tail.Reads as number-tail
use Rattle.objects_list.proofs.list_objects.Reads as list-objects
use Rattle.reader_places.proofs.places.Reads as places
use Rattle.reader.proofs.read.Reads as read
use Rattle.shipped_tables.proofs.lent_edition.Reads as lent_edition_lem
use Rattle.reader_places.proofs.places_lent.Reads as places-lent
use Rattle.checks.proofs.check.Reads as check
use Rattle.checks.proofs.check_lent.Reads as check-lent
use Rattle.checks.proofs.check_content.Reads as check-content
use Rattle.renumber.proofs.renumber.Reads as renumber
use Rattle.checks.proofs.objects_size.Reads as objects-size
use Rattle.object_sizes.proofs.lengths_of.Reads as lengths-of
use Rattle.object_sizes.proofs.size_of.Reads as type_size
use Rattle.object_sizes.proofs.check_sizes.Reads as check-sizes
use Rattle.writer.proofs.write.Reads as write
use Rattle.writer.proofs.write_lent.Reads as write-lent
use Rattle.listing.proofs.list.Reads as list
use Rattle.wire_tables.proofs.edition_of.Reads as edition-of
use Rattle.wire_tables.proofs.write_table.Reads as write-table
use Rattle.wire_records.proofs.record_of.Reads as record_of
use Rattle.wire_records.proofs.write_record.Reads as write-record
use Rattle.wire.proofs.pack.Reads as pack
use Rattle.calls_read.proofs.read.Reads as calls-read
use Rattle.kvk.proofs.kvk_read.Reads as kvk-read
use Rattle.calls_write.proofs.write.Reads as calls-write
use Rattle.kvk.proofs.kvk_write.Reads as kvk-write
use Rattle.calls_renumber.proofs.renumber.Reads as calls-renumber
use Rattle.kvk.proofs.kvk_renumber.Reads as kvk-renumber
use Rattle.calls_shipped.proofs.edition.Reads as calls-edition
use Rattle.kvk.proofs.kvk_edition.Reads as kvk-edition
use Rattle.calls_foreign.proofs.length.Reads as calls-length
use Rattle.kvk.proofs.kvk_length.Reads as kvk-length

-- `Post` is what a contract ensures: of the lifetimes, the arguments, the answer, and what is lent back at exit
pub byte_at_once : (κs : _) (a : _) (z y : _) (e f : _) → byte_at.Post κs a z e → byte_at.Post κs a y f → z ≡ y
byte_at_once κs a z y e f p q = p ∙ sym q

pub count_same_once : (κs : _) (a : _) (z y : _) (e f : _) → count_same.Post κs a z e → count_same.Post κs a y f → z ≡ y
count_same_once κs a z y e f p q = p ∙ sym q

pub is_same_once : (κs : _) (a : _) (z y : _) (e f : _) → is_same.Post κs a z e → is_same.Post κs a y f → z ≡ y
is_same_once κs a z y e f p q = p ∙ sym q

pub terminal_once : (κs : _) (a : _) (z y : _) (e f : _) → terminal.Post κs a z e → terminal.Post κs a y f → z ≡ y
terminal_once κs a z y e f p q = p ∙ sym q

pub issue_once : (κs : _) (a : _) (z y : _) (e f : _) → issue.Post κs a z e → issue.Post κs a y f → z ≡ y
issue_once κs a z y e f p q = p ∙ sym q

pub tag_of_once : (κs : _) (a : _) (z y : _) (e f : _) → tag_of.Post κs a z e → tag_of.Post κs a y f → z ≡ y
tag_of_once κs a z y e f p q = p ∙ sym q

pub permits_once : (κs : _) (a : _) (z y : _) (e f : _) → permits.Post κs a z e → permits.Post κs a y f → z ≡ y
permits_once κs a z y e f p q = p ∙ sym q

pub shortest_once : (κs : _) (a : _) (z y : _) (e f : _) → shortest.Post κs a z e → shortest.Post κs a y f → z ≡ y
shortest_once κs a z y e f p q = p ∙ sym q

pub longest_once : (κs : _) (a : _) (z y : _) (e f : _) → longest.Post κs a z e → longest.Post κs a y f → z ≡ y
longest_once κs a z y e f p q = p ∙ sym q

pub empty_once : (κs : _) (a : _) (z y : _) (e f : _) → empty.Post κs a z e → empty.Post κs a y f → z ≡ y
empty_once κs a z y e f p q = p ∙ sym q

pub new_once : (κs : _) (a : _) (z y : _) (e f : _) → new.Post κs a z e → new.Post κs a y f → z ≡ y
new_once κs a z y e f p q = p ∙ sym q

pub of_length_once : (κs : _) (a : _) (z y : _) (e f : _) → of_length.Post κs a z e → of_length.Post κs a y f → z ≡ y
of_length_once κs a z y e f p q = p ∙ sym q

pub none_once : (κs : _) (a : _) (z y : _) (e f : _) → none.Post κs a z e → none.Post κs a y f → z ≡ y
none_once κs a z y e f p q = p ∙ sym q

pub refuse_edition_once : (κs : _) (a : _) (z y : _) (e f : _) → refuse-edition.Post κs a z e → refuse-edition.Post κs a y f → z ≡ y
refuse_edition_once κs a z y e f p q = p ∙ sym q

pub allows_first_once : (κs : _) (a : _) (z y : _) (e f : _) → allows-first.Post κs a z e → allows-first.Post κs a y f → z ≡ y
allows_first_once κs a z y e f p q = p ∙ sym q

pub allows_last_once : (κs : _) (a : _) (z y : _) (e f : _) → allows-last.Post κs a z e → allows-last.Post κs a y f → z ≡ y
allows_last_once κs a z y e f p q = p ∙ sym q

pub count_spaces_once : (κs : _) (a : _) (z y : _) (e f : _) → count-spaces.Post κs a z e → count-spaces.Post κs a y f → z ≡ y
count_spaces_once κs a z y e f p q = p ∙ sym q

pub checksum_once : (κs : _) (a : _) (z y : _) (e f : _) → checksum.Post κs a z e → checksum.Post κs a y f → z ≡ y
checksum_once κs a z y e f p q = p ∙ sym q

pub check_sums_once : (κs : _) (a : _) (z y : _) (e f : _) → check-sums.Post κs a z e → check-sums.Post κs a y f → z ≡ y
check_sums_once κs a z y e f p q = p ∙ sym q

pub places_refused_once : (κs : _) (a : _) (z y : _) (e f : _) → places_refused.Post κs a z e → places_refused.Post κs a y f → z ≡ y
places_refused_once κs a z y e f p q = p ∙ sym q

pub count_tail_once : (κs : _) (a : _) (z y : _) (e f : _) → count-tail.Post κs a z e → count-tail.Post κs a y f → z ≡ y
count_tail_once κs a z y e f p q = p ∙ sym q

pub number_tail_once : (κs : _) (a : _) (z y : _) (e f : _) → number-tail.Post κs a z e → number-tail.Post κs a y f → z ≡ y
number_tail_once κs a z y e f p q = p ∙ sym q

pub check_front_once : (κs : _) (a : _) (z y : _) (e f : _) → check-front.Post κs a z e → check-front.Post κs a y f → z ≡ y
check_front_once κs a z y e f p q = p ∙ sym q

-- of well-formed rows
pub list_objects_once : (κs : _) (a : _) (z y : _) (e f : _) → list-objects.Post κs a z e → list-objects.Post κs a y f → z ≡ y
list_objects_once κs a z y e f p q = p ∙ sym q

pub places_once : (κs : _) (a : _) (z y : _) (e f : _) → places.Post κs a z e → places.Post κs a y f → z ≡ y
places_once κs a z y e f p q = p ∙ sym q

pub read_once : (κs : _) (a : _) (z y : _) (e f : _) → read.Post κs a z e → read.Post κs a y f → z ≡ y
read_once κs a z y e f p q = p ∙ sym q

pub lent_edition_once : (κs : _) (a : _) (z y : _) (e f : _) → lent_edition_lem.Post κs a z e → lent_edition_lem.Post κs a y f → z ≡ y
lent_edition_once κs a z y e f p q = p ∙ sym q

pub places_lent_once : (κs : _) (a : _) (z y : _) (e f : _) → places-lent.Post κs a z e → places-lent.Post κs a y f → z ≡ y
places_lent_once κs a z y e f p q = p ∙ sym q

pub check_once : (κs : _) (a : _) (z y : _) (e f : _) → check.Post κs a z e → check.Post κs a y f → z ≡ y
check_once κs a z y e f p q = p ∙ sym q

pub check_lent_once : (κs : _) (a : _) (z y : _) (e f : _) → check-lent.Post κs a z e → check-lent.Post κs a y f → z ≡ y
check_lent_once κs a z y e f p q = p ∙ sym q

pub check_content_once : (κs : _) (a : _) (z y : _) (e f : _) → check-content.Post κs a z e → check-content.Post κs a y f → z ≡ y
check_content_once κs a z y e f p q = p ∙ sym q

pub renumber_once : (κs : _) (a : _) (z y : _) (e f : _) → renumber.Post κs a z e → renumber.Post κs a y f → z ≡ y
renumber_once κs a z y e f p q = p ∙ sym q

pub objects_size_once : (κs : _) (a : _) (z y : _) (e f : _) → objects-size.Post κs a z e → objects-size.Post κs a y f → z ≡ y
objects_size_once κs a z y e f p q = p.1 ∙ sym q.1

pub lengths_of_once : (κs : _) (a : _) (z y : _) (e f : _) → lengths-of.Post κs a z e → lengths-of.Post κs a y f → z ≡ y
lengths_of_once κs a z y e f p q = p ∙ sym q

pub size_of_once : (κs : _) (a : _) (z y : _) (e f : _) → type_size.Post κs a z e → type_size.Post κs a y f → z ≡ y
size_of_once κs a z y e f p q = p.1 ∙ sym q.1

pub check_sizes_once : (κs : _) (a : _) (z y : _) (e f : _) → check-sizes.Post κs a z e → check-sizes.Post κs a y f → z ≡ y
check_sizes_once κs a z y e f p q = p ∙ sym q

pub edition_of_once : (κs : _) (a : _) (z y : _) (e f : _) → edition-of.Post κs a z e → edition-of.Post κs a y f → z ≡ y
edition_of_once κs a z y e f p q = p ∙ sym q

pub record_of_once : (κs : _) (a : _) (z y : _) (e f : _) → record_of.Post κs a z e → record_of.Post κs a y f → z ≡ y
record_of_once κs a z y e f p q = p ∙ sym q

pub pack_once : (κs : _) (a : _) (z y : _) (e f : _) → pack.Post κs a z e → pack.Post κs a y f → z ≡ y
pack_once κs a z y e f p q = p ∙ sym q

-- an enum that is told alike is the same
pub formed_once : (κs : _) (a : _) (z y : _) (e f : _) → formed.Post κs a z e → formed.Post κs a y f → z ≡ y
formed_once κs a z y e f p q = Rows.told_apart z y (p ∙ sym q)

pub is_plain_once : (κs : _) (a : _) (z y : _) (e f : _) → is_plain.Post κs a z e → is_plain.Post κs a y f → z ≡ y
is_plain_once κs a z y e f p q = p ∙ sym q

pub holds_for_once : (κs : _) (a : _) (z y : _) (e f : _) → holds-for.Post κs a z e → holds-for.Post κs a y f → z ≡ y
holds_for_once κs a z y e f p q = p ∙ sym q

pub judge_once : (κs : _) (a : _) (z y : _) (e f : _) → judge.Post κs a z e → judge.Post κs a y f → z ≡ y
judge_once κs a z y e f p q = Verdicts.told_apart z y (p ∙ sym q)

pub kinds_once : (κs : _) (a : _) (z y : _) (e f : _) → kinds.Post κs a z e → kinds.Post κs a y f → z ≡ y
kinds_once κs a z y e f p q = p ∙ sym q

pub judge_by_once : (κs : _) (a : _) (z y : _) (e f : _) → judge-by.Post κs a z e → judge-by.Post κs a y f → z ≡ y
judge_by_once κs a z y e f p q = Verdicts.told_apart z y (p ∙ sym q)

pub read_length_once : (κs : _) (a : _) (z y : _) (e f : _) → read_length.Post κs a z e → read_length.Post κs a y f → z ≡ y
read_length_once κs a z y e f p q = Forms.told_apart z y (p ∙ sym q)

-- an answer and a buffer
pub write_once : (κs : _) (a : _) (z y : _) (e f : _) → write.Post κs a z e → write.Post κs a y f → z ≡ y
write_once κs a z y e f p q = p.0 ∙ sym q.0

pub write_buffer_once : (κs : _) (a : _) (z y : _) (e f : _) → write.Post κs a z e → write.Post κs a y f → e.1.1.0.now ≡ f.1.1.0.now
write_buffer_once κs a z y e f p q = p.1 ∙ sym q.1

pub write_lent_once : (κs : _) (a : _) (z y : _) (e f : _) → write-lent.Post κs a z e → write-lent.Post κs a y f → z ≡ y
write_lent_once κs a z y e f p q = p.0 ∙ sym q.0

pub write_lent_buffer_once : (κs : _) (a : _) (z y : _) (e f : _) → write-lent.Post κs a z e → write-lent.Post κs a y f → e.1.1.0.now ≡ f.1.1.0.now
write_lent_buffer_once κs a z y e f p q = p.1 ∙ sym q.1

pub write_table_room_once : (κs : _) (a : _) (z y : _) (e f : _) → write-table.Post κs a z e → write-table.Post κs a y f → e.1.0.now ≡ f.1.0.now
write_table_room_once κs a z y e f p q = p ∙ sym q

pub write_record_room_once : (κs : _) (a : _) (z y : _) (e f : _) → write-record.Post κs a z e → write-record.Post κs a y f → e.1.0.now ≡ f.1.0.now
write_record_room_once κs a z y e f p q = p.0 ∙ sym q.0

pub put_once : (κs : _) (a : _) (z y : _) (e f : _) → put.Post κs a z e → put.Post κs a y f → z ≡ y
put_once κs a z y e f p q = p.0 ∙ sym q.0

pub put_room_once : (κs : _) (a : _) (z y : _) (e f : _) → put.Post κs a z e → put.Post κs a y f → e.0.now ≡ f.0.now
put_room_once κs a z y e f p q = p.1 ∙ sym q.1

pub put_byte_once : (κs : _) (a : _) (z y : _) (e f : _) → put_byte.Post κs a z e → put_byte.Post κs a y f → z ≡ y
put_byte_once κs a z y e f p q = p.0 ∙ sym q.0

pub put_byte_room_once : (κs : _) (a : _) (z y : _) (e f : _) → put_byte.Post κs a z e → put_byte.Post κs a y f → e.0.now ≡ f.0.now
put_byte_room_once κs a z y e f p q = p.1 ∙ sym q.1

pub fill_once : (κs : _) (a : _) (z y : _) (e f : _) → fill.Post κs a z e → fill.Post κs a y f → z ≡ y
fill_once κs a z y e f p q = p.0 ∙ sym q.0

pub fill_room_once : (κs : _) (a : _) (z y : _) (e f : _) → fill.Post κs a z e → fill.Post κs a y f → e.0.now ≡ f.0.now
fill_room_once κs a z y e f p q = p.1 ∙ sym q.1

pub put_hex_once : (κs : _) (a : _) (z y : _) (e f : _) → put-hex.Post κs a z e → put-hex.Post κs a y f → z ≡ y
put_hex_once κs a z y e f p q = p.0 ∙ sym q.0

pub put_hex_room_once : (κs : _) (a : _) (z y : _) (e f : _) → put-hex.Post κs a z e → put-hex.Post κs a y f → e.0.now ≡ f.0.now
put_hex_room_once κs a z y e f p q = p.1 ∙ sym q.1

pub put_decimal_once : (κs : _) (a : _) (z y : _) (e f : _) → put-decimal.Post κs a z e → put-decimal.Post κs a y f → z ≡ y
put_decimal_once κs a z y e f p q = p.0 ∙ sym q.0

pub put_decimal_room_once : (κs : _) (a : _) (z y : _) (e f : _) → put-decimal.Post κs a z e → put-decimal.Post κs a y f → e.0.now ≡ f.0.now
put_decimal_room_once κs a z y e f p q = p.1 ∙ sym q.1

pub kvk_read_once : (κs : _) (a : _) (z y : _) (e f : _) → kvk-read.Post κs a z e → kvk-read.Post κs a y f → z ≡ y
kvk_read_once κs a z y e f p q = p.0 ∙ sym q.0

pub calls_read_once : (κs : _) (a : _) (z y : _) (e f : _) → calls-read.Post κs a z e → calls-read.Post κs a y f → z ≡ y
calls_read_once κs a z y e f p q = p.0 ∙ sym q.0

pub kvk_read_room_once : (κs : _) (a : _) (z y : _) (e f : _) → kvk-read.Post κs a z e → kvk-read.Post κs a y f → e.1.1.0.now ≡ f.1.1.0.now
kvk_read_room_once κs a z y e f p q = p.1 ∙ sym q.1

pub calls_read_room_once : (κs : _) (a : _) (z y : _) (e f : _) → calls-read.Post κs a z e → calls-read.Post κs a y f → e.1.1.0.now ≡ f.1.1.0.now
calls_read_room_once κs a z y e f p q = p.1 ∙ sym q.1

pub kvk_write_once : (κs : _) (a : _) (z y : _) (e f : _) → kvk-write.Post κs a z e → kvk-write.Post κs a y f → z ≡ y
kvk_write_once κs a z y e f p q = p.0 ∙ sym q.0

pub calls_write_once : (κs : _) (a : _) (z y : _) (e f : _) → calls-write.Post κs a z e → calls-write.Post κs a y f → z ≡ y
calls_write_once κs a z y e f p q = p.0 ∙ sym q.0

pub kvk_write_room_once : (κs : _) (a : _) (z y : _) (e f : _) → kvk-write.Post κs a z e → kvk-write.Post κs a y f → e.1.1.0.now ≡ f.1.1.0.now
kvk_write_room_once κs a z y e f p q = p.1 ∙ sym q.1

pub calls_write_room_once : (κs : _) (a : _) (z y : _) (e f : _) → calls-write.Post κs a z e → calls-write.Post κs a y f → e.1.1.0.now ≡ f.1.1.0.now
calls_write_room_once κs a z y e f p q = p.1 ∙ sym q.1

pub kvk_renumber_once : (κs : _) (a : _) (z y : _) (e f : _) → kvk-renumber.Post κs a z e → kvk-renumber.Post κs a y f → z ≡ y
kvk_renumber_once κs a z y e f p q = p.0 ∙ sym q.0

pub calls_renumber_once : (κs : _) (a : _) (z y : _) (e f : _) → calls-renumber.Post κs a z e → calls-renumber.Post κs a y f → z ≡ y
calls_renumber_once κs a z y e f p q = p.0 ∙ sym q.0

pub kvk_renumber_room_once : (κs : _) (a : _) (z y : _) (e f : _) → kvk-renumber.Post κs a z e → kvk-renumber.Post κs a y f → e.1.0.now ≡ f.1.0.now
kvk_renumber_room_once κs a z y e f p q = p.1 ∙ sym q.1

pub calls_renumber_room_once : (κs : _) (a : _) (z y : _) (e f : _) → calls-renumber.Post κs a z e → calls-renumber.Post κs a y f → e.1.0.now ≡ f.1.0.now
calls_renumber_room_once κs a z y e f p q = p.1 ∙ sym q.1

pub kvk_edition_once : (κs : _) (a : _) (z y : _) (e f : _) → kvk-edition.Post κs a z e → kvk-edition.Post κs a y f → z ≡ y
kvk_edition_once κs a z y e f p q = p.0 ∙ sym q.0

pub calls_edition_once : (κs : _) (a : _) (z y : _) (e f : _) → calls-edition.Post κs a z e → calls-edition.Post κs a y f → z ≡ y
calls_edition_once κs a z y e f p q = p.0 ∙ sym q.0

pub kvk_edition_room_once : (κs : _) (a : _) (z y : _) (e f : _) → kvk-edition.Post κs a z e → kvk-edition.Post κs a y f → e.1.0.now ≡ f.1.0.now
kvk_edition_room_once κs a z y e f p q = p.1 ∙ sym q.1

pub calls_edition_room_once : (κs : _) (a : _) (z y : _) (e f : _) → calls-edition.Post κs a z e → calls-edition.Post κs a y f → e.1.0.now ≡ f.1.0.now
calls_edition_room_once κs a z y e f p q = p.1 ∙ sym q.1

pub list_once : (κs : _) (a : _) (z y : _) (e f : _) → list.Post κs a z e → list.Post κs a y f → z ≡ y
list_once κs a z y e f p q = p.0 ∙ sym q.0

pub list_room_once : (κs : _) (a : _) (z y : _) (e f : _) → list.Post κs a z e → list.Post κs a y f → e.1.1.0.now ≡ f.1.1.0.now
list_room_once κs a z y e f p q = p.1.0 ∙ sym q.1.0

-- ---- foreign cards
pub lengths_told_once : (κs : _) (a : _) (z y : _) (e f : _) → lengths-told.Post κs a z e → lengths-told.Post κs a y f → z ≡ y
lengths_told_once κs a z y e f p q = p ∙ sym q

pub lengths_number_once : (κs : _) (a : _) (z y : _) (e f : _) → lengths-number.Post κs a z e → lengths-number.Post κs a y f → z ≡ y
lengths_number_once κs a z y e f p q = p ∙ sym q

pub lengths_read_length_once : (κs : _) (a : _) (z y : _) (e f : _) → lengths-read-length.Post κs a z e → lengths-read-length.Post κs a y f → z ≡ y
lengths_read_length_once κs a z y e f p q = p.0 ∙ sym q.0

pub put_length_once : (κs : _) (a : _) (z y : _) (e f : _) → put-length.Post κs a z e → put-length.Post κs a y f → z ≡ y
put_length_once κs a z y e f p q = p.0 ∙ sym q.0

pub put_length_room_once : (κs : _) (a : _) (z y : _) (e f : _) → put-length.Post κs a z e → put-length.Post κs a y f → e.0.now ≡ f.0.now
put_length_room_once κs a z y e f p q = p.1 ∙ sym q.1

pub kvk_length_once : (κs : _) (a : _) (z y : _) (e f : _) → kvk-length.Post κs a z e → kvk-length.Post κs a y f → z ≡ y
kvk_length_once κs a z y e f p q = p ∙ sym q

pub calls_length_once : (κs : _) (a : _) (z y : _) (e f : _) → calls-length.Post κs a z e → calls-length.Post κs a y f → z ≡ y
calls_length_once κs a z y e f p q = p ∙ sym q
