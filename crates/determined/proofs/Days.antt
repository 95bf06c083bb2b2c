-- No second answer of the day file, stated as in `Determined`. Assumes nothing.
use mathlib.Core.Path.{◌≡◌, sym, ◌∙◌}
use Rattle.day_index.proofs.is_below.Reads as is_below
use Rattle.day_index.proofs.put.Reads as put_entry
use Rattle.day_cards.proofs.entry_of.Reads as entry_of
use Rattle.day_cards.proofs.card_at.Reads as card_at
use Rattle.day_told.proofs.count_in.Reads as count-in
use Rattle.day_told.proofs.or_else.Reads as or_else
use Rattle.day_told.proofs.answer_of.Reads as answer-of
use Rattle.day_limits.proofs.refuse_position.Reads as refuse-position
use Rattle.day_limits.proofs.refuse_more.Reads as refuse-more
use Rattle.day_limits.proofs.refuse_room.Reads as refuse-room
use Rattle.day_trailer.proofs.is_framed.Reads as is_framed
use Rattle.day_trailer.proofs.close.Reads as close-file
use Rattle.day_search.proofs.first_of.Reads as first_of
use Rattle.day_many.proofs.refuse_many.Reads as refuse-many
use Rattle.day_gather.proofs.gather.Reads as gather
use Rattle.day_check.proofs.check.Reads as check-file
use Rattle.day_read.proofs.count.Reads as day-count
use Rattle.day_read.proofs.image_start.Reads as day-image-start
use Rattle.day_read.proofs.image_at.Reads as day-image-at
use Rattle.day_find.proofs.find.Reads as day-find
use Rattle.day_add.proofs.add.Reads as day-add
use Rattle.day_build.proofs.build.Reads as day-build
use Rattle.calls_days.proofs.day_count.Reads as calls-day-count
use Rattle.kvk.proofs.kvk_day_count.Reads as kvk-day-count
use Rattle.calls_days.proofs.day_image.Reads as calls-day-image
use Rattle.kvk.proofs.kvk_day_image.Reads as kvk-day-image
use Rattle.calls_days.proofs.day_find.Reads as calls-day-find
use Rattle.kvk.proofs.kvk_day_find.Reads as kvk-day-find
use Rattle.calls_days.proofs.day_add.Reads as calls-day-add
use Rattle.kvk.proofs.kvk_day_add.Reads as kvk-day-add
use Rattle.calls_days.proofs.day_build.Reads as calls-day-build
use Rattle.kvk.proofs.kvk_day_build.Reads as kvk-day-build

-- the day file
pub is_below_once : (κs : _) (a : _) (z y : _) (e f : _) → is_below.Post κs a z e → is_below.Post κs a y f → z ≡ y
is_below_once κs a z y e f p q = p ∙ sym q

pub put_entry_room_once : (κs : _) (a : _) (z y : _) (e f : _) → put_entry.Post κs a z e → put_entry.Post κs a y f → e.0.now ≡ f.0.now
put_entry_room_once κs a z y e f p q = p ∙ sym q

pub entry_of_once : (κs : _) (a : _) (z y : _) (e f : _) → entry_of.Post κs a z e → entry_of.Post κs a y f → z ≡ y
entry_of_once κs a z y e f p q = p ∙ sym q

pub card_at_once : (κs : _) (a : _) (z y : _) (e f : _) → card_at.Post κs a z e → card_at.Post κs a y f → z ≡ y
card_at_once κs a z y e f p q = p ∙ sym q

pub count_in_once : (κs : _) (a : _) (z y : _) (e f : _) → count-in.Post κs a z e → count-in.Post κs a y f → z ≡ y
count_in_once κs a z y e f p q = p ∙ sym q

pub or_else_once : (κs : _) (a : _) (z y : _) (e f : _) → or_else.Post κs a z e → or_else.Post κs a y f → z ≡ y
or_else_once κs a z y e f p q = p ∙ sym q

pub answer_of_once : (κs : _) (a : _) (z y : _) (e f : _) → answer-of.Post κs a z e → answer-of.Post κs a y f → z ≡ y
answer_of_once κs a z y e f p q = p ∙ sym q

pub refuse_position_once : (κs : _) (a : _) (z y : _) (e f : _) → refuse-position.Post κs a z e → refuse-position.Post κs a y f → z ≡ y
refuse_position_once κs a z y e f p q = p ∙ sym q

pub refuse_more_once : (κs : _) (a : _) (z y : _) (e f : _) → refuse-more.Post κs a z e → refuse-more.Post κs a y f → z ≡ y
refuse_more_once κs a z y e f p q = p ∙ sym q

pub refuse_room_once : (κs : _) (a : _) (z y : _) (e f : _) → refuse-room.Post κs a z e → refuse-room.Post κs a y f → z ≡ y
refuse_room_once κs a z y e f p q = p ∙ sym q

pub is_framed_once : (κs : _) (a : _) (z y : _) (e f : _) → is_framed.Post κs a z e → is_framed.Post κs a y f → z ≡ y
is_framed_once κs a z y e f p q = p ∙ sym q

pub close_file_room_once : (κs : _) (a : _) (z y : _) (e f : _) → close-file.Post κs a z e → close-file.Post κs a y f → e.0.now ≡ f.0.now
close_file_room_once κs a z y e f p q = p ∙ sym q

pub first_of_once : (κs : _) (a : _) (z y : _) (e f : _) → first_of.Post κs a z e → first_of.Post κs a y f → z ≡ y
first_of_once κs a z y e f p q = p ∙ sym q

pub refuse_many_once : (κs : _) (a : _) (z y : _) (e f : _) → refuse-many.Post κs a z e → refuse-many.Post κs a y f → z ≡ y
refuse_many_once κs a z y e f p q = p ∙ sym q

pub gather_once : (κs : _) (a : _) (z y : _) (e f : _) → gather.Post κs a z e → gather.Post κs a y f → z ≡ y
gather_once κs a z y e f p q = p.0 ∙ sym q.0

pub gather_room_once : (κs : _) (a : _) (z y : _) (e f : _) → gather.Post κs a z e → gather.Post κs a y f → e.1.0.now ≡ f.1.0.now
gather_room_once κs a z y e f p q = p.1.0 ∙ sym q.1.0

pub check_file_once : (κs : _) (a : _) (z y : _) (e f : _) → check-file.Post κs a z e → check-file.Post κs a y f → z ≡ y
check_file_once κs a z y e f p q = p ∙ sym q

pub day_count_once : (κs : _) (a : _) (z y : _) (e f : _) → day-count.Post κs a z e → day-count.Post κs a y f → z ≡ y
day_count_once κs a z y e f p q = p ∙ sym q

pub day_image_start_once : (κs : _) (a : _) (z y : _) (e f : _) → day-image-start.Post κs a z e → day-image-start.Post κs a y f → z ≡ y
day_image_start_once κs a z y e f p q = p ∙ sym q

pub day_image_at_once : (κs : _) (a : _) (z y : _) (e f : _) → day-image-at.Post κs a z e → day-image-at.Post κs a y f → z.now ≡ y.now
day_image_at_once κs a z y e f p q = p ∙ sym q

pub day_find_once : (κs : _) (a : _) (z y : _) (e f : _) → day-find.Post κs a z e → day-find.Post κs a y f → z ≡ y
day_find_once κs a z y e f p q = p ∙ sym q

pub day_add_once : (κs : _) (a : _) (z y : _) (e f : _) → day-add.Post κs a z e → day-add.Post κs a y f → z ≡ y
day_add_once κs a z y e f p q = p.0 ∙ sym q.0

pub day_add_room_once : (κs : _) (a : _) (z y : _) (e f : _) → day-add.Post κs a z e → day-add.Post κs a y f → e.1.1.0.now ≡ f.1.1.0.now
day_add_room_once κs a z y e f p q = p.1 ∙ sym q.1

pub day_build_once : (κs : _) (a : _) (z y : _) (e f : _) → day-build.Post κs a z e → day-build.Post κs a y f → z ≡ y
day_build_once κs a z y e f p q = p.0 ∙ sym q.0

pub day_build_room_once : (κs : _) (a : _) (z y : _) (e f : _) → day-build.Post κs a z e → day-build.Post κs a y f → e.1.0.now ≡ f.1.0.now
day_build_room_once κs a z y e f p q = p.1 ∙ sym q.1

pub kvk_day_count_once : (κs : _) (a : _) (z y : _) (e f : _) → kvk-day-count.Post κs a z e → kvk-day-count.Post κs a y f → z ≡ y
kvk_day_count_once κs a z y e f p q = p ∙ sym q

pub calls_day_count_once : (κs : _) (a : _) (z y : _) (e f : _) → calls-day-count.Post κs a z e → calls-day-count.Post κs a y f → z ≡ y
calls_day_count_once κs a z y e f p q = p ∙ sym q

pub kvk_day_image_once : (κs : _) (a : _) (z y : _) (e f : _) → kvk-day-image.Post κs a z e → kvk-day-image.Post κs a y f → z ≡ y
kvk_day_image_once κs a z y e f p q = p ∙ sym q

pub calls_day_image_once : (κs : _) (a : _) (z y : _) (e f : _) → calls-day-image.Post κs a z e → calls-day-image.Post κs a y f → z ≡ y
calls_day_image_once κs a z y e f p q = p ∙ sym q

pub kvk_day_find_once : (κs : _) (a : _) (z y : _) (e f : _) → kvk-day-find.Post κs a z e → kvk-day-find.Post κs a y f → z ≡ y
kvk_day_find_once κs a z y e f p q = p ∙ sym q

pub calls_day_find_once : (κs : _) (a : _) (z y : _) (e f : _) → calls-day-find.Post κs a z e → calls-day-find.Post κs a y f → z ≡ y
calls_day_find_once κs a z y e f p q = p ∙ sym q

pub kvk_day_add_once : (κs : _) (a : _) (z y : _) (e f : _) → kvk-day-add.Post κs a z e → kvk-day-add.Post κs a y f → z ≡ y
kvk_day_add_once κs a z y e f p q = p.0 ∙ sym q.0

pub calls_day_add_once : (κs : _) (a : _) (z y : _) (e f : _) → calls-day-add.Post κs a z e → calls-day-add.Post κs a y f → z ≡ y
calls_day_add_once κs a z y e f p q = p.0 ∙ sym q.0

pub kvk_day_add_room_once : (κs : _) (a : _) (z y : _) (e f : _) → kvk-day-add.Post κs a z e → kvk-day-add.Post κs a y f → e.1.1.0.now ≡ f.1.1.0.now
kvk_day_add_room_once κs a z y e f p q = p.1 ∙ sym q.1

pub calls_day_add_room_once : (κs : _) (a : _) (z y : _) (e f : _) → calls-day-add.Post κs a z e → calls-day-add.Post κs a y f → e.1.1.0.now ≡ f.1.1.0.now
calls_day_add_room_once κs a z y e f p q = p.1 ∙ sym q.1

pub kvk_day_build_once : (κs : _) (a : _) (z y : _) (e f : _) → kvk-day-build.Post κs a z e → kvk-day-build.Post κs a y f → z ≡ y
kvk_day_build_once κs a z y e f p q = p.0 ∙ sym q.0

pub calls_day_build_once : (κs : _) (a : _) (z y : _) (e f : _) → calls-day-build.Post κs a z e → calls-day-build.Post κs a y f → z ≡ y
calls_day_build_once κs a z y e f p q = p.0 ∙ sym q.0

pub kvk_day_build_room_once : (κs : _) (a : _) (z y : _) (e f : _) → kvk-day-build.Post κs a z e → kvk-day-build.Post κs a y f → e.1.0.now ≡ f.1.0.now
kvk_day_build_room_once κs a z y e f p q = p.1 ∙ sym q.1

pub calls_day_build_room_once : (κs : _) (a : _) (z y : _) (e f : _) → calls-day-build.Post κs a z e → calls-day-build.Post κs a y f → e.1.0.now ≡ f.1.0.now
calls_day_build_room_once κs a z y e f p q = p.1 ∙ sym q.1
