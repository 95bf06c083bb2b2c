-- No second answer of the printed front, stated as in `Determined`. Assumes nothing.
use mathlib.Core.Path.{◌≡◌, sym, ◌∙◌}
use Rattle.front.proofs.Signs.{signed_once}
use Rattle.front_shown.proofs.shown_addition.Reads as shown-addition
use Rattle.front_shown.proofs.shown_status.Reads as shown-status
use Rattle.front_fields.proofs.has_places.Reads as has-places
use Rattle.front_fields.proofs.put_field.Reads as put-field
use Rattle.front_fields.proofs.line_end.Reads as line-end
use Rattle.front_names.proofs.put_names.Reads as put-names
use Rattle.front_numbers.proofs.put_numbers.Reads as put-numbers
use Rattle.front_marks.proofs.has_underscores.Reads as has-underscores
use Rattle.front_checks.proofs.refuse.Reads as front-refuse
use Rattle.front_print.proofs.print.Reads as print
use Rattle.calls_seen.proofs.front.Reads as calls-front
use Rattle.kvk.proofs.kvk_front.Reads as kvk-front

pub print_once : (κs : _) (a : _) (z y : _) (e f : _) → print.Post κs a z e → print.Post κs a y f → z ≡ y
print_once κs a z y e f p q = p.0 ∙ sym q.0

pub print_room_once : (κs : _) (a : _) (z y : _) (e f : _) → print.Post κs a z e → print.Post κs a y f → e.1.1.0.now ≡ f.1.1.0.now
print_room_once κs a z y e f p q = p.1 ∙ sym q.1

pub kvk_front_once : (κs : _) (a : _) (z y : _) (e f : _) → kvk-front.Post κs a z e → kvk-front.Post κs a y f → z ≡ y
kvk_front_once κs a z y e f p q = p.0 ∙ sym q.0

pub calls_front_once : (κs : _) (a : _) (z y : _) (e f : _) → calls-front.Post κs a z e → calls-front.Post κs a y f → z ≡ y
calls_front_once κs a z y e f p q = p.0 ∙ sym q.0

pub kvk_front_room_once : (κs : _) (a : _) (z y : _) (e f : _) → kvk-front.Post κs a z e → kvk-front.Post κs a y f → e.1.1.0.now ≡ f.1.1.0.now
kvk_front_room_once κs a z y e f p q = p.1 ∙ sym q.1

pub calls_front_room_once : (κs : _) (a : _) (z y : _) (e f : _) → calls-front.Post κs a z e → calls-front.Post κs a y f → e.1.1.0.now ≡ f.1.1.0.now
calls_front_room_once κs a z y e f p q = p.1 ∙ sym q.1

-- ---- the pieces of a front: a sign is told by what it prints, a status by its object
pub shown_addition_once : (κs : _) (a : _) (z y : _) (e f : _) → shown-addition.Post κs a z e → shown-addition.Post κs a y f → z ≡ y
shown_addition_once κs a z y e f p q = signed_once z y (p ∙ sym q)

pub shown_status_once : (κs : _) (a : _) (z y : _) (e f : _) → shown-status.Post κs a z e → shown-status.Post κs a y f → z ≡ y
shown_status_once κs a z y e f p q = p.1 ∙ sym q.1

pub has_places_once : (κs : _) (a : _) (z y : _) (e f : _) → has-places.Post κs a z e → has-places.Post κs a y f → z ≡ y
has_places_once κs a z y e f p q = p ∙ sym q

pub line_end_once : (κs : _) (a : _) (z y : _) (e f : _) → line-end.Post κs a z e → line-end.Post κs a y f → z ≡ y
line_end_once κs a z y e f p q = p ∙ sym q

pub put_field_once : (κs : _) (a : _) (z y : _) (e f : _) → put-field.Post κs a z e → put-field.Post κs a y f → z ≡ y
put_field_once κs a z y e f p q = p.0 ∙ sym q.0

pub put_field_room_once : (κs : _) (a : _) (z y : _) (e f : _) → put-field.Post κs a z e → put-field.Post κs a y f → e.0.now ≡ f.0.now
put_field_room_once κs a z y e f p q = p.1 ∙ sym q.1

pub put_names_once : (κs : _) (a : _) (z y : _) (e f : _) → put-names.Post κs a z e → put-names.Post κs a y f → z ≡ y
put_names_once κs a z y e f p q = p.0 ∙ sym q.0

pub put_names_room_once : (κs : _) (a : _) (z y : _) (e f : _) → put-names.Post κs a z e → put-names.Post κs a y f → e.0.now ≡ f.0.now
put_names_room_once κs a z y e f p q = p.1 ∙ sym q.1

pub put_numbers_once : (κs : _) (a : _) (z y : _) (e f : _) → put-numbers.Post κs a z e → put-numbers.Post κs a y f → z ≡ y
put_numbers_once κs a z y e f p q = p.0 ∙ sym q.0

pub put_numbers_room_once : (κs : _) (a : _) (z y : _) (e f : _) → put-numbers.Post κs a z e → put-numbers.Post κs a y f → e.0.now ≡ f.0.now
put_numbers_room_once κs a z y e f p q = p.1 ∙ sym q.1

pub has_underscores_once : (κs : _) (a : _) (z y : _) (e f : _) → has-underscores.Post κs a z e → has-underscores.Post κs a y f → z ≡ y
has_underscores_once κs a z y e f p q = p ∙ sym q

pub front_refuse_once : (κs : _) (a : _) (z y : _) (e f : _) → front-refuse.Post κs a z e → front-refuse.Post κs a y f → z ≡ y
front_refuse_once κs a z y e f p q = p ∙ sym q
