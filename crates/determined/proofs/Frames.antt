-- No second answer of the inner pieces of the reader. Assumes nothing.
use mathlib.Core.Path.{◌≡◌, sym, ◌∙◌}
use Rattle.objects.proofs.Finds
use Rattle.frame_head.proofs.head_end.Reads as head-end
use Rattle.frame_field.proofs.read_span.Reads as read-span
use Rattle.frame_lead.proofs.lead_size.Reads as lead-size
use Rattle.frame_run.proofs.count_run.Reads as count-run
use Rattle.objects_refusals.proofs.refuse_missing.Reads as refuse-missing
use Rattle.objects_refusals.proofs.refuse.Reads as refuse-object
use Rattle.objects_refusals.proofs.refuse_rest.Reads as refuse-rest
use Rattle.objects_read.proofs.read_object.Reads as read-object
use Rattle.objects_meet.proofs.meet_row.Reads as meet-row
use Rattle.reader_end.proofs.check_end.Reads as check-end
use Rattle.reader_walk.proofs.places_under.Reads as places-under

pub head_end_once : (κs : _) (a : _) (z y : _) (e f : _) → head-end.Post κs a z e → head-end.Post κs a y f → z ≡ y
head_end_once κs a z y e f p q = p ∙ sym q

pub read_span_once : (κs : _) (a : _) (z y : _) (e f : _) → read-span.Post κs a z e → read-span.Post κs a y f → z ≡ y
read_span_once κs a z y e f p q = p ∙ sym q

pub lead_size_once : (κs : _) (a : _) (z y : _) (e f : _) → lead-size.Post κs a z e → lead-size.Post κs a y f → z ≡ y
lead_size_once κs a z y e f p q = p ∙ sym q

pub count_run_once : (κs : _) (a : _) (z y : _) (e f : _) → count-run.Post κs a z e → count-run.Post κs a y f → z ≡ y
count_run_once κs a z y e f p q = p ∙ sym q

pub refuse_missing_once : (κs : _) (a : _) (z y : _) (e f : _) → refuse-missing.Post κs a z e → refuse-missing.Post κs a y f → z ≡ y
refuse_missing_once κs a z y e f p q = p ∙ sym q

pub refuse_object_once : (κs : _) (a : _) (z y : _) (e f : _) → refuse-object.Post κs a z e → refuse-object.Post κs a y f → z ≡ y
refuse_object_once κs a z y e f p q = p ∙ sym q

pub refuse_rest_once : (κs : _) (a : _) (z y : _) (e f : _) → refuse-rest.Post κs a z e → refuse-rest.Post κs a y f → z ≡ y
refuse_rest_once κs a z y e f p q = p ∙ sym q

pub read_object_once : (κs : _) (a : _) (z y : _) (e f : _) → read-object.Post κs a z e → read-object.Post κs a y f → z ≡ y
read_object_once κs a z y e f p q = Finds.told_apart z y (p ∙ sym q)

pub meet_row_once : (κs : _) (a : _) (z y : _) (e f : _) → meet-row.Post κs a z e → meet-row.Post κs a y f → z ≡ y
meet_row_once κs a z y e f p q = p ∙ sym q

pub check_end_once : (κs : _) (a : _) (z y : _) (e f : _) → check-end.Post κs a z e → check-end.Post κs a y f → z ≡ y
check_end_once κs a z y e f p q = p ∙ sym q

-- by the first of its two promises
pub places_under_once : (κs : _) (a : _) (z y : _) (e f : _) → places-under.Post κs a z e → places-under.Post κs a y f → z ≡ y
places_under_once κs a z y e f p q = p.0 ∙ sym q.0
