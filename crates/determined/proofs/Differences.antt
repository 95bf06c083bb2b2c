-- No second answer of two cards side by side, stated as in `Determined`. Assumes nothing.
use mathlib.Core.Path.{◌≡◌, sym, ◌∙◌}
use Rattle.differences.proofs.compare.Reads as compare
use Rattle.rebuilding.proofs.rebuild.Reads as rebuild
use Rattle.calls_pairs.proofs.differences.Reads as calls-differences
use Rattle.kvk.proofs.kvk_differences.Reads as kvk-differences

-- two cards side by side
pub compare_once : (κs : _) (a : _) (z y : _) (e f : _) → compare.Post κs a z e → compare.Post κs a y f → z ≡ y
compare_once κs a z y e f p q = p ∙ sym q

pub rebuild_once : (κs : _) (a : _) (z y : _) (e f : _) → rebuild.Post κs a z e → rebuild.Post κs a y f → z ≡ y
rebuild_once κs a z y e f p q = p.0 ∙ sym q.0

pub rebuild_room_once : (κs : _) (a : _) (z y : _) (e f : _) → rebuild.Post κs a z e → rebuild.Post κs a y f → e.1.1.1.1.0.now ≡ f.1.1.1.1.0.now
rebuild_room_once κs a z y e f p q = p.1 ∙ sym q.1

pub kvk_differences_once : (κs : _) (a : _) (z y : _) (e f : _) → kvk-differences.Post κs a z e → kvk-differences.Post κs a y f → z ≡ y
kvk_differences_once κs a z y e f p q = p.0 ∙ sym q.0

pub calls_differences_once : (κs : _) (a : _) (z y : _) (e f : _) → calls-differences.Post κs a z e → calls-differences.Post κs a y f → z ≡ y
calls_differences_once κs a z y e f p q = p.0 ∙ sym q.0

pub kvk_differences_room_once : (κs : _) (a : _) (z y : _) (e f : _) → kvk-differences.Post κs a z e → kvk-differences.Post κs a y f → e.1.1.1.0.now ≡ f.1.1.1.0.now
kvk_differences_room_once κs a z y e f p q = p.1 ∙ sym q.1

pub calls_differences_room_once : (κs : _) (a : _) (z y : _) (e f : _) → calls-differences.Post κs a z e → calls-differences.Post κs a y f → e.1.1.1.0.now ≡ f.1.1.1.0.now
calls_differences_room_once κs a z y e f p q = p.1 ∙ sym q.1
