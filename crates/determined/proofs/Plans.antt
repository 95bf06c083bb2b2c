-- No second answer of plans and their check, stated as in `Determined`. Assumes nothing.
use mathlib.Core.Path.{◌≡◌, sym, ◌∙◌}
use Rattle.rewriting.proofs.refuse_sizes.Reads as refuse-sizes
use Rattle.rewriting.proofs.refuse_input.Reads as refuse-input
use Rattle.rewriting.proofs.check_plan.Reads as check-plan
use Rattle.planning.proofs.plan.Reads as plan
use Rattle.calls_plans.proofs.plan.Reads as calls-plan
use Rattle.kvk.proofs.kvk_plan.Reads as kvk-plan
use Rattle.calls_plans.proofs.check_plan.Reads as calls-check-plan
use Rattle.kvk.proofs.kvk_check_plan.Reads as kvk-check-plan

-- a card that is rewritten
pub refuse_sizes_once : (κs : _) (a : _) (z y : _) (e f : _) → refuse-sizes.Post κs a z e → refuse-sizes.Post κs a y f → z ≡ y
refuse_sizes_once κs a z y e f p q = p ∙ sym q

pub refuse_input_once : (κs : _) (a : _) (z y : _) (e f : _) → refuse-input.Post κs a z e → refuse-input.Post κs a y f → z ≡ y
refuse_input_once κs a z y e f p q = p ∙ sym q

pub check_plan_once : (κs : _) (a : _) (z y : _) (e f : _) → check-plan.Post κs a z e → check-plan.Post κs a y f → z ≡ y
check_plan_once κs a z y e f p q = p ∙ sym q

pub kvk_check_plan_once : (κs : _) (a : _) (z y : _) (e f : _) → kvk-check-plan.Post κs a z e → kvk-check-plan.Post κs a y f → z ≡ y
kvk_check_plan_once κs a z y e f p q = p ∙ sym q

pub calls_check_plan_once : (κs : _) (a : _) (z y : _) (e f : _) → calls-check-plan.Post κs a z e → calls-check-plan.Post κs a y f → z ≡ y
calls_check_plan_once κs a z y e f p q = p ∙ sym q

pub plan_once : (κs : _) (a : _) (z y : _) (e f : _) → plan.Post κs a z e → plan.Post κs a y f → z ≡ y
plan_once κs a z y e f p q = p.0 ∙ sym q.0

pub plan_room_once : (κs : _) (a : _) (z y : _) (e f : _) → plan.Post κs a z e → plan.Post κs a y f → e.1.1.1.0.now ≡ f.1.1.1.0.now
plan_room_once κs a z y e f p q = p.1 ∙ sym q.1

pub kvk_plan_once : (κs : _) (a : _) (z y : _) (e f : _) → kvk-plan.Post κs a z e → kvk-plan.Post κs a y f → z ≡ y
kvk_plan_once κs a z y e f p q = p.0 ∙ sym q.0

pub calls_plan_once : (κs : _) (a : _) (z y : _) (e f : _) → calls-plan.Post κs a z e → calls-plan.Post κs a y f → z ≡ y
calls_plan_once κs a z y e f p q = p.0 ∙ sym q.0

pub kvk_plan_room_once : (κs : _) (a : _) (z y : _) (e f : _) → kvk-plan.Post κs a z e → kvk-plan.Post κs a y f → e.1.1.1.0.now ≡ f.1.1.1.0.now
kvk_plan_room_once κs a z y e f p q = p.1 ∙ sym q.1

pub calls_plan_room_once : (κs : _) (a : _) (z y : _) (e f : _) → calls-plan.Post κs a z e → calls-plan.Post κs a y f → e.1.1.1.0.now ≡ f.1.1.1.0.now
calls_plan_room_once κs a z y e f p q = p.1 ∙ sym q.1
