-- Of the answers: our own plans always pass the check, and the plug can be pulled after any of their steps. Assumes nothing.
use Prim.Native.Nat.{ℕ, ◌+◌, ◌≤◌}
use native.Mathlib.Omega.{arith}
use borrow.Author.Tests.{eqb-true, ne_eqb}
use mathlib.Core.Path.{◌≡◌, refl, ap, ◌∙◌}
use mathlib.Core.Bool.{Bool, true, false}
use mathlib.Core.List.{List}
use lib.Dec.{eqb}
use lib.ListN.{length, take, drop}
use lib.Seq.{sets-eq, take_at}
use Rattle.ground.specs.Rooms.{Put}
use Rattle.edition.specs.declared.Edition.{Edition}
use Rattle.card.specs.declared.Refusal.{Refusal}
use Rattle.card.specs.Refusals.{refuse, none, gate}
use Rattle.card.proofs.Chains.{gate_in}
use Rattle.demands.specs.Demands.{LentEdition}
use Rattle.rewriting.specs.declared.Checked.{Checked}
use Rattle.rewriting.specs.Plans.{run}
use Rattle.rewriting.specs.Checking.{input_refusal, checked}
use Rattle.rewriting.proofs.Refused.{Input, input_in}
use Rattle.rewriting.proofs.Decided.{checked_is}
use Rattle.rewriting.proofs.Pulled.{ReadsAs, pulled}
use Rattle.planning.specs.declared.Planned.{Planned}
use Rattle.planning.specs.Planning.{our_plan, plan_refusal, planned, room_after}
use Rattle.planning.proofs.Changes.{plan_short}
use Rattle.planning.proofs.Own.{LentBytes, own_plan}

-- ---- the answer of the plan, by what its code finds
module _ (e : Edition) (old new room : List ℕ) where
  pub planned_room : (length room ≡ 257 → ⊥) → (x : Refusal) → x ≡ refuse 20 0 0
      → (record { refusal = x; count = 0 } ≡ planned e old new room) × (room ≡ room_after e old new room)
  unfolding planned room_after plan_refusal gate
  planned_room h x p = (rw (ne_eqb (length room) 257 h, p), rw (ne_eqb (length room) 257 h))

  pub planned_refused : length room ≡ 257 → (x : Refusal) → x ≡ input_refusal e (length old) new → (x.number ≡ 0 → ⊥)
      → (record { refusal = x; count = 0 } ≡ planned e old new room) × (room ≡ room_after e old new room)
  unfolding planned room_after plan_refusal gate
  planned_refused h x p n = (rw (h, ← p, ne_eqb x.number 0 n), rw (h, ← p, ne_eqb x.number 0 n))

  pub planned_done : length room ≡ 257 → (x : Refusal) → x ≡ input_refusal e (length old) new → x.number ≡ 0 → (y : Refusal) → y ≡ none → (n : ℕ) (r : List ℕ)
      → Put room 0 (our_plan old new) r n → (record { refusal = y; count = n } ≡ planned e old new room) × (r ≡ room_after e old new room)
  unfolding planned room_after plan_refusal gate
  planned_done h x p z y q n r put =
      let place : n ≡ length (our_plan old new) = omega (arith, put.place) in
      (rw (h, ← p, z, q, place), rw (h, ← p, z) put.stored)

room_in : (e : Edition) (old new room : List ℕ) → (plan_refusal e old new room).number ≡ 0 → (length room ≡ 257) × Input e old new
unfolding plan_refusal
room_in e old new room h =
    let g = gate_in _ _ _ (omega arith) h in
    (eqb-true (length room) 257 g.0, input_in e old new g.1)

-- what the plan left in the room, as many words as it says, is our plan
module _ (e : Edition) (old new room : List ℕ) (done : (planned e old new room).refusal.number ≡ 0) where
  abbrev steps : List ℕ
  steps = take (planned e old new room).count (room_after e old new room)

  pub planned_input : (plan_refusal e old new room).number ≡ 0
  unfolding planned gate
  planned_input = go (eqb (plan_refusal e old new room).number 0) refl done
    where
      go : (q : Bool) → eqb (plan_refusal e old new room).number 0 ≡ q
          → (gate {A = Planned} q (record { refusal = plan_refusal e old new room; count = 0 }) (record { refusal = none; count = length (our_plan old new) })).refusal.number ≡ 0
          → (plan_refusal e old new room).number ≡ 0
      go true f h = eqb-true (plan_refusal e old new room).number 0 f
      go false f h = h

  steps-are : steps ≡ our_plan old new
  unfolding planned room_after gate
  steps-are =
      let r = room_in e old new room planned_input in
      let short : length (our_plan old new) ≤ 257 = plan_short old new r.1.old_size in
      rw planned_input
      (ap (take (length (our_plan old new))) (sets-eq (our_plan old new) room 0 (omega (arith, r.0)))
      ∙ take_at (our_plan old new) (drop (0 + length (our_plan old new)) room) (length (our_plan old new)) refl)

  -- Twelve: our own plans always pass
  pub own_plans_pass : LentEdition e → LentBytes new → checked e old new steps ≡ record { refusal = none; safe = true }
  own_plans_pass lent b =
      let r = room_in e old new room planned_input in
      let short : length (our_plan old new) ≤ 257 = plan_short old new r.1.old_size in
      rw steps-are
      (checked_is e old new (our_plan old new) r.1 short ∙ ap (λ (y : Bool). record { refusal = none; safe = y }) (own_plan e lent old new r.1.old_size r.1.new_size b))

  -- Twelve: whenever the plug is pulled, at any step of our plan, what a terminal of that edition reads is the old card, the new one, or a refusal
  pub own_pulled : LentEdition e → LentBytes new → (k : ℕ) → k ≤ length steps → ReadsAs e old new (run old (take k steps))
  own_pulled lent b k l = pulled e old new steps lent (ap (λ (c : Checked). c.safe) (own_plans_pass lent b)) k l
