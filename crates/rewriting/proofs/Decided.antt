-- The check says yes exactly where a plan is safe: each state is judged alone, and the rest is induction along the steps. Assumes nothing.
use Prim.Native.Nat.{ℕ, zero, suc, ◌≤◌, ◌<◌}
use native.Mathlib.Omega.{arith}
use mathlib.Core.Path.{◌≡◌, refl, ap, ◌∙◌}
use mathlib.Core.Logic.{◌⊎◌, inl, inr, ◌↔◌}
use mathlib.Core.Bool.{Bool, true, false, not, ◌&&◌, ◌||◌, or-true}
use mathlib.Core.List.{List, [], ◌∷◌}
use lib.Dec.{leb, eqb}
use lib.ListN.{length, take, get_or}
use borrow.Author.Tests.{eqb-true, eqb-false, eq-eqb, ne_eqb, leb-true, le-leb}
use Rattle.ground.specs.Lists.{same_list}
use Rattle.ground.proofs.Lists.{true_false, and_left, and_right, same_equal}
use Rattle.edition.specs.declared.Edition.{Edition}
use Rattle.card.specs.Refusals.{refuse, none, gate}
use Rattle.card.specs.Rules.{Meets}
use Rattle.card.specs.Reading.{reading}
use Rattle.demands.specs.Demands.{LentEdition}
use Rattle.rewriting.specs.declared.Checked.{Checked}
use Rattle.rewriting.specs.Plans.{address_of, step, run, MayBe, SafeFrom, Safe}
use Rattle.rewriting.specs.Checking.{input_refusal, passes, plan_test, checked}
use Rattle.rewriting.proofs.Refused.{met_number, number_met, Input, input_in, input_out}

pub is_same : (s : List ℕ) → same_list s s ≡ true
unfolding same_list
is_same [] = refl
is_same (x ∷ s) = rw (eq-eqb x x refl) (is_same s)

or_cases : (a b : Bool) → (a || b) ≡ true → (a ≡ true) ⊎ (b ≡ true)
or_cases true b h = inl refl
or_cases false b h = inr h

module _ (e : Edition) (n : LentEdition e) (old new : List ℕ) where
  passes-in : (s : List ℕ) → passes e old new s ≡ true → MayBe e old new s
  unfolding passes
  passes-in s h = one (or_cases (same_list s old) _ h)
    where
      three : (q : Bool) → eqb (reading e s).refusal.number 0 ≡ q → not q ≡ true → Meets e s → ⊥
      three true f h m = true_false h refl
      three false f h m = eqb-false (reading e s).refusal.number 0 f (met_number e s n m)

      two : (same_list s new ≡ true) ⊎ (not (eqb (reading e s).refusal.number 0) ≡ true) → MayBe e old new s
      two (inl g) = inr (inl (same_equal s new g))
      two (inr g) = inr (inr (three (eqb (reading e s).refusal.number 0) refl g))

      one : (same_list s old ≡ true) ⊎ ((same_list s new || not (eqb (reading e s).refusal.number 0)) ≡ true) → MayBe e old new s
      one (inl g) = inl (same_equal s old g)
      one (inr g) = two (or_cases (same_list s new) _ g)

  pub passes_out : (s : List ℕ) → MayBe e old new s → passes e old new s ≡ true
  unfolding passes
  passes_out s (inl g) = rw (g, is_same old)
  passes_out s (inr (inl g)) = rw (g, is_same new) (or-true (same_list new old))
  passes_out s (inr (inr g)) = rw (ne_eqb (reading e s).refusal.number 0 (λ z. g (number_met e s n z)), or-true (same_list s new)) (or-true (same_list s old))

  safe-more : (s : List ℕ) (x : ℕ) (p : List ℕ) → address_of x ≤ 255 → MayBe e old new s → SafeFrom e old new (step s x) p → SafeFrom e old new s (x ∷ p)
  unfolding run
  safe-more s x p h g rest = record { within = where_to; ends = rest.ends; passing = at }
    where
      where_to : (k : ℕ) → k < suc (length p) → address_of (get_or (x ∷ p) k 0) ≤ 255
      where_to zero l = h
      where_to (suc k) l = rest.within k (omega arith)

      at : (k : ℕ) → k ≤ suc (length p) → MayBe e old new (run s (take k (x ∷ p)))
      at zero l = g
      at (suc k) l = rest.passing k (omega arith)

  safe-rest : (s : List ℕ) (x : ℕ) (p : List ℕ) → SafeFrom e old new s (x ∷ p) → SafeFrom e old new (step s x) p
  unfolding run
  safe-rest s x p f = record { within = λ k l. f.within (suc k) (omega arith); ends = f.ends; passing = λ k l. f.passing (suc k) (omega arith) }

  safe-end : (s : List ℕ) → MayBe e old new s → s ≡ new → SafeFrom e old new s []
  unfolding run
  safe-end s g q = record { within = λ k l. absurd (omega arith); ends = q; passing = at }
    where
      at : (k : ℕ) → k ≤ 0 → MayBe e old new (run s (take k []))
      at zero l = g
      at (suc k) l = absurd (omega arith)

  test_in : (s p : List ℕ) → MayBe e old new s → plan_test e old new s p ≡ true → SafeFrom e old new s p
  unfolding plan_test
  test_in s [] g h = safe-end s g (same_equal s new h)
  test_in s (x ∷ p) g h =
      let here = leb (address_of x) 255 && passes e old new (step s x) in
      let h1 : here ≡ true = and_left here (plan_test e old new (step s x) p) h in
      safe-more s x p (leb-true (address_of x) 255 (and_left (leb (address_of x) 255) (passes e old new (step s x)) h1)) g
      (test_in (step s x) p (passes-in (step s x) (and_right (leb (address_of x) 255) (passes e old new (step s x)) h1))
      (and_right here (plan_test e old new (step s x) p) h))

  test-out : (s p : List ℕ) → SafeFrom e old new s p → plan_test e old new s p ≡ true
  unfolding plan_test run
  test-out s [] f = rw f.ends (is_same new)
  test-out s (x ∷ p) f =
      rw (le-leb (address_of x) 255 (f.within 0 (omega arith)), passes_out (step s x) (f.passing 1 (omega arith)))
      (test-out (step s x) p (safe-rest s x p f))

  pub plan_decided : (steps : List ℕ) → (plan_test e old new old steps ≡ true) ↔ Safe e old new steps
  plan_decided steps = (test_in old steps (inl refl), test-out old steps)

-- ---- Twelve: the check says yes exactly when the sizes are right, the new image meets every rule, at most 257 steps are offered, and the plan is safe
pub record Right (e : Edition) (old new steps : List ℕ) : Type 0 where
  pub old_size : length old ≡ 256
  pub new_size : length new ≡ 256
  pub meets : Meets e new
  pub few : length steps ≤ 257
  pub safe : Safe e old new steps

pub checked_is : (e : Edition) (old new steps : List ℕ) → Input e old new → length steps ≤ 257 → checked e old new steps ≡ record { refusal = none; safe = plan_test e old new old steps }
unfolding checked gate
checked_is e old new steps i l = rw (input_out e old new i, le-leb (length steps) 257 l)

module _ (e : Edition) (n : LentEdition e) (old new steps : List ℕ) where
  yes-in : (checked e old new steps).safe ≡ true → Right e old new steps
  unfolding checked gate
  yes-in h = one (eqb (input_refusal e (length old) new).number 0) refl h
    where
      end : Checked
      end = record { refusal = none; safe = plan_test e old new old steps }

      two : Input e old new → (q : Bool) → leb (length steps) 257 ≡ q → (gate q (record { refusal = refuse 60 0 0; safe = false }) end).safe ≡ true → Right e old new steps
      two i true f h = record { old_size = i.old_size; new_size = i.new_size; meets = number_met e new n i.taken; few = leb-true (length steps) 257 f; safe = (plan_decided e n old new steps).0 h }
      two i false f h = absurd (true_false h refl)

      one : (q : Bool) → eqb (input_refusal e (length old) new).number 0 ≡ q
          → (gate q (record { refusal = input_refusal e (length old) new; safe = false }) (gate (leb (length steps) 257) (record { refusal = refuse 60 0 0; safe = false }) end)).safe ≡ true
          → Right e old new steps
      one true f h = two (input_in e old new (eqb-true (input_refusal e (length old) new).number 0 f)) (leb (length steps) 257) refl h
      one false f h = absurd (true_false h refl)

  yes-out : Right e old new steps → (checked e old new steps).safe ≡ true
  yes-out r =
      ap (λ (c : Checked). c.safe) (checked_is e old new steps (record { old_size = r.old_size; new_size = r.new_size; taken = met_number e new n r.meets }) r.few)
      ∙ (plan_decided e n old new steps).1 r.safe

  pub check_says : ((checked e old new steps).safe ≡ true) ↔ Right e old new steps
  check_says = (yes-in, yes-out)
