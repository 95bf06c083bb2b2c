-- The answer of the check by its tests, and the test of a plan by index, for its loop. Assumes nothing.
use Prim.Native.Nat.{ℕ, ◌+◌, ◌≤◌, ◌<◌}
use native.Mathlib.Numerals.{add-one}
use borrow.Author.Tests.{ne_eqb, le-leb, lt-leb}
use mathlib.Core.Path.{◌≡◌}
use mathlib.Core.Bool.{Bool, true, false, ◌&&◌}
use mathlib.Core.List.{List}
use lib.Dec.{leb}
use lib.ListN.{length, drop, get_or}
use lib.Seq.{drop-cons, drop-length}
use Rattle.ground.specs.Lists.{same_list}
use Rattle.edition.specs.declared.Edition.{Edition}
use Rattle.card.specs.declared.Refusal.{Refusal}
use Rattle.card.specs.Refusals.{refuse, none, gate}
use Rattle.rewriting.specs.Plans.{address_of, step}
use Rattle.rewriting.specs.Checking.{input_refusal, passes, plan_test, checked}

module _ (e : Edition) (old new s p : List ℕ) (i : ℕ) where
  pub test_pass : i < length p → (leb (address_of (get_or p i 0)) 255 && passes e old new (step s (get_or p i 0))) ≡ true
      → plan_test e old new (step s (get_or p i 0)) (drop (i + 1) p) ≡ plan_test e old new s (drop i p)
  unfolding plan_test
  test_pass l t = rw (add-one, drop-cons p i 0 l, t)

  pub test_stop : i < length p → (leb (address_of (get_or p i 0)) 255 && passes e old new (step s (get_or p i 0))) ≡ false → plan_test e old new s (drop i p) ≡ false
  unfolding plan_test
  test_stop l t = rw (drop-cons p i 0 l, t)

  pub test_end : i ≡ length p → plan_test e old new s (drop i p) ≡ same_list s new
  unfolding plan_test
  test_end h = rw (h, drop-length)

-- ---- the answer of the check, by what its code finds
module _ (e : Edition) (old new steps : List ℕ) (x : Refusal) (p : x ≡ input_refusal e (length old) new) where
  pub checked_refused : (x.number ≡ 0 → ⊥) → record { refusal = x; safe = false } ≡ checked e old new steps
  unfolding checked gate
  checked_refused n = rw (← p, ne_eqb x.number 0 n)

  pub checked_many : x.number ≡ 0 → 257 < length steps → (y : Refusal) → y ≡ refuse 60 0 0 → record { refusal = y; safe = false } ≡ checked e old new steps
  unfolding checked gate
  checked_many z l y q = rw (← p, z, lt-leb (length steps) 257 l, q)

  pub checked_done : x.number ≡ 0 → length steps ≤ 257 → (y : Refusal) → y ≡ none → (t : Bool) → t ≡ plan_test e old new old steps
      → record { refusal = y; safe = t } ≡ checked e old new steps
  unfolding checked gate
  checked_done z l y q t s = rw (← p, z, le-leb (length steps) 257 l, q, s)
