-- An image is refused exactly where its reading has a number, and one without the template's tag always is; the refusals of the check by its tests. Assumes nothing.
use Prim.Native.Nat.{ℕ}
use native.Mathlib.Omega.{arith}
use borrow.Author.Tests.{eqb-true, eq-eqb, ne_eqb}
use mathlib.Core.Path.{◌≡◌, refl, ap, ◌∙◌}
use mathlib.Core.List.{List}
use lib.ListN.{length, get_or}
use Rattle.edition.specs.declared.Edition.{Edition}
use Rattle.card.specs.declared.Refusal.{Refusal}
use Rattle.card.specs.Refusals.{refuse, none, gate, or_else}
use Rattle.card.specs.Frame.{start_of}
use Rattle.card.specs.Rules.{Meets}
use Rattle.card.specs.Reading.{Answer, accepted, refused, answer, answer_of, reading}
use Rattle.card.specs.Places.{no_places, placed, places_of, places}
use Rattle.card.proofs.Chains.{refused_in, gate_in, neither}
use Rattle.demands.specs.Demands.{LentEdition}
use Rattle.demands.proofs.Accepts.{reads, accepts_meets}
use Rattle.demands.proofs.AnyAccepted.{accepted_is}
use Rattle.rewriting.specs.Checking.{sizes_refusal, input_refusal}

-- the table of places tells what a reading tells
pub one_refusal : (e : Edition) (s : List ℕ) → (places e s).refusal ≡ (reading e s).refusal
unfolding places_of placed no_places answer_of
one_refusal e s = go (answer e s)
  where
    go : (a : Answer) → (places_of (start_of s) a).refusal ≡ (answer_of e.number a).refusal
    go (accepted c) = refl
    go (refused x) = refl

module _ (e : Edition) (s : List ℕ) (n : LentEdition e) where
  pub met_number : Meets e s → (reading e s).refusal.number ≡ 0
  unfolding answer_of
  met_number m = rw ((reads e s m.content n).1 (m.allowed, m.drawn))

  pub number_met : (reading e s).refusal.number ≡ 0 → Meets e s
  unfolding answer answer_of
  number_met h = go (answer e s) refl h
    where
      go : (a : Answer) → answer e s ≡ a → (answer_of e.number a).refusal.number ≡ 0 → Meets e s
      go (accepted c) q h = (accepts_meets e s n).0 (c, q)
      go (refused x) q h = absurd ((refused_in _ _ x q).0 (ap (λ (y : Refusal). y.number) (refused_in _ _ x q).1 ∙ h))

  pub untagged : (get_or s 30 0 ≡ 0x60 → ⊥) → Meets e s → ⊥
  untagged h m = h (accepted_is e s m.content n ((reads e s m.content n).1 (m.allowed, m.drawn))).tagged

-- ---- what is not refused before the plan is looked at
pub record Input (e : Edition) (old new : List ℕ) : Type 0 where
  pub old_size : length old ≡ 256
  pub new_size : length new ≡ 256
  pub taken : (reading e new).refusal.number ≡ 0

pub input_in : (e : Edition) (old new : List ℕ) → (input_refusal e (length old) new).number ≡ 0 → Input e old new
unfolding input_refusal sizes_refusal
input_in e old new h =
    let b = neither _ _ h in
    let g = gate_in _ _ _ (omega arith) b.first in
    let k = gate_in _ _ _ (omega arith) g.1 in
    record { old_size = eqb-true (length old) 256 g.0; new_size = eqb-true (length new) 256 k.0; taken = b.second }

pub input_out : (e : Edition) (old new : List ℕ) → Input e old new → (input_refusal e (length old) new).number ≡ 0
unfolding input_refusal sizes_refusal gate or_else
input_out e old new i = rw (i.old_size, i.new_size) i.taken

pub sizes_right : (m n : ℕ) → m ≡ 256 → n ≡ 256 → sizes_refusal m n ≡ none
unfolding sizes_refusal gate
sizes_right m n p q = rw (eq-eqb m 256 p, eq-eqb n 256 q)

pub old_wrong : (m n : ℕ) → (m ≡ 256 → ⊥) → sizes_refusal m n ≡ refuse 20 0 0
unfolding sizes_refusal gate
old_wrong m n h = rw (ne_eqb m 256 h)

pub new_wrong : (m n : ℕ) → m ≡ 256 → (n ≡ 256 → ⊥) → sizes_refusal m n ≡ refuse 20 0 0
unfolding sizes_refusal gate
new_wrong m n p h = rw (eq-eqb m 256 p, ne_eqb n 256 h)
