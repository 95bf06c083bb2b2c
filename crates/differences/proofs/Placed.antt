-- The answer to an image by its table of places, and the bytes of its content that belong to no object, by address. Assumes nothing.
use Prim.Native.Nat.{ℕ, zero, suc, ◌+◌, ◌≤◌}
use native.Mathlib.Omega.{arith}
use mathlib.Core.Path.{refl, sym, ap, ◌≡◌, ◌∙◌}
use mathlib.Core.List.{List, [], ◌∷◌}
use lib.ListN.{length, take, drop}
use lib.Seq.{drop-cons}
use Rattle.edition.specs.declared.Edition.{Edition}
use Rattle.card.specs.declared.Refusal.{Refusal}
use Rattle.card.specs.declared.Reading.{Reading}
use Rattle.card.specs.declared.Places.{Places}
use Rattle.card.specs.Content.{Content, content_of, record_of}
use Rattle.card.specs.Refusals.{none}
use Rattle.card.specs.Frame.{free_of, start_of}
use Rattle.card.specs.Reading.{Answer, accepted, refused, content_at, answer, answer_of}
use Rattle.card.specs.Places.{no_places, placed, places_of, places}
use Rattle.card.proofs.Chains.{refused_in}
use Rattle.card.proofs.Records.{content_back}
use Rattle.reader_steps.specs.Steps.{values_at, Inside}
use Rattle.reader_steps.proofs.Values.{Given, reads_accepted}
use Rattle.differences.specs.Differences.{addresses, bytes_of}
use Rattle.differences.specs.Steps.{bytes_at}

pub places_refused : (e : Edition) (s : List ℕ) (p : Places) → p ≡ places e s → (p.refusal.number ≡ 0 → ⊥) → answer e s ≡ refused p.refusal
unfolding places_of placed no_places
places_refused e s p is h = go (answer e s) is
  where
    go : (a : Answer) → p ≡ places_of (start_of s) a → a ≡ refused p.refusal
    go (accepted c) q = absurd (h (ap (λ (y : Places). y.refusal.number) q))
    go (refused x) q = ap refused (sym (ap (λ (y : Places). y.refusal) q))

-- an accepted image has the values at its places
pub record Stands (e : Edition) (s : List ℕ) (p : Places) : Type 0 where
  pub is : answer e s ≡ accepted (content_at s (values_at s p.starts p.lengths))
  pub long : length s ≡ 256
  pub inside : Inside s p.starts p.lengths

pub places_accepted : (e : Edition) (s : List ℕ) (p : Places) → length e.rows ≡ 17 → p ≡ places e s → p.refusal.number ≡ 0 → Stands e s p
unfolding answer answer_of places_of placed no_places
places_accepted e s p n at z = record { is = go (answer e s) refl at g.is; long = g.long; inside = g.inside }
  where
    g : Given e s p
    g = reads_accepted e s p n at z

    here : Content
    here = content_at s (values_at s p.starts p.lengths)

    go : (a : Answer) → answer e s ≡ a → p ≡ places_of (start_of s) a → record { refusal = none; content = record_of e.number here } ≡ answer_of e.number a → a ≡ accepted here
    go (refused x) a q r = absurd ((refused_in _ _ x a).0 (ap (λ (y : Refusal). y.number) (refused_in _ _ x a).1 ∙ sym (ap (λ (y : Places). y.refusal.number) q) ∙ z))
    go (accepted c) a q r = ap accepted (sym (content_back e.number c) ∙ sym (ap (λ (y : Reading). content_of y.content) r) ∙ content_back e.number here)

-- ---- the bytes by address
abbrev up_from : ℕ → ℕ → List ℕ
up_from k zero = []
up_from k (suc n) = k ∷ up_from (suc k) n

run_at : (s : List ℕ) (k n : ℕ) → k + n ≤ length s → take n (drop k s) ≡ bytes_at s (up_from k n)
run_at s k zero h = refl
run_at s k (suc n) h = rw (drop-cons s k 0 (omega arith), run_at s (suc k) n (omega arith))

pub bytes_at_lem : (s : List ℕ) (vs : List (List ℕ)) → length s ≡ 256 → bytes_of (content_at s vs) ≡ bytes_at s addresses
unfolding bytes_of content_at free_of addresses
bytes_at_lem s vs n = rw (run_at s 6 11 (omega arith))
