-- Record and table tell the same content of every accepted image, and the same refusal of any other.
-- The reader copies its record from the places of the table, and they lie in the image. Assumes nothing.
use Prim.Native.Nat.{ℕ, ◌+◌, ◌≤◌}
use native.Mathlib.Omega.{arith}
use borrow.Author.Tests.{ltb-true, ltb-false}
use mathlib.Core.Path.{◌≡◌, refl, sym, ap, ◌∙◌}
use mathlib.Core.Bool.{Bool, true, false, not}
use mathlib.Core.List.{List, []}
use lib.Dec.{ltb, eqb}
use lib.ListN.{length, drop, get_or, length-drop, length-map, get_or-eq_default}
use lib.Seq.{length-take-le}
use Rattle.edition.specs.declared.Edition.{Edition}
use Rattle.card.specs.declared.Refusal.{Refusal}
use Rattle.card.specs.declared.Places.{Places}
use Rattle.card.specs.declared.Reading.{Reading}
use Rattle.card.specs.Content.{Content, content_of}
use Rattle.card.specs.Refusals.{none}
use Rattle.card.specs.Frame.{start_of}
use Rattle.card.specs.Reading.{Answer, accepted, refused, content_at, answer, answer_of, reading}
use Rattle.card.specs.Places.{no_places, placed, places_of, places}
use Rattle.card.proofs.Records.{content_back}
use Rattle.card.proofs.Chains.{answered_in}
use Rattle.card.proofs.Readings.{before_in, past_in}
use Rattle.card.proofs.Starts.{starts_length}
use Rattle.demands.specs.Demands.{LentEdition, Accepts, Refuses, library_reader}
use Rattle.reader_steps.specs.Steps.{values_at}
use Rattle.reader_steps.proofs.Copies.{values_length, value_at_lem}
use Rattle.reader_steps.proofs.Values.{Given, reads_accepted}
use Rattle.lookup.specs.Parts.{part_at}
use Rattle.lookup.specs.Telling.{TellAlike}
use Rattle.lookup.proofs.Cuts.{within_is}

-- ---- the refusal
pub same_refusal : (e : Edition) (s : List ℕ) → (places e s).refusal ≡ (reading e s).refusal
unfolding places_of placed no_places answer_of
same_refusal e s = go (answer e s)
  where
    go : (a : Answer) → (places_of (start_of s) a).refusal ≡ (answer_of e.number a).refusal
    go (accepted c) = refl
    go (refused x) = refl

-- with a refusal every place is 0 and 0
pub refused_nowhere : (e : Edition) (s : List ℕ) → Refuses library_reader e s → places e s ≡ no_places (reading e s).refusal
unfolding places_of answer_of
refused_nowhere e s h = go (answer e s) h
  where
    go : (a : Answer) → ((answer_of e.number a).refusal ≡ none → ⊥) → places_of (start_of s) a ≡ no_places (answer_of e.number a).refusal
    go (accepted c) r = absurd (r refl)
    go (refused x) r = refl

-- ---- the table has sixteen places
pub record Sixteen (t : Places) : Type 0 where
  pub starts : length t.starts ≡ 16
  pub lengths : length t.lengths ≡ 16

pub sixteen : (e : Edition) (s : List ℕ) → LentEdition e → Sixteen (places e s)
unfolding answer places_of placed no_places content_at
sixteen e s n = go (answer e s) refl
  where
    go : (a : Answer) → answer e s ≡ a → Sixteen (places_of (start_of s) a)
    go (refused x) q = record { starts = refl; lengths = refl }
    go (accepted c) q =
        let r = answered_in _ _ c q in
        let t = (past_in e s n (before_in e s r.0)).0 in
        let many : length c.values ≡ 16 = ap (λ (y : Content). length y.values) (sym r.1) ∙ ap length t.values ∙ t.many in
        record { starts = starts_length (start_of s) c.values 0 16; lengths = length-map c.values length ∙ many }

-- ---- the content
module _ (e : Edition) (s : List ℕ) (n : LentEdition e) (h : Accepts library_reader e s) where
  abbrev t : Places
  t = places e s

  given : Given e s t
  given = reads_accepted e s t n refl (ap (λ (x : Refusal). x.number) (same_refusal e s ∙ h))

  abbrev vs : List (List ℕ)
  vs = values_at s t.starts t.lengths

  content-is : content_of (reading e s).content ≡ content_at s vs
  content-is = ap (λ (r : Reading). content_of r.content) (sym given.is) ∙ content_back e.number (content_at s vs)

  same_length : length t.starts ≡ length t.lengths
  same_length = let m = sixteen e s n in m.starts ∙ sym m.lengths

  -- each place lies in the image; past the table both its numbers are 0
  inside : (k : ℕ) → get_or t.starts k 0 + get_or t.lengths k 0 ≤ length s
  inside k = go (ltb k 16) refl
    where
      go : (q : Bool) → ltb k 16 ≡ q → get_or t.starts k 0 + get_or t.lengths k 0 ≤ length s
      go true q = given.inside.within k (ltb-true k 16 q)
      go false q =
          let m = sixteen e s n in
          let past = ltb-false k 16 q in
          let a = get_or-eq_default t.starts 0 {n = k} (omega (arith, m.starts)) in
          let b = get_or-eq_default t.lengths 0 {n = k} (omega (arith, m.lengths)) in
          omega (arith, a, b)

  value_is : (k : ℕ) → get_or vs k [] ≡ part_at s t k
  value_is k = value_at_lem s t.starts t.lengths k same_length ∙ sym (within_is s (get_or t.starts k 0) (get_or t.lengths k 0) (inside k))

  long-is : (k : ℕ) → length (get_or vs k []) ≡ get_or t.lengths k 0
  long-is k =
      ap length (value_at_lem s t.starts t.lengths k same_length)
      ∙ length-take-le (get_or t.lengths k 0) (drop (get_or t.starts k 0) s) (omega (arith, inside k, length-drop (get_or t.starts k 0) s))

  pub tell_alike : TellAlike s (reading e s).content t
  unfolding content_at
  tell_alike = record {
    first = ap (λ (c : Content). c.first) content-is;
    free = ap (λ (c : Content). c.free) content-is;
    last = ap (λ (c : Content). c.last) content-is;
    many = ap (λ (c : Content). length c.values) content-is ∙ values_length s t.starts t.lengths same_length ∙ (sixteen e s n).starts;
    value = λ k. ap (λ (c : Content). get_or c.values k []) content-is ∙ value_is k;
    there = λ k. ap (λ (m : ℕ). not (eqb m 0)) (sym (ap (λ (c : Content). length (get_or c.values k [])) content-is ∙ long-is k));
  }
