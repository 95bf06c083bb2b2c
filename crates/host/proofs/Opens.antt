-- An image that is not refused has its template where its length field says, and its bytes are the template of its content. Assumes nothing.
use Prim.Native.Nat.{ℕ}
use mathlib.Core.Path.{◌≡◌, refl, sym, ap, ◌∙◌}
use mathlib.Core.List.{List}
use lib.ListN.{length}
use Rattle.edition.specs.declared.Edition.{Edition}
use Rattle.card.specs.declared.Refusal.{Refusal}
use Rattle.card.specs.Content.{content_of}
use Rattle.card.specs.Refusals.{none, size_refusal}
use Rattle.card.specs.Layout.{template, objects_of}
use Rattle.card.specs.Frame.{end_of}
use Rattle.card.specs.Reading.{Answer, accepted, refused, front_refusal, read_refusal, answer, answer_of, reading}
use Rattle.card.proofs.Chains.{or_pass, neither, answered_in, refused_in}
use Rattle.card.proofs.Records.{content_back}
use Rattle.demands.specs.Demands.{LentEdition, Accepts, library_reader}
use Rattle.demands.proofs.AnyAccepted.{accepted_is}
use Rattle.frame.specs.declared.Front.{Front}
use Rattle.frame.specs.Checks.{open_refusal, front_of, Framed}
use Rattle.frame.proofs.Extents.{open_right, framed}
use Rattle.host.specs.Hosting.{template_bytes}

-- the number of a reading is that of its chain
number_is : (e : Edition) (s : List ℕ) → (reading e s).refusal.number ≡ (read_refusal e s).number
unfolding answer answer_of
number_is e s = go (answer e s) refl
  where
    go : (a : Answer) → answer e s ≡ a → (answer_of e.number a).refusal.number ≡ (read_refusal e s).number
    go (accepted c) q = sym (answered_in _ _ c q).0
    go (refused x) q = ap (λ (y : Refusal). y.number) (sym (refused_in _ _ x q).1)

module _ (e : Edition) (s : List ℕ) (z : (reading e s).refusal.number ≡ 0) where
  -- nothing is refused before the objects
  opens : (open_refusal none s).number ≡ 0
  unfolding read_refusal open_refusal
  opens =
      let n1 = neither _ _ (sym (number_is e s) ∙ z) in
      let n2 = neither _ _ n1.second in
      let n3 = neither _ _ n2.second in
      ap (λ (x : Refusal). x.number) (or_pass (size_refusal 1 (length s)) _ n1.first ∙ or_pass none (front_refusal s) refl) ∙ n3.first

  pub extent : Framed s (end_of s)
  extent = let r = open_right none s opens in framed s r.0 r.1

  pub end_is : (f : Front) → f ≡ front_of none s → f.end ≡ end_of s
  unfolding front_of
  end_is f e = ap (λ (x : Front). x.end) (rw opens at e)

-- the bytes that a host is given are those of the content's template
pub host_template : (e : Edition) (s : List ℕ) → LentEdition e → Accepts library_reader e s → template_bytes s ≡ template (objects_of (content_of (reading e s).content))
unfolding answer_of answer
host_template e s n h = go (answer e s) refl h
  where
    go : (a : Answer) → answer e s ≡ a → (answer_of e.number a).refusal ≡ none → template_bytes s ≡ template (objects_of (content_of (answer_of e.number a).content))
    go (accepted c) q z = rw (content_back e.number c) (accepted_is e s c n q).objects
    go (refused x) q z = absurd (let r = refused_in _ _ x q in r.0 (ap (λ (y : Refusal). y.number) (r.1 ∙ z)))
