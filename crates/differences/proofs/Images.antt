-- Five, of two accepted images: the list is that of their contents, exact, and empty exactly where they are equal. Assumes nothing.
use Prim.Native.Nat.{ℕ, suc}
use native.Mathlib.Omega.{arith}
use mathlib.Core.Path.{◌≡◌, refl, sym, ap, ◌∙◌}
use mathlib.Core.Logic.{◌↔◌}
use mathlib.Core.List.{List, [], ◌∷◌, ◌++◌}
use lib.ListN.{length, get_or, length-append}
use lib.Seq.{ext_get_or}
use Rattle.edition.specs.declared.Edition.{Edition}
use Rattle.card.specs.Content.{Content}
use Rattle.card.specs.Refusals.{none}
use Rattle.card.specs.Layout.{layout}
use Rattle.card.specs.Rules.{Allowed, Meets}
use Rattle.card.specs.Reading.{accepted, answer}
use Rattle.card.proofs.Seventeen.{table_of}
use Rattle.card.proofs.LastRow.{met_length}
use Rattle.demands.specs.Demands.{LentEdition}
use Rattle.demands.proofs.Accepts.{reads}
use Rattle.demands.proofs.AnyAccepted.{Like, accepted_is}
use Rattle.differences.specs.declared.Differences.{Differences}
use Rattle.differences.specs.Differences.{Difference, addresses, bytes_of, differences_of}
use Rattle.differences.specs.Exact.{Exact}
use Rattle.differences.specs.Answers.{told, side_by_side, compared}
use Rattle.differences.specs.Steps.{bytes_at}
use Rattle.differences.proofs.Words.{tags_16}
use Rattle.differences.proofs.Placed.{bytes_at_lem}
use Rattle.differences.proofs.Exactness.{differences_exact, none_of_one, none_listed}
use Rattle.differences.proofs.Others.{bytes_14, free_at, last_at, first_same}

-- ---- what an allowed content has
pub values_16 : (e : Edition) (c : Content) → LentEdition e → Allowed e c → length c.values ≡ 16
values_16 e c n a = met_length a.rows ∙ (table_of e n a.formed).count

empty_is : (l : List Difference) → length l ≡ 0 → l ≡ []
empty_is [] h = refl
empty_is (x ∷ l) h = absurd (omega arith)

-- two contents with the same values and the same other bytes are one
same_content : (c d : Content) → length c.free ≡ 12 → length d.free ≡ 12 → c.values ≡ d.values → bytes_of c ≡ bytes_of d → c ≡ d
same_content c d fc fd v b =
    let first : c.first ≡ d.first = first_same c d b in
    let free : c.free ≡ d.free =
    ext_get_or 0 c.free d.free (fc ∙ sym fd) (λ k h.
    sym (free_at c fc k (omega arith)) ∙ ap (λ (l : List ℕ). get_or l (suc k) 0) b ∙ free_at d fd k (omega arith)) in
    let last : c.last ≡ d.last = sym (last_at c fc) ∙ ap (λ (l : List ℕ). get_or l 13 0) b ∙ last_at d fd in
    let whole : record { first = c.first; free = c.free; last = c.last; values = c.values } ≡ d = rw (first, free, last, v) in
    whole

module _ (e : Edition) (s t : List ℕ) (n : LentEdition e) (p : Meets e s) (q : Meets e t) where
  abbrev c : Content
  c = p.content

  abbrev d : Content
  d = q.content

  pub first_read : answer e s ≡ accepted c
  first_read = (reads e s c n).1 (p.allowed, p.drawn)

  pub second_read : answer e t ≡ accepted d
  second_read = (reads e t d n).1 (q.allowed, q.drawn)

  -- the answer is the list of the differences of their contents
  pub differences_listed : compared e s t ≡ told none (differences_of c d)
  unfolding side_by_side
  differences_listed = rw (first_read, second_read)

  -- with an entry exactly where they differ, once, in order
  pub listed_exactly : Exact c d (differences_of c d)
  listed_exactly =
      differences_exact c d (values_16 e c n p.allowed ∙ sym tags_16) (values_16 e d n q.allowed ∙ sym tags_16) (bytes_14 c p.allowed.free) (bytes_14 d q.allowed.free)

  -- the bytes that belong to no object are those of the images, by address
  pub bytes_by_address : (bytes_of c ≡ bytes_at s addresses) × (bytes_of d ≡ bytes_at t addresses)
  bytes_by_address = (own s c (accepted_is e s c n first_read), own t d (accepted_is e t d n second_read))
    where
      own : (u : List ℕ) (x : Content) → Like u x → bytes_of x ≡ bytes_at u addresses
      own u x k = ap bytes_of k.content ∙ bytes_at_lem u x.values k.size

  -- two accepted images give an empty list exactly when they are equal
  pub empty_when_equal : ((compared e s t).count ≡ 0) ↔ (s ≡ t)
  empty_when_equal = (there, back)
    where
      count : (compared e s t).count ≡ length (differences_of c d)
      count = ap (λ (x : Differences). x.count) differences_listed

      there : (compared e s t).count ≡ 0 → s ≡ t
      there h =
          let x = listed_exactly in
          let none : length (x.objects ++ x.bytes) ≡ 0 = sym (ap length x.whole) ∙ sym count ∙ h in
          let both = length-append x.objects x.bytes in
          let same : c ≡ d =
          same_content c d p.allowed.free q.allowed.free (none_listed x.by_tag (empty_is x.objects (omega arith))) (none_listed x.by_address (empty_is x.bytes (omega arith))) in
          sym p.drawn ∙ ap layout same ∙ q.drawn

      back : s ≡ t → (compared e s t).count ≡ 0
      back h =
          let a : accepted c ≡ accepted d = sym first_read ∙ ap (answer e) h ∙ second_read in
          let same : c ≡ d = cc in
          count ∙ ap length (ap (differences_of c) (sym same) ∙ none_of_one c (values_16 e c n p.allowed ∙ sym tags_16) (bytes_14 c p.allowed.free))
