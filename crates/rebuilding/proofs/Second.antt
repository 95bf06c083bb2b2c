-- Five: from the first image and what the second has at the listed objects and addresses, whatever else is handed over, the second image is rebuilt. Assumes nothing.
use Prim.Native.Nat.{ℕ, zero, suc, ◌≤◌}
use native.Mathlib.Omega.{arith}
use mathlib.Core.Path.{◌≡◌, ap, ◌∙◌}
use mathlib.Core.List.{List, []}
use lib.ListN.{length, get_or, length-map}
use Rattle.edition.specs.declared.Edition.{Edition}
use Rattle.card.specs.declared.Record.{Record}
use Rattle.card.specs.Content.{Content, value_of, content_of}
use Rattle.card.specs.Refusals.{none, gate, or_else}
use Rattle.card.specs.Rules.{Meets}
use Rattle.card.specs.Reading.{answer, answer_of}
use Rattle.card.proofs.Records.{Short, short-end, short-more, allowed_short, content_back}
use Rattle.demands.specs.Demands.{LentEdition, LentRecord}
use Rattle.demands.proofs.Writes.{allowed_written}
use Rattle.differences.specs.declared.Differences.{Differences}
use Rattle.differences.specs.Differences.{differences_of}
use Rattle.differences.specs.Answers.{thirty, compared}
use Rattle.rebuilding.specs.Rebuilding.{Supplies, rebuilt_from, rebuild_refusal, rebuild_room}
use Rattle.rebuilding.proofs.Rebuilt.{second_rebuilt}
use Rattle.differences.proofs.Images.{values_16, first_read, differences_listed}

short_at : {vs : List (List ℕ)} → Short vs → (j : ℕ) → length (get_or vs j []) ≤ 28
short_at short-end zero = omega arith
short_at short-end (suc j) = omega arith
short_at (short-more h r) zero = h
short_at (short-more h r) (suc j) = short_at r j

module _ (e : Edition) (s t : List ℕ) (n : LentEdition e) (p : Meets e s) (q : Meets e t) (r : Record) (lent : LentRecord r) (supplies : Supplies (compared e s t).entries (content_of r) q.content) where
  abbrev c : Content
  c = p.content

  abbrev d : Content
  d = q.content

  listed : (compared e s t).entries ≡ thirty (differences_of c d)
  listed = ap (λ (x : Differences). x.entries) (differences_listed e s t n p q)

  rebuilt-second : rebuilt_from e s (compared e s t).entries r ≡ d
  unfolding answer_of content_of
  rebuilt-second =
      let own : content_of (answer_of e.number (answer e s)).content ≡ c = rw (first_read e s t n p q) (content_back e.number c) in
      let many : length (content_of r).values ≡ 16 = length-map r.objects value_of ∙ lent.objects in
      rw (own, listed)
      (second_rebuilt c d (content_of r) (values_16 e c n p.allowed) (values_16 e d n q.allowed) p.allowed.free q.allowed.free many lent.free (short_at (allowed_short e c p.allowed))
      (rw listed at supplies))

  pub rebuild_accepts : rebuild_refusal e s (compared e s t).entries r 256 ≡ none
  unfolding rebuild_refusal or_else gate answer_of
  rebuild_accepts = rw (rebuilt-second, first_read e s t n p q) (allowed_written e d q.allowed)

  pub second_image : (room : List ℕ) → length room ≡ 256 → rebuild_room e s (compared e s t).entries r room ≡ t
  unfolding rebuild_room
  second_image room size = rw (size, rebuild_accepts, rebuilt-second) q.drawn
