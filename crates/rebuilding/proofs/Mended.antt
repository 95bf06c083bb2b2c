-- The record that is put together is that of the rebuilt content; and the answers of `rebuild` by its tests. Assumes nothing.
use Prim.Native.Nat.{ℕ}
use borrow.Author.Tests.{eq-eqb, ne_eqb}
use mathlib.Core.Path.{refl, sym, ap₂, ◌≡◌, ◌∙◌}
use mathlib.Core.Bool.{cond}
use mathlib.Core.List.{List}
use lib.ListN.{length}
use Rattle.edition.specs.declared.Edition.{Edition}
use Rattle.card.specs.declared.Object.{Object}
use Rattle.card.specs.declared.Record.{Record}
use Rattle.card.specs.declared.Refusal.{Refusal}
use Rattle.card.specs.Content.{Content, value_of, content_of}
use Rattle.card.specs.Refusals.{refuse, none, gate, or_else}
use Rattle.card.specs.Layout.{object_tags}
use Rattle.card.specs.Reading.{reading}
use Rattle.card.specs.Refusing.{write_refusal}
use Rattle.card.specs.Writing.{record_refusal, buffer_after}
use Rattle.card.proofs.Chains.{or_pass, or_stop}
use Rattle.differences.specs.Differences.{free_addresses}
use Rattle.rebuilding.specs.Rebuilding.{names_tag, names_address, mended, rebuilt, rebuilt_from, rebuild_refusal, rebuild_room}
use Rattle.rebuilding.proofs.Picked.{mended_map}

pub record_mended : (l : List ℕ) (a b : Record) (first last number : ℕ) (free : List ℕ) (objects : List Object)
    → first ≡ cond (names_address l 0) b.first a.first → free ≡ mended (names_address l) free_addresses a.free b.free
    → last ≡ cond (names_address l 255) b.last a.last → objects ≡ mended (names_tag l) object_tags a.objects b.objects
    → content_of (record { first = first; free = free; last = last; objects = objects; number = number }) ≡ rebuilt l (content_of a) (content_of b)
unfolding content_of rebuilt
record_mended l a b first last number free objects p q r o = rw (p, q, r, o, mended_map value_of (names_tag l) object_tags a.objects b.objects)

-- ---- the answers of `rebuild`, by its tests
module _ (e : Edition) (s l : List ℕ) (r : Record) (room : List ℕ) where
  abbrev answered : Refusal
  answered = rebuild_refusal e s l r (length room)

  pub room_left : (answered.number ≡ 0 → ⊥) → room ≡ rebuild_room e s l r room
  unfolding rebuild_room
  room_left h = rw (ne_eqb answered.number 0 h)

  pub size_told : (length room ≡ 256 → ⊥) → refuse 20 0 0 ≡ answered
  unfolding rebuild_refusal gate or_else
  size_told h = rw (ne_eqb (length room) 256 h)

  module _ (n : length room ≡ 256) where
    passed : answered ≡ or_else (reading e s).refusal (write_refusal e e.number (rebuilt_from e s l r) (length room))
    unfolding rebuild_refusal gate
    passed = rw (eq-eqb (length room) 256 n) (or_pass none _ refl)

    pub first_told : ((reading e s).refusal.number ≡ 0 → ⊥) → (reading e s).refusal ≡ answered
    first_told h = sym (passed ∙ or_stop _ _ h)

    module _ (z : (reading e s).refusal.number ≡ 0) (m : Record) (same : content_of m ≡ rebuilt_from e s l r) (own : m.number ≡ e.number) where
      pub last_told : record_refusal e m room ≡ answered
      last_told = ap₂ (λ (k : ℕ) (c : Content). write_refusal e k c (length room)) own same ∙ sym (passed ∙ or_pass _ _ z)

      pub room_filled : buffer_after e m room ≡ rebuild_room e s l r room
      unfolding rebuild_room buffer_after
      room_filled = rw (← last_told, same)
