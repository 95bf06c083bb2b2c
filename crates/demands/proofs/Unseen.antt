-- What is not said: four changes of card S meet the rules again. Each is the layout of a card near S, by computation. Assumes nothing.
use Prim.Native.Nat.{ℕ}
use native.Mathlib.Omega.{arith}
use mathlib.Core.Path.{◌≡◌, refl, sym, ap, ◌∙◌}
use mathlib.Core.Bool.{true}
use mathlib.Core.List.{List, [], ◌∷◌, map}
use lib.ListN.{length, get_or, set, replicate}
use Rattle.edition.specs.Sets.{permitted}
use Rattle.edition.specs.Rows.{tags}
use Rattle.edition.specs.Tables.{terminal}
use Rattle.ground.specs.Lists.{among, leading}
use Rattle.rules.specs.Values.{is_text, holds, judged}
use Rattle.card.specs.Content.{Content}
use Rattle.lengths.specs.Lengths.{length_field}
use Rattle.card.specs.Layout.{identifier, head, body, xor_all, summed, template, spaces, lasts, filler, object_tags, layout}
use Rattle.card.specs.Rules.{entries, object_rows, AllMet, one_more, first_allowed, last_allowed, Allowed, Meets}
use Rattle.demands.specs.Marked.{values_s, card_of}
use Rattle.demands.specs.OneByte.{image_s, GoUnseen}
use Rattle.demands.proofs.Accepts.{reads}
use Rattle.demands.proofs.Wrong.{lent, read_S}

-- ---- cards near S: another address 0, other free bytes, another last byte, other values of the same lengths
allowed_S : Allowed terminal (card_of values_s)
allowed_S = ((reads terminal image_s (card_of values_s) lent).0 read_S).0

abbrev near : ℕ → List ℕ → ℕ → List (List ℕ) → Content
near first free last vs = record { first = first; free = free; last = last; values = vs }

module _ (first : ℕ) (free : List ℕ) (last : ℕ) (vs : List (List ℕ)) where
  near-allowed : first_allowed first ≡ true → last_allowed first last ≡ true → length free ≡ 12 → AllMet (object_rows terminal) vs
      → map length vs ≡ map length values_s → length (body object_tags vs) ≡ length (body object_tags values_s) → Allowed terminal (near first free last vs)
  unfolding card_of
  near-allowed f l n rows lengths size = record {
    formed = allowed_S.formed;
    rows = rows;
    names = rw lengths allowed_S.names;
    town = rw lengths allowed_S.town;
    least = rw size allowed_S.least;
    most = rw size allowed_S.most;
    first = f;
    last = l;
    free = n;
  }

met_S : AllMet (object_rows terminal) values_s
unfolding card_of
met_S = allowed_S.rows

-- the fund name BA for AB
turned : List (List ℕ)
unfolding values_s
turned = set values_s 0 (0x42 ∷ 0x41 ∷ [])

met_turned : AllMet (object_rows terminal) values_s → AllMet (object_rows terminal) turned
unfolding turned values_s terminal entries tags permitted judged holds leading is_text among
met_turned (one_more m later) = one_more {v = 0x42 ∷ 0x41 ∷ []} (refl, refl) later

-- ---- the four: all that a layout is made of, opened
unfoldable drawing : Unit {0}
unfolding layout card_of values_s tags length_field identifier head body xor_all summed template spaces lasts filler first_allowed last_allowed
drawing = tt

meets_S : Meets terminal image_s
meets_S = record { content = card_of values_s; allowed = allowed_S; drawn = refl }

-- S with this address 0 and this last byte
meets_ends : (first last : ℕ) → first_allowed first ≡ true → last_allowed first last ≡ true → Meets terminal (set (set image_s 0 first) 255 last)
unfolding drawing
meets_ends first last f l = record {
  content = near first (replicate 12 0) last values_s;
  allowed = near-allowed first (replicate 12 0) last values_s f l refl met_S refl refl;
  drawn = refl;
}

-- S with these free bytes, and with these values
meets_free : (free : List ℕ) (t : List ℕ) → length free ≡ 12 → layout (near 0x92 free 0 values_s) ≡ t → Meets terminal t
unfolding drawing
meets_free free t n drawn = record { content = near 0x92 free 0 values_s; allowed = near-allowed 0x92 free 0 values_s refl refl n met_S refl refl; drawn = drawn }

meets_turned : (t : List ℕ) → layout (card_of turned) ≡ t → Meets terminal t
unfolding drawing turned
meets_turned t drawn = record { content = card_of turned; allowed = near-allowed 0x92 (replicate 12 0) 0 turned refl refl refl (met_turned met_S) refl refl; drawn = drawn }

differ : (a x y : ℕ) (s t : List ℕ) → get_or s a 0 ≡ x → get_or t a 0 ≡ y → (x ≡ y → ⊥) → s ≡ t → ⊥
differ a x y s t p q h e = h (sym p ∙ ap (λ (l : List ℕ). get_or l a 0) e ∙ q)

pub go_unseen : GoUnseen
unfolding drawing turned
go_unseen = record {
  two_bytes = record { before = meets_S; after = meets_turned _ refl; changed = differ 34 0x41 0x42 _ _ refl refl (λ z. omega arith) };
  free_byte = record { before = meets_S; after = meets_free (set (replicate 12 0) 11 0x01) _ refl refl; changed = differ 29 0x00 0x01 _ _ refl refl (λ z. omega arith) };
  address_0 = record { before = meets_S; after = meets_ends _ _ refl refl; changed = differ 0 0x92 0xA2 _ _ refl refl (λ z. omega arith) };
  last_byte = record { before = meets_ends _ _ refl refl; after = meets_ends _ _ refl refl; changed = differ 255 0x00 0xFF _ _ refl refl (λ z. omega arith) };
}
