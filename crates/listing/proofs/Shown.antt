-- The bytes listed of a reading's objects are their values. Assumes nothing.
use mathlib.Core.Path.{◌≡◌, refl, sym, ◌∙◌}
use mathlib.Core.List.{List, [], ◌∷◌, map}
use Prim.Native.Nat.{ℕ}
use lib.Seq.{take-append_seam}
use Rattle.edition.specs.declared.Edition.{Edition}
use Rattle.card.specs.Content.{Content, value_of, content_of, object_of, record_of, empty_record}
use Rattle.card.proofs.Records.{value_back}
use Rattle.card.specs.declared.Reading.{Reading}
use Rattle.card.specs.Reading.{Answer, accepted, refused, answer, answer_of, reading}
use Rattle.listing.specs.Listing.{listing, listing_of}
use Rattle.listing.specs.Rooms.{shown, shown_of}

shown_value : (v : List ℕ) → shown (object_of v) ≡ value_of (object_of v)
unfolding object_of
shown_value v = take-append_seam v _ ∙ sym (value_back v)

shown_values : (vs : List (List ℕ)) → map shown (map object_of vs) ≡ map value_of (map object_of vs)
shown_values [] = refl
shown_values (v ∷ vs) = rw (shown_value v, shown_values vs)

shown_record : (number : ℕ) (c : Content) → shown_of (record_of number c) ≡ (content_of (record_of number c)).values
unfolding record_of content_of
shown_record number c = shown_values c.values

shown_answer : (number : ℕ) (a : Answer) → shown_of (answer_of number a).content ≡ (content_of (answer_of number a).content).values
unfolding answer_of content_of value_of empty_record
shown_answer number (accepted c) = shown_record number c
shown_answer number (refused x) = refl

pub listed : (e : Edition) (s : List ℕ) (r : Reading) → r ≡ reading e s → listing r.refusal (shown_of r.content) ≡ listing_of (reading e s)
listed e s r q = rw (q, shown_answer e.number (answer e s))
