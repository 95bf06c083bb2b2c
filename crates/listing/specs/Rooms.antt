-- What stands in a room behind a listing.
use Rattle.std.specs.Prelude.{ℕ, ◌≤◌, ◌≡◌, cond, List, map, leb, length, take}
use Rattle.std.proofs.lemmas.List.Edits.{sets}
use Rattle.edition.specs.declared.Edition.{Edition}
use Rattle.card.specs.declared.Object.{Object}
use Rattle.card.specs.declared.Record.{Record}
use Rattle.card.specs.Reading.{reading}
use Rattle.listing.specs.Listing.{listing_of}

-- the longest listing has 9 bytes and sixteen lines of 32
abbrev pub listed_size : Edition → List ℕ → List ℕ → ℕ
listed_size e image room = cond (leb 521 (length room)) (length (listing_of (reading e image))) 0

abbrev pub listed_room : Edition → List ℕ → List ℕ → List ℕ
listed_room e image room = cond (leb 521 (length room)) (sets room 0 (listing_of (reading e image))) room

-- n counts bytes at the start of a room; the second part follows from the first, and is what a caller that lends them has to show
abbrev pub Within : ℕ → List ℕ → Type 0
Within n room = (n ≤ length room) × (n ≡ length (take n room))

-- the bytes of an object that are listed: no more than it has
abbrev pub shown : Object → List ℕ
shown o = take o.length o.bytes

abbrev pub shown_of : Record → List (List ℕ)
shown_of r = map shown r.objects
