-- The lines of the objects, one after the other: what is left from the i-th on is the i-th and what is left behind it. Assumes nothing.
use mathlib.Core.Path.{◌≡◌, refl}
use mathlib.Core.List.{List, [], ◌∷◌, ◌++◌, map}
use Prim.Native.Nat.{ℕ, ◌+◌, ◌<◌}
use native.Mathlib.Numerals.{add-one}
use native.Mathlib.Omega.{arith}
use lib.ListN.{length, get_or, drop}
use lib.Seq.{drop-cons}
use Rattle.edition.specs.Rows.{tags, tag_of}
use Rattle.card.specs.declared.Object.{Object}
use Rattle.card.specs.Content.{no_object}
use Rattle.card.specs.Layout.{object_tags}
use Rattle.card.proofs.Layouts.{tags_next}
use Rattle.listing.specs.Listing.{object_line, object_lines}
use Rattle.listing.specs.Rooms.{shown}

-- the lines from the i-th object on
abbrev pub from : ℕ → List Object → List ℕ
from i os = object_lines (drop i object_tags) (map shown (drop i os))

pub from_end : (os : List Object) → from 16 os ≡ []
unfolding tags object_lines
from_end os = go (map shown (drop 16 os))
  where
    go : (vs : List (List ℕ)) → object_lines [] vs ≡ []
    go [] = refl
    go (v ∷ vs) = refl

pub from_next : (os : List Object) (i : ℕ) → i < 16 → length os ≡ 16 → (tag : ℕ) → tag ≡ tag_of i → from i os ≡ object_line tag (shown (get_or os i no_object)) ++ from (i + 1) os
unfolding object_lines
from_next os i h all tag tagged =
    let k : i < length os = omega arith in
    rw tagged (simp (tags_next i h, drop-cons os i no_object k, add-one))
