-- The numbers of two lists in turn: one pair after the other. Assumes nothing.
use Prim.Native.Nat.{ℕ, ◌+◌, ◌≤◌, ◌<◌}
use native.Mathlib.Numerals.{add-one}
use mathlib.Core.Path.{◌≡◌}
use mathlib.Core.List.{List, [], ◌∷◌, ◌++◌}
use lib.ListN.{length, get_or, drop, drop_of_length-le}
use lib.Seq.{drop-cons}
use Rattle.card.specs.declared.Places.{Places}
use Rattle.wire.specs.PlaceBytes.{paired, places_bytes, places_room}

pub paired_next : (ms ns : List ℕ) (k : ℕ) → k < length ms → k < length ns
    → paired (drop k ms) (drop k ns) ≡ (get_or ms k 0 ∷ get_or ns k 0 ∷ []) ++ paired (drop (k + 1) ms) (drop (k + 1) ns)
unfolding paired
paired_next ms ns k h l = rw (add-one, drop-cons ms k 0 h, drop-cons ns k 0 l)

pub paired_end : (ms ns : List ℕ) (k : ℕ) → length ms ≤ k → paired (drop k ms) (drop k ns) ≡ []
unfolding paired
paired_end ms ns k h = rw (drop_of_length-le ms h)

pub places_room_lem : (t : Places) (room : List ℕ) → length room ≡ 32 → places_room t room ≡ places_bytes t
unfolding places_room
places_room_lem t room n = rw n
