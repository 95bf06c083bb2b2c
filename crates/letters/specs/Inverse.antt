-- What is promised of the two turnings together: each undoes the other.
use Rattle.std.specs.Prelude.{ℕ, ◌≤◌, ◌≡◌, true, List, length, take}
use Rattle.letters.specs.Letters.{utf8, have_letters}
use Rattle.letters.specs.Turning.{spelled, code}

-- bytes that have letters are all spelled, where there is room, and come back the same
pub record BytesComeBack (bs : List ℕ) : Type 0 where
  pub whole : (n : ℕ) → length (utf8 bs) ≤ n → spelled n bs ≡ bs
  pub back : code (utf8 bs) ≡ bs

-- what is taken of a text comes back the same, and what it became has letters
pub record TextComesBack (text : List ℕ) : Type 0 where
  pub back : utf8 (code text) ≡ take (length (utf8 (code text))) text
  pub letters : have_letters (code text) ≡ true
