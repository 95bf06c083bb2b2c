-- Writing back: the bytes whose listing and plain values are lent.
use Rattle.std.specs.Prelude.{◌≡◌, ℕ, ◌≤◌, ◌<◌, List, length, Result, Ok, Err}
use Rattle.std.proofs.lemmas.List.Edits.{sets}
use Rattle.tree.specs.Listing.{Entry, took, listing}
use Rattle.tree.specs.Answers.{words}
use Rattle.tree.specs.Trees.{Below, plain_of}
use Rattle.tree_back.specs.declared.BackError.{BackError}
use Rattle.tree_back.specs.declared.BackError.TheVariants.{Room, Listing}

-- b are bytes that the listing accepts, ws is their listing, and vs are their plain values
pub record Those (ws vs b : List ℕ) : Type 0 where
  pub short : length b ≤ 4096
  pub bytes : Below 256 b
  pub es : List Entry
  pub used : ℕ
  pub listed : listing 1 0 b ≡ took es used
  pub are_words : words es ≡ ws
  pub are_values : plain_of b es ≡ vs

-- 55 the room is too small, 56 no bytes have this listing and these values
abbrev pub number_of : BackError → ℕ
number_of Room = 55
number_of Listing = 56

-- the answer and the room after it: the bytes, and what lies behind them as it was; 55 where the room is too small for them; 56 where there are none
pub data Back (ws vs room : List ℕ) (r : Result ℕ BackError) (after : List ℕ) : Type 0 where
  wrote : (b : List ℕ) → Those ws vs b → length b ≤ length room → r ≡ Ok (length b) → after ≡ sets room 0 b → Back ws vs room r after
  small : (b : List ℕ) → Those ws vs b → length room < length b → r ≡ Err Room → after ≡ room → Back ws vs room r after
  none-such : ((b : List ℕ) → Those ws vs b → ⊥) → r ≡ Err Listing → after ≡ room → Back ws vs room r after
