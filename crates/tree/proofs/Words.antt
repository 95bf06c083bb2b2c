-- The words of a listing, stored one object after the other. Assumes nothing.
use mathlib.Core.Path.{◌≡◌, refl}
use Prim.Native.Nat.{ℕ, ◌+◌, ◌*◌}
use native.Mathlib.Omega.{arith}
use mathlib.Core.List.{List, [], ◌∷◌, ◌++◌}
use lib.ListN.{length}
use lib.Seq.{sets}
use Rattle.ground.proofs.Stores.{sets_then}
use Rattle.tree.specs.Listing.{Entry, entry}
use Rattle.tree.specs.Answers.{words}

pub length_words : (es : List Entry) → length (words es) ≡ 4 * length es
unfolding words
length_words [] = refl
length_words (entry t d a n ∷ es) = let h = length_words es in omega arith

pub words_append : (es fs : List Entry) → words (es ++ fs) ≡ words es ++ words fs
unfolding words
words_append [] fs = refl
words_append (entry t d a n ∷ es) fs = rw (words_append es fs)

pub store_more : (room : List ℕ) (k : ℕ) (es fs : List Entry) → sets (sets room k (words es)) (k + 4 * length es) (words fs) ≡ sets room k (words (es ++ fs))
store_more room k es fs = rw words_append (sets_then room (words es) k (words fs) refl (rw length_words))
