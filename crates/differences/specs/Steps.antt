-- The list as it is put together: an entry as one number, 0 where nothing differs.
use Rattle.std.specs.Prelude.{ℕ, cond, List, [], ◌∷◌, map, eqb, get_or}
use Rattle.card.specs.Layout.{object_tags}
use Rattle.differences.specs.Differences.{Difference, of_values, of_bytes, along, addresses}
use Rattle.differences.specs.Answers.{word, word_of}

abbrev pub entry_of : List Difference → ℕ
entry_of [] = 0
entry_of (x ∷ l) = word_of x

abbrev pub some : ℕ → List ℕ
some entry = cond (eqb entry 0) [] (entry ∷ [])

-- of two lengths that differ
abbrev pub unlike_entry : ℕ → ℕ → ℕ → ℕ
unlike_entry tag m n = cond (eqb m 0) (word 1 tag 0) (cond (eqb n 0) (word 2 tag 0) (word 3 tag 0))

-- the words of the objects, and of the addresses of two images
abbrev pub object_words : List (List ℕ) → List (List ℕ) → List ℕ
object_words vs ws = map word_of (along of_values object_tags vs ws)

abbrev pub bytes_at : List ℕ → List ℕ → List ℕ
bytes_at s at = map (λ (a : ℕ). get_or s a 0) at

abbrev pub byte_words : List ℕ → List ℕ → List ℕ
byte_words s t = map word_of (along of_bytes addresses (bytes_at s addresses) (bytes_at t addresses))
