-- What the code of `compare` finds is the answer to two images. Assumes nothing.
use Prim.Native.Nat.{ℕ, ◌-◌, ◌≤◌, ◌/◌, ◌%◌, ◌<◌}
use native.Mathlib.Omega.{arith}
use mathlib.Core.Path.{refl, sym, ◌≡◌, ◌∙◌}
use mathlib.Core.List.{List, [], map, map-append, ◌++◌}
use lib.ListN.{length, replicate, length-append, length-map}
use Rattle.ground.specs.Rooms.{Put}
use Rattle.ground.proofs.Puts.{put_then}
use Rattle.ground.proofs.Stores.{sets_blank}
use Rattle.edition.specs.declared.Edition.{Edition}
use Rattle.card.specs.declared.Refusal.{Refusal}
use Rattle.card.specs.Content.{Content}
use Rattle.card.specs.Refusals.{none}
use Rattle.card.specs.Layout.{object_tags}
use Rattle.card.specs.Reading.{accepted, refused, content_at, answer}
use Rattle.differences.specs.declared.Differences.{Differences}
use Rattle.differences.specs.Differences.{Difference, of_values, of_bytes, along, addresses, bytes_of, differences_of}
use Rattle.differences.specs.Answers.{word, word_of, thirty, told, side_by_side, compared}
use Rattle.differences.specs.Steps.{object_words, byte_words}
use Rattle.differences.proofs.Single.{few_of_values, few_of_bytes}
use Rattle.differences.proofs.Sides.{along_few}
use Rattle.differences.proofs.Words.{tags_16, addresses_14}
use Rattle.differences.proofs.Placed.{bytes_at_lem}

-- a word tells its kind, its tag and its place
pub word_parts : (kind tag place : ℕ) → tag < 256 → place < 256 → (word kind tag place / 65536 ≡ kind) × (word kind tag place / 256 % 256 ≡ tag) × (word kind tag place % 256 ≡ place)
word_parts kind tag place t p = (omega arith, omega arith, omega arith)

-- a list has at most sixteen objects and fourteen addresses
pub at_most_30 : (c d : Content) → length (differences_of c d) ≤ 30
unfolding differences_of
at_most_30 c d =
    rw length-append
    (omega (arith, tags_16, addresses_14, along_few of_values object_tags c.values d.values few_of_values, along_few of_bytes addresses (bytes_of c) (bytes_of d) few_of_bytes))

told_is : (l : List Difference) → length l ≤ 30 → (room : List ℕ) (n : ℕ) → Put (replicate 30 0) 0 (map word_of l) room n → record { refusal = none; count = n; entries = room } ≡ told none l
unfolding thirty
told_is l few room n put =
    let many = length-map l word_of in
    let count : n ≡ length l = omega (arith, put.place) in
    let words : room ≡ map word_of l ++ replicate (30 - length (map word_of l)) 0 = put.stored ∙ sets_blank 30 0 (map word_of l) (omega arith) in
    rw (count, words, many)

module _ (e : Edition) (s t : List ℕ) where
  pub compared_first : (x : Refusal) → answer e s ≡ refused x → (r : Differences) → r ≡ told x [] → r ≡ compared e s t
  unfolding side_by_side
  compared_first x a r h = rw a h

  pub compared_second : (c : Content) → answer e s ≡ accepted c → (y : Refusal) → answer e t ≡ refused y → (r : Differences) → r ≡ told y [] → r ≡ compared e s t
  unfolding side_by_side
  compared_second c a y b r h = rw (a, b) h

  pub compared_both : (vs ws : List (List ℕ)) → answer e s ≡ accepted (content_at s vs) → answer e t ≡ accepted (content_at t ws) → length s ≡ 256 → length t ≡ 256
      → (r₁ r₂ : List ℕ) (n₁ n₂ : ℕ) → Put (replicate 30 0) 0 (object_words vs ws) r₁ n₁ → Put r₁ n₁ (byte_words s t) r₂ n₂
      → (x : Refusal) → x ≡ none → record { refusal = x; count = n₂; entries = r₂ } ≡ compared e s t
  unfolding side_by_side differences_of content_at
  compared_both vs ws a b m n r₁ r₂ n₁ n₂ p q x z =
      let objects : List Difference = along of_values object_tags vs ws in
      let bytes : List Difference = along of_bytes addresses (bytes_of (content_at s vs)) (bytes_of (content_at t ws)) in
      let all : differences_of (content_at s vs) (content_at t ws) ≡ objects ++ bytes = refl in
      let same : object_words vs ws ++ byte_words s t ≡ map word_of (objects ++ bytes) = rw (← bytes_at_lem s vs m, ← bytes_at_lem t ws n) (sym (map-append word_of objects bytes)) in
      let put : Put (replicate 30 0) 0 (map word_of (objects ++ bytes)) r₂ n₂ = rw same at (put_then p q) in
      rw (z, a, b) (told_is (objects ++ bytes) (rw all at (at_most_30 (content_at s vs) (content_at t ws))) r₂ n₂ put)
