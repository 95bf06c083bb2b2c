-- The words of the vocabulary and the tags are words; computed for all of them. Assumes nothing.
use Prim.Native.Nat.{ℕ, ◌<◌}
use borrow.Author.Tests.{eq-eqb, ltb-true}
use mathlib.Core.Path.{◌≡◌, refl}
use mathlib.Core.Bool.{Bool, true}
use mathlib.Core.List.{List, [], ◌∷◌}
use lib.Dec.{ltb}
use lib.ListN.{length}
use Rattle.ground.specs.Lists.{same_list}
use Rattle.ground.specs.Rooms.{hex}
use Rattle.ground.proofs.Lists.{alike_below, alike_below_lem}
use Rattle.edition.specs.Rows.{tags, tag_of}
use Rattle.table_text.specs.Vocabulary.{vocabulary, word_of}
use Rattle.table_take.proofs.Signs.{Among, is_among, among_of, Word}

pub same_self : (w : List ℕ) → same_list w w ≡ true
unfolding same_list
same_self [] = refl
same_self (b ∷ bs) = rw (eq-eqb b b refl, same_self bs)

is_spelled : ℕ → Bool
is_spelled i = is_among 0x21 0x7E (word_of i)

is_there : ℕ → Bool
is_there i = ltb 0 (length (word_of i))

is_tag : ℕ → Bool
is_tag k = is_among 0x30 0x46 (hex (tag_of k))

always : ℕ → Bool
always n = true

spelled : alike_below is_spelled always 29 ≡ true
unfolding is_spelled always is_among vocabulary
spelled = refl

there : alike_below is_there always 29 ≡ true
unfolding is_there always vocabulary
there = refl

tagged : alike_below is_tag always 17 ≡ true
unfolding is_tag always is_among hex tags
tagged = refl

pub word_signs : (i : ℕ) → i < 29 → Among 0x21 0x7E (word_of i)
unfolding is_spelled always
word_signs i h = among_of 0x21 0x7E (word_of i) (alike_below_lem is_spelled always 29 spelled i h)

pub word_word : (i : ℕ) → i < 29 → Word (word_of i)
unfolding is_there always
word_word i h = record { some = ltb-true 0 _ (alike_below_lem is_there always 29 there i h); signs = word_signs i h }

pub tag_signs : (k : ℕ) → k < 17 → Among 0x30 0x46 (hex (tag_of k))
unfolding is_tag always
tag_signs k h = among_of 0x30 0x46 (hex (tag_of k)) (alike_below_lem is_tag always 17 tagged k h)

pub edition_signs : Among 0x30 0x7A (word_of 27)
unfolding vocabulary is_among
edition_signs = among_of 0x30 0x7A (word_of 27) refl
