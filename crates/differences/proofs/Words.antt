-- The words of the list, what is left of them from the i-th pair on: the words of that pair, and what is left behind it. Assumes nothing.
use Prim.Native.Nat.{ℕ, ◌+◌, ◌-◌, ◌<◌}
use native.Mathlib.Omega.{arith}
use borrow.Author.Tests.{ltb-true}
use mathlib.Core.Path.{refl, sym, ap, ◌≡◌, ◌∙◌}
use mathlib.Core.List.{List, [], map, map-append, ◌++◌}
use lib.Dec.{ltb}
use lib.ListN.{length, take, drop, get_or, length-map, get_or-map}
use lib.Seq.{get_or-take}
use Rattle.ground.specs.Lists.{leading}
use Rattle.ground.proofs.Lists.{leading_before}
use Rattle.edition.specs.Rows.{tags, tag_of}
use Rattle.card.specs.Layout.{object_tags}
use Rattle.reader_steps.specs.Steps.{values_at}
use Rattle.reader_steps.proofs.Copies.{value_at_lem}
use Rattle.differences.specs.Differences.{of_values, of_bytes, along, addresses}
use Rattle.differences.specs.Answers.{word_of}
use Rattle.differences.specs.Steps.{entry_of, some, bytes_at}
use Rattle.differences.proofs.Single.{few_of_values, few_of_bytes, some_entry}
use Rattle.differences.proofs.Sides.{along_next, along_end}

pub tags_16 : length object_tags ≡ 16
unfolding tags
tags_16 = refl

pub addresses_14 : length addresses ≡ 14
unfolding addresses
addresses_14 = refl

-- each of some bytes' addresses is below 256 where a test of all says so
pub octet_in : (xs : List ℕ) (i : ℕ) → leading (λ (a : ℕ). ltb a 256) xs ≡ length xs → i < length xs → get_or xs i 0 < 256
octet_in xs i w h = ltb-true (get_or xs i 0) 256 (leading_before (λ (a : ℕ). ltb a 256) 0 xs i (rw w h))

addresses_octets : leading (λ (a : ℕ). ltb a 256) addresses ≡ length addresses
unfolding addresses leading
addresses_octets = refl

pub address_low : (i : ℕ) → i < 14 → get_or addresses i 0 < 256
address_low i h = octet_in addresses i addresses_octets (rw addresses_14 h)

-- ---- the objects
abbrev pub objects_from : ℕ → List (List ℕ) → List (List ℕ) → List ℕ
objects_from i vs ws = map word_of (along of_values (drop i object_tags) (drop i vs) (drop i ws))

pub objects_next : (vs ws : List (List ℕ)) (i : ℕ) → length vs ≡ 16 → length ws ≡ 16 → i < 16 → (tag : ℕ) → tag ≡ tag_of i → (v w : List ℕ) → v ≡ get_or vs i [] → w ≡ get_or ws i []
    → (entry : ℕ) → entry ≡ entry_of (of_values tag v w) → objects_from i vs ws ≡ some entry ++ objects_from (i + 1) vs ws
objects_next vs ws i m n h tag tagged v w here there entry is =
    let same : get_or object_tags i 0 ≡ tag = get_or-take 16 tags i 0 h ∙ sym tagged in
    let next : along of_values (drop i object_tags) (drop i vs) (drop i ws) ≡ of_values tag v w ++ along of_values (drop (i + 1) object_tags) (drop (i + 1) vs) (drop (i + 1) ws) =
    rw (here, there, ← same) (along_next of_values object_tags vs ws [] [] i (omega (arith, tags_16)) (omega arith) (omega arith)) in
    rw (next, is, some_entry (of_values tag v w) (few_of_values tag v w)) (map-append word_of (of_values tag v w) _)

pub objects_end : (vs ws : List (List ℕ)) (i : ℕ) → i ≡ 16 → objects_from i vs ws ≡ []
objects_end vs ws i h = rw (along_end of_values object_tags (drop i vs) (drop i ws) i (omega (arith, tags_16)))

-- a value, cut out of its image
pub part_value : (s st ls : List ℕ) (k : ℕ) → length st ≡ length ls → take (get_or st k 0 + get_or ls k 0 - get_or st k 0) (drop (get_or st k 0) s) ≡ get_or (values_at s st ls) k []
part_value s st ls k e =
    let n : get_or st k 0 + get_or ls k 0 - get_or st k 0 ≡ get_or ls k 0 = omega arith in
    rw n (sym (value_at_lem s st ls k e))

-- ---- the bytes
abbrev pub bytes_from : ℕ → List ℕ → List ℕ → List ℕ
bytes_from i s t = map word_of (along of_bytes (drop i addresses) (drop i (bytes_at s addresses)) (drop i (bytes_at t addresses)))

pub bytes_next : (s t : List ℕ) (i : ℕ) → i < 14 → (a : ℕ) → a ≡ get_or addresses i 0 → (entry : ℕ) → entry ≡ entry_of (of_bytes a (get_or s a 0) (get_or t a 0))
    → bytes_from i s t ≡ some entry ++ bytes_from (i + 1) s t
bytes_next s t i h a at entry is =
    let m = length-map addresses (λ (k : ℕ). get_or s k 0) in
    let n = length-map addresses (λ (k : ℕ). get_or t k 0) in
    let here : get_or (bytes_at s addresses) i (get_or s 0 0) ≡ get_or s a 0 = get_or-map (λ (k : ℕ). get_or s k 0) addresses i 0 ∙ ap (λ (k : ℕ). get_or s k 0) (sym at) in
    let there : get_or (bytes_at t addresses) i (get_or t 0 0) ≡ get_or t a 0 = get_or-map (λ (k : ℕ). get_or t k 0) addresses i 0 ∙ ap (λ (k : ℕ). get_or t k 0) (sym at) in
    let next = along_next of_bytes addresses (bytes_at s addresses) (bytes_at t addresses) (get_or s 0 0) (get_or t 0 0) i (omega (arith, addresses_14)) (omega (arith, addresses_14)) (omega (arith, addresses_14)) in
    let pair = rw (here, there, ← at) at next in
    rw (pair, is, some_entry (of_bytes a (get_or s a 0) (get_or t a 0)) (few_of_bytes a (get_or s a 0) (get_or t a 0))) (map-append word_of (of_bytes a (get_or s a 0) (get_or t a 0)) _)

pub bytes_end : (s t : List ℕ) (i : ℕ) → i ≡ 14 → bytes_from i s t ≡ []
bytes_end s t i h = rw (along_end of_bytes addresses (drop i (bytes_at s addresses)) (drop i (bytes_at t addresses)) i (omega (arith, addresses_14)))
