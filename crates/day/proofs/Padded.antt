-- Padded numbers and entries, byte by byte; the number of a card. Assumes nothing.
use Prim.Native.Nat.{ℕ, zero, suc, ◌+◌, ◌-◌, ◌/◌, ◌%◌, ◌≤◌, ◌<◌}
use native.Mathlib.Nat.{not-suc-le-zero, le_of_suc-le-suc}
use native.Mathlib.Numerals.{add-one}
use native.Mathlib.Omega.{arith}
use mathlib.Core.Path.{◌≡◌, refl, sym, ap, ◌∙◌}
use mathlib.Core.List.{List, [], ◌∷◌, ◌++◌, append-nil, map}
use lib.ListN.{length, get_or, set, take, replicate, length-append, get_or-replicate, get_or-append, drop_of_length-le}
use lib.Seq.{take-suc, take-suc-set, length-take-le, get_or-take, get_or-append-add, sets-eq}
use Rattle.edition.specs.Tables.{terminal}
use Rattle.card.specs.declared.Object.{Object}
use Rattle.card.specs.declared.Reading.{Reading}
use Rattle.card.specs.Content.{value_of, content_of}
use Rattle.card.specs.Reading.{reading}
use Rattle.day.specs.Cards.{number_of, padded, two_bytes, entry}

-- ---- sizes
pub length_padded : (v : List ℕ) → length (padded v) ≡ 12
unfolding padded
length_padded v =
    let h : 12 ≤ length (v ++ replicate 12 0x20) = omega (arith, length-append v (replicate 12 0x20)) in
    length-take-le 12 (v ++ replicate 12 0x20) h

pub length_entry : (v : List ℕ) (k : ℕ) → length (entry v k) ≡ 14
unfolding entry
length_entry v k = length-append (padded v) (two_bytes k) ∙ omega (arith, length_padded v)

-- ---- an entry, byte by byte
module _ (o : Object) (i : ℕ) (long : length o.bytes ≡ 28) (most : o.length < 256) (h : i < 12) where
  value-size : length (value_of o) ≡ o.length
  unfolding value_of
  value-size = length-take-le o.length (o.bytes ++ replicate 227 0) (simp length-append (omega arith))

  pub padded_byte : i < o.length → get_or (padded (value_of o)) i 0 ≡ get_or o.bytes i 0
  unfolding padded value_of
  padded_byte l =
      get_or-take 12 (value_of o ++ replicate 12 0x20) i 0 h ∙ get_or-append (value_of o) (replicate 12 0x20) 0 i (omega (arith, value-size))
      ∙ get_or-take o.length (o.bytes ++ replicate 227 0) i 0 l ∙ get_or-append o.bytes (replicate 227 0) 0 i (omega arith)

  pub padded_blank : o.length ≤ i → get_or (padded (value_of o)) i 0 ≡ 0x20
  unfolding padded
  padded_blank l =
      let e : i ≡ length (value_of o) + (i - o.length) = omega (arith, value-size) in
      let f : i - o.length < 12 = omega arith in
      get_or-take 12 (value_of o ++ replicate 12 0x20) i 0 h
      ∙ ap (λ (x : ℕ). get_or (value_of o ++ replicate 12 0x20) x 0) e
      ∙ get_or-append-add (value_of o) (replicate 12 0x20) (i - o.length) 0
      ∙ get_or-replicate 12 (i - o.length) 0x20 0 f

pub entry_more : (p bytes : List ℕ) (i x : ℕ) → i < length bytes → i < length p → x ≡ get_or p i 0 → take i bytes ≡ take i p → take (i + 1) (set bytes i x) ≡ take (i + 1) p
entry_more p bytes i x h k e t = rw (add-one, take-suc-set bytes i x h, take-suc p i 0 k, e, t)

pub entry_stored : (v bytes : List ℕ) (k : ℕ) → length bytes ≡ 14 → take 12 bytes ≡ padded v → set (set bytes 12 (k / 256)) 13 (k % 256) ≡ entry v k
unfolding entry
entry_stored v bytes k h e =
    let h' : length bytes ≤ 14 = omega arith in
    sets-eq (k / 256 ∷ k % 256 ∷ []) bytes 12 (omega arith) ∙ rw (e, drop_of_length-le bytes h', append-nil)

-- ---- the number of a card
map_at : {A B : Type 0} (f : A → B) (l : List A) (n : ℕ) (d : A) (e : B) → n < length l → get_or (map f l) n e ≡ f (get_or l n d)
map_at f [] n d e h = absurd (not-suc-le-zero h)
map_at f (x ∷ l) zero d e h = refl
map_at f (x ∷ l) (suc n) d e h = map_at f l n d e (le_of_suc-le-suc h)

pub number_read : (r : Reading) (image : List ℕ) (d : Object) → r ≡ reading terminal image → 3 < length r.content.objects → value_of (get_or r.content.objects 3 d) ≡ number_of image
unfolding number_of content_of
number_read r image d e h = sym (map_at value_of r.content.objects 3 d [] h) ∙ ap (λ (x : Reading). get_or (map value_of x.content.objects) 3 []) e
