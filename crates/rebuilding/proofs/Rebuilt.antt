-- The second content is rebuilt from the first and from what the second has at the listed objects and addresses: what is not listed is the same in both. Assumes nothing.
use Prim.Native.Nat.{ℕ, zero, suc, ◌-◌, ◌≤◌, ◌<◌}
use native.Mathlib.Omega.{arith}
use borrow.Author.Tests.{eq-eqb, ltb-true}
use mathlib.Core.Path.{◌≡◌, refl, sym, ap, ◌∙◌}
use mathlib.Core.Bool.{Bool, true, false, cond, ◌||◌}
use mathlib.Core.List.{List, [], ◌∷◌, ◌++◌, map, map-append, append_assoc}
use lib.Dec.{eqb, ltb}
use lib.ListN.{length, get_or, replicate}
use lib.Seq.{ext_get_or}
use Rattle.ground.specs.Lists.{among, leading}
use Rattle.ground.proofs.Lists.{true_false, leading_before}
use Rattle.edition.specs.Rows.{tags}
use Rattle.card.specs.Content.{Content}
use Rattle.card.specs.Layout.{object_tags}
use Rattle.differences.specs.Differences.{Difference, free_addresses, addresses, bytes_of, differences_of}
use Rattle.differences.specs.Answers.{word, word_of, thirty}
use Rattle.differences.proofs.Words.{tags_16, addresses_14}
use Rattle.differences.proofs.Others.{bytes_14, free_at, last_at, address_at}
use Rattle.differences.specs.Exact.{Exact, Tells, not-in-first, not-in-second, other_length, first-index, TellsByte, other_byte, Exactly, no_more, same, other}
use Rattle.rebuilding.specs.Rebuilding.{tag_in, names_tag, names_address, mended, rebuilt, Supplies}
use Rattle.rebuilding.proofs.Picked.{mended_length, mended_at, mended_only}
use Rattle.differences.proofs.Exactness.{differences_exact}

map_map : (xs : List Difference) → map tag_in (map word_of xs) ≡ map (λ (x : Difference). tag_in (word_of x)) xs
map_map [] = refl
map_map (x ∷ xs) = ap (λ (l : List ℕ). tag_in (word_of x) ∷ l) (map_map xs)

-- ---- what a list does not name
or_left : (a b : Bool) → (a || b) ≡ false → a ≡ false
or_left true b h = h
or_left false b h = refl

or_right : (a b : Bool) → (a || b) ≡ false → b ≡ false
or_right true b h = absurd (true_false refl h)
or_right false b h = h

not_front : (b : ℕ) (xs ys : List ℕ) → among b (xs ++ ys) ≡ false → among b xs ≡ false
unfolding among
not_front b [] ys h = refl
not_front b (x ∷ xs) ys h = rw (or_left (eqb b x) (among b (xs ++ ys)) h) (not_front b xs ys (or_right (eqb b x) (among b (xs ++ ys)) h))

not_back : (b : ℕ) (xs ys : List ℕ) → among b (xs ++ ys) ≡ false → among b ys ≡ false
unfolding among
not_back b [] ys h = h
not_back b (x ∷ xs) ys h = not_back b xs ys (or_right (eqb b x) (among b (xs ++ ys)) h)

-- ---- what differs is named, by what `key` makes of an entry
module _ {A : Type 0} (tells : ℕ → A → A → Difference → Type 0) (P : A → Type 0) (key : Difference → ℕ) (name : ℕ → ℕ) (d : A) where
  not_named : {ns : List ℕ} {vs ws : List A} {l : List Difference} → Exactly tells ns vs ws l
      → ((k : ℕ) (v w : A) (x : Difference) → k < length ns → P v → tells (get_or ns k 0) v w x → key x ≡ name (get_or ns k 0))
      → ((k : ℕ) → P (get_or vs k d)) → (k : ℕ) → k < length ns → among (name (get_or ns k 0)) (map key l) ≡ false → get_or vs k d ≡ get_or ws k d
  unfolding among
  not_named no_more named p k h f = absurd (omega arith)
  not_named (same r) named p zero h f = refl
  not_named (same r) named p (suc k) h f = not_named r (λ j v w x i q t. named (suc j) v w x (omega arith) q t) (λ j. p (suc j)) k (omega arith) f
  not_named (other {n = n} {v = v} {w = w} {x = x} u t r) named p zero h f =
      absurd (true_false (eq-eqb (name n) (key x) (sym (named 0 v w x (omega arith) (p 0) t))) (or_left (eqb (name n) (key x)) _ f))
  not_named (other {x = x} {ns = ns} u t r) named p (suc k) h f =
      not_named r (λ j v w y i q s. named (suc j) v w y (omega arith) q s) (λ j. p (suc j)) k (omega arith) (or_right (eqb (name (get_or ns k 0)) (key x)) _ f)

-- ---- the keys of the entries
tags_octets : leading (λ (t : ℕ). ltb t 256) object_tags ≡ 16
unfolding tags leading
tags_octets = refl

tag_low : (k : ℕ) → k < 16 → get_or object_tags k 0 < 256
tag_low k h = ltb-true (get_or object_tags k 0) 256 (leading_before (λ (t : ℕ). ltb t 256) 0 object_tags k (rw tags_octets h))

tag_back : (tag : ℕ) → tag < 256 → (v w : List ℕ) (x : Difference) → length v ≤ 28 → Tells tag v w x → tag_in (word_of x) ≡ tag
tag_back tag low v w x s not-in-first = omega arith
tag_back tag low v w x s not-in-second = omega arith
tag_back tag low v w x s (other_length h) = omega arith
tag_back tag low v w x s (first-index {i = i} n h t u) = omega arith

byte_back : (address b c : ℕ) (x : Difference) → TellsByte address b c x → word_of x ≡ word 5 0 address
byte_back address b c x other_byte = refl

-- ---- the list of two contents, at the head of thirty words
module _ (c d : Content) (vc : length c.values ≡ 16) (vd : length d.values ≡ 16) (fc : length c.free ≡ 12) (fd : length d.free ≡ 12) where
  abbrev l : List ℕ
  l = thirty (differences_of c d)

  exact : Exact c d (differences_of c d)
  exact = differences_exact c d (vc ∙ sym tags_16) (vd ∙ sym tags_16) (bytes_14 c fc) (bytes_14 d fd)

  words : l ≡ map word_of exact.objects ++ (map word_of exact.bytes ++ replicate (30 - length (differences_of c d)) 0)
  unfolding thirty
  words =
      ap (λ (x : List Difference). map word_of x ++ replicate (30 - length (differences_of c d)) 0) exact.whole
      ∙ rw (map-append word_of exact.objects exact.bytes, append_assoc)

  tag-missing : (k : ℕ) → k < 16 → names_tag l (get_or object_tags k 0) ≡ false → ((j : ℕ) → length (get_or c.values j []) ≤ 28) → get_or c.values k [] ≡ get_or d.values k []
  unfolding names_tag
  tag-missing k h f short =
      not_named Tells (λ (v : List ℕ). length v ≤ 28) (λ (x : Difference). tag_in (word_of x)) (λ (t : ℕ). t) [] exact.by_tag
      (λ j v w x i s t. tag_back (get_or object_tags j 0) (tag_low j (omega (arith, tags_16))) v w x s t) short k (omega (arith, tags_16))
      (rw (map_map exact.objects) at (not_front (get_or object_tags k 0) (map tag_in (map word_of exact.objects)) _ (rw (words, map-append) at f)))

  byte-missing : (k : ℕ) → k < 14 → names_address l (get_or addresses k 0) ≡ false → get_or (bytes_of c) k 0 ≡ get_or (bytes_of d) k 0
  unfolding names_address
  byte-missing k h f =
      not_named TellsByte (λ (b : ℕ). Unit {0}) word_of (word 5 0) 0 exact.by_address (λ j v w x i s t. byte_back (get_or addresses j 0) v w x t) (λ j. tt) k (omega (arith, addresses_14))
      (not_front _ (map word_of exact.bytes) _ (not_back _ (map word_of exact.objects) _ (rw words at f)))

picked : {A : Type 0} (q : Bool) (x v w : A) → (q ≡ true → x ≡ w) → (q ≡ false → v ≡ w) → cond q x v ≡ w
picked true x v w a b = a refl
picked false x v w a b = b refl

-- Five: the second is rebuilt, whatever else is handed over
module _ (c d x : Content) (vc : length c.values ≡ 16) (vd : length d.values ≡ 16) (fc : length c.free ≡ 12) (fd : length d.free ≡ 12)
    (vx : length x.values ≡ 16) (fx : length x.free ≡ 12) (short : (j : ℕ) → length (get_or c.values j []) ≤ 28) where
  abbrev named : List ℕ
  named = thirty (differences_of c d)

  missing : (k : ℕ) → k < 14 → names_address named (get_or addresses k 0) ≡ false → get_or (bytes_of c) k 0 ≡ get_or (bytes_of d) k 0
  missing = byte-missing c d vc vd fc fd

  firsts : Supplies named x d → cond (names_address named 0) x.first c.first ≡ d.first
  unfolding bytes_of addresses
  firsts s = picked (names_address named 0) x.first c.first d.first s.first (missing 0 (omega arith))

  lasts : Supplies named x d → cond (names_address named 255) x.last c.last ≡ d.last
  unfolding addresses
  lasts s = picked (names_address named 255) x.last c.last d.last s.last (λ h. sym (last_at c fc) ∙ missing 13 (omega arith) h ∙ last_at d fd)

  frees : Supplies named x d → mended (names_address named) free_addresses c.free x.free ≡ d.free
  frees s =
      let many = mended_length (names_address named) free_addresses c.free x.free fc fx in
      ext_get_or 0 (mended (names_address named) free_addresses c.free x.free) d.free (many ∙ sym fd) (λ k h.
      let low : k < 12 = omega (arith, many) in
      mended_at (names_address named) free_addresses c.free x.free 0 k fc fx low
      ∙ picked (names_address named (get_or free_addresses k 0)) (get_or x.free k 0) (get_or c.free k 0) (get_or d.free k 0) (s.free k low)
      (λ f. sym (free_at c fc k low) ∙ missing (suc k) (omega arith) (rw (address_at k low) f) ∙ free_at d fd k low))

  values : Supplies named x d → mended (names_tag named) object_tags c.values x.values ≡ d.values
  values s =
      let many = mended_length (names_tag named) object_tags c.values x.values (vc ∙ sym tags_16) (vx ∙ sym tags_16) in
      ext_get_or [] (mended (names_tag named) object_tags c.values x.values) d.values (many ∙ tags_16 ∙ sym vd) (λ k h.
      let low : k < 16 = omega (arith, many, tags_16) in
      mended_at (names_tag named) object_tags c.values x.values [] k (vc ∙ sym tags_16) (vx ∙ sym tags_16) (omega (arith, tags_16))
      ∙ picked (names_tag named (get_or object_tags k 0)) (get_or x.values k []) (get_or c.values k []) (get_or d.values k []) (s.values k low)
      (λ f. tag-missing c d vc vd fc fd k low f short))

  pub second_rebuilt : Supplies named x d → rebuilt named c x ≡ d
  unfolding rebuilt
  second_rebuilt s = rw (firsts s, frees s, lasts s, values s)

-- .. and of what is handed over nothing else is looked at, whatever the list is
module _ (l : List ℕ) (c x y : Content) (vc : length c.values ≡ 16) (fc : length c.free ≡ 12)
    (vx : length x.values ≡ 16) (vy : length y.values ≡ 16) (fx : length x.free ≡ 12) (fy : length y.free ≡ 12) where
  pub nothing_else : Supplies l x y → rebuilt l c x ≡ rebuilt l c y
  unfolding rebuilt
  nothing_else s =
      let first : cond (names_address l 0) x.first c.first ≡ cond (names_address l 0) y.first c.first = chosen (names_address l 0) c.first s.first in
      let last : cond (names_address l 255) x.last c.last ≡ cond (names_address l 255) y.last c.last = chosen (names_address l 255) c.last s.last in
      let free = mended_only (names_address l) 0 free_addresses c.free x.free y.free fc fx fy s.free in
      let values = mended_only (names_tag l) [] object_tags c.values x.values y.values (vc ∙ sym tags_16) (vx ∙ sym tags_16) (vy ∙ sym tags_16) (λ k h. s.values k (omega (arith, tags_16))) in
      rw (first, free, last, values)
    where
      chosen : {A : Type 0} (q : Bool) (v : A) {w u : A} → (q ≡ true → w ≡ u) → cond q w v ≡ cond q u v
      chosen true v e = e refl
      chosen false v e = refl
