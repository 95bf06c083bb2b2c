-- The loop from UTF-8 to the code: what is left of the code is that of what is left of the text. Assumes nothing.
use Prim.Native.Nat.{ℕ, zero, suc, ◌+◌, ◌-◌, ◌≤◌, ◌<◌}
use native.Mathlib.Numerals.{add-one}
use native.Mathlib.Omega.{arith}
use borrow.Author.Tests.{eqb-true, eqb-false, eq-eqb, ne_eqb}
use mathlib.Core.Path.{◌≡◌, refl, sym, ap, ◌∙◌}
use mathlib.Core.Bool.{Bool, true, false, cond, ◌&&◌, ◌||◌}
use mathlib.Core.List.{List, [], ◌∷◌, ◌++◌}
use lib.Dec.{eqb}
use lib.ListN.{length, length-append, length-drop, length-set, get_or, take, drop, set, drop_of_length-le}
use lib.Seq.{sets, drop-cons, take_all, length-take-le}
use Rattle.ground.proofs.Lists.{true_false, and_left, and_right}
use Rattle.ground.proofs.Stores.{sets_copy}
use Rattle.letters.specs.declared.Turned.{Turned}
use Rattle.letters.specs.Letters.{letter, utf8}
use Rattle.letters.specs.Turning.{is_first, byte_for, code_from, code, coded_answer}
use Rattle.letters.proofs.Single.{started, front, ended}
use Rattle.letters.proofs.Spelt.{utf8_more}

-- a list whose rest is known
pub record Head (l : List ℕ) (n b : ℕ) (rest : List ℕ) : Type 0 where
  pub below : n < length l
  pub is : get_or l n 0 ≡ b
  pub behind : drop (n + 1) l ≡ rest

pub head_of : (l : List ℕ) (n b : ℕ) (rest : List ℕ) → drop n l ≡ b ∷ rest → Head l n b rest
head_of l n b rest e =
    let long : length l - n ≡ suc (length rest) = sym (length-drop n l) ∙ ap length e in
    let below : n < length l = omega arith in
    let split : get_or l n 0 ∷ drop (suc n) l ≡ b ∷ rest = sym (drop-cons l n 0 below) ∙ e in
    record { below = below; is = cc; behind = rw add-one (cc) }

pub record Coding (text room₀ room : List ℕ) (taken made begun at : ℕ) : Type 0 where
  pub inside : at ≤ length text
  pub same : length room ≡ length room₀
  pub fits : made ≤ length room₀
  pub first : started begun ≡ true
  pub place : at ≡ taken + length (front begun)
  pub have : made ≤ length (code text)
  pub left : drop made (code text) ≡ code_from begun (drop at text)
  pub size : taken ≡ length (utf8 (take made (code text)))
  pub stored : room ≡ sets room₀ 0 (take made (code text))

pub coding_start : (text room : List ℕ) → Coding text room room 0 0 0 0
unfolding utf8
coding_start text room = record {
  inside = omega arith;
  same = refl;
  fits = omega arith;
  first = refl;
  place = refl;
  have = omega arith;
  left = refl;
  size = refl;
  stored = refl;
}

module _ {text room₀ room : List ℕ} {taken made begun at : ℕ} (l : Coding text room₀ room taken made begun at) (more : at < length text) where
  pub coding_next : (byte_for begun (get_or text at 0) ≡ 0 → ⊥) → made < length room
      → Coding text room₀ (set room made (byte_for begun (get_or text at 0))) (at + 1) (made + 1) 0 (at + 1)
  unfolding code_from
  coding_next some room_for =
      let x = get_or text at 0 in
      let b = byte_for begun x in
      let step : code_from begun (drop at text) ≡ b ∷ code_from 0 (drop (at + 1) text) = rw (add-one, drop-cons text at 0 more, ne_eqb (byte_for begun x) 0 some) in
      let h : Head (code text) made b (code_from 0 (drop (at + 1) text)) = head_of (code text) made b _ (l.left ∙ step) in
      let long : length (letter b) ≡ length (front begun) + 1 = ap length (ended begun x l.first some).0 ∙ length-append (front begun) (x ∷ []) in
      let grown : length (utf8 (take (made + 1) (code text))) ≡ length (utf8 (take made (code text))) + length (letter b)
      = ap length (utf8_more (code text) made h.below) ∙ length-append (utf8 (take made (code text))) (letter (get_or (code text) made 0)) ∙ rw h.is in
      record {
        inside = omega arith;
        same = simp length-set l.same;
        fits = omega (arith, l.same);
        first = refl;
        place = omega arith;
        have = omega (arith, h.below);
        left = h.behind;
        size = omega (arith, grown, long, l.place, l.size);
        stored = ap (λ (r : List ℕ). set r made b) l.stored ∙ ap (λ (v : ℕ). set (sets room₀ 0 (take made (code text))) made v) (sym h.is)
            ∙ copied (code text) made h.below;
      }
    where
      copied : (s : List ℕ) (i : ℕ) → i < length s → set (sets room₀ 0 (take i s)) i (get_or s i 0) ≡ sets room₀ 0 (take (i + 1) s)
      copied s i h = let z : 0 + i ≡ i = omega arith in rw z at (sets_copy room₀ 0 s i h)

  pub coding_begun : byte_for begun (get_or text at 0) ≡ 0 → (eqb begun 0 && is_first (get_or text at 0)) ≡ true → Coding text room₀ room taken made (get_or text at 0) (at + 1)
  unfolding code_from
  coding_begun none is =
      let x = get_or text at 0 in
      let zero-begun : begun ≡ 0 = eqb-true begun 0 (and_left (eqb begun 0) (is_first x) is) in
      let first : is_first x ≡ true = and_right (eqb begun 0) (is_first x) is in
      record {
        inside = omega arith;
        same = l.same;
        fits = l.fits;
        first = begins x first;
        place = long x first (rw zero-begun at l.place);
        have = l.have;
        left = l.left ∙ rw (add-one, drop-cons text at 0 more, none, is);
        size = l.size;
        stored = l.stored;
      }
    where
      begins : (x : ℕ) → is_first x ≡ true → started x ≡ true
      begins x f = go (eqb x 0)
        where
          go : (q : Bool) → (q || is_first x) ≡ true
          go true = refl
          go false = f

      long : (x : ℕ) → is_first x ≡ true → at ≡ taken + 0 → at + 1 ≡ taken + length (front x)
      long x f e = go (eqb x 0) refl
        where
          go : (q : Bool) → eqb x 0 ≡ q → at + 1 ≡ taken + length (cond q [] (x ∷ []))
          go true z = absurd (true_false f (rw (eqb-true x 0 z)))
          go false z = omega arith

  pub coding_stop : byte_for begun (get_or text at 0) ≡ 0 → (eqb begun 0 && is_first (get_or text at 0)) ≡ false → code_from begun (drop at text) ≡ []
  unfolding code_from
  coding_stop none not-it = rw (drop-cons text at 0 more, none, not-it)

pub code_end : (text : List ℕ) (begun at : ℕ) → length text ≤ at → code_from begun (drop at text) ≡ []
unfolding code_from
code_end text begun at h = rw (drop_of_length-le text h)

module _ {text room₀ room : List ℕ} {taken made begun at : ℕ} (l : Coding text room₀ room taken made begun at) where
  -- the answer, where it stops with the room, and where nothing is left
  pub coding_answer : take (length room₀) (code text) ≡ take made (code text)
      → (◌≡◌ {A = Turned} (record { taken = taken; made = made }) (coded_answer room₀ text)) × (room ≡ sets room₀ 0 (take (length room₀) (code text)))
  coding_answer e =
      let count : made ≡ length (take made (code text)) = sym (length-take-le made (code text) l.have) in
      (rw (e, ← count, ← l.size), rw e l.stored)

  pub coding_full : length room ≤ made → take (length room₀) (code text) ≡ take made (code text)
  coding_full h = let e : length room₀ ≡ made = omega (arith, l.same, l.fits) in rw e

  pub coding_end : code_from begun (drop at text) ≡ [] → take (length room₀) (code text) ≡ take made (code text)
  coding_end none =
      let e : length (code text) - made ≡ 0 = sym (length-drop made (code text)) ∙ ap length (l.left ∙ none) in
      let a : length (code text) ≤ made = omega arith in
      let b : length (code text) ≤ length room₀ = omega (arith, l.fits) in
      take_all (length room₀) (code text) b ∙ sym (take_all made (code text) a)
