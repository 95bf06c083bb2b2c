-- Each byte of text has a letter: up to '7E' by a test that is computed, and past it no byte is text. Assumes nothing.
use Prim.Native.Nat.{ℕ, suc, ◌-◌, ◌≤◌, ◌<◌}
use native.Mathlib.Omega.{arith}
use borrow.Author.Tests.{leb-true, leb-false, le-leb, lt-leb, ne_eqb}
use mathlib.Core.Path.{◌≡◌, refl, sym, ap, ap₂, ◌∙◌}
use mathlib.Core.Bool.{Bool, true, false, cond, not, ◌&&◌}
use mathlib.Core.List.{List, [], ◌∷◌, ◌++◌}
use lib.Dec.{leb}
use lib.ListN.{length, take, replicate, length-append, length-replicate}
use lib.Seq.{take_all}
use Rattle.ground.specs.Lists.{among, leading}
use Rattle.ground.proofs.Lists.{true_false, alike_below, alike_below_lem}
use Rattle.rules.specs.Values.{is_text}
use Rattle.letters.specs.Letters.{utf8, has_letter, have_letters}
use Rattle.letters.proofs.Inverse.{bytes_come_back}
use Rattle.card.specs.declared.Object.{Object}
use Rattle.card.specs.Content.{object_of}
use Rattle.card_text.specs.Faults.{coded}
use Rattle.card_text.specs.Records.{object_said}
use Rattle.card_text.specs.Values.{TextComesBack, ObjectComesBack}
use Rattle.card_text.proofs.Filling.{filled}

abbrev without : ℕ → Bool
without b = is_text b && not (has_letter b)

abbrev never : ℕ → Bool
never b = false

none_without : alike_below without never 127 ≡ true
unfolding is_text among
none_without = refl

past : (b : ℕ) → 0x7E < b → is_text b ≡ false
unfolding is_text among
past b h =
    rw (
      le-leb 0x30 b (omega arith),
      lt-leb b 0x39 (omega arith),
      le-leb 0x41 b (omega arith),
      lt-leb b 0x5A (omega arith),
      le-leb 0x61 b (omega arith),
      lt-leb b 0x7A (omega arith),
      ne_eqb b 0x5B (λ e. omega arith),
      ne_eqb b 0x5C (λ e. omega arith),
      ne_eqb b 0x5D (λ e. omega arith),
      ne_eqb b 0x7B (λ e. omega arith),
      ne_eqb b 0x7C (λ e. omega arith),
      ne_eqb b 0x7D (λ e. omega arith),
      ne_eqb b 0x7E (λ e. omega arith),
      ne_eqb b 0x20 (λ e. omega arith),
      ne_eqb b 0x26 (λ e. omega arith),
      ne_eqb b 0x27 (λ e. omega arith),
      ne_eqb b 0x28 (λ e. omega arith),
      ne_eqb b 0x29 (λ e. omega arith),
      ne_eqb b 0x2B (λ e. omega arith),
      ne_eqb b 0x2D (λ e. omega arith),
      ne_eqb b 0x2E (λ e. omega arith),
      ne_eqb b 0x2F (λ e. omega arith),
      ne_eqb b 0x5F (λ e. omega arith),
    )

pub text_letter : (b : ℕ) → is_text b ≡ true → has_letter b ≡ true
text_letter b t = go (leb b 0x7E) refl
  where
    both : (p q : Bool) → (p && not q) ≡ false → p ≡ true → q ≡ true
    both true true e f = refl
    both true false e f = sym e
    both false q e f = absurd (true_false f refl)

    go : (q : Bool) → leb b 0x7E ≡ q → has_letter b ≡ true
    go true e = both (is_text b) (has_letter b) (alike_below_lem without never 127 none_without b (omega (arith, leb-true b 0x7E e))) t
    go false e = absurd (true_false t (past b (leb-false b 0x7E e)))

letters_all : (v : List ℕ) → leading is_text v ≡ length v → have_letters v ≡ true
unfolding leading have_letters
letters_all [] h = refl
letters_all (b ∷ v) h = go (is_text b) refl h (letters_all v)
  where
    go : (q : Bool) → is_text b ≡ q → cond q (suc (leading is_text v)) 0 ≡ suc (length v) → (leading is_text v ≡ length v → have_letters v ≡ true) → (has_letter b && have_letters v) ≡ true
    go true e l ih = rw (text_letter b e) (ih (omega arith))
    go false e l ih = absurd (omega arith)

pub text_comes_back : TextComesBack
text_comes_back v h = bytes_come_back v (letters_all v h)

-- the bytes fill up what the value leaves
filled_up : (k : ℕ) (v : List ℕ) → length v ≤ k → take k (v ++ replicate k 0) ≡ v ++ replicate (k - length v) 0
filled_up k v h = filled k k (k - length v) v (omega arith) (omega arith) ∙ take_all k (v ++ replicate (k - length v) 0) (rw (length-append, length-replicate) (omega arith))

abbrev object_with : ℕ → List ℕ → Object
object_with n bs = record { length = n; bytes = bs }

pub object_comes_back : ObjectComesBack
unfolding object_said object_of coded
object_comes_back v h s =
    let back : coded (utf8 v) ≡ v = ap (take 255) (text_comes_back v h).back ∙ take_all 255 v (omega arith) in
    let same : length (coded (utf8 v)) ≡ length v = ap length back in
    ap₂ object_with same (ap (λ (l : List ℕ). take 28 (l ++ replicate 28 0)) back ∙ filled_up 28 v s)
