-- Each turning undoes the other: letter by letter, since a letter's first byte says how many it has. Assumes nothing.
use Prim.Native.Nat.{ℕ, zero, suc, ◌+◌, ◌-◌, ◌≤◌, ◌<◌}
use native.Mathlib.Omega.{arith}
use borrow.Author.Tests.{eqb-true, eqb-false, eq-eqb, ne_eqb, le-leb, leb-true}
use mathlib.Core.Path.{◌≡◌, refl, sym, ap, ◌∙◌}
use mathlib.Core.Bool.{Bool, true, false, cond, ◌&&◌, ◌||◌}
use mathlib.Core.List.{List, [], ◌∷◌, ◌++◌, append_assoc}
use lib.Dec.{eqb, leb}
use lib.ListN.{length, length-append, take}
use lib.Seq.{take_at}
use Rattle.ground.proofs.Lists.{true_false, and_left, and_right}
use Rattle.letters.specs.Letters.{second_of, has_letter, letter, utf8, have_letters}
use Rattle.letters.specs.Turning.{spelled, is_plain, is_first, byte_for, code_from, code}
use Rattle.letters.specs.Inverse.{BytesComeBack, TextComesBack}
use Rattle.letters.proofs.Single.{each_letter, one_byte, started, front, ended}

-- ---- from the code and back
abbrev OneBack : List ℕ → ℕ → Type 0
OneBack rest b = has_letter b ≡ true → code_from 0 (letter b ++ rest) ≡ b ∷ code_from 0 rest

plain_back : (rest : List ℕ) (b : ℕ) → second_of b ≡ 0 → OneBack rest b
unfolding code_from
plain_back rest b s h =
    let low = leb-true 0x20 b (and_left (leb 0x20 b) (leb b 0x7E) h) in
    rw (one_byte b s, h, eq-eqb (second_of b) 0 s, ne_eqb b 0 (λ z. omega arith))

one_back : (rest : List ℕ) (b : ℕ) → OneBack rest b
unfolding letter code_from
one_back rest b =
    each_letter (OneBack rest) b (λ h. refl) (λ h. refl) (λ h. refl) (λ h. refl) (λ h. refl) (λ h. refl) (λ h. refl) (λ h. refl) (plain_back rest b)

code_back : (bs : List ℕ) → have_letters bs ≡ true → code (utf8 bs) ≡ bs
unfolding have_letters utf8 code_from
code_back [] h = refl
code_back (b ∷ bs) h =
    one_back (utf8 bs) b (and_left (has_letter b) (have_letters bs) h) ∙ ap (λ (l : List ℕ). b ∷ l) (code_back bs (and_right (has_letter b) (have_letters bs) h))

spelled_whole : (bs : List ℕ) (n : ℕ) → have_letters bs ≡ true → length (utf8 bs) ≤ n → spelled n bs ≡ bs
unfolding have_letters utf8 spelled
spelled_whole [] n h fits = refl
spelled_whole (b ∷ bs) n h fits =
    let long = length-append (letter b) (utf8 bs) in
    let room : length (letter b) ≤ n = omega arith in
    let rest : length (utf8 bs) ≤ n - length (letter b) = omega arith in
    rw (and_left (has_letter b) (have_letters bs) h, le-leb (length (letter b)) n room, spelled_whole bs (n - length (letter b)) (and_right (has_letter b) (have_letters bs) h) rest)

pub bytes_come_back : (bs : List ℕ) → have_letters bs ≡ true → BytesComeBack bs
bytes_come_back bs h = record { whole = λ n fits. spelled_whole bs n h fits; back = code_back bs h }

-- ---- from UTF-8 and back: what was begun, and the text, begin with what the code spells
record Begins (a b : List ℕ) : Type 0 where
  rest : List ℕ
  is : b ≡ a ++ rest

begun_first : (x : ℕ) → is_first x ≡ true → (started x ≡ true) × (front x ≡ x ∷ [])
begun_first x f = go (eqb x 0) refl
  where
    go : (q : Bool) → eqb x 0 ≡ q → ((q || is_first x) ≡ true) × (cond q [] (x ∷ []) ≡ x ∷ [])
    go true z = absurd (true_false f (rw (eqb-true x 0 z)))
    go false z = (f, refl)

record Told (p : ℕ) (text : List ℕ) : Type 0 where
  begins : Begins (utf8 (code_from p text)) (front p ++ text)
  letters : have_letters (code_from p text) ≡ true

told : (p : ℕ) (text : List ℕ) → started p ≡ true → Told p text
unfolding utf8 code_from have_letters
told p [] s = record { begins = record { rest = front p ++ []; is = refl }; letters = refl }
told p (x ∷ xs) s = go (eqb (byte_for p x) 0) refl (eqb p 0 && is_first x) refl (told 0 xs refl) (λ t. told x xs t)
  where
    go : (q : Bool) → eqb (byte_for p x) 0 ≡ q → (r : Bool) → (eqb p 0 && is_first x) ≡ r → Told 0 xs → (started x ≡ true → Told x xs) → Told p (x ∷ xs)
    go false e r f here next =
        let one = ended p x s (eqb-false (byte_for p x) 0 e) in
        let spelt : front p ++ (x ∷ xs) ≡ letter (byte_for p x) ++ xs = rw one.0 (sym (append_assoc (front p) (x ∷ []) xs)) in
        record {
          begins = record {
            rest = here.begins.rest;
            is = rw e (spelt ∙ ap (λ (l : List ℕ). letter (byte_for p x) ++ l) here.begins.is ∙ sym (append_assoc (letter (byte_for p x)) (utf8 (code_from 0 xs)) here.begins.rest));
          };
          letters = rw (e, one.1) here.letters;
        }
    go true e true f here next =
        let no_front : front p ++ (x ∷ xs) ≡ x ∷ xs = rw (and_left (eqb p 0) (is_first x) f) in
        let first = begun_first x (and_right (eqb p 0) (is_first x) f) in
        let then = next first.0 in
        record {
          begins = record {
            rest = then.begins.rest;
            is = rw (e, f) (no_front ∙ ap (λ (l : List ℕ). l ++ xs) (sym first.1) ∙ then.begins.is);
          };
          letters = rw (e, f) then.letters;
        }
    go true e false f here next = record { begins = record { rest = front p ++ (x ∷ xs); is = rw (e, f) }; letters = rw (e, f) }

pub text_comes_back : (text : List ℕ) → TextComesBack text
text_comes_back text =
    let t = told 0 text refl in
    record { back = sym (ap (take (length (utf8 (code text)))) t.begins.is ∙ take_at (utf8 (code text)) t.begins.rest _ refl); letters = t.letters }
