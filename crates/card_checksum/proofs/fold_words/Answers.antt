-- `card_checksum::fold_words` meets its contract. The invariant: the folded word with the whole words that are left makes the whole. Assumes nothing.
use mathlib.Core.Path.{◌≡◌, sym, ap, ◌∙◌}
use mathlib.Core.List.{List, [], ◌∷◌, ◌++◌}
use Prim.Native.Nat.{ℕ, suc, ◌*◌, ◌/◌, ◌%◌, ◌<◌}
use native.Mathlib.Omega.{arith}
use lib.ListN.{length, get_or, take}
use lib.Bits.{bit_xor, xor_zero_r}
use Rattle.card.specs.Layout.{xor_all}
use Rattle.card.proofs.Xor.{folded, folded_xor, xor_assoc}
use Rattle.card_checksum.proofs.fold_words.Goals as goal

-- the exclusive or of a list's whole words
abbrev wholes : List ℕ → ℕ
wholes s = xor_all (take (length s / 4 * 4) s)

wholes_word : (a b c d : ℕ) (r : List ℕ) → wholes (a ∷ b ∷ c ∷ d ∷ r) ≡ bit_xor (bit_xor (bit_xor (bit_xor a b) c) d) (wholes r)
unfolding xor_all
wholes_word a b c d r =
    let more : (length (a ∷ b ∷ c ∷ d ∷ r)) / 4 * 4 ≡ suc (suc (suc (suc (length r / 4 * 4)))) = omega arith in
    let rest = xor_all (take (length r / 4 * 4) r) in
    ap (λ (n : ℕ). xor_all (take n (a ∷ b ∷ c ∷ d ∷ r))) more
    ∙ sym (xor_assoc (bit_xor (bit_xor a b) c) d rest ∙ xor_assoc (bit_xor a b) c (bit_xor d rest) ∙ xor_assoc a b (bit_xor c (bit_xor d rest)))

wholes_next : (v w : ℕ) (x r : List ℕ) → length x ≡ 4 → w % 256 ≡ get_or x 0 0 → w / 256 % 256 ≡ get_or x 1 0 → w / 65536 % 256 ≡ get_or x 2 0 → w / 16777216 ≡ get_or x 3 0
    → bit_xor (folded (bit_xor v w)) (wholes r) ≡ bit_xor (folded v) (wholes (x ++ r))
wholes_next v w [] r n f s t h = absurd (omega arith)
wholes_next v w (a ∷ []) r n f s t h = absurd (omega arith)
wholes_next v w (a ∷ b ∷ []) r n f s t h = absurd (omega arith)
wholes_next v w (a ∷ b ∷ c ∷ []) r n f s t h = absurd (omega arith)
wholes_next v w (a ∷ b ∷ c ∷ d ∷ e ∷ x) r n f s t h = absurd (omega arith)
wholes_next v w (a ∷ b ∷ c ∷ d ∷ []) r n f s t h =
    let word : folded w ≡ bit_xor (bit_xor (bit_xor a b) c) d = rw (f, s, t, h) in
    rw (folded_xor v w, word, wholes_word a b c d r) (xor_assoc (folded v) (bit_xor (bit_xor (bit_xor a b) c) d) (wholes r))

wholes_none : (s : List ℕ) → length s < 4 → wholes s ≡ 0
unfolding xor_all
wholes_none s h = let none : length s / 4 * 4 ≡ 0 = omega arith in ap (λ (n : ℕ). xor_all (take n s)) none

pub loop-word-preserved : goal.loop-word-preserved
loop-word-preserved c =
    let l = c.loop-word in
    let steps = c.in-Some.ensures.steps in
    let word = c.word_of-folded.ensures in
    let x = c.in-Some.word.now in
    let r = c.next.new.self.rest.now in
    let four : length x ≡ 4 = omega (arith, steps, l.invariant.0) in (
      steps.0 ∙ l.invariant.0,
      wholes_next l.folded c.word_of-folded.result x r four word.0 word.1 word.2 word.3 ∙ ap (λ (s : List ℕ). bit_xor (folded l.folded) (wholes s)) (sym steps.1.0) ∙ l.invariant.1,
    )

pub returns : goal.returns
returns c =
    let l = c.loop-word in
    let steps = c.in-None.ensures.steps in
    let short : length l.word-iterator.rest.now < 4 = omega (arith, steps, l.invariant.0) in
    c.fold_word.ensures
    ∙ sym (ap (bit_xor (folded l.folded)) (wholes_none l.word-iterator.rest.now short) ∙ xor_zero_r (folded l.folded))
    ∙ l.invariant.1
