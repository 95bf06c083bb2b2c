-- The line of a row, from its text: five words, each taken as it was put. Assumes nothing.
use Prim.Native.Nat.{ℕ, ◌+◌, ◌-◌, ◌^◌, ◌<◌}
use native.Mathlib.Nat.{mod-eq_of_lt}
use native.Mathlib.Omega.{arith}
use borrow.Author.Tests.{eq-eqb, ne_eqb, lt-ltb, le-ltb}
use mathlib.Core.Path.{◌≡◌, refl}
use mathlib.Core.Bool.{Bool, true, false}
use mathlib.Core.List.{List, [], ◌∷◌, ◌++◌, append_assoc}
use lib.ListN.{length, set}
use Rattle.ground.specs.Lists.{leading, same_list}
use Rattle.ground.specs.Rooms.{hex, decimal}
use Rattle.rules.specs.declared.Rule.{Rule}
use Rattle.rules.specs.declared.Rule.TheVariants.{Digits, Text, Lead, Code, Birth, Expiry, Raw, NotD}
use Rattle.edition.specs.declared.Row.{Row}
use Rattle.edition.specs.Rows.{tag_of}
use Rattle.table_text.specs.Vocabulary.{vocabulary, word_of}
use Rattle.table_text.specs.Texts.{lengths_text, rule_word, presence_word, spaced, front_text, kind_text, set_text, row_text, head_text}
use Rattle.table_take.specs.declared.Fields.{Fields}
use Rattle.table_take.specs.Splitting.{is_kind, words, through}
use Rattle.table_take.specs.LengthSets.{listed, lengths_of}
use Rattle.table_take.specs.Words.{fields, no_fields, rule_found, head_word, with_presence, with_rule, with_lengths, row_word, word_taken, missing, words_taken, line_taken}
use Rattle.table_take.specs.Taking.{rule_by, is_remark, taking, no_rows, row_told, stored, with_line}
use Rattle.table_take.proofs.Signs.{Among, none, more, among_append, among_wider, Word, not_blank, word_then, word_alone}
use Rattle.table_take.proofs.Decimals.{decimal_back, decimal_digits, decimal_some}
use Rattle.table_take.proofs.Spelled.{same_self, word_word, word_signs, tag_signs, edition_signs}
use Rattle.table_take.proofs.SetsBack.{lengths_back, lengths_word}

wide : {w : List ℕ} → Word w → Among 0x20 0x7E w
wide p = among_wider 0x20 0x7E (omega arith) (omega arith) p.signs

-- ---- the words of row k
row_step : (k : ℕ) (f : Fields) (w : List ℕ) → f.wrong ≡ 0 → word_taken (k + 1) f w ≡ row_word k f w
unfolding word_taken
row_step k f w e = let m : k + 1 - 1 ≡ k = omega arith in rw (eq-eqb f.wrong 0 e, ne_eqb (k + 1) 0 (λ z. omega arith), m)

word_0 : (k : ℕ) → row_word k no_fields (hex (tag_of k)) ≡ fields 0 1 0 false 0 0
unfolding row_word
word_0 k = rw (same_self (hex (tag_of k)))

word_1 : (k : ℕ) → row_word k (fields 0 1 0 false 0 0) (word_of k) ≡ fields 0 2 0 false 0 0
unfolding row_word
word_1 k = rw (same_self (word_of k))

word_2 : (k : ℕ) (q : Bool) → row_word k (fields 0 2 0 false 0 0) (word_of (presence_word q)) ≡ fields 0 3 0 q 0 0
unfolding row_word with_presence same_list vocabulary
word_2 k true = refl
word_2 k false = refl

word_3 : (k : ℕ) (q : Bool) (rule : Rule) → row_word k (fields 0 3 0 q 0 0) (word_of (rule_word rule)) ≡ fields 0 4 0 q (rule_word rule - 19) 0
unfolding row_word with_rule rule_found same_list vocabulary
word_3 k q Digits = refl
word_3 k q Text = refl
word_3 k q Lead = refl
word_3 k q Code = refl
word_3 k q Birth = refl
word_3 k q Expiry = refl
word_3 k q Raw = refl
word_3 k q NotD = refl

word_4 : (k : ℕ) (q : Bool) (n s : ℕ) (w : List ℕ) → lengths_of w ≡ listed 0 s 32 258 → row_word k (fields 0 4 0 q n 0) w ≡ fields 0 5 0 q n s
unfolding row_word with_lengths
word_4 k q n s w e = rw e

-- what the line of a row tells
abbrev told : Row → Fields
told r = fields 0 5 0 r.required (rule_word r.rule - 19) r.lengths

rule_back : (rule : Rule) → rule_by (rule_word rule - 19) ≡ rule
rule_back Digits = refl
rule_back Text = refl
rule_back Lead = refl
rule_back Code = refl
rule_back Birth = refl
rule_back Expiry = refl
rule_back Raw = refl
rule_back NotD = refl

row_back : (r : Row) → row_told (told r) ≡ r
row_back r = rw (rule_back r.rule)

module _ (k : ℕ) (r : Row) where
  abbrev pub row_line : List ℕ
  row_line = hex (tag_of k) ++ (0x20 ∷ (word_of k ++ (0x20 ∷ (word_of (presence_word r.required) ++ (0x20 ∷ (word_of (rule_word r.rule) ++ (0x20 ∷ lengths_text r.lengths)))))))

  pub row_text_lem : row_text k r ≡ row_line ++ (0x0A ∷ [])
  unfolding row_text front_text kind_text set_text spaced
  row_text_lem = simp append_assoc

  module _ (h : k < 17) (s : r.lengths < 2 ^ 32) where
    row_words : through (word_taken (k + 1)) no_fields
        (hex (tag_of k) ∷ word_of k ∷ word_of (presence_word r.required) ∷ word_of (rule_word r.rule) ∷ lengths_text r.lengths ∷ []) ≡ told r
    unfolding through
    row_words =
        rw (
          row_step k no_fields (hex (tag_of k)) refl,
          word_0 k,
          row_step k (fields 0 1 0 false 0 0) (word_of k) refl,
          word_1 k,
          row_step k (fields 0 2 0 false 0 0) (word_of (presence_word r.required)) refl,
          word_2 k r.required,
          row_step k (fields 0 3 0 r.required 0 0) (word_of (rule_word r.rule)) refl,
          word_3 k r.required r.rule,
          row_step k (fields 0 4 0 r.required (rule_word r.rule - 19) 0) (lengths_text r.lengths) refl,
          word_4 k r.required (rule_word r.rule - 19) r.lengths (lengths_text r.lengths) (lengths_back r.lengths s),
        )

    presence-word : Word (word_of (presence_word r.required))
    presence-word = go r.required
      where
        go : (q : Bool) → Word (word_of (presence_word q))
        go true = word_word 17 (omega arith)
        go false = word_word 18 (omega arith)

    rule-word : Word (word_of (rule_word r.rule))
    rule-word = go r.rule
      where
        go : (rule : Rule) → Word (word_of (rule_word rule))
        go Digits = word_word 19 (omega arith)
        go Text = word_word 20 (omega arith)
        go Lead = word_word 21 (omega arith)
        go Code = word_word 22 (omega arith)
        go Birth = word_word 23 (omega arith)
        go Expiry = word_word 24 (omega arith)
        go Raw = word_word 25 (omega arith)
        go NotD = word_word 26 (omega arith)

    tag_word : Word (hex (tag_of k))
    unfolding hex
    tag_word = record { some = omega arith; signs = among_wider 0x21 0x7E (omega arith) (omega arith) (tag_signs k h) }

    line-words : words row_line ≡ hex (tag_of k) ∷ word_of k ∷ word_of (presence_word r.required) ∷ word_of (rule_word r.rule) ∷ lengths_text r.lengths ∷ []
    line-words =
        rw (
          word_then (hex (tag_of k)) tag_word,
          word_then (word_of k) (word_word k (omega arith)),
          word_then (word_of (presence_word r.required)) presence-word,
          word_then (word_of (rule_word r.rule)) rule-word,
          word_alone (lengths_text r.lengths) (lengths_word r.lengths s),
        )

    pub row_flat : Among 0x20 0x7E row_line
    row_flat =
        among_append (wide tag_word) (more {b = 0x20} (omega arith) (omega arith) (among_append (wide (word_word k (omega arith))) (more {b = 0x20} (omega arith) (omega arith)
        (among_append (wide presence-word) (more {b = 0x20} (omega arith) (omega arith) (among_append (wide rule-word) (more {b = 0x20} (omega arith) (omega arith) (wide (lengths_word r.lengths s)))))))))

    line-told : line_taken (k + 1) row_line ≡ told r
    unfolding line_taken words_taken missing
    line-told = rw (line-words, row_words, ne_eqb (k + 1) 0 (λ z. omega arith))

-- ---- a line that begins with a word is no remark
no_remark : {w : List ℕ} {hi : ℕ} → Among 0x30 hi w → 0 < length w → (rest : List ℕ) → is_remark (w ++ rest) ≡ false
unfolding is_remark leading is_kind
no_remark none h rest = absurd (omega arith)
no_remark (more {b} {bs} lo up s) h rest = rw (not_blank b (omega arith), ne_eqb b 0x23 (λ z. omega arith))

pub with_row : (k n number : ℕ) (rows : List Row) (r : Row) → k < 17 → r.lengths < 2 ^ 32
    → with_line (taking 0 0 (k + 1) number rows) n (row_line k r) ≡ taking 0 0 (k + 1 + 1) number (set rows k r)
unfolding with_line stored hex
with_row k n number rows r h s =
    let m : k + 1 - 1 ≡ k = omega arith in
    rw (no_remark (tag_signs k h) (omega arith), le-ltb 17 (k + 1) (omega arith), line-told k r h s, ne_eqb (k + 1) 0 (λ z. omega arith), m, row_back r)

-- ---- the first line
abbrev pub head_line : ℕ → List ℕ
head_line number = word_of 27 ++ (0x20 ∷ decimal number)

pub head_text_lem : (number : ℕ) → head_text number ≡ head_line number ++ (0x0A ∷ [])
unfolding head_text
head_text_lem number = simp append_assoc

module _ (number : ℕ) (h : number < 256) where
  number_word : Word (decimal number)
  number_word = record { some = decimal_some number h; signs = among_wider 0x21 0x7E (omega arith) (omega arith) (decimal_digits number h) }

  pub head_flat : Among 0x20 0x7E (head_line number)
  head_flat =
      among_append (among_wider 0x20 0x7E (omega arith) (omega arith) (word_signs 27 (omega arith)))
      (more {b = 0x20} (omega arith) (omega arith) (among_wider 0x20 0x7E (omega arith) (omega arith) number_word.signs))

  head-words : words (head_line number) ≡ word_of 27 ∷ decimal number ∷ []
  head-words = rw (word_then (word_of 27) (word_word 27 (omega arith)), word_alone (decimal number) number_word)

  head-told : line_taken 0 (head_line number) ≡ fields 0 2 number false 0 0
  unfolding line_taken words_taken missing word_taken head_word through
  head-told = rw (head-words, same_self (word_of 27), decimal_back number h, lt-ltb number 256 h, mod-eq_of_lt h)

  pub with_head : with_line (taking 0 0 0 0 no_rows) 1 (head_line number) ≡ taking 0 0 1 number no_rows
  unfolding with_line stored
  with_head = rw (no_remark edition_signs (word_word 27 (omega arith)).some, head-told)
