-- What the words of a line say. What is wrong: 1 `edition` is due, 2 a number from 0 to 255, 3 the row's tag, 4 its name, 5 `required` or `optional`,
-- 6 a rule, 7 to 9 its lengths; 10 the line goes on.
use Rattle.std.specs.Prelude.{ℕ, zero, suc, ◌+◌, ◌-◌, ◌%◌, Bool, false, cond, ◌||◌, List, eqb, ltb}
use Rattle.ground.specs.Lists.{same_list}
use Rattle.ground.specs.Rooms.{hex}
use Rattle.edition.specs.Rows.{tag_of}
use Rattle.table_text.specs.Vocabulary.{word_of}
use Rattle.table_take.specs.declared.Fields.{Fields}
use Rattle.table_take.specs.Splitting.{words, through}
use Rattle.table_take.specs.Numbers.{number_of}
use Rattle.table_take.specs.LengthSets.{lengths_of}

abbrev pub fields : ℕ → ℕ → ℕ → Bool → ℕ → ℕ → Fields
fields wrong field number required rule lengths =
    record { wrong = wrong; field = field; number = number; required = required; rule = rule; lengths = lengths }

abbrev pub no_fields : Fields
no_fields = fields 0 0 0 false 0 0

abbrev pub marked : Fields → ℕ → ℕ → Fields
marked f wrong field = fields wrong field f.number f.required f.rule f.lengths

-- the first of the words from number n on, so many of them, that is this one
unfoldable pub rule_found : List ℕ → ℕ → ℕ → ℕ
rule_found w n zero = n
rule_found w n (suc k) = cond (same_list w (word_of n)) n (rule_found w (suc n) k)

-- a word of the first line
unfoldable pub head_word : Fields → List ℕ → Fields
head_word f w =
    cond (eqb f.field 0) (marked f (cond (same_list w (word_of 27)) 0 1) 1)
    (cond (eqb f.field 1)
    (fields (cond (ltb (number_of w) 256) 0 2) 2 (number_of w % 256) f.required f.rule f.lengths)
    (marked f 10 f.field))

unfoldable pub with_presence : Fields → List ℕ → Fields
with_presence f w =
    fields (cond (same_list w (word_of 17) || same_list w (word_of 18)) 0 5) 3 f.number (same_list w (word_of 17)) f.rule f.lengths

unfoldable pub with_rule : Fields → List ℕ → Fields
with_rule f w = fields (cond (ltb (rule_found w 19 8) 27) 0 6) 4 f.number f.required (rule_found w 19 8 - 19) f.lengths

unfoldable pub with_lengths : Fields → List ℕ → Fields
with_lengths f w = fields (lengths_of w).wrong 5 f.number f.required f.rule (lengths_of w).set

-- a word of the line of row k
unfoldable pub row_word : ℕ → Fields → List ℕ → Fields
row_word k f w =
    cond (eqb f.field 0) (marked f (cond (same_list w (hex (tag_of k))) 0 3) 1)
    (cond (eqb f.field 1) (marked f (cond (same_list w (word_of k)) 0 4) 2)
    (cond (eqb f.field 2) (with_presence f w)
    (cond (eqb f.field 3) (with_rule f w)
    (cond (eqb f.field 4) (with_lengths f w) (marked f 10 f.field)))))

-- a word of the line that is due: 0 the first line, k + 1 that of row k
unfoldable pub word_taken : ℕ → Fields → List ℕ → Fields
word_taken due f w = cond (eqb f.wrong 0) (cond (eqb due 0) (head_word f w) (row_word (due - 1) f w)) f

-- a word that is missing is wrong as another word would be
unfoldable pub missing : ℕ → ℕ → ℕ
missing due field = cond (eqb due 0) (cond (ltb field 2) (field + 1) 0) (cond (ltb field 5) (field + 3) 0)

unfoldable pub words_taken : ℕ → List ℕ → Fields
words_taken due line = through (word_taken due) no_fields (words line)

unfoldable pub line_taken : ℕ → List ℕ → Fields
line_taken due line =
    cond (eqb (words_taken due line).wrong 0)
    (marked (words_taken due line) (missing due (words_taken due line).field) (words_taken due line).field)
    (words_taken due line)
