-- The text of a table: `edition` and its number, then for each row a line of tag, name, required or optional, rule and lengths.
use Rattle.std.specs.Prelude.{ℕ, zero, suc, ◌+◌, ◌/◌, ◌%◌, ◌^◌, ◌≤◌, ◌≡◌, Bool, false, cond, List, [], ◌∷◌, ◌++◌, eqb, leb, length, take}
use Rattle.std.proofs.lemmas.List.Edits.{sets}
use Rattle.ground.specs.Rooms.{hex, decimal}
use Rattle.rules.specs.declared.Rule.{Rule}
use Rattle.rules.specs.declared.Rule.TheVariants.{Digits, Text, Lead, Code, Birth, Expiry, Raw, NotD}
use Rattle.edition.specs.declared.Row.{Row}
use Rattle.edition.specs.declared.Edition.{Edition}
use Rattle.edition.specs.Rows.{tag_of}
use Rattle.table_text.specs.Vocabulary.{word_of}

-- the length n is in the set, 0 too; and the one before it
unfoldable pub has : ℕ → ℕ → Bool
has set n = eqb (set / 2 ^ n % 2) 1

unfoldable pub has_before : ℕ → ℕ → Bool
has_before set zero = false
has_before set (suc n) = has set n

-- the first length of a run, behind a comma unless nothing stands before it
unfoldable pub first_part : ℕ → ℕ → List ℕ
first_part set n = cond (eqb (set % 2 ^ n) 0) (decimal n) (0x2C ∷ decimal n)

-- what the length n adds to the text of a set: the first of a run stands there, and the last of several behind a minus sign
unfoldable pub length_part : ℕ → ℕ → List ℕ
length_part set n = cond (has set n) (cond (has_before set n) (cond (has set (n + 1)) [] (0x2D ∷ decimal n)) (first_part set n)) []

-- the lengths from n on, so many of them
unfoldable pub length_parts : ℕ → ℕ → ℕ → List ℕ
length_parts set n zero = []
length_parts set n (suc k) = length_part set n ++ length_parts set (suc n) k

unfoldable pub lengths_text : ℕ → List ℕ
lengths_text set = cond (eqb set 0) (word_of 28) (length_parts set 0 32)

abbrev pub rule_word : Rule → ℕ
rule_word Digits = 19
rule_word Text = 20
rule_word Lead = 21
rule_word Code = 22
rule_word Birth = 23
rule_word Expiry = 24
rule_word Raw = 25
rule_word NotD = 26

abbrev pub presence_word : Bool → ℕ
presence_word required = cond required 17 18

-- word i behind a blank
unfoldable pub spaced : ℕ → List ℕ
spaced i = 0x20 ∷ word_of i

-- a line: tag and name, required or optional and the rule, the lengths
unfoldable pub front_text : ℕ → List ℕ
front_text k = hex (tag_of k) ++ spaced k

unfoldable pub kind_text : Row → List ℕ
kind_text r = spaced (presence_word r.required) ++ spaced (rule_word r.rule)

unfoldable pub set_text : ℕ → List ℕ
set_text set = 0x20 ∷ (lengths_text set ++ (0x0A ∷ []))

unfoldable pub row_text : ℕ → Row → List ℕ
row_text k r = front_text k ++ (kind_text r ++ set_text r.lengths)

-- the lines of the rows from number k on
unfoldable pub rows_text : ℕ → List Row → List ℕ
rows_text k [] = []
rows_text k (r ∷ rs) = row_text k r ++ rows_text (suc k) rs

unfoldable pub head_text : ℕ → List ℕ
head_text number = word_of 27 ++ (0x20 ∷ (decimal number ++ (0x0A ∷ [])))

unfoldable pub table_text : Edition → List ℕ
table_text e = head_text e.number ++ rows_text 0 e.rows

-- the longest text has at most 21 bytes and seventeen lines of 183; a room that it might not fit is left as it is
abbrev pub text_size : Edition → List ℕ → ℕ
text_size e room = cond (leb 3132 (length room)) (length (table_text e)) 0

abbrev pub text_room : Edition → List ℕ → List ℕ
text_room e room = cond (leb 3132 (length room)) (sets room 0 (table_text e)) room

-- n counts bytes at the start of a room; the second part follows from the first, and is what a caller that lends them has to show
abbrev pub Within : ℕ → List ℕ → Type 0
Within n room = (n ≤ length room) × (n ≡ length (take n room))
