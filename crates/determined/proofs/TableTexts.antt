-- No second answer of a table as text, and back; stated as in `Determined`. Assumes nothing.
use mathlib.Core.Path.{◌≡◌, sym, ◌∙◌}
use Rattle.table_words.proofs.start_of.Reads as start_of_lem
use Rattle.row_words.proofs.rule_word.Reads as rule-word
use Rattle.row_words.proofs.presence_word.Reads as presence-word
use Rattle.put_table.proofs.put.Reads as put
use Rattle.table_words.proofs.is_word.Reads as is_IsWord
use Rattle.take_cuts.proofs.behind.Reads as behind
use Rattle.take_cuts.proofs.is_remark.Reads as is-remark
use Rattle.take_numbers.proofs.with_byte.Reads as with_byte
use Rattle.take_numbers.proofs.number_of.Reads as number_of_lem
use Rattle.take_sets.proofs.lengths_of.Reads as lengths-of
use Rattle.take_words.proofs.line_taken.Reads as line_Taken
use Rattle.take_rules.proofs.rule_by.Reads as rule-by
use Rattle.take_ends.proofs.finished.Reads as finished
use Rattle.take_lines.proofs.take.Reads as take

pub table_put_once : (κs : _) (a : _) (z y : _) (e f : _) → put.Post κs a z e → put.Post κs a y f → z ≡ y
table_put_once κs a z y e f p q = p.0 ∙ sym q.0

pub table_put_room_once : (κs : _) (a : _) (z y : _) (e f : _) → put.Post κs a z e → put.Post κs a y f → e.1.0.now ≡ f.1.0.now
table_put_room_once κs a z y e f p q = p.1.0 ∙ sym q.1.0

pub is_word_once : (κs : _) (a : _) (z y : _) (e f : _) → is_IsWord.Post κs a z e → is_IsWord.Post κs a y f → z ≡ y
is_word_once κs a z y e f p q = p ∙ sym q

pub take_once : (κs : _) (a : _) (z y : _) (e f : _) → take.Post κs a z e → take.Post κs a y f → z ≡ y
take_once κs a z y e f p q = p ∙ sym q

pub start_of_once : (κs : _) (a : _) (z y : _) (e f : _) → start_of_lem.Post κs a z e → start_of_lem.Post κs a y f → z ≡ y
start_of_once κs a z y e f p q = p ∙ sym q

pub rule_word_once : (κs : _) (a : _) (z y : _) (e f : _) → rule-word.Post κs a z e → rule-word.Post κs a y f → z ≡ y
rule_word_once κs a z y e f p q = p.0 ∙ sym q.0

pub presence_word_once : (κs : _) (a : _) (z y : _) (e f : _) → presence-word.Post κs a z e → presence-word.Post κs a y f → z ≡ y
presence_word_once κs a z y e f p q = p.0 ∙ sym q.0

pub behind_once : (κs : _) (a : _) (z y : _) (e f : _) → behind.Post κs a z e → behind.Post κs a y f → z ≡ y
behind_once κs a z y e f p q = p.0 ∙ sym q.0

pub is_remark_once : (κs : _) (a : _) (z y : _) (e f : _) → is-remark.Post κs a z e → is-remark.Post κs a y f → z ≡ y
is_remark_once κs a z y e f p q = p ∙ sym q

pub with_byte_once : (κs : _) (a : _) (z y : _) (e f : _) → with_byte.Post κs a z e → with_byte.Post κs a y f → z ≡ y
with_byte_once κs a z y e f p q = p ∙ sym q

pub number_of_once : (κs : _) (a : _) (z y : _) (e f : _) → number_of_lem.Post κs a z e → number_of_lem.Post κs a y f → z ≡ y
number_of_once κs a z y e f p q = p ∙ sym q

pub lengths_of_once : (κs : _) (a : _) (z y : _) (e f : _) → lengths-of.Post κs a z e → lengths-of.Post κs a y f → z ≡ y
lengths_of_once κs a z y e f p q = p ∙ sym q

pub line_taken_once : (κs : _) (a : _) (z y : _) (e f : _) → line_Taken.Post κs a z e → line_Taken.Post κs a y f → z ≡ y
line_taken_once κs a z y e f p q = p ∙ sym q

pub rule_by_once : (κs : _) (a : _) (z y : _) (e f : _) → rule-by.Post κs a z e → rule-by.Post κs a y f → z ≡ y
rule_by_once κs a z y e f p q = p ∙ sym q

pub finished_once : (κs : _) (a : _) (z y : _) (e f : _) → finished.Post κs a z e → finished.Post κs a y f → z ≡ y
finished_once κs a z y e f p q = p ∙ sym q
