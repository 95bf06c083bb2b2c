-- `text_values::count_letters`: by whether 255 were made. Assumes nothing.
use Rattle.card_text.proofs.Told.{letters_many, letters_few}
use Rattle.text_values.proofs.count_letters.Goals as goal

pub returns-then-turned-eq255 : goal.returns-then-turned-eq255
returns-then-turned-eq255 c = letters_many _ _ c.from_utf8-turned.ensures.value c.if-turned-eq255.true

pub returns : goal.returns
returns c = letters_few _ _ c.from_utf8-turned.ensures.value c.if-turned-eq255.false
