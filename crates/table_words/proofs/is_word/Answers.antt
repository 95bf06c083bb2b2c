-- `table_words::is_word` meets its contract: a word is its part of the string of all words. Assumes nothing.
use Prim.Native.Nat.{◌<◌}
use mathlib.Core.Path.{sym, ap, ◌∙◌}
use Rattle.ground.specs.Lists.{same_list}
use Rattle.table_text.proofs.WordParts.{word_part, word_after, word_within, no_word}
use native.Mathlib.Omega.{arith}
use Rattle.table_words.proofs.is_word.Goals as goal

pub returns-then-i-ge29 : goal.returns-then-i-ge29
returns-then-i-ge29 c = c.is_same.ensures ∙ ap (same_list _) (sym (no_word _ c.if-i-ge29.true))

pub is_part-requires : goal.is_part-requires
is_part-requires c =
    let i = c.args.i in
    let h : i < 29 = omega arith in
    (omega (arith, word_after i h), omega (arith, word_within i h))

pub returns : goal.returns
returns c =
    let i = c.args.i in
    let h : i < 29 = omega arith in
    rw (c.start_of-start.ensures, c.start_of-end.ensures, word_part i h) at c.is_part.ensures
