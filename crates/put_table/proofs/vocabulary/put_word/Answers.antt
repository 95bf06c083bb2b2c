-- `vocabulary::put_word` meets its contract: a word is its part of the string of all words, and has 16 bytes at most. Assumes nothing.
use Prim.Native.Nat.{◌<◌}
use Rattle.table_text.proofs.WordParts.{word_part, word_after, word_within, word_short, word_length}
use native.Mathlib.Omega.{arith}
use Rattle.put_table.proofs.vocabulary.put_word.Goals as goal

pub put_part-requires : goal.put_part-requires
put_part-requires c =
    let i = c.args.i in
    let h : i < 29 = omega arith in
    (omega (arith, word_after i h), omega (arith, word_within i h), omega (arith, word_short i h, word_after i h))

pub returns : goal.returns
returns c =
    let i = c.args.i in
    let h : i < 29 = omega arith in
    let told = rw (c.start_of-start.ensures, c.start_of-end.ensures, word_part i h) at c.put_part.ensures in
    record { put = told; upper_bound = omega (arith, told.place, word_length i h) }
