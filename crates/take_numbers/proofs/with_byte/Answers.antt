-- `take_numbers::with_byte` meets its contract, by its tests. Assumes nothing.
use borrow.Author.Tests.{lt-ltb, le-ltb}
use Rattle.table_take.specs.Numbers.{with_byte}
use Rattle.take_numbers.proofs.with_byte.Goals as goal

pub returns-then-byte-lt48 : goal.returns-then-byte-lt48
unfolding with_byte
returns-then-byte-lt48 c = rw (lt-ltb _ 0x30 c.if-byte-lt48.true)

pub returns-then-byte-gt57 : goal.returns-then-byte-gt57
unfolding with_byte
returns-then-byte-gt57 c = rw (le-ltb _ 0x30 c.if-byte-lt48.false, lt-ltb 0x39 _ c.if-byte-gt57.true)

pub returns : goal.returns
unfolding with_byte
returns c = rw (le-ltb _ 0x30 c.if-byte-lt48.false, le-ltb 0x39 _ c.if-byte-gt57.false) c.with_digit.ensures
