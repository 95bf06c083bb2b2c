-- `differences::entries::byte_entry` meets its contract, by its test. Assumes nothing.
use borrow.Author.Tests.{eq-eqb, ne_eqb}
use Rattle.differences.specs.Differences.{of_bytes}
use Rattle.differences.proofs.entries.byte_entry.Goals as goal

pub returns-then-first-second : goal.returns-then-first-second
unfolding of_bytes
returns-then-first-second c = rw (eq-eqb _ _ c.if-first-second.true)

pub returns : goal.returns
unfolding of_bytes
returns c = rw (ne_eqb _ _ c.if-first-second.false) c.word_of.ensures
