-- `host::asking::parse` meets its contract, by its tests in the order of the definition. Assumes nothing.
use mathlib.Core.Path.{◌≡◌}
use mathlib.Core.Bool.{true, false}
use borrow.Author.Tests.{eq-eqb, ne_eqb}
use Rattle.card.specs.Refusals.{gate}
use Rattle.host.specs.Hosting.{is_reading, offset_of, count_of}
use Rattle.host.specs.Steps.{command_of}
use Rattle.host.proofs.asking.parse.Goals as goal

pub returns-then-command-ne5 : goal.returns-then-command-ne5
unfolding command_of gate
returns-then-command-ne5 c = rw (ne_eqb _ _ c.if-command-ne5.true)

pub returns-then-count-eq0 : goal.returns-then-count-eq0
unfolding command_of gate
returns-then-count-eq0 c =
    let zero : count_of c.args.command.now ≡ 0 = c.if-count-eq0.true in
    rw (eq-eqb _ _ c.if-command-ne5.false, eq-eqb _ _ zero)

pub returns-then-not-command : goal.returns-then-not-command
unfolding command_of gate
returns-then-not-command c =
    let a = c.args in
    let count : count_of a.command.now ≡ 0 → ⊥ = c.if-count-eq0.false in
    let other : is_reading a.command.now ≡ false = c.if-not-command.true in
    rw (eq-eqb _ _ c.if-command-ne5.false, ne_eqb _ _ count, other)

pub returns : goal.returns
unfolding command_of gate
returns c =
    let a = c.args in
    let count : count_of a.command.now ≡ 0 → ⊥ = c.if-count-eq0.false in
    let reading : is_reading a.command.now ≡ true = c.if-not-command.false in
    let offset : c.word.result ≡ offset_of a.command.now = c.word.ensures in
    rw (offset, eq-eqb _ _ c.if-command-ne5.false, ne_eqb _ _ count, reading)
