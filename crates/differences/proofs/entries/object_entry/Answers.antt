-- `differences::entries::object_entry` meets its contract: two values by their lengths, and then by the first index at which they differ. Assumes nothing.
use mathlib.Core.Path.{sym, ◌∙◌}
use native.Mathlib.Omega.{arith}
use Rattle.ground.proofs.Lists.{agree_within}
use Rattle.differences.proofs.Single.{values_unlike, index_none, index_some}
use Rattle.differences.proofs.entries.object_entry.Goals as goal

pub returns-then-first-second : goal.returns-then-first-second
returns-then-first-second c =
    let a = c.args in
    c.unlike_entry.ensures ∙ sym (values_unlike a.tag a.first.now a.second.now c.if-first-second.true)

pub returns-then-index-first : goal.returns-then-index-first
returns-then-index-first c =
    let a = c.args in
    index_none a.tag a.first.now a.second.now _ c.if-first-second.false c.count_same-index.ensures c.if-index-first.true

pub word_of-requires : goal.word_of-requires
word_of-requires c =
    (omega arith, omega (arith, c.count_same-index.ensures, agree_within c.args.first.now c.args.second.now, c.if-first-second.false, c.requires))

pub returns : goal.returns
returns c =
    let a = c.args in
    index_some a.tag a.first.now a.second.now _ c.if-first-second.false c.count_same-index.ensures c.if-index-first.false _ c.word_of.ensures
