-- `edition_tags::tag_of` meets its contract: its arms are the table of the tags, and a row that is none of the seventeen is past them. Assumes nothing.
use mathlib.Core.Path.{sym}
use Prim.Native.Nat.{◌≤◌}
use native.Mathlib.Omega.{arith}
use lib.ListN.{get_or-eq_default}
use Rattle.edition.specs.Rows.{tags}
use Rattle.edition_tags.proofs.tag_of.Goals as goal

pub returns-in-0 : goal.returns-in-0
unfolding tags
returns-in-0 c = rw c.in-0.is

pub returns-in-1 : goal.returns-in-1
unfolding tags
returns-in-1 c = rw c.in-1.is

pub returns-in-2 : goal.returns-in-2
unfolding tags
returns-in-2 c = rw c.in-2.is

pub returns-in-3 : goal.returns-in-3
unfolding tags
returns-in-3 c = rw c.in-3.is

pub returns-in-4 : goal.returns-in-4
unfolding tags
returns-in-4 c = rw c.in-4.is

pub returns-in-5 : goal.returns-in-5
unfolding tags
returns-in-5 c = rw c.in-5.is

pub returns-in-6 : goal.returns-in-6
unfolding tags
returns-in-6 c = rw c.in-6.is

pub returns-in-7 : goal.returns-in-7
unfolding tags
returns-in-7 c = rw c.in-7.is

pub returns-in-8 : goal.returns-in-8
unfolding tags
returns-in-8 c = rw c.in-8.is

pub returns-in-9 : goal.returns-in-9
unfolding tags
returns-in-9 c = rw c.in-9.is

pub returns-in-10 : goal.returns-in-10
unfolding tags
returns-in-10 c = rw c.in-10.is

pub returns-in-11 : goal.returns-in-11
unfolding tags
returns-in-11 c = rw c.in-11.is

pub returns-in-12 : goal.returns-in-12
unfolding tags
returns-in-12 c = rw c.in-12.is

pub returns-in-13 : goal.returns-in-13
unfolding tags
returns-in-13 c = rw c.in-13.is

pub returns-in-14 : goal.returns-in-14
unfolding tags
returns-in-14 c = rw c.in-14.is

pub returns-in-15 : goal.returns-in-15
unfolding tags
returns-in-15 c = rw c.in-15.is

pub returns-in-16 : goal.returns-in-16
unfolding tags
returns-in-16 c = rw c.in-16.is

pub returns-in_default : goal.returns-in_default
unfolding tags
returns-in_default c =
    let past-17 : 17 ≤ c.args.row = omega arith in
    sym (get_or-eq_default tags 0 past-17)
