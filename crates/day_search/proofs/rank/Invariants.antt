-- `day_search::rank` meets its contract. The invariant: what the search from `low` and `high` comes to, the whole search comes to. Assumes nothing.
use mathlib.Core.Path.{◌≡◌}
use Prim.Native.Nat.{◌-◌, ◌/◌, ◌≤◌}
use lib.ListN.{length}
use Rattle.day.specs.Index.{halved}
use Rattle.day.specs.Calls.{entries_in}
use Rattle.day_search.proofs.rank.Given as goal

abbrev pub invariant-loop-low : goal.invariant-loop-low
invariant-loop-low l = (l.high ≤ length l.index / 14) × (l.low ≤ l.high) × (halved (length l.index / 14) l.entry (entries_in l.index) l.low l.high ≡ halved (length l.index / 14) l.entry (entries_in l.index) 0 (length l.index / 14))

abbrev pub decreases-loop-low : goal.decreases-loop-low
decreases-loop-low l = l.high - l.low
