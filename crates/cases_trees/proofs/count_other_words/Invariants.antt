-- No more words are counted than were seen.
use Rattle.std.proofs.Common.{◌≤◌}
use Rattle.cases_trees.proofs.count_other_words.Given as goal

abbrev pub invariant-loop-other : goal.invariant-loop-other
invariant-loop-other l = l.count ≤ l.other-index
