-- What is put so far, and the words that are left.
use Rattle.std.proofs.Common.{◌≡◌}
use Rattle.tree_back.proofs.Sofar.{Sofar}
use Rattle.tree_write.proofs.glue_all.Given as goal

abbrev pub invariant-loop-object : goal.invariant-loop-object
invariant-loop-object l = (l.object-iterator.size ≡ 4) × Sofar l.words l.values l.fn.out l.out l.object-iterator.rest.now l.p l.q
