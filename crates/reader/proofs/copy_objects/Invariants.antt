-- `reader::copy_objects` meets its contract. The invariant: the objects copied so far, with absent ones behind them. Assumes nothing.
use mathlib.Core.Path.{◌≡◌}
use mathlib.Core.List.{map}
use Rattle.card.specs.Content.{object_of}
use Rattle.reader_steps.specs.Steps.{values_at}
use Rattle.reader_steps.proofs.Copies.{copied, absent}
use Rattle.reader.proofs.copy_objects.Given as goal

abbrev pub invariant-loop-i : goal.invariant-loop-i
invariant-loop-i l = l.object-items ≡ copied (map object_of (values_at l.image l.starts l.lengths)) absent 16 l.i
