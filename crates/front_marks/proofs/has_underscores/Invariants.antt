-- `front_marks::has_underscores` meets its contract. The invariant: the printed rows before the i-th have no underscore. Assumes nothing.
use mathlib.Core.Path.{◌≡◌}
use lib.ListN.{drop}
use Rattle.card.specs.Content.{content_of}
use Rattle.front.specs.Refusing.{printed_rows, underscored}
use Rattle.front.proofs.Marks.{all_rows}
use Rattle.front_marks.proofs.has_underscores.Given as goal

abbrev pub invariant-loop-i : goal.invariant-loop-i
invariant-loop-i l = underscored (content_of l.content) (drop l.i all_rows) ≡ underscored (content_of l.content) (printed_rows l.fund)
