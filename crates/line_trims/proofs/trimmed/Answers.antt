-- `line_trims::trimmed`: the blanks are counted behind the cut. Assumes nothing.
use native.Mathlib.Omega.{arith}
use mathlib.Core.Path.{ap, ◌∙◌}
use Rattle.card_lines.specs.Lines.{without_blanks}
use lib.Dec.{eqb}
use Rattle.ground.proofs.Lists.{leading_most}
use Rattle.card_lines.proofs.Cuts.{blanks_off}
use Rattle.line_trims.proofs.trimmed.Goals as goal

pub slice_bounds-result-count : goal.slice_bounds-result-count
slice_bounds-result-count c = omega (arith, c.count_blanks-blanks.ensures, leading_most (eqb 0x20) c.without_return-whole.result.now)

pub slice_bounds-result-start : goal.slice_bounds-result-start
slice_bounds-result-start c = omega (arith, c.count_blanks-blanks.ensures, leading_most (eqb 0x20) c.without_return-whole.result.now)

pub returns : goal.returns
returns c = blanks_off _ _ c.count_blanks-blanks.ensures ∙ ap without_blanks c.without_return-whole.ensures
