-- `card_sums::start_of` meets its contract: past its end a list gives 0. Assumes nothing.
use mathlib.Core.Path.{sym}
use native.Mathlib.Omega.{arith}
use lib.ListN.{get_or-eq_default}
use Rattle.card_sums.proofs.start_of.Goals as goal

pub returns-else-k-lt16 : goal.returns-else-k-lt16
returns-else-k-lt16 c = sym (get_or-eq_default c.args.starts 0 (omega (arith, c.if-k-lt16.false)))
