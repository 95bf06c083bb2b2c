-- `choosing_sums::sum_fits` meets its contract: nothing is told of a card with these three objects alone exactly where their sum fits. Assumes nothing.
use Rattle.choosing.proofs.Placing.{sums_of}
use Rattle.choosing_sums.proofs.sum_fits.Goals as goal

pub returns : goal.returns
returns c = rw (c.check_sums-refusal.ensures, c.place.ensures) (sums_of _ _ _)
