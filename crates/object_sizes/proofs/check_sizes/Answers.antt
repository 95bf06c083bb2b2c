-- `check_sizes` meets its contract, by what it calls. Assumes nothing.
use Rattle.object_sizes.specs.Sizes.{sizes_refusal}
use Rattle.object_sizes.proofs.check_sizes.Goals as goal

pub returns : goal.returns
unfolding sizes_refusal
returns c =
    rw (← c.check_sums-sums.ensures, ← c.size_of.ensures.value, ← c.check_size-template.ensures) c.first_of.ensures
