-- `front_names::forenames_end` meets its contract, part by part. Assumes nothing.
use Rattle.front.proofs.Sizes.{forenames_end}
use Rattle.front_names.proofs.forenames_end.Goals as goal

pub returns : goal.returns
returns c =
    forenames_end c.args.content c.line_end-behind_title.ensures c.line_end-behind_given.ensures c.line_end.ensures
