-- `rebuilding::mending::mend` meets its contract: each part of the record is chosen as the definition says. Assumes nothing.
use mathlib.Core.Path.{refl}
use Rattle.rebuilding.proofs.Mended.{record_mended}
use Rattle.rebuilding.proofs.mending.mend.Goals as goal

pub returns : goal.returns
returns c =
    let a = c.args in
    record { result_value = record_mended a.entries.now a.first a.second _ _ _ _ _ c.mend_byte.ensures c.mend_free.ensures c.mend_byte-2.ensures c.mend_objects.ensures; number_value = refl }
