-- `compare_dates` meets its contract: the distance is small, so it is the same read as signed. Assumes nothing.
use mir.Syntax.{w32}
use mir.Facts.{to_z-of_z}
use Rattle.fresher.specs.Comparing.{later}
use Rattle.fresher_weigh.proofs.compare_dates.Goals as goal

pub returns : goal.returns
unfolding later
returns c =
    let d = c.apart-months in
    rw (c.requires.0, c.requires.1, to_z-of_z {w = w32} {z = d.result} (record { sfits = d.type_inv }), d.ensures, c.none.ensures, c.pick.ensures, c.pick-2.ensures)
