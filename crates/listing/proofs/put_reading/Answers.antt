-- `listing::put_reading` meets its contract, by its test. Assumes nothing.
use native.Mathlib.Omega.{arith}
use borrow.Author.Tests.{eq-eqb, ne_eqb}
use Rattle.listing.specs.Listing.{listing}
use Rattle.ground.proofs.Puts.{put_then}
use Rattle.listing.proofs.put_reading.Goals as goal

pub returns-then-refusal-ne0 : goal.returns-then-refusal-ne0
unfolding listing
returns-then-refusal-ne0 c =
    record { put = rw (ne_eqb _ 0 c.if-refusal-ne0.true) c.put_refusal.ensures.put; upper_bound = omega (arith, c.put_refusal.ensures.upper_bound) }

pub returns : goal.returns
unfolding listing
returns c =
    let put = put_then c.put_line-start.ensures c.put_objects.ensures.put in
    record { put = rw (eq-eqb _ _ c.if-refusal-ne0.false) put; upper_bound = omega (arith, c.put_line-start.ensures.place, c.put_objects.ensures.upper_bound) }
