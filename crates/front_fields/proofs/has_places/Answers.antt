-- `front_fields::has_places` meets its contract: the sum is compared as a difference, which cannot wrap. Assumes nothing.
use mathlib.Core.Path.{◌≡◌, refl}
use mathlib.Core.Bool.{Bool, true, false}
use Prim.Native.Nat.{ℕ, ◌+◌, ◌-◌, ◌≤◌}
use native.Mathlib.Omega.{arith}
use lib.Dec.{leb}
use borrow.Author.Tests.{lt-leb, le-leb, leb-true, leb-false}
use borrow.Author.Rules.{rules}
use Rattle.front_fields.proofs.has_places.Goals as goal

turned : (at count size : ℕ) → count ≤ size → leb at (size - count) ≡ leb (at + count) size
turned at count size h = go (leb at (size - count)) refl
  where
    go : (q : Bool) → leb at (size - count) ≡ q → q ≡ leb (at + count) size
    go true e = rw (le-leb (at + count) size (omega (arith, leb-true at (size - count) e)))
    go false e = rw (lt-leb (at + count) size (omega (arith, leb-false at (size - count) e)))

pub returns-then-size-places : goal.returns-then-size-places
returns-then-size-places c = rw (lt-leb (c.args.at + c.args.places) c.args.size (omega arith))

pub returns : goal.returns
returns c = turned c.args.at c.args.places c.args.size (search rules)
