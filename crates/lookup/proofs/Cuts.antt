-- A part by the two numbers of its place. Assumes nothing.
use mathlib.Core.Path.{◌≡◌}
use mathlib.Core.List.{List, []}
use Prim.Native.Nat.{ℕ, ◌+◌, ◌-◌, ◌<◌, ◌≤◌}
use native.Mathlib.Nat.{add-sub_cancel_left}
use borrow.Author.Tests.{le-leb, lt-leb}
use lib.ListN.{length, take, drop}
use Rattle.lookup.specs.Parts.{within}

pub within_none : (s : List ℕ) (a n : ℕ) → length s < a + n → within s a n ≡ []
unfolding within
within_none s a n h = rw (lt-leb (a + n) (length s) h)

pub within_is : (s : List ℕ) (a n : ℕ) → a + n ≤ length s → within s a n ≡ take n (drop a s)
unfolding within
within_is s a n h = rw (le-leb (a + n) (length s) h)

-- from a start to an end
pub within_some : (s : List ℕ) (a n : ℕ) → a + n ≤ length s → take (a + n - a) (drop a s) ≡ within s a n
within_some s a n h = rw (add-sub_cancel_left a n, within_is s a n h)
