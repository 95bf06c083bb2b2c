-- The place behind a put is in the room. Assumes nothing.
use Prim.Native.Nat.{ℕ, ◌+◌, ◌≤◌}
use mathlib.Core.Path.{◌≡◌, refl}
use mathlib.Core.Bool.{Bool, true, false, cond}
use mathlib.Core.List.{List}
use lib.Dec.{leb}
use lib.ListN.{length}
use borrow.Author.Tests.{leb-true}
use Rattle.ground.specs.Rooms.{behind_put}

pub behind_within : (room : List ℕ) (at : ℕ) (bytes : List ℕ) {behind : ℕ} → behind ≡ behind_put room at bytes → at ≤ length room → behind ≤ length room
unfolding behind_put
behind_within room at bytes e h = rw e (go (leb (at + length bytes) (length room)) refl)
  where
    go : (q : Bool) → leb (at + length bytes) (length room) ≡ q → cond q (at + length bytes) at ≤ length room
    go true t = leb-true _ _ t
    go false t = h
