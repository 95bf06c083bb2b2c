-- `tree_entries::put_words` meets its contract: the four words are put where they fit. Assumes nothing.
use native.Mathlib.Omega.{arith}
use mathlib.Core.Path.{◌≡◌}
use Prim.Native.Nat.{suc, ◌+◌}
use borrow.Author.Tests.{le-leb, lt-leb}
use lib.ListN.{length, length-set}
use Rattle.ground.specs.Rooms.{room_with}
use Rattle.tree.specs.Answers.{words}
use borrow.Author.Rules.{rules}
use Rattle.tree_entries.proofs.put_words.Goals as goal

pub returns-then-room-lt4 : goal.returns-then-room-lt4
unfolding room_with words
returns-then-room-lt4 c = let a = c.args in rw (lt-leb (a.k + 4) (length a.room.now) (omega arith))

pub bounds-room-k-then-k-room : goal.bounds-room-k-then-k-room
bounds-room-k-then-k-room c = simp length-set (omega arith)

pub bounds-room-k-then-k-room-2 : goal.bounds-room-k-then-k-room-2
bounds-room-k-then-k-room-2 c = simp length-set (omega arith)

pub bounds-room-k-then-k-room-3 : goal.bounds-room-k-then-k-room-3
bounds-room-k-then-k-room-3 c = simp length-set (omega arith)

pub returns-then-k-room : goal.returns-then-k-room
unfolding room_with words
returns-then-k-room c =
    let a = c.args in
    let k = a.k in
    let e1 : k + 1 ≡ suc k = omega arith in
    let e2 : k + 2 ≡ suc (suc k) = omega arith in
    let e3 : k + 3 ≡ suc (suc (suc k)) = omega arith in
    rw (le-leb (k + 4) (length a.room.now) (omega arith), e1, e2, e3)

pub returns-else-k-room : goal.returns-else-k-room
unfolding room_with words
returns-else-k-room c = let a = c.args in rw (lt-leb (a.k + 4) (length a.room.now) (omega arith))
