-- An object that is written is read. Assumes nothing.
use mathlib.Core.Path.{◌≡◌}
use Prim.Native.Nat.{ℕ, suc, ◌+◌, ◌-◌, ◌≤◌}
use native.Mathlib.Omega.{arith}
use mathlib.Core.List.{List, ◌∷◌, ◌++◌}
use borrow.Author.Tests.{le-ltb}
use lib.ListN.{length, length-append}
use Rattle.lengths.proofs.Laws.{field_read}
use Rattle.tree.specs.Heads.{found, head_at}
use Rattle.lengths.specs.Lengths.{length_field}
use Rattle.tree.specs.Forest.{front, Fine}

-- an object that is written as it should be is read as such, whatever follows
pub head_read : (t d at n : ℕ) (v r : List ℕ) → length v ≡ n → Fine d t n
    → head_at (t ∷ (length_field n ++ (v ++ r))) at d ≡ found t (front n) n
unfolding head_at
head_read t d at n v r e f =
    let l : length (t ∷ (length_field n ++ (v ++ r))) ≡ suc (length (length_field n) + (n + length r)) = simp (length-append, e) in
    let g : n ≤ length (t ∷ (length_field n ++ (v ++ r))) - (length (length_field n) + 1) = omega arith in
    rw (f.tag, le-ltb 6 d f.deep, field_read n (v ++ r) f.size, le-ltb (length (t ∷ (length_field n ++ (v ++ r))) - (length (length_field n) + 1)) n g)
