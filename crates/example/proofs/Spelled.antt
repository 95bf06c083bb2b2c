-- A value put into a room of zeros is the object of it. Assumes nothing.
use Prim.Native.Nat.{ℕ, ◌-◌, ◌<◌, ◌≤◌}
use native.Mathlib.Omega.{arith}
use mathlib.Core.Path.{◌≡◌, refl, sym, ap, ap₂, ◌∙◌}
use mathlib.Core.Bool.{false}
use mathlib.Core.List.{List, [], ◌∷◌, ◌++◌}
use lib.Dec.{eqb}
use lib.ListN.{length, replicate, length-replicate}
use lib.Seq.{sets, length-sets}
use borrow.Author.Tests.{ne_eqb}
use Rattle.ground.specs.Rooms.{room_with}
use Rattle.ground.proofs.Stores.{sets_then, sets_blank}
use Rattle.ground.proofs.Puts.{put_stored}
use Rattle.card.specs.Content.{object_of}
use Rattle.example.specs.Cards.{spelled}

spelled_length : (n first rest : ℕ) → 0 < n → length (first ∷ replicate (n - 1) rest) ≡ n
spelled_length n first rest h = let e = length-replicate (n - 1) rest in omega arith

pub spelled_object : (n first rest : ℕ) (put filled : List ℕ) → 0 < n → n ≤ 28 → put ≡ room_with (replicate 28 0) 0 (first ∷ []) → filled ≡ room_with put 1 (replicate (n - 1) rest)
    → record { length = n; bytes = filled } ≡ object_of (spelled n first rest)
unfolding object_of spelled
spelled_object n first rest put filled some most p f =
    let size : length (first ∷ replicate (n - 1) rest) ≡ n = spelled_length n first rest some in
    let a : put ≡ sets (replicate 28 0) 0 (first ∷ []) = put_stored (replicate 28 0) 0 (first ∷ []) (omega arith) p in
    let l : length put ≡ 28 = ap length a ∙ length-sets (replicate 28 0) 0 (first ∷ []) in
    let b : filled ≡ sets put 1 (replicate (n - 1) rest) = put_stored put 1 (replicate (n - 1) rest) (omega (arith, l, size)) f in
    let d : filled ≡ sets (replicate 28 0) 0 (first ∷ replicate (n - 1) rest) = b ∙ sets_then (replicate 28 0) (first ∷ []) 0 (replicate (n - 1) rest) a refl in
    let e : filled ≡ (first ∷ replicate (n - 1) rest) ++ replicate (28 - length (first ∷ replicate (n - 1) rest)) 0 = d ∙ sets_blank 28 0 (first ∷ replicate (n - 1) rest) (omega (arith, size)) in
    let z : eqb n 0 ≡ false = ne_eqb n 0 (omega arith) in
    rw z (ap₂ (λ (m : ℕ) (bs : List ℕ). record { length = m; bytes = bs }) (sym size) e)
