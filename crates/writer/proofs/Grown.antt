-- What stands in front of a place in a room, as one run of stores after the other makes it longer. Assumes nothing.
use mathlib.Core.Path.{◌≡◌, sym, ap, ◌∙◌}
use mathlib.Core.List.{List, ◌∷◌, ◌++◌, append_assoc}
use Prim.Native.Nat.{ℕ, suc, ◌+◌, ◌≤◌}
use native.Mathlib.Omega.{arith}
use lib.ListN.{length, take, drop, set}
use lib.Seq.{sets, sets-eq, length-take-le, take-length, take-append-le, take-append-add}
use Rattle.object_sizes.proofs.Items.{head_two}

-- the front of a run, and all of it
pub grown_by : (l v : List ℕ) (at k : ℕ) → at + length v ≤ length l → k ≤ length v → take (at + k) (sets l at v) ≡ take at l ++ take k v
grown_by l v at k h hk =
    let rest = drop (at + length v) l in
    let j : at ≤ length l = omega arith in
    let n : at + k ≡ length (take at l) + k = ap (λ (x : ℕ). x + k) (sym (length-take-le at l j)) in
    ap (take (at + k)) (sets-eq v l at h ∙ append_assoc (take at l) v rest)
    ∙ ap (λ (m : ℕ). take m (take at l ++ (v ++ rest))) n
    ∙ take-append-add (take at l) (v ++ rest) k
    ∙ ap (λ (x : List ℕ). take at l ++ x) (take-append-le k v rest hk)

pub grown : (l v : List ℕ) (at : ℕ) → at + length v ≤ length l → take (at + length v) (sets l at v) ≡ take at l ++ v
grown l v at h =
    let k : length v ≤ length v = omega arith in
    grown_by l v at (length v) h k ∙ ap (λ (x : List ℕ). take at l ++ x) (take-length v)

-- an object of n bytes, of which 28 were stored
pub object_grown : (l v : List ℕ) (at tag n : ℕ) {after : List ℕ} → after ≡ sets (set (set l at tag) (at + 1) n) (at + 2) v → length v ≡ 28 → n ≤ 28 → at + 30 ≤ length l
    → take (at + 2 + n) after ≡ take at l ++ (tag ∷ n ∷ take n v)
object_grown l v at tag n e hv hn room =
    let same : at + 2 + n ≡ at + suc (suc n) = omega arith in
    let fits : at + length (tag ∷ n ∷ v) ≤ length l = omega arith in
    let most : suc (suc n) ≤ length (tag ∷ n ∷ v) = omega arith in
    ap (take (at + 2 + n)) (e ∙ head_two l v at tag n) ∙ ap (λ (k : ℕ). take k (sets l at (tag ∷ n ∷ v))) same
    ∙ grown_by l (tag ∷ n ∷ v) at (suc (suc n)) fits most

-- one piece more of what is to stand in front
pub one_on : (done piece more rest whole : List ℕ) {after : List ℕ} → after ≡ done ++ piece → rest ≡ piece ++ more → done ++ rest ≡ whole → after ++ more ≡ whole
one_on done piece more rest whole e f g =
    ap (λ (x : List ℕ). x ++ more) e ∙ append_assoc done piece more ∙ ap (λ (x : List ℕ). done ++ x) (sym f) ∙ g
