-- Both sides of each edge, computed. Assumes nothing.
use mathlib.Core.Path.{◌≡◌, refl}
use Prim.Native.Nat.{ℕ}
use mathlib.Core.List.{List, [], ◌∷◌, map}
use Rattle.lengths.specs.Lengths.{length_read}
use Rattle.tree.specs.Heads.{head_at}
use Rattle.tree.specs.Listing.{entry, took, refused, run, listing}

cases : List (List ℕ)
cases =
    []
    ∷ (0x60 ∷ 2 ∷ 0x80 ∷ 0 ∷ 0x81 ∷ 1 ∷ 0x41 ∷ [])
    ∷ (0 ∷ [])
    ∷ (0x1F ∷ 0 ∷ [])
    ∷ (0x1E ∷ 0 ∷ [])
    ∷ (0x80 ∷ [])
    ∷ (0x80 ∷ 0x80 ∷ [])
    ∷ (0x80 ∷ 0x81 ∷ 1 ∷ 0 ∷ [])
    ∷ (0x80 ∷ 2 ∷ 1 ∷ [])
    ∷ (0x60 ∷ 1 ∷ 0x80 ∷ 0 ∷ [])
    ∷ (0x20 ∷ 1 ∷ 0x81 ∷ 0 ∷ 0 ∷ [])
    ∷ (0x60 ∷ 10 ∷ 0x60 ∷ 8 ∷ 0x60 ∷ 6 ∷ 0x60 ∷ 4 ∷ 0x60 ∷ 2 ∷ 0x60 ∷ 0 ∷ [])
    ∷ (0x60 ∷ 12 ∷ 0x60 ∷ 10 ∷ 0x60 ∷ 8 ∷ 0x60 ∷ 6 ∷ 0x60 ∷ 4 ∷ 0x60 ∷ 2 ∷ 0x60 ∷ 0 ∷ [])
    ∷ []

marked : map (λ (s : List ℕ). listing 1 0 s) cases ≡
    took [] 0
    ∷ took (entry 0x60 1 0 2 ∷ entry 0x80 2 2 0 ∷ entry 0x81 1 4 1 ∷ []) 7
    ∷ refused 50 0
    ∷ refused 50 0
    ∷ took (entry 0x1E 1 0 0 ∷ []) 2
    ∷ refused 51 1
    ∷ refused 51 1
    ∷ refused 51 1
    ∷ refused 52 0
    ∷ refused 51 3
    ∷ refused 51 3
    ∷ took (entry 0x60 1 0 10 ∷ entry 0x60 2 2 8 ∷ entry 0x60 3 4 6 ∷ entry 0x60 4 6 4 ∷ entry 0x60 5 8 2 ∷ entry 0x60 6 10 0 ∷ []) 12
    ∷ refused 53 12
    ∷ []
unfolding cases listing run head_at length_read
marked = refl
