-- The bytes of a content that belong to no object, by their index among the addresses. Assumes nothing.
use Prim.Native.Nat.{ℕ, suc, ◌<◌}
use native.Mathlib.Omega.{arith}
use mathlib.Core.Path.{◌≡◌, ap}
use mathlib.Core.List.{List, [], ◌∷◌}
use lib.ListN.{length, get_or, length-append, get_or-append}
use lib.Seq.{get_or_at}
use Rattle.card.specs.Content.{Content}
use Rattle.differences.specs.Differences.{free_addresses, addresses, bytes_of}

pub bytes_14 : (c : Content) → length c.free ≡ 12 → length (bytes_of c) ≡ length addresses
unfolding bytes_of addresses
bytes_14 c h = rw (length-append, h)

pub free_at : (c : Content) → length c.free ≡ 12 → (k : ℕ) → k < 12 → get_or (bytes_of c) (suc k) 0 ≡ get_or c.free k 0
unfolding bytes_of
free_at c n k h = get_or-append c.free (c.last ∷ []) 0 k (omega arith)

pub last_at : (c : Content) → length c.free ≡ 12 → get_or (bytes_of c) 13 0 ≡ c.last
unfolding bytes_of
last_at c n = get_or_at c.free c.last [] 0 12 n

pub address_at : (k : ℕ) → k < 12 → get_or addresses (suc k) 0 ≡ get_or free_addresses k 0
unfolding addresses
address_at k h = get_or-append free_addresses (255 ∷ []) 0 k h

pub first_same : (c d : Content) → bytes_of c ≡ bytes_of d → c.first ≡ d.first
unfolding bytes_of
first_same c d b = ap (λ (l : List ℕ). get_or l 0 0) b
