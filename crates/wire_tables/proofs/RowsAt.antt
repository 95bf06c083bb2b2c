-- The row at an address of a table. Assumes nothing.
use Prim.Native.Nat.{ℕ, ◌+◌, ◌<◌}
use native.Mathlib.Nat.{add-zero}
use native.Mathlib.Omega.{arith}
use mathlib.Core.Path.{◌≡◌, ap, ◌∙◌}
use mathlib.Core.Bool.{cond, ◌&&◌}
use mathlib.Core.List.{List}
use lib.Dec.{eqb, leb}
use lib.ListN.{get_or, take, drop}
use lib.Seq.{get_or-take, get_or-drop}
use Rattle.ground.specs.Pieces.{four_bytes}
use Rattle.wire_tables.specs.Tables.{rule_of, row_from}

byte_at_lem : (bs : List ℕ) (at j : ℕ) → j < 6 → get_or (take 6 (drop at bs)) j 0 ≡ get_or bs (at + j) 0
byte_at_lem bs at j h = get_or-take 6 (drop at bs) j 0 h ∙ get_or-drop at bs j 0

first_at : (bs : List ℕ) (at : ℕ) → get_or (take 6 (drop at bs)) 0 0 ≡ get_or bs at 0
first_at bs at = byte_at_lem bs at 0 (omega arith) ∙ ap (λ (x : ℕ). get_or bs x 0) (add-zero at)

pub row_at : (bs : List ℕ) (at : ℕ) → record {
  required = eqb (get_or bs at 0) 1;
  rule = rule_of (get_or bs (at + 1) 0);
  lengths = cond (leb (get_or bs at 0) 1 && leb (get_or bs (at + 1) 0) 7) (four_bytes (get_or bs (at + 2) 0) (get_or bs (at + 3) 0) (get_or bs (at + 4) 0) (get_or bs (at + 5) 0)) 0;
} ≡ row_from (take 6 (drop at bs))
unfolding row_from
row_at bs at =
    rw (first_at bs at, byte_at_lem bs at 1 (omega arith), byte_at_lem bs at 2 (omega arith), byte_at_lem bs at 3 (omega arith), byte_at_lem bs at 4 (omega arith), byte_at_lem bs at 5 (omega arith))
