-- The sizes of what is not refused, and that the last byte is the record's number. Assumes nothing.
use Prim.Native.Nat.{ℕ}
use native.Mathlib.Omega.{arith}
use mathlib.Core.Path.{◌≡◌}
use mathlib.Core.List.{List}
use lib.ListN.{length}
use borrow.Author.Tests.{eqb-true}
use Rattle.card.proofs.Chains.{gate_in}
use Rattle.calls_cards.specs.Calls.{kvk_renumber}

pub record Sized (table bytes : List ℕ) : Type 0 where
  pub record_size : length bytes ≡ 479
  pub table_size : length table ≡ 103

pub sized : (table bytes : List ℕ) → (kvk_renumber table bytes).number ≡ 0 → Sized table bytes
unfolding kvk_renumber
sized table bytes z =
    let g1 = gate_in _ _ _ (omega arith) z in
    let g2 = gate_in _ _ _ (omega arith) g1.1 in
    record { record_size = eqb-true _ _ g1.0; table_size = eqb-true _ _ g2.0 }
