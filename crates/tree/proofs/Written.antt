-- What was read is what would be written: the tag, the field, and what they may be. Assumes nothing.
use mathlib.Core.Path.{◌≡◌, ap}
use Prim.Native.Nat.{ℕ, suc, ◌+◌, ◌-◌, ◌≤◌, ◌<◌}
use native.Mathlib.Numerals.{add-one}
use native.Mathlib.Nat.{not-suc-le-zero}
use mathlib.Core.Bool.{false}
use mathlib.Core.List.{List, [], ◌∷◌, ◌++◌}
use borrow.Author.Tests.{ltb-false, eqb-true}
use lib.Dec.{ltb, eqb}
use lib.ListN.{length, drop}
use Rattle.std.specs.Prelude.{Result, Ok, Err}
use Rattle.lengths.specs.declared.ToldLength.{ToldLength}
use Rattle.lengths.specs.Lengths.{length_read, length_told, length_field}
use Rattle.lengths.proofs.Laws.{Written, read_written}
use Rattle.tree.specs.declared.Head.{Head}
use Rattle.tree.specs.declared.Refusal.{Refusal}
use Rattle.tree.specs.Heads.{bad_tag, found, refuse, head_at, on_field}
use Rattle.tree.specs.Forest.{front, Fine}
use Rattle.tree.specs.Trees.{Below}
use Rattle.tree.proofs.Behind.{told_read}
use Rattle.tree.proofs.Inside.{either_way}

-- a head is what would be written before its value
pub record Begins (s : List ℕ) (d t start n : ℕ) : Type 0 where
  pub is : s ≡ t ∷ (length_field n ++ drop start s)
  pub starts : start ≡ front n
  pub fine : Fine d t n

abbrev pub BeginsIf : List ℕ → ℕ → Result Head Refusal → Type 0
BeginsIf s d (Ok h) = Begins s d h.tag h.start h.length
BeginsIf s d (Err e) = Unit {0}

on_field_lem : (b : ℕ) (r : List ℕ) (at d : ℕ) (f : ToldLength) → bad_tag b ≡ false → d ≤ 6 → (f.number ≡ 0 → Written r f.length f.used) → BeginsIf (b ∷ r) d (on_field f (b ∷ r) at)
on_field_lem b r at d f p q w =
    either_way (BeginsIf (b ∷ r) d) (eqb f.number 0) _ _ (λ z.
    either_way (BeginsIf (b ∷ r) d) (ltb (length (b ∷ r) - (f.used + 1)) f.length) (refuse 52 at) (found b (f.used + 1) f.length) (λ _. tt) (λ _.
    let v = w (eqb-true f.number 0 z) in
    record { is = rw (add-one f.used) (ap (λ (l : List ℕ). b ∷ l) v.bytes); starts = ap (λ (x : ℕ). x + 1) v.size; fine = record { tag = p; deep = q; size = v.most } })) (λ _. tt)

pub begins : (s : List ℕ) (at d : ℕ) → 0 < length s → Below 256 s → BeginsIf s d (head_at s at d)
unfolding head_at
begins [] at d p w = absurd (not-suc-le-zero p)
begins (b ∷ r) at d p w =
    let f = length_told (length_read r) in
    either_way (BeginsIf (b ∷ r) d) (bad_tag b) (refuse 50 at) _ (λ _. tt) (λ g.
    either_way (BeginsIf (b ∷ r) d) (ltb 6 d) (refuse 53 at) (on_field f (b ∷ r) at) (λ _. tt) (λ h.
    on_field_lem b r at d f g (ltb-false 6 d h) (λ z. read_written r f.length f.used (λ i. w (suc i)) (told_read (length_read r) z))))
