-- The answers on foreign cards as numbers of 64 bits: the refusal as ever, the value from bit 40 on.
use Rattle.std.specs.Prelude.{◌≡◌, ℕ, ◌+◌, ◌*◌, ◌^◌, List, Result, Ok, Err}
use Rattle.lengths.specs.declared.ToldLength.{ToldLength}
use Rattle.tree.specs.declared.Refusal.{Refusal}
use Rattle.tree_back.specs.declared.BackError.{BackError}
use Rattle.tree_back.specs.Sources.{number_of, Back}

-- the number in bits 0 to 7, the length in bits 40 to 55, the bytes used in bits 56 to 63
abbrev pub packed_length : ToldLength → ℕ
packed_length field = field.number + field.length * 2 ^ 40 + field.used * 2 ^ 56

-- the number in bits 0 to 7; from bit 40 on how many objects, or with 50 to 53 the place
abbrev pub packed_tree : Result ℕ Refusal → ℕ
packed_tree (Ok count) = count * 2 ^ 40
packed_tree (Err e) = e.number + e.place * 2 ^ 40

-- the number in bits 0 to 7, from bit 40 on how many bytes
abbrev pub packed_back : Result ℕ BackError → ℕ
packed_back (Ok size) = size * 2 ^ 40
packed_back (Err e) = number_of e

pub record PackedBack (ws vs room : List ℕ) (r : ℕ) (after : List ℕ) : Type 0 where
  pub answer : Result ℕ BackError
  pub back : Back ws vs room answer after
  pub packed : r ≡ packed_back answer
