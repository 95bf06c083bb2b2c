-- An answer as one number of 64 bits.
use Rattle.std.specs.Prelude.{ℕ, ◌+◌, ◌*◌, ◌%◌, ◌^◌}
use Rattle.card.specs.declared.Refusal.{Refusal}

-- the number in bits 0 to 7, then place, tag, shortest and longest in eight bits each; 0 where nothing is refused
abbrev pub packed : Refusal → ℕ
packed x = x.number + x.place % 2 ^ 8 * 2 ^ 8 + x.tag * 2 ^ 16 + x.shortest * 2 ^ 24 + x.longest * 2 ^ 32

-- behind it, from bit 40 on, the value of a call in 24 bits
abbrev pub valued : Refusal → ℕ → ℕ
valued x v = packed x + v % 2 ^ 24 * 2 ^ 40
