-- The characters of a rule as bits, for the code: that they are those of the rule is a law.
use Rattle.std.specs.Prelude.{ℕ, ◌/◌, ◌%◌, ◌^◌, Bool, true, false, cond, eqb, ltb}
use Rattle.rules.specs.declared.Rule.{Rule}
use Rattle.rules_judge.specs.declared.Characters.{Characters}
use Rattle.rules.specs.Values.{by_class}

abbrev digit_bits : Characters
digit_bits = record { low = 0x3ff000000000000; high = 0; rest = false }

abbrev text_bits : Characters
text_bits = record { low = 0x3ffebc100000000; high = 0x7ffffffebffffffe; rest = false }

abbrev any_bits : Characters
any_bits = record { low = 0xffffffffffffffff; high = 0xffffffffffffffff; rest = true }

abbrev pub characters_of : Rule → Characters
characters_of rule = by_class rule digit_bits text_bits any_bits

abbrev pub has_byte : Characters → ℕ → Bool
has_byte c b = cond (ltb b 128) (eqb (cond (ltb b 64) c.low c.high / 2 ^ (b % 64) % 2) 1) c.rest
