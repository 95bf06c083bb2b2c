-- The bits of a rule's characters are its characters. Assumes nothing.
use Prim.Native.Nat.{ℕ, ◌<◌}
use mathlib.Core.Path.{◌≡◌, refl}
use mathlib.Core.Bool.{true}
use mathlib.Core.List.{List}
use lib.ListN.{length, get_or}
use Rattle.rules.specs.declared.Rule.{Rule}
use Rattle.rules.specs.declared.Rule.TheVariants.{Digits, Text, Lead, Code, Birth, Expiry, Raw, NotD}
use Rattle.ground.specs.Lists.{among, leading}
use Rattle.rules_judge.specs.Characters.{characters_of, has_byte}
use Rattle.rules.specs.Values.{is_digit, is_text, takes}
use Rattle.ground.proofs.Lists.{alike_below_lem, leading_alike}

-- the bits of a rule's characters are its characters: one computed test for each class
digit_bits : (b : ℕ) → b < 256 → has_byte (characters_of Digits) b ≡ is_digit b
digit_bits = alike_below_lem (has_byte (characters_of Digits)) is_digit 256 refl

text_bits : (b : ℕ) → b < 256 → has_byte (characters_of Text) b ≡ is_text b
unfolding is_text among
text_bits = alike_below_lem (has_byte (characters_of Text)) is_text 256 refl

any_bits : (b : ℕ) → b < 256 → has_byte (characters_of Raw) b ≡ true
any_bits = alike_below_lem (has_byte (characters_of Raw)) (λ b. true) 256 refl

pub right_bits : (rule : Rule) (b : ℕ) → b < 256 → has_byte (characters_of rule) b ≡ takes rule b
right_bits Digits = digit_bits
right_bits Text = text_bits
right_bits Lead = digit_bits
right_bits Code = text_bits
right_bits Birth = digit_bits
right_bits Expiry = digit_bits
right_bits Raw = any_bits
right_bits NotD = text_bits

pub leading_bits : (rule : Rule) (v : List ℕ) → ((k : ℕ) → k < length v → get_or v k 0 < 256) → leading (has_byte (characters_of rule)) v ≡ leading (takes rule) v
leading_bits rule v h = leading_alike (has_byte (characters_of rule)) (takes rule) 0 v (λ k l. right_bits rule (get_or v k 0) (h k l))
