-- `text_hex::byte_at`: two digits, or the end. Assumes nothing.
use Prim.Native.Nat.{ℕ}
use borrow.Author.Tests.{le-ltb}
use mathlib.Core.Path.{ap, ◌∙◌}
use Rattle.std.specs.Prelude.{Option, unwrap_or}
use Rattle.card_text.specs.Hex.{byte_at}
use Rattle.card_text.proofs.Told.{byte_there}
use Rattle.text_hex.proofs.byte_at.Goals as goal

pub returns-then-i-value : goal.returns-then-i-value
unfolding byte_at
returns-then-i-value c = rw (le-ltb _ _ c.if-i-value.true)

abbrev or_0 : Option ℕ → ℕ
or_0 n = unwrap_or n 0

pub returns : goal.returns
returns c = byte_there _ _ _ _ _ _ c.if-i-value.false c.byte_at.ensures c.byte_at-2.ensures (c.unwrap_or-high.ensures ∙ ap or_0 c.digit_value.ensures.value) (c.unwrap_or-low.ensures ∙ ap or_0 c.digit_value-2.ensures.value)
