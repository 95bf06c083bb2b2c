-- `card_checksum::checksum` meets its contract. The invariant: the sum is the exclusive or of the bytes passed, from the whole words on. Assumes nothing.
use mathlib.Core.Path.{◌≡◌}
use Prim.Native.Nat.{◌+◌}
use lib.ListN.{take}
use Rattle.card.specs.Layout.{xor_all}
use Rattle.card_checksum.proofs.checksum.Given as goal

abbrev pub invariant-loop-byte : goal.invariant-loop-byte
invariant-loop-byte l = l.sum ≡ xor_all (take (l.whole + l.byte-index) l.span)
