-- `card_checksum::fold_words` meets its contract. The invariant: the folded word with the whole words that are left makes the whole. Assumes nothing.
use mathlib.Core.Path.{◌≡◌}
use Prim.Native.Nat.{◌*◌, ◌/◌}
use lib.ListN.{length, take}
use Rattle.std.specs.Int.Bits.{bit_xor}
use Rattle.card.specs.Layout.{xor_all}
use Rattle.card.proofs.Xor.{folded}
use Rattle.card_checksum.proofs.fold_words.Given as goal

abbrev pub invariant-loop-word : goal.invariant-loop-word
invariant-loop-word l =
    (l.word-iterator.size ≡ 4)
    × (bit_xor (folded l.folded) (xor_all (take (length l.word-iterator.rest.now / 4 * 4) l.word-iterator.rest.now)) ≡ xor_all (take (length l.span / 4 * 4) l.span))
