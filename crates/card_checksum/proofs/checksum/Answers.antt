-- `card_checksum::checksum` meets its contract. The invariant: the sum is the exclusive or of the bytes passed, from the whole words on. Assumes nothing.
use mathlib.Core.Path.{◌≡◌, ap, ◌∙◌}
use mathlib.Core.List.{List}
use Prim.Native.Nat.{ℕ, ◌+◌, ◌-◌, ◌*◌, ◌/◌, ◌<◌}
use native.Mathlib.Omega.{arith}
use lib.ListN.{length, get_or, take, drop}
use lib.Bits.{bit_xor}
use Rattle.std.proofs.lemmas.List.{take_all, length-drop, get_or-drop}
use Rattle.card.specs.Layout.{xor_all}
use Rattle.card.proofs.Xor.{xor_next}
use Rattle.card_checksum.proofs.checksum.Goals as goal

next_rest : (s : List ℕ) (w i t : ℕ) → i < length (take (length s - w) (drop w s)) → t ≡ xor_all (take (w + i) s)
    → bit_xor t (get_or (take (length s - w) (drop w s)) i 0) ≡ xor_all (take (w + (i + 1)) s)
next_rest s w i t h e =
    let rest : take (length s - w) (drop w s) ≡ drop w s = take_all (length s - w) (drop w s) (omega (arith, length-drop w s)) in
    let within : w + i < length s = omega (arith, rw rest at h, length-drop w s) in
    let on : w + i + 1 ≡ w + (i + 1) = omega arith in
    rw (rest, get_or-drop w s i 0, e) (xor_next (w + i) s within ∙ ap (λ (n : ℕ). xor_all (take n s)) on)

pub loop-byte-preserved : goal.loop-byte-preserved
loop-byte-preserved c =
    next_rest c.args.span.now (length c.args.span.now / 4 * 4) c.loop-byte.byte-index c.loop-byte.sum c.loop-byte-test.true c.loop-byte.invariant
