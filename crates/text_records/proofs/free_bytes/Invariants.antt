-- `text_records::free_bytes`: the bytes passed are those listed. Assumes nothing.
use mathlib.Core.Path.{◌≡◌}
use lib.ListN.{length, take}
use Rattle.card_text.specs.Records.{listed}
use Rattle.card_text.specs.Hex.{byte_at}
use Rattle.text_records.proofs.free_bytes.Given as goal

abbrev pub invariant-loop-i : goal.invariant-loop-i
invariant-loop-i l = (length l.free ≡ 12) × (take l.i l.free ≡ listed l.i (byte_at l.value))
