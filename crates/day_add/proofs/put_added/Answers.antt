-- `put_added` meets its contract: the index with the new entry has 14 bytes more, and what is written of the file, the card and that index fits the room that was asked for. Assumes nothing.
use mathlib.Core.Path.{◌≡◌, sym, ap, ◌∙◌}
use mathlib.Core.List.{List, ◌++◌}
use Prim.Native.Nat.{ℕ, ◌+◌, ◌*◌}
use native.Mathlib.Omega.{arith}
use lib.ListN.{length, take}
use lib.Seq.{sets, length-take-le}
use Rattle.day.specs.Files.{trailer}
use Rattle.day_add.proofs.put_added.Goals as goal

pub slice_bounds-index-end : goal.slice_bounds-index-end
slice_bounds-index-end c = omega (arith, c.add_entry.auto.index)

pub slice_bounds-write_added-end : goal.slice_bounds-write_added-end
slice_bounds-write_added-end c =
    let index-size : length (take ((c.args.count + 1) * 14) c.add_entry.new.index) ≡ (c.args.count + 1) * 14 =
    length-take-le _ _ (omega (arith, c.add_entry.auto.index)) in
    sym (index-size)

pub write_added-requires : goal.write_added-requires
write_added-requires c =
    let index-size : length (take ((c.args.count + 1) * 14) c.add_entry.new.index) ≡ (c.args.count + 1) * 14 =
    length-take-le _ _ (omega (arith, c.add_entry.auto.index)) in
    (omega arith, omega arith, omega arith, index-size, omega arith)

pub returns : goal.returns
returns c =
    let a = c.args in
    let n = a.count in
    c.write_added.ensures ∙ ap (λ (i : List ℕ). sets a.room.now 0 ((take (n * 256) a.file.now ++ a.card.now) ++ (i ++ trailer (n + 1) i))) c.add_entry.ensures
