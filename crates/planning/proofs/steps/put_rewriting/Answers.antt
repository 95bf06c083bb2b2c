-- `planning::steps::put_rewriting` meets its contract: each run of steps stands behind the one before it, and all have their room. Assumes nothing.
use mathlib.Core.Path.{◌≡◌, sym, ◌∙◌}
use Prim.Native.Nat.{◌-◌, ◌≤◌}
use native.Mathlib.Omega.{arith}
use lib.ListN.{length, take, drop, get_or}
use lib.Seq.{length-take-le}
use Rattle.planning.proofs.Changes.{change_few, few, length_back, put_rewritten}
use Rattle.planning.proofs.steps.put_rewriting.Goals as goal

pub put_changes-middle-requires : goal.put_changes-middle-requires
put_changes-middle-requires c =
    let behind-first : (c.put_change-front.result ≤ 1) × (length c.put_change-front.new.room ≡ 257) =
    let p = c.put_change-front in
    (omega (arith, p.ensures.place, change_few 30 (get_or c.args.old.now 30 0) c.spoil-spoilt.result), omega (arith, p.auto.room, c.requires.0)) in
    let e = behind-first in
    let o = length-take-le 30 c.args.old.now (omega (arith, c.requires.1)) in
    let n = length-take-le 30 c.args.new.now (omega (arith, c.requires.2)) in
    (rw o (omega (arith, e.0, e.1)), rw o (omega arith), n ∙ sym o)

pub put_changes-end-requires : goal.put_changes-end-requires
put_changes-end-requires c =
    let behind-first : (c.put_change-front.result ≤ 1) × (length c.put_change-front.new.room ≡ 257) =
    let p = c.put_change-front in
    (omega (arith, p.ensures.place, change_few 30 (get_or c.args.old.now 30 0) c.spoil-spoilt.result), omega (arith, p.auto.room, c.requires.0)) in
    let behind-second : (c.put_changes-middle.result ≤ 31) × (length c.put_changes-middle.new.room ≡ 257) =
    let p = c.put_changes-middle in
    let e = behind-first in
    let o = length-take-le 30 c.args.old.now (omega (arith, c.requires.1)) in
    (omega (arith, p.ensures.place, few 0 (take 30 c.args.old.now) (take 30 c.args.new.now), o, e.0), omega (arith, p.auto.room, e.1)) in
    let e = behind-second in
    let o = length_back c.args.old.now c.requires.1 in
    let n = length_back c.args.new.now c.requires.2 in
    (omega (arith, o, e.0, e.1), omega (arith, o), n ∙ sym o)

pub put_change-requires : goal.put_change-requires
put_change-requires c =
    let behind-first : (c.put_change-front.result ≤ 1) × (length c.put_change-front.new.room ≡ 257) =
    let p = c.put_change-front in
    (omega (arith, p.ensures.place, change_few 30 (get_or c.args.old.now 30 0) c.spoil-spoilt.result), omega (arith, p.auto.room, c.requires.0)) in
    let behind-second : (c.put_changes-middle.result ≤ 31) × (length c.put_changes-middle.new.room ≡ 257) =
    let p = c.put_changes-middle in
    let e = behind-first in
    let o = length-take-le 30 c.args.old.now (omega (arith, c.requires.1)) in
    (omega (arith, p.ensures.place, few 0 (take 30 c.args.old.now) (take 30 c.args.new.now), o, e.0), omega (arith, p.auto.room, e.1)) in
    let behind-third : (c.put_changes-end.result ≤ 256) × (length c.put_changes-end.new.room ≡ 257) =
    let p = c.put_changes-end in
    let e = behind-second in
    let o = length_back c.args.old.now c.requires.1 in
    (omega (arith, p.ensures.place, few 31 (take (length c.args.old.now - 31) (drop 31 c.args.old.now)) (take (length c.args.new.now - 31) (drop 31 c.args.new.now)), o, e.0), omega (arith, p.auto.room, e.1)) in
    let e = behind-third in
    (omega (arith, e.0, e.1), omega arith)

pub returns : goal.returns
returns c =
    let a = c.args in
    put_rewritten a.old.now a.new.now _ c.spoil-spoilt.ensures c.put_change-front.ensures c.put_changes-middle.ensures c.put_changes-end.ensures c.put_change.ensures
