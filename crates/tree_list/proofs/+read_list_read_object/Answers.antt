-- Each way through the two readers.
use Rattle.std.proofs.Common.{◌≡◌, ◌+◌, ◌-◌, ◌<◌, ◌≤◌, ℕ, suc, List, length, drop, take, sym, subst, ◌∙◌, arith}
use native.Mathlib.Nat.{add-sub_cancel_left}
use Rattle.ground.proofs.Runs.{part_to_end}
use Rattle.std.proofs.lemmas.Result.{err_from_is_err_and}
use Rattle.tree.specs.Heads.{found, head_at, head_for}
use Rattle.tree.specs.Listing.{Out, entry, listing, object}
use Rattle.tree.specs.Answers.{Done}
use Rattle.tree.proofs.Inside.{head_for_lem, inside_head, shallow_head}
use Rattle.tree.proofs.Steps.{partly_none, partly_more, partly_stop, partly_end, object_refused, object_plain, object_inner, done_refused, done_plain, done_above, done_above_refused}
use Rattle.tree_list.proofs.+read_list_read_object.Goals as goal

-- where an object lies whose head was read
record Lies (s : List ℕ) (at left t start n : ℕ) : Type 0 where
  is : head_at s at (7 - left) ≡ found t start n
  starts : 0 < start
  ends : start + n ≤ length s
  shallow : 7 - left ≤ 6

lies : (s : List ℕ) (at left t start n : ℕ) → 0 < length s → at ≤ 4096 → left ≤ 6 → head_for s at left ≡ found t start n → Lies s at left t start n
lies s at left t start n p q r e =
    let is : head_at s at (7 - left) ≡ found t start n = sym (head_for_lem s at left p q r) ∙ e in
    let i = rw is at (inside_head s at (7 - left) p) in
    let j = rw is at (shallow_head s at (7 - left)) in
    record { is = is; starts = i.0; ends = i.1; shallow = j }

pub read_list-loop-p-init : goal.read_list-loop-p-init
read_list-loop-p-init t c = partly_none (7 - c.args.left) c.args.at c.args.bytes.now c.args.k c.args.room.now

pub read_list-overflow_add-p : goal.read_list-overflow_add-p
read_list-overflow_add-p t c =
    let o = c.read_object in
    let w = partly_more (7 - c.args.left) c.args.at c.args.bytes.now c.args.k c.args.room.now c.loop-p.p c.loop-p.n c.loop-p.room c.loop-p.invariant c.loop-p-test.true o.result o.new.room c.in_ok-one.one.words c.in_ok-one.one.used (rw (part_to_end c.loop-p.p c.args.bytes.now) at o.ensures) c.in_ok-one.was o.auto.room in
    omega (arith, w.1.within)

pub read_list-loop-p-smaller : goal.read_list-loop-p-smaller
read_list-loop-p-smaller t c =
    let o = c.read_object in
    let w = partly_more (7 - c.args.left) c.args.at c.args.bytes.now c.args.k c.args.room.now c.loop-p.p c.loop-p.n c.loop-p.room c.loop-p.invariant c.loop-p-test.true o.result o.new.room c.in_ok-one.one.words c.in_ok-one.one.used (rw (part_to_end c.loop-p.p c.args.bytes.now) at o.ensures) c.in_ok-one.was o.auto.room in
    omega (arith, w.0)

pub read_list-loop-p-preserved : goal.read_list-loop-p-preserved
read_list-loop-p-preserved t c =
    let o = c.read_object in
    (partly_more (7 - c.args.left) c.args.at c.args.bytes.now c.args.k c.args.room.now c.loop-p.p c.loop-p.n c.loop-p.room c.loop-p.invariant c.loop-p-test.true o.result o.new.room c.in_ok-one.one.words c.in_ok-one.one.used (rw (part_to_end c.loop-p.p c.args.bytes.now) at o.ensures) c.in_ok-one.was o.auto.room).1

pub read_list-returns-in_err-one : goal.read_list-returns-in_err-one
read_list-returns-in_err-one t c =
    let o = c.read_object in
    let x = c.in_err-one.field-0.0 in
    let p = err_from_is_err_and c.from_residual.result c.from_residual.ensures.1 in
    rw (p.1, p.2)
    (partly_stop (7 - c.args.left) c.args.at c.args.bytes.now c.args.k c.args.room.now c.loop-p.p c.loop-p.n c.loop-p.room c.loop-p.invariant c.loop-p-test.true o.result o.new.room x.number x.place (rw (part_to_end c.loop-p.p c.args.bytes.now) at o.ensures) c.in_err-one.was)

pub read_list-returns : goal.read_list-returns
read_list-returns t c =
    partly_end (7 - c.args.left) c.args.at c.args.bytes.now c.args.k c.args.room.now c.loop-p.p c.loop-p.n c.loop-p.room c.loop-p.invariant c.loop-p-test.false

pub read_object-put_entry-requires : goal.read_object-put_entry-requires
read_object-put_entry-requires t c =
    let w = lies c.args.bytes.now c.args.at c.args.left _ _ _ (omega arith) (omega arith) (omega arith) (sym c.in_ok-tag.ensures) in
    (omega arith, (omega arith, omega (arith, w.ends)))

pub read_object-overflow_add-stop : goal.read_object-overflow_add-stop
read_object-overflow_add-stop t c =
    let w = lies c.args.bytes.now c.args.at c.args.left _ _ _ (omega arith) (omega arith) (omega arith) (sym c.in_ok-tag.ensures) in
    omega (arith, w.ends)

pub read_object-slice_bounds-read_list-end : goal.read_object-slice_bounds-read_list-end
read_object-slice_bounds-read_list-end t c =
    let w = lies c.args.bytes.now c.args.at c.args.left _ _ _ (omega arith) (omega arith) (omega arith) (sym c.in_ok-tag.ensures) in
    omega (arith, w.ends)

pub read_object-overflow_add-at : goal.read_object-overflow_add-at
read_object-overflow_add-at t c =
    let w = lies c.args.bytes.now c.args.at c.args.left _ _ _ (omega arith) (omega arith) (omega arith) (sym c.in_ok-tag.ensures) in
    omega (arith, w.ends)

pub read_object-overflow_sub-left-2 : goal.read_object-overflow_sub-left-2
read_object-overflow_sub-left-2 t c =
    let w = lies c.args.bytes.now c.args.at c.args.left _ _ _ (omega arith) (omega arith) (omega arith) (sym c.in_ok-tag.ensures) in
    omega (arith, w.shallow)

pub read_object-read_list-requires : goal.read_object-read_list-requires
read_object-read_list-requires t c =
    let w = lies c.args.bytes.now c.args.at c.args.left _ _ _ (omega arith) (omega arith) (omega arith) (sym c.in_ok-tag.ensures) in
    (omega (arith, w.starts, w.ends), (omega (arith, w.ends), (omega arith, omega (arith, w.starts))))

pub read_object-returns-in_err-tag : goal.read_object-returns-in_err-tag
read_object-returns-in_err-tag t c =
    let a = c.args in
    let x = c.in_err-tag.field-0.0 in
    let p = err_from_is_err_and c.from_residual.result c.from_residual.ensures.1 in
    rw (p.1, p.2)
    (done_refused a.k (object (7 - a.left) a.at a.bytes.now) a.room.now a.room.now x.number x.place
    (object_refused (7 - a.left) a.at a.bytes.now x.number x.place
    (sym (head_for_lem a.bytes.now a.at a.left (omega arith) (omega arith) (omega arith)) ∙ sym c.in_err-tag.ensures)))

pub read_object-returns-then-not-is_list : goal.read_object-returns-then-not-is_list
read_object-returns-then-not-is_list t c =
    let a = c.args in
    let h = c.in_ok-tag.field-0 in
    let w = lies a.bytes.now a.at a.left _ _ _ (omega arith) (omega arith) (omega arith) (sym c.in_ok-tag.ensures) in
    done_plain a.k (object (7 - a.left) a.at a.bytes.now) a.room.now c.put_entry.new.room (entry h.tag (7 - a.left) a.at h.length) (h.start + h.length)
    (object_plain (7 - a.left) a.at a.bytes.now h.tag h.start h.length w.is (sym c.is_list.ensures ∙ c.if-not-is_list.true)) c.put_entry.ensures

-- what the inner list's reader read, one deeper
inside : (s : List ℕ) (at left t start n : ℕ) → Lies s at left t start n → left ≤ 6
    → listing (7 - (left - 1)) (at + start) (take (start + n - start) (drop start s)) ≡ listing (suc (7 - left)) (at + start) (take n (drop start s))
inside s at left t start n w h =
    let deeper : 7 - (left - 1) ≡ suc (7 - left) = omega (arith, w.shallow) in
    let value : start + n - start ≡ n = add-sub_cancel_left start n in
    rw (deeper, value)

pub read_object-returns : goal.read_object-returns
read_object-returns t c =
    let a = c.args in
    let h = c.in_ok-tag.field-0 in
    let r = c.read_list in
    let m = c.put_entry.new.room in
    let w = lies a.bytes.now a.at a.left _ _ _ (omega arith) (omega arith) (omega arith) (sym c.in_ok-tag.ensures) in
    let i : Out = listing (suc (7 - a.left)) (a.at + h.start) (take h.length (drop h.start a.bytes.now)) in
    let e = object_inner (7 - a.left) a.at a.bytes.now h.tag h.start h.length w.is (sym c.is_list.ensures ∙ c.if-not-is_list.false) in
    let d = subst (λ (o : Out). Done (a.k + 4) o r.result m r.new.room) (inside a.bytes.now a.at a.left h.tag h.start h.length w (omega arith)) r.ensures in
    done_above a.k (object (7 - a.left) a.at a.bytes.now) i a.room.now m r.new.room (entry h.tag (7 - a.left) a.at h.length) (h.start + h.length)
    c.in_ok-inner.inner.words c.in_ok-inner.inner.used r.result e c.put_entry.ensures d c.in_ok-inner.was

pub read_object-returns-in_err-inner : goal.read_object-returns-in_err-inner
read_object-returns-in_err-inner t c =
    let a = c.args in
    let h = c.in_ok-tag.field-0 in
    let r = c.read_list in
    let m = c.put_entry.new.room in
    let w = lies a.bytes.now a.at a.left _ _ _ (omega arith) (omega arith) (omega arith) (sym c.in_ok-tag.ensures) in
    let i : Out = listing (suc (7 - a.left)) (a.at + h.start) (take h.length (drop h.start a.bytes.now)) in
    let e = object_inner (7 - a.left) a.at a.bytes.now h.tag h.start h.length w.is (sym c.is_list.ensures ∙ c.if-not-is_list.false) in
    let d = subst (λ (o : Out). Done (a.k + 4) o r.result m r.new.room) (inside a.bytes.now a.at a.left h.tag h.start h.length w (omega arith)) r.ensures in
    let x = c.in_err-inner.field-0.0 in
    let p = err_from_is_err_and c.from_residual-in_err-inner.result c.from_residual-in_err-inner.ensures.1 in
    rw (p.1, p.2)
    (done_above_refused a.k (object (7 - a.left) a.at a.bytes.now) i a.room.now m r.new.room (entry h.tag (7 - a.left) a.at h.length) (h.start + h.length)
    x.number x.place r.result e d c.in_err-inner.was)
