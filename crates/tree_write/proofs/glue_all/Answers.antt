-- What an iteration puts, and how the loop ends.
use Rattle.std.proofs.Common.{◌≡◌, ◌<◌, ◌∙◌, length, refl, arith}
use Rattle.ground.proofs.Runs.{part_to_end}
use Rattle.tree_back.proofs.Sofar.{sofar_none, sofar_more, sofar_few, sofar_no, sofar_left, sofar_end}
use Rattle.tree_write.proofs.glue_all.Goals as goal

pub overflow_add-q : goal.overflow_add-q
overflow_add-q c =
    let a = c.args in
    let l = c.loop-object in
    let r = l.object-iterator.rest.now in
    let steps = c.in-Some.ensures.steps in
    let x = c.in-Some.object.now in
    let s = c.next.new.self.rest.now in
    let four : length x ≡ 4 = omega (arith, steps, l.invariant.0) in
    let o = c.put_object in
    let w = sofar_more a.words.now a.values.now a.out.now l.out r l.p l.q l.invariant.1 x s steps.1.0 four o.new.out c.in_ok-step.step.values c.in_ok-step.step.bytes
    (rw (part_to_end l.q a.values.now) at c.in_ok-step.ensures.value) (rw (part_to_end l.q a.values.now) at c.in_ok-step.ensures.out_after) o.auto.out in
    omega (arith, w.values)

pub overflow_add-p : goal.overflow_add-p
overflow_add-p c =
    let a = c.args in
    let l = c.loop-object in
    let r = l.object-iterator.rest.now in
    let steps = c.in-Some.ensures.steps in
    let x = c.in-Some.object.now in
    let s = c.next.new.self.rest.now in
    let four : length x ≡ 4 = omega (arith, steps, l.invariant.0) in
    let o = c.put_object in
    let w = sofar_more a.words.now a.values.now a.out.now l.out r l.p l.q l.invariant.1 x s steps.1.0 four o.new.out c.in_ok-step.step.values c.in_ok-step.step.bytes
    (rw (part_to_end l.q a.values.now) at c.in_ok-step.ensures.value) (rw (part_to_end l.q a.values.now) at c.in_ok-step.ensures.out_after) o.auto.out in
    omega (arith, w.room)

pub loop-object-preserved : goal.loop-object-preserved
loop-object-preserved c =
    let a = c.args in
    let l = c.loop-object in
    let r = l.object-iterator.rest.now in
    let steps = c.in-Some.ensures.steps in
    let x = c.in-Some.object.now in
    let s = c.next.new.self.rest.now in
    let four : length x ≡ 4 = omega (arith, steps, l.invariant.0) in
    let o = c.put_object in (
      steps.0 ∙ l.invariant.0,
      sofar_more a.words.now a.values.now a.out.now l.out r l.p l.q l.invariant.1 x s steps.1.0 four o.new.out c.in_ok-step.step.values c.in_ok-step.step.bytes
          (rw (part_to_end l.q a.values.now) at c.in_ok-step.ensures.value) (rw (part_to_end l.q a.values.now) at c.in_ok-step.ensures.out_after) o.auto.out,
    )

pub returns-in_err-step : goal.returns-in_err-step
returns-in_err-step c =
    let a = c.args in
    let l = c.loop-object in
    let r = l.object-iterator.rest.now in
    let steps = c.in-Some.ensures.steps in
    let x = c.in-Some.object.now in
    let s = c.next.new.self.rest.now in
    let four : length x ≡ 4 = omega (arith, steps, l.invariant.0) in
    let o = c.put_object in
    rw c.from_residual.ensures
    (sofar_no a.words.now a.values.now a.out.now l.out r l.p l.q l.invariant.1 x s steps.1.0 four (rw (part_to_end l.q a.values.now) at c.in_err-step.ensures.value) o.new.out)

pub returns-then-words-ne0 : goal.returns-then-words-ne0
returns-then-words-ne0 c =
    let a = c.args in
    let l = c.loop-object in
    let r = l.object-iterator.rest.now in
    let steps = c.in-None.ensures.steps in
    let short : length r < 4 = omega (arith, steps, l.invariant.0) in
    sofar_few a.words.now a.values.now a.out.now l.out r l.p l.q l.invariant.1 short c.if-words-ne0.true l.out

pub returns-then-q-values : goal.returns-then-q-values
returns-then-q-values c =
    let a = c.args in
    let l = c.loop-object in
    let r = l.object-iterator.rest.now in
    let steps = c.in-None.ensures.steps in
    let short : length r < 4 = omega (arith, steps, l.invariant.0) in
    sofar_left a.words.now a.values.now a.out.now l.out r l.p l.q l.invariant.1 short c.if-words-ne0.false c.if-q-values.true l.out

pub returns : goal.returns
returns c =
    let a = c.args in
    let l = c.loop-object in
    let r = l.object-iterator.rest.now in
    let steps = c.in-None.ensures.steps in
    let short : length r < 4 = omega (arith, steps, l.invariant.0) in
    sofar_end a.words.now a.values.now a.out.now l.out r l.p l.q l.invariant.1 short c.if-words-ne0.false c.if-q-values.false
