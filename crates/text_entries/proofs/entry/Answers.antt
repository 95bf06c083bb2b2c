-- `text_entries::entry`: the first of the lines that are left is the first of all. Assumes nothing.
use Prim.Native.Nat.{◌<◌}
use native.Mathlib.Omega.{arith}
use mathlib.Core.Path.{refl, sym, ◌∙◌}
use lib.ListN.{length}
use Rattle.card_text.proofs.Passing.{number_here, number_farther, number_over, line_here, line_farther, line_over}
use Rattle.text_entries.proofs.entry.Goals as goal

pub loop-at-init : goal.loop-at-init
loop-at-init c = record { counted = omega arith; within = omega arith; number = refl; line = refl }

pub slice_bounds-key_of-end : goal.slice_bounds-key_of-end
slice_bounds-key_of-end c = omega (arith, c.feed_from-feed.ensures.lower_bound.1 (omega arith))

pub slice_bounds-result-end : goal.slice_bounds-result-end
slice_bounds-result-end c = omega (arith, c.feed_from-feed.ensures.lower_bound.1 (omega arith))

pub returns-then-key_of-key : goal.returns-then-key_of-key
returns-then-key_of-key c =
    let l = c.loop-at in
    let a = c.args in
    let h : l.at < length a.text.now = omega arith in record {
      number = sym (number_here a.text.now l.at c.feed_from-feed.result l.number h c.feed_from-feed.ensures.value a.key _ c.key_of.ensures c.if-key_of-key.true) ∙ l.invariant.number;
      line = sym (line_here a.text.now l.at c.feed_from-feed.result l.number h c.feed_from-feed.ensures.value a.key _ c.key_of.ensures c.if-key_of-key.true) ∙ l.invariant.line;
    }

pub overflow_add-at : goal.overflow_add-at
overflow_add-at c = omega (arith, c.feed_from-feed.ensures.lower_bound.1 (omega arith))

pub loop-at-preserved : goal.loop-at-preserved
loop-at-preserved c =
    let l = c.loop-at in
    let a = c.args in
    let h : l.at < length a.text.now = omega arith in record {
      counted = omega arith;
      within = omega (arith, c.feed_from-feed.ensures.lower_bound.1 (omega arith));
      number = number_farther a.text.now l.at c.feed_from-feed.result l.number h c.feed_from-feed.ensures.value a.key _ c.key_of.ensures c.if-key_of-key.false ∙ l.invariant.number;
      line = line_farther a.text.now l.at c.feed_from-feed.result l.number h c.feed_from-feed.ensures.value a.key _ c.key_of.ensures c.if-key_of-key.false ∙ l.invariant.line;
    }

pub returns : goal.returns
returns c =
    let l = c.loop-at in
    let a = c.args in record {
      number = sym (number_over a.text.now l.at l.number (omega arith) a.key) ∙ l.invariant.number;
      line = sym (line_over a.text.now l.at l.number (omega arith) a.key) ∙ l.invariant.line;
    }
