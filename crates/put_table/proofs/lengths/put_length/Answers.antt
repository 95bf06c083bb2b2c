-- `lengths_put::put_length` meets its contract: what a length adds goes by whether it, the one before it and the one behind it are in the set. Assumes nothing.
use mathlib.Core.Path.{sym, ◌∙◌}
use native.Mathlib.Omega.{arith}
use Rattle.table_text.proofs.LengthLaws.{part_none, part_first, part_inside, part_last, put_none}
use Rattle.put_table.proofs.lengths.put_length.Goals as goal

pub returns-then-not-has : goal.returns-then-not-has
returns-then-not-has c = record { put = put_none (part_none _ _ (sym c.has.ensures ∙ c.if-not-has.true)); upper_bound = omega arith }

pub returns-then-not-has_before : goal.returns-then-not-has_before
returns-then-not-has_before c =
    record { put = rw (part_first _ _ (sym c.has.ensures ∙ c.if-not-has.false) (sym c.has_before.ensures ∙ c.if-not-has_before.true)) c.put_first.ensures.put; upper_bound = c.put_first.ensures.upper_bound }

pub returns-then-has : goal.returns-then-has
returns-then-has c =
    record { put = put_none (part_inside _ _ (sym c.has.ensures ∙ c.if-not-has.false) (sym c.has_before.ensures ∙ c.if-not-has_before.false) (sym c.has-2.ensures ∙ c.if-has.true)); upper_bound = omega arith }

pub returns : goal.returns
returns c =
    record { put = rw (part_last _ _ (sym c.has.ensures ∙ c.if-not-has.false) (sym c.has_before.ensures ∙ c.if-not-has_before.false) (sym c.has-2.ensures ∙ c.if-has.false)) c.put_signed.ensures.put; upper_bound = c.put_signed.ensures.upper_bound }
