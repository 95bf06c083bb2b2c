-- `rules_sense::holds_for` meets its contract: each rule asks its own test, and the others are true of it. Assumes nothing.
use Rattle.rules.specs.Values.{holds}
use borrow.Author.Rules.{rules}
use Rattle.rules_sense.proofs.holds_for.Goals as goal

pub returns : goal.returns
unfolding holds
returns c =
    rw (
      c.by_sense.ensures,
      c.is_not_d.ensures,
      c.is_expiry.ensures,
      c.is_birth.ensures,
      c.is_code.ensures,
      c.is_lead.ensures,
      c.two_of-next.ensures,
      c.byte_at-3.ensures,
      c.byte_at-2.ensures,
      c.two_of-leading.ensures,
      c.byte_at.ensures,
      c.byte_at-first.ensures,
    )
