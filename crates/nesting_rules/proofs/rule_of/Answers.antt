-- `nesting_rules::rule_of` meets its contract: a number past the list is that of the last rule. Assumes nothing.
use mathlib.Core.Path.{sym}
use Prim.Native.Nat.{◌≤◌}
use native.Mathlib.Omega.{arith}
use lib.ListN.{get_or-eq_default}
use Rattle.rules.specs.declared.Rule.TheVariants.{NotD}
use Rattle.nesting.specs.Decision.{rules}
use Rattle.nesting_rules.proofs.rule_of.Goals as goal

pub returns-in_default : goal.returns-in_default
returns-in_default c = let h : 7 ≤ c.args.number = omega arith in sym (get_or-eq_default rules NotD h)
