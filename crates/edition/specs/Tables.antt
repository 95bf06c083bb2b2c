-- The two shipped editions, as the two columns of the document's table; terminal has the number 1, issue 2.
use Rattle.std.specs.Prelude.{ℕ, ◌+◌, true, false, List, [], ◌∷◌, map}
use Rattle.rules.specs.declared.Rule.{Rule}
use Rattle.rules.specs.declared.Rule.TheVariants.{Digits, Text, Lead, Code, Birth, Expiry, Raw, NotD}
use Rattle.edition.specs.declared.Row.{Row}
use Rattle.edition.specs.declared.Edition.{Edition}
use Rattle.edition.specs.Sets.{only, up_to}

abbrev required : Rule → ℕ → Row
required rule lengths = record { required = true; rule = rule; lengths = lengths }

abbrev optional : Rule → ℕ → Row
optional rule lengths = record { required = false; rule = rule; lengths = lengths }

-- a line of the table: the terminal's row, and the row of issue
pub record Line : Type 0 where
  pub terminal : Row
  pub issue : Row

abbrev both : Row → Line
both r = record { terminal = r; issue = r }

abbrev apart : Row → Row → Line
apart t i = record { terminal = t; issue = i }

unfoldable pub table : List Line
table =
    both (required Text (up_to 2 28))
    ∷ both (required Digits (only 7))
    ∷ apart (optional Digits (only 5)) (required Digits (only 5))
    ∷ both (required Digits (up_to 6 12))
    ∷ apart (required Digits (only 1 + only 4)) (required Lead (only 4))
    ∷ apart (optional Text (up_to 1 3)) (required Code (only 1))
    ∷ both (optional Text (up_to 2 15))
    ∷ apart (optional Text (up_to 1 28)) (required Text (up_to 1 28))
    ∷ both (optional Text (up_to 1 15))
    ∷ both (required Text (up_to 2 28))
    ∷ both (required Birth (only 8))
    ∷ both (optional Text (up_to 2 28))
    ∷ apart (optional Text (up_to 1 3)) (optional NotD (up_to 1 3))
    ∷ both (required Text (up_to 4 7))
    ∷ apart (required Text (up_to 2 23)) (required Text (up_to 2 22))
    ∷ apart (optional Expiry (only 4)) (required Expiry (only 4))
    ∷ both (required Raw (only 1))
    ∷ []

unfoldable pub terminal : Edition
unfolding table
terminal = record { rows = map (λ l. l.terminal) table; number = 1 }

unfoldable pub issue : Edition
unfolding table
issue = record { rows = map (λ l. l.issue) table; number = 2 }
