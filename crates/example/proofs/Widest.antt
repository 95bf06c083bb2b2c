-- The widest edition, in which every well-formed one is nested. Assumes nothing.
use Prim.Native.Nat.{ℕ, zero, suc, ◌+◌, ◌*◌, ◌/◌, ◌%◌, ◌^◌, ◌<◌}
use native.Mathlib.Omega.{arith}
use native.Mathlib.Nat.{mod-eq_of_lt}
use mathlib.Core.Path.{◌≡◌, refl, ap, ◌∙◌}
use mathlib.Core.Bool.{Bool, true, false}
use mathlib.Core.List.{List, [], ◌∷◌, ◌++◌}
use lib.Dec.{eqb}
use lib.ListN.{length, replicate}
use lib.Bits.{bit_and, and_high}
use borrow.Author.Tests.{ne_eqb}
use Rattle.rules.specs.declared.Rule.{Rule}
use Rattle.rules.specs.declared.Rule.TheVariants.{Digits, Text, Lead, Code, Birth, Expiry, Raw, NotD}
use Rattle.ground.proofs.Lists.{true_false, and_right}
use Rattle.edition.specs.declared.Row.{Row}
use Rattle.edition.specs.declared.Edition.{Edition}
use Rattle.edition.specs.declared.Formed.TheVariants.{Well}
use Rattle.edition.specs.Sets.{permitted, only, up_to}
use Rattle.edition.specs.Rows.{set_formed, by_rule, row_formed, formed_from, formed_of}
use Rattle.edition.proofs.Rows.{Within28, row_within, formed_rows, formed_head, LastRow, last_formed}
use Rattle.nesting.specs.Nested.{Within, NestedRows, no_rows, one-row, Nested}
use Rattle.nesting.specs.Decision.{number_of, numbers_in, rule_in}
use Rattle.nesting.proofs.Lengths.{bits_within}
use Rattle.nesting.proofs.Sound.{rule_sound}

-- any text of any length, required nowhere; and row 8E, which has one form
abbrev pub wide_row : Row
wide_row = record { required = false; rule = Text; lengths = up_to 1 28 }

abbrev last_row : Row
last_row = record { required = true; rule = Raw; lengths = only 1 }

abbrev wide : ℕ → List Row
wide n = replicate n wide_row ++ (last_row ∷ [])

unfoldable pub widest : Edition
widest = record { rows = wide 16; number = 1 }

pub widest_formed : formed_of widest ≡ Well
unfolding widest formed_of formed_from
widest_formed = refl

pub widest_rows : length widest.rows ≡ 17
unfolding widest
widest_rows = refl

-- a set within 1 to 28 is part of all lengths
all_lengths : (s : ℕ) → s % 2 ≡ 0 → s < 2 ^ 29 → bit_and s (up_to 1 28) ≡ s
all_lengths s even small =
    let m : s / 2 % 2 ^ 28 ≡ s / 2 = mod-eq_of_lt (omega (arith, small)) in
    let a : bit_and s (up_to 1 28) ≡ s / 2 % 2 ^ 28 * 2 = and_high s 28 1 in
    a ∙ ap (λ (x : ℕ). x * 2) m ∙ omega (arith, even)

-- a rule but raw is within text
in_text : (rule : Rule) (single plain birth expiry : Bool) → by_rule rule plain birth expiry false ≡ true → numbers_in single (number_of rule) 1 ≡ true
unfolding numbers_in
in_text Digits s p b x h = refl
in_text Text s p b x h = refl
in_text Lead s p b x h = refl
in_text Code s p b x h = refl
in_text Birth s p b x h = refl
in_text Expiry s p b x h = refl
in_text Raw s p b x h = absurd (true_false h refl)
in_text NotD s p b x h = refl

pub within_wide : (r : Row) → row_formed false r ≡ true → Within r wide_row
within_wide r h =
    let w : Within28 r.lengths = row_within false r h in
    let t : rule_in r.lengths r.rule Text ≡ true =
    in_text r.rule (permitted r.lengths 1) true (eqb r.lengths (only 8)) (eqb r.lengths (only 4)) (and_right (set_formed r.lengths) (by_rule r.rule true (eqb r.lengths (only 8)) (eqb r.lengths (only 4)) false) h) in
    record {
      shorter = bits_within r.lengths (up_to 1 28) (all_lengths r.lengths w.even w.small);
      takes = rule_sound r.lengths r.rule Text t;
      asks = λ e. absurd (true_false e refl);
    }

within_last : (r : Row) → row_formed true r ≡ true → Within r last_row
within_last r h =
    let l : LastRow r = last_formed r h in
    record {
      shorter = λ n p. rw l.lengths at p;
      takes = λ v p t. rw l.rule at t;
      asks = λ e. l.required;
    }

rows_wide : (n k : ℕ) (rs : List Row) → k + n ≡ 16 → length rs ≡ suc n → formed_from k rs ≡ Well → NestedRows rs (wide n)
rows_wide n k [] e l f = absurd (omega arith)
rows_wide zero k (r ∷ []) e l f =
    let same : k ≡ 16 = omega arith in
    one-row (within_last r (rw same at (formed_head k r [] f).0)) no_rows
rows_wide zero k (r ∷ s ∷ rs) e l f = absurd (omega arith)
rows_wide (suc n) k (r ∷ rs) e l f =
    let other : eqb k 16 ≡ false = ne_eqb k 16 (omega arith) in
    let h = formed_head k r rs f in
    one-row (within_wide r (rw other at h.0)) (rows_wide n (suc k) rs (omega arith) (omega arith) h.1)

pub in_widest : (e : Edition) → length e.rows ≡ 17 → formed_of e ≡ Well → Nested e widest
unfolding widest
in_widest e l f = record { inner = f; outer = widest_formed; rows = rows_wide 16 0 e.rows refl l (formed_rows e f) }
