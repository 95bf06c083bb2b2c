-- The refusals one after the other, and the room behind them. Assumes nothing.
use mathlib.Core.Path.{◌≡◌, ◌∙◌}
use mathlib.Core.Bool.{Bool, true, false, not}
use mathlib.Core.List.{List}
use Prim.Native.Nat.{ℕ}
use native.Mathlib.Omega.{arith}
use borrow.Author.Tests.{eq-eqb, ne_eqb, eqb-true}
use lib.Dec.{eqb}
use lib.ListN.{length}
use Rattle.edition.specs.Tables.{terminal}
use Rattle.card.specs.Content.{Content}
use Rattle.card.specs.Refusals.{refuse, none, gate}
use Rattle.card.specs.Refusing.{edition_refusal}
use Rattle.card.proofs.Chains.{or_pass, or_stop, neither, gate_in}
use Rattle.front.specs.Lines.{value, addition_sign, lines_of, end_to_end}
use Rattle.front.specs.Refusing.{is_there, printed_rows, underscored, lines_refusal, print_refusal, room_printed}

-- ---- 30, 31, 32
module _ (fund : Bool) (c : Content) where
  pub lines_30 : is_there (addition_sign (value c 5)) ≡ false → lines_refusal fund c ≡ refuse 30 0 0
  unfolding lines_refusal gate
  lines_30 e = rw e

  pub lines_31 : is_there (addition_sign (value c 5)) ≡ true → is_there (value c 15) ≡ false → lines_refusal fund c ≡ refuse 31 0 0
  unfolding lines_refusal gate
  lines_31 e f = rw (e, f)

  pub lines_32 : is_there (addition_sign (value c 5)) ≡ true → is_there (value c 15) ≡ true → underscored c (printed_rows fund) ≡ true → lines_refusal fund c ≡ refuse 32 0 0
  unfolding lines_refusal gate
  lines_32 e f g = rw (e, f, g)

  pub lines_none : is_there (addition_sign (value c 5)) ≡ true → is_there (value c 15) ≡ true → underscored c (printed_rows fund) ≡ false → lines_refusal fund c ≡ none
  unfolding lines_refusal gate
  lines_none e f g = rw (e, f, g)

-- ---- the whole
module _ (fund : Bool) (c : Content) (n : ℕ) where
  pub print_own : ((edition_refusal terminal c).number ≡ 0 → ⊥) → print_refusal fund c n ≡ edition_refusal terminal c
  unfolding print_refusal
  print_own h = or_stop _ _ h

  pub print_20 : (edition_refusal terminal c).number ≡ 0 → (n ≡ 112 → ⊥) → print_refusal fund c n ≡ refuse 20 0 0
  unfolding print_refusal gate
  print_20 z h = or_pass _ _ z ∙ rw (ne_eqb n 112 h)

  pub print_lines : (edition_refusal terminal c).number ≡ 0 → n ≡ 112 → print_refusal fund c n ≡ lines_refusal fund c
  unfolding print_refusal gate
  print_lines z h = or_pass _ _ z ∙ rw (eq-eqb n 112 h)

-- a front that is not refused
pub record Free (fund : Bool) (c : Content) (n : ℕ) : Type 0 where
  pub own : (edition_refusal terminal c).number ≡ 0
  pub sized : n ≡ 112
  pub clean : not (underscored c (printed_rows fund)) ≡ true

pub free : (fund : Bool) (c : Content) (n : ℕ) → (print_refusal fund c n).number ≡ 0 → Free fund c n
unfolding print_refusal lines_refusal
free fund c n z =
    let a = neither (edition_refusal terminal c) _ z in
    let size = gate_in (eqb n 112) _ _ (omega arith) a.second in
    let sign = gate_in (is_there (addition_sign (value c 5))) _ _ (omega arith) size.1 in
    let validity = gate_in (is_there (value c 15)) _ _ (omega arith) sign.1 in
    record { own = a.first; sized = eqb-true n 112 size.0; clean = (gate_in (not (underscored c (printed_rows fund))) _ _ (omega arith) validity.1).0 }

-- ---- the room
pub kept : (fund : Bool) (c : Content) (room : List ℕ) → ((print_refusal fund c (length room)).number ≡ 0 → ⊥) → room ≡ room_printed fund c room
unfolding room_printed
kept fund c room h = rw (ne_eqb (print_refusal fund c (length room)).number 0 h)

pub filled : (fund : Bool) (c : Content) (room : List ℕ) → (print_refusal fund c (length room)).number ≡ 0 → end_to_end (lines_of fund c) ≡ room_printed fund c room
unfolding room_printed
filled fund c room h = rw (eq-eqb (print_refusal fund c (length room)).number 0 h)
