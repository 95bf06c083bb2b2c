-- `is_number` meets its contract: as many bytes lead as digits as there are bytes exactly where each is a digit. Assumes nothing.
use Prim.Native.Nat.{ℕ, suc}
use mathlib.Core.Path.{◌≡◌, refl, sym, ◌∙◌}
use mathlib.Core.Bool.{Bool, true, false, cond, ◌&&◌}
use mathlib.Core.List.{List, [], ◌∷◌}
use native.Mathlib.Omega.{arith}
use borrow.Author.Tests.{eqb-true, eqb-false, eq-eqb, ne_eqb, le-leb}
use lib.Dec.{eqb}
use lib.ListN.{length}
use Rattle.std.specs.List.{list_all}
use Rattle.rules.specs.Values.{is_digit}
use Rattle.ground.specs.Lists.{leading}
use Rattle.day.specs.Calls.{number_formed}
use Rattle.day.proofs.Finding.{number_short, number_long}
use Rattle.day_search.proofs.is_number.Goals as goal

eqb_suc : (m n : ℕ) → eqb m n ≡ eqb (suc m) (suc n)
eqb_suc m n = go (eqb m n) refl
  where
    go : (t : Bool) → eqb m n ≡ t → eqb m n ≡ eqb (suc m) (suc n)
    go true e = e ∙ sym (eq-eqb (suc m) (suc n) (omega (arith, eqb-true m n e)))
    go false e = e ∙ sym (ne_eqb (suc m) (suc n) (λ z. eqb-false m n e (omega arith)))

all_leading : (p : ℕ → Bool) (xs : List ℕ) → list_all p xs ≡ eqb (leading p xs) (length xs)
unfolding leading
all_leading p [] = refl
all_leading p (x ∷ xs) = go (p x) (all_leading p xs)
  where
    go : (t : Bool) → list_all p xs ≡ eqb (leading p xs) (length xs) → (t && list_all p xs) ≡ eqb (cond t (suc (leading p xs)) 0) (suc (length xs))
    go true ih = ih ∙ eqb_suc (leading p xs) (length xs)
    go false ih = sym (ne_eqb 0 (suc (length xs)) (λ z. omega arith))

pub returns-then-bytes-lt6 : goal.returns-then-bytes-lt6
returns-then-bytes-lt6 c = sym (number_short c.args.bytes.now c.if-bytes-lt6.true)

pub returns-then-bytes-gt12 : goal.returns-then-bytes-gt12
returns-then-bytes-gt12 c = sym (number_long c.args.bytes.now (omega arith) c.if-bytes-gt12.true)

pub returns : goal.returns
unfolding number_formed
returns c =
    let s = c.args.bytes.now in
    rw (le-leb 6 (length s) (omega arith), le-leb (length s) 12 (omega arith)) (c.are_digits.ensures ∙ all_leading is_digit s)
