-- `card_sums::sum_fits` meets its contract: how many are present decides which bound is asked. Assumes nothing.
use Prim.Native.Nat.{◌+◌}
use mathlib.Core.Path.{◌≡◌, sym}
use native.Mathlib.Omega.{arith}
use Rattle.card.specs.Rules.{count_present}
use Rattle.card.proofs.Groups.{present_most, all_low, fits_alone, fits_never, fits_two, fits_three}
use Rattle.card_sums.proofs.sum_fits.Goals as goal

pub overflow_add-count : goal.overflow_add-count
overflow_add-count c = omega (arith, present_most c.args.a, present_most c.args.b)

pub overflow_add-count-2 : goal.overflow_add-count-2
overflow_add-count-2 c = omega (arith, present_most c.args.a, present_most c.args.b, present_most c.args.c)

pub returns-then-count-le1 : goal.returns-then-count-le1
returns-then-count-le1 c =
    let counted : c.present_of.result + c.present_of-2.result + c.present_of-3.result ≡ count_present c.args.a c.args.b c.args.c =
    rw (c.present_of.ensures, c.present_of-2.ensures, c.present_of-3.ensures) in
    let a = c.args in sym (fits_alone a.alone a.a a.b a.c _ (counted) c.if-count-le1.true)

pub returns-then-a-b : goal.returns-then-a-b
returns-then-a-b c =
    let counted : c.present_of.result + c.present_of-2.result + c.present_of-3.result ≡ count_present c.args.a c.args.b c.args.c =
    rw (c.present_of.ensures, c.present_of-2.ensures, c.present_of-3.ensures) in
    let a = c.args in sym (fits_never a.alone a.a a.b a.c _ (counted) c.if-count-le1.false c.if-a-b.true)

pub overflow_add-sum : goal.overflow_add-sum
overflow_add-sum c = let a = c.args in let l = all_low a.a a.b a.c c.if-a-b.false in omega arith

pub overflow_add-sum-2 : goal.overflow_add-sum-2
overflow_add-sum-2 c = let a = c.args in let l = all_low a.a a.b a.c c.if-a-b.false in omega arith

pub returns-then-count-eq2 : goal.returns-then-count-eq2
returns-then-count-eq2 c =
    let counted : c.present_of.result + c.present_of-2.result + c.present_of-3.result ≡ count_present c.args.a c.args.b c.args.c =
    rw (c.present_of.ensures, c.present_of-2.ensures, c.present_of-3.ensures) in
    let a = c.args in sym (fits_two a.alone a.a a.b a.c _ (counted) c.if-count-le1.false c.if-count-eq2.true)

pub returns-else-count-eq2 : goal.returns-else-count-eq2
returns-else-count-eq2 c =
    let counted : c.present_of.result + c.present_of-2.result + c.present_of-3.result ≡ count_present c.args.a c.args.b c.args.c =
    rw (c.present_of.ensures, c.present_of-2.ensures, c.present_of-3.ensures) in
    let a = c.args in sym (fits_three a.alone a.a a.b a.c _ (counted) c.if-count-le1.false c.if-count-eq2.false)
