-- `objects_read::read_object` meets its contract, by its tests in the order of the definition. Assumes nothing.
use mathlib.Core.Path.{◌≡◌, sym, ap, ◌∙◌}
use Prim.Native.Nat.{ℕ, ◌+◌, ◌-◌, ◌≤◌}
use native.Mathlib.Omega.{arith}
use borrow.Author.Tests.{not-true, not-false}
use lib.ListN.{length, get_or, take, drop, length-drop}
use lib.Seq.{length-take-le}
use Rattle.rules.proofs.Verdicts.{told_apart}
use Rattle.rules.specs.Kinds.{judged_by}
use Rattle.rules.specs.Values.{Verdict, ToldVerdict, verdict_told}
use Rattle.card.specs.Walk.{Seen}
use Rattle.objects.specs.Objects.{found_told, found_of, valued}
use Rattle.objects.proofs.Finds.{index_within, found_cut, found_unlisted, found_overlong, found_weighed, weighed_found}
use Rattle.objects_read.proofs.read_object.Goals as goal

pub returns-then-part-eq0 : goal.returns-then-part-eq0
unfolding found_of
returns-then-part-eq0 c =
    let a = c.args in
    rw c.tag_of.ensures (ap (λ (x : Seen). found_told (found_of a.k a.place x)) (sym (found_cut a.kinds.now a.k a.place a.row a.part.now c.if-part-eq0.true)))

pub returns-then-not-permits : goal.returns-then-not-permits
unfolding found_of
returns-then-not-permits c =
    let a = c.args in
    let out = sym c.permits.ensures ∙ not-true c.permits.result c.if-not-permits.true-raw in
    rw c.tag_of-then-not-permits.ensures (ap (λ (x : Seen). found_told (found_of a.k a.place x)) (sym (found_unlisted a.kinds.now a.k a.place a.row a.part.now (omega arith) out)))

pub overflow_cast-stop : goal.overflow_cast-stop
overflow_cast-stop c = omega (arith, c.type_inv.part 0)

pub overflow_add-stop : goal.overflow_add-stop
overflow_add-stop c = omega (arith, c.type_inv.part 0)

pub returns-then-part-stop : goal.returns-then-part-stop
unfolding found_of
returns-then-part-stop c =
    let a = c.args in
    let listed = sym c.permits.ensures ∙ not-false c.permits.result c.if-not-permits.false-raw in
    rw c.tag_of-then-part-stop.ensures
    (ap (λ (x : Seen). found_told (found_of a.k a.place x)) (sym (found_overlong a.kinds.now a.k a.place a.row a.part.now (omega arith) listed (omega arith))))

pub weigh-requires : goal.weigh-requires
weigh-requires c =
    let a = c.args in
    let n = get_or a.part.now 0 0 in
    let long : length (take (1 + n - 1) (drop 1 a.part.now)) ≡ 1 + n - 1 = length-take-le _ _ (simp length-drop (omega arith)) in
    let inside : (verdict_told c.judge_by-verdict.result).index ≤ 1 + n - 1 =
    rw (ap (λ (t : ToldVerdict). t.index) c.judge_by-verdict.ensures) (rw long at (index_within a.kinds.now a.row.rule (take (1 + n - 1) (drop 1 a.part.now)))) in
    omega (arith, c.type_inv.part 0)

pub returns : goal.returns
returns c =
    let a = c.args in
    let l = a.part.now in
    let n = get_or l 0 0 in
    let listed = sym c.permits.ensures ∙ not-false c.permits.result c.if-not-permits.false-raw in
    let one : 1 + n - 1 ≡ n = omega arith in
    let long : length (take n (drop 1 l)) ≡ n = length-take-le _ _ (simp length-drop (omega arith)) in
    let verdict : c.judge_by-verdict.result ≡ judged_by a.kinds.now a.row.rule (take n (drop 1 l)) =
    told_apart _ (judged_by a.kinds.now a.row.rule (take (1 + n - 1) (drop 1 l))) c.judge_by-verdict.ensures ∙ ap (λ (m : ℕ). judged_by a.kinds.now a.row.rule (take m (drop 1 l))) one in
    let weighed : found_told c.weigh.result ≡ found_told (valued a.k (a.place + 2) n c.judge_by-verdict.result) = c.weigh.ensures in
    weighed
    ∙ ap (λ (v : Verdict). found_told (valued a.k (a.place + 2) n v)) verdict
    ∙ ap (λ (m : ℕ). found_told (valued a.k (a.place + 2) m (judged_by a.kinds.now a.row.rule (take n (drop 1 l))))) (sym long)
    ∙ ap found_told (sym (weighed_found a.kinds.now a.k a.place a.row (take n (drop 1 l)) (drop n (drop 1 l)) _))
    ∙ ap (λ (x : Seen). found_told (found_of a.k a.place x)) (sym (found_weighed a.kinds.now a.k a.place a.row l (omega arith) listed (omega arith)))
