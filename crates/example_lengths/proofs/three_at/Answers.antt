-- `example_lengths::three_at` meets its contract: a row that stands in no sum is asked for alone, and else the three of its sum. Assumes nothing.
use Prim.Native.Nat.{◌≤◌}
use native.Mathlib.Omega.{arith}
use mathlib.Core.Path.{◌≡◌, sym, ◌∙◌}
use mathlib.Core.Bool.{true}
use borrow.Author.Rules.{rules}
use Rattle.example.specs.Cards.{grouped, three_at}
use Rattle.example.proofs.Grouped.{grouped_most}
use Rattle.example_lengths.proofs.three_at.Goals as goal

pub returns-then-not-is_grouped : goal.returns-then-not-is_grouped
unfolding three_at
returns-then-not-is_grouped c =
    rw (← c.is_grouped.ensures, c.if-not-is_grouped.true, ← c.row_at.ensures) c.choose.ensures

pub offset_bounds-rows-at : goal.offset_bounds-rows-at
offset_bounds-rows-at c =
    let is-in : grouped c.args.k ≡ true =
    sym c.is_grouped.ensures ∙ c.if-not-is_grouped.false in
    let low : c.start_of-at.result ≤ 14 =
    omega (arith, grouped_most c.args.k is-in, c.start_of-at.ensures.upper_bound) in
    let h = low in search rules

pub bounds-rows-at : goal.bounds-rows-at
bounds-rows-at c =
    let is-in : grouped c.args.k ≡ true =
    sym c.is_grouped.ensures ∙ c.if-not-is_grouped.false in
    let low : c.start_of-at.result ≤ 14 =
    omega (arith, grouped_most c.args.k is-in, c.start_of-at.ensures.upper_bound) in
    let h = low in search rules

pub overflow_add-b : goal.overflow_add-b
overflow_add-b c =
    let is-in : grouped c.args.k ≡ true =
    sym c.is_grouped.ensures ∙ c.if-not-is_grouped.false in
    let low : c.start_of-at.result ≤ 14 =
    omega (arith, grouped_most c.args.k is-in, c.start_of-at.ensures.upper_bound) in
    let h = low in search rules

pub offset_bounds-rows-at-2 : goal.offset_bounds-rows-at-2
offset_bounds-rows-at-2 c =
    let is-in : grouped c.args.k ≡ true =
    sym c.is_grouped.ensures ∙ c.if-not-is_grouped.false in
    let low : c.start_of-at.result ≤ 14 =
    omega (arith, grouped_most c.args.k is-in, c.start_of-at.ensures.upper_bound) in
    let h = low in search rules

pub bounds-rows-at-2 : goal.bounds-rows-at-2
bounds-rows-at-2 c =
    let is-in : grouped c.args.k ≡ true =
    sym c.is_grouped.ensures ∙ c.if-not-is_grouped.false in
    let low : c.start_of-at.result ≤ 14 =
    omega (arith, grouped_most c.args.k is-in, c.start_of-at.ensures.upper_bound) in
    let h = low in search rules

pub overflow_add-c : goal.overflow_add-c
overflow_add-c c =
    let is-in : grouped c.args.k ≡ true =
    sym c.is_grouped.ensures ∙ c.if-not-is_grouped.false in
    let low : c.start_of-at.result ≤ 14 =
    omega (arith, grouped_most c.args.k is-in, c.start_of-at.ensures.upper_bound) in
    let h = low in search rules

pub offset_bounds-rows-at-3 : goal.offset_bounds-rows-at-3
offset_bounds-rows-at-3 c =
    let is-in : grouped c.args.k ≡ true =
    sym c.is_grouped.ensures ∙ c.if-not-is_grouped.false in
    let low : c.start_of-at.result ≤ 14 =
    omega (arith, grouped_most c.args.k is-in, c.start_of-at.ensures.upper_bound) in
    let h = low in search rules

pub bounds-rows-at-3 : goal.bounds-rows-at-3
bounds-rows-at-3 c =
    let is-in : grouped c.args.k ≡ true =
    sym c.is_grouped.ensures ∙ c.if-not-is_grouped.false in
    let low : c.start_of-at.result ≤ 14 =
    omega (arith, grouped_most c.args.k is-in, c.start_of-at.ensures.upper_bound) in
    let h = low in search rules

pub returns : goal.returns
unfolding three_at
returns c =
    let is-in : grouped c.args.k ≡ true =
    sym c.is_grouped.ensures ∙ c.if-not-is_grouped.false in
    rw (is-in, ← c.start_of-at.ensures.value) c.choose-2.ensures
