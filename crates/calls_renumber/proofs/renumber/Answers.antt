-- `renumber` meets its contract: where nothing is refused both have their sizes, and the table's last byte is the number. Assumes nothing.
use native.Mathlib.Omega.{arith}
use mathlib.Core.Path.{sym, ap, ◌∙◌}
use borrow.Author.Tests.{eq-eqb, ne_eqb}
use Rattle.card.specs.declared.Refusal.{Refusal}
use Rattle.wire.specs.Answers.{packed}
use Rattle.wire_tables.specs.Tables.{edition_from}
use Rattle.calls_cards.specs.Calls.{kvk_renumber, kvk_renumber_bytes}
use Rattle.calls_renumber.proofs.Renumbers.{Sized, sized}
use Rattle.calls_renumber.proofs.renumber.Goals as goal

pub returns-then-refusal-ne0 : goal.returns-then-refusal-ne0
unfolding kvk_renumber_bytes edition_from
returns-then-refusal-ne0 c =
    let told = c.renumber_refusal-refusal.ensures in
    let some = ne_eqb (kvk_renumber _ _).number 0 (λ z. c.if-refusal-ne0.true (ap (λ (x : Refusal). x.number) told ∙ z)) in
    record { value = c.pack.ensures ∙ ap packed told; bytes_after = rw some }

pub bounds-table-102 : goal.bounds-table-102
bounds-table-102 c =
    let sizes : Sized c.args.table.now c.args.bytes.now =
    sized _ _ (ap (λ (x : Refusal). x.number) (sym c.renumber_refusal-refusal.ensures) ∙ c.if-refusal-ne0.false) in
    omega (arith, sizes.table_size)

pub bounds-bytes-478 : goal.bounds-bytes-478
bounds-bytes-478 c =
    let sizes : Sized c.args.table.now c.args.bytes.now =
    sized _ _ (ap (λ (x : Refusal). x.number) (sym c.renumber_refusal-refusal.ensures) ∙ c.if-refusal-ne0.false) in
    omega (arith, sizes.record_size)

pub returns : goal.returns
unfolding kvk_renumber_bytes edition_from
returns c =
    let told = c.renumber_refusal-refusal.ensures in
    let none = eq-eqb (kvk_renumber _ _).number 0 (ap (λ (x : Refusal). x.number) (sym told) ∙ c.if-refusal-ne0.false) in
    record { value = c.pack-2.ensures ∙ ap packed told; bytes_after = rw none }
