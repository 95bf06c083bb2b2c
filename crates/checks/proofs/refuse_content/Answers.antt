-- `checks::refuse_content` meets its contract: the checks stand in the order of the refusal. Assumes nothing.
use mathlib.Core.Path.{◌≡◌, refl, sym, ap, ap₂, ◌∙◌}
use native.Mathlib.Omega.{arith}
use Rattle.card.specs.Content.{content_of}
use Rattle.card.specs.Refusing.{ends_refusal}
use Rattle.card.proofs.Chains.{or_pass, or_stop}
use Rattle.wire_records.specs.Records.{lent_record}
use Rattle.wire_records.proofs.Parts.{lent_first, lent_last, lent_count}
use Rattle.object_sizes.specs.Sizes.{sizes_refusal}
use Rattle.object_sizes.proofs.Sums.{content_count, sizes_order}
use Rattle.checks.proofs.Order.{content_order}
use Rattle.checks.proofs.refuse_content.Goals as goal

pub bounds-bytes-0 : goal.bounds-bytes-0
bounds-bytes-0 c = omega (arith, c.requires.0)

pub bounds-bytes-13 : goal.bounds-bytes-13
bounds-bytes-13 c = omega (arith, c.requires.0)

pub returns-then-ends-ne0 : goal.returns-then-ends-ne0
unfolding content_of
returns-then-ends-ne0 c =
    let ended : c.check_ends-ends.result ≡ ends_refusal (lent_record c.args.bytes.now).first (lent_record c.args.bytes.now).last =
    let bs = c.args.bytes.now in
    c.check_ends-ends.ensures ∙ sym (ap₂ ends_refusal (lent_first bs c.requires.0) (lent_last bs c.requires.0)) in
    let a = c.args in
    sym (content_order a.edition (content_of (lent_record a.bytes.now)) (ended) refl refl ∙ or_stop _ _ c.if-ends-ne0.true)

pub check_rows-rows-requires : goal.check_rows-rows-requires
check_rows-rows-requires c =
    (c.requires.0, c.requires.1, c.kinds-kinds.ensures)

pub returns-then-rows-ne0 : goal.returns-then-rows-ne0
unfolding content_of
returns-then-rows-ne0 c =
    let ended : c.check_ends-ends.result ≡ ends_refusal (lent_record c.args.bytes.now).first (lent_record c.args.bytes.now).last =
    let bs = c.args.bytes.now in
    c.check_ends-ends.ensures ∙ sym (ap₂ ends_refusal (lent_first bs c.requires.0) (lent_last bs c.requires.0)) in
    let a = c.args in
    sym
    (content_order a.edition (content_of (lent_record a.bytes.now)) (ended) c.check_rows-rows.ensures refl
    ∙ or_pass _ _ c.if-ends-ne0.false ∙ or_stop _ _ c.if-rows-ne0.true)

pub returns : goal.returns
unfolding content_of
returns c =
    let ended : c.check_ends-ends.result ≡ ends_refusal (lent_record c.args.bytes.now).first (lent_record c.args.bytes.now).last =
    let bs = c.args.bytes.now in
    c.check_ends-ends.ensures ∙ sym (ap₂ ends_refusal (lent_first bs c.requires.0) (lent_last bs c.requires.0)) in
    let bs = c.args.bytes.now in
    let sizes = c.check_sizes.ensures ∙ ap sizes_refusal c.lengths_of.ensures ∙ sizes_order (content_of (lent_record bs)) (content_count (lent_record bs) (lent_count bs c.requires.0)) in
    sym
    (content_order c.args.edition (content_of (lent_record bs)) (ended) c.check_rows-rows.ensures sizes
    ∙ or_pass _ _ c.if-ends-ne0.false ∙ or_pass _ _ c.if-rows-ne0.false)
