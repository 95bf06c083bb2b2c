-- `rebuilding::listed::names_tag` meets its contract. The invariant: the tag is among those of the list exactly where it is among what is left of them. Assumes nothing.
use mathlib.Core.Path.{refl, sym, ◌∙◌}
use native.Mathlib.Omega.{arith}
use lib.ListN.{length-map, get_or-map}
use Rattle.rebuilding.specs.Rebuilding.{tag_in, names_tag}
use Rattle.rebuilding.proofs.Named.{among_here, among_behind, among_end}
use Rattle.rebuilding.proofs.listed.names_tag.Goals as goal

pub loop-entry-init : goal.loop-entry-init
loop-entry-init c = refl

pub returns-then-tag_of-tag : goal.returns-then-tag_of-tag
unfolding names_tag
returns-then-tag_of-tag c =
    let l = c.loop-entry in
    let n = length-map c.args.entries.now tag_in in
    sym (among_here _ _ l.entry-index (omega arith) (get_or-map tag_in c.args.entries.now l.entry-index 0 ∙ sym c.tag_of.ensures ∙ c.if-tag_of-tag.true)) ∙ l.invariant

pub loop-entry-preserved : goal.loop-entry-preserved
loop-entry-preserved c =
    let l = c.loop-entry in
    let n = length-map c.args.entries.now tag_in in
    sym (among_behind _ _ l.entry-index (omega arith) (λ e. c.if-tag_of-tag.false (c.tag_of.ensures ∙ sym (get_or-map tag_in c.args.entries.now l.entry-index 0) ∙ e))) ∙ l.invariant

pub returns : goal.returns
unfolding names_tag
returns c =
    let l = c.loop-entry in
    let n = length-map c.args.entries.now tag_in in
    sym (among_end _ _ l.entry-index (omega arith)) ∙ l.invariant
