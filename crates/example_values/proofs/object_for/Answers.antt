-- `example_values::object_for` meets its contract: each piece is that of the definition. Assumes nothing.
use Prim.Native.Nat.{ℕ}
use mathlib.Core.Path.{ap, ◌∙◌}
use Rattle.nesting.specs.declared.Sample.{Sample}
use Rattle.card.specs.Content.{object_of}
use Rattle.example.specs.Cards.{at_most, spelled, value_for}
use Rattle.example_values.proofs.object_for.Goals as goal

pub returns : goal.returns
unfolding value_for
returns c =
    let a = c.args in
    c.object_of.ensures
    ∙ ap (λ (n : ℕ). object_of (spelled n c.sample_for-sample.result.first c.sample_for-sample.result.rest)) c.at_most-length.ensures.value
    ∙ ap (λ (x : Sample). object_of (spelled (at_most a.n) x.first x.rest)) c.sample_for-sample.ensures
