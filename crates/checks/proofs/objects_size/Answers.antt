-- `checks::objects_size` meets its contract: the sum over the lengths is how long the objects are in the template. Assumes nothing.
use mathlib.Core.Path.{◌≡◌, sym, ap, ◌∙◌}
use mathlib.Core.List.{map}
use Prim.Native.Nat.{ℕ}
use native.Mathlib.Omega.{arith}
use lib.ListN.{length, length-replicate}
use Rattle.card.specs.declared.Record.{Record}
use Rattle.card.specs.Content.{content_of}
use Rattle.object_sizes.specs.Sizes.{size_of}
use Rattle.object_sizes.proofs.Sums.{objects_long, content_count}
use Rattle.checks.proofs.objects_size.Goals as goal

pub returns : goal.returns
returns c =
    let sixteen : length c.args.content.objects ≡ 16 = omega arith in
    let r = c.args.content in record {
      upper_bound = c.size_of.ensures.upper_bound;
      value = c.size_of.ensures.value ∙ ap size_of c.lengths_of.ensures
          ∙ ap (λ (x : Record). size_of (map length (content_of x).values)) (c.write_record.ensures.room_after_2 (length-replicate {A = ℕ} 479 0))
          ∙ sym (objects_long (content_of r) (content_count r (sixteen)));
    }
