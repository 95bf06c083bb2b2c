-- `checks::check_content` meets its contract: the bytes are those of the record, and the refusal that is handed on is the edition's. Assumes nothing.
use mathlib.Core.Path.{◌≡◌, ap, ◌∙◌}
use Prim.Native.Nat.{ℕ}
use native.Mathlib.Omega.{arith}
use lib.ListN.{length, length-replicate}
use Rattle.card.specs.declared.Record.{Record}
use Rattle.card.specs.Content.{content_of}
use Rattle.card.specs.Refusing.{edition_refusal}
use Rattle.checks.proofs.check_content.Goals as goal

pub content_under-requires : goal.content_under-requires
content_under-requires c =
    let long : length c.write_record.new.room ≡ 479 =
    omega (arith, c.write_record.auto.room, length-replicate {A = ℕ} 479 0) in
    (c.refuse_edition.ensures, long)

pub returns : goal.returns
returns c =
    c.content_under.ensures ∙ ap (λ (r : Record). edition_refusal c.args.edition (content_of r)) (c.write_record.ensures.room_after_2 (length-replicate {A = ℕ} 479 0))
