-- `checks::check` meets its contract: the bytes are those of the record, and the refusal that is handed on is the edition's. Assumes nothing.
use mathlib.Core.Path.{◌≡◌, ap, ◌∙◌}
use Prim.Native.Nat.{ℕ}
use native.Mathlib.Omega.{arith}
use lib.ListN.{length, length-replicate}
use Rattle.card.specs.declared.Record.{Record}
use Rattle.card.specs.Content.{content_of}
use Rattle.card.specs.Refusing.{write_refusal}
use Rattle.checks.proofs.check.Goals as goal

pub check_under-requires : goal.check_under-requires
check_under-requires c =
    let long : length c.write_record.new.room ≡ 479 =
    omega (arith, c.write_record.auto.room, length-replicate {A = ℕ} 479 0) in
    (c.refuse_edition.ensures, long)

pub returns : goal.returns
returns c =
    c.check_under.ensures ∙ ap (λ (r : Record). write_refusal c.args.edition r.number (content_of r) c.args.size) (c.write_record.ensures.room_after_2 (length-replicate {A = ℕ} 479 0))
