-- `front_print::put_lines` meets its contract, by the layout: each line in its place. Assumes nothing.
use mathlib.Core.Path.{◌≡◌}
use mathlib.Core.List.{List}
use Prim.Native.Nat.{ℕ}
use Rattle.ground.specs.Rooms.{room_with}
use Rattle.card.specs.declared.Record.{Record}
use Rattle.card.specs.Content.{content_of}
use Rattle.front.specs.Lines.{value}
use Rattle.front.specs.Placing.{field_put}
use Rattle.front.proofs.Values.{value_at_lem}
use Rattle.front.proofs.Spaced.{item}
use Rattle.front.proofs.Long.{filled_with, filled_without}
use Rattle.front_print.proofs.put_lines.Goals as goal

named : (r : Record) (first : List ℕ) {second : List ℕ} → second ≡ room_with first 56 (field_put 28 (item r 0)) → second ≡ room_with first 56 (field_put 28 (value (content_of r) 0))
named r first e = rw (value_at_lem r 0) e

pub returns-then-fund : goal.returns-then-fund
returns-then-fund c =
    rw c.if-fund.true
    (filled_with c.args.room.now _ _ (content_of c.args.content) c.requires.0 c.requires.1 c.put_names.ensures.room_after (named c.args.content _ c.put_field.ensures.room_after) c.put_numbers.ensures.room_after)

pub returns-else-fund : goal.returns-else-fund
returns-else-fund c =
    rw c.if-fund.false
    (filled_without c.args.room.now _ _ (content_of c.args.content) c.requires.0 c.requires.1 c.fill.ensures.room_after c.put_names-else-fund.ensures.room_after c.put_numbers-else-fund.ensures.room_after)
