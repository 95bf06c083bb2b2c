-- `front_numbers::put_state` meets its contract: three fields, each behind the last. Assumes nothing.
use Rattle.front.proofs.Spaced.{state_of}
use Rattle.front.proofs.Placed.{state_there}
use Rattle.front_numbers.proofs.put_state.Goals as goal

pub returns : goal.returns
returns c =
    let put =
    state_there _ _ _ c.requires c.put_field-behind_status.ensures.value c.put_field-behind_status.ensures.room_after c.put_byte-behind_addition.ensures.value c.put_byte-behind_addition.ensures.room_after c.put_field.ensures.value c.put_field.ensures.room_after in
    rw (state_of c.args.content c.shown_status-status.ensures.result_value c.shown_addition-addition.ensures) at put
