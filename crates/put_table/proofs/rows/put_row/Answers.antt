-- `rows::put_row` meets its contract: three runs in a row are one. Assumes nothing.
use native.Mathlib.Omega.{arith}
use Rattle.ground.proofs.Puts.{put_then}
use Rattle.table_text.specs.Texts.{row_text}
use Rattle.put_table.proofs.rows.put_row.Goals as goal

pub returns : goal.returns
unfolding row_text
returns c =
    record { put = put_then c.put_front-behind_name.ensures.put (put_then c.put_kind-behind_rule.ensures.put c.put_set.ensures.put); upper_bound = omega (arith, c.put_front-behind_name.ensures.upper_bound, c.put_kind-behind_rule.ensures.upper_bound, c.put_set.ensures.upper_bound) }
