-- `rows::put_kind` meets its contract: two runs in a row are one. Assumes nothing.
use native.Mathlib.Omega.{arith}
use Rattle.ground.proofs.Puts.{put_then}
use Rattle.table_text.specs.Texts.{kind_text}
use Rattle.put_table.proofs.rows.put_kind.Goals as goal

pub returns : goal.returns
unfolding kind_text
returns c =
    record { put = rw (c.presence_word.ensures.value, c.rule_word.ensures.value) at (put_then c.put_spaced-behind_presence.ensures.put c.put_spaced.ensures.put); upper_bound = omega (arith, c.put_spaced-behind_presence.ensures.upper_bound, c.put_spaced.ensures.upper_bound) }
