-- The calls of the day file: an answer as one number.
use Rattle.std.specs.Prelude.{ℕ, cond, eqb, Ok, Err}
use Rattle.card.specs.Refusals.{refuse, none}
use Rattle.wire.specs.Answers.{valued}
use Rattle.day.specs.Calls.{Answer}

-- with 41 the position stands in the value, since it can be more than 255, and the place is 0
unfoldable pub day_packed : Answer → ℕ
day_packed (Ok n) = valued none n
day_packed (Err x) = cond (eqb x.number 41) (valued (refuse 41 0 0) x.place) (valued x 0)
