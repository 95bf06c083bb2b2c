-- `letters_spelled::to_utf8`: the invariant says that what is spelled and what is left make the whole; a put that did not move shows that the room is full. Assumes nothing.
use Rattle.letters.proofs.Spelt.{Spelling}
use Rattle.letters_spelled.proofs.to_utf8.Given as goal

abbrev pub invariant-loop-taken : goal.invariant-loop-taken
invariant-loop-taken l = Spelling l.bytes l.initial.room l.room l.taken l.made
