-- `letters_coded::from_utf8`: the invariant says that what is left of the code is that of what is left of the text, with what has been begun of a letter. Assumes nothing.
use Rattle.letters.proofs.Coded.{Coding}
use Rattle.letters_coded.proofs.from_utf8.Given as goal

abbrev pub invariant-loop-at : goal.invariant-loop-at
invariant-loop-at l = Coding l.text l.initial.room l.room l.taken l.made l.begun l.at
