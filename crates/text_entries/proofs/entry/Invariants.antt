-- `text_entries::entry`: the first of the lines that are left is the first of all. Assumes nothing.
use Prim.Native.Nat.{◌+◌, ◌-◌, ◌≤◌}
use mathlib.Core.Path.{◌≡◌}
use lib.ListN.{length, drop}
use Rattle.card_lines.specs.Lines.{lines}
use Rattle.card_text.specs.Entries.{line_from, line_with, line_of}
use Rattle.text_entries.proofs.entry.Given as goal

abbrev pub invariant-loop-at : goal.invariant-loop-at
invariant-loop-at l = record {
  counted : l.number ≤ l.at + 1;
  within : l.at ≤ length l.text + 1;
  number : line_from l.key l.number (lines (drop l.at l.text)) ≡ line_of l.key l.text;
  line : line_with l.key (lines (drop l.at l.text)) ≡ line_with l.key (lines l.text);
}

abbrev pub decreases-loop-at : goal.decreases-loop-at
decreases-loop-at l = length l.text - l.at
