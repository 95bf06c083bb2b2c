-- The facts hold: each is computed. Assumes nothing.
use mathlib.Core.Path.{refl}
use lib.Count.{count_trailing_zeros}
use Rattle.ground.specs.Lists.{among}
use Rattle.rules.specs.Values.{is_text}
use Rattle.edition.specs.Rows.{tags}
use Rattle.edition.specs.Sets.{permitted, shortest_of}
use Rattle.edition.specs.Tables.{table, terminal, issue}
use Rattle.card.specs.Layout.{body}
use Rattle.card.specs.Rules.{first_allowed, last_allowed}
use Rattle.demands.specs.Marked.{card_of, full_values}
use Rattle.counts.specs.Counts.{Counts, tally, tally_pairs, shortest, longest}

pub counts : Counts
unfolding among count_trailing_zeros tags tally tally_pairs shortest longest first_allowed last_allowed is_text permitted shortest_of table terminal issue card_of full_values body
counts = record {
  first_bytes = refl;
  last_bytes_82 = refl;
  last_bytes_92 = refl;
  last_bytes_A2 = refl;
  digits = refl;
  text = refl;
  leads = refl;
  codes = refl;
  births = refl;
  expiries = refl;
  terminal_lengths = refl;
  issue_lengths = refl;
  shortest_51 = refl;
  longest_212 = refl;
  longest_214 = refl;
}
