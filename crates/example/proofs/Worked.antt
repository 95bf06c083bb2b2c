-- The card that shows that terminal is not nested in issue: there is one, without the office code that issue requires, so it is written by the one and refused by the other. Assumes nothing.
use Prim.Native.Nat.{ℕ, ◌<◌}
use native.Mathlib.Omega.{arith}
use mathlib.Core.Path.{◌≡◌, refl, sym, ap, subst}
use mathlib.Core.List.{List, [], ◌∷◌}
use lib.ListN.{length, get_or, replicate}
use Rattle.ground.specs.Lists.{leading, among}
use Rattle.rules.specs.Values.{is_text, holds, judged}
use Rattle.edition.specs.Sets.{permitted}
use Rattle.edition.specs.Rows.{tags, no_row, formed_from, formed_of}
use Rattle.edition.specs.Tables.{table, terminal, issue}
use Rattle.edition.proofs.Shipped.{terminal_formed}
use Rattle.nesting.specs.declared.Nesting.{Nesting}
use Rattle.nesting.specs.Decision.{numbers_in, clause_of, told, nesting_from, nesting_of}
use Rattle.card.specs.Content.{Content}
use Rattle.card.specs.Layout.{body, objects_of, template_length}
use Rattle.card.specs.Refusals.{or_else}
use Rattle.card.specs.Rules.{Entry, fault, entries, object_rows, AllMet, none_left, one_more, sum_fits, names_fit, town_fits, first_allowed, last_allowed, Allowed}
use Rattle.card.specs.Refusing.{row_refusal, rows_refusal}
use Rattle.card.proofs.Chains.{neither}
use Rattle.card.proofs.Unrefused.{row_in}
use Rattle.demands.specs.Demands.{LentEdition}
use Rattle.example.specs.Shows.{image, Shows, ShowsClause, absent, Exists}
use Rattle.example.proofs.Refused.{example_shows}
use Rattle.example.proofs.Complete.{example_written}

told_8f : nesting_of terminal issue ≡ told 3 2
unfolding issue terminal table nesting_of formed_of formed_from nesting_from clause_of numbers_in permitted
told_8f = refl

-- the required objects of terminal, the fund name long: 77 bytes
card : Content
card = record {
  first = 0x92;
  free = replicate 12 0;
  last = 0;
  values =
      replicate 28 0x42 ∷ replicate 7 0x32 ∷ [] ∷ replicate 6 0x32 ∷ (0x32 ∷ []) ∷ [] ∷ [] ∷ [] ∷ []
      ∷ replicate 2 0x42 ∷ replicate 8 0x30 ∷ [] ∷ [] ∷ replicate 4 0x42 ∷ replicate 2 0x42 ∷ [] ∷ [];
}

met_all : (rs : List Entry) (vs : List (List ℕ)) → length rs ≡ length vs → (rows_refusal rs vs).number ≡ 0 → AllMet rs vs
unfolding rows_refusal
met_all [] [] e z = none_left
met_all [] (v ∷ vs) e z = absurd (omega arith)
met_all (r ∷ rs) [] e z = absurd (omega arith)
met_all (r ∷ rs) (v ∷ vs) e z =
    let n = neither (row_refusal r (fault r.row v)) (rows_refusal rs vs) z in
    one_more (row_in r v _ refl n.first) (met_all rs vs (omega arith) n.second)

rows : AllMet (object_rows terminal) card.values
unfolding terminal table entries tags card rows_refusal row_refusal or_else fault permitted judged leading holds is_text among
rows = met_all (object_rows terminal) card.values refl refl

size : template_length (objects_of card) ≡ 77
unfolding card body tags
size = refl

allowed : Allowed terminal card
unfolding card names_fit town_fits sum_fits first_allowed last_allowed
allowed = record {
  formed = terminal_formed;
  rows = rows;
  names = refl;
  town = refl;
  least = omega (arith, size);
  most = omega (arith, size);
  first = refl;
  last = refl;
  free = refl;
}

lent : LentEdition terminal × LentEdition issue
unfolding terminal issue table
lent = (refl, refl)

row : (nesting_of terminal issue).row < 16
row = let e : (nesting_of terminal issue).row ≡ 2 = ap (λ (n : Nesting). n.row) told_8f in omega arith

-- it has no office code
clause : ShowsClause (get_or issue.rows 2 no_row) 3 (get_or card.values 2 [])
unfolding card
clause = absent

exists : Exists terminal issue
exists = record {
  content = card;
  shown = record {
    allowed = allowed;
    clause = subst (λ (n : Nesting). ShowsClause (get_or issue.rows n.row no_row) n.clause (get_or card.values n.row [])) (sym told_8f) clause;
  };
}

-- terminal writes the card given into any buffer of 256 bytes, and accepts it; issue refuses it
pub terminal_shown : (b : List ℕ) → length b ≡ 256 → Shows terminal issue (image terminal issue b)
terminal_shown b l =
    example_shows terminal issue b lent.0 lent.1 row ((example_written terminal issue b lent.0 lent.1 row l).1 exists)
