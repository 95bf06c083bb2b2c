-- The separate call that puts another edition's number on a record.
use Rattle.std.specs.Prelude.{ℕ, ◌≡◌, false, List, [], ◌∷◌, length}
use Rattle.ground.specs.Lists.{among}
use Rattle.edition.specs.declared.Edition.{Edition}
use Rattle.card.specs.declared.Record.{Record}
use Rattle.card.specs.declared.Refusal.{Refusal}
use Rattle.card.specs.Content.{numbered}
use Rattle.card.specs.Refusals.{none}
use Rattle.card.specs.Writing.{renumber_refusal, renumbered}
use Rattle.demands.specs.Demands.{Writer}

pub record Told : Type 0 where
  pub refusal : Refusal
  pub content : Record

abbrev pub Renumberer : Type 0
Renumberer = Edition → Record → Told

-- it tells what writing would tell of the record with the number put on, so never 20 or 22; it puts the number, or leaves the record as it came
pub record Renumbers (write : Writer) (renumber : Renumberer) : Type 0 where
  pub tells : (e : Edition) (r : Record) (b : List ℕ) → length b ≡ 256 → (renumber e r).refusal ≡ (write e (numbered e.number r) b).refusal
  pub never : (e : Edition) (r : Record) → among (renumber e r).refusal.number (20 ∷ 22 ∷ []) ≡ false
  pub puts : (e : Edition) (r : Record) → (renumber e r).refusal ≡ none → (renumber e r).content ≡ numbered e.number r
  pub keeps : (e : Edition) (r : Record) → ((renumber e r).refusal ≡ none → ⊥) → (renumber e r).content ≡ r

-- what the contract of `renumber` says
abbrev pub library_renumberer : Renumberer
library_renumberer e r = record { refusal = renumber_refusal e r; content = renumbered e r }
