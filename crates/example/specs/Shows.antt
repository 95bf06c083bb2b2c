-- What the card is for: the inner takes it and the outer does not; and what it is for a card to show the no that is told.
use Rattle.std.specs.Prelude.{ℕ, ◌≡◌, true, false, List, [], ◌∷◌, length, get_or}
use Rattle.ground.specs.Lists.{among}
use Rattle.std.specs.Prelude.{Ok}
use Rattle.rules.specs.Values.{judged}
use Rattle.edition.specs.declared.Row.{Row}
use Rattle.edition.specs.declared.Edition.{Edition}
use Rattle.edition.specs.Sets.{permitted}
use Rattle.edition.specs.Rows.{no_row}
use Rattle.nesting.specs.declared.Nesting.{Nesting}
use Rattle.nesting.specs.Decision.{nesting_of}
use Rattle.card.specs.Content.{Content}
use Rattle.card.specs.Refusals.{none}
use Rattle.card.specs.Rules.{Allowed}
use Rattle.card.specs.Reading.{reading}
use Rattle.card.specs.Writing.{buffer_after}
use Rattle.example.specs.Cards.{example_of}

-- the image that the inner writes of the record
abbrev pub image : Edition → Edition → List ℕ → List ℕ
image i o buffer = buffer_after i (example_of i o) buffer

-- the inner accepts the image, and the outer refuses it with 6, 7, 9 or 10
pub record Shows (i o : Edition) (image : List ℕ) : Type 0 where
  pub inner : (reading i image).refusal ≡ none
  pub outer : among (reading o image).refusal.number (6 ∷ 7 ∷ 9 ∷ 10 ∷ []) ≡ true

-- a value that shows a clause of the outer's row: 1 its length is none of the set, 2 the rule does not take it, 3 it is absent
pub data ShowsClause (o : Row) : ℕ → List ℕ → Type 0 where
  lacks : {b : ℕ} {v : List ℕ} → permitted o.lengths (length (b ∷ v)) ≡ false → ShowsClause o 1 (b ∷ v)
  not_taken : {b : ℕ} {v : List ℕ} → (judged o.rule (b ∷ v) ≡ Ok tt → ⊥) → ShowsClause o 2 (b ∷ v)
  absent : ShowsClause o 3 []

-- a content that the inner allows and whose object at the row told shows the clause told
pub record Shown (i o : Edition) (n : Nesting) (c : Content) : Type 0 where
  pub allowed : Allowed i c
  pub clause : ShowsClause (get_or o.rows n.row no_row) n.clause (get_or c.values n.row [])

-- there is a card that shows the no that is told
pub record Exists (i o : Edition) : Type 0 where
  pub content : Content
  pub shown : Shown i o (nesting_of i o) content
