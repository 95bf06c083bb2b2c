-- One edition nested in another.
use Rattle.std.specs.Prelude.{ℕ, ◌≡◌, true, List, [], ◌∷◌, length}
use Rattle.edition.specs.declared.Row.{Row}
use Rattle.edition.specs.declared.Edition.{Edition}
use Rattle.edition.specs.declared.Formed.TheVariants.{Well}
use Rattle.std.specs.Prelude.{Ok}
use Rattle.edition.specs.Sets.{permitted}
use Rattle.rules.specs.Values.{judged}
use Rattle.edition.specs.Rows.{formed_of}

-- each inner length is an outer one; whatever value of an inner length the inner rule takes, the outer takes; what the outer requires the inner requires
pub record Within (inner outer : Row) : Type 0 where
  pub shorter : (n : ℕ) → permitted inner.lengths n ≡ true → permitted outer.lengths n ≡ true
  pub takes : (v : List ℕ) → permitted inner.lengths (length v) ≡ true → judged inner.rule v ≡ Ok tt → judged outer.rule v ≡ Ok tt
  pub asks : outer.required ≡ true → inner.required ≡ true

pub data NestedRows : List Row → List Row → Type 0 where
  no_rows : NestedRows [] []
  one-row : {i o : Row} {is os : List Row} → Within i o → NestedRows is os → NestedRows (i ∷ is) (o ∷ os)

-- both are well formed, and each row is within its own
pub record Nested (i o : Edition) : Type 0 where
  pub inner : formed_of i ≡ Well
  pub outer : formed_of o ≡ Well
  pub rows : NestedRows i.rows o.rows
