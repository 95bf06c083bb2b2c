-- What an answer on nesting says, in the words of document 01: each clause by itself, and the first row.
use Rattle.std.specs.Prelude.{ℕ, suc, ◌≡◌, true, false, List, ◌∷◌, length}
use Rattle.edition.specs.declared.Row.{Row}
use Rattle.edition.specs.declared.Edition.{Edition}
use Rattle.edition.specs.declared.Formed.TheVariants.{Well}
use Rattle.std.specs.Prelude.{Ok}
use Rattle.edition.specs.Sets.{permitted}
use Rattle.edition.specs.Rows.{formed_of}
use Rattle.rules.specs.Values.{judged}
use Rattle.nesting.specs.Nested.{Within, Nested}
use Rattle.nesting.specs.declared.Nesting.{Nesting}
use Rattle.nesting.specs.Decision.{told, witness_of, value_of}

-- each inner length is an outer one
abbrev pub Shorter : Row → Row → Type 0
Shorter i o = (n : ℕ) → permitted i.lengths n ≡ true → permitted o.lengths n ≡ true

-- whatever value of an inner length the inner rule takes, the outer takes
abbrev pub Wider : Row → Row → Type 0
Wider i o = (v : List ℕ) → permitted i.lengths (length v) ≡ true → judged i.rule v ≡ Ok tt → judged o.rule v ≡ Ok tt

-- a value of an inner length that the inner rule takes and the outer does not
pub record Against (i o : Row) (v : List ℕ) : Type 0 where
  pub permitted : permitted i.lengths (length v) ≡ true
  pub inner : judged i.rule v ≡ Ok tt
  pub outer : judged o.rule v ≡ Ok tt → ⊥

-- the first clause that fails of a row: a length that shows it, a value that shows it, or an object that only the outer requires
pub data Fails (i o : Row) : ℕ → Type 0 where
  a-length : (n : ℕ) → permitted i.lengths n ≡ true → permitted o.lengths n ≡ false → Fails i o 1
  a-value : Shorter i o → Against i o (value_of (witness_of i o)) → Fails i o 2
  asked : Shorter i o → Wider i o → o.required ≡ true → i.required ≡ false → Fails i o 3

-- the first row of which a clause fails, and the clause
pub data Apart : ℕ → List Row → List Row → ℕ → ℕ → Type 0 where
  here : {k c : ℕ} {i o : Row} {is os : List Row} → Fails i o c → Apart k (i ∷ is) (o ∷ os) k c
  later : {k j c : ℕ} {i o : Row} {is os : List Row} → Within i o → Apart (suc k) is os j c → Apart k (i ∷ is) (o ∷ os) j c

-- what an answer says of two editions
pub data Said (i o : Edition) (r : Nesting) : Type 0 where
  is-nested : Nested i o → r ≡ told 0 17 → Said i o r
  inner-bad : (formed_of i ≡ Well → ⊥) → r ≡ told 4 17 → Said i o r
  outer-bad : formed_of i ≡ Well → (formed_of o ≡ Well → ⊥) → r ≡ told 5 17 → Said i o r
  apart : (k c : ℕ) → formed_of i ≡ Well → formed_of o ≡ Well → Apart 0 i.rows o.rows k c → r ≡ told c k → Said i o r
