-- The table of places of an image, made from its answer: where each of the sixteen values starts, and its length.
use Rattle.std.specs.Prelude.{ℕ, zero, suc, ◌+◌, Bool, true, false, cond, List, [], ◌∷◌, map, eqb, length, get_or, replicate}
use Rattle.edition.specs.declared.Edition.{Edition}
use Rattle.card.specs.declared.Refusal.{Refusal}
use Rattle.card.specs.declared.Places.{Places}
use Rattle.card.specs.Refusals.{none}
use Rattle.card.specs.Layout.{tag_at}
use Rattle.card.specs.Frame.{start_of}
use Rattle.card.specs.Reading.{Answer, accepted, refused, answer}

abbrev pub is_absent : List ℕ → Bool
is_absent [] = true
is_absent (b ∷ v) = false

-- value k starts behind the bytes of the objects before it, its tag and its length; 0 where it is absent
unfoldable pub start_at : ℕ → List (List ℕ) → ℕ → ℕ
start_at at vs k = cond (is_absent (get_or vs k [])) 0 (tag_at at vs k + 2)

-- n of them, from number k on
unfoldable pub starts_from : ℕ → List (List ℕ) → ℕ → ℕ → List ℕ
starts_from at vs k zero = []
starts_from at vs k (suc n) = start_at at vs k ∷ starts_from at vs (suc k) n

unfoldable pub no_places : Refusal → Places
no_places x = record { refusal = x; starts = replicate 16 0; lengths = replicate 16 0 }

-- a refusal, or else the places of the values, whose objects begin at `at`
unfoldable pub placed : Refusal → ℕ → List (List ℕ) → Places
placed x at vs = cond (eqb x.number 0) (record { refusal = none; starts = starts_from at vs 0 16; lengths = map length vs }) (no_places x)

unfoldable pub places_of : ℕ → Answer → Places
places_of at (accepted c) = placed none at c.values
places_of at (refused x) = no_places x

abbrev pub places : Edition → List ℕ → Places
places e s = places_of (start_of s) (answer e s)
