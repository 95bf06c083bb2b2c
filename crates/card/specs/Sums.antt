-- 11: the names and the town are too long together, in a card or in a record.
use Rattle.std.specs.Prelude.{ℕ, ◌-◌, List, get_or}
use Rattle.edition.specs.Rows.{tag_of}
use Rattle.card.specs.declared.Refusal.{Refusal}
use Rattle.card.specs.Refusals.{refuse, none, gate}
use Rattle.card.specs.Rules.{names_fit, town_fits, first_present}

-- the first object present of the group that begins with row k; `place` says where an object's tag stands
abbrev pub group_refusal : (ℕ → ℕ) → List ℕ → ℕ → Refusal
group_refusal place ns k = refuse 11 (place (first_present k ns)) (tag_of (first_present k ns))

-- by the lengths of the sixteen values
unfoldable pub sums_refusal : (ℕ → ℕ) → List ℕ → Refusal
sums_refusal place ns = gate (names_fit ns) (group_refusal place ns 6) (gate (town_fits ns) (group_refusal place ns 12) none)

-- a tag stands two bytes before its value; the objects of a record have no place
abbrev pub tag_before : List ℕ → ℕ → ℕ
tag_before starts i = get_or starts i 0 - 2

abbrev pub nowhere : ℕ → ℕ
nowhere i = 0
