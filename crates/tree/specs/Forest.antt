-- A forest of objects, its bytes, its listing and its plain values: what the listing is measured by.
use Rattle.std.specs.Prelude.{◌≡◌, ℕ, suc, ◌+◌, ◌≤◌, ◌<◌, true, false, List, [], ◌∷◌, ◌++◌, length}
use Rattle.lengths.specs.Lengths.{length_field}
use Rattle.tree.specs.Heads.{bad_tag, is_list}
use Rattle.tree.specs.Listing.{Entry, entry}

-- objects one after the other: a plain one has a tag and a value, a template a tag and a forest again
pub data Forest : Type 0 where
  done : Forest
  plain : ℕ → List ℕ → Forest → Forest
  template : ℕ → Forest → Forest → Forest

-- the bytes: a tag, the value's length, the value
unfoldable pub encode : Forest → List ℕ
encode done = []
encode (plain t v r) = t ∷ (length_field (length v) ++ (v ++ encode r))
encode (template t i r) = t ∷ (length_field (length (encode i)) ++ (encode i ++ encode r))

-- how far behind its tag the value of n bytes starts
abbrev pub front : ℕ → ℕ
front n = length (length_field n) + 1

-- the listing of a forest that stands at the address `at`, d deep: an object, what it holds, what follows it
unfoldable pub entries : ℕ → ℕ → Forest → List Entry
entries d at done = []
entries d at (plain t v r) = entry t d at (length v) ∷ entries d (at + (front (length v) + length v)) r
entries d at (template t i r) =
    entry t d at (length (encode i))
    ∷ (entries (suc d) (at + front (length (encode i))) i ++ entries d (at + (front (length (encode i)) + length (encode i))) r)

-- what an object may be: a good tag, at most six deep, a length that a length field holds
pub record Fine (d t n : ℕ) : Type 0 where
  pub tag : bad_tag t ≡ false
  pub deep : d ≤ 6
  pub size : n < 65536

-- a template's tag has bit '20', a plain object's has not
unfoldable pub Valid : ℕ → Forest → Type 0
Valid d done = Unit {0}
Valid d (plain t v r) = (Fine d t (length v) × (is_list t ≡ false)) × Valid d r
Valid d (template t i r) = (Fine d t (length (encode i)) × (is_list t ≡ true)) × (Valid (suc d) i × Valid d r)

-- the plain values, one after the other
unfoldable pub values : Forest → List ℕ
values done = []
values (plain t v r) = v ++ values r
values (template t i r) = values i ++ values r
