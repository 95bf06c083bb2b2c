-- The second card, rebuilt from the first and from what the second has at the listed objects and addresses.
use Rattle.std.specs.Prelude.{ℕ, ◌/◌, ◌%◌, ◌<◌, ◌≡◌, Bool, true, cond, List, [], ◌∷◌, map, eqb, length, get_or}
use Rattle.ground.specs.Lists.{among}
use Rattle.edition.specs.declared.Edition.{Edition}
use Rattle.card.specs.declared.Record.{Record}
use Rattle.card.specs.declared.Refusal.{Refusal}
use Rattle.card.specs.Content.{Content, content_of}
use Rattle.card.specs.Refusals.{or_else, size_refusal}
use Rattle.card.specs.Layout.{object_tags, layout}
use Rattle.card.specs.Reading.{reading}
use Rattle.card.specs.Refusing.{write_refusal}
use Rattle.differences.specs.Differences.{free_addresses}
use Rattle.differences.specs.Answers.{word}

-- a list of words names the object of a tag, or an address
abbrev pub tag_in : ℕ → ℕ
tag_in entry = entry / 256 % 256

unfoldable pub names_tag : List ℕ → ℕ → Bool
names_tag l tag = among tag (map tag_in l)

unfoldable pub names_address : List ℕ → ℕ → Bool
names_address l address = among (word 5 0 address) l

-- each element of the first list, or the second's where its name is listed
unfoldable pub mended : {A : Type 0} → (ℕ → Bool) → List ℕ → List A → List A → List A
mended listed [] vs ws = []
mended listed (n ∷ ns) [] ws = []
mended listed (n ∷ ns) (v ∷ vs) [] = []
mended listed (n ∷ ns) (v ∷ vs) (w ∷ ws) = cond (listed n) w v ∷ mended listed ns vs ws

unfoldable pub rebuilt : List ℕ → Content → Content → Content
rebuilt l c d = record {
  first = cond (names_address l 0) d.first c.first;
  free = mended (names_address l) free_addresses c.free d.free;
  last = cond (names_address l 255) d.last c.last;
  values = mended (names_tag l) object_tags c.values d.values;
}

-- x has what d has at the listed objects and addresses; elsewhere it may have anything
pub record Supplies (l : List ℕ) (x d : Content) : Type 0 where
  pub values : (k : ℕ) → k < 16 → names_tag l (get_or object_tags k 0) ≡ true → get_or x.values k [] ≡ get_or d.values k []
  pub first : names_address l 0 ≡ true → x.first ≡ d.first
  pub free : (k : ℕ) → k < 12 → names_address l (get_or free_addresses k 0) ≡ true → get_or x.free k 0 ≡ get_or d.free k 0
  pub last : names_address l 255 ≡ true → x.last ≡ d.last

abbrev pub rebuilt_from : Edition → List ℕ → List ℕ → Record → Content
rebuilt_from e s l r = rebuilt l (content_of (reading e s).content) (content_of r)

-- 20 for a room of n bytes, then the first image's own refusal, then writing's of the rebuilt record, which has the edition's number
unfoldable pub rebuild_refusal : Edition → List ℕ → List ℕ → Record → ℕ → Refusal
rebuild_refusal e s l r n = or_else (size_refusal 20 n) (or_else (reading e s).refusal (write_refusal e e.number (rebuilt_from e s l r) n))

-- a refusal leaves the room as it is
unfoldable pub rebuild_room : Edition → List ℕ → List ℕ → Record → List ℕ → List ℕ
rebuild_room e s l r room = cond (eqb (rebuild_refusal e s l r (length room)).number 0) (layout (rebuilt_from e s l r)) room
