-- What a content must be, and when an image meets every rule.
use Rattle.std.specs.Prelude.{ℕ, ◌+◌, ◌≤◌, ◌≡◌, Bool, true, false, cond, ◌&&◌, ◌||◌, List, [], ◌∷◌, map, leb, eqb, length, drop, get_or, Ok, Err}
use Rattle.edition.specs.declared.Row.{Row}
use Rattle.edition.specs.declared.Edition.{Edition}
use Rattle.edition.specs.declared.Formed.TheVariants.{Well}
use Rattle.rules.specs.declared.Fault.TheVariants.{Outside, Breaks}
use Rattle.ground.specs.Lists.{leading}
use Rattle.edition.specs.Sets.{permitted}
use Rattle.rules.specs.Values.{Verdict, judged}
use Rattle.edition.specs.Rows.{formed_of}
use Rattle.card.specs.Content.{Content}
use Rattle.card.specs.Layout.{object_tags, objects_of, template_length, layout}

-- a row of an edition, with its tag
pub record Entry : Type 0 where
  pub tag : ℕ
  pub row : Row

abbrev pub entry_of : ℕ → Row → Entry
entry_of tag row = record { tag = tag; row = row }

unfoldable pub entries : List ℕ → List Row → List Entry
entries [] rs = []
entries (t ∷ ts) [] = []
entries (t ∷ ts) (r ∷ rs) = entry_of t r ∷ entries ts rs

-- the rows of the sixteen objects
abbrev pub object_rows : Edition → List Entry
object_rows e = entries object_tags e.rows

-- a row is met if its object is absent and not required, or has a length of the set and a value that the rule takes
abbrev pub RowMet : Row → List ℕ → Type 0
RowMet r [] = r.required ≡ false
RowMet r (b ∷ v) = (permitted r.lengths (length (b ∷ v)) ≡ true) × (judged r.rule (b ∷ v) ≡ Ok tt)

pub data AllMet : List Entry → List (List ℕ) → Type 0 where
  none_left : AllMet [] []
  one_more : {r : Entry} {v : List ℕ} {rs : List Entry} {vs : List (List ℕ)} → RowMet r.row v → AllMet rs vs → AllMet (r ∷ rs) (v ∷ vs)

-- what is amiss with a row's object, in the order in which it is told
pub data Fault : Type 0 where
  met : Fault
  missing : Fault
  length-out : Fault
  byte-out : ℕ → Fault
  value_out : Fault

abbrev pub of_verdict : Verdict → Fault
of_verdict (Ok u) = met
of_verdict (Err (Outside i)) = byte-out i
of_verdict (Err Breaks) = value_out

unfoldable pub fault : Row → List ℕ → Fault
fault r [] = cond r.required missing met
fault r (b ∷ v) = cond (permitted r.lengths (length (b ∷ v))) (of_verdict (judged r.rule (b ∷ v))) length-out

-- address 0 is '82', '92' or 'A2'
unfoldable pub first_allowed : ℕ → Bool
first_allowed first = eqb first 0x82 || eqb first 0x92 || eqb first 0xA2

-- the last byte is '00'; with '82' at address 0 also 'FF'
unfoldable pub last_allowed : ℕ → ℕ → Bool
last_allowed first last = eqb last 0x00 || (eqb first 0x82 && eqb last 0xFF)

-- of three lengths, how many are of objects that are present
abbrev pub present : ℕ → ℕ
present n = cond (eqb n 0) 0 1

abbrev pub count_present : ℕ → ℕ → ℕ → ℕ
count_present a b c = present a + present b + present c

-- two together at most 27, three at most 26
unfoldable pub sum_fits : Bool → ℕ → ℕ → ℕ → Bool
sum_fits alone a b c =
    cond (leb (count_present a b c) 1) alone
    (cond (eqb (count_present a b c) 2) (leb (a + b + c) 27) (leb (a + b + c) 26))

-- of 84, 85, 86, by the lengths of the sixteen values; one alone: 84 or 86 at most 15 bytes and 85 at most 28
unfoldable pub names_fit : List ℕ → Bool
names_fit ns = sum_fits (leb (get_or ns 6 0) 15 && leb (get_or ns 7 0) 28 && leb (get_or ns 8 0) 15) (get_or ns 6 0) (get_or ns 7 0) (get_or ns 8 0)

-- of 8A, 8B, 8C
unfoldable pub town_fits : List ℕ → Bool
town_fits ns = sum_fits true (get_or ns 12 0) (get_or ns 13 0) (get_or ns 14 0)

-- a content that an edition allows
pub record Allowed (e : Edition) (c : Content) : Type 0 where
  pub formed : formed_of e ≡ Well
  pub rows : AllMet (object_rows e) c.values
  pub names : names_fit (map length c.values) ≡ true
  pub town : town_fits (map length c.values) ≡ true
  pub least : 70 ≤ template_length (objects_of c)
  pub most : template_length (objects_of c) ≤ 212
  pub first : first_allowed c.first ≡ true
  pub last : last_allowed c.first c.last ≡ true
  pub free : length c.free ≡ 12

-- an image meets every rule: some content that the edition allows has it as its layout
pub record Meets (e : Edition) (image : List ℕ) : Type 0 where
  pub content : Content
  pub allowed : Allowed e content
  pub drawn : layout content ≡ image

-- the first object that is present, of those from number k on
abbrev pub is_zero : ℕ → Bool
is_zero n = eqb n 0

abbrev pub first_present : ℕ → List ℕ → ℕ
first_present k ns = k + leading is_zero (drop k ns)
