-- What is said of a listing: whose forest it is, its order, its first fault, and the plain values that it finds.
use Rattle.std.specs.Prelude.{◌≡◌, ℕ, suc, ◌+◌, ◌≤◌, ◌<◌, cond, List, [], ◌∷◌, ◌++◌, drop, take, get_or}
use Rattle.tree.specs.Heads.{is_list}
use Rattle.tree.specs.Listing.{Entry, entry, Out, took, refused}
use Rattle.tree.specs.Forest.{Forest, front, encode, entries, Valid}
use Rattle.tree.specs.Faults.{Fault, Before}

-- every number is below m: 256 of bytes, 65,536 of words
abbrev pub Below : ℕ → List ℕ → Type 0
Below m s = (i : ℕ) → get_or s i 0 < m

-- the objects of s, which stands at the address `at`, d deep, are those of a forest whose bytes are s
pub record Tree (d at : ℕ) (s : List ℕ) (es : List Entry) : Type 0 where
  pub forest : Forest
  pub valid : Valid d forest
  pub bytes : encode forest ≡ s
  pub list : entries d at forest ≡ es

-- the addresses rise from lo on and stay below hi: each object once
unfoldable pub Span : ℕ → ℕ → List Entry → Type 0
Span lo hi [] = lo ≤ hi
Span lo hi (entry t d a n ∷ es) = (lo ≤ a) × Span (suc a) hi es

-- a refusal is a fault, and the first; an answer leaves no fault
abbrev pub Judged : ℕ → ℕ → List ℕ → Out → Type 0
Judged d at s (took es u) = (y q : ℕ) → Fault d at s y q → ⊥
Judged d at s (refused x p) = Fault d at s x p × ((y q : ℕ) → Fault d at s y q → Before x p y q)

-- the objects of an answer, and the plain values that they have in the bytes b
abbrev pub entries_of : Out → List Entry
entries_of (took es u) = es
entries_of (refused x p) = []

unfoldable pub plain_of : List ℕ → List Entry → List ℕ
plain_of b [] = []
plain_of b (entry t d a n ∷ es) = cond (is_list t) [] (take n (drop (a + front n) b)) ++ plain_of b es
