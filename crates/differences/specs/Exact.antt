-- What a list of differences has to say, apart from how it is found: an entry exactly where the two differ, once, in order.
use Rattle.std.specs.Prelude.{ℕ, ◌<◌, ◌≡◌, List, [], ◌∷◌, ◌++◌, length, take, get_or}
use Rattle.card.specs.Content.{Content}
use Rattle.card.specs.Layout.{object_tags}
use Rattle.differences.specs.Differences.{Difference, absent-in-first, absent-in-second, lengths_differ, index-differs, byte-differs, addresses, bytes_of}

-- what an entry says of the two values of its tag
pub data Tells (tag : ℕ) : List ℕ → List ℕ → Difference → Type 0 where
  not-in-first : {c : ℕ} {w : List ℕ} → Tells tag [] (c ∷ w) (absent-in-first tag)
  not-in-second : {b : ℕ} {v : List ℕ} → Tells tag (b ∷ v) [] (absent-in-second tag)
  other_length : {b c : ℕ} {v w : List ℕ} → (length (b ∷ v) ≡ length (c ∷ w) → ⊥) → Tells tag (b ∷ v) (c ∷ w) (lengths_differ tag)
  first-index : {v w : List ℕ} {i : ℕ} → length v ≡ length w → i < length v → take i v ≡ take i w → (get_or v i 0 ≡ get_or w i 0 → ⊥) → Tells tag v w (index-differs tag i)

-- .. and of the two bytes of its address
pub data TellsByte (address : ℕ) : ℕ → ℕ → Difference → Type 0 where
  other_byte : {b c : ℕ} → TellsByte address b c (byte-differs address)

-- along the names: one entry for a pair that differs, which tells it, and none for a pair that is the same
pub data Exactly {A : Type 0} (tells : ℕ → A → A → Difference → Type 0) : List ℕ → List A → List A → List Difference → Type 0 where
  no_more : Exactly tells [] [] [] []
  same : {n : ℕ} {v : A} {ns : List ℕ} {vs ws : List A} {l : List Difference} → Exactly tells ns vs ws l → Exactly tells (n ∷ ns) (v ∷ vs) (v ∷ ws) l
  other : {n : ℕ} {v w : A} {x : Difference} {ns : List ℕ} {vs ws : List A} {l : List Difference}
      → (v ≡ w → ⊥) → tells n v w x → Exactly tells ns vs ws l → Exactly tells (n ∷ ns) (v ∷ vs) (w ∷ ws) (x ∷ l)

-- the sixteen objects, then the fourteen addresses
pub record Exact (c d : Content) (l : List Difference) : Type 0 where
  pub objects : List Difference
  pub bytes : List Difference
  pub whole : l ≡ objects ++ bytes
  pub by_tag : Exactly Tells object_tags c.values d.values objects
  pub by_address : Exactly TellsByte addresses (bytes_of c) (bytes_of d) bytes
