-- Each element of one list or of another, by its name: how many, and which. Assumes nothing.
use Prim.Native.Nat.{ℕ, zero, suc, ◌<◌}
use native.Mathlib.Omega.{arith}
use mathlib.Core.Path.{refl, ap, ◌≡◌}
use mathlib.Core.Bool.{Bool, true, false, cond}
use mathlib.Core.List.{List, [], map, ◌∷◌}
use lib.ListN.{length, get_or}
use Rattle.rebuilding.specs.Rebuilding.{mended}

module _ {A : Type 0} (listed : ℕ → Bool) where
  pub mended_length : (ns : List ℕ) (vs ws : List A) → length vs ≡ length ns → length ws ≡ length ns → length (mended listed ns vs ws) ≡ length ns
  unfolding mended
  mended_length [] vs ws m n = refl
  mended_length (k ∷ ns) [] ws m n = absurd (omega arith)
  mended_length (k ∷ ns) (v ∷ vs) [] m n = absurd (omega arith)
  mended_length (k ∷ ns) (v ∷ vs) (w ∷ ws) m n = ap suc (mended_length ns vs ws (omega arith) (omega arith))

  pub mended_at : (ns : List ℕ) (vs ws : List A) (d : A) (i : ℕ) → length vs ≡ length ns → length ws ≡ length ns → i < length ns
      → get_or (mended listed ns vs ws) i d ≡ cond (listed (get_or ns i 0)) (get_or ws i d) (get_or vs i d)
  unfolding mended
  mended_at [] vs ws d i m n h = absurd (omega arith)
  mended_at (k ∷ ns) [] ws d i m n h = absurd (omega arith)
  mended_at (k ∷ ns) (v ∷ vs) [] d i m n h = absurd (omega arith)
  mended_at (k ∷ ns) (v ∷ vs) (w ∷ ws) d zero m n h = refl
  mended_at (k ∷ ns) (v ∷ vs) (w ∷ ws) d (suc i) m n h = mended_at ns vs ws d i (omega arith) (omega arith) (omega arith)

-- what is made of each element chosen
pub mended_map : {A B : Type 0} (f : A → B) (listed : ℕ → Bool) (ns : List ℕ) (vs ws : List A) → map f (mended listed ns vs ws) ≡ mended listed ns (map f vs) (map f ws)
unfolding mended
mended_map f listed [] vs ws = refl
mended_map f listed (n ∷ ns) [] ws = refl
mended_map f listed (n ∷ ns) (v ∷ vs) [] = refl
mended_map f listed (n ∷ ns) (v ∷ vs) (w ∷ ws) = rw (mended_map f listed ns vs ws) (go (listed n))
  where
    go : (q : Bool) → f (cond q w v) ∷ mended listed ns (map f vs) (map f ws) ≡ cond q (f w) (f v) ∷ mended listed ns (map f vs) (map f ws)
    go true = refl
    go false = refl

-- only what is listed is looked at
pub mended_only : {A : Type 0} (listed : ℕ → Bool) (d : A) (ns : List ℕ) (vs ws us : List A) → length vs ≡ length ns → length ws ≡ length ns → length us ≡ length ns
    → ((k : ℕ) → k < length ns → listed (get_or ns k 0) ≡ true → get_or ws k d ≡ get_or us k d) → mended listed ns vs ws ≡ mended listed ns vs us
unfolding mended
mended_only listed d [] vs ws us m n o h = refl
mended_only listed d (k ∷ ns) [] ws us m n o h = absurd (omega arith)
mended_only listed d (k ∷ ns) (v ∷ vs) [] us m n o h = absurd (omega arith)
mended_only listed d (k ∷ ns) (v ∷ vs) (w ∷ ws) [] m n o h = absurd (omega arith)
mended_only listed d (k ∷ ns) (v ∷ vs) (w ∷ ws) (u ∷ us) m n o h =
    rw (mended_only listed d ns vs ws us (omega arith) (omega arith) (omega arith) (λ j l. h (suc j) (omega arith))) (go (listed k) (h 0 (omega arith)))
  where
    go : (q : Bool) → (q ≡ true → w ≡ u) → cond q w v ∷ mended listed ns vs us ≡ cond q u v ∷ mended listed ns vs us
    go true e = rw (e refl)
    go false e = refl
