-- A line is what lies between two line feeds; where a byte stands first. Assumes nothing.
use Prim.Native.Nat.{ℕ, suc, ◌+◌, ◌-◌, ◌≤◌, ◌<◌}
use native.Mathlib.Omega.{arith}
use borrow.Author.Tests.{eq-eqb, ne_eqb}
use mathlib.Core.Path.{◌≡◌, refl, ◌∙◌}
use mathlib.Core.Bool.{Bool, true, false, not, cond}
use mathlib.Core.List.{List, [], ◌∷◌}
use lib.Dec.{eqb}
use lib.ListN.{length, take, drop, length-drop, drop_of_length-le}
use lib.Seq.{drop-drop}
use Rattle.ground.specs.Lists.{leading}
use Rattle.card_lines.specs.Lines.{other, feed_from, in_front, lines}

pub leading_past : (f : ℕ → Bool) (xs : List ℕ) (i : ℕ) → length xs ≤ i → i + leading f (drop i xs) ≡ i
unfolding leading
leading_past f xs i h = rw (drop_of_length-le xs h) (omega arith)

pub is_other : (byte x : ℕ) → (x ≡ byte → ⊥) → other byte x ≡ true
is_other byte x n = rw (ne_eqb x byte n)

pub is_byte : (byte x : ℕ) → x ≡ byte → other byte x ≡ false
is_byte byte x e = rw (eq-eqb x byte e)

-- ---- the first line of a text that is not empty
line_step : (b : ℕ) (bs : List ℕ) → lines bs ≡ take (leading (other 0x0A) bs) bs ∷ lines (drop (suc (leading (other 0x0A) bs)) bs)
    → lines (b ∷ bs) ≡ take (leading (other 0x0A) (b ∷ bs)) (b ∷ bs) ∷ lines (drop (suc (leading (other 0x0A) (b ∷ bs))) (b ∷ bs))
unfolding lines leading
line_step b bs ih = go (eqb b 0x0A)
  where
    go : (q : Bool) → cond q ([] ∷ lines bs) (in_front b (lines bs)) ≡ take (cond (not q) (suc (leading (other 0x0A) bs)) 0) (b ∷ bs) ∷ lines (drop (suc (cond (not q) (suc (leading (other 0x0A) bs)) 0)) (b ∷ bs))
    go true = refl
    go false = rw ih

first_line : (b : ℕ) (bs : List ℕ) → lines (b ∷ bs) ≡ take (leading (other 0x0A) (b ∷ bs)) (b ∷ bs) ∷ lines (drop (suc (leading (other 0x0A) (b ∷ bs))) (b ∷ bs))
unfolding lines leading
first_line b [] = go (eqb b 0x0A)
  where
    go : (q : Bool) → cond q ([] ∷ []) ((b ∷ []) ∷ []) ≡ take (cond (not q) 1 0) (b ∷ []) ∷ lines (drop (suc (cond (not q) 1 0)) (b ∷ []))
    go true = refl
    go false = refl
first_line b (d ∷ bs) = line_step b (d ∷ bs) (first_line d bs)

-- the lines from `at` on, of which the first ends at e
pub line_next : (text : List ℕ) (at e : ℕ) → at < length text → e ≡ feed_from text at → lines (drop at text) ≡ take (e - at) (drop at text) ∷ lines (drop (e + 1) text)
line_next text at e h is =
    let n : e - at ≡ leading (other 0x0A) (drop at text) = omega arith in
    let m : at + suc (leading (other 0x0A) (drop at text)) ≡ e + 1 = omega arith in
    whole (drop at text) (rw (length-drop) (omega arith)) ∙ rw (n, drop-drop, m)
  where
    whole : (xs : List ℕ) → 0 < length xs → lines xs ≡ take (leading (other 0x0A) xs) xs ∷ lines (drop (suc (leading (other 0x0A) xs)) xs)
    whole [] l = absurd (omega arith)
    whole (b ∷ bs) l = first_line b bs

pub lines_over : (text : List ℕ) (at : ℕ) → length text ≤ at → lines (drop at text) ≡ []
unfolding lines
lines_over text at h = rw (drop_of_length-le text h)
