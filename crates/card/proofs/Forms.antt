-- The card's forms of a length field: by the bytes that stand there, and by the answer of the piece that reads lengths. Assumes nothing.
use Prim.Native.Nat.{ℕ, ◌+◌, ◌*◌, ◌<◌}
use native.Mathlib.Omega.{arith}
use borrow.Author.Tests.{eqb-true, eq-eqb, ne_eqb}
use mathlib.Core.Bool.{Bool, true, false, cond}
use lib.Dec.{leb, eqb}
use mathlib.Core.Path.{◌≡◌, refl, ap}
use mathlib.Core.List.{List, [], ◌∷◌}
use lib.ListN.{length, get_or}
use Rattle.std.specs.Prelude.{Err}
use Rattle.lengths.specs.declared.FieldError.TheVariants.{Long}
use Rattle.lengths.specs.declared.FieldError.TheVariants as L
use Rattle.lengths.specs.declared.ToldLength.{ToldLength}
use Rattle.lengths.specs.Lengths.{read, behind81, behind82, length_read, length_told}
use Rattle.card.specs.declared.LengthField.{LengthField}
use Rattle.card.specs.declared.LengthField.TheVariants.{One, Two, Other, Cut}
use Rattle.card.specs.Fields.{second_byte, length_at, ToldField, field_told, unread, taken}

pub unread_none : (bs : List ℕ) → length bs < 1 → unread bs ≡ Cut
unread_none [] n = refl
unread_none (b ∷ bs) n = absurd (omega arith)

pub unread_other : (bs : List ℕ) → 0 < length bs → (get_or bs 0 0 ≡ 0x81 → ⊥) → unread bs ≡ Other (get_or bs 0 0)
unread_other [] n o = absurd (omega arith)
unread_other (b ∷ bs) n o = rw (ne_eqb b 0x81 o)

pub unread_cut : (bs : List ℕ) → 0 < length bs → length bs < 2 → get_or bs 0 0 ≡ 0x81 → unread bs ≡ Cut
unread_cut [] n m h = absurd (omega arith)
unread_cut (b ∷ []) n m h = rw h
unread_cut (b ∷ x ∷ bs) n m h = absurd (omega arith)

pub unread_two : (bs : List ℕ) → 1 < length bs → get_or bs 0 0 ≡ 0x81 → unread bs ≡ Two (get_or bs 1 0)
unread_two [] n h = absurd (omega arith)
unread_two (b ∷ []) n h = absurd (omega arith)
unread_two (b ∷ x ∷ bs) n h = rw h

pub taken_one : (t : ToldLength) (bs : List ℕ) → t.used ≡ 1 → taken t bs ≡ One t.length
taken_one t bs h = rw (eq-eqb t.used 1 h)

pub taken_two : (t : ToldLength) (bs : List ℕ) → t.used ≡ 2 → taken t bs ≡ Two t.length
taken_two t bs h = rw (ne_eqb t.used 1 (omega arith), eq-eqb t.used 2 h)

pub taken_else : (t : ToldLength) (bs : List ℕ) → (t.used ≡ 1 → ⊥) → (t.used ≡ 2 → ⊥) → taken t bs ≡ unread bs
taken_else t bs h k = rw (ne_eqb t.used 1 h, ne_eqb t.used 2 k)

-- ---- what a card takes of a length field is what document 01 says of the bytes, whatever they are
taken81 : (b : ℕ) (bs : List ℕ) → b ≡ 0x81 → taken (length_told (behind81 bs)) (b ∷ bs) ≡ second_byte bs
taken81 b [] e = rw e
taken81 b (n ∷ bs) e = go (leb n 127)
  where
    go : (p : Bool) → taken (length_told (cond p (Err Long) (read n 2))) (b ∷ n ∷ bs) ≡ Two n
    go true = rw e
    go false = refl

taken82 : (b : ℕ) (bs : List ℕ) → b ≡ 0x82 → taken (length_told (behind82 bs)) (b ∷ bs) ≡ Other b
taken82 b [] e = rw e
taken82 b (x ∷ []) e = rw e
taken82 b (x ∷ y ∷ bs) e = go (eqb x 0)
  where
    go : (p : Bool) → taken (length_told (cond p (Err Long) (read (x * 256 + y) 3))) (b ∷ x ∷ y ∷ bs) ≡ Other b
    go true = rw e
    go false = rw e

pub by_taken : (bs : List ℕ) → taken (length_told (length_read bs)) bs ≡ length_at bs
unfolding length_read
by_taken [] = refl
by_taken (b ∷ bs) = go (leb b 127) refl (eqb b 0x81) refl (eqb b 0x82) refl
  where
    go : (p : Bool) → leb b 127 ≡ p → (q : Bool) → eqb b 0x81 ≡ q → (t : Bool) → eqb b 0x82 ≡ t
        → taken (length_told (cond p (read b 1) (cond q (behind81 bs) (cond t (behind82 bs) (Err L.Other))))) (b ∷ bs) ≡ cond p (One b) (cond q (second_byte bs) (Other b))
    go true a q e t f = refl
    go false a true e t f = taken81 b bs (eqb-true b 0x81 e)
    go false a false e true f = taken82 b bs (eqb-true b 0x82 f)
    go false a false e false f = rw e

-- no two forms are told alike
pub told_apart : (a b : LengthField) → field_told a ≡ field_told b → a ≡ b
told_apart a b e = go a b (ap (λ (t : ToldField). t.number) e) (ap (λ (t : ToldField). t.length) e) (ap (λ (t : ToldField). t.used) e)
  where
    go : (a b : LengthField) → (field_told a).number ≡ (field_told b).number → (field_told a).length ≡ (field_told b).length → (field_told a).used ≡ (field_told b).used → a ≡ b
    go (One n) (One m) e l u = ap One l
    go (One n) (Two m) e l u = absurd (omega arith)
    go (One n) (Other m) e l u = absurd (omega arith)
    go (One n) Cut e l u = absurd (omega arith)
    go (Two n) (One m) e l u = absurd (omega arith)
    go (Two n) (Two m) e l u = ap Two l
    go (Two n) (Other m) e l u = absurd (omega arith)
    go (Two n) Cut e l u = absurd (omega arith)
    go (Other n) (One m) e l u = absurd (omega arith)
    go (Other n) (Two m) e l u = absurd (omega arith)
    go (Other n) (Other m) e l u = ap Other l
    go (Other n) Cut e l u = absurd (omega arith)
    go Cut (One m) e l u = absurd (omega arith)
    go Cut (Two m) e l u = absurd (omega arith)
    go Cut (Other m) e l u = absurd (omega arith)
    go Cut Cut e l u = refl
