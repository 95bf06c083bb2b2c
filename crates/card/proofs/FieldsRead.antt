-- The template's length as it is read and as it is written. Assumes nothing.
use Prim.Native.Nat.{ℕ, suc, ◌+◌, ◌*◌, ◌≤◌}
use native.Mathlib.Omega.{arith}
use mathlib.Core.Path.{◌≡◌, refl, ◌∙◌, subst}
use mathlib.Core.Bool.{Bool, true, false, cond, ◌&&◌}
use mathlib.Core.List.{List, [], ◌∷◌, ◌++◌}
use lib.ListN.{length, drop, get_or}
use lib.Seq.{drop-drop, drop-cons, drop-append-add, drop-append_seam, get_or-append-add}
use lib.Dec.{leb, eqb}
use borrow.Author.Tests.{eqb-true, le-leb, lt-leb, leb-true, leb-false}
use Rattle.ground.proofs.Lists.{and_left, and_right}
use Rattle.card.specs.declared.LengthField.TheVariants.{One, Two, Other}
use Rattle.std.specs.Prelude.{Err}
use Rattle.lengths.specs.declared.FieldError.TheVariants as L
use Rattle.lengths.specs.Lengths.{length_field, read, length_read, length_told}
use Rattle.card.specs.Fields.{second_byte, length_at, field_told}
use Rattle.card.specs.Frame.{field_wrong, wrong_by, field_of, start_of}

-- the template's length as it stands on the card
abbrev pub size_of : List ℕ → ℕ
size_of s = (field_told (field_of s)).length

-- ---- a length that is written is read
record Read (l : ℕ) (bs : List ℕ) : Type 0 where
  right : field_wrong (length_at bs) ≡ 0
  size : (field_told (length_at bs)).length ≡ l
  used : (field_told (length_at bs)).used ≡ length (length_field l)

read_field : (l : ℕ) (rest : List ℕ) → 70 ≤ l → l ≤ 212 → Read l (length_field l ++ rest)
unfolding length_field field_wrong
read_field l rest lo hi = go (leb l 127) refl
  where
    go : (q : Bool) → leb l 127 ≡ q → Read l (length_field l ++ rest)
    go true p = rw p (record { right = rw (p, le-leb 70 l lo); size = rw p; used = rw p })
    go false p = rw (p, le-leb l 255 (omega arith)) (record { right = rw (le-leb 128 l (leb-false l 127 p), le-leb l 212 hi); size = refl; used = rw (p, le-leb l 255 (omega arith)) })

-- ---- a length that is read was written
record Back (bs : List ℕ) : Type 0 where
  lo : 70 ≤ (field_told (length_at bs)).length
  hi : (field_told (length_at bs)).length ≤ 212
  used : (field_told (length_at bs)).used ≡ length (length_field (field_told (length_at bs)).length)
  bytes : bs ≡ length_field (field_told (length_at bs)).length ++ drop (field_told (length_at bs)).used bs

passes : (q : Bool) (n : ℕ) → cond q 0 (suc n) ≡ 0 → q ≡ true
passes true n e = refl
passes false n e = absurd (omega arith)

back_one : (b : ℕ) (bs : List ℕ) → leb b 127 ≡ true → field_wrong (One b) ≡ 0 → Back (b ∷ bs)
unfolding length_field field_wrong
back_one b bs p h = record {
  lo = rw p (leb-true 70 b (passes (leb 70 b) 30 h));
  hi = rw p (omega (arith, leb-true b 127 p));
  used = rw (p, p);
  bytes = rw (p, p);
}

back_two : (n : ℕ) (bs : List ℕ) → field_wrong (Two n) ≡ 0 → Back (0x81 ∷ n ∷ bs)
unfolding length_field field_wrong
back_two n bs h =
    let both : (leb 128 n && leb n 212) ≡ true = passes (leb 128 n && leb n 212) 31 h in
    let lo' : 128 ≤ n = leb-true 128 n (and_left (leb 128 n) (leb n 212) both) in
    let p : leb n 127 ≡ false = lt-leb n 127 lo' in
    let hi' : n ≤ 212 = leb-true n 212 (and_right (leb 128 n) (leb n 212) both) in
    let q : leb n 255 ≡ true = le-leb n 255 (omega arith) in
    record { lo = omega arith; hi = hi'; used = rw (p, q); bytes = rw (p, q) }

back : (bs : List ℕ) → field_wrong (length_at bs) ≡ 0 → Back bs
unfolding field_wrong
back [] h = absurd (omega arith)
back (b ∷ bs) h = go (leb b 127) refl (eqb b 0x81) refl bs h
  where
    go : (q : Bool) → leb b 127 ≡ q → (m : Bool) → eqb b 0x81 ≡ m → (bs : List ℕ) → field_wrong (cond q (One b) (cond m (second_byte bs) (Other b))) ≡ 0 → Back (b ∷ bs)
    go true p m e bs h = back_one b bs p h
    go false p true e [] h = absurd (omega arith)
    go false p true e (n ∷ bs) h = rw (eqb-true b 0x81 e) (back_two n bs h)
    go false p false e bs h = absurd (omega arith)

-- ---- number 4 and its place, by the answer of the piece that reads lengths
pub wrong_by_length : (bs : List ℕ) → 3 ≤ length bs → field_wrong (length_at bs) ≡ wrong_by (length_told (length_read bs)) (get_or bs 0 0)
unfolding field_wrong length_read
wrong_by_length [] h = absurd (omega arith)
wrong_by_length (b ∷ []) h = absurd (omega arith)
wrong_by_length (b ∷ v ∷ []) h = absurd (omega arith)
wrong_by_length (b ∷ v ∷ w ∷ r) h = go (leb b 127) (eqb b 0x81) refl (eqb b 0x82) (leb v 127) refl (eqb v 0)
  where
    go : (p q : Bool) → eqb b 0x81 ≡ q → (t k : Bool) → leb v 127 ≡ k → (j : Bool)
        → field_wrong (cond p (One b) (cond q (Two v) (Other b)))
        ≡ wrong_by (length_told (cond p (read b 1) (cond q (cond k (Err L.Long) (read v 2)) (cond t (cond j (Err L.Long) (read (v * 256 + w) 3)) (Err L.Other))))) b
    go true q e t k f j = refl
    go false true e t true f j = rw (lt-leb 128 v (omega (arith, leb-true v 127 f)), e)
    go false true e t false f j = rw (le-leb 128 v (leb-false v 127 f))
    go false false e true k f true = rw e
    go false false e true k f false = rw e
    go false false e false k f j = rw e

-- ---- behind thirty bytes
pub beyond : (h ys : List ℕ) (i d : ℕ) → length h ≡ 30 → get_or (h ++ ys) (30 + i) d ≡ get_or ys i d
beyond h ys i d e = subst (λ (n : ℕ). get_or (h ++ ys) (n + i) d ≡ get_or ys i d) e (get_or-append-add h ys i d)

pub drop_beyond : (h ys : List ℕ) (i : ℕ) → length h ≡ 30 → drop (30 + i) (h ++ ys) ≡ drop i ys
drop_beyond h ys i e = subst (λ (n : ℕ). drop (n + i) (h ++ ys) ≡ drop i ys) e (drop-append-add h ys i)

pub record Field (s : List ℕ) (l : ℕ) (rest : List ℕ) : Type 0 where
  pub tagged : get_or s 30 0 ≡ 0x60
  pub right : field_wrong (field_of s) ≡ 0
  pub start : start_of s ≡ 31 + length (length_field l)
  pub size : size_of s ≡ l
  pub behind : drop (start_of s) s ≡ rest

pub field_read : (h : List ℕ) (l : ℕ) (rest : List ℕ) → length h ≡ 30 → 70 ≤ l → l ≤ 212 → Field (h ++ (0x60 ∷ (length_field l ++ rest))) l rest
unfolding start_of
field_read h l rest e lo hi =
    let at : drop 31 (h ++ (0x60 ∷ (length_field l ++ rest))) ≡ length_field l ++ rest = drop_beyond h (0x60 ∷ (length_field l ++ rest)) 1 e in
    let r : Read l (length_field l ++ rest) = read_field l rest lo hi in
    record {
      tagged = beyond h (0x60 ∷ (length_field l ++ rest)) 0 0 e;
      right = rw at r.right;
      start = rw at (omega (arith, r.used));
      size = rw (at, size_of) r.size;
      behind = rw (at, r.used, ← drop-drop (length (length_field l)) 31 (h ++ (0x60 ∷ (length_field l ++ rest))), at) (drop-append_seam (length_field l) rest);
    }

pub record FieldBack (s : List ℕ) : Type 0 where
  pub bytes : drop 30 s ≡ 0x60 ∷ (length_field (size_of s) ++ drop (start_of s) s)
  pub lo : 70 ≤ size_of s
  pub hi : size_of s ≤ 212
  pub start : start_of s ≡ 31 + length (length_field (size_of s))

pub field_back : (s : List ℕ) → length s ≡ 256 → get_or s 30 0 ≡ 0x60 → field_wrong (field_of s) ≡ 0 → FieldBack s
unfolding start_of
field_back s n t w =
    let b : Back (drop 31 s) = back (drop 31 s) w in
    let d : drop 30 s ≡ get_or s 30 0 ∷ drop 31 s = drop-cons s 30 0 (omega arith) in
    let behind : drop (field_told (field_of s)).used (drop 31 s) ≡ drop (start_of s) s = drop-drop (field_told (field_of s)).used 31 s in
    record {
      bytes = d ∙ cc b.bytes;
      lo = b.lo;
      hi = b.hi;
      start = omega (arith, b.used);
    }
