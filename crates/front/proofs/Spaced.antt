-- Names with single blanks between them, fields with blanks behind them, and how the lines are made of runs. Assumes nothing.
use mathlib.Core.Path.{◌≡◌, refl, sym, ap, ◌∙◌}
use mathlib.Core.Bool.{Bool, true, false, ◌||◌}
use mathlib.Core.List.{List, [], ◌∷◌, ◌++◌, append-nil, append_assoc}
use Prim.Native.Nat.{ℕ, zero, suc, ◌+◌, ◌-◌, ◌≤◌}
use native.Mathlib.Omega.{arith}
use borrow.Author.Tests.{eqb-true, eqb-false, leb-true}
use lib.Dec.{eqb}
use lib.ListN.{length, get_or, replicate, length-append, length-replicate, replicate-append-replicate}
use Rattle.ground.proofs.Lists.{true_false}
use Rattle.ground.specs.Pieces.{joined}
use Rattle.ground.specs.Rooms.{Put}
use Rattle.ground.proofs.Stores.{sets_whole}
use Rattle.card.specs.declared.Record.{Record}
use Rattle.card.specs.Content.{Content, value_of, content_of, no_object}
use Rattle.front.proofs.Values.{value_at_lem}
use Rattle.front.specs.Lines.{value, addition_sign, status_shown, spaced, forenames, on_one_line, first_of, second_of, field, name_line, family_line, number_line, lines_of, end_to_end}
use Rattle.front.specs.Placing.{behind, placed, state_put, numbers_put}

abbrev pub blanks : ℕ → List ℕ
blanks n = replicate n 0x20

pub field_long : (n : ℕ) (v : List ℕ) → length v ≤ n → length (field n v) ≡ n
unfolding field
field_long n v h = simp (length-append, length-replicate) (omega arith)

-- ---- a part behind names
pub spaced_behind : (a v : List ℕ) → spaced a v ≡ a ++ behind (length a) v
unfolding spaced behind
spaced_behind [] [] = refl
spaced_behind [] (y ∷ b) = refl
spaced_behind (x ∷ a) [] = sym (append-nil (x ∷ a))
spaced_behind (x ∷ a) (y ∷ b) = refl

pub spaced_long : (a v : List ℕ) → length (spaced a v) ≡ length a + length (behind (length a) v)
spaced_long a v = ap length (spaced_behind a v) ∙ length-append a (behind (length a) v)

-- by the test whether names and part are both there
pub behind_alone : (n k : ℕ) (v : List ℕ) → length v ≡ k → (eqb n 0 || eqb k 0) ≡ true → behind n v ≡ v
unfolding behind
behind_alone zero k v l e = refl
behind_alone (suc n) k [] l e = refl
behind_alone (suc n) k (y ∷ b) l e = absurd (go (eqb (suc n) 0) refl (eqb k 0) refl e)
  where
    go : (p : Bool) → eqb (suc n) 0 ≡ p → (q : Bool) → eqb k 0 ≡ q → (p || q) ≡ true → ⊥
    go true ep q eq z = absurd (omega (arith, eqb-true (suc n) 0 ep))
    go false ep true eq z = absurd (omega (arith, eqb-true k 0 eq))
    go false ep false eq z = true_false z refl

pub behind_blank : (n k : ℕ) (v : List ℕ) → length v ≡ k → (eqb n 0 || eqb k 0) ≡ false → behind n v ≡ 0x20 ∷ v
unfolding behind
behind_blank zero k v l e = absurd (true_false refl e)
behind_blank (suc n) k [] l e = absurd (go (eqb (suc n) 0) (eqb k 0) refl e)
  where
    go : (p q : Bool) → eqb k 0 ≡ q → (p || q) ≡ false → ⊥
    go true q eq z = true_false refl z
    go false true eq z = true_false refl z
    go false false eq z = eqb-false k 0 eq (sym l)
behind_blank (suc n) k (y ∷ b) l e = refl

-- a part is no longer than what is put for it
pub behind_more : (n : ℕ) (v : List ℕ) → length v ≤ length (behind n v)
unfolding behind
behind_more zero v = omega arith
behind_more (suc n) [] = omega arith
behind_more (suc n) (y ∷ b) = omega arith

-- ---- the two name lines

module _ (names family : List ℕ) where
  pub one_line : on_one_line names family ≡ true → (k : ℕ) → k + length (spaced names family) ≡ 56
      → spaced names family ++ blanks k ≡ field 28 (first_of names family) ++ placed 28 (second_of names family)
  unfolding first_of second_of field placed
  one_line e k h =
      let n = leb-true (length (spaced names family)) 28 e in
      let i : ℕ = 28 - length (spaced names family) in
      let sum : k ≡ i + 28 = omega arith in
      rw e
      (ap (λ (j : ℕ). spaced names family ++ blanks j) sum ∙ ap (λ (l : List ℕ). spaced names family ++ l) (sym (replicate-append-replicate i 28 0x20))
      ∙ sym (append_assoc (spaced names family) (blanks i) (blanks 28)))

  pub two_lines : on_one_line names family ≡ false → (k : ℕ) → k ≡ 28 - length names
      → (names ++ blanks k) ++ placed 28 family ≡ field 28 (first_of names family) ++ placed 28 (second_of names family)
  unfolding first_of second_of field
  two_lines e k h = rw (e, h)

-- ---- what the rows of a record are
abbrev pub item : Record → ℕ → List ℕ
item r k = value_of (get_or r.objects k no_object)

pub item_short : (r : Record) (k b : ℕ) → length (value (content_of r) k) ≤ b → length (item r k) ≤ b
item_short r k b h = rw (value_at_lem r k) at h

pub names_of : (r : Record) → forenames (content_of r) ≡ spaced (spaced (item r 6) (item r 7)) (item r 8)
names_of r = rw (value_at_lem r 6, value_at_lem r 7, value_at_lem r 8)

pub names_put_lem : (r : Record) (k₁ k₂ : ℕ) → k₁ ≡ length (item r 6) → k₂ ≡ length (spaced (item r 6) (item r 7))
    → (item r 6 ++ behind k₁ (item r 7)) ++ behind k₂ (item r 8) ≡ forenames (content_of r)
names_put_lem r k₁ k₂ e f = rw (names_of r, e, f, spaced_behind (spaced (item r 6) (item r 7)) (item r 8), ← spaced_behind (item r 6) (item r 7))

pub name_lines_of : (r : Record) → field 28 (first_of (forenames (content_of r)) (item r 9)) ++ placed 28 (second_of (forenames (content_of r)) (item r 9))
    ≡ name_line (content_of r) ++ placed 28 (second_of (forenames (content_of r)) (value (content_of r) 9))
unfolding name_line
name_lines_of r = rw (value_at_lem r 9)

pub state_of : (r : Record) {status sign : List ℕ} → status ≡ status_shown (item r 4) → sign ≡ addition_sign (item r 5)
    → placed 4 status ++ (field 1 sign ++ placed 4 (item r 15)) ≡ state_put (content_of r)
state_of r e f = rw (value_at_lem r 4, value_at_lem r 5, value_at_lem r 15, e, f)

pub numbers_of : (r : Record) → placed 7 (item r 1) ++ (placed 12 (item r 3) ++ state_put (content_of r)) ≡ numbers_put (content_of r)
unfolding numbers_put
numbers_of r = rw (value_at_lem r 1, value_at_lem r 3)

-- ---- the lines one behind the other
pub lines_with : (c : Content) → (name_line c ++ family_line c) ++ (field 28 (value c 0) ++ number_line c) ≡ end_to_end (lines_of true c)
unfolding lines_of joined
lines_with c = rw (append-nil (number_line c)) (append_assoc (name_line c) (family_line c) (field 28 (value c 0) ++ number_line c))

pub lines_without : (c : Content) → blanks 28 ++ ((name_line c ++ family_line c) ++ number_line c) ≡ end_to_end (lines_of false c)
unfolding lines_of joined field
lines_without c = rw (append-nil (number_line c)) (ap (λ (l : List ℕ). blanks 28 ++ l) (append_assoc (name_line c) (family_line c) (number_line c)))

-- a run from the room's first byte to its end is the room
pub run_whole : {room bytes after : List ℕ} {place : ℕ} → Put room 0 bytes after place → place ≡ length room → after ≡ bytes
run_whole {room} {bytes} put e = put.stored ∙ sets_whole room bytes (omega (arith, put.place))
