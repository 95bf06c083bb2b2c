-- Two additions with the same printed sign give the same front, and the front shows nothing but the printed fields. Assumes nothing.
use mathlib.Core.Path.{◌≡◌, refl, sym, ap, ◌∙◌}
use mathlib.Core.Bool.{Bool, true, false, cond, not, ◌&&◌, ◌||◌}
use mathlib.Core.List.{List, [], ◌∷◌, ◌++◌, map}
use Prim.Native.Nat.{ℕ, ◌+◌, ◌≤◌, ◌<◌}
use native.Mathlib.Nat.{le_of_suc-le-suc}
use native.Mathlib.Omega.{arith}
use borrow.Author.Tests.{eqb-true, eqb-false, eq-eqb, leb-true, leb-false}
use lib.Dec.{eqb, leb}
use lib.ListN.{length, get_or, take, drop, set, length-append}
use lib.Seq.{set_split, set_out, get_or-set_same, get_or-set_other, set-get_or, map-set_same, set-set, length-take-le}
use Rattle.ground.specs.Lists.{among, leading}
use Rattle.ground.proofs.Lists.{true_false, and_left, and_right}
use Rattle.rules.specs.Values.{is_text, holds, judged}
use Rattle.edition.specs.Sets.{permitted}
use Rattle.edition.specs.Rows.{tags, no_row}
use Rattle.edition.specs.Tables.{terminal}
use Rattle.card.specs.Content.{Content}
use Rattle.card.specs.Layout.{object, body, object_tags}
use Rattle.card.specs.Rules.{Entry, entries, object_rows, met, fault}
use Rattle.card.specs.Refusals.{or_else}
use Rattle.card.specs.Refusing.{row_refusal, rows_refusal, template_refusal, content_refusal, edition_refusal}
use Rattle.front.specs.Lines.{value, to_one, to_nine, stay, sign_of, addition_sign, name_line, family_line, number_line, lines_of}
use Rattle.front.specs.Refusing.{is_there, printed_rows, underscored, lines_refusal, print_refusal, room_printed}
use Rattle.front.specs.Promises.{SameIn, with_addition, Invisible, DifferOnly, NoLetter, OnlyPrinted}

-- ---- a sign of the table
-- one of some numbers passes a test that all of them pass
abbrev all_in : (ℕ → Bool) → List ℕ → Bool
all_in f [] = true
all_in f (t ∷ ts) = f t && all_in f ts

pub among_all : (f : ℕ → Bool) (b : ℕ) (ts : List ℕ) → all_in f ts ≡ true → among b ts ≡ true → f b ≡ true
unfolding among
among_all f b [] h e = absurd (true_false e refl)
among_all f b (t ∷ ts) h e = go (eqb b t) refl e (among_all f b ts (and_right (f t) (all_in f ts) h))
  where
    go : (q : Bool) → eqb b t ≡ q → (q || among b ts) ≡ true → (among b ts ≡ true → f b ≡ true) → f b ≡ true
    go true p z ih = ap f (eqb-true b t p) ∙ and_left (f t) (all_in f ts) h
    go false p z ih = ih z

-- a test that the eighteen signs pass is passed by a byte with a printed sign
sign_all : (f : ℕ → Bool) (b : ℕ) → all_in f to_one ≡ true → all_in f to_nine ≡ true → all_in f stay ≡ true → is_there (sign_of b) ≡ true → f b ≡ true
unfolding sign_of
sign_all f b one nine same t = go (among b to_one) (among b to_nine) (among b stay) refl refl refl t
  where
    go : (p q r : Bool) → among b to_one ≡ p → among b to_nine ≡ q → among b stay ≡ r → is_there (cond p (0x31 ∷ []) (cond q (0x39 ∷ []) (cond r (b ∷ []) []))) ≡ true → f b ≡ true
    go true q r ep eq er z = among_all f b to_one one ep
    go false true r ep eq er z = among_all f b to_nine nine eq
    go false false true ep eq er z = among_all f b stay same er
    go false false false ep eq er z = absurd (true_false z refl)

-- an addition with a printed sign: a single byte, text, no underscore
record Single (u : List ℕ) : Type 0 where
  byte : ℕ
  is : u ≡ byte ∷ []
  text : is_text byte ≡ true
  plain : among 0x5F u ≡ false

not-true : (q : Bool) → not q ≡ true → q ≡ false
not-true true e = sym e
not-true false e = refl

single : (u : List ℕ) → is_there (addition_sign u) ≡ true → Single u
unfolding addition_sign is_text among
single [] t = absurd (true_false t refl)
single (b ∷ []) t = record {
  byte = b;
  is = refl;
  text = sign_all is_text b refl refl refl t;
  plain = not-true (among 0x5F (b ∷ [])) (sign_all (λ (x : ℕ). not (among 0x5F (x ∷ []))) b refl refl refl t);
}
single (b ∷ d ∷ v) t = absurd (true_false t refl)

pub no_letter : NoLetter
unfolding addition_sign sign_of among
no_letter [] t = absurd (true_false t refl)
no_letter (b ∷ []) t = go (among b to_one) (among b to_nine) (among b stay) refl t
  where
    go : (p q r : Bool) → among b stay ≡ r → is_there (cond p (0x31 ∷ []) (cond q (0x39 ∷ []) (cond r (b ∷ []) []))) ≡ true
        → among (get_or (cond p (0x31 ∷ []) (cond q (0x39 ∷ []) (cond r (b ∷ []) []))) 0 0) stay ≡ true
    go true q r e z = refl
    go false true r e z = refl
    go false false true e z = e
    go false false false e z = absurd (true_false z refl)
no_letter (b ∷ d ∷ v) t = absurd (true_false t refl)

-- ---- writing's refusal: only the sixth row looks at the addition, and what follows the rows only at its length
rows_alike : (es : List Entry) (a b : List (List ℕ)) (u v : List ℕ) (e : Entry) → get_or es (length a) e ≡ e → fault e.row u ≡ met → fault e.row v ≡ met
    → length a < length es → rows_refusal es (a ++ u ∷ b) ≡ rows_refusal es (a ++ v ∷ b)
unfolding rows_refusal row_refusal
rows_alike [] a b u v e i fu fv h = refl
rows_alike (r ∷ es) [] b u v e i fu fv h = rw (i, fu, fv)
rows_alike (r ∷ es) (x ∷ a) b u v e i fu fv h = ap (or_else (row_refusal r (fault r.row x))) (rows_alike es a b u v e i fu fv (le_of_suc-le-suc h))

object_long : (t : ℕ) (u v : List ℕ) → length u ≡ length v → length (object t u) ≡ length (object t v)
object_long t [] [] e = refl
object_long t [] (y ∷ v) e = absurd (omega arith)
object_long t (x ∷ u) [] e = absurd (omega arith)
object_long t (x ∷ u) (y ∷ v) e = omega arith

body_alike : (ts : List ℕ) (a b : List (List ℕ)) (u v : List ℕ) → length u ≡ length v → length (body ts (a ++ u ∷ b)) ≡ length (body ts (a ++ v ∷ b))
unfolding body
body_alike [] [] b u v e = refl
body_alike [] (x ∷ a) b u v e = refl
body_alike (t ∷ ts) [] b u v e = length-append (object t u) (body ts b) ∙ ap (λ (n : ℕ). n + length (body ts b)) (object_long t u v e) ∙ sym (length-append (object t v) (body ts b))
body_alike (t ∷ ts) (x ∷ a) b u v e =
    length-append (object t x) (body ts (a ++ u ∷ b)) ∙ ap (λ (n : ℕ). length (object t x) + n) (body_alike ts a b u v e) ∙ sym (length-append (object t x) (body ts (a ++ v ∷ b)))

-- the row of the addition under terminal
abbrev sixth : Entry
unfolding terminal tags entries
sixth = get_or (object_rows terminal) 5 (record { tag = 0; row = no_row })

single_met : (u : List ℕ) → Single u → fault sixth.row u ≡ met
unfolding fault terminal tags entries permitted judged leading holds
single_met u s = rw (s.is, s.text)

module _ (c : Content) (u v : List ℕ) (su : Single u) (sv : Single v) (h : 5 < length c.values) where
  lengths : length u ≡ length v
  lengths = ap length su.is ∙ sym (ap length sv.is)

  rows_same : rows_refusal (object_rows terminal) (set c.values 5 u) ≡ rows_refusal (object_rows terminal) (set c.values 5 v)
  unfolding terminal tags entries
  rows_same =
      let n : length (take 5 c.values) ≡ 5 = length-take-le 5 c.values (omega arith) in
      rw (set_split c.values 5 u h, set_split c.values 5 v h)
      (rows_alike (object_rows terminal) (take 5 c.values) (drop 6 c.values) u v sixth (ap (λ (k : ℕ). get_or (object_rows terminal) k sixth) n) (single_met u su) (single_met v sv) (omega arith))

  sums_same : map length (set c.values 5 u) ≡ map length (set c.values 5 v)
  sums_same =
      let e : length u ≡ length (get_or (set c.values 5 v) 5 []) = lengths ∙ ap length (sym (get_or-set_same c.values 5 v [] h)) in
      ap (map length) (sym (set-set c.values 5 v u)) ∙ map-set_same length (set c.values 5 v) 5 u [] e

  body_same : length (body object_tags (set c.values 5 u)) ≡ length (body object_tags (set c.values 5 v))
  body_same = rw (set_split c.values 5 u h, set_split c.values 5 v h) (body_alike object_tags (take 5 c.values) (drop 6 c.values) u v lengths)

  own_same : edition_refusal terminal (with_addition c u) ≡ edition_refusal terminal (with_addition c v)
  unfolding edition_refusal content_refusal template_refusal with_addition
  own_same = rw (rows_same, sums_same, body_same)

  -- ---- the lines
  here : (x : List ℕ) → value (with_addition c x) 5 ≡ x
  unfolding with_addition
  here x = get_or-set_same c.values 5 x [] h

  other : (k : ℕ) → (k ≡ 5 → ⊥) → value (with_addition c u) k ≡ value (with_addition c v) k
  unfolding with_addition
  other k n = get_or-set_other c.values 5 k u [] n ∙ sym (get_or-set_other c.values 5 k v [] n)

  mark-same : (k : ℕ) → among 0x5F (value (with_addition c u) k) ≡ among 0x5F (value (with_addition c v) k)
  mark-same k = go (eqb k 5) refl
    where
      go : (q : Bool) → eqb k 5 ≡ q → among 0x5F (value (with_addition c u) k) ≡ among 0x5F (value (with_addition c v) k)
      go true e = rw (eqb-true k 5 e, here u, here v, su.plain, sv.plain)
      go false e = ap (among 0x5F) (other k (eqb-false k 5 e))

  under_same : (ks : List ℕ) → underscored (with_addition c u) ks ≡ underscored (with_addition c v) ks
  unfolding underscored
  under_same [] = refl
  under_same (k ∷ ks) = rw (mark-same k, under_same ks)

  module _ (s : addition_sign u ≡ addition_sign v) where
    sign_same : addition_sign (value (with_addition c u) 5) ≡ addition_sign (value (with_addition c v) 5)
    sign_same = ap addition_sign (here u) ∙ s ∙ ap addition_sign (sym (here v))

    lines_same : (fund : Bool) → lines_of fund (with_addition c u) ≡ lines_of fund (with_addition c v)
    unfolding lines_of name_line family_line number_line
    lines_same fund =
        rw (
          sign_same,
          other 0 (λ z. omega arith),
          other 1 (λ z. omega arith),
          other 3 (λ z. omega arith),
          other 4 (λ z. omega arith),
          other 6 (λ z. omega arith),
          other 7 (λ z. omega arith),
          other 8 (λ z. omega arith),
          other 9 (λ z. omega arith),
          other 15 (λ z. omega arith),
        )

    answer-same : (fund : Bool) (n : ℕ) → print_refusal fund (with_addition c u) n ≡ print_refusal fund (with_addition c v) n
    unfolding print_refusal lines_refusal
    answer-same fund n = rw (own_same, sign_same, other 15 (λ z. omega arith), under_same (printed_rows fund))

    room-same : (fund : Bool) (room : List ℕ) → room_printed fund (with_addition c u) room ≡ room_printed fund (with_addition c v) room
    unfolding room_printed
    room-same fund room = rw (answer-same fund (length room), lines_same fund)

-- a content without a place for the addition stays as it is
nowhere : (c : Content) (u v : List ℕ) → length c.values ≤ 5 → with_addition c u ≡ with_addition c v
unfolding with_addition
nowhere c u v h = rw (set_out c.values 5 u h, set_out c.values 5 v h)

pub invisible : Invisible
invisible c u v t s fund = go (leb (length c.values) 5) refl
  where
    go : (q : Bool) → leb (length c.values) 5 ≡ q → SameIn fund (with_addition c u) (with_addition c v)
    go true e = rw (nowhere c u v (leb-true _ 5 e)) (record { answer = λ n. refl; room = λ room. refl })
    go false e =
        let h : 5 < length c.values = omega (arith, leb-false (length c.values) 5 e) in
        let su = single u t in
        let sv = single v (ap is_there (sym s) ∙ t) in
        record { answer = answer-same c u v su sv h s fund; room = room-same c u v su sv h s fund }

-- the same, of two contents that differ only in their additions
itself : (c : Content) → with_addition c (value c 5) ≡ c
unfolding with_addition
itself c = rw (set-get_or c.values 5 [])

pub differ_only : DifferOnly
differ_only c d e t s fund = rw (itself c, sym e) at (invisible c (value c 5) (value d 5) t s fund)

-- ---- nothing but the printed fields
or_left : (a b : Bool) → a ≡ true → (a || b) ≡ true
or_left true b e = refl
or_left false b e = absurd (true_false e refl)

pub or_right : (a b : Bool) → b ≡ true → (a || b) ≡ true
or_right true b e = refl
or_right false b e = e

under_only : (c d : Content) (ks : List ℕ) → ((k : ℕ) → among k ks ≡ true → value c k ≡ value d k) → underscored c ks ≡ underscored d ks
unfolding underscored among
under_only c d [] h = refl
under_only c d (k ∷ ks) h =
    rw (h k (or_left (eqb k k) (among k ks) (eq-eqb k k refl)), under_only c d ks (λ j e. h j (or_right (eqb j k) (among j ks) e)))

lines_only : (fund : Bool) (c d : Content) → ((k : ℕ) → among k (printed_rows fund) ≡ true → value c k ≡ value d k) → lines_of fund c ≡ lines_of fund d
unfolding lines_of name_line family_line number_line among
lines_only true c d h = rw (h 0 refl, h 1 refl, h 3 refl, h 4 refl, h 5 refl, h 6 refl, h 7 refl, h 8 refl, h 9 refl, h 15 refl)
lines_only false c d h = rw (h 1 refl, h 3 refl, h 4 refl, h 5 refl, h 6 refl, h 7 refl, h 8 refl, h 9 refl, h 15 refl)

printed_there : (fund : Bool) (c d : Content) → ((k : ℕ) → among k (printed_rows fund) ≡ true → value c k ≡ value d k) → (value c 5 ≡ value d 5) × (value c 15 ≡ value d 15)
unfolding among
printed_there true c d h = (h 5 refl, h 15 refl)
printed_there false c d h = (h 5 refl, h 15 refl)

module _ (fund : Bool) (c d : Content) (own : edition_refusal terminal c ≡ edition_refusal terminal d) (h : (k : ℕ) → among k (printed_rows fund) ≡ true → value c k ≡ value d k) where
  answer-only : (n : ℕ) → print_refusal fund c n ≡ print_refusal fund d n
  unfolding print_refusal lines_refusal
  answer-only n = let p = printed_there fund c d h in rw (own, p.0, p.1, under_only c d (printed_rows fund) h)

  room-only : (room : List ℕ) → room_printed fund c room ≡ room_printed fund d room
  unfolding room_printed
  room-only room = rw (answer-only (length room), lines_only fund c d h)

pub only_printed : OnlyPrinted
only_printed fund c d own h = record { answer = answer-only fund c d own h; room = room-only fund c d own h }
