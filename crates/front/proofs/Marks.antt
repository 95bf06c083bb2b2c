-- Looking for an underscore, in a value and row by row. Assumes nothing.
use mathlib.Core.Path.{◌≡◌, refl, sym, ap, ◌∙◌}
use mathlib.Core.Bool.{Bool, true, false, cond, ◌||◌}
use mathlib.Core.List.{List, [], ◌∷◌, ◌++◌}
use Prim.Native.Nat.{ℕ, zero, suc, ◌+◌, ◌-◌, ◌<◌, min}
use native.Mathlib.Omega.{arith}
use native.Mathlib.Numerals.{add-one}
use borrow.Author.Tests.{eq-eqb, ne_eqb, eqb-true, eqb-false, ltb-true, ltb-false}
use lib.Dec.{eqb, ltb}
use lib.ListN.{length, get_or, take, drop, replicate}
use lib.Seq.{drop-cons, take_all, take-append-le, take-append-add}
use Rattle.std.specs.List.{list_any}
use Rattle.ground.specs.Lists.{among}
use Rattle.ground.proofs.Lists.{alike_below_lem}
use Rattle.card.specs.declared.Object.{Object}
use Rattle.card.specs.declared.Record.{Record}
use Rattle.card.specs.Content.{value_of, content_of}
use Rattle.front.proofs.Values.{value_at_lem}
use Rattle.front.specs.Refusing.{other_rows, underscored}
use Rattle.front.proofs.Spaced.{item}

eqb_swap : (a b : ℕ) → eqb a b ≡ eqb b a
eqb_swap a b = go (eqb a b) refl
  where
    go : (q : Bool) → eqb a b ≡ q → eqb a b ≡ eqb b a
    go true e = e ∙ sym (eq-eqb b a (sym (eqb-true a b e)))
    go false e = e ∙ sym (ne_eqb b a (λ z. eqb-false a b e (sym z)))

-- what `contains` looks for
pub mark_any : (b : ℕ) (v : List ℕ) → list_any (λ y. eqb y b) v ≡ among b v
unfolding among
mark_any b [] = refl
mark_any b (x ∷ v) = rw (eqb_swap x b, mark_any b v)

-- ---- what a record claims past its bytes is 0, and no underscore
none_in_zeros : (m n : ℕ) → among 0x5F (take m (replicate n 0)) ≡ false
unfolding among
none_in_zeros zero n = refl
none_in_zeros (suc m) zero = refl
none_in_zeros (suc m) (suc n) = none_in_zeros m n

mark_before : (b : ℕ) (xs ys : List ℕ) → among b ys ≡ false → among b (xs ++ ys) ≡ among b xs
unfolding among
mark_before b [] ys e = e
mark_before b (x ∷ xs) ys e = ap (λ (q : Bool). eqb b x || q) (mark_before b xs ys e)

pub mark_held : (o : Object) → length o.bytes ≡ 28 → (n : ℕ) → n ≡ min o.length 28 → among 0x5F (value_of o) ≡ among 0x5F (take n o.bytes)
unfolding value_of
mark_held o h n e = go (ltb o.length 28) refl
  where
    go : (q : Bool) → ltb o.length 28 ≡ q → among 0x5F (take o.length (o.bytes ++ replicate 227 0)) ≡ among 0x5F (take n o.bytes)
    go true t =
        let less = ltb-true o.length 28 t in
        let same : n ≡ o.length = omega arith in
        rw same (ap (among 0x5F) (take-append-le o.length o.bytes (replicate 227 0) (omega arith)))
    go false t =
        let more = ltb-false o.length 28 t in
        let full : n ≡ 28 = omega arith in
        let m : ℕ = o.length - 28 in
        let sum : o.length ≡ length o.bytes + m = omega arith in
        ap (λ (k : ℕ). among 0x5F (take k (o.bytes ++ replicate 227 0))) sum
        ∙ ap (among 0x5F) (take-append-add o.bytes (replicate 227 0) m)
        ∙ mark_before 0x5F o.bytes (take m (replicate 227 0)) (none_in_zeros m 227)
        ∙ ap (among 0x5F) (sym (ap (λ (k : ℕ). take k o.bytes) full ∙ take_all 28 o.bytes (omega arith)))

-- ---- the printed rows
abbrev pub all_rows : List ℕ
all_rows = 0 ∷ other_rows

pub row_below : (i : ℕ) → i < 10 → get_or all_rows i 0 < 16
row_below i h = ltb-true (get_or all_rows i 0) 16 (alike_below_lem (λ (k : ℕ). ltb (get_or all_rows k 0) 16) (λ (k : ℕ). true) 10 refl i h)

module _ (r : Record) (i : ℕ) (h : i < 10) where
  rows_cons : underscored (content_of r) (drop i all_rows) ≡ (among 0x5F (item r (get_or all_rows i 0)) || underscored (content_of r) (drop (i + 1) all_rows))
  unfolding underscored
  rows_cons = rw (drop-cons all_rows i 0 h, value_at_lem r (get_or all_rows i 0), add-one)

  pub rows_here : true ≡ among 0x5F (item r (get_or all_rows i 0)) → underscored (content_of r) (drop i all_rows) ≡ true
  rows_here e = rw (rows_cons, ← e)

  pub rows_next : false ≡ among 0x5F (item r (get_or all_rows i 0)) → underscored (content_of r) (drop i all_rows) ≡ underscored (content_of r) (drop (i + 1) all_rows)
  rows_next e = rw (rows_cons, ← e)

pub rows_end : (r : Record) → underscored (content_of r) (drop 10 all_rows) ≡ false
unfolding underscored
rows_end r = refl
