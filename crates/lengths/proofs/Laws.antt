-- A length that is written is read, a length that is read was written, and no two lengths have one field: by the form. Assumes nothing.
use Prim.Native.Nat.{ℕ, zero, suc, ◌+◌, ◌*◌, ◌/◌, ◌%◌, ◌≤◌, ◌<◌}
use native.Mathlib.Omega.{arith}
use borrow.Author.Tests.{leb-true, leb-false, eqb-true, eqb-false, ne_eqb}
use mathlib.Core.Path.{◌≡◌, refl, sym, ap, subst, ◌∙◌}
use mathlib.Core.Bool.{Bool, true, false, cond}
use mathlib.Core.List.{List, [], ◌∷◌, ◌++◌}
use lib.Dec.{leb, eqb}
use lib.ListN.{length, drop, get_or}
use Rattle.std.specs.Prelude.{Result, Ok, Err}
use Rattle.lengths.specs.declared.Field.{Field}
use Rattle.lengths.specs.declared.FieldError.{FieldError}
use Rattle.lengths.specs.declared.FieldError.TheVariants.{Other, Cut, Long}
use Rattle.lengths.specs.declared.ToldLength.{ToldLength}
use Rattle.lengths.specs.Lengths.{length_field, read, behind81, behind82, length_read, number_of, length_told}
use Rattle.lengths.proofs.Forms.{field_one, field_two, field_three}

-- ---- written, and anything behind it: the length comes back, and its own bytes are used
pub field_read : (n : ℕ) (rest : List ℕ) → n < 65536 → length_read (length_field n ++ rest) ≡ read n (length (length_field n))
unfolding length_read
field_read n rest h = go (leb n 127) refl (leb n 255) refl
  where
    go : (p : Bool) → leb n 127 ≡ p → (q : Bool) → leb n 255 ≡ q → length_read (length_field n ++ rest) ≡ read n (length (length_field n))
    go true a q b = rw (field_one n (leb-true n 127 a), a)
    go false a true b = rw (field_two n (leb-false n 127 a) (leb-true n 255 b), a)
    go false a false b =
        let big : 256 ≤ n = leb-false n 255 b in
        let e : n / 256 * 256 + n % 256 ≡ n = omega arith in
        let high : eqb (n / 256) 0 ≡ false = ne_eqb (n / 256) 0 (λ z. omega arith) in
        rw (field_three n big, high, e)

-- ---- read from bytes: they begin with the field of the length, which is its one valid encoding
pub record Written (bs : List ℕ) (n used : ℕ) : Type 0 where
  pub bytes : bs ≡ length_field n ++ drop used bs
  pub size : used ≡ length (length_field n)
  pub most : n < 65536

abbrev WrittenIf : List ℕ → Result Field FieldError → Type 0
WrittenIf bs (Ok f) = Written bs f.length f.used
WrittenIf bs (Err e) = Unit {0}

written81 : (bs : List ℕ) → get_or bs 0 0 < 256 → WrittenIf (0x81 ∷ bs) (behind81 bs)
written81 [] h = tt
written81 (n ∷ bs) h = go (leb n 127) refl
  where
    go : (p : Bool) → leb n 127 ≡ p → WrittenIf (0x81 ∷ n ∷ bs) (cond p (Err Long) (read n 2))
    go true a = tt
    go false a =
        let f = field_two n (leb-false n 127 a) (omega arith) in
        record { bytes = rw f; size = rw f; most = omega arith }

written82 : (bs : List ℕ) → get_or bs 0 0 < 256 → get_or bs 1 0 < 256 → WrittenIf (0x82 ∷ bs) (behind82 bs)
written82 [] h k = tt
written82 (x ∷ []) h k = tt
written82 (x ∷ y ∷ bs) h k = go (eqb x 0) refl
  where
    go : (p : Bool) → eqb x 0 ≡ p → WrittenIf (0x82 ∷ x ∷ y ∷ bs) (cond p (Err Long) (read (x * 256 + y) 3))
    go true a = tt
    go false a =
        let some : x ≡ 0 → ⊥ = eqb-false x 0 a in
        let n = x * 256 + y in
        let f = field_three n (omega (arith, some)) in
        let i : n / 256 ≡ x = omega arith in
        let j : n % 256 ≡ y = omega arith in
        record { bytes = rw (f, i, j); size = rw f; most = omega arith }

written : (bs : List ℕ) → ((i : ℕ) → get_or bs i 0 < 256) → WrittenIf bs (length_read bs)
unfolding length_read
written [] h = tt
written (b ∷ bs) h = go (leb b 127) refl (eqb b 0x81) refl (eqb b 0x82) refl
  where
    go : (p : Bool) → leb b 127 ≡ p → (q : Bool) → eqb b 0x81 ≡ q → (t : Bool) → eqb b 0x82 ≡ t
        → WrittenIf (b ∷ bs) (cond p (read b 1) (cond q (behind81 bs) (cond t (behind82 bs) (Err Other))))
    go true a q e t f =
        let g = field_one b (leb-true b 127 a) in
        record { bytes = rw g; size = rw g; most = omega (arith, leb-true b 127 a) }
    go false a true e t f = rw (eqb-true b 0x81 e) (written81 bs (h 1))
    go false a false e true f = rw (eqb-true b 0x82 f) (written82 bs (h 1) (h 2))
    go false a false e false f = tt

pub read_written : (bs : List ℕ) (n used : ℕ) → ((i : ℕ) → get_or bs i 0 < 256) → length_read bs ≡ read n used → Written bs n used
read_written bs n used h e = subst (WrittenIf bs) e (written bs h)

-- a length that takes at most two bytes is a byte
pub told_short : (bs : List ℕ) → ((i : ℕ) → get_or bs i 0 < 256) → (length_told (length_read bs)).used ≤ 2 → (length_told (length_read bs)).length ≤ 255
told_short bs h u = go (length_read bs) (written bs h) u
  where
    go : (l : Result Field FieldError) → WrittenIf bs l → (length_told l).used ≤ 2 → (length_told l).length ≤ 255
    go (Ok f) w u = short f.length (leb f.length 255) refl w.size
      where
        short : (n : ℕ) (p : Bool) → leb n 255 ≡ p → f.used ≡ length (length_field n) → n ≤ 255
        short n true e s = leb-true n 255 e
        short n false e s = absurd (let three = ap length (field_three n (leb-false n 255 e)) in omega arith)
    go (Err e) w u = omega arith

-- ---- no two lengths have one field
pub no_two : (n m : ℕ) → n < 65536 → m < 65536 → length_field n ≡ length_field m → n ≡ m
no_two n m h k e =
    let a = field_read n [] h in
    let b = field_read m [] k in
    let same : length_read (length_field n ++ []) ≡ length_read (length_field m ++ []) = ap (λ (l : List ℕ). length_read (l ++ [])) e in
    ap (λ (l : Result Field FieldError). (length_told l).length) (sym a ∙ (same ∙ b))

-- ---- no two answers are told alike
pub number_some : (e : FieldError) → number_of e ≡ 0 → ⊥
number_some Other h = omega arith
number_some Cut h = omega arith
number_some Long h = omega arith

number_apart : (d e : FieldError) → number_of d ≡ number_of e → d ≡ e
number_apart Other Other h = refl
number_apart Other Cut h = absurd (omega arith)
number_apart Other Long h = absurd (omega arith)
number_apart Cut Other h = absurd (omega arith)
number_apart Cut Cut h = refl
number_apart Cut Long h = absurd (omega arith)
number_apart Long Other h = absurd (omega arith)
number_apart Long Cut h = absurd (omega arith)
number_apart Long Long h = refl

pub length_apart : (a b : Result Field FieldError) → length_told a ≡ length_told b → a ≡ b
length_apart a b e = go a b (ap (λ (t : ToldLength). t.number) e) (ap (λ (t : ToldLength). t.length) e) (ap (λ (t : ToldLength). t.used) e)
  where
    go : (a b : Result Field FieldError) → (length_told a).number ≡ (length_told b).number → (length_told a).length ≡ (length_told b).length → (length_told a).used ≡ (length_told b).used → a ≡ b
    go (Ok f) (Ok g) e l u = ap (λ (n : ℕ). read n f.used) l ∙ ap (read g.length) u
    go (Ok f) (Err d) e l u = absurd (number_some d (sym e))
    go (Err d) (Ok f) e l u = absurd (number_some d e)
    go (Err c) (Err d) e l u = ap (λ (x : FieldError). Err x) (number_apart c d e)

-- ---- the size of a field
pub field_size : (n : ℕ) → (1 ≤ length (length_field n)) × (length (length_field n) ≤ 3)
unfolding length_field
field_size n = go (leb n 127) (leb n 255)
  where
    go : (p q : Bool) → (1 ≤ length (cond p (n ∷ []) (cond q (0x81 ∷ n ∷ []) (0x82 ∷ n / 256 ∷ n % 256 ∷ []))))
        × (length (cond p (n ∷ []) (cond q (0x81 ∷ n ∷ []) (0x82 ∷ n / 256 ∷ n % 256 ∷ []))) ≤ 3)
    go true q = (omega arith, omega arith)
    go false true = (omega arith, omega arith)
    go false false = (omega arith, omega arith)
