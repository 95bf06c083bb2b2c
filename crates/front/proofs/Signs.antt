-- The printed signs, and the places of a status. Assumes nothing.
use mathlib.Core.Path.{◌≡◌, refl, sym, ap, ◌∙◌}
use mathlib.Core.Bool.{Bool, true, false, cond, ◌||◌}
use mathlib.Core.List.{List, [], ◌∷◌, ◌++◌}
use Prim.Native.Nat.{ℕ, ◌-◌, ◌≤◌, ◌<◌}
use native.Mathlib.Omega.{arith}
use borrow.Author.Tests.{eq-eqb, ne_eqb, eqb-true}
use lib.Dec.{eqb}
use lib.ListN.{length, get_or, take, replicate, length-append, length-take, length-replicate, get_or-append}
use lib.Seq.{get_or-take, take-take}
use Rattle.ground.specs.Lists.{among}
use Rattle.ground.proofs.Lists.{true_false}
use Rattle.card.specs.declared.Object.{Object}
use Rattle.card.specs.Content.{value_of}
use Rattle.front.specs.Lines.{to_one, to_nine, stay, sign_of, addition_sign, status_shown, field}
use Rattle.front.specs.Refusing.{is_there}
use Rattle.front.specs.Placing.{signed, status_object}

-- ---- six tests are one
six : (p q r s t u : Bool) → (p || q || r || s || t || u) ≡ (p || (q || (r || (s || (t || (u || false))))))
six true q r s t u = refl
six false true r s t u = refl
six false false true s t u = refl
six false false false true t u = refl
six false false false false true u = refl
six false false false false false true = refl
six false false false false false false = refl

among_six : (b a₁ a₂ a₃ a₄ a₅ a₆ : ℕ)
    → (eqb b a₁ || eqb b a₂ || eqb b a₃ || eqb b a₄ || eqb b a₅ || eqb b a₆) ≡ among b (a₁ ∷ a₂ ∷ a₃ ∷ a₄ ∷ a₅ ∷ a₆ ∷ [])
unfolding among
among_six b a₁ a₂ a₃ a₄ a₅ a₆ = six (eqb b a₁) (eqb b a₂) (eqb b a₃) (eqb b a₄) (eqb b a₅) (eqb b a₆)

abbrev pub goes_to_one : ℕ → Bool
goes_to_one b = eqb b 0x4D || eqb b 0x41 || eqb b 0x4B || eqb b 0x45 || eqb b 0x44 || eqb b 0x53

abbrev pub goes_to_nine : ℕ → Bool
goes_to_nine b = eqb b 0x58 || eqb b 0x43 || eqb b 0x4C || eqb b 0x4E || eqb b 0x46 || eqb b 0x50

abbrev pub stays : ℕ → Bool
stays b = eqb b 0x31 || eqb b 0x39 || eqb b 0x34 || eqb b 0x36 || eqb b 0x37 || eqb b 0x38

-- the sign by the three tests
pub sign_by : (b : ℕ) → sign_of b ≡ cond (goes_to_one b) (0x31 ∷ []) (cond (goes_to_nine b) (0x39 ∷ []) (cond (stays b) (b ∷ []) []))
unfolding sign_of
sign_by b = rw (among_six b 0x4D 0x41 0x4B 0x45 0x44 0x53, among_six b 0x58 0x43 0x4C 0x4E 0x46 0x50, among_six b 0x31 0x39 0x34 0x36 0x37 0x38)

-- a sign that stays is no blank
pub stays_signed : (b : ℕ) → stays b ≡ true → signed b ≡ b ∷ []
stays_signed b t = go (eqb b 0x20) refl
  where
    go : (q : Bool) → eqb b 0x20 ≡ q → cond q [] (b ∷ []) ≡ b ∷ []
    go true e = absurd (true_false t (ap (λ (x : ℕ). stays x) (eqb-true b 0x20 e)))
    go false e = refl

-- a sign is known by what it prints, and is there if it is no blank
signed_first : (r : ℕ) → get_or (signed r) 0 0x20 ≡ r
signed_first r = go (eqb r 0x20) refl
  where
    go : (q : Bool) → eqb r 0x20 ≡ q → get_or (cond q [] (r ∷ [])) 0 0x20 ≡ r
    go true e = sym (eqb-true r 0x20 e)
    go false e = refl

pub signed_once : (r s : ℕ) → signed r ≡ signed s → r ≡ s
signed_once r s e = sym (signed_first r) ∙ ap (λ (l : List ℕ). get_or l 0 0x20) e ∙ signed_first s

pub blank_none : (r : ℕ) → r ≡ 0x20 → is_there (signed r) ≡ false
blank_none r e = rw (eq-eqb r 0x20 e)

pub sign_there : (r : ℕ) → (r ≡ 0x20 → ⊥) → is_there (signed r) ≡ true
sign_there r h = rw (ne_eqb r 0x20 h)

-- the sign, or the blank, fills the one place of the addition
pub sign_field : (r : ℕ) → r ∷ [] ≡ field 1 (signed r)
unfolding field
sign_field r = go (eqb r 0x20) refl
  where
    go : (q : Bool) → eqb r 0x20 ≡ q → r ∷ [] ≡ cond q [] (r ∷ []) ++ replicate (1 - length (cond q [] (r ∷ []))) 0x20
    go true e = ap (λ (x : ℕ). x ∷ []) (eqb-true r 0x20 e)
    go false e = refl

-- ---- an addition
pub addition_one : (v : List ℕ) → length v ≡ 1 → addition_sign v ≡ sign_of (get_or v 0 0)
unfolding addition_sign
addition_one [] e = absurd (omega arith)
addition_one (b ∷ []) e = refl
addition_one (b ∷ d ∷ v) e = absurd (omega arith)

pub addition_none : (v : List ℕ) → (length v ≡ 1 → ⊥) → addition_sign v ≡ []
unfolding addition_sign
addition_none [] h = refl
addition_none (b ∷ []) h = absurd (h refl)
addition_none (b ∷ d ∷ v) h = refl

sign_one : (b : ℕ) → length (sign_of b) ≤ 1
unfolding sign_of
sign_one b = go (among b to_one) (among b to_nine) (among b stay)
  where
    go : (p q r : Bool) → length (cond p (0x31 ∷ []) (cond q (0x39 ∷ []) (cond r (b ∷ []) []))) ≤ 1
    go true q r = omega arith
    go false true r = omega arith
    go false false true = omega arith
    go false false false = omega arith

pub addition_short : (v : List ℕ) → length (addition_sign v) ≤ 1
unfolding addition_sign
addition_short [] = omega arith
addition_short (b ∷ []) = sign_one b
addition_short (b ∷ d ∷ v) = omega arith

-- ---- a status
pub status_whole_one : (v : List ℕ) → length v < 2 → status_shown v ≡ v
unfolding status_shown
status_whole_one [] h = refl
status_whole_one (a ∷ []) h = refl
status_whole_one (a ∷ b ∷ v) h = absurd (omega arith)

pub status_first : (v : List ℕ) → 2 ≤ length v → get_or v 1 0 ≡ 0x30 → status_shown v ≡ take 1 v
unfolding status_shown
status_first [] h e = absurd (omega arith)
status_first (a ∷ []) h e = absurd (omega arith)
status_first (a ∷ b ∷ v) h e = rw (eq-eqb b 0x30 e)

pub status_whole : (v : List ℕ) → 2 ≤ length v → (get_or v 1 0 ≡ 0x30 → ⊥) → status_shown v ≡ v
unfolding status_shown
status_whole [] h e = absurd (omega arith)
status_whole (a ∷ []) h e = absurd (omega arith)
status_whole (a ∷ b ∷ v) h e = rw (ne_eqb b 0x30 e)

pub status_short : (v : List ℕ) → length (status_shown v) ≤ length v
unfolding status_shown
status_short v = go (eqb (get_or v 1 0x30) 0x30)
  where
    go : (q : Bool) → length (cond q (take 1 v) v) ≤ length v
    go true = omega (arith, length-take 1 v)
    go false = omega arith

-- the object of a status, by the number of its places
pub status_object_lem : (o : Object) (n : ℕ) → n ≡ length (status_shown (value_of o)) → record { length = n; bytes = o.bytes } ≡ status_object o
unfolding status_object
status_object_lem o n e = ap (λ (k : ℕ). record { length = k; bytes = o.bytes }) e

-- ---- the bytes of an object
pub byte_of : (o : Object) (k : ℕ) → k < o.length → k < length o.bytes → get_or (value_of o) k 0 ≡ get_or o.bytes k 0
unfolding value_of
byte_of o k h n = get_or-take o.length (o.bytes ++ replicate 227 0) k 0 h ∙ get_or-append o.bytes (replicate 227 0) 0 k n

pub first_of : (o : Object) → 1 ≤ o.length → value_of (record { length = 1; bytes = o.bytes }) ≡ take 1 (value_of o)
unfolding value_of
first_of o h = sym (take-take 1 o.length (o.bytes ++ replicate 227 0) h)

-- ---- whether an object is there
pub there_none : (o : Object) → o.length ≡ 0 → is_there (value_of o) ≡ false
unfolding value_of
there_none o e = rw e

some_there : (v : List ℕ) → 0 < length v → is_there v ≡ true
some_there [] h = absurd (omega arith)
some_there (b ∷ v) h = refl

pub there_some : (o : Object) → (o.length ≡ 0 → ⊥) → is_there (value_of o) ≡ true
unfolding value_of
there_some o h =
    some_there (take o.length (o.bytes ++ replicate 227 0))
    (omega (arith, h, length-take o.length (o.bytes ++ replicate 227 0), length-append o.bytes (replicate 227 0), length-replicate {A = ℕ} 227 0))
