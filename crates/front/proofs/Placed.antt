-- Fields of values of any length in a room, one behind the other. Assumes nothing.
use mathlib.Core.Path.{◌≡◌, refl, ap, ◌∙◌}
use mathlib.Core.Bool.{Bool, true, false, cond}
use mathlib.Core.List.{List, [], ◌∷◌, ◌++◌, append-nil, append_assoc}
use Prim.Native.Nat.{ℕ, ◌+◌, ◌-◌, ◌≤◌, ◌<◌}
use native.Mathlib.Omega.{arith}
use borrow.Author.Tests.{le-leb, lt-leb, leb-false, ltb-true, ltb-false}
use lib.Dec.{leb, ltb}
use lib.ListN.{length, take, replicate, length-append, length-replicate, length-take}
use lib.Seq.{length-sets, take_all, take-take, take-append-le}
use Rattle.ground.specs.Rooms.{room_with, behind_put, Put}
use Rattle.ground.proofs.Puts.{put_in, put_out, put_there, put_then}
use Rattle.card.specs.declared.Object.{Object}
use Rattle.card.specs.declared.Record.{Record}
use Rattle.card.specs.Content.{Content, value_of, content_of}
use Rattle.front.specs.Lines.{value, addition_sign, status_shown, field}
use Rattle.front.specs.Placing.{signed, placed, field_put, state_put, numbers_put}
use Rattle.front.proofs.Spaced.{item, field_long, numbers_of}
use Rattle.front.proofs.Signs.{sign_field, addition_short}

-- ---- a value in its places
pub placed_long : (n : ℕ) (v : List ℕ) → length (placed n v) ≡ n
unfolding placed
placed_long n v = field_long n (take n v) (omega (arith, length-take n v))

pub placed_fits : (n : ℕ) (v : List ℕ) → length v ≤ n → placed n v ≡ field n v
unfolding placed
placed_fits n v h = ap (field n) (take_all n v h)

pub placed_all : (n : ℕ) (v : List ℕ) → length v ≡ n → placed n v ≡ v
unfolding field
placed_all n v e =
    let z : n - length v ≡ 0 = omega arith in
    placed_fits n v (omega arith) ∙ ap (λ (k : ℕ). v ++ replicate k 0x20) z ∙ append-nil v

-- the smaller of two is no more than the second
pub least_most : (a b : ℕ) → cond (ltb a b) a b ≤ b
least_most a b = go (ltb a b) refl
  where
    go : (q : Bool) → ltb a b ≡ q → cond q a b ≤ b
    go true e = omega (arith, ltb-true a b e)
    go false e = omega arith

-- the bytes of an object that stand in n places
pub first_bytes : (o : Object) (n : ℕ) → n ≤ length o.bytes → (k : ℕ) → k ≡ cond (ltb o.length n) o.length n → take n (value_of o) ≡ take k o.bytes
unfolding value_of
first_bytes o n h k e = go (ltb o.length n) refl e
  where
    go : (q : Bool) → ltb o.length n ≡ q → k ≡ cond q o.length n → take n (take o.length (o.bytes ++ replicate 227 0)) ≡ take k o.bytes
    go true t f =
        let less = ltb-true o.length n t in
        rw f
        (take_all n (take o.length (o.bytes ++ replicate 227 0)) (omega (arith, length-take o.length (o.bytes ++ replicate 227 0)))
        ∙ take-append-le o.length o.bytes (replicate 227 0) (omega arith))
    go false t f =
        let more = ltb-false o.length n t in
        rw f (take-take n o.length (o.bytes ++ replicate 227 0) (omega arith) ∙ take-append-le n o.bytes (replicate 227 0) h)

-- the value and blanks to the end of its places
pub places_filled : {room after last : List ℕ} {at p r : ℕ} (n : ℕ) (v : List ℕ) → at + n ≤ length room
    → p ≡ behind_put room at (take n v) → after ≡ room_with room at (take n v)
    → r ≡ behind_put after p (replicate (at + n - p) 0x20) → last ≡ room_with after p (replicate (at + n - p) 0x20) → Put room at (placed n v) last r
unfolding placed field
places_filled {room} {after} {at = at} {p = p} n v h e f g i =
    let short = length-take n v in
    let one = put_there e f (omega arith) in
    let same : length after ≡ length room = ap length one.stored ∙ length-sets room at (take n v) in
    let left : at + n - p ≡ n - length (take n v) = omega (arith, one.place) in
    let blanks = length-replicate {A = ℕ} (at + n - p) 0x20 in
    rw left at (put_then one (put_there g i (omega (arith, one.place))))

-- ---- fields that fit, and fields that do not
pub behind_most : (room : List ℕ) (at : ℕ) (bytes : List ℕ) {p : ℕ} → p ≡ behind_put room at bytes → p ≤ at + length bytes
unfolding behind_put
behind_most room at bytes {p} e = go (leb (at + length bytes) (length room)) e
  where
    go : (q : Bool) → p ≡ cond q (at + length bytes) at → p ≤ at + length bytes
    go true f = omega arith
    go false f = omega arith

pub nothing : (room : List ℕ) (at : ℕ) → (at ≡ behind_put room at []) × (room ≡ room_with room at [])
unfolding room_with behind_put
nothing room at = go (leb (at + 0) (length room))
  where
    go : (q : Bool) → (at ≡ cond q (at + 0) at) × (room ≡ cond q room room)
    go true = (omega arith, refl)
    go false = (refl, refl)

pub field_in : {room after : List ℕ} {at r : ℕ} (n : ℕ) (v : List ℕ) → n ≤ 28 → at + n ≤ length room → Put room at (placed n v) after r
    → (r ≡ behind_put room at (field_put n v)) × (after ≡ room_with room at (field_put n v))
unfolding field_put
field_in {room} {at = at} n v h k p =
    let long = placed_long n v in
    let there = put_in room at (placed n v) (omega arith) in
    rw (le-leb n 28 h) (p.place ∙ there.0, p.stored ∙ there.1)

pub field_out : (room : List ℕ) (at n : ℕ) (v : List ℕ) → length room < at + n → (at ≡ behind_put room at (field_put n v)) × (room ≡ room_with room at (field_put n v))
unfolding field_put
field_out room at n v h = go (leb n 28)
  where
    go : (q : Bool) → (at ≡ behind_put room at (cond q (placed n v) [])) × (room ≡ room_with room at (cond q (placed n v) []))
    go true = put_out room at (placed n v) (omega (arith, placed_long n v))
    go false = nothing room at

pub field_wide : (room : List ℕ) (at n : ℕ) (v : List ℕ) → 28 < n → (at ≡ behind_put room at (field_put n v)) × (room ≡ room_with room at (field_put n v))
unfolding field_put
field_wide room at n v h = rw (lt-leb n 28 h) (nothing room at)

-- a field has its places, alone and behind what was put before
pub field_put_lem : {room after : List ℕ} {at r : ℕ} (n : ℕ) (v : List ℕ) → r ≡ behind_put room at (field_put n v) → after ≡ room_with room at (field_put n v)
    → n ≤ 28 → at + n ≤ length room → Put room at (placed n v) after r
unfolding field_put
field_put_lem n v e f h k = let long = placed_long n v in put_there (rw (le-leb n 28 h) at e) (rw (le-leb n 28 h) at f) (omega arith)

pub field_then : {room after last bytes : List ℕ} {at p r : ℕ} (n : ℕ) (v : List ℕ) → Put room at bytes after p
    → r ≡ behind_put after p (field_put n v) → last ≡ room_with after p (field_put n v) → n ≤ 28 → at + length bytes + n ≤ length room → Put room at (bytes ++ placed n v) last r
field_then {room} {after} {bytes = bytes} {at = at} n v p e f h k =
    let same : length after ≡ length room = ap length p.stored ∙ length-sets room at bytes in
    put_then p (field_put_lem n v e f h (omega (arith, p.place)))

pub byte_then : {room after last bytes : List ℕ} {at p r : ℕ} (x : ℕ) → Put room at bytes after p
    → r ≡ behind_put after p (x ∷ []) → last ≡ room_with after p (x ∷ []) → at + length bytes + 1 ≤ length room → Put room at (bytes ++ (x ∷ [])) last r
byte_then {room} {after} {bytes = bytes} {at = at} x p e f k =
    let same : length after ≡ length room = ap length p.stored ∙ length-sets room at bytes in
    put_then p (put_there e f (omega (arith, p.place)))

pub fill_then : {room after last bytes : List ℕ} {at p r : ℕ} (n : ℕ) → Put room at bytes after p
    → r ≡ behind_put after p (replicate n 0x20) → last ≡ room_with after p (replicate n 0x20) → at + length bytes + n ≤ length room → Put room at (bytes ++ replicate n 0x20) last r
fill_then {room} {after} {bytes = bytes} {at = at} n p e f k =
    let same : length after ≡ length room = ap length p.stored ∙ length-sets room at bytes in
    put_then p (put_there e f (omega (arith, p.place, length-replicate {A = ℕ} n 0x20)))

-- a whole value, in as many places as it has bytes
pub value_put : {room after : List ℕ} {at r : ℕ} (n : ℕ) (v : List ℕ) → length v ≡ n → n ≤ 28
    → r ≡ behind_put room at (field_put n v) → after ≡ room_with room at (field_put n v) → at + n ≤ length room → Put room at v after r
value_put n v l h e f k = rw (placed_all n v l) at (field_put_lem n v e f h k)

pub value_then : {room after last bytes : List ℕ} {at p r : ℕ} (n : ℕ) (v : List ℕ) → length v ≡ n → n ≤ 28 → Put room at bytes after p
    → r ≡ behind_put after p (field_put n v) → last ≡ room_with after p (field_put n v) → at + length bytes + n ≤ length room → Put room at (bytes ++ v) last r
value_then n v l h p e f k = rw (placed_all n v l) at (field_then n v p e f h k)

-- what was put, as its own contract says it, and what was not
pub none_put : (room bytes : List ℕ) (at n : ℕ) → leb (at + n) (length room) ≡ false → length bytes ≡ n → (at ≡ behind_put room at bytes) × (room ≡ room_with room at bytes)
none_put room bytes at n e h = put_out room at bytes (omega (arith, leb-false (at + n) (length room) e))

pub put_back : {room bytes after : List ℕ} {at r : ℕ} → Put room at bytes after r → at + length bytes ≤ length room → (r ≡ behind_put room at bytes) × (after ≡ room_with room at bytes)
put_back {room} {bytes} {at = at} p h = let there = put_in room at bytes h in (p.place ∙ there.0, p.stored ∙ there.1)

-- ---- the fourth line: fund number and insured number, then status, sign and validity
pub heads_there : {room first second : List ℕ} {at p q : ℕ} (a b : List ℕ) → at + 28 ≤ length room → p ≡ behind_put room at (field_put 7 a) → first ≡ room_with room at (field_put 7 a)
    → q ≡ behind_put first p (field_put 12 b) → second ≡ room_with first p (field_put 12 b) → Put room at (placed 7 a ++ placed 12 b) second q × (q + 9 ≤ length second)
heads_there {room} {second = second} {at = at} a b h e f g i =
    let seven = placed_long 7 a in
    let twelve = placed_long 12 b in
    let both = field_then 12 b (field_put_lem 7 a e f (omega arith) (omega arith)) g i (omega arith) (omega arith) in
    let same : length second ≡ length room = ap length both.stored ∙ length-sets room at (placed 7 a ++ placed 12 b) in
    (both, omega (arith, both.place, length-append (placed 7 a) (placed 12 b)))

pub state_there : {room first second last : List ℕ} {at p q r : ℕ} (s : List ℕ) (sign : ℕ) (d : List ℕ) → at + 9 ≤ length room
    → p ≡ behind_put room at (field_put 4 s) → first ≡ room_with room at (field_put 4 s) → q ≡ behind_put first p (sign ∷ []) → second ≡ room_with first p (sign ∷ [])
    → r ≡ behind_put second q (field_put 4 d) → last ≡ room_with second q (field_put 4 d) → Put room at (placed 4 s ++ (field 1 (signed sign) ++ placed 4 d)) last r
state_there s sign d h e f g i j k =
    let four = placed_long 4 s in
    let last = placed_long 4 d in
    let one = field_put_lem 4 s e f (omega arith) (omega arith) in
    let two = byte_then sign one g i (omega arith) in
    let three = field_then 4 d two j k (omega arith) (omega (arith, length-append (placed 4 s) (sign ∷ []))) in
    let whole : (placed 4 s ++ (sign ∷ [])) ++ placed 4 d ≡ placed 4 s ++ (field 1 (signed sign) ++ placed 4 d) =
    append_assoc (placed 4 s) (sign ∷ []) (placed 4 d) ∙ ap (λ (l : List ℕ). placed 4 s ++ (l ++ placed 4 d)) (sign_field sign) in
    rw whole at three

pub numbers_long : (c : Content) → length (numbers_put c) ≡ 28
unfolding numbers_put
numbers_long c =
    let a = placed_long 7 (value c 1) in
    let b = placed_long 12 (value c 3) in
    let d = placed_long 4 (status_shown (value c 4)) in
    let e = field_long 1 (addition_sign (value c 5)) (addition_short (value c 5)) in
    let g = placed_long 4 (value c 15) in
    simp length-append (omega arith)

pub numbers_there : {room second last : List ℕ} {at q s : ℕ} (r : Record) → at + 28 ≤ length room → Put room at (placed 7 (item r 1) ++ placed 12 (item r 3)) second q
    → Put second q (state_put (content_of r)) last s → (s ≡ behind_put room at (numbers_put (content_of r))) × (last ≡ room_with room at (numbers_put (content_of r)))
numbers_there r h p q =
    let whole = append_assoc (placed 7 (item r 1)) (placed 12 (item r 3)) (state_put (content_of r)) ∙ numbers_of r in
    put_back (rw whole at (put_then p q)) (omega (arith, numbers_long (content_of r)))
