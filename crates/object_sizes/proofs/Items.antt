-- An object's value and its bytes in the template, and the objects one after the other: what is left from the i-th on is the i-th and what is left behind it. Assumes nothing.
use mathlib.Core.Path.{◌≡◌, refl, ap, ◌∙◌}
use mathlib.Core.List.{List, [], ◌∷◌, ◌++◌, map}
use Prim.Native.Nat.{ℕ, suc, ◌+◌, ◌≤◌, ◌<◌}
use native.Mathlib.Numerals.{add-one}
use native.Mathlib.Omega.{arith}
use lib.ListN.{length, get_or, take, drop, set, replicate, length-append, length-replicate, length-take, get_or-map}
use lib.Seq.{sets, length-take-le, drop-cons, take-append-le}
use Rattle.edition.specs.Rows.{tags, tag_of}
use Rattle.card.specs.declared.Object.{Object}
use Rattle.card.specs.declared.Record.{Record}
use Rattle.card.specs.Content.{value_of, content_of, no_object}
use Rattle.card.specs.Layout.{object, body, object_tags}
use Rattle.card.proofs.Layouts.{tags_next, body_none}

-- ---- a value

-- a value is as long as its object claims
pub value_long : (o : Object) → length o.bytes ≡ 28 → o.length ≤ 255 → length (value_of o) ≡ o.length
unfolding value_of
value_long o f h = length-take-le o.length (o.bytes ++ replicate 227 0) (simp (length-append, length-replicate) (omega arith))

-- a claim within the object's bytes is met by these
pub value_first : (o : Object) → o.length ≤ length o.bytes → value_of o ≡ take o.length o.bytes
unfolding value_of
value_first o h = take-append-le o.length o.bytes (replicate 227 0) h

-- a value of at most 28 bytes is an object's that claims no more
pub claim_short : (o : Object) → length (value_of o) ≤ 28 → o.length ≤ 28
unfolding value_of
claim_short o h = omega (arith, length-take o.length (o.bytes ++ replicate 227 0), length-append o.bytes (replicate 227 0), length-replicate {A = ℕ} 227 0)

-- the k-th value is that of the k-th object
pub value_at_lem : (r : Record) (k : ℕ) → get_or (content_of r).values k [] ≡ value_of (get_or r.objects k no_object)
unfolding content_of value_of
value_at_lem r k = get_or-map value_of r.objects k no_object

-- ---- an object in the template
pub object_none : (tag : ℕ) (v : List ℕ) → length v ≡ 0 → object tag v ≡ []
object_none tag [] e = refl
object_none tag (b ∷ v) e = absurd (omega arith)

pub object_some : (tag : ℕ) (v : List ℕ) → (length v ≡ 0 → ⊥) → object tag v ≡ tag ∷ length v ∷ v
object_some tag [] h = absurd (h refl)
object_some tag (b ∷ v) h = refl

-- an object that is present and claims no more than its bytes
pub record Drawn (tag : ℕ) (o : Object) : Type 0 where
  pub held : length o.bytes ≡ 28
  pub bytes : object tag (value_of o) ≡ tag ∷ o.length ∷ take o.length o.bytes
  pub size : length (object tag (value_of o)) ≡ 2 + o.length

pub drawn : (tag : ℕ) (o : Object) → length o.bytes ≡ 28 → o.length ≤ 28 → (o.length ≡ 0 → ⊥) → Drawn tag o
drawn tag o f h e =
    let n = value_long o f (omega arith) in
    let d = object_some tag (value_of o) (λ z. e (omega arith)) in
    let b : object tag (value_of o) ≡ tag ∷ o.length ∷ take o.length o.bytes =
    d ∙ ap (λ (k : ℕ). tag ∷ k ∷ value_of o) n ∙ ap (λ (v : List ℕ). tag ∷ o.length ∷ v) (value_first o (omega arith)) in
    let t = length-take-le o.length o.bytes (omega arith) in
    record { held = f; bytes = b; size = omega (arith, ap length b) }

-- the stores of an object make one run
pub head_two : (l ys : List ℕ) (at a b : ℕ) → sets (set (set l at a) (at + 1) b) (at + 2) ys ≡ sets l at (a ∷ b ∷ ys)
head_two l ys at a b =
    let e : at + 2 ≡ suc (suc at) = omega arith in
    rw (add-one at, e)

-- ---- the objects from the i-th on
abbrev pub from : ℕ → List Object → List ℕ
from i os = body (drop i object_tags) (map value_of (drop i os))

pub from_end : (os : List Object) → from 16 os ≡ []
unfolding tags
from_end os = body_none (map value_of (drop 16 os))

pub from_next : (os : List Object) (i : ℕ) → i < 16 → length os ≡ 16 → (tag : ℕ) → tag ≡ tag_of i → from i os ≡ object tag (value_of (get_or os i no_object)) ++ from (i + 1) os
unfolding body
from_next os i h all tag tagged =
    let k : i < length os = omega arith in
    rw tagged (simp (tags_next i h, drop-cons os i no_object k, add-one))
