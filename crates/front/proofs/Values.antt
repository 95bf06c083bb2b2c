-- An object's value: how long it is, and its bytes. Assumes nothing.
use mathlib.Core.Path.{◌≡◌}
use mathlib.Core.List.{[], ◌++◌}
use Prim.Native.Nat.{ℕ, ◌≤◌}
use native.Mathlib.Omega.{arith}
use lib.ListN.{length, get_or, take, replicate, length-append, length-replicate, get_or-map}
use lib.Seq.{length-take-le, take-append-le}
use Rattle.card.specs.declared.Object.{Object}
use Rattle.card.specs.declared.Record.{Record}
use Rattle.card.specs.Content.{value_of, content_of, no_object}

-- a value is as long as its object claims
pub value_long : (o : Object) → length o.bytes ≡ 28 → o.length ≤ 255 → length (value_of o) ≡ o.length
unfolding value_of
value_long o f h = length-take-le o.length (o.bytes ++ replicate 227 0) (simp (length-append, length-replicate) (omega arith))

-- a claim within the object's bytes is met by these
pub value_first : (o : Object) → o.length ≤ length o.bytes → value_of o ≡ take o.length o.bytes
unfolding value_of
value_first o h = take-append-le o.length o.bytes (replicate 227 0) h

-- the k-th value is that of the k-th object
pub value_at_lem : (r : Record) (k : ℕ) → get_or (content_of r).values k [] ≡ value_of (get_or r.objects k no_object)
unfolding content_of value_of
value_at_lem r k = get_or-map value_of r.objects k no_object
