-- A record comes back from its bytes. Assumes nothing.
use Prim.Native.Nat.{ℕ, suc, ◌+◌, ◌<◌, suc-le-suc}
use native.Mathlib.Nat.{zero-lt-suc}
use native.Mathlib.Omega.{arith}
use borrow.Author.Tests.{eqb-true, eqb-false}
use mathlib.Core.Bool.{Bool, true, false}
use lib.Dec.{eqb}
use mathlib.Core.Path.{◌≡◌, refl, sym, ap, ◌∙◌}
use mathlib.Core.List.{List, [], ◌∷◌, ◌++◌, append_assoc}
use lib.ListN.{length, get_or, length-append}
use lib.Seq.{take_at, drop-append-add, get_or_at}
use Rattle.card.specs.declared.Object.{Object}
use Rattle.card.specs.declared.Record.{Record}
use Rattle.card.specs.Content.{no_object}
use Rattle.ground.specs.Pieces.{joined}
use Rattle.ground.proofs.Pieces.{Each, none_left, one_more, pieces_back, joined_length}
use Rattle.wire_records.specs.Records.{object_from, record_from, lent_record, object_bytes, record_bytes}
use Rattle.wire_records.proofs.Sizes.{lent_record_lem}

-- a record as the code has it: twelve free bytes, and sixteen objects of 28 bytes
pub record Whole (r : Record) : Type 0 where
  pub free_bytes : length r.free ≡ 12
  pub object_count : length r.objects ≡ 16
  pub object_bytes_lem : Each object_bytes 29 r.objects

pub record_back : (r : Record) → Whole r → record_from (record_bytes r) ≡ r
unfolding record_from record_bytes
record_back r w =
    let rest = joined object_bytes r.objects ++ (r.number ∷ []) in
    let os = rw w.object_count at (pieces_back object_bytes object_from 29 (λ o. refl) w.object_bytes_lem (r.number ∷ [])) in
    let behind = rw w.free_bytes at (drop-append-add r.free (r.last ∷ rest) 1) in
    let long : length (joined object_bytes r.objects) ≡ 464 = joined_length object_bytes 29 w.object_bytes_lem ∙ rw w.object_count refl in
    let head : List ℕ = r.free ++ (r.last ∷ joined object_bytes r.objects) in
    let size : length head ≡ 477 = length-append r.free (r.last ∷ joined object_bytes r.objects) ∙ rw (w.free_bytes, long) refl in
    let number : get_or (r.free ++ (r.last ∷ rest)) 477 0 ≡ r.number =
    ap (λ (l : List ℕ). get_or l 477 0) (sym (append_assoc r.free (r.last ∷ joined object_bytes r.objects) (r.number ∷ [])))
    ∙ get_or_at head r.number [] 0 477 size in
    rw (take_at r.free _ 12 w.free_bytes, get_or_at r.free r.last _ 0 12 w.free_bytes, behind, os, number)

-- ---- the 28 bytes of each object, below k and then below k + 1
pub held_more : (os : List Object) (k : ℕ) → length (get_or os k no_object).bytes ≡ 28 → ((j : ℕ) → j < k → length (get_or os j no_object).bytes ≡ 28)
    → (j : ℕ) → j < k + 1 → length (get_or os j no_object).bytes ≡ 28
held_more os k here before j h = go (eqb j k) refl
  where
    go : (q : Bool) → eqb j k ≡ q → length (get_or os j no_object).bytes ≡ 28
    go true e = rw (eqb-true j k e) here
    go false e = before j (omega (arith, eqb-false j k e))

pub each_held : (os : List Object) → ((j : ℕ) → j < length os → length (get_or os j no_object).bytes ≡ 28) → Each object_bytes 29 os
each_held [] h = none_left
each_held (o ∷ os) h = one_more {x = o} (ap suc (h 0 (zero-lt-suc (length os)))) (each_held os (λ j l. h (suc j) (suc-le-suc l)))

record_long : (r : Record) → Whole r → length (record_bytes r) ≡ 479
unfolding record_bytes
record_long r w =
    let long : length (joined object_bytes r.objects) ≡ 464 = joined_length object_bytes 29 w.object_bytes_lem ∙ rw w.object_count refl in
    simp length-append (omega (arith, long, w.free_bytes))

-- the bytes of a record, lent, are the record
pub record_lent : (r : Record) → Whole r → lent_record (record_bytes r) ≡ r
record_lent r w = lent_record_lem (record_bytes r) (record_long r w) ∙ record_back r w
