-- A listing goes by address, each object once, outer before inner. Assumes nothing.
use mathlib.Core.Path.{◌≡◌, refl, ◌∙◌}
use Prim.Native.Nat.{ℕ, suc, ◌+◌, ◌*◌, ◌≤◌}
use native.Mathlib.Nat.{le_trans}
use native.Mathlib.Omega.{arith}
use mathlib.Core.List.{List, [], ◌∷◌, ◌++◌, append_assoc}
use lib.ListN.{length, drop, take, length-append}
use lib.Seq.{drop-drop}
use Rattle.tree.specs.Listing.{Entry, entry, took, listing}
use Rattle.lengths.specs.Lengths.{length_field}
use Rattle.tree.specs.Forest.{Forest, done, plain, template, front, encode, entries, Valid, values}
use Rattle.lengths.proofs.Laws.{field_size}
use Rattle.tree.proofs.Sound.{sound}
use Rattle.tree.proofs.Complete.{behind, value_is, rest_is, all_is}
use Rattle.tree.specs.Trees.{Below, Span, plain_of}

span_from : (lo mid hi : ℕ) (es : List Entry) → lo ≤ mid → Span mid hi es → Span lo hi es
unfolding Span
span_from lo mid hi [] h w = le_trans h w
span_from lo mid hi (entry t d a n ∷ es) h w = (le_trans h w.0, w.1)

span_append : (lo mid hi : ℕ) (es fs : List Entry) → Span lo mid es → Span mid hi fs → Span lo hi (es ++ fs)
unfolding Span
span_append lo mid hi [] fs w v = span_from lo mid hi fs w v
span_append lo mid hi (entry t d a n ∷ es) fs w v = (w.0, span_append (suc a) mid hi es fs w.1 v)

pub span_entries : (d at : ℕ) (f : Forest) → Span at (at + length (encode f)) (entries d at f)
unfolding Span encode entries
span_entries d at done = omega arith
span_entries d at (plain t v r) =
    let u = front (length v) + length v in
    let e : at + length (t ∷ (length_field (length v) ++ (v ++ encode r))) ≡ at + u + length (encode r) = omega (arith, all_is t (length v) v (encode r) refl) in
    rw e (omega arith, span_from (suc at) (at + u) (at + u + length (encode r)) (entries d (at + u) r) (omega arith) (span_entries d (at + u) r))
span_entries d at (template t i r) =
    let n = length (encode i) in
    let u = front n + n in
    let e : at + length (t ∷ (length_field n ++ (encode i ++ encode r))) ≡ at + u + length (encode r) = omega (arith, all_is t n (encode i) (encode r) refl) in
    let g : at + u ≡ at + front n + n = omega arith in
    rw e (
      omega arith,
      span_append (suc at) (at + u) (at + u + length (encode r)) (entries (suc d) (at + front n) i) (entries d (at + u) r)
          (span_from (suc at) (at + front n) (at + u) (entries (suc d) (at + front n) i) (omega arith) (rw g (span_entries (suc d) (at + front n) i))) (span_entries d (at + u) r),
    )

pub in_order : (d at : ℕ) (s : List ℕ) (es : List Entry) (u : ℕ) → Below 256 s → listing d at s ≡ took es u → Span at (at + length s) es
in_order d at s es u w e =
    let t = sound d at s es u w e in
    rw (t.bytes, t.list) at (span_entries d at t.forest)

-- an object takes two bytes at least
pub field_some : (n : ℕ) → 1 ≤ length (length_field n)
field_some n = (field_size n).0

pub two_each : (d at : ℕ) (f : Forest) → 2 * length (entries d at f) ≤ length (encode f)
unfolding encode entries
two_each d at done = omega arith
two_each d at (plain t v r) =
    let h = two_each d (at + (front (length v) + length v)) r in
    let k = field_some (length v) in
    omega (arith, all_is t (length v) v (encode r) refl)
two_each d at (template t i r) =
    let n = length (encode i) in
    let h = two_each d (at + (front n + n)) r in
    let g = two_each (suc d) (at + front n) i in
    let k = field_some n in
    simp length-append (omega (arith, all_is t n (encode i) (encode r) refl))

pub plain_append : (b : List ℕ) (es fs : List Entry) → plain_of b (es ++ fs) ≡ plain_of b es ++ plain_of b fs
unfolding plain_of
plain_append b [] fs = refl
plain_append b (entry t d a n ∷ es) fs = rw (plain_append b es fs, append_assoc)

-- .. are those of the tree, which stands in b at the address `at`
pub plain_values : (b : List ℕ) (d at : ℕ) (f : Forest) (post : List ℕ) → drop at b ≡ encode f ++ post → Valid d f → plain_of b (entries d at f) ≡ values f
unfolding encode entries Valid values plain_of
plain_values b d at done post e w = refl
plain_values b d at (plain t v r) post e w =
    let n = length v in
    let g : drop at b ≡ t ∷ (length_field n ++ (v ++ (encode r ++ post))) = e ∙ simp append_assoc in
    let h : take n (drop (at + front n) b) ≡ v = rw (← drop-drop (front n) at b, g) (value_is t n v (encode r ++ post) refl) in
    let k : drop (at + (front n + n)) b ≡ encode r ++ post = rw (← drop-drop (front n + n) at b, g) (rest_is t n v (encode r ++ post) refl) in
    rw (w.0.1, h, plain_values b d (at + (front n + n)) r post k w.1)
plain_values b d at (template t i r) post e w =
    let n = length (encode i) in
    let g : drop at b ≡ t ∷ (length_field n ++ (encode i ++ (encode r ++ post))) = e ∙ simp append_assoc in
    let h : drop (at + front n) b ≡ encode i ++ (encode r ++ post) = rw (← drop-drop (front n) at b, g) (behind t n (encode i) (encode r ++ post) refl) in
    let k : drop (at + (front n + n)) b ≡ encode r ++ post = rw (← drop-drop (front n + n) at b, g) (rest_is t n (encode i) (encode r ++ post) refl) in
    rw (
      w.0.1,
      plain_append b (entries (suc d) (at + front n) i) (entries d (at + (front n + n)) r),
      plain_values b (suc d) (at + front n) i (encode r ++ post) h w.1.0,
      plain_values b d (at + (front n + n)) r post k w.1.1,
    )
