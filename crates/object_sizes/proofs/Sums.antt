-- The sizes of objects one after the other, and their sum in the template. Assumes nothing.
use Prim.Native.Nat.{ℕ, ◌+◌, ◌≤◌, ◌<◌}
use native.Mathlib.Nat.{le_of_suc-le-suc}
use native.Mathlib.Numerals.{add-one}
use native.Mathlib.Omega.{arith}
use borrow.Author.Tests.{ne_eqb}
use mathlib.Core.Path.{◌≡◌, refl, ap₂, ◌∙◌}
use mathlib.Core.List.{List, [], ◌∷◌, map}
use lib.ListN.{length, get_or, drop, length-append, length-map, drop_of_length-le}
use lib.Seq.{drop-cons}
use Rattle.edition.specs.Rows.{tags}
use Rattle.card.specs.declared.Record.{Record}
use Rattle.card.specs.Content.{Content, content_of}
use Rattle.card.specs.Layout.{object, body, object_tags, objects_of}
use Rattle.card.specs.Refusals.{or_else}
use Rattle.card.specs.Sums.{sums_refusal, nowhere}
use Rattle.card.specs.Refusing.{template_refusal}
use Rattle.object_sizes.specs.Sizes.{size_with, size_of, size_refusal, sizes_refusal}

-- ---- the sum, one object after the other
pub size_next : (ns : List ℕ) (i : ℕ) → i < length ns → size_of (drop i ns) ≡ size_with (get_or ns i 0) + size_of (drop (i + 1) ns)
unfolding size_of
size_next ns i h = rw (add-one, drop-cons ns i 0 h)

pub size_end : (ns : List ℕ) (i : ℕ) → length ns ≤ i → size_of (drop i ns) ≡ 0
unfolding size_of
size_end ns i h = rw (drop_of_length-le ns h)

-- ---- the sum is the length of the objects in the template
object_size : (t : ℕ) (v : List ℕ) → length (object t v) ≡ size_with (length v)
object_size t [] = refl
object_size t (b ∷ v) = rw (ne_eqb (length (b ∷ v)) 0 (λ e. absurd (omega arith))) (omega arith)

body_size : (ts : List ℕ) (vs : List (List ℕ)) → length vs ≤ length ts → length (body ts vs) ≡ size_of (map length vs)
unfolding body size_of
body_size ts [] h = refl
body_size [] (v ∷ vs) h = absurd (omega arith)
body_size (t ∷ ts) (v ∷ vs) h =
    length-append (object t v) (body ts vs) ∙ ap₂ (λ (a b : ℕ). a + b) (object_size t v) (body_size ts vs (le_of_suc-le-suc h))

pub objects_long : (c : Content) → length c.values ≡ 16 → length (objects_of c) ≡ size_of (map length c.values)
unfolding tags
objects_long c n = body_size object_tags c.values (omega arith)

pub content_count : (r : Record) → length r.objects ≡ 16 → length (content_of r).values ≡ 16
unfolding content_of
content_count r n = length-map r.objects _ ∙ n

pub sizes_order : (c : Content) → length c.values ≡ 16 → sizes_refusal (map length c.values) ≡ or_else (sums_refusal nowhere (map length c.values)) (template_refusal c)
unfolding sizes_refusal size_refusal template_refusal
sizes_order c n = rw (objects_long c n)
