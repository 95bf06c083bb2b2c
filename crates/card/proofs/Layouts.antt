-- The parts of a layout, and their lengths. Assumes nothing.
use Prim.Native.Nat.{ℕ, ◌+◌, ◌-◌, ◌≤◌, ◌<◌}
use native.Mathlib.Omega.{arith}
use mathlib.Core.Path.{◌≡◌, refl, sym, ◌∙◌}
use mathlib.Core.Bool.{Bool, true, false, cond}
use mathlib.Core.List.{List, [], ◌∷◌, ◌++◌, append_assoc}
use lib.ListN.{length, take, drop, replicate, length-append, length-drop, length-replicate}
use lib.Seq.{length-take-le, drop-cons, get_or-take}
use lib.Dec.{leb, eqb, lit≤}
use borrow.Author.Tests.{eqb-true, eqb-false, leb-true, leb-false, le-leb, lt-leb, ne_eqb}
use native.Mathlib.Numerals.{add-one}
use Rattle.edition.specs.Rows.{tags, tag_of}
use Rattle.edition.specs.declared.Edition.{Edition}
use Rattle.card.specs.Content.{Content}
use Rattle.lengths.specs.Lengths.{length_field}
use Rattle.card.specs.Layout.{body, object_tags, identifier, head, xor_all, template_length, summed, template, spaces, lasts, filler, objects_of, layout}
use Rattle.card.specs.Rules.{Allowed}

pub length_field_lem : (l : ℕ) → l ≤ 255 → (1 ≤ length (length_field l)) × (length (length_field l) ≤ 2)
unfolding length_field
length_field_lem l h = rw (le-leb l 255 h) (go (leb l 127))
  where
    go : (q : Bool) → (1 ≤ length (cond q (l ∷ []) (0x81 ∷ l ∷ []))) × (length (cond q (l ∷ []) (0x81 ∷ l ∷ [])) ≤ 2)
    go true = (lit≤ tt, lit≤ tt)
    go false = (lit≤ tt, lit≤ tt)

pub length_head : (a : ℕ) (f : List ℕ) → length f ≡ 12 → length (head a f) ≡ 30
unfolding head identifier
length_head a f n =
    let front : length (take 11 f) ≡ 11 = length-take-le 11 f (omega arith) in
    let back : length (drop 11 f) ≡ 1 = rw (length-drop, n) in
    simp (length-append, front, back)

-- ---- the tags, and the objects from the i-th on
pub tags_next : (i : ℕ) → i < 16 → drop i object_tags ≡ tag_of i ∷ drop (i + 1) object_tags
unfolding tags
tags_next i h = drop-cons object_tags i 0 h ∙ rw (get_or-take 16 tags i 0 h, add-one)

pub body_none : (vs : List (List ℕ)) → body [] vs ≡ []
unfolding body
body_none [] = refl
body_none (v ∷ vs) = refl

-- ---- the template
pub length_summed : (o : List ℕ) → length (summed o) ≡ length (length_field (template_length o)) + length o + 3
unfolding summed
length_summed o = simp (length-append) (omega arith)

pub opened : (o : List ℕ) (k : ℕ) (x : List ℕ) → summed o ++ (k ∷ x) ≡ 0x60 ∷ (length_field (template_length o) ++ (o ++ (0x8E ∷ 1 ∷ k ∷ x)))
unfolding summed
opened o k x = simp append_assoc

-- ---- the filler ends in the last byte
pub record Ends (t last : ℕ) : Type 0 where
  pub before : List ℕ
  pub bytes : filler t last ≡ before ++ (last ∷ [])
  pub size : length before ≡ t

pub filler_ends : (t last : ℕ) → 2 ≤ t → t ≤ 255 → Ends t last
unfolding filler spaces lasts length_field
filler_ends t last h h' = go (leb t 129) refl (eqb t 130) refl
  where
    go : (q : Bool) → leb t 129 ≡ q → (m : Bool) → eqb t 130 ≡ m → Ends t last
    go true p m e =
        let no : eqb t 130 ≡ false = ne_eqb t 130 (omega (arith, leb-true t 129 p)) in
        let short : leb (t - 2) 127 ≡ true = le-leb (t - 2) 127 (omega (arith, leb-true t 129 p)) in
        record {
          before = 0xC0 ∷ (t - 2) ∷ replicate (t - 2) 0x20;
          bytes = rw (p, no, short);
          size = rw length-replicate (omega arith);
        }
    go false p true e = record {
      before = 0xC0 ∷ 127 ∷ (replicate 127 0x20 ++ (last ∷ []));
      bytes = rw (p, e);
      size = sym (eqb-true t 130 e);
    }
    go false p false e =
        let long : leb (t - 3) 127 ≡ false = lt-leb (t - 3) 127 (omega (arith, leb-false t 129 p, eqb-false t 130 e)) in
        let two : leb (t - 3) 255 ≡ true = le-leb (t - 3) 255 (omega arith) in
        record {
          before = 0xC0 ∷ 0x81 ∷ (t - 3) ∷ replicate (t - 3) 0x20;
          bytes = rw (p, e, long, two);
          size = rw length-replicate (omega (arith, leb-false t 129 p));
        }

pub length_filler : (t last : ℕ) → 2 ≤ t → t ≤ 255 → length (filler t last) ≡ t + 1
length_filler t last h h' =
    let e : Ends t last = filler_ends t last h h' in
    rw (e.bytes, length-append) (omega (arith, e.size))

-- ---- the layout as one row of parts
pub layout_parts : (c : Content) (o : List ℕ) → o ≡ objects_of c
    → layout c ≡ head c.first c.free ++ (summed o ++ (xor_all (summed o) ∷ filler (224 - length (summed o)) c.last))
unfolding layout template
layout_parts c o e = rw (e, next, append_assoc)
  where
    next : (s : List ℕ) (x : ℕ) → 255 - (30 + length (s ++ (x ∷ []))) ≡ 224 - length s
    next s x = omega (arith, length-append s (x ∷ []))

-- the layout of an allowed content has 256 bytes
pub layout_256 : (e : Edition) (c : Content) → Allowed e c → length (layout c) ≡ 256
layout_256 e c a =
    let o : List ℕ = objects_of c in
    let f = length_field_lem (template_length o) (omega (arith, a.most)) in
    let n : length (summed o) ≡ length (length_field (template_length o)) + length o + 3 = length_summed o in
    let t = length_filler (224 - length (summed o)) c.last (omega (arith, a.most)) (omega arith) in
    rw (layout_parts c o refl) (simp (length-append, length_head c.first c.free a.free, t) (omega (arith, a.most)))
