-- One bad byte is always seen. Of two images that meet the rules and differ in one byte from address 30 on, the templates end at one address: the filler's tag stands there
-- and nowhere behind it, and where both length bytes are the same they say it. So the change is in a template, whose exclusive or with its checksum is then no longer 0, or in a
-- filler, and one filler only is due there. Nothing of the reader is used. Assumes nothing.
use Prim.Native.Nat.{ℕ, zero, suc, ◌+◌, ◌-◌, ◌≤◌, ◌<◌}
use native.Mathlib.Omega.{arith}
use mathlib.Core.Path.{◌≡◌, refl, sym, ap, ◌∙◌}
use mathlib.Core.Bool.{Bool, true, false, cond, ◌&&◌}
use mathlib.Core.List.{List, [], ◌∷◌, ◌++◌, append_assoc}
use lib.ListN.{length, take, drop, get_or, set, replicate, length-append, length-replicate}
use lib.Seq.{get_or-set_other, get_or-set_same, drop-set-add, length-take-le, take-set-lt, take-append_seam, drop_at, get_or_at, get_or-take, get_or-drop, get_or-append_seam, get_or-append-add}
use lib.Dec.{leb, eqb, lit≤}
use lib.Bits.{bit_xor, xor_comm}
use borrow.Author.Tests.{le-leb, leb-true, leb-false, eqb-true, eqb-false}
use Rattle.edition.specs.declared.Edition.{Edition}
use Rattle.ground.proofs.Lists.{true_false}
use Rattle.card.specs.Content.{Content}
use Rattle.lengths.specs.Lengths.{length_field}
use Rattle.card.specs.Layout.{head, xor_all, template_length, summed, template, spaces, lasts, filler, objects_of, layout}
use Rattle.card.specs.Rules.{last_allowed, Allowed, Meets}
use Rattle.card.proofs.Layouts.{length_field_lem, length_head, length_summed, opened, filler_ends, length_filler}
use Rattle.card.proofs.Xor.{xor_cancel, xor_closed}
use Rattle.demands.specs.Demands.{Reader, Writer, Demand2, library_reader}
use Rattle.demands.specs.OneByte.{filler_last, SeesOneByte, FillerEnds}
use Rattle.demands.proofs.Library.{library}

-- ---- the exclusive or with one byte changed
xor_right : (a b c : ℕ) → bit_xor a c ≡ bit_xor b c → a ≡ b
xor_right a b c e = sym (xor_cancel a c) ∙ ap (λ (x : ℕ). bit_xor x c) e ∙ xor_cancel b c

xor_left : (a b c : ℕ) → bit_xor c a ≡ bit_xor c b → a ≡ b
xor_left a b c e = xor_right a b c (xor_comm a c ∙ e ∙ xor_comm c b)

xor_set : (l : List ℕ) (i x : ℕ) → i < length l → xor_all (set l i x) ≡ xor_all l → x ≡ get_or l i 0
unfolding xor_all
xor_set [] i x h e = absurd (omega arith)
xor_set (b ∷ l) zero x h e = xor_right x b (xor_all l) e
xor_set (b ∷ l) (suc i) x h e = xor_set l i x (omega arith) (xor_left (xor_all (set l i x)) (xor_all l) b e)

-- ---- behind its first byte the filler has no 'C0'
last_not : (a b : ℕ) → last_allowed a b ≡ true → b ≡ 0xC0 → ⊥
unfolding last_allowed
last_not a b h e = go (eqb a 0x82) (rw e at h)
  where
    go : (q : Bool) → (q && false) ≡ true → ⊥
    go true h = true_false h refl
    go false h = true_false h refl

run_not : (n b : ℕ) → (b ≡ 0xC0 → ⊥) → (i : ℕ) → get_or (replicate n b) i 0 ≡ 0xC0 → ⊥
run_not zero b f i e = absurd (omega arith)
run_not (suc n) b f zero e = f e
run_not (suc n) b f (suc i) e = run_not n b f i e

spaces_not : (n : ℕ) (t : List ℕ) → ((i : ℕ) → get_or t i 0 ≡ 0xC0 → ⊥) → (j : ℕ) → get_or (replicate n 0x20 ++ t) j 0 ≡ 0xC0 → ⊥
spaces_not zero t h j e = h j e
spaces_not (suc n) t h zero e = absurd (omega arith)
spaces_not (suc n) t h (suc j) e = spaces_not n t h j e

field_not : (n : ℕ) (t : List ℕ) → n < 0xC0 → ((i : ℕ) → get_or t i 0 ≡ 0xC0 → ⊥) → (j : ℕ) → get_or (length_field n ++ t) j 0 ≡ 0xC0 → ⊥
unfolding length_field
field_not n t l h j = rw (le-leb n 255 (omega arith)) (go (leb n 127) j)
  where
    go : (q : Bool) (j : ℕ) → get_or (cond q (n ∷ []) (0x81 ∷ n ∷ []) ++ t) j 0 ≡ 0xC0 → ⊥
    go true zero e = absurd (omega arith)
    go true (suc j) e = h j e
    go false zero e = absurd (omega arith)
    go false (suc zero) e = absurd (omega arith)
    go false (suc (suc j)) e = h j e

few_spaces : (t : ℕ) → t ≤ 153 → spaces t < 0xC0
unfolding spaces
few_spaces t h = go (leb t 129) (eqb t 130)
  where
    go : (q m : Bool) → cond q (t - 2) (cond m 127 (t - 3)) < 0xC0
    go true m = omega arith
    go false true = omega arith
    go false false = omega arith

filler_later : (t last : ℕ) → t ≤ 153 → (last ≡ 0xC0 → ⊥) → (j : ℕ) → get_or (filler t last) (suc j) 0 ≡ 0xC0 → ⊥
unfolding filler
filler_later t last few f =
    field_not (spaces t) (replicate (spaces t) 0x20 ++ replicate (lasts t) last) (few_spaces t few)
    (spaces_not (spaces t) (replicate (lasts t) last) (run_not (lasts t) last f))

-- ---- what stands from address 30 on: a template, and the filler that is due behind it
record Behind (r : List ℕ) : Type 0 where
  objects : List ℕ
  last : ℕ
  least : 70 ≤ template_length objects
  most : template_length objects ≤ 212
  no_tag : last ≡ 0xC0 → ⊥
  bytes : r ≡ template objects ++ filler (255 - (30 + length (template objects))) last

length_template : (o : List ℕ) → length (template o) ≡ 1 + length (length_field (template_length o)) + template_length o
unfolding template
length_template o = rw length-append (omega (arith, length_summed o))

template_least : (o : List ℕ) → 70 ≤ template_length o → template_length o ≤ 212 → 72 ≤ length (template o)
template_least o h k = omega (arith, length_template o, (length_field_lem (template_length o) (omega arith)).0)

template_most : (o : List ℕ) → template_length o ≤ 212 → length (template o) ≤ 215
template_most o h = omega (arith, length_template o, (length_field_lem (template_length o) (omega arith)).1)

module _ {r : List ℕ} (b : Behind r) where
  -- where the filler starts
  abbrev end : ℕ
  end = length (template b.objects)

  end-least : 72 ≤ end
  end-least = template_least b.objects b.least b.most

  end-most : end ≤ 215
  end-most = template_most b.objects b.most

  tag-at-end : get_or r end 0 ≡ 0xC0
  unfolding filler
  tag-at-end = rw b.bytes (get_or-append_seam (template b.objects) 0xC0 _ 0)

  in-filler : (j : ℕ) → get_or r (end + j) 0 ≡ get_or (filler (255 - (30 + end)) b.last) j 0
  in-filler j = rw b.bytes (get_or-append-add (template b.objects) (filler (255 - (30 + end)) b.last) j 0)

  no-tag-behind : (j : ℕ) → get_or r (end + suc j) 0 ≡ 0xC0 → ⊥
  no-tag-behind j e = filler_later (255 - (30 + end)) b.last (omega (arith, end-least)) b.no_tag j (sym (in-filler (suc j)) ∙ e)

  size : length r ≡ 226
  size = rw (b.bytes, length-append) (omega (arith, end-most, length_filler (255 - (30 + end)) b.last (omega (arith, end-most)) (omega arith)))

  -- the exclusive or of a template with its checksum is 0
  sum-0 : xor_all (take end r) ≡ 0
  unfolding template
  sum-0 = rw (b.bytes, take-append_seam (template b.objects) (filler (255 - (30 + end)) b.last)) (xor_closed (summed b.objects))

  -- the last byte
  last_at : get_or r 225 0 ≡ b.last
  last_at =
      let f = filler_ends (255 - (30 + end)) b.last (omega (arith, end-most)) (omega arith) in
      rw (b.bytes, f.bytes, ← append_assoc (template b.objects) f.before (b.last ∷ []))
      (get_or_at (template b.objects ++ f.before) b.last [] 0 225 (simp length-append (omega (arith, f.size, end-most))))

  -- the tag, the length field, and the rest
  abbrev rest : List ℕ
  rest = b.objects ++ (0x8E ∷ 1 ∷ xor_all (summed b.objects) ∷ filler (255 - (30 + end)) b.last)

  opens : r ≡ 0x60 ∷ (length_field (template_length b.objects) ++ rest)
  unfolding template
  opens =
      b.bytes ∙ append_assoc (summed b.objects) (xor_all (summed b.objects) ∷ []) (filler (255 - (30 + end)) b.last)
      ∙ opened b.objects (xor_all (summed b.objects)) (filler (255 - (30 + end)) b.last)

-- ---- the templates end at one address: where the bytes from the third on are the same ..
not_before : (r q : List ℕ) (b : Behind r) (d : Behind q) → ((i : ℕ) → 3 ≤ i → get_or q i 0 ≡ get_or r i 0) → end b < end d → ⊥
not_before r q b d same less = no-tag-behind b (end d - suc (end b)) (ap (λ (n : ℕ). get_or r n 0) at ∙ sym (same (end d) (omega (arith, end-least d))) ∙ tag-at-end d)
  where
    at : end b + suc (end d - suc (end b)) ≡ end d
    at = omega arith

-- .. and where the length field is the same
same_length : (l m : ℕ) (u v : List ℕ) → l ≤ 255 → m ≤ 255 → get_or (length_field l ++ u) 0 0 ≡ get_or (length_field m ++ v) 0 0 → get_or (length_field l ++ u) 1 0 ≡ get_or (length_field m ++ v) 1 0 → l ≡ m
unfolding length_field
same_length l m u v hl hm = rw (le-leb l 255 hl, le-leb m 255 hm) (go (leb l 127) refl (leb m 127) refl)
  where
    go : (p : Bool) → leb l 127 ≡ p → (q : Bool) → leb m 127 ≡ q
        → get_or (cond p (l ∷ []) (0x81 ∷ l ∷ []) ++ u) 0 0 ≡ get_or (cond q (m ∷ []) (0x81 ∷ m ∷ []) ++ v) 0 0
        → get_or (cond p (l ∷ []) (0x81 ∷ l ∷ []) ++ u) 1 0 ≡ get_or (cond q (m ∷ []) (0x81 ∷ m ∷ []) ++ v) 1 0 → l ≡ m
    go true p true q e f = e
    go true p false q e f = absurd (omega (arith, leb-true l 127 p))
    go false p true q e f = absurd (omega (arith, leb-true m 127 q))
    go false p false q e f = f

same_field : (r q : List ℕ) (b : Behind r) (d : Behind q) → get_or q 1 0 ≡ get_or r 1 0 → get_or q 2 0 ≡ get_or r 2 0 → end d ≡ end b
same_field r q b d e f =
    let l : template_length d.objects ≡ template_length b.objects =
    same_length (template_length d.objects) (template_length b.objects) (rest d) (rest b) (omega (arith, d.most)) (omega (arith, b.most)) (rw (opens d, opens b) at e) (rw (opens d, opens b) at f) in
    rw (length_template d.objects, length_template b.objects, l)

equal : {m n : ℕ} → (n < m → ⊥) → (m < n → ⊥) → m ≡ n
equal {m} {n} a b = omega arith

-- ---- the byte at index j of r is another one
module _ (r : List ℕ) (j x : ℕ) (b : Behind r) (d : Behind (set r j x)) where
  off : (i : ℕ) → (i ≡ j → ⊥) → get_or (set r j x) i 0 ≡ get_or r i 0
  off i n = get_or-set_other r j i x 0 n

  same_end : end d ≡ end b
  same_end = go (leb j 2) refl
    where
      go : (q : Bool) → leb j 2 ≡ q → end d ≡ end b
      go true e =
          let l : j ≤ 2 = leb-true j 2 e in
          equal (not_before r (set r j x) b d (λ i h. off i (λ k. omega arith))) (not_before (set r j x) r d b (λ i h. sym (off i (λ k. omega arith))))
      go false e =
          let l : 2 < j = leb-false j 2 e in
          same_field r (set r j x) b d (off 1 (λ k. omega arith)) (off 2 (λ k. omega arith))

  -- in the template
  in-template : j < end b → x ≡ get_or r j 0
  in-template h =
      let room : j < length (take (end b) r) = rw (length-take-le (end b) r (omega (arith, size b, end-most b))) h in
      xor_set (take (end b) r) j x room (rw (← take-set-lt (end b) r j x h, ← same_end) (sum-0 d) ∙ sym (sum-0 b)) ∙ get_or-take (end b) r j 0 h

  -- behind it: the filler starts where it did and the last byte is the same, so it is the same filler
  behind-template : end b ≤ j → j < 225 → x ≡ get_or r j 0
  behind-template h low =
      let at : end b + (j - end b) ≡ j = omega arith in
      let last : d.last ≡ b.last = sym (last_at d) ∙ off 225 (λ k. omega arith) ∙ last_at b in
      let now : get_or (set r j x) (end b + (j - end b)) 0 ≡ get_or (filler (255 - (30 + end b)) b.last) (j - end b) 0 = rw (same_end, last) at (in-filler d (j - end b)) in
      sym (get_or-set_same r j x 0 (omega (arith, size b))) ∙ rw at at (now ∙ sym (in-filler b (j - end b)))

  no_other : j < 225 → x ≡ get_or r j 0
  no_other low = go (leb (end b) j) refl
    where
      go : (q : Bool) → leb (end b) j ≡ q → x ≡ get_or r j 0
      go true e = behind-template (leb-true (end b) j e) low
      go false e = in-template (leb-false (end b) j e)

-- ---- the images
behind : (e : Edition) (c : Content) (s : List ℕ) → Allowed e c → layout c ≡ s → Behind (drop 30 s)
unfolding layout
behind e c s m drawn = record {
  objects = objects_of c;
  last = c.last;
  least = m.least;
  most = m.most;
  no_tag = last_not c.first c.last m.last;
  bytes = rw (← drawn) (drop_at (head c.first c.free) _ 30 (length_head c.first c.free m.free));
}

-- of what meets one edition's rules, no copy with another byte at one address from 30 to 254 meets any edition's
pub one_byte_breaks : (e f : Edition) (s : List ℕ) (a x : ℕ) → Meets e s → Meets f (set s a x) → 30 ≤ a → a ≤ 254 → x ≡ get_or s a 0
one_byte_breaks e f s a x p q from to =
    let at : 30 + (a - 30) ≡ a = omega arith in
    let b : Behind (drop 30 s) = behind e p.content s p.allowed p.drawn in
    let moved : drop 30 (set s a x) ≡ set (drop 30 s) (a - 30) x = rw at at (drop-set-add 30 s (a - 30) x) in
    let d : Behind (set (drop 30 s) (a - 30) x) = rw moved at (behind f q.content (set s a x) q.allowed q.drawn) in
    rw at at (no_other (drop 30 s) (a - 30) x b d (omega arith) ∙ get_or-drop 30 s (a - 30) 0)

-- ---- the filler's last byte is at 254, at L = 93 at 253
short_field : (l : ℕ) → l ≤ 127 → length (length_field l) ≡ 1
unfolding length_field
short_field l h = rw (le-leb l 127 h)

abbrev room : Content → ℕ
room c = 255 - (30 + length (template (objects_of c)))

lasts_behind : (e : Edition) (c : Content) → Allowed e c → filler_last c + lasts (room c) ≡ 255
unfolding lasts
lasts_behind e c m = go (eqb l 93) refl (eqb (room c) 130) refl
  where
    l : ℕ
    l = template_length (objects_of c)

    long : length (template (objects_of c)) ≡ 1 + length (length_field l) + l
    long = length_template (objects_of c)

    go : (p : Bool) → eqb l 93 ≡ p → (q : Bool) → eqb (room c) 130 ≡ q → filler_last c + lasts (room c) ≡ 255
    go true p true q = rw (p, q)
    go false p false q = rw (p, q)
    go true p false q =
        let is : l ≡ 93 = eqb-true l 93 p in
        absurd (omega (arith, eqb-false (room c) 130 q, long, short_field l (omega arith)))
    go false p true q =
        let is : room c ≡ 130 = eqb-true (room c) 130 q in
        let some = length_field_lem l (omega (arith, m.most)) in
        absurd (omega (arith, eqb-false l 93 p, long, some.1, short_field l (omega (arith, long, some.0))))

pub filler_last_lem : (e : Edition) (c : Content) → Allowed e c → FillerEnds c
unfolding layout filler
filler_last_lem e c m =
    let most : length (template (objects_of c)) ≤ 215 = template_most (objects_of c) m.most in
    let whole : length (filler (room c) c.last) ≡ room c + 1 = length_filler (room c) c.last (omega arith) (omega arith) in
    let front : length (head c.first c.free) ≡ 30 = length_head c.first c.free m.free in
    record {
      spaces = spaces (room c);
      lasts = lasts (room c);
      bytes = simp append_assoc;
      ends = simp (length-append, length-replicate) (omega (arith, lasts_behind e c m, simp (length-append, length-replicate) at whole));
    }

pub about_254 : (c : Content) → (253 ≤ filler_last c) × (filler_last c ≤ 254)
about_254 c = go (eqb (template_length (objects_of c)) 93) refl
  where
    go : (q : Bool) → eqb (template_length (objects_of c)) 93 ≡ q → (253 ≤ filler_last c) × (filler_last c ≤ 254)
    go true e = rw e (lit≤ tt, lit≤ tt)
    go false e = rw e (lit≤ tt, lit≤ tt)

-- ---- Fourteen
-- one bad byte is always seen, by any reader that meets demand 2
pub one_bad_byte : (read : Reader) (write : Writer) → Demand2 read write → SeesOneByte read
one_bad_byte read write h e s a x n bad = (
  (h.accepts e s n).1 bad.met,
  λ q. bad.other (one_byte_breaks e e s a x bad.met ((h.accepts e (set s a x) n).0 q) (omega (arith, bad.from)) (omega (arith, bad.to, (about_254 bad.met.content).1))),
)

-- .. and by the library's
pub library_sees : SeesOneByte library_reader
library_sees = one_bad_byte _ _ library.second
