-- The bytes of a layout are below 256. Assumes nothing.
use Prim.Native.Nat.{ℕ, zero, suc, ◌+◌, ◌≤◌, ◌<◌}
use native.Mathlib.Omega.{arith}
use mathlib.Core.Path.{◌≡◌, refl}
use mathlib.Core.Bool.{Bool, true, false, cond, ◌&&◌, ◌||◌}
use mathlib.Core.List.{List, [], ◌∷◌, ◌++◌}
use lib.ListN.{length, take, drop, get_or, replicate}
use lib.Dec.{leb, ltb, eqb, lit<, lit≤}
use borrow.Author.Tests.{eqb-true, le-leb, leb-true, ltb-true, ne_eqb}
use Rattle.rules.specs.declared.Rule.{Rule}
use Rattle.rules.specs.declared.Rule.TheVariants.{Digits, Text, Lead, Code, Birth, Expiry, Raw, NotD}
use Rattle.edition.specs.declared.Row.{Row}
use Rattle.edition.specs.declared.Edition.{Edition}
use Rattle.edition.specs.declared.Formed.TheVariants.{Well}
use Rattle.std.specs.Prelude.{Ok}
use Rattle.ground.specs.Lists.{among}
use Rattle.rules.specs.Values.{between, is_digit, is_text, takes, judged}
use Rattle.edition.specs.Rows.{tags, set_formed, by_rule, row_formed, formed_from}
use Rattle.ground.proofs.Lists.{true_false, and_left, and_right, leading_before}
use Rattle.rules.proofs.Verdicts.{taken_means}
use Rattle.edition.proofs.Rows.{formed_rows, formed_head, row_within, permits_most}
use Rattle.card.specs.Content.{Content}
use Rattle.lengths.specs.Lengths.{length_field}
use Rattle.card.specs.Layout.{identifier, head, object, body, template_length, summed, spaces, lasts, filler, object_tags, objects_of, layout}
use Rattle.card.specs.Rules.{entries, RowMet, AllMet, none_left, one_more, first_allowed, last_allowed, Allowed}
use Rattle.card.proofs.Xor.{xor_below}
use Rattle.card.proofs.Layouts.{layout_parts}

pub data Octets : List ℕ → Type 0 where
  no-octet : Octets []
  octet : {b : ℕ} {bs : List ℕ} → b < 256 → Octets bs → Octets (b ∷ bs)

pub octets_append : {xs ys : List ℕ} → Octets xs → Octets ys → Octets (xs ++ ys)
octets_append no-octet q = q
octets_append (octet h p) q = octet h (octets_append p q)

octets_replicate : (n b : ℕ) → b < 256 → Octets (replicate n b)
octets_replicate zero b h = no-octet
octets_replicate (suc n) b h = octet h (octets_replicate n b h)

octets_take : (n : ℕ) (xs : List ℕ) → Octets xs → Octets (take n xs)
octets_take zero xs p = no-octet
octets_take (suc n) [] p = no-octet
octets_take (suc n) (x ∷ xs) (octet h p) = octet h (octets_take n xs p)

octets_drop : (n : ℕ) (xs : List ℕ) → Octets xs → Octets (drop n xs)
octets_drop zero xs p = p
octets_drop (suc n) [] p = no-octet
octets_drop (suc n) (x ∷ xs) (octet h p) = octets_drop n xs p

-- by one computed test
abbrev are_octets : List ℕ → Bool
are_octets [] = true
are_octets (x ∷ xs) = ltb x 256 && are_octets xs

octets_by : (xs : List ℕ) → are_octets xs ≡ true → Octets xs
octets_by [] t = no-octet
octets_by (x ∷ xs) t = octet (ltb-true x 256 (and_left (ltb x 256) (are_octets xs) t)) (octets_by xs (and_right (ltb x 256) (are_octets xs) t))

octets_each : (xs : List ℕ) → ((k : ℕ) → k < length xs → get_or xs k 0 < 256) → Octets xs
octets_each [] h = no-octet
octets_each (x ∷ xs) h = octet (h 0 (omega arith)) (octets_each xs (λ k l. h (suc k) (omega arith)))

pub octet_at : {xs : List ℕ} (k : ℕ) → Octets xs → k < length xs → get_or xs k 0 < 256
octet_at k no-octet l = absurd (omega arith)
octet_at zero (octet h p) l = h
octet_at (suc k) (octet h p) l = octet_at k p (omega arith)

-- ---- a character of a rule that is not raw is a byte
or_below : (a c : Bool) (b : ℕ) → (a ≡ true → b < 256) → (c ≡ true → b < 256) → (a || c) ≡ true → b < 256
or_below true c b f g h = f refl
or_below false c b f g h = g h

within_below : (x y b : ℕ) → y < 256 → between x y b ≡ true → b < 256
within_below x y b h t = omega (arith, leb-true b y (and_right (leb x b) (leb b y) t))

among_below : (b : ℕ) (ts : List ℕ) → Octets ts → among b ts ≡ true → b < 256
unfolding among
among_below b [] no-octet t = absurd (true_false t refl)
among_below b (x ∷ ts) (octet h p) t = or_below (eqb b x) (among b ts) b (λ e. rw (eqb-true b x e) h) (among_below b ts p) t

digit_below : (b : ℕ) → is_digit b ≡ true → b < 256
digit_below b t = within_below 0x30 0x39 b (lit< tt) t

text_below : (b : ℕ) → is_text b ≡ true → b < 256
unfolding is_text
text_below b t =
    or_below _ (among b signs) b
    (or_below _ (among b letters) b
    (or_below _ (between 0x61 0x7A b) b (or_below (is_digit b) (between 0x41 0x5A b) b (digit_below b) (within_below 0x41 0x5A b (lit< tt))) (within_below 0x61 0x7A b (lit< tt)))
    (among_below b letters (octets_by letters refl)))
    (among_below b signs (octets_by signs refl))
    t
  where
    letters : List ℕ
    letters = 0x5B ∷ 0x5C ∷ 0x5D ∷ 0x7B ∷ 0x7C ∷ 0x7D ∷ 0x7E ∷ []

    signs : List ℕ
    signs = 0x20 ∷ 0x26 ∷ 0x27 ∷ 0x28 ∷ 0x29 ∷ 0x2B ∷ 0x2D ∷ 0x2E ∷ 0x2F ∷ 0x5F ∷ []

-- a row of the sixteen objects is not raw
plain_below : (rule : Rule) (b : ℕ) → by_rule rule true true true false ≡ true → takes rule b ≡ true → b < 256
plain_below Digits b f t = digit_below b t
plain_below Text b f t = text_below b t
plain_below Lead b f t = digit_below b t
plain_below Code b f t = text_below b t
plain_below Birth b f t = digit_below b t
plain_below Expiry b f t = digit_below b t
plain_below Raw b f t = absurd (true_false f refl)
plain_below NotD b f t = text_below b t

not_raw : (rule : Rule) (x y : Bool) → by_rule rule true x y false ≡ true → by_rule rule true true true false ≡ true
not_raw Digits x y h = refl
not_raw Text x y h = refl
not_raw Lead x y h = refl
not_raw Code x y h = refl
not_raw Birth x y h = refl
not_raw Expiry x y h = refl
not_raw Raw x y h = h
not_raw NotD x y h = refl

value_octets : (r : Row) (v : List ℕ) → row_formed false r ≡ true → judged r.rule v ≡ Ok tt → Octets v
value_octets r v f t =
    let plain = not_raw r.rule _ _ (and_right (set_formed r.lengths) _ f) in
    octets_each v (λ k h. plain_below r.rule (get_or v k 0) plain (leading_before (takes r.rule) 0 v k (omega (arith, (taken_means r.rule v t).0))))

-- ---- the objects
object_octets : (t : ℕ) (r : Row) (v : List ℕ) → t < 256 → row_formed false r ≡ true → RowMet r v → Octets (object t v)
object_octets t r [] h f m = no-octet
object_octets t r (b ∷ v) h f m =
    let short = permits_most r.lengths (suc (length v)) (row_within false r f).small m.0 in
    octet h (octet {b = suc (length v)} (omega arith) (value_octets r (b ∷ v) f m.1))

body_octets : (k : ℕ) (ts : List ℕ) (rs : List Row) (vs : List (List ℕ)) → k + length ts ≤ 16 → Octets ts → formed_from k rs ≡ Well → AllMet (entries ts rs) vs → Octets (body ts vs)
unfolding entries body
body_octets k [] rs vs n no-octet f none_left = no-octet
body_octets k (t ∷ ts) [] vs n p f none_left = no-octet
body_octets k (t ∷ ts) (r ∷ rs) vs n (octet h p) f (one_more {v = v} {vs = us} m a) =
    let w = formed_head k r rs f in
    let before : eqb k 16 ≡ false = ne_eqb k 16 (omega arith) in
    octets_append (object_octets t r v h (rw before at w.0) m) (body_octets (suc k) ts rs us (omega arith) p w.1 a)

sixteen : 0 + length object_tags ≤ 16
unfolding tags
sixteen = lit≤ tt

tags_octets : Octets object_tags
unfolding tags
tags_octets = octets_by object_tags refl

-- ---- the other parts
field_octets : (l : ℕ) → l < 256 → Octets (length_field l)
unfolding length_field
field_octets l h = rw (le-leb l 255 (omega arith)) (go (leb l 127))
  where
    go : (q : Bool) → Octets (cond q (l ∷ []) (0x81 ∷ l ∷ []))
    go true = octet h no-octet
    go false = octet (lit< tt) (octet h no-octet)

cond_below : (q : Bool) (a b n : ℕ) → a ≤ n → b ≤ n → cond q a b ≤ n
cond_below true a b n h k = h
cond_below false a b n h k = k

filler_octets : (t last : ℕ) → t ≤ 255 → last < 256 → Octets (filler t last)
unfolding filler spaces
filler_octets t last h l =
    let few : spaces t ≤ 255 = cond_below (leb t 129) _ _ 255 (omega arith) (cond_below (eqb t 130) _ _ 255 (omega arith) (omega arith)) in
    octet (lit< tt) (octets_append (field_octets (spaces t) (omega arith)) (octets_append (octets_replicate (spaces t) 0x20 (lit< tt)) (octets_replicate (lasts t) last l)))

summed_octets : (o : List ℕ) → template_length o < 256 → Octets o → Octets (summed o)
unfolding summed
summed_octets o h p =
    octet (lit< tt) (octets_append (field_octets (template_length o) h) (octets_append p (octet (lit< tt) (octet (lit< tt) no-octet))))

head_octets : (first : ℕ) (free : List ℕ) → first < 256 → Octets free → Octets (head first free)
unfolding head identifier
head_octets first free h p =
    octet h (octets_append (octets_by (0x13 ∷ 0x10 ∷ 0x91 ∷ 0x46 ∷ 0x0B ∷ []) refl) (octets_append (octets_take 11 free p)
    (octets_append (octets_by (0x61 ∷ 0x0B ∷ 0x4F ∷ 0x06 ∷ 0xD2 ∷ 0x76 ∷ 0x00 ∷ 0x00 ∷ 0x01 ∷ 0x01 ∷ 0x53 ∷ 0x01 ∷ []) refl) (octets_drop 11 free p))))

first_below : (b : ℕ) → first_allowed b ≡ true → b < 256
unfolding first_allowed
first_below b t = or_below _ (eqb b 0xA2) b (or_below (eqb b 0x82) (eqb b 0x92) b (is 0x82 (lit< tt)) (is 0x92 (lit< tt))) (is 0xA2 (lit< tt)) t
  where
    is : (n : ℕ) → n < 256 → eqb b n ≡ true → b < 256
    is n h e = rw (eqb-true b n e) h

last_below : (first b : ℕ) → last_allowed first b ≡ true → b < 256
unfolding last_allowed
last_below first b t =
    or_below (eqb b 0x00) (eqb first 0x82 && eqb b 0xFF) b (λ e. rw (eqb-true b 0x00 e) (lit< tt)) (λ e. rw (eqb-true b 0xFF (and_right (eqb first 0x82) (eqb b 0xFF) e)) (lit< tt)) t

-- the bytes of the layout of an allowed content are below 256, where the free bytes are
pub layout_octets : (e : Edition) (c : Content) → Allowed e c → Octets c.free → Octets (layout c)
layout_octets e c a p =
    let o : Octets (objects_of c) = body_octets 0 object_tags e.rows c.values sixteen tags_octets (formed_rows e a.formed) a.rows in
    let s : Octets (summed (objects_of c)) = summed_octets (objects_of c) (omega (arith, a.most)) o in
    rw (layout_parts c (objects_of c) refl)
    (octets_append (head_octets c.first c.free (first_below c.first a.first) p)
    (octets_append s (octet (xor_below (summed (objects_of c)) (λ k h. octet_at k s h)) (filler_octets _ c.last (omega arith) (last_below c.first c.last a.last)))))
