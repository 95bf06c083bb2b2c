-- The list has an entry exactly where two contents differ, once, in order, and no other list has. Each pair is judged alone; the rest is induction
-- along the names. Assumes nothing.
use Prim.Native.Nat.{ℕ, zero, suc, ◌<◌}
use native.Mathlib.Nat.{le_of_suc-le-suc, not-suc-le-zero}
use native.Mathlib.Omega.{arith}
use borrow.Author.Tests.{eqb-true, eqb-false, eq-eqb, ne_eqb}
use mathlib.Core.Path.{◌≡◌, refl, sym, ap, ap₂, ◌∙◌}
use mathlib.Core.Bool.{Bool, true, false, cond}
use mathlib.Core.List.{List, [], ◌∷◌, ◌++◌}
use lib.Dec.{eqb}
use lib.ListN.{length, take, get_or}
use Rattle.ground.specs.Lists.{agree}
use Rattle.ground.proofs.Lists.{agree_self, agree_same, agree_within}
use Rattle.card.specs.Content.{Content}
use Rattle.card.specs.Layout.{object_tags}
use Rattle.differences.specs.Differences.{Difference, lengths_differ, index-differs, byte-differs, of_present, of_values, of_bytes, along, addresses, bytes_of, differences_of}
use Rattle.differences.specs.Exact.{Tells, not-in-first, not-in-second, other_length, first-index, TellsByte, other_byte, Exactly, no_more, same, other, Exact}
use Rattle.differences.proofs.Single.{values_alike}

-- ---- the first index at which two lists of one length differ
take_agree : (v w : List ℕ) → take (agree v w) v ≡ take (agree v w) w
unfolding agree
take_agree [] w = refl
take_agree (b ∷ v) [] = refl
take_agree (b ∷ v) (c ∷ w) = go (eqb b c) refl (take_agree v w)
  where
    go : (q : Bool) → eqb b c ≡ q → take (agree v w) v ≡ take (agree v w) w → take (cond q (suc (agree v w)) 0) (b ∷ v) ≡ take (cond q (suc (agree v w)) 0) (c ∷ w)
    go true e ih = ap₂ (λ (x : ℕ) (xs : List ℕ). x ∷ xs) (eqb-true b c e) ih
    go false e ih = refl

at_agree : (v w : List ℕ) → length v ≡ length w → agree v w < length v → get_or v (agree v w) 0 ≡ get_or w (agree v w) 0 → ⊥
unfolding agree
at_agree [] w n h = absurd (not-suc-le-zero h)
at_agree (b ∷ v) [] n h = absurd (omega arith)
at_agree (b ∷ v) (c ∷ w) n h = go (eqb b c) refl h (at_agree v w (omega arith))
  where
    go : (q : Bool) → eqb b c ≡ q → cond q (suc (agree v w)) 0 < suc (length v) → (agree v w < length v → get_or v (agree v w) 0 ≡ get_or w (agree v w) 0 → ⊥)
        → get_or (b ∷ v) (cond q (suc (agree v w)) 0) 0 ≡ get_or (c ∷ w) (cond q (suc (agree v w)) 0) 0 → ⊥
    go true e l ih = ih (le_of_suc-le-suc l)
    go false e l ih = eqb-false b c e

agree_first : (v w : List ℕ) (i : ℕ) → length v ≡ length w → i < length v → take i v ≡ take i w → (get_or v i 0 ≡ get_or w i 0 → ⊥) → agree v w ≡ i
unfolding agree
agree_first [] w i n h t d = absurd (not-suc-le-zero h)
agree_first (b ∷ v) [] i n h t d = absurd (omega arith)
agree_first (b ∷ v) (c ∷ w) zero n h t d = rw (ne_eqb b c d)
agree_first (b ∷ v) (c ∷ w) (suc i) n h t d =
    let here : b ≡ c = cc in
    let there : take i v ≡ take i w = cc in
    rw (eq-eqb b c here) (ap suc (agree_first v w i (omega arith) (le_of_suc-le-suc h) there d))

-- ---- a pair judged: no entry where it is the same, and one that tells it where it is not
data Judged {A : Type 0} (tells : ℕ → A → A → Difference → Type 0) (n : ℕ) (v w : A) : List Difference → Type 0 where
  alike : v ≡ w → Judged tells n v w []
  unlike : {x : Difference} → (v ≡ w → ⊥) → tells n v w x → Judged tells n v w (x ∷ [])

values_judged : (tag : ℕ) (v w : List ℕ) → Judged Tells tag v w (of_values tag v w)
unfolding of_values of_present
values_judged tag [] [] = alike refl
values_judged tag [] (c ∷ w) = unlike (λ e. let n = ap length e in omega arith) not-in-first
values_judged tag (b ∷ v) [] = unlike (λ e. let n = ap length e in omega arith) not-in-second
values_judged tag (b ∷ v) (c ∷ w) = go (eqb (length (b ∷ v)) (length (c ∷ w))) refl (eqb (agree (b ∷ v) (c ∷ w)) (length (b ∷ v))) refl
  where
    go : (q : Bool) → eqb (length (b ∷ v)) (length (c ∷ w)) ≡ q → (r : Bool) → eqb (agree (b ∷ v) (c ∷ w)) (length (b ∷ v)) ≡ r
        → Judged Tells tag (b ∷ v) (c ∷ w) (cond q (cond r [] (index-differs tag (agree (b ∷ v) (c ∷ w)) ∷ [])) (lengths_differ tag ∷ []))
    go false p r e = unlike (λ s. eqb-false _ _ p (ap length s)) (other_length (eqb-false _ _ p))
    go true p true e = alike (agree_same (b ∷ v) (c ∷ w) (eqb-true _ _ p) (eqb-true _ _ e))
    go true p false e =
        let n : length (b ∷ v) ≡ length (c ∷ w) = eqb-true _ _ p in
        let less : agree (b ∷ v) (c ∷ w) < length (b ∷ v) = omega (arith, agree_within (b ∷ v) (c ∷ w), eqb-false (agree (b ∷ v) (c ∷ w)) (length (b ∷ v)) e, n) in
        unlike (λ s. eqb-false _ _ e (ap (agree (b ∷ v)) (sym s) ∙ agree_self (b ∷ v)))
        (first-index n less (take_agree (b ∷ v) (c ∷ w)) (at_agree (b ∷ v) (c ∷ w) n less))

bytes_judged : (address b c : ℕ) → Judged TellsByte address b c (of_bytes address b c)
unfolding of_bytes
bytes_judged address b c = go (eqb b c) refl
  where
    go : (q : Bool) → eqb b c ≡ q → Judged TellsByte address b c (cond q [] (byte-differs address ∷ []))
    go true e = alike (eqb-true b c e)
    go false e = unlike (eqb-false b c e) other_byte

-- ---- and so along the names
module _ {A : Type 0} (tells : ℕ → A → A → Difference → Type 0) (f : ℕ → A → A → List Difference) where
  exactly-along : ((n : ℕ) (v w : A) → Judged tells n v w (f n v w)) → (ns : List ℕ) (vs ws : List A) → length vs ≡ length ns → length ws ≡ length ns → Exactly tells ns vs ws (along f ns vs ws)
  unfolding along
  exactly-along judged [] [] [] m k = no_more
  exactly-along judged [] [] (w ∷ ws) m k = absurd (omega arith)
  exactly-along judged [] (v ∷ vs) ws m k = absurd (omega arith)
  exactly-along judged (n ∷ ns) [] ws m k = absurd (omega arith)
  exactly-along judged (n ∷ ns) (v ∷ vs) [] m k = absurd (omega arith)
  exactly-along judged (n ∷ ns) (v ∷ vs) (w ∷ ws) m k = go (f n v w) (judged n v w) (exactly-along judged ns vs ws (omega arith) (omega arith))
    where
      go : (l : List Difference) → Judged tells n v w l → Exactly tells ns vs ws (along f ns vs ws) → Exactly tells (n ∷ ns) (v ∷ vs) (w ∷ ws) (l ++ along f ns vs ws)
      go l (alike e) ih = rw (← e) (same ih)
      go l (unlike d t) ih = other d t ih

  -- a list that is exact is the one that is found
  only-along : ((n : ℕ) (v : A) → f n v v ≡ []) → ((n : ℕ) (v w : A) (x : Difference) → (v ≡ w → ⊥) → tells n v w x → f n v w ≡ x ∷ [])
      → {ns : List ℕ} {vs ws : List A} {l : List Difference} → Exactly tells ns vs ws l → l ≡ along f ns vs ws
  unfolding along
  only-along none one no_more = refl
  only-along none one (same {n = n} {v = v} r) = rw (none n v) (only-along none one r)
  only-along none one (other {n = n} {v = v} {w = w} {x = x} d t r) = rw (one n v w x d t) (ap (λ (l : List Difference). x ∷ l) (only-along none one r))

values_self : (tag : ℕ) (v : List ℕ) → of_values tag v v ≡ []
values_self tag v = values_alike tag v v refl ∙ rw (agree_self v, eq-eqb (length v) (length v) refl)

bytes_self : (address b : ℕ) → of_bytes address b b ≡ []
unfolding of_bytes
bytes_self address b = rw (eq-eqb b b refl)

values_only : (tag : ℕ) (v w : List ℕ) (x : Difference) → (v ≡ w → ⊥) → Tells tag v w x → of_values tag v w ≡ x ∷ []
unfolding of_values of_present
values_only tag v w x d not-in-first = refl
values_only tag v w x d not-in-second = refl
values_only tag v w x d (other_length h) = rw (ne_eqb _ _ h)
values_only tag v w x d (first-index {i = i} n h t u) =
    let at : agree v w ≡ i = agree_first v w i n h t u in
    values_alike tag v w n ∙ rw (at, ne_eqb i (length v) (λ e. omega arith))

bytes_only : (address b c : ℕ) (x : Difference) → (b ≡ c → ⊥) → TellsByte address b c x → of_bytes address b c ≡ x ∷ []
unfolding of_bytes
bytes_only address b c x d other_byte = rw (ne_eqb b c d)

-- ---- the two theorems

pub differences_exact : (c d : Content) → length c.values ≡ length object_tags → length d.values ≡ length object_tags
    → length (bytes_of c) ≡ length addresses → length (bytes_of d) ≡ length addresses → Exact c d (differences_of c d)
unfolding differences_of
differences_exact c d vc vd bc bd = record {
  objects = along of_values object_tags c.values d.values;
  bytes = along of_bytes addresses (bytes_of c) (bytes_of d);
  whole = refl;
  by_tag = exactly-along Tells of_values values_judged object_tags c.values d.values vc vd;
  by_address = exactly-along TellsByte of_bytes bytes_judged addresses (bytes_of c) (bytes_of d) bc bd;
}

pub exact_once : (c d : Content) (l : List Difference) → Exact c d l → l ≡ differences_of c d
unfolding differences_of
exact_once c d l x =
    x.whole ∙ ap₂ (λ (a b : List Difference). a ++ b) (only-along Tells of_values values_self values_only x.by_tag) (only-along TellsByte of_bytes bytes_self bytes_only x.by_address)

-- ---- no difference is listed exactly of what is the same
pub none_of_one : (c : Content) → length c.values ≡ length object_tags → length (bytes_of c) ≡ length addresses → differences_of c c ≡ []
none_of_one c v b = sym (exact_once c c [] (record { objects = []; bytes = []; whole = refl; by_tag = all_same object_tags c.values v; by_address = all_same addresses (bytes_of c) b }))
  where
    all_same : {A : Type 0} {tells : ℕ → A → A → Difference → Type 0} (ns : List ℕ) (vs : List A) → length vs ≡ length ns → Exactly tells ns vs vs []
    all_same [] [] h = no_more
    all_same [] (v ∷ vs) h = absurd (omega arith)
    all_same (n ∷ ns) [] h = absurd (omega arith)
    all_same (n ∷ ns) (v ∷ vs) h = same (all_same ns vs (omega arith))

pub none_listed : {A : Type 0} {tells : ℕ → A → A → Difference → Type 0} {ns : List ℕ} {vs ws : List A} {l : List Difference} → Exactly tells ns vs ws l → l ≡ [] → vs ≡ ws
none_listed no_more e = refl
none_listed {A = A} (same {v = v} r) e = ap (λ (xs : List A). v ∷ xs) (none_listed r e)
none_listed (other d t r) e = absurd (let n = ap length e in omega arith)
