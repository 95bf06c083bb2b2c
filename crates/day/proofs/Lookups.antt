-- A search of the index finds the first card of a number. Assumes nothing.
use Prim.Native.Nat.{ℕ, ◌+◌, ◌*◌, ◌/◌, ◌%◌, ◌≤◌, ◌<◌}
use native.Mathlib.Omega.{arith}
use native.Mathlib.Decide.{dec_le}
use borrow.Author.Tests.{eqb-true, eqb-false, ltb-true, ltb-false, eq-eqb, ne_eqb, le-ltb, lt-ltb, not-false}
use mathlib.Core.Path.{◌≡◌, refl, sym, ap, ap₂, ◌∙◌}
use mathlib.Core.Bool.{Bool, true, false, cond, not, ◌&&◌}
use mathlib.Core.List.{List, [], ◌∷◌, ◌++◌}
use lib.Dec.{eqb, ltb}
use lib.ListN.{length, get_or, take}
use lib.Seq.{take_at, get_or_at, get_or-append-add}
use Rattle.ground.specs.Lists.{leading}
use Rattle.ground.proofs.Lists.{true_false, leading_most, leading_before, leading_at}
use Rattle.ground.specs.Lists.{same_list}
use Rattle.day_index.specs.Order.{below, rank_of}
use Rattle.day_index.proofs.Inserts.{sorted_at}
use Rattle.day.specs.Cards.{padded, two_bytes, entry}
use Rattle.day.specs.Index.{index_of, position_of, lookup}
use Rattle.day.proofs.Padded.{length_padded}
use Rattle.day.proofs.Entries.{length_index, index_sorted}
use Rattle.day.proofs.Opens.{same_self}
use Rattle.ground.proofs.Lists.{same_equal}
use Rattle.day.proofs.Members.{Place, Card, place_of, stands, index_has, index_only}

-- ---- runs that begin alike
below_behind : (p a b : List ℕ) → below (p ++ a) (p ++ b) ≡ below a b
unfolding below
below_behind [] a b = refl
below_behind (x ∷ p) a b = rw (eq-eqb x x refl) (below_behind p a b)

-- what lies between two runs that begin alike begins so too
between : (p x a b c : List ℕ) → length x ≡ length p → below (x ++ a) (p ++ b) ≡ false → below (p ++ c) (x ++ a) ≡ false → x ≡ p
unfolding below
between [] [] a b c n s t = refl
between [] (y ∷ x) a b c n s t = absurd (omega arith)
between (z ∷ p) [] a b c n s t = absurd (omega arith)
between (z ∷ p) (y ∷ x) a b c n s t = go (eqb y z) refl s t (between p x a b c)
  where
    go : (q : Bool) → eqb y z ≡ q → cond q (below (x ++ a) (p ++ b)) (ltb y z) ≡ false → cond (eqb z y) (below (p ++ c) (x ++ a)) (ltb z y) ≡ false
        → (length x ≡ length p → below (x ++ a) (p ++ b) ≡ false → below (p ++ c) (x ++ a) ≡ false → x ≡ p) → y ∷ x ≡ z ∷ p
    go true e u v ih =
        let f : y ≡ z = eqb-true y z e in
        let w : below (p ++ c) (x ++ a) ≡ false = rw (eq-eqb z y (sym f)) at v in
        ap₂ (λ (h : ℕ) (r : List ℕ). h ∷ r) f (ih (omega arith) u w)
    go false e u v ih =
        let d : y ≡ z → ⊥ = eqb-false y z e in
        let w : ltb z y ≡ false = rw (ne_eqb z y (λ g. d (sym g))) at v in
        absurd (d (omega (arith, ltb-false y z u, ltb-false z y w)))

-- ---- positions
none_first : (k : ℕ) → below (two_bytes k) (two_bytes 0) ≡ false
unfolding below
none_first k = go (eqb (k / 256) 0) (eqb (k % 256) 0)
  where
    go : (p q : Bool) → cond p (cond q false (ltb (k % 256) 0)) (ltb (k / 256) 0) ≡ false
    go true true = refl
    go true false = le-ltb (k % 256) 0 (omega arith)
    go false q = le-ltb (k / 256) 0 (omega arith)

in_turn : (i j : ℕ) → below (two_bytes j) (two_bytes i) ≡ false → i ≤ j
unfolding below
in_turn i j s = go (eqb (j / 256) (i / 256)) refl s
  where
    low : j / 256 ≡ i / 256 → (q : Bool) → eqb (j % 256) (i % 256) ≡ q → cond q false (ltb (j % 256) (i % 256)) ≡ false → i ≤ j
    low h true e u = omega (arith, eqb-true (j % 256) (i % 256) e)
    low h false e u = omega (arith, ltb-false (j % 256) (i % 256) u)

    go : (q : Bool) → eqb (j / 256) (i / 256) ≡ q → cond q (cond (eqb (j % 256) (i % 256)) false (ltb (j % 256) (i % 256))) (ltb (j / 256) (i / 256)) ≡ false → i ≤ j
    go true e u = low (eqb-true (j / 256) (i / 256) e) (eqb (j % 256) (i % 256)) refl u
    go false e u = omega (arith, eqb-false (j / 256) (i / 256) e, ltb-false (j / 256) (i / 256) u)

pub position_back : (v : List ℕ) (k : ℕ) → position_of (entry v k) ≡ k
unfolding entry
position_back v k =
    let n = length_padded v in
    let high : get_or (padded v ++ two_bytes k) 12 0 ≡ k / 256 = get_or_at (padded v) (k / 256) (k % 256 ∷ []) 0 12 n in
    let low : get_or (padded v ++ two_bytes k) 13 0 ≡ k % 256 =
    ap (λ (m : ℕ). get_or (padded v ++ two_bytes k) (m + 1) 0) (sym n) ∙ get_or-append-add (padded v) (two_bytes k) 1 0 in
    ap₂ (λ (a b : ℕ). a * 256 + b) high low ∙ omega arith

number_back : (v : List ℕ) (k : ℕ) → take 12 (entry v k) ≡ padded v
unfolding entry
number_back v k = take_at (padded v) (two_bytes k) 12 (length_padded v)

-- ---- the search
module _ (ns : List (List ℕ)) (q : List ℕ) where
  abbrev es : List (List ℕ)
  es = index_of ns

  abbrev key : List ℕ
  key = entry q 0

  abbrev r : ℕ
  r = rank_of key es

  abbrev other : List ℕ → Bool
  other v = not (same_list (padded v) (padded q))

  abbrev first : ℕ
  first = leading other ns

  -- an entry at its place
  entry_at : (k : ℕ) → k < length es → Card (get_or es k []) 0 ns
  entry_at k h = index_only (get_or es k []) ns (stands es k h)

  rank-stops : r < length es → below (get_or es r []) key ≡ false
  unfolding rank_of
  rank-stops h = leading_at (λ x. below x key) [] es h

  rank-passes : (k : ℕ) → k < r → below (get_or es k []) key ≡ true
  unfolding rank_of
  rank-passes k h = leading_before (λ x. below x key) [] es k h

  at_key : (v : List ℕ) (j : ℕ) → padded v ≡ padded q → below (entry v j) key ≡ false
  unfolding entry
  at_key v j e = rw e (below_behind (padded q) (two_bytes j) (two_bytes 0) ∙ none_first j)

  alike : (v : List ℕ) (i : ℕ) (w : List ℕ) (j : ℕ) → padded w ≡ padded q → below (entry v i) key ≡ false → below (entry w j) (entry v i) ≡ false → padded v ≡ padded q
  unfolding entry
  alike v i w j e s t =
      between (padded q) (padded v) (two_bytes i) (two_bytes 0) (two_bytes j) (length_padded v ∙ sym (length_padded q)) s (rw e at t)

  no-later : (v : List ℕ) (i : ℕ) (w : List ℕ) (j : ℕ) → padded v ≡ padded q → padded w ≡ padded q → below (entry w j) (entry v i) ≡ false → i ≤ j
  unfolding entry
  no-later v i w j e f t = in_turn i j (sym (below_behind (padded q) (two_bytes j) (two_bytes i)) ∙ rw (e, f) at t)

  other-not : (v : List ℕ) → other v ≡ false → padded v ≡ padded q
  other-not v t = same_equal (padded v) (padded q) (not-false (same_list (padded v) (padded q)) t)

  not-other : (v : List ℕ) → padded v ≡ padded q → other v ≡ false
  not-other v e = rw (e, same_self (padded q))

  -- where a card has the number
  module _ (h : first < length ns) where
    the_number : padded (get_or ns first []) ≡ padded q
    the_number = other-not (get_or ns first []) (leading_at other [] ns h)

    spot : Place (entry (get_or ns first []) first) es
    spot = place_of (entry (get_or ns first []) first) es (index_has ns first h)

    spot-late : r ≤ spot.at
    spot-late = go (dec_le r spot.at)
      where
        go : Dec (r ≤ spot.at) → r ≤ spot.at
        go (yes l) = l
        go (no l) =
            absurd (true_false (rank-passes spot.at (omega arith)) (ap (λ (x : List ℕ). below x key) spot.is ∙ at_key (get_or ns first []) first the_number))

    found : lookup key es ≡ first
    unfolding lookup
    found =
        let w : r < length es = omega (arith, spot-late, spot.within) in
        let c : Card (get_or es r []) 0 ns = entry_at r w in
        let v = get_or ns c.at [] in
        let z : 0 + c.at ≡ c.at = omega arith in
        let e : get_or es r [] ≡ entry v c.at = c.is ∙ ap (entry v) z in
        let s : below (entry v c.at) key ≡ false = rw e at (rank-stops w) in
        let t : below (entry (get_or ns first []) first) (entry v c.at) ≡ false =
        rw (spot.is, e) at (sorted_at es (index_sorted ns) r spot.at spot-late spot.within) in
        let p : padded v ≡ padded q = alike v c.at (get_or ns first []) first the_number s t in
        let least : c.at ≤ first = no-later v c.at (get_or ns first []) first p the_number t in
        let most : first ≤ c.at = not_before c.at p in
        let same_number : same_list (take 12 (get_or es r [])) (take 12 key) ≡ true =
        ap₂ (λ (x y : List ℕ). same_list (take 12 x) y) e (number_back q 0) ∙ ap (λ (x : List ℕ). same_list x (padded q)) (number_back v c.at ∙ p) ∙ same_self (padded q) in
        rw (lt-ltb r (length es) w, same_number) (ap position_of e ∙ position_back v c.at ∙ omega arith)
      where
        not_before : (i : ℕ) → padded (get_or ns i []) ≡ padded q → first ≤ i
        not_before i p = pick (dec_le first i)
          where
            pick : Dec (first ≤ i) → first ≤ i
            pick (yes l) = l
            pick (no l) = absurd (true_false (leading_before other [] ns i (omega arith)) (not-other (get_or ns i []) p))

  -- where none has
  missing : length ns ≤ first → lookup key es ≡ length ns
  unfolding lookup
  missing h = go (ltb r (length es)) (same_list (take 12 (get_or es r [])) (take 12 key)) refl refl
    where
      go : (a b : Bool) → ltb r (length es) ≡ a → same_list (take 12 (get_or es r [])) (take 12 key) ≡ b → cond (a && b) (position_of (get_or es r [])) (length es) ≡ length ns
      go true true t u =
          let c : Card (get_or es r []) 0 ns = entry_at r (ltb-true r (length es) t) in
          let v = get_or ns c.at [] in
          let p : padded v ≡ padded q =
          sym (ap (take 12) c.is ∙ number_back v (0 + c.at)) ∙ same_equal (take 12 (get_or es r [])) (take 12 key) u ∙ number_back q 0 in
          absurd (true_false (leading_before other [] ns c.at (omega (arith, c.within))) (not-other v p))
      go true false t u = length_index ns
      go false b t u = length_index ns

  pub lookup_first : lookup key es ≡ first
  lookup_first = go (dec_le (length ns) first)
    where
      go : Dec (length ns ≤ first) → lookup key es ≡ first
      go (yes l) = missing l ∙ omega (arith, leading_most other ns)
      go (no l) = found (omega arith)
