-- What a comparison says: the part is the record's family name, the card named is never older, the distance turns round with the cards.
-- The two cards are weighed by their places, and record and places tell the same content. Assumes nothing.
use Prim.Native.Nat.{ℕ, ◌≤◌}
use native.Mathlib.Omega.{arith}
use borrow.Author.Tests.{eqb-true, eq-eqb, ne_eqb, ltb-true, ltb-false, le-ltb}
use mathlib.Core.Path.{◌≡◌, refl, sym, ap, ◌∙◌}
use mathlib.Core.Bool.{Bool, true, false, cond, ◌&&◌}
use mathlib.Core.List.{List, [], ◌∷◌}
use lib.Dec.{eqb, ltb}
use lib.IntN.{ℤ, pos, neg_ℤ, ◌-ℤ◌, ◌+ℤ◌, neg_ℤ-neg_ℤ, neg_ℤ-+ℤ, +ℤ_comm, +ℤ_invr}
use lib.ListN.{length, get_or}
use Rattle.ground.proofs.Lists.{true_false}
use Rattle.edition.specs.declared.Edition.{Edition}
use Rattle.card.specs.declared.Refusal.{Refusal}
use Rattle.card.specs.Content.{content_of}
use Rattle.card.specs.Refusals.{refuse, none, gate}
use Rattle.card.specs.Reading.{Answer, accepted, refused, answer, answer_of, reading}
use Rattle.card.specs.Places.{places}
use Rattle.card.proofs.Chains.{refused_in}
use Rattle.demands.specs.Demands.{LentEdition, Accepts, library_reader}
use Rattle.lookup.specs.Parts.{within}
use Rattle.lookup.proofs.Cuts.{within_is}
use Rattle.lookup.proofs.Tells.{same_refusal, tell_alike}
use Rattle.fresher.specs.declared.Card.{Card}
use Rattle.fresher.specs.declared.Fresher.{Fresher}
use Rattle.fresher.specs.Comparing.{months_of, validity_in, expires, card_of, dated, months_or_0, unweighed, later, weighed, fresher_of, name_of}

-- ---- nothing is refused
pub record Weighed (expiry : Bool) (a b : Card) : Type 0 where
  pub first : a.refusal.number ≡ 0
  pub second : b.refusal.number ≡ 0
  pub dated : expiry && (dated a.months && dated b.months) ≡ true
  pub is : weighed expiry a b ≡ later a b

weighs : (expiry : Bool) (a b : Card) → (weighed expiry a b).refusal.number ≡ 0 → Weighed expiry a b
unfolding weighed gate
weighs expiry a b z = go (eqb a.refusal.number 0) refl (eqb b.refusal.number 0) refl (expiry && (dated a.months && dated b.months)) refl z
  where
    go : (p : Bool) → eqb a.refusal.number 0 ≡ p → (q : Bool) → eqb b.refusal.number 0 ≡ q → (r : Bool) → expiry && (dated a.months && dated b.months) ≡ r
        → (gate p (unweighed a.refusal) (gate q (unweighed b.refusal) (gate r (unweighed (refuse 24 0 0)) (later a b)))).refusal.number ≡ 0 → Weighed expiry a b
    go false f q g r h n = absurd (true_false (eq-eqb a.refusal.number 0 n) f)
    go true f false g r h n = absurd (true_false (eq-eqb b.refusal.number 0 n) g)
    go true f true g false h n = absurd (omega arith)
    go true f true g true h n = record { first = eqb-true a.refusal.number 0 f; second = eqb-true b.refusal.number 0 g; dated = h; is = rw (f, g, h) }

-- ---- the part is the family name of the record
accepts_zero : (e : Edition) (s : List ℕ) → (places e s).refusal.number ≡ 0 → Accepts library_reader e s
unfolding answer answer_of
accepts_zero e s z = go (answer e s) refl (sym (ap (λ (x : Refusal). x.number) (same_refusal e s)) ∙ z)
  where
    go : (a : Answer) → answer e s ≡ a → (answer_of e.number a).refusal.number ≡ 0 → (answer_of e.number a).refusal ≡ none
    go (accepted c) q z = refl
    go (refused x) q z = absurd (let r = refused_in _ _ x q in r.0 (ap (λ (y : Refusal). y.number) r.1 ∙ z))

-- the values of rows 87 and 8D in the record that reading gives
abbrev pub family_read : Edition → List ℕ → List ℕ
family_read e s = get_or (content_of (reading e s).content).values 9 []

abbrev pub validity_read : Edition → List ℕ → List ℕ
validity_read e s = get_or (content_of (reading e s).content).values 15 []

card_name : (e : Edition) (s : List ℕ) → LentEdition e → (card_of e s).refusal.number ≡ 0 → within s (card_of e s).start (card_of e s).length ≡ family_read e s
unfolding card_of
card_name e s n z = sym ((tell_alike e s n (accepts_zero e s z)).value 9)

-- no part has 0 months
months_kept : (v : List ℕ) → months_or_0 (validity_in v) ≡ months_of v
unfolding validity_in months_of
months_kept [] = refl
months_kept (b ∷ v) = rw (ne_eqb (length (b ∷ v)) 0 (λ e. absurd (omega arith)))

card_months : (e : Edition) (s : List ℕ) → LentEdition e → (card_of e s).refusal.number ≡ 0 → months_or_0 (card_of e s).months ≡ months_of (validity_read e s)
unfolding card_of
card_months e s n z = months_kept _ ∙ ap months_of (sym ((tell_alike e s n (accepts_zero e s z)).value 15))

module _ (e : Edition) (s t : List ℕ) (n : LentEdition e) (z : (fresher_of e s t).refusal.number ≡ 0) where
  abbrev first : Card
  first = card_of e s

  abbrev second : Card
  second = card_of e t

  right : Weighed (expires e) first second
  unfolding fresher_of
  right = weighs (expires e) first second z

  is : fresher_of e s t ≡ later first second
  unfolding fresher_of
  is = right.is

  pub name_told : name_of (fresher_of e s t) s t ≡ family_read e (cond (fresher_of e s t).second t s)
  unfolding later
  name_told = rw is (go (ltb (months_or_0 first.months) (months_or_0 second.months)))
    where
      go : (q : Bool) → within (cond q t s) (cond q second.start first.start) (cond q second.length first.length) ≡ family_read e (cond q t s)
      go true = card_name e t n right.second
      go false = card_name e s n right.first

  -- the months of a card are those of its record's validity
  abbrev monthsRead : List ℕ → ℕ
  monthsRead u = months_of (validity_read e u)

  pub months_told : (fresher_of e s t).months ≡ pos (monthsRead t) -ℤ pos (monthsRead s)
  unfolding later
  months_told = rw (is, card_months e t n right.second, card_months e s n right.first)

  -- the card that is named is valid as long as the other, at least
  pub never_older : (monthsRead s ≤ monthsRead (cond (fresher_of e s t).second t s)) × (monthsRead t ≤ monthsRead (cond (fresher_of e s t).second t s))
  unfolding later
  never_older = rw (is, card_months e t n right.second, card_months e s n right.first) (go (ltb (monthsRead s) (monthsRead t)) refl)
    where
      go : (q : Bool) → ltb (monthsRead s) (monthsRead t) ≡ q → (monthsRead s ≤ monthsRead (cond q t s)) × (monthsRead t ≤ monthsRead (cond q t s))
      go true h = let l = ltb-true (monthsRead s) (monthsRead t) h in (omega arith, omega arith)
      go false h = let l = ltb-false (monthsRead s) (monthsRead t) h in (omega arith, omega arith)

  -- both cards are dated, and by the rule of expiry
  pub both_dated : expires e && (dated first.months && dated second.months) ≡ true
  both_dated = right.dated

-- ---- with a refusal the part is empty, the distance 0 and the card named the first
pub record Nothing (f : Fresher) (s t : List ℕ) : Type 0 where
  pub part : name_of f s t ≡ []
  pub months : f.months ≡ pos 0
  pub second : f.second ≡ false

pub refused_nothing : (e : Edition) (s t : List ℕ) → ((fresher_of e s t).refusal.number ≡ 0 → ⊥) → Nothing (fresher_of e s t) s t
unfolding fresher_of weighed gate later
refused_nothing e s t = go (eqb a.refusal.number 0) (eqb b.refusal.number 0) (expires e && (dated a.months && dated b.months))
  where
    a : Card
    a = card_of e s

    b : Card
    b = card_of e t

    nothing : (x : Refusal) → Nothing (unweighed x) s t
    nothing x = record { part = within_is s 0 0 (omega arith); months = refl; second = refl }

    go : (p q r : Bool) → ((gate p (unweighed a.refusal) (gate q (unweighed b.refusal) (gate r (unweighed (refuse 24 0 0)) (later a b)))).refusal.number ≡ 0 → ⊥)
        → Nothing (gate p (unweighed a.refusal) (gate q (unweighed b.refusal) (gate r (unweighed (refuse 24 0 0)) (later a b)))) s t
    go false q r h = nothing a.refusal
    go true false r h = nothing b.refusal
    go true true false h = nothing (refuse 24 0 0)
    go true true true h = absurd (h refl)

-- ---- the cards turned round
less_turned : (m k : ℤ) → m -ℤ k ≡ neg_ℤ (k -ℤ m)
less_turned m k = sym (neg_ℤ-+ℤ k (neg_ℤ m) ∙ ap (λ (x : ℤ). neg_ℤ k +ℤ x) (neg_ℤ-neg_ℤ m) ∙ +ℤ_comm (neg_ℤ k) m)

weighed_turned : (expiry : Bool) (a b : Card) → (weighed expiry b a).months ≡ neg_ℤ (weighed expiry a b).months
unfolding weighed gate later
weighed_turned expiry a b = go (eqb a.refusal.number 0) (eqb b.refusal.number 0) expiry (dated a.months) (dated b.months)
  where
    go : (p q x y z : Bool)
        → (gate q (unweighed b.refusal) (gate p (unweighed a.refusal) (gate (x && (z && y)) (unweighed (refuse 24 0 0)) (later b a)))).months
        ≡ neg_ℤ (gate p (unweighed a.refusal) (gate q (unweighed b.refusal) (gate (x && (y && z)) (unweighed (refuse 24 0 0)) (later a b)))).months
    go false false x y z = refl
    go false true x y z = refl
    go true false x y z = refl
    go true true false y z = refl
    go true true true false false = refl
    go true true true false true = refl
    go true true true true false = refl
    go true true true true true = less_turned (pos (months_or_0 a.months)) (pos (months_or_0 b.months))

pub distance_turned : (e : Edition) (s t : List ℕ) → (fresher_of e t s).months ≡ neg_ℤ (fresher_of e s t).months
unfolding fresher_of
distance_turned e s t = weighed_turned (expires e) (card_of e s) (card_of e t)

-- ---- one card twice: the first, and 0
pub same_card : (e : Edition) (s : List ℕ) → ((fresher_of e s s).second ≡ false) × ((fresher_of e s s).months ≡ pos 0)
unfolding fresher_of weighed gate later
same_card e s = go (eqb a.refusal.number 0) (expires e && (dated a.months && dated a.months))
  where
    a : Card
    a = card_of e s

    go : (p r : Bool) → (let f = gate p (unweighed a.refusal) (gate p (unweighed a.refusal) (gate r (unweighed (refuse 24 0 0)) (later a a))) in
        (f.second ≡ false) × (f.months ≡ pos 0))
    go false r = (refl, refl)
    go true false = (refl, refl)
    go true true = (le-ltb (months_or_0 a.months) (months_or_0 a.months) (omega arith), +ℤ_invr (pos (months_or_0 a.months)))
