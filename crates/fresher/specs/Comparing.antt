-- The fresher of two cards: which is valid later, by how many months, and where its family name stands.
use Rattle.std.specs.Prelude.{ℕ, ◌+◌, ◌*◌, ◌-◌, Bool, true, false, cond, ◌&&◌, List, ltb, eqb, pos, ◌-ℤ◌, length, get_or, Option, Some, None}
use Rattle.edition.specs.declared.Edition.{Edition}
use Rattle.edition.specs.Rows.{by_rule, no_row}
use Rattle.card.specs.declared.Refusal.{Refusal}
use Rattle.card.specs.Refusals.{refuse, none, gate}
use Rattle.card.specs.Places.{places}
use Rattle.lookup.specs.Parts.{within, part_at}
use Rattle.fresher.specs.declared.Card.{Card}
use Rattle.fresher.specs.declared.Fresher.{Fresher}

-- ---- the validity
abbrev pub digit_at : List ℕ → ℕ → ℕ
digit_at v i = get_or v i 0 - 48

abbrev pub two_at : List ℕ → ℕ → ℕ
two_at v i = digit_at v i * 10 + digit_at v (i + 1)

-- months since the end of 1999: the month stands first, then the year, 2000 to 2099
unfoldable pub months_of : List ℕ → ℕ
months_of v = two_at v 2 * 12 + two_at v 0

-- the rule of row 8D is expiry
abbrev pub expires : Edition → Bool
expires e = by_rule (get_or e.rows 15 no_row).rule false false true false

-- the part of row 8D; empty where the image is refused or has none
abbrev pub validity_of : Edition → List ℕ → List ℕ
validity_of e s = part_at s (places e s) 15

-- the months of a validity; there are none where its part is empty
unfoldable pub validity_in : List ℕ → Option ℕ
validity_in v = cond (eqb (length v) 0) None (Some (months_of v))

-- ---- one card: its refusal, its validity, and the place of row 87, the family name
unfoldable pub card_of : Edition → List ℕ → Card
card_of e s = record {
  refusal = (places e s).refusal;
  months = validity_in (validity_of e s);
  start = get_or (places e s).starts 9 0;
  length = get_or (places e s).lengths 9 0;
}

-- a card has a validity
abbrev pub dated : Option ℕ → Bool
dated (Some m) = true
dated None = false

-- its months, 0 without one
abbrev pub months_or_0 : Option ℕ → ℕ
months_or_0 (Some m) = m
months_or_0 None = 0

-- ---- two cards
-- with a refusal the part is empty, the distance 0 and the card named the first
abbrev pub unweighed : Refusal → Fresher
unweighed x = record { refusal = x; second = false; months = pos 0; start = 0; length = 0 }

-- the card that is valid later, the first where both are valid as long; the distance goes from the first's validity to the second's
unfoldable pub later : Card → Card → Fresher
later a b = record {
  refusal = none;
  second = ltb (months_or_0 a.months) (months_or_0 b.months);
  months = pos (months_or_0 b.months) -ℤ pos (months_or_0 a.months);
  start = cond (ltb (months_or_0 a.months) (months_or_0 b.months)) b.start a.start;
  length = cond (ltb (months_or_0 a.months) (months_or_0 b.months)) b.length a.length;
}

-- the refusal of the first, of the second, 24; else the later card
unfoldable pub weighed : Bool → Card → Card → Fresher
weighed expiry a b =
    gate (eqb a.refusal.number 0) (unweighed a.refusal)
    (gate (eqb b.refusal.number 0) (unweighed b.refusal)
    (gate (expiry && (dated a.months && dated b.months)) (unweighed (refuse 24 0 0)) (later a b)))

unfoldable pub fresher_of : Edition → List ℕ → List ℕ → Fresher
fresher_of e s t = weighed (expires e) (card_of e s) (card_of e t)

-- the part of the image that is named
abbrev pub name_of : Fresher → List ℕ → List ℕ → List ℕ
name_of f s t = within (cond f.second t s) f.start f.length
