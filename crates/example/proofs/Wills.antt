-- Where some lengths will do for all rows and keep both sums, those of the card do, and its bytes are as few and as many as can be. By the sums: in each of them, and of
-- each row that stands in none, the three lengths chosen are the least or the greatest that fit. Assumes nothing.
use Prim.Native.Nat.{ℕ, zero, suc, ◌+◌, ◌<◌, ◌≤◌}
use native.Mathlib.Omega.{arith}
use mathlib.Core.Path.{◌≡◌, refl, sym, ap, ◌∙◌, subst}
use mathlib.Core.Bool.{Bool, true, false, cond, ◌&&◌}
use mathlib.Core.List.{List}
use lib.Dec.{eqb, leb, ltb}
use lib.Pow.{pow_pos}
use lib.ListN.{get_or}
use borrow.Author.Tests.{eqb-true, eqb-false, ltb-true, ltb-false, lt-ltb, le-ltb}
use Rattle.ground.proofs.Lists.{true_false, and_left, and_right}
use Rattle.edition.specs.declared.Row.{Row}
use Rattle.edition.specs.Rows.{no_row}
use Rattle.edition.proofs.Sets.{beyond}
use Rattle.card.specs.Rules.{sum_fits}
use Rattle.choosing.specs.declared.Three.{Three}
use Rattle.choosing.specs.Choices.{will_do, size_of, three, sum_holds, fits, size_in, chosen}
use Rattle.choosing.proofs.Fitting.{Small, chosen_small, chosen_fits, chosen_fewest, chosen_most, fits_most}
use Rattle.example.specs.Cards.{grouped, start_of, plain_row, three_at, place_of, by_place, length_at}
use Rattle.example.proofs.Grouped.{Kind, alone, title, given, prefix, country, postal, town, kind}
use Rattle.example.proofs.Runs.{will_some}
use Rattle.example.proofs.Totals.{total, total_less, total_one, unit_size}

-- ---- of three that fit, each length will do, and the sum holds
pub record Parts (names : Bool) (a b c : Row) (t : Three) : Type 0 where
  pub first : will_do a t.first ≡ true
  pub second : will_do b t.second ≡ true
  pub third : will_do c t.third ≡ true
  pub sum : sum_holds names t ≡ true

pub parts : (names : Bool) (a b c : Row) (t : Three) → fits names a b c t ≡ true → Parts names a b c t
unfolding fits
parts names a b c t h =
    let x = and_left (will_do a t.first && will_do b t.second && will_do c t.third) (sum_holds names t) h in
    let y = and_left (will_do a t.first && will_do b t.second) (will_do c t.third) x in
    record {
      first = and_left (will_do a t.first) (will_do b t.second) y;
      second = and_right (will_do a t.first) (will_do b t.second) y;
      third = and_right (will_do a t.first && will_do b t.second) (will_do c t.third) x;
      sum = and_right (will_do a t.first && will_do b t.second && will_do c t.third) (sum_holds names t) h;
    }

joined : (names : Bool) (a b c : Row) (t : Three) → Parts names a b c t → fits names a b c t ≡ true
unfolding fits
joined names a b c t p = rw (p.first, p.second, p.third) p.sum

-- ---- a row that stands alone: two objects are absent
plain_zero : (n : ℕ) → will_do plain_row n ≡ true → n ≡ 0
plain_zero zero h = refl
plain_zero (suc n) h = absurd (true_false (will_some plain_row (suc n) h (omega arith)) (beyond 0 (suc n) (pow_pos (suc n))))

alone_sum : (n : ℕ) → sum_holds false (three 0 0 n) ≡ true
unfolding sum_holds sum_fits
alone_sum n = go (eqb n 0)
  where
    go : (q : Bool) → cond (leb (0 + 0 + cond q 0 1) 1) true (cond (eqb (0 + 0 + cond q 0 1) 2) (leb (0 + 0 + n) 27) (leb (0 + 0 + n) 26)) ≡ true
    go true = refl
    go false = refl

pub alone_fits : (r : Row) (n : ℕ) → will_do r n ≡ true → fits false plain_row plain_row r (three 0 0 n) ≡ true
unfolding will_do
alone_fits r n h = joined false plain_row plain_row r (three 0 0 n) (record { first = refl; second = refl; third = h; sum = alone_sum n })

pub alone_small : (n : ℕ) → n ≤ 28 → Small (three 0 0 n)
alone_small n h = record { first = omega arith; second = omega arith; third = h }

size_zero : size_of 0 ≡ 0
unfolding size_of
size_zero = refl

size_third : (r : Row) (t : Three) → Parts false plain_row plain_row r t → size_in t ≡ size_of t.third
unfolding size_in
size_third r t p = omega (arith, ap size_of (plain_zero t.first p.first), ap size_of (plain_zero t.second p.second), size_zero)

-- ---- the lengths where all are long, or none
abbrev pub length_in : Bool → List Row → ℕ → ℕ
length_in long rows k = by_place (place_of k) (three_at long rows k)

by_small : (p : ℕ) (t : Three) → Small t → by_place p t ≤ 28
unfolding by_place
by_small p t s = go (eqb p 0) (eqb p 1)
  where
    go : (a b : Bool) → cond a t.first (cond b t.second t.third) ≤ 28
    go true b = s.first
    go false true = s.second
    go false false = s.third

three_small : (long : Bool) (rows : List Row) (k : ℕ) → Small (three_at long rows k)
unfolding three_at
three_small long rows k = go (grouped k)
  where
    go : (q : Bool) → Small (cond q (chosen long (ltb k 9) (get_or rows (start_of k) no_row) (get_or rows (start_of k + 1) no_row) (get_or rows (start_of k + 2) no_row)) (chosen long false plain_row plain_row (get_or rows k no_row)))
    go true = chosen_small long (ltb k 9) (get_or rows (start_of k) no_row) (get_or rows (start_of k + 1) no_row) (get_or rows (start_of k + 2) no_row)
    go false = chosen_small long false plain_row plain_row (get_or rows k no_row)

pub length_small : (long : Bool) (rows : List Row) (k : ℕ) → length_in long rows k ≤ 28
length_small long rows k = by_small (place_of k) (three_at long rows k) (three_small long rows k)

-- a row that stands alone has the third of its three lengths
pub alone_length : (long : Bool) (rows : List Row) (k : ℕ) → grouped k ≡ false → length_in long rows k ≡ (chosen long false plain_row plain_row (get_or rows k no_row)).third
unfolding by_place place_of three_at
alone_length long rows k e = rw e

-- the three of the names, and of the town
abbrev pub names_of : Bool → List Row → Three
names_of long rows = chosen long true (get_or rows 6 no_row) (get_or rows 7 no_row) (get_or rows 8 no_row)

abbrev pub town_of : Bool → List Row → Three
town_of long rows = chosen long false (get_or rows 12 no_row) (get_or rows 13 no_row) (get_or rows 14 no_row)

pub names_lengths : (long : Bool) (rows : List Row) → three (length_in long rows 6) (length_in long rows 7) (length_in long rows 8) ≡ names_of long rows
unfolding by_place place_of three_at start_of grouped
names_lengths long rows = refl

pub town_lengths : (long : Bool) (rows : List Row) → three (length_in long rows 12) (length_in long rows 13) (length_in long rows 14) ≡ town_of long rows
unfolding by_place place_of three_at start_of grouped
town_lengths long rows = refl

below_same : (j k : ℕ) → (j ≡ k → ⊥) → ltb j k ≡ ltb j (suc k)
below_same j k n = go (ltb j k) refl
  where
    go : (q : Bool) → ltb j k ≡ q → q ≡ ltb j (suc k)
    go true e = sym (lt-ltb j (suc k) (omega (arith, ltb-true j k e)))
    go false e = sym (le-ltb j (suc k) (further (eqb j k) refl))
      where
        further : (p : Bool) → eqb j k ≡ p → suc k ≤ j
        further true s = absurd (n (eqb-true j k s))
        further false s = omega (arith, eqb-false j k s, ltb-false j k e)

-- ---- the bytes of a sum, or of a row that stands alone
unit_alone : (f : ℕ → ℕ) (u : ℕ) → grouped u ≡ false → unit_size f u ≡ size_of (f u)
unfolding unit_size
unit_alone f u e = rw e

unit_names : (f : ℕ → ℕ) → (unit_size f 6 ≡ size_in (three (f 6) (f 7) (f 8))) × (unit_size f 7 ≡ 0) × (unit_size f 8 ≡ 0)
unfolding unit_size grouped size_in
unit_names f = (refl, refl, refl)

unit_town : (f : ℕ → ℕ) → (unit_size f 12 ≡ size_in (three (f 12) (f 13) (f 14))) × (unit_size f 13 ≡ 0) × (unit_size f 14 ≡ 0)
unfolding unit_size grouped size_in
unit_town f = (refl, refl, refl)

-- the objects of a sum are long together
alone_start : (k : ℕ) → grouped k ≡ false → start_of k ≡ k
unfolding start_of
alone_start k e = rw e

pub mixed : (rows : List Row) (long u : ℕ) → Kind u → unit_size (length_at rows long) u ≡ unit_size (length_in (ltb u long) rows) u
unfolding unit_size grouped length_at start_of
mixed rows long u (alone e) =
    unit_alone (length_at rows long) u e
    ∙ ap (λ (s : ℕ). size_of (length_in (ltb s long) rows u)) (alone_start u e)
    ∙ sym (unit_alone (length_in (ltb u long) rows) u e)
mixed rows long u title = refl
mixed rows long u given = refl
mixed rows long u prefix = refl
mixed rows long u country = refl
mixed rows long u postal = refl
mixed rows long u town = refl

-- ---- a length for each row: each will do, none is past 28, and both sums hold
pub record Will (rows : List Row) (n : ℕ → ℕ) : Type 0 where
  pub each : (k : ℕ) → k < 16 → will_do (get_or rows k no_row) (n k) ≡ true
  pub small : (k : ℕ) → k < 16 → n k ≤ 28
  pub names : sum_holds true (three (n 6) (n 7) (n 8)) ≡ true
  pub town : sum_holds false (three (n 12) (n 13) (n 14)) ≡ true

module _ (rows : List Row) (n : ℕ → ℕ) (w : Will rows n) where
  names-fit : fits true (get_or rows 6 no_row) (get_or rows 7 no_row) (get_or rows 8 no_row) (three (n 6) (n 7) (n 8)) ≡ true
  names-fit = joined true _ _ _ _ (record { first = w.each 6 (omega arith); second = w.each 7 (omega arith); third = w.each 8 (omega arith); sum = w.names })

  town-fit : fits false (get_or rows 12 no_row) (get_or rows 13 no_row) (get_or rows 14 no_row) (three (n 12) (n 13) (n 14)) ≡ true
  town-fit = joined false _ _ _ _ (record { first = w.each 12 (omega arith); second = w.each 13 (omega arith); third = w.each 14 (omega arith); sum = w.town })

  names-small : Small (three (n 6) (n 7) (n 8))
  names-small = record { first = w.small 6 (omega arith); second = w.small 7 (omega arith); third = w.small 8 (omega arith) }

  town-small : Small (three (n 12) (n 13) (n 14))
  town-small = record { first = w.small 12 (omega arith); second = w.small 13 (omega arith); third = w.small 14 (omega arith) }

  names-parts : (long : Bool) → Parts true (get_or rows 6 no_row) (get_or rows 7 no_row) (get_or rows 8 no_row) (names_of long rows)
  names-parts long = parts true _ _ _ _ (chosen_fits long true _ _ _ _ names-small names-fit)

  town-parts : (long : Bool) → Parts false (get_or rows 12 no_row) (get_or rows 13 no_row) (get_or rows 14 no_row) (town_of long rows)
  town-parts long = parts false _ _ _ _ (chosen_fits long false _ _ _ _ town-small town-fit)

  alone-parts : (long : Bool) (k : ℕ) → k < 16 → Parts false plain_row plain_row (get_or rows k no_row) (chosen long false plain_row plain_row (get_or rows k no_row))
  alone-parts long k b =
      parts false plain_row plain_row (get_or rows k no_row) _
      (chosen_fits long false plain_row plain_row (get_or rows k no_row) (three 0 0 (n k)) (alone_small (n k) (w.small k b)) (alone_fits (get_or rows k no_row) (n k) (w.each k b)))

  -- each length chosen will do
  pub chosen_will : (long : Bool) (k : ℕ) → Kind k → k < 16 → will_do (get_or rows k no_row) (length_in long rows k) ≡ true
  unfolding by_place place_of three_at start_of grouped
  chosen_will long k (alone e) b = rw (alone_length long rows k e) (alone-parts long k b).third
  chosen_will long k title b = (names-parts long).first
  chosen_will long k given b = (names-parts long).second
  chosen_will long k prefix b = (names-parts long).third
  chosen_will long k country b = (town-parts long).first
  chosen_will long k postal b = (town-parts long).second
  chosen_will long k town b = (town-parts long).third

  pub chosen_names : (long : Bool) → sum_holds true (three (length_in long rows 6) (length_in long rows 7) (length_in long rows 8)) ≡ true
  chosen_names long = subst (λ (t : Three). sum_holds true t ≡ true) (sym (names_lengths long rows)) (names-parts long).sum

  pub chosen_town : (long : Bool) → sum_holds false (three (length_in long rows 12) (length_in long rows 13) (length_in long rows 14)) ≡ true
  chosen_town long = subst (λ (t : Three). sum_holds false t ≡ true) (sym (town_lengths long rows)) (town-parts long).sum

  -- their bytes, by the sums
  names-unit : (long : Bool) → unit_size (length_in long rows) 6 ≡ size_in (names_of long rows)
  names-unit long = (unit_names (length_in long rows)).0 ∙ ap size_in (names_lengths long rows)

  town-unit : (long : Bool) → unit_size (length_in long rows) 12 ≡ size_in (town_of long rows)
  town-unit long = (unit_town (length_in long rows)).0 ∙ ap size_in (town_lengths long rows)

  alone-unit : (long : Bool) (u : ℕ) → u < 16 → grouped u ≡ false → unit_size (length_in long rows) u ≡ size_in (chosen long false plain_row plain_row (get_or rows u no_row))
  alone-unit long u b e =
      unit_alone (length_in long rows) u e ∙ ap size_of (alone_length long rows u e) ∙ sym (size_third (get_or rows u no_row) _ (alone-parts long u b))

  alone-own : (u : ℕ) → grouped u ≡ false → unit_size n u ≡ size_in (three 0 0 (n u))
  unfolding size_in
  alone-own u e = unit_alone n u e ∙ omega (arith, size_zero)

  few : (u : ℕ) → Kind u → u < 16 → unit_size (length_in false rows) u ≤ unit_size n u
  few u (alone e) b =
      omega (
        arith,
        alone-unit false u b e,
        alone-own u e,
        chosen_fewest false plain_row plain_row (get_or rows u no_row) (three 0 0 (n u)) (alone_small (n u) (w.small u b)) (alone_fits (get_or rows u no_row) (n u) (w.each u b)),
      )
  few u title b = omega (arith, names-unit false, (unit_names n).0, chosen_fewest true _ _ _ _ names-small names-fit)
  few u given b = omega (arith, (unit_names (length_in false rows)).1)
  few u prefix b = omega (arith, (unit_names (length_in false rows)).2)
  few u country b = omega (arith, town-unit false, (unit_town n).0, chosen_fewest false _ _ _ _ town-small town-fit)
  few u postal b = omega (arith, (unit_town (length_in false rows)).1)
  few u town b = omega (arith, (unit_town (length_in false rows)).2)

  many : (u : ℕ) → Kind u → u < 16 → unit_size n u ≤ unit_size (length_in true rows) u
  many u (alone e) b =
      omega (
        arith,
        alone-unit true u b e,
        alone-own u e,
        chosen_most false plain_row plain_row (get_or rows u no_row) (three 0 0 (n u)) (alone_small (n u) (w.small u b)) (alone_fits (get_or rows u no_row) (n u) (w.each u b)),
      )
  many u title b = omega (arith, names-unit true, (unit_names n).0, chosen_most true _ _ _ _ names-small names-fit)
  many u given b = omega (arith, (unit_names n).1)
  many u prefix b = omega (arith, (unit_names n).2)
  many u country b = omega (arith, town-unit true, (unit_town n).0, chosen_most false _ _ _ _ town-small town-fit)
  many u postal b = omega (arith, (unit_town n).1)
  many u town b = omega (arith, (unit_town n).2)

  top : (long : Bool) (u : ℕ) → Kind u → u < 16 → unit_size (length_in long rows) u ≤ 32
  top long u (alone e) b = omega (arith, alone-unit long u b e, fits_most false _ (chosen_small long false plain_row plain_row (get_or rows u no_row)) (alone-parts long u b).sum)
  top long u title b = omega (arith, names-unit long, fits_most true _ (chosen_small long true (get_or rows 6 no_row) (get_or rows 7 no_row) (get_or rows 8 no_row)) (names-parts long).sum)
  top long u given b = omega (arith, (unit_names (length_in long rows)).1)
  top long u prefix b = omega (arith, (unit_names (length_in long rows)).2)
  top long u country b = omega (arith, town-unit long, fits_most false _ (chosen_small long false (get_or rows 12 no_row) (get_or rows 13 no_row) (get_or rows 14 no_row)) (town-parts long).sum)
  top long u postal b = omega (arith, (unit_town (length_in long rows)).1)
  top long u town b = omega (arith, (unit_town (length_in long rows)).2)

  -- ---- the bytes of all: the fewest, the most, and one long row more
  abbrev size_at : ℕ → ℕ
  size_at long = total 16 (unit_size (length_at rows long))

  pub size_fewest : size_at 0 ≤ total 16 (unit_size n)
  size_fewest =
      total_less 16 (unit_size (length_at rows 0)) (unit_size n)
      (λ u b. omega (arith, mixed rows 0 u (kind u), ap (λ (q : Bool). unit_size (length_in q rows) u) (le-ltb u 0 (omega arith)), few u (kind u) b))

  pub size_most : total 16 (unit_size n) ≤ size_at 16
  size_most =
      total_less 16 (unit_size n) (unit_size (length_at rows 16))
      (λ u b. omega (arith, mixed rows 16 u (kind u), ap (λ (q : Bool). unit_size (length_in q rows) u) (lt-ltb u 16 b), many u (kind u) b))

  pub size_more : (long : ℕ) → long < 16 → size_at (suc long) ≤ size_at long + 32
  size_more long b = total_one 16 (unit_size (length_at rows long)) (unit_size (length_at rows (suc long))) long others here
    where
      others : (k : ℕ) → k < 16 → (k ≡ long → ⊥) → unit_size (length_at rows (suc long)) k ≤ unit_size (length_at rows long) k
      others k c d = omega (arith, mixed rows long k (kind k), mixed rows (suc long) k (kind k), ap (λ (q : Bool). unit_size (length_in q rows) k) (below_same k long d))

      here : unit_size (length_at rows (suc long)) long ≤ unit_size (length_at rows long) long + 32
      here = omega (arith, mixed rows (suc long) long (kind long), top (ltb long (suc long)) long (kind long) b)
