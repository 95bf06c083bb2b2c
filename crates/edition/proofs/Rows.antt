-- The first bad row, one row after the other. Assumes nothing.
use Prim.Native.Nat.{ℕ, zero, suc, ◌+◌, ◌%◌, ◌^◌, ◌≤◌, ◌<◌}
use native.Mathlib.Nat.{add-zero, zero-add, add-suc, suc-add, le_of_suc-le-suc, not-suc-le-zero, lt_of_lt_of_le}
use native.Mathlib.Numerals.{add-one}
use native.Mathlib.Omega.{arith}
use borrow.Author.Tests.{eqb-true, ltb-true, leb-true, leb-false, eq-eqb, ne_eqb}
use mathlib.Core.Path.{◌≡◌, refl, sym, ap}
use mathlib.Core.Bool.{Bool, true, false, cond, ◌&&◌}
use mathlib.Core.List.{List, [], ◌∷◌}
use lib.Dec.{eqb, leb, ltb}
use lib.Pow.{pow_mono}
use lib.ListN.{length, get_or, drop}
use lib.Seq.{drop-cons, drop-length}
use Rattle.rules.specs.declared.Rule.{Rule}
use Rattle.rules.specs.declared.Rule.TheVariants.{Digits, Text, Lead, Code, Birth, Expiry, Raw, NotD}
use Rattle.edition.specs.declared.Row.{Row}
use Rattle.edition.specs.declared.Edition.{Edition}
use Rattle.edition.specs.declared.Formed.{Formed}
use Rattle.edition.specs.declared.Formed.TheVariants.{Well, Bad, Unnumbered}
use Rattle.ground.specs.Lists.{among, distinct}
use Rattle.edition.specs.Sets.{permitted, only}
use Rattle.edition.specs.Rows.{tags, tag_of, no_row, set_formed, by_rule, row_formed, formed_from, and_number, formed_of, ToldFormed, formed_told}
use Rattle.ground.proofs.Lists.{true_false, and_left, and_right}
use Rattle.edition.proofs.Sets.{beyond}

-- the tags of the seventeen rows are distinct
pub tags_distinct : distinct tags ≡ true
unfolding distinct among tags
tags_distinct = refl

-- no two answers are formed_told alike
pub told_apart : (a b : Formed) → formed_told a ≡ formed_told b → a ≡ b
unfolding tags
told_apart a b e = go a b (ap (λ (t : ToldFormed). t.number) e) (ap (λ (t : ToldFormed). t.row) e) (ap (λ (t : ToldFormed). t.tag) e)
  where
    tagged : (k : ℕ) → k ≡ 0 → tag_of k ≡ 0 → ⊥
    tagged k r t = let z : ◌≡◌ {A = ℕ} 0x80 0 = rw r at t in omega arith

    go : (a b : Formed) → (formed_told a).number ≡ (formed_told b).number → (formed_told a).row ≡ (formed_told b).row → (formed_told a).tag ≡ (formed_told b).tag → a ≡ b
    go Well Well n r t = refl
    go Well (Bad k) n r t = absurd (omega arith)
    go Well Unnumbered n r t = absurd (omega arith)
    go (Bad k) Well n r t = absurd (omega arith)
    go (Bad k) (Bad j) n r t = ap Bad r
    go (Bad k) Unnumbered n r t = absurd (tagged k r t)
    go Unnumbered Well n r t = absurd (omega arith)
    go Unnumbered (Bad k) n r t = absurd (tagged k (sym r) (sym t))
    go Unnumbered Unnumbered n r t = refl

module _ (rs : List Row) (i : ℕ) where
  pub formed_pass : i < length rs → row_formed (eqb i 16) (get_or rs i no_row) ≡ true → formed_from (i + 1) (drop (i + 1) rs) ≡ formed_from i (drop i rs)
  unfolding formed_from
  formed_pass h t = rw (add-one, drop-cons rs i no_row, t)

  pub formed_stop : i < length rs → row_formed (eqb i 16) (get_or rs i no_row) ≡ false → formed_from i (drop i rs) ≡ Bad i
  unfolding formed_from
  formed_stop h t = rw (drop-cons rs i no_row, t)

  pub formed_end : i ≡ length rs → formed_from i (drop i rs) ≡ Well
  unfolding formed_from
  formed_end h = rw (h, drop-length)

-- the first bad row is one of the rows
pub bad_below : (k : ℕ) (rs : List Row) (j : ℕ) → formed_from k rs ≡ Bad j → j < k + length rs
unfolding formed_from
bad_below k [] j e = absurd (let z : ◌≡◌ {A = ℕ} 0 1 = cc in omega arith)
bad_below k (r ∷ rs) j e = go (bad_below (suc k) rs j) (row_formed (eqb k 16) r) e
  where
    go : (formed_from (suc k) rs ≡ Bad j → j < suc k + length rs) → (q : Bool) → cond q (formed_from (suc k) rs) (Bad k) ≡ Bad j → j < k + suc (length rs)
    go ih true h = omega (arith, ih h)
    go ih false h = let same : k ≡ j = cc in omega arith

-- ---- a well-formed edition: its rows, and its number
rows_in : (number : ℕ) (f : Formed) → and_number number f ≡ Well → (f ≡ Well) × (eqb number 0 ≡ false)
rows_in number Well e = (refl, go (eqb number 0) e)
  where
    go : (q : Bool) → cond q Unnumbered Well ≡ Well → q ≡ false
    go true e = cc
    go false e = refl
rows_in number (Bad k) e = (cc, cc)
rows_in number Unnumbered e = (cc, cc)

pub formed_rows : (e : Edition) → formed_of e ≡ Well → formed_from 0 e.rows ≡ Well
unfolding formed_of
formed_rows e h = (rows_in e.number (formed_from 0 e.rows) h).0

pub formed_number : (e : Edition) → formed_of e ≡ Well → eqb e.number 0 ≡ false
unfolding formed_of
formed_number e h = (rows_in e.number (formed_from 0 e.rows) h).1

-- that its number is 0 is told only of an edition whose rows are right
never_unnumbered : (k : ℕ) (rs : List Row) → formed_from k rs ≡ Unnumbered → ⊥
unfolding formed_from
never_unnumbered k [] e = let z : ◌≡◌ {A = ℕ} 0 1 = cc in omega arith
never_unnumbered k (r ∷ rs) e = go (never_unnumbered (suc k) rs) (row_formed (eqb k 16) r) e
  where
    go : (formed_from (suc k) rs ≡ Unnumbered → ⊥) → (q : Bool) → cond q (formed_from (suc k) rs) (Bad k) ≡ Unnumbered → ⊥
    go ih true h = ih h
    go ih false h = let z : ◌≡◌ {A = ℕ} 0 1 = cc in omega arith

bad_in : (number : ℕ) (f : Formed) (k : ℕ) → and_number number f ≡ Bad k → f ≡ Bad k
bad_in number Well k e = go (eqb number 0) e
  where
    go : (q : Bool) → cond q Unnumbered Well ≡ Bad k → Well ≡ Bad k
    go true e = cc
    go false e = e
bad_in number (Bad j) k e = e
bad_in number Unnumbered k e = e

zero_in : (number : ℕ) (f : Formed) → (f ≡ Unnumbered → ⊥) → and_number number f ≡ Unnumbered → number ≡ 0
zero_in number Well h e = go (eqb number 0) refl e
  where
    go : (q : Bool) → eqb number 0 ≡ q → cond q Unnumbered Well ≡ Unnumbered → number ≡ 0
    go true p e = eqb-true number 0 p
    go false p e = absurd (let z : ◌≡◌ {A = ℕ} 0 1 = cc in omega arith)
zero_in number (Bad k) h e = absurd (let z : ◌≡◌ {A = ℕ} 0 1 = cc in omega arith)
zero_in number Unnumbered h e = absurd (h refl)

pub bad_rows : (e : Edition) (k : ℕ) → formed_of e ≡ Bad k → formed_from 0 e.rows ≡ Bad k
unfolding formed_of
bad_rows e k h = bad_in e.number (formed_from 0 e.rows) k h

pub number_zero : (e : Edition) → formed_of e ≡ Unnumbered → e.number ≡ 0
unfolding formed_of
number_zero e h = zero_in e.number (formed_from 0 e.rows) (never_unnumbered 0 e.rows) h

pub bad_formed : (e : Edition) (k : ℕ) → formed_from 0 e.rows ≡ Bad k → formed_of e ≡ Bad k
unfolding formed_of
bad_formed e k h = rw h

pub unnumbered : (e : Edition) → formed_from 0 e.rows ≡ Well → e.number ≡ 0 → formed_of e ≡ Unnumbered
unfolding formed_of
unnumbered e h z = rw (h, eq-eqb e.number 0 z)

pub well_formed : (e : Edition) → formed_from 0 e.rows ≡ Well → (e.number ≡ 0 → ⊥) → formed_of e ≡ Well
unfolding formed_of
well_formed e h z = rw (h, ne_eqb e.number 0 z)

-- ---- a row, by its rule
and_none : (a : Bool) → (a && false) ≡ false
and_none true = refl
and_none false = refl

and_all : (a : Bool) → (a && true) ≡ a
and_all true = refl
and_all false = refl

-- a well-formed set of one length needs no other test
set_only : (lengths s : ℕ) → set_formed s ≡ true → (set_formed lengths && eqb lengths s) ≡ eqb lengths s
set_only lengths s f = go (eqb lengths s) refl
  where
    go : (q : Bool) → eqb lengths s ≡ q → (set_formed lengths && q) ≡ q
    go true e = rw (eqb-true lengths s e, f)
    go false e = and_none (set_formed lengths)

-- a rule that asks for no set of its own
pub plain_formed : (r : Row) → by_rule r.rule true false false false ≡ true → row_formed false r ≡ set_formed r.lengths
plain_formed r p = go r.rule p
  where
    go : (rule : Rule) → by_rule rule true false false false ≡ true
        → (set_formed r.lengths && by_rule rule true (eqb r.lengths (only 8)) (eqb r.lengths (only 4)) false) ≡ set_formed r.lengths
    go Digits e = and_all (set_formed r.lengths)
    go Text e = and_all (set_formed r.lengths)
    go Lead e = and_all (set_formed r.lengths)
    go Code e = and_all (set_formed r.lengths)
    go Birth e = absurd (true_false e refl)
    go Expiry e = absurd (true_false e refl)
    go Raw e = absurd (true_false e refl)
    go NotD e = and_all (set_formed r.lengths)

-- one that does: its set is well formed
pub special_formed : (r : Row) → by_rule r.rule true false false false ≡ false
    → row_formed false r ≡ by_rule r.rule false (eqb r.lengths (only 8)) (eqb r.lengths (only 4)) false
special_formed r p = go r.rule p
  where
    go : (rule : Rule) → by_rule rule true false false false ≡ false
        → (set_formed r.lengths && by_rule rule true (eqb r.lengths (only 8)) (eqb r.lengths (only 4)) false)
        ≡ by_rule rule false (eqb r.lengths (only 8)) (eqb r.lengths (only 4)) false
    go Digits e = absurd (true_false refl e)
    go Text e = absurd (true_false refl e)
    go Lead e = absurd (true_false refl e)
    go Code e = absurd (true_false refl e)
    go Birth e = set_only r.lengths (only 8) refl
    go Expiry e = set_only r.lengths (only 4) refl
    go Raw e = and_none (set_formed r.lengths)
    go NotD e = absurd (true_false refl e)

-- the row of the checksum, whose set is {1}
pub checksum_formed : (r : Row) → row_formed true r ≡ by_rule r.rule false false false (r.required && eqb r.lengths (only 1))
checksum_formed r = go r.rule
  where
    raw : (q : Bool) → (set_formed r.lengths && (q && eqb r.lengths (only 1))) ≡ (q && eqb r.lengths (only 1))
    raw true = set_only r.lengths (only 1) refl
    raw false = and_none (set_formed r.lengths)

    go : (rule : Rule) → (set_formed r.lengths && by_rule rule false false false (r.required && eqb r.lengths (only 1))) ≡ by_rule rule false false false (r.required && eqb r.lengths (only 1))
    go Digits = and_none (set_formed r.lengths)
    go Text = and_none (set_formed r.lengths)
    go Lead = and_none (set_formed r.lengths)
    go Code = and_none (set_formed r.lengths)
    go Birth = and_none (set_formed r.lengths)
    go Expiry = and_none (set_formed r.lengths)
    go Raw = raw r.required
    go NotD = and_none (set_formed r.lengths)

-- ---- the rows of a well-formed table
formed_in : (q : Bool) (f : Formed) (k : ℕ) → cond q f (Bad k) ≡ Well → (q ≡ true) × (f ≡ Well)
formed_in true f k e = (refl, e)
formed_in false f k e = (cc, cc)

pub formed_head : (k : ℕ) (r : Row) (rs : List Row) → formed_from k (r ∷ rs) ≡ Well → (row_formed (eqb k 16) r ≡ true) × (formed_from (suc k) rs ≡ Well)
unfolding formed_from
formed_head k r rs e = formed_in (row_formed (eqb k 16) r) (formed_from (suc k) rs) k e

-- each row is well formed
pub formed_from_lem : (k : ℕ) (rs : List Row) (i : ℕ) → formed_from k rs ≡ Well → i < length rs → row_formed (eqb (k + i) 16) (get_or rs i no_row) ≡ true
formed_from_lem k [] i e h = absurd (not-suc-le-zero h)
formed_from_lem k (r ∷ rs) zero e h = rw (add-zero k) (formed_head k r rs e).0
formed_from_lem k (r ∷ rs) (suc i) e h = rw (add-suc k i, ← suc-add k i) (formed_from_lem (suc k) rs i (formed_head k r rs e).1 (le_of_suc-le-suc h))

pub formed_row : (rs : List Row) (i : ℕ) → formed_from 0 rs ≡ Well → i < length rs → row_formed (eqb i 16) (get_or rs i no_row) ≡ true
formed_row rs i e h = rw (zero-add i) at (formed_from_lem 0 rs i e h)

-- a well-formed set has not the length 0, and none past 28
pub record Within28 (lengths : ℕ) : Type 0 where
  pub some : 0 < lengths
  pub even : lengths % 2 ≡ 0
  pub small : lengths < 2 ^ 29

pub set_within : (lengths : ℕ) → set_formed lengths ≡ true → Within28 lengths
set_within lengths h =
    let front = and_left (ltb 0 lengths && eqb (lengths % 2) 0) (ltb lengths (2 ^ 29)) h in
    record {
      some = ltb-true 0 lengths (and_left (ltb 0 lengths) (eqb (lengths % 2) 0) front);
      even = eqb-true (lengths % 2) 0 (and_right (ltb 0 lengths) (eqb (lengths % 2) 0) front);
      small = ltb-true lengths (2 ^ 29) (and_right (ltb 0 lengths && eqb (lengths % 2) 0) (ltb lengths (2 ^ 29)) h);
    }

pub row_within : (last : Bool) (r : Row) → row_formed last r ≡ true → Within28 r.lengths
row_within last r h = set_within r.lengths (and_left (set_formed r.lengths) _ h)

-- each row of a well-formed table has such a set
pub formed_within : (rs : List Row) (i : ℕ) → formed_from 0 rs ≡ Well → i < length rs → Within28 (get_or rs i no_row).lengths
formed_within rs i e h = row_within (eqb i 16) (get_or rs i no_row) (formed_row rs i e h)

pub permits_most : (lengths n : ℕ) → lengths < 2 ^ 29 → permitted lengths n ≡ true → n ≤ 28
permits_most lengths n small p = go (leb n 28) refl
  where
    go : (q : Bool) → leb n 28 ≡ q → n ≤ 28
    go true e = leb-true n 28 e
    go false e = absurd (true_false p (beyond lengths n (lt_of_lt_of_le small (pow_mono (leb-false n 28 e)))))

-- the last row is required, raw, and has the set {1}
last_by : (rule : Rule) (birth expiry raw : Bool) → by_rule rule false (false && birth) (false && expiry) raw ≡ true → (rule ≡ Raw) × (raw ≡ true)
last_by Digits b x r e = absurd (true_false e refl)
last_by Text b x r e = absurd (true_false e refl)
last_by Lead b x r e = absurd (true_false e refl)
last_by Code b x r e = absurd (true_false e refl)
last_by Birth b x r e = absurd (true_false e refl)
last_by Expiry b x r e = absurd (true_false e refl)
last_by Raw b x r e = (refl, e)
last_by NotD b x r e = absurd (true_false e refl)

pub record LastRow (r : Row) : Type 0 where
  pub required : r.required ≡ true
  pub rule : r.rule ≡ Raw
  pub lengths : r.lengths ≡ only 1

pub last_formed : (r : Row) → row_formed true r ≡ true → LastRow r
last_formed r e =
    let raw = last_by r.rule (eqb r.lengths (only 8)) (eqb r.lengths (only 4)) (r.required && eqb r.lengths (only 1)) (and_right (set_formed r.lengths) _ e) in
    record {
      required = and_left r.required (eqb r.lengths (only 1)) raw.1;
      rule = raw.0;
      lengths = eqb-true r.lengths (only 1) (and_right r.required (eqb r.lengths (only 1)) raw.1);
    }
