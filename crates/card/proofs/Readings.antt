-- What a reading that is refused nothing has passed: the tests before the objects, the objects, the tests behind them.
-- Each test of the chain held, and the walk gave the values whose bytes stand there. Assumes nothing.
use Prim.Native.Nat.{ℕ, ◌-◌}
use native.Mathlib.Omega.{arith}
use mathlib.Core.Path.{◌≡◌, refl, ap, ◌∙◌}
use mathlib.Core.Bool.{true}
use mathlib.Core.List.{List, [], ◌∷◌, ◌++◌, append-nil, map}
use lib.ListN.{length, take, drop, get_or}
use lib.Seq.{take_at, length-take-le}
use borrow.Author.Tests.{eqb-true}
use Rattle.edition.specs.declared.Edition.{Edition}
use Rattle.edition.specs.declared.Formed.TheVariants.{Well}
use Rattle.edition.specs.Rows.{tags, formed_of}
use Rattle.ground.proofs.Lists.{agree_same}
use Rattle.card.specs.Refusals.{none}
use Rattle.card.specs.Layout.{head, body, xor_all, object_tags}
use Rattle.card.specs.Rules.{object_rows, AllMet, first_allowed, last_allowed, names_fit, town_fits}
use Rattle.card.specs.Sums.{sums_refusal}
use Rattle.card.specs.Walk.{Walked, through, stopped, tags_of}
use Rattle.card.specs.Frame.{free_of, head_end, start_of, end_of, tail_end, objects_in}
use Rattle.card.specs.Reading.{objects_refusal, values_in, rest_in, front_refusal, rest_refusal, checksum_refusal, tail_refusal, walk_refusal, walk_of, read_refusal}
use Rattle.card.proofs.Chains.{neither, gate_in, tail_some, table_well}
use Rattle.card.proofs.Walks.{sound, walk_refuses}
use Rattle.card.proofs.Seventeen.{with_eight, Table, table_of}
use Rattle.card.proofs.FieldsRead.{FieldBack, field_back}
use Rattle.card.proofs.Layouts.{length_head}
use Rattle.card.proofs.LastRow.{met_length, Split, split_last, body_last, length_free}

-- ---- the tests before the objects
pub record Front (s : List ℕ) : Type 0 where
  pub first : first_allowed (get_or s 0 0) ≡ true
  pub head : head (get_or s 0 0) (free_of s) ≡ take 30 s
  pub field : FieldBack s

head_is : (s : List ℕ) → length s ≡ 256 → head_end s ≡ 30 → head (get_or s 0 0) (free_of s) ≡ take 30 s
unfolding head_end
head_is s n e =
    let due : length (head (get_or s 0 0) (free_of s)) ≡ 30 = length_head (get_or s 0 0) (free_of s) (length_free s (omega arith)) in
    let is : length (take 30 s) ≡ 30 = length-take-le 30 s (omega arith) in
    agree_same _ _ (cc) (cc)

pub front_in : (s : List ℕ) → length s ≡ 256 → (front_refusal s).number ≡ 0 → Front s
unfolding front_refusal
front_in s n z =
    let g1 = gate_in _ _ _ (omega arith) z in
    let g2 = gate_in _ _ _ (omega arith) g1.1 in
    let g3 = gate_in _ _ _ (omega arith) g2.1 in
    let g4 = gate_in _ _ _ (omega arith) g3.1 in
    record {
      first = g1.0;
      head = head_is s n (eqb-true _ _ g2.0);
      field = field_back s n (eqb-true _ _ g3.0) (eqb-true _ _ g4.0);
    }

pub record Before (e : Edition) (s : List ℕ) : Type 0 where
  pub size : length s ≡ 256
  pub formed : formed_of e ≡ Well
  pub front : Front s
  pub walked : (walk_refusal s (walk_of e s)).number ≡ 0

pub before_in : (e : Edition) (s : List ℕ) → (read_refusal e s).number ≡ 0 → Before e s
unfolding read_refusal
before_in e s z =
    let n1 = neither _ _ z in
    let n2 = neither _ _ n1.second in
    let n3 = neither _ _ n2.second in
    let n : length s ≡ 256 = eqb-true _ _ (gate_in _ _ _ (omega arith) n1.first).0 in
    record { size = n; formed = table_well _ n2.first; front = front_in s n n3.first; walked = n3.second }

-- ---- the objects: the sixteen values, the checksum's byte, and that their bytes are the template's
pub record Through (e : Edition) (s : List ℕ) : Type 0 where
  pub vs : List (List ℕ)
  pub k : ℕ
  pub values : take 16 (values_in (walk_of e s)) ≡ vs
  pub met : AllMet (object_rows e) vs
  pub many : length vs ≡ 16
  pub bytes : objects_in s ≡ body object_tags vs ++ (0x8E ∷ 1 ∷ k ∷ [])

empty_is : (bs : List ℕ) → length bs ≡ 0 → bs ≡ []
empty_is [] e = refl
empty_is (b ∷ bs) e = absurd (omega arith)

pub through_of : (e : Edition) (s : List ℕ) → length e.rows ≡ 17 → formed_of e ≡ Well
    → (objects_refusal (walk_of e s)).number ≡ 0 → (rest_refusal (end_of s) (length (rest_in (walk_of e s)))).number ≡ 0 → Through e s
unfolding rest_refusal
through_of e s n f objects rest = go (walk_of e s) refl objects rest
  where
    t : Table e
    t = table_of e n f

    go : (w : Walked) → walk_of e s ≡ w → (objects_refusal w).number ≡ 0 → (rest_refusal (end_of s) (length (rest_in w))).number ≡ 0 → Through e s
    go (stopped x) q y z = absurd (walk_refuses _ _ _ x q y)
    go (through all rest) q y z = parts (split_last (object_rows e) all both.0)
      where
        none_left : rest ≡ []
        none_left = empty_is rest (eqb-true _ _ (gate_in _ _ none (omega arith) z).0)

        both : AllMet (with_eight (object_rows e)) all × (objects_in s ≡ body (tags_of (with_eight (object_rows e))) all ++ rest)
        both = sound (with_eight (object_rows e)) (start_of s) (objects_in s) all rest (rw t.whole at q)

        parts : Split (object_rows e) all → Through e s
        parts sp =
            let count : length sp.vs ≡ 16 = met_length sp.met ∙ t.count in
            record {
              vs = sp.vs;
              k = sp.k;
              values = ap (λ (w : Walked). take 16 (values_in w)) q ∙ ap (take 16) sp.whole ∙ take_at sp.vs _ 16 count;
              met = sp.met;
              many = count;
              bytes = cc (both.1, none_left, append-nil (body tags all), sp.whole, t.tagged, body_last sp.vs sp.k count);
            }

-- ---- the tests behind the objects
pub record Past (s : List ℕ) (vs : List (List ℕ)) : Type 0 where
  pub names : names_fit (map length vs) ≡ true
  pub town : town_fits (map length vs) ≡ true
  pub sum : get_or s (end_of s - 1) 0 ≡ xor_all (take (end_of s - 31) (drop 30 s))
  pub fill : tail_end s ≡ 256
  pub last : last_allowed (get_or s 0 0) (get_or s 255 0) ≡ true

pub past_in : (e : Edition) (s : List ℕ) → length e.rows ≡ 17 → Before e s → (t : Through e s) × Past s t.vs
unfolding walk_refusal sums_refusal checksum_refusal tail_refusal
past_in e s n b =
    let n1 = neither _ _ b.walked in
    let n2 = neither _ _ n1.second in
    let n3 = neither _ _ n2.second in
    let n4 = neither _ _ n3.second in
    let t = through_of e s n b.formed n1.first n2.first in
    let g1 = gate_in _ _ _ (omega arith) n3.first in
    let g2 = gate_in _ _ _ (omega arith) g1.1 in
    let g3 = gate_in _ _ _ (omega arith) n4.first in
    let g4 = gate_in _ _ _ (tail_some _ _) n4.second in
    let g5 = gate_in _ _ _ (tail_some _ _) g4.1 in (
      t,
      record {
        names = rw t.values at g1.0;
        town = rw t.values at g2.0;
        sum = eqb-true _ _ g3.0;
        fill = eqb-true _ _ g4.0;
        last = g5.0;
      },
    )
