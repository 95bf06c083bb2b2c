-- The value of the checksum's row behind the sixteen others, and the free bytes of a head. Assumes nothing.
use Prim.Native.Nat.{ℕ, suc, ◌+◌, ◌≤◌, zero-le, suc-le-suc}
use native.Mathlib.Omega.{arith}
use native.Mathlib.Nat.{lt_of_lt_of_le}
use mathlib.Core.Path.{◌≡◌, refl, ap, ◌∙◌, subst}
use mathlib.Core.List.{List, [], ◌∷◌, ◌++◌, append_assoc}
use lib.ListN.{length, take, drop, get_or, length-append, length-drop, take-append-drop, drop_of_length-le}
use lib.Seq.{take_at, drop-cons, get_or-append-add, length-take-le}
use lib.Pow.{pow_mono}
use lib.Dec.{lit≤}
use Rattle.ground.specs.Lists.{leading}
use Rattle.edition.specs.Sets.{permitted}
use Rattle.edition.specs.Rows.{tags}
use Rattle.rules.specs.Values.{holds, judged}
use Rattle.ground.proofs.Lists.{true_false}
use Rattle.edition.proofs.Sets.{beyond}
use Rattle.card.specs.Layout.{identifier, head, body, object_tags}
use Rattle.card.specs.Rules.{Entry, RowMet, AllMet, none_left, one_more}
use Rattle.card.specs.Frame.{free_of}
use Rattle.card.proofs.Seventeen.{eight, with_eight}

-- ---- the row of the checksum
pub met_length : {rs : List Entry} {vs : List (List ℕ)} → AllMet rs vs → length vs ≡ length rs
met_length none_left = refl
met_length (one_more m a) = ap suc (met_length a)

pub eight_met : (k : ℕ) → RowMet eight.row (k ∷ [])
unfolding permitted judged holds leading
eight_met k = (refl, refl)

pub met_last : {rs : List Entry} {vs : List (List ℕ)} (k : ℕ) → AllMet rs vs → AllMet (with_eight rs) (vs ++ ((k ∷ []) ∷ []))
met_last k none_left = one_more {v = k ∷ []} (eight_met k) none_left
met_last k (one_more m a) = one_more m (met_last k a)

-- all seventeen values: the sixteen, and the one byte of the checksum
pub record Split (rs : List Entry) (all : List (List ℕ)) : Type 0 where
  pub vs : List (List ℕ)
  pub k : ℕ
  pub met : AllMet rs vs
  pub whole : all ≡ vs ++ ((k ∷ []) ∷ [])

only_one : (v : List ℕ) → RowMet eight.row v → (k : ℕ) × (v ≡ k ∷ [])
only_one [] m = absurd (true_false refl m)
only_one (k ∷ []) m = (k, refl)
only_one (k ∷ x ∷ v) m =
    absurd (true_false m.0 (beyond 2 (suc (suc (length v))) (lt_of_lt_of_le (lit≤ tt) (pow_mono (suc-le-suc (suc-le-suc zero-le))))))

pub split_last : (rs : List Entry) (all : List (List ℕ)) → AllMet (with_eight rs) all → Split rs all
split_last [] all (one_more {v = v} m none_left) =
    let o : (k : ℕ) × (v ≡ k ∷ []) = only_one v m in
    record { vs = []; k = o.0; met = none_left; whole = rw (← o.1) }
split_last (r ∷ rs) all (one_more {v = v} {vs = rest} m a) =
    let s : Split rs rest = split_last rs rest a in
    record { vs = v ∷ s.vs; k = s.k; met = one_more m s.met; whole = ap (λ (l : List (List ℕ)). v ∷ l) s.whole }

body_more : (ts : List ℕ) (vs : List (List ℕ)) (k : ℕ) → length vs ≡ length ts
    → body (ts ++ (0x8E ∷ [])) (vs ++ ((k ∷ []) ∷ [])) ≡ body ts vs ++ (0x8E ∷ 1 ∷ k ∷ [])
unfolding body
body_more [] [] k n = refl
body_more [] (v ∷ vs) k n = absurd (omega arith)
body_more (t ∷ ts) [] k n = absurd (omega arith)
body_more (t ∷ ts) (v ∷ vs) k n = rw (body_more ts vs k (omega arith), append_assoc)

pub body_last : (vs : List (List ℕ)) (k : ℕ) → length vs ≡ 16 → body tags (vs ++ ((k ∷ []) ∷ [])) ≡ body object_tags vs ++ (0x8E ∷ 1 ∷ k ∷ [])
unfolding tags
body_last vs k n = body_more object_tags vs k n

-- ---- the head
pub length_free : (s : List ℕ) → 17 ≤ length s → length (free_of s) ≡ 12
unfolding free_of
length_free s n =
    let front : length (take 11 (drop 6 s)) ≡ 11 = length-take-le 11 (drop 6 s) (rw length-drop (omega arith)) in
    simp (length-append, front)

-- what is free stands in the head as it is read
pub record Headed (s : List ℕ) (a : ℕ) (f : List ℕ) : Type 0 where
  pub first : get_or s 0 0 ≡ a
  pub free : free_of s ≡ f

pub headed : (s : List ℕ) (a : ℕ) (f rest : List ℕ) → length f ≡ 12 → s ≡ head a f ++ rest → Headed s a f
unfolding head identifier free_of
headed s a f rest n e = record {
  first = rw e;
  free = rw e (rw (append_assoc, front, person) (rw (← back) (take-append-drop 11 f)));
}
  where
    more : List ℕ
    more = 0x61 ∷ 0x0B ∷ 0x4F ∷ 0x06 ∷ 0xD2 ∷ 0x76 ∷ 0x00 ∷ 0x00 ∷ 0x01 ∷ 0x01 ∷ 0x53 ∷ 0x01 ∷ (drop 11 f ++ rest)

    size : length (take 11 f) ≡ 11
    size = length-take-le 11 f (omega arith)

    back : drop 11 f ≡ get_or f 11 0 ∷ []
    back = drop-cons f 11 0 (omega arith) ∙ ap (λ (l : List ℕ). get_or f 11 0 ∷ l) (drop_of_length-le f {i = 12} (omega arith))

    front : take 11 (take 11 f ++ more) ≡ take 11 f
    front = take_at (take 11 f) more 11 size

    person : get_or (take 11 f ++ more) 23 0 ≡ get_or f 11 0
    person =
        subst (λ (m : ℕ). get_or (take 11 f ++ more) (m + 12) 0 ≡ get_or (drop 11 f ++ rest) 0 0) size (get_or-append-add (take 11 f) more 12 0)
        ∙ ap (λ (l : List ℕ). get_or (l ++ rest) 0 0) back
