-- The values at the places of an accepted image are those of its content. Assumes nothing.
use Prim.Native.Nat.{ℕ, zero, suc, ◌+◌, ◌^◌, ◌≤◌, ◌<◌}
use native.Mathlib.Nat.{zero-add, not-suc-le-zero}
use native.Mathlib.Omega.{arith}
use mathlib.Core.Path.{◌≡◌, refl, sym, ap, ◌∙◌}
use mathlib.Core.List.{List, [], ◌∷◌, ◌++◌, append_assoc, map}
use lib.ListN.{length, get_or, take, drop, length-append, length-take, length-drop, length-map, get_or-map, take-append-drop}
use lib.Seq.{take-append_seam, take-take, drop-drop, drop-append-add, ext_get_or}
use Rattle.edition.specs.declared.Row.{Row}
use Rattle.edition.specs.declared.Edition.{Edition}
use Rattle.edition.specs.declared.Formed.TheVariants.{Well}
use Rattle.edition.specs.Rows.{tags, formed_of, no_row}
use Rattle.edition.proofs.Rows.{formed_rows, formed_within, permits_most}
use Rattle.card.specs.declared.Refusal.{Refusal}
use Rattle.card.specs.declared.Places.{Places}
use Rattle.card.specs.Refusals.{none}
use Rattle.card.specs.Fields.{field_told}
use Rattle.card.specs.Content.{Content, record_of, empty_record}
use Rattle.card.specs.Layout.{object, body, object_tags, tag_at}
use Rattle.card.specs.Rules.{entries, AllMet, none_left, one_more}
use Rattle.card.specs.Frame.{field_of, start_of}
use Rattle.card.specs.Reading.{Answer, accepted, refused, values_in, walk_of, content_at, answer, answer_of, reading}
use Rattle.card.specs.Places.{start_at, starts_from, no_places, placed, places_of, places}
use Rattle.card.proofs.Chains.{answered_in, refused_in}
use Rattle.card.proofs.Readings.{Through, before_in, past_in}
use Rattle.card.proofs.Starts.{starts_at, starts_length}
use Rattle.reader_steps.specs.Steps.{values_at, Inside}
use Rattle.reader_steps.proofs.Copies.{values_length, value_at_lem}

-- ---- a value behind the objects before it
body_value : (k : ℕ) (ts : List ℕ) (vs : List (List ℕ)) (rest : List ℕ) → length vs ≤ length ts → 0 < length (get_or vs k [])
    → take (length (get_or vs k [])) (drop (length (body (take k ts) (take k vs)) + 2) (body ts vs ++ rest)) ≡ get_or vs k []
unfolding body
body_value zero ts [] rest h p = absurd (not-suc-le-zero p)
body_value (suc k) ts [] rest h p = absurd (not-suc-le-zero p)
body_value zero [] (v ∷ vs) rest h p = absurd (not-suc-le-zero h)
body_value (suc k) [] (v ∷ vs) rest h p = absurd (not-suc-le-zero h)
body_value zero (t ∷ ts) ([] ∷ vs) rest h p = absurd (not-suc-le-zero p)
body_value zero (t ∷ ts) ((b ∷ v) ∷ vs) rest h p = rw (append_assoc v (body ts vs) rest) (take-append_seam (b ∷ v) (body ts vs ++ rest))
body_value (suc k) (t ∷ ts) (v ∷ vs) rest h p =
    let n : length (object t v ++ body (take k ts) (take k vs)) + 2 ≡ length (object t v) + (length (body (take k ts) (take k vs)) + 2) =
    ap (λ (m : ℕ). m + 2) (length-append (object t v) (body (take k ts) (take k vs))) ∙ omega arith in
    rw (n, append_assoc (object t v) (body ts vs) rest, drop-append-add (object t v) (body ts vs ++ rest) (length (body (take k ts) (take k vs)) + 2))
    (body_value k ts vs rest (omega arith) p)

-- ---- the lengths that a well-formed table allows
met_short : (ts : List ℕ) (rs : List Row) (vs : List (List ℕ)) → ((i : ℕ) → i < length rs → (get_or rs i no_row).lengths < 2 ^ 29) → AllMet (entries ts rs) vs → (k : ℕ) → length (get_or vs k []) ≤ 28
unfolding entries
met_short [] rs vs w none_left k = nothing k
  where
    nothing : (k : ℕ) → length (get_or {A = List ℕ} [] k []) ≤ 28
    nothing zero = omega arith
    nothing (suc k) = omega arith
met_short (t ∷ ts) [] vs w none_left k = nothing k
  where
    nothing : (k : ℕ) → length (get_or {A = List ℕ} [] k []) ≤ 28
    nothing zero = omega arith
    nothing (suc k) = omega arith
met_short (t ∷ ts) (r ∷ rs) vs w (one_more {v = []} m a) zero = omega arith
met_short (t ∷ ts) (r ∷ rs) vs w (one_more {v = b ∷ v} m a) zero = permits_most r.lengths _ (w 0 (omega arith)) m.0
met_short (t ∷ ts) (r ∷ rs) vs w (one_more {vs = us} m a) (suc k) = met_short ts rs us (λ i h. w (suc i) (omega arith)) a k

-- ---- the places of the values of a walk
module _ (e : Edition) (s : List ℕ) (t : Through e s) where
  abbrev vs : List (List ℕ)
  vs = t.vs

  abbrev st : List ℕ
  st = starts_from (start_of s) vs 0 16

  abbrev ls : List ℕ
  ls = map length vs

  behind-start : drop (start_of s) s ≡ body object_tags vs ++ ((0x8E ∷ 1 ∷ t.k ∷ []) ++ drop (field_told (field_of s)).length (drop (start_of s) s))
  behind-start =
      sym (take-append-drop (field_told (field_of s)).length (drop (start_of s) s))
      ∙ ap (λ (l : List ℕ). l ++ drop (field_told (field_of s)).length (drop (start_of s) s)) t.bytes
      ∙ append_assoc (body object_tags vs) (0x8E ∷ 1 ∷ t.k ∷ []) _

  start_is : (k : ℕ) → k < 16 → get_or st k 0 ≡ start_at (start_of s) vs k
  start_is k h = starts_at (start_of s) vs 0 16 k h ∙ ap (start_at (start_of s) vs) (zero-add k)

  length-is : (k : ℕ) → get_or ls k 0 ≡ length (get_or vs k [])
  length-is k = get_or-map length vs k []

  value_back : (k : ℕ) → k < 16 → take (length (get_or vs k [])) (drop (start_at (start_of s) vs k) s) ≡ get_or vs k []
  unfolding start_at tag_at tags
  value_back k h = go (get_or vs k []) refl
    where
      go : (v : List ℕ) → get_or vs k [] ≡ v → take (length (get_or vs k [])) (drop (start_at (start_of s) vs k) s) ≡ get_or vs k []
      go [] q = rw q
      go (b ∷ v) q =
          let some : 0 < length (get_or vs k []) = rw q (omega arith) in
          let same : take k tags ≡ take k object_tags = sym (take-take k 16 tags (omega arith)) in
          let start : start_at (start_of s) vs k ≡ start_of s + (length (body (take k object_tags) (take k vs)) + 2) = rw (q, same) (omega arith) in
          ap (λ (m : ℕ). take (length (get_or vs k [])) (drop m s)) start
          ∙ ap (take (length (get_or vs k []))) (sym (drop-drop (length (body (take k object_tags) (take k vs)) + 2) (start_of s) s) ∙ ap (drop (length (body (take k object_tags) (take k vs)) + 2)) behind-start)
          ∙ body_value k object_tags vs _ (omega (arith, t.many)) some

  pub values_back : values_at s st ls ≡ vs
  values_back =
      let many : length st ≡ length ls = starts_length (start_of s) vs 0 16 ∙ sym (length-map vs length ∙ t.many) in
      let n = values_length s st ls many in
      ext_get_or [] (values_at s st ls) vs (n ∙ starts_length (start_of s) vs 0 16 ∙ sym t.many)
      (λ k h.
      let low : k < 16 = omega (arith, starts_length (start_of s) vs 0 16) in
      value_at_lem s st ls k many ∙ rw (start_is k low, length-is k) (value_back k low))

  pub values_inside : formed_of e ≡ Well → Inside s st ls
  unfolding start_at
  values_inside formed = record {
    within = λ k h. rw (start_is k h, length-is k) (room k h (get_or vs k []) refl);
    short = λ k h. rw (length-is k) (met_short object_tags e.rows vs (λ i l. (formed_within e.rows i (formed_rows e formed) l).small) t.met k);
  }
    where
      room : (k : ℕ) → k < 16 → (v : List ℕ) → get_or vs k [] ≡ v → start_at (start_of s) vs k + length (get_or vs k []) ≤ length s
      room k h [] q = rw q (omega arith)
      room k h (b ∷ v) q =
          let some : 0 < length (get_or vs k []) = rw q (omega arith) in
          let n = ap length (value_back k h) in
          let a = length-take (length (get_or vs k [])) (drop (start_at (start_of s) vs k) s) in
          let d = length-drop (start_at (start_of s) vs k) s in
          omega arith

-- ---- a reading by its table
content_values : (s : List ℕ) (vs : List (List ℕ)) (c : Content) → content_at s vs ≡ c → vs ≡ c.values
unfolding content_at
content_values s vs c e = ap (λ (y : Content). y.values) e

pub reads_refused : (e : Edition) (s : List ℕ) (p : Places) → p ≡ places e s → (p.refusal.number ≡ 0 → ⊥) → record { refusal = p.refusal; content = empty_record } ≡ reading e s
unfolding answer_of places_of placed no_places
reads_refused e s p is h = go (answer e s) is
  where
    go : (a : Answer) → p ≡ places_of (start_of s) a → record { refusal = p.refusal; content = empty_record } ≡ answer_of e.number a
    go (accepted c) q = absurd (h (ap (λ (y : Places). y.refusal.number) q))
    go (refused x) q = rw (ap (λ (y : Places). y.refusal) q)

pub record Given (e : Edition) (s : List ℕ) (p : Places) : Type 0 where
  pub is : record { refusal = none; content = record_of e.number (content_at s (values_at s p.starts p.lengths)) } ≡ reading e s
  pub long : length s ≡ 256
  pub inside : Inside s p.starts p.lengths

pub reads_accepted : (e : Edition) (s : List ℕ) (p : Places) → length e.rows ≡ 17 → p ≡ places e s → p.refusal.number ≡ 0 → Given e s p
unfolding answer answer_of places_of placed no_places
reads_accepted e s p n is z = go (answer e s) refl is
  where
    go : (a : Answer) → answer e s ≡ a → p ≡ places_of (start_of s) a → Given e s p
    go (refused x) a q = absurd ((refused_in _ _ x a).0 (ap (λ (y : Refusal). y.number) (refused_in _ _ x a).1 ∙ sym (ap (λ (y : Places). y.refusal.number) q) ∙ z))
    go (accepted c) a q =
        let r = answered_in _ _ c a in
        let b = before_in e s r.0 in
        let t = (past_in e s n b).0 in
        let same : c.values ≡ t.vs = sym (content_values s _ c r.1) ∙ t.values in
        let st : p.starts ≡ starts_from (start_of s) t.vs 0 16 = ap (λ (y : Places). y.starts) q ∙ ap (λ (v : List (List ℕ)). starts_from (start_of s) v 0 16) same in
        let ls : p.lengths ≡ map length t.vs = ap (λ (y : Places). y.lengths) q ∙ ap (map length) same in
        let back : values_at s p.starts p.lengths ≡ take 16 (values_in (walk_of e s)) = rw (st, ls) (values_back e s t ∙ sym t.values) in
        record {
          is =
              ap (λ (v : List (List ℕ)). record { refusal = none; content = record_of e.number (content_at s v) }) back
              ∙ ap (λ (y : Content). record { refusal = none; content = record_of e.number y }) r.1 ∙ sym (ap (answer_of e.number) a);
          long = b.size;
          inside = rw (st, ls) (values_inside e s t b.formed);
        }
