-- The loop that puts one object after the other: what is put so far, and what is left. Assumes nothing.
use mathlib.Core.Path.{◌≡◌, refl, sym, ap, ◌∙◌}
use Prim.Native.Nat.{ℕ, ◌+◌, ◌%◌, ◌≤◌, ◌<◌}
use native.Mathlib.Nat.{not-suc-le-zero}
use native.Mathlib.Omega.{arith}
use mathlib.Core.Bool.{Bool, true, false, cond, ◌&&◌}
use mathlib.Core.List.{List, [], ◌∷◌, ◌++◌, append-nil, append_assoc}
use borrow.Author.Tests.{leb-true, lt-ltb, le-ltb}
use lib.Dec.{leb}
use lib.ListN.{length, get_or, drop, length-append, length-drop}
use lib.Seq.{sets, drop-drop}
use Rattle.std.specs.Prelude.{Option, Some, None}
use Rattle.tree_back.specs.declared.Step.{Step}
use Rattle.tree_back.specs.Glue.{value_size, object_bytes, fits, step, step_of, Glue, glued, none, prepend, glue, glued_of, InRoom, GluedIn}
use Rattle.ground.proofs.Lists.{and_left, and_right}
use Rattle.ground.proofs.Stores.{sets_then}
use Rattle.lengths.proofs.Laws.{field_size}
use Rattle.tree_back.proofs.Putting.{bytes_size}

pub record Fits (cap p t n : ℕ) (vs : List ℕ) : Type 0 where
  pub tag : t ≤ 255
  pub enough : value_size t n ≤ length vs
  pub room : p + 4 + value_size t n ≤ cap

-- what a step holds
abbrev values_of : Option Step → ℕ
values_of (Some s) = s.values
values_of None = 0

abbrev bytes_of : Option Step → ℕ
bytes_of (Some s) = s.bytes
bytes_of None = 0

module _ (cap p t n : ℕ) (vs : List ℕ) where
  pub fits_in : fits cap p t n vs ≡ true → Fits cap p t n vs
  unfolding fits
  fits_in e =
      let b = and_right (leb t 255) (leb (value_size t n) (length vs) && leb (p + 4 + value_size t n) cap) e in
      record {
        tag = leb-true t 255 (and_left (leb t 255) (leb (value_size t n) (length vs) && leb (p + 4 + value_size t n) cap) e);
        enough = leb-true (value_size t n) (length vs) (and_left (leb (value_size t n) (length vs)) (leb (p + 4 + value_size t n) cap) b);
        room = leb-true (p + 4 + value_size t n) cap (and_right (leb (value_size t n) (length vs)) (leb (p + 4 + value_size t n) cap) b);
      }

  put-by : (q : Bool) (m size : ℕ) → step m size ≡ cond q (step (value_size t n) (length (object_bytes t n vs))) None
      → (q ≡ true) × ((m ≡ value_size t n) × (size ≡ length (object_bytes t n vs)))
  put-by true m size e = (refl, (ap values_of e, ap bytes_of e))
  put-by false m size e = absurd (let z : ◌≡◌ {A = ℕ} 0 1 = cc in omega arith)

  pub put_is : (m size : ℕ) → step m size ≡ step_of cap p t n vs → (fits cap p t n vs ≡ true) × ((m ≡ value_size t n) × (size ≡ length (object_bytes t n vs)))
  unfolding step_of
  put_is m size e = put-by (fits cap p t n vs) m size e

  no-by : (q : Bool) (m size : ℕ) → None ≡ cond q (step m size) None → q ≡ false
  no-by true m size e = absurd (let z : ◌≡◌ {A = ℕ} 0 1 = cc in omega arith)
  no-by false m size e = refl

  pub no_is : None ≡ step_of cap p t n vs → fits cap p t n vs ≡ false
  unfolding step_of
  no_is e = no-by (fits cap p t n vs) (value_size t n) (length (object_bytes t n vs)) e

-- the words of one object and those behind them
glue_more : (cap p : ℕ) (x r vs : List ℕ) → length x ≡ 4 → glue cap p (x ++ r) vs
    ≡ cond (fits cap p (get_or x 0 0) (get_or x 3 0) vs)
    (prepend (object_bytes (get_or x 0 0) (get_or x 3 0) vs) (glue cap (p + length (object_bytes (get_or x 0 0) (get_or x 3 0) vs)) r (drop (value_size (get_or x 0 0) (get_or x 3 0)) vs)))
    none
unfolding glue
glue_more cap p [] r vs h = absurd (omega arith)
glue_more cap p (a ∷ []) r vs h = absurd (omega arith)
glue_more cap p (a ∷ b ∷ []) r vs h = absurd (omega arith)
glue_more cap p (a ∷ b ∷ c ∷ []) r vs h = absurd (omega arith)
glue_more cap p (a ∷ b ∷ c ∷ d ∷ []) r vs h = refl
glue_more cap p (a ∷ b ∷ c ∷ d ∷ e ∷ x) r vs h = absurd (omega arith)

few : (cap p : ℕ) (l vs : List ℕ) → 0 < length l → length l < 4 → glue cap p l vs ≡ none
unfolding glue
few cap p [] vs h g = absurd (not-suc-le-zero h)
few cap p (a ∷ []) vs h g = refl
few cap p (a ∷ b ∷ []) vs h g = refl
few cap p (a ∷ b ∷ c ∷ []) vs h g = refl
few cap p (a ∷ b ∷ c ∷ d ∷ l) vs h g = absurd (omega arith)

no_words : (l : List ℕ) → length l ≡ 0 → l ≡ []
no_words [] h = refl
no_words (a ∷ l) h = absurd (omega arith)

pub prepend_none : (g : Glue) → prepend [] g ≡ g
prepend_none (glued bs) = refl
prepend_none none = refl

pub prepend_prepend : (xs bs : List ℕ) (g : Glue) → prepend xs (prepend bs g) ≡ prepend (xs ++ bs) g
prepend_prepend xs bs (glued cs) = rw append_assoc
prepend_prepend xs bs none = refl

-- p bytes and q values are done, and the words r are left
pub record Sofar (ws vs out₀ out r : List ℕ) (p q : ℕ) : Type 0 where
  pub bs : List ℕ
  pub whole : glue (length out₀) 0 ws vs ≡ prepend bs (glue (length out₀) p r (drop q vs))
  pub size : p ≡ length bs
  pub room : p ≤ length out₀
  pub words : length r % 4 ≡ length ws % 4
  pub values : q ≤ length vs
  pub same : length out ≡ length out₀
  pub stored : out ≡ sets out₀ 0 bs

module _ (ws vs out₀ : List ℕ) where
  pub sofar_none : Sofar ws vs out₀ out₀ ws 0 0
  sofar_none =
      record {
        bs = [];
        whole = sym (prepend_none (glue (length out₀) 0 ws vs));
        size = refl;
        room = omega arith;
        words = refl;
        values = omega arith;
        same = refl;
        stored = refl;
      }

  module _ (out r : List ℕ) (p q : ℕ) (w : Sofar ws vs out₀ out r p q) where
    refuse : glue (length out₀) p r (drop q vs) ≡ none → (after : List ℕ) → GluedIn (glue (length out₀) 0 ws vs) None out₀ after
    unfolding glued_of InRoom
    refuse e after =
        let g : glue (length out₀) 0 ws vs ≡ none = w.whole ∙ rw e in
        rw g (record { answer = refl; bytes = tt })

    module _ (x s : List ℕ) (is : r ≡ x ++ s) (long : length x ≡ 4) where
      abbrev t : ℕ
      t = get_or x 0 0

      abbrev n : ℕ
      n = get_or x 3 0

      pub sofar_more : (after : List ℕ) (m size : ℕ) → step m size ≡ step_of (length out) p t n (drop q vs)
          → (fits (length out) p t n (drop q vs) ≡ true → after ≡ sets out p (object_bytes t n (drop q vs))) → length after ≡ length out
          → Sofar ws vs out₀ after s (p + size) (q + m)
      sofar_more after m size e st same =
          let a = put_is (length out₀) p t n (drop q vs) m size (rw w.same at e) in
          let f = fits_in (length out₀) p t n (drop q vs) a.0 in
          let z = field_size n in
          let b = bytes_size (length out₀) p t n (drop q vs) f.enough in
          let l : length r ≡ 4 + length s = ap length is ∙ length-append x s ∙ ap (λ (k : ℕ). k + length s) long in
          record {
            bs = w.bs ++ object_bytes t n (drop q vs);
            whole = w.whole ∙ rw (is, glue_more (length out₀) p x s (drop q vs) long, a.0, a.1.0, a.1.1, drop-drop (value_size t n) q vs)
                (prepend_prepend w.bs (object_bytes t n (drop q vs)) (glue (length out₀) (p + length (object_bytes t n (drop q vs))) s (drop (q + value_size t n) vs)));
            size = simp length-append (omega (arith, w.size, a.1.1));
            room = omega (arith, f.room, a.1.1);
            words = omega (arith, l, w.words);
            values = omega (arith, f.enough, length-drop q vs, w.values, a.1.0);
            same = same ∙ w.same;
            stored = st (rw w.same a.0) ∙ sets_then out₀ w.bs 0 (object_bytes t n (drop q vs)) w.stored (omega (arith, w.size));
          }

      pub sofar_no : None ≡ step_of (length out) p t n (drop q vs) → (after : List ℕ) → GluedIn (glue (length out₀) 0 ws vs) None out₀ after
      sofar_no e after =
          refuse (rw is (glue_more (length out₀) p x s (drop q vs) long ∙ rw (no_is (length out₀) p t n (drop q vs) (rw w.same at e)))) after

    pub sofar_few : length r < 4 → (length ws % 4 ≡ 0 → ⊥) → (after : List ℕ) → GluedIn (glue (length out₀) 0 ws vs) None out₀ after
    sofar_few h g after =
        let some : length r ≡ 0 → ⊥ = λ e. g (sym w.words ∙ ap (λ (k : ℕ). k % 4) e) in
        refuse (few (length out₀) p r (drop q vs) (omega (arith, some)) h) after

    module _ (short : length r < 4) (even : length ws % 4 ≡ 0) where
      none_left : r ≡ []
      none_left = no_words r (omega (arith, w.words))

      pub sofar_left : q < length vs → (after : List ℕ) → GluedIn (glue (length out₀) 0 ws vs) None out₀ after
      unfolding glue
      sofar_left g after = refuse (rw (none_left, lt-ltb 0 (length (drop q vs)) (simp length-drop (omega arith)))) after

      pub sofar_end : length vs ≤ q → GluedIn (glue (length out₀) 0 ws vs) (Some p) out₀ out
      unfolding glue glued_of InRoom
      sofar_end g =
          let e : glue (length out₀) 0 ws vs ≡ glued w.bs = w.whole ∙ rw (none_left, le-ltb 0 (length (drop q vs)) (simp length-drop (omega arith)), append-nil) in
          rw e (record { answer = ap (λ (x : ℕ). Some x) w.size; bytes = (w.stored, omega (arith, w.size, w.room)) })
