-- Our own plans pass the check: a state whose template has no tag is refused under every edition, and so is every state between the first step and the last;
-- a single step goes from the old image to the new one. Assumes nothing.
use Prim.Native.Nat.{ℕ, zero, suc, ◌+◌, ◌≤◌, ◌<◌}
use native.Mathlib.Omega.{arith}
use mathlib.Core.Path.{◌≡◌, refl, sym, ap, ◌∙◌}
use mathlib.Core.Logic.{inl, inr}
use mathlib.Core.Bool.{Bool, true, false, cond}
use mathlib.Core.List.{List, [], ◌∷◌, ◌++◌, append_assoc, append-nil}
use lib.Dec.{eqb, ltb}
use lib.ListN.{length, take, drop, get_or, length-append, length-drop, take-append-drop}
use lib.Seq.{set_at, get_or_at, length-take-le, drop-cons}
use borrow.Author.Tests.{eqb-true, eqb-false, eq-eqb, ltb-true, le-leb}
use Rattle.edition.specs.declared.Edition.{Edition}
use Rattle.demands.specs.Demands.{LentEdition}
use Rattle.rewriting.specs.Plans.{step_to, address_of, byte_of, step, MayBe}
use Rattle.rewriting.specs.Checking.{plan_test}
use Rattle.rewriting.proofs.Refused.{untagged}
use Rattle.rewriting.proofs.Decided.{is_same, passes_out}
use Rattle.planning.specs.Planning.{change, changes, rewritten, our_plan}
use Rattle.planning.proofs.Changes.{none_same}

-- what the type says of lent bytes
abbrev pub LentBytes : List ℕ → Type 0
LentBytes l = (k : ℕ) → get_or l k 0 < 256

take_bytes : (n : ℕ) (l : List ℕ) → LentBytes l → LentBytes (take n l)
take_bytes zero l b k = omega arith
take_bytes (suc n) [] b k = b k
take_bytes (suc n) (x ∷ l) b zero = b 0
take_bytes (suc n) (x ∷ l) b (suc k) = take_bytes n l (λ j. b (suc j)) k

drop_bytes : (n : ℕ) (l : List ℕ) → LentBytes l → LentBytes (drop n l)
drop_bytes zero l b = b
drop_bytes (suc n) [] b = b
drop_bytes (suc n) (x ∷ l) b = drop_bytes n l (λ j. b (suc j))

stepped : (pre : List ℕ) (o n at : ℕ) (rest : List ℕ) → length pre ≡ at → n < 256 → step (pre ++ (o ∷ rest)) (step_to at n) ≡ pre ++ (n ∷ rest)
stepped pre o n at rest e l =
    let a : address_of (step_to at n) ≡ at = omega arith in
    let b : byte_of (step_to at n) ≡ n = omega arith in
    rw (a, b) (set_at pre o rest n at e)

-- ---- one byte, or none
module _ (e : Edition) (lent : LentEdition e) (old new : List ℕ) where
  alone : (pre os ns : List ℕ) (at : ℕ) → length pre ≡ at → at + length os ≤ 256 → length ns ≡ length os → LentBytes ns → length (changes at os ns) ≤ 1
      → pre ++ ns ≡ new → plan_test e old new (pre ++ os) (changes at os ns) ≡ true
  unfolding changes plan_test
  alone pre [] [] at p l s b f w = rw w (is_same new)
  alone pre [] (n ∷ ns) at p l s b f w = absurd (omega arith)
  alone pre (o ∷ os) [] at p l s b f w = absurd (omega arith)
  alone pre (o ∷ os) (n ∷ ns) at p l s b f w =
      go (λ g. rw (append_assoc pre (n ∷ []) os) at (alone (pre ++ (n ∷ [])) os ns (suc at) (simp length-append (omega arith)) (omega arith) (omega arith) (λ k. b (suc k)) g (rw (append_assoc pre (n ∷ []) ns) w)))
      (eqb o n) refl (rw length-append at f)
    where
      go : (length (changes (suc at) os ns) ≤ 1 → plan_test e old new (pre ++ (n ∷ os)) (changes (suc at) os ns) ≡ true) → (t : Bool) → eqb o n ≡ t
          → length (cond t [] (step_to at n ∷ [])) + length (changes (suc at) os ns) ≤ 1
          → plan_test e old new (pre ++ (o ∷ os)) (cond t [] (step_to at n ∷ []) ++ changes (suc at) os ns) ≡ true
      go on true g h = rw (eqb-true o n g) (on (omega arith))
      go on false g h =
          let none : length (changes (suc at) os ns) ≡ 0 = omega arith in
          let rest : os ≡ ns = none_same (suc at) os ns (omega arith) none in
          let there : pre ++ (n ∷ os) ≡ new = rw rest w in
          let a : address_of (step_to at n) ≤ 255 = omega (arith, b 0) in
          rw (stepped pre o n at os p (b 0), le-leb (address_of (step_to at n)) 255 a, there, passes_out e lent old new new (inr (inl refl))) (rw there at (on (omega arith)))

-- ---- the bytes from `at` on are written, while the template has no tag
abbrev NoTag : List ℕ → Type 0
NoTag s = get_or s 30 0 ≡ 0x60 → ⊥

abbrev Spoilt : List ℕ → ℕ → List ℕ → Type 0
Spoilt pre n post = (x : List ℕ) → length x ≡ n → NoTag (pre ++ (x ++ post))

module _ (e : Edition) (lent : LentEdition e) (old new q : List ℕ) where
  writing : (pre os ns post : List ℕ) (at : ℕ) → length pre ≡ at → at + length os ≤ 256 → length ns ≡ length os → LentBytes ns → Spoilt pre (length os) post
      → plan_test e old new (pre ++ (ns ++ post)) q ≡ true → plan_test e old new (pre ++ (os ++ post)) (changes at os ns ++ q) ≡ true
  unfolding changes plan_test
  writing pre [] [] post at p l s b z h = h
  writing pre [] (n ∷ ns) post at p l s b z h = absurd (omega arith)
  writing pre (o ∷ os) [] post at p l s b z h = absurd (omega arith)
  writing pre (o ∷ os) (n ∷ ns) post at p l s b z h =
      go (rw (append_assoc pre (n ∷ []) (os ++ post)) at (writing (pre ++ (n ∷ [])) os ns post (suc at) (simp length-append (omega arith)) (omega arith) (omega arith) (λ k. b (suc k))
      (λ x g. rw (append_assoc pre (n ∷ []) (x ++ post)) (z (n ∷ x) (ap suc g))) (rw (append_assoc pre (n ∷ []) (ns ++ post)) h))) (eqb o n) refl
    where
      go : plan_test e old new (pre ++ (n ∷ (os ++ post))) (changes (suc at) os ns ++ q) ≡ true → (t : Bool) → eqb o n ≡ t
          → plan_test e old new (pre ++ (o ∷ (os ++ post))) ((cond t [] (step_to at n ∷ []) ++ changes (suc at) os ns) ++ q) ≡ true
      go on true f = rw (eqb-true o n f) on
      go on false f =
          let a : address_of (step_to at n) ≤ 255 = omega (arith, b 0) in
          let m : MayBe e old new (pre ++ (n ∷ (os ++ post))) = inr (inr (untagged e (pre ++ (n ∷ (os ++ post))) lent (z (n ∷ os) refl))) in
          rw (stepped pre o n at (os ++ post) p (b 0), le-leb (address_of (step_to at n)) 255 a, passes_out e lent old new (pre ++ (n ∷ (os ++ post))) m) on

front : (l : List ℕ) → length l ≡ 256 → length (take 30 l) ≡ 30
front l n = length-take-le 30 l (omega arith)

back : (l : List ℕ) → length l ≡ 256 → length (drop 31 l) ≡ 225
back l n = rw (length-drop, n)

halves : (l : List ℕ) → length l ≡ 256 → take 30 l ++ (get_or l 30 0 ∷ drop 31 l) ≡ l
halves l n = rw (← drop-cons l 30 0 (omega arith)) (take-append-drop 30 l)

module _ (e : Edition) (lent : LentEdition e) (old new : List ℕ) (p : length old ≡ 256) (q : length new ≡ 256) (b : LentBytes new) where
  -- from a state with t in the place of the tag
  module _ (t : ℕ) (bare : t ≡ 0x60 → ⊥) where
    last : plan_test e old new (take 30 new ++ (t ∷ drop 31 new)) (change 30 t (get_or new 30 0)) ≡ true
    unfolding plan_test
    last = go (eqb t (get_or new 30 0)) refl
      where
        go : (w : Bool) → eqb t (get_or new 30 0) ≡ w → plan_test e old new (take 30 new ++ (t ∷ drop 31 new)) (cond w [] (step_to 30 (get_or new 30 0) ∷ [])) ≡ true
        go true f = rw (eqb-true t (get_or new 30 0) f, halves new q) (is_same new)
        go false f =
            let a : address_of (step_to 30 (get_or new 30 0)) ≤ 255 = omega (arith, b 30) in
            rw (
              stepped (take 30 new) t (get_or new 30 0) 30 (drop 31 new) (front new q) (b 30),
              halves new q,
              le-leb (address_of (step_to 30 (get_or new 30 0))) 255 a,
              passes_out e lent old new new (inr (inl refl)),
              is_same new,
            )

    second : plan_test e old new (take 30 new ++ (t ∷ drop 31 old)) (changes 31 (drop 31 old) (drop 31 new) ++ change 30 t (get_or new 30 0)) ≡ true
    second =
        let spoilt : Spoilt (take 30 new ++ (t ∷ [])) (length (drop 31 old)) [] =
        λ x n h. bare (sym (rw (append_assoc (take 30 new) (t ∷ []) (x ++ [])) (get_or_at (take 30 new) t (x ++ []) 0 30 (front new q))) ∙ h) in
        let h : plan_test e old new ((take 30 new ++ (t ∷ [])) ++ (drop 31 new ++ [])) (change 30 t (get_or new 30 0)) ≡ true =
        rw (append_assoc (take 30 new) (t ∷ []) (drop 31 new ++ []), append-nil (drop 31 new)) last in
        rw (append_assoc (take 30 new) (t ∷ []) (drop 31 old ++ []), append-nil (drop 31 old)) at
        (writing e lent old new (change 30 t (get_or new 30 0)) (take 30 new ++ (t ∷ [])) (drop 31 old) (drop 31 new) [] 31
        (simp (length-append, front new q)) (rw (back old p) (omega arith)) (back new q ∙ sym (back old p)) (drop_bytes 31 new b) spoilt h)

    first : plan_test e old new (take 30 old ++ (t ∷ drop 31 old)) (changes 0 (take 30 old) (take 30 new) ++ (changes 31 (drop 31 old) (drop 31 new) ++ change 30 t (get_or new 30 0))) ≡ true
    first =
        writing e lent old new (changes 31 (drop 31 old) (drop 31 new) ++ change 30 t (get_or new 30 0)) [] (take 30 old) (take 30 new) (t ∷ drop 31 old) 0
        refl (rw (front old p) (omega arith)) (front new q ∙ sym (front old p)) (take_bytes 30 new b)
        (λ x n h. bare (sym (get_or_at x t (drop 31 old) 0 30 (n ∙ front old p)) ∙ h)) second

  rewritten-passes : plan_test e old new old (rewritten old new) ≡ true
  unfolding rewritten plan_test
  rewritten-passes = go (eqb (get_or old 30 0) 0x60) refl
    where
      go : (w : Bool) → eqb (get_or old 30 0) 0x60 ≡ w → plan_test e old new old
          (change 30 (get_or old 30 0) (cond w 0 (get_or old 30 0)) ++ (changes 0 (take 30 old) (take 30 new) ++ (changes 31 (drop 31 old) (drop 31 new) ++ change 30 (cond w 0 (get_or old 30 0)) (get_or new 30 0)))) ≡ true
      go true f =
          let tag : get_or old 30 0 ≡ 0x60 = eqb-true (get_or old 30 0) 0x60 f in
          let start : step old (step_to 30 0) ≡ take 30 old ++ (0 ∷ drop 31 old) =
          ap (λ (l : List ℕ). step l (step_to 30 0)) (sym (halves old p)) ∙ stepped (take 30 old) (get_or old 30 0) 0 30 (drop 31 old) (front old p) (omega arith) in
          let bare : NoTag (take 30 old ++ (0 ∷ drop 31 old)) = λ h. absurd (omega (arith, get_or_at (take 30 old) 0 (drop 31 old) 0 30 (front old p), h)) in
          let m : MayBe e old new (take 30 old ++ (0 ∷ drop 31 old)) = inr (inr (untagged e (take 30 old ++ (0 ∷ drop 31 old)) lent bare)) in
          rw (tag, start, passes_out e lent old new (take 30 old ++ (0 ∷ drop 31 old)) m) (first 0 (λ h. omega arith))
      go false f = unspoilt (eqb-false (get_or old 30 0) 0x60 f)
        where
          unspoilt : NoTag old → plan_test e old new old (change 30 (get_or old 30 0) (get_or old 30 0) ++ (changes 0 (take 30 old) (take 30 new) ++ (changes 31 (drop 31 old) (drop 31 new) ++ change 30 (get_or old 30 0) (get_or new 30 0)))) ≡ true
          unspoilt bare = rw (eq-eqb (get_or old 30 0) (get_or old 30 0) refl) (rw (halves old p) at (first (get_or old 30 0) bare))

  -- our own plans pass
  pub own_plan : plan_test e old new old (our_plan old new) ≡ true
  unfolding our_plan
  own_plan = go (ltb (length (changes 0 old new)) 2) refl
    where
      go : (t : Bool) → ltb (length (changes 0 old new)) 2 ≡ t → plan_test e old new old (cond t (changes 0 old new) (rewritten old new)) ≡ true
      go true f = alone e lent old new [] old new 0 refl (omega arith) (q ∙ sym p) b (omega (arith, ltb-true (length (changes 0 old new)) 2 f)) refl
      go false f = rewritten-passes
