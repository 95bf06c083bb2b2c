-- What each way through the public function shows. Assumes nothing.
use mathlib.Core.Path.{◌≡◌, refl, sym, ap, ◌∙◌}
use Prim.Native.Nat.{ℕ, ◌+◌, ◌*◌, ◌/◌, ◌≤◌, ◌<◌}
use native.Mathlib.Omega.{arith}
use mathlib.Core.Bool.{Bool, true, false, cond}
use mathlib.Core.List.{List}
use borrow.Author.Tests.{lt-ltb, le-ltb, ltb-false}
use lib.Dec.{ltb}
use lib.ListN.{length}
use Rattle.tree.specs.declared.Scan.{Scan}
use Rattle.std.specs.Prelude.{Result, Ok, Err}
use Rattle.tree.specs.declared.Refusal.{Refusal}
use Rattle.tree.specs.Heads.{refuse}
use Rattle.tree.specs.Listing.{Entry, Out, took, refused, listing}
use Rattle.tree.proofs.Sizes.{Sized, sized_list}
use Rattle.tree.proofs.Steps.{words_of}
use Rattle.tree.specs.Answers.{scan, scanned, count_of, Stored, Done, answered, filled, tree_answer, tree_room}

abbrev pub listed : ℕ → Result ℕ Refusal
listed n = Ok n

-- the refusal of a reader, and of the whole
abbrev again : Result Scan Refusal → Result ℕ Refusal
again (Ok s) = Ok s.words
again (Err e) = Err e

module _ (s room : List ℕ) where
  pub too_long : 4096 < length s → (refuse 54 0 ≡ tree_answer s room) × (room ≡ tree_room s room)
  unfolding tree_answer tree_room
  too_long h = (rw (lt-ltb 4096 (length s) h), rw (lt-ltb 4096 (length s) h))

  by : length s ≤ 4096 → (o : Out) → listing 1 0 s ≡ o → (tree_answer s room ≡ answered o (length room)) × (tree_room s room ≡ filled o room)
  unfolding tree_answer tree_room
  by h o e = (rw (le-ltb 4096 (length s) h, e), rw (le-ltb 4096 (length s) h, e))

  on-refused : (o : Out) (x p : ℕ) → refuse x p ≡ scanned 0 o → (refuse x p ≡ answered o (length room)) × (room ≡ filled o room)
  unfolding scanned answered filled
  on-refused (took es v) x p e = absurd (let z : ◌≡◌ {A = ℕ} 0 1 = cc in omega arith)
  on-refused (refused y q) x p e = (ap again e, refl)

  on-small : (o : Out) (k u : ℕ) → scan k u ≡ scanned 0 o → length room < k → (refuse 55 0 ≡ answered o (length room)) × (room ≡ filled o room)
  unfolding scanned answered filled
  on-small (took es v) k u e h =
      let a : k ≡ 0 + 4 * length es = ap words_of e in
      let b = lt-ltb (length room) (4 * length es) (omega arith) in
      (rw b, rw b)
  on-small (refused y q) k u e h = absurd (let z : ◌≡◌ {A = ℕ} 0 1 = cc in omega arith)

  on-listed : (o : Out) (k u : ℕ) → scan k u ≡ scanned 0 o → k ≤ length room → (r : Result Scan Refusal) (after : List ℕ) → Done 0 o r room after
      → (listed (k / 4) ≡ answered o (length room)) × (after ≡ filled o room)
  unfolding scanned Stored answered filled
  on-listed (took es v) k u e h r after done =
      let a : k ≡ 0 + 4 * length es = ap words_of e in
      let b = le-ltb (length room) (4 * length es) (omega arith) in
      let c : k / 4 ≡ length es = omega arith in
      (rw (b, c), rw b (done.stored (omega arith)))
  on-listed (refused y q) k u e h r after done = absurd (let z : ◌≡◌ {A = ℕ} 0 1 = cc in omega arith)

  pub both : {o : Out} {a : Result ℕ Refusal} {l : List ℕ} → length s ≤ 4096 → listing 1 0 s ≡ o → (a ≡ answered o (length room)) × (l ≡ filled o room)
      → (a ≡ tree_answer s room) × (l ≡ tree_room s room)
  both {o} h e w = (w.0 ∙ sym (by h o e).0, w.1 ∙ sym (by h o e).1)

  pub tree_refused : length s ≤ 4096 → (x p : ℕ) → refuse x p ≡ scanned 0 (listing 1 0 s) → (refuse x p ≡ tree_answer s room) × (room ≡ tree_room s room)
  tree_refused h x p e = both h refl (on-refused (listing 1 0 s) x p e)

  pub tree_small : length s ≤ 4096 → (k u : ℕ) → scan k u ≡ scanned 0 (listing 1 0 s) → length room < k → (refuse 55 0 ≡ tree_answer s room) × (room ≡ tree_room s room)
  tree_small h k u e g = both h refl (on-small (listing 1 0 s) k u e g)

  pub tree_listed : length s ≤ 4096 → (k u : ℕ) → scan k u ≡ scanned 0 (listing 1 0 s) → k ≤ length room → (r : Result Scan Refusal) (after : List ℕ) → Done 0 (listing 1 0 s) r room after
      → (listed (k / 4) ≡ tree_answer s room) × (after ≡ tree_room s room)
  tree_listed h k u e g r after done = both h refl (on-listed (listing 1 0 s) k u e g r after done)

  -- four words for an object, which takes at least a byte
  few : (o : Out) (k u : ℕ) → scan k u ≡ scanned 0 o → Sized s o → k ≤ 4 * length s
  unfolding scanned
  few (took es v) k u e w =
      let a : k ≡ 0 + 4 * length es = ap words_of e in
      omega (arith, w.0, w.1)
  few (refused x p) k u e w = absurd (let z : ◌≡◌ {A = ℕ} 0 1 = cc in omega arith)

  pub few_words : (k u : ℕ) → scan k u ≡ scanned 0 (listing 1 0 s) → k ≤ 4 * length s
  few_words k u e = few (listing 1 0 s) k u e (sized_list 1 0 s)

  -- the words that are counted lie in the room
  fits-room : (es : List Entry) (q : Bool) → ltb (length room) (4 * length es) ≡ q → count_of (cond q (refuse 55 0) (listed (length es))) * 4 ≤ length room
  fits-room es true e = omega arith
  fits-room es false e = omega (arith, ltb-false (length room) (4 * length es) e)

  fits_out : (o : Out) → count_of (answered o (length room)) * 4 ≤ length room
  unfolding answered
  fits_out (took es u) = fits-room es (ltb (length room) (4 * length es)) refl
  fits_out (refused x p) = omega arith

  fits-size : (q : Bool) → count_of (cond q (refuse 54 0) (answered (listing 1 0 s) (length room))) * 4 ≤ length room
  fits-size true = omega arith
  fits-size false = fits_out (listing 1 0 s)

  pub listed_fits : count_of (tree_answer s room) * 4 ≤ length room
  unfolding tree_answer
  listed_fits = fits-size (ltb 4096 (length s))
