-- What each way through the two readers shows. Assumes nothing.
use mathlib.Core.Path.{◌≡◌, refl, sym, ap, ◌∙◌}
use Prim.Native.Nat.{ℕ, zero, suc, ◌+◌, ◌*◌, ◌≤◌, ◌<◌}
use native.Mathlib.Nat.{not-suc-le-zero, le_of_suc-le-suc, add-zero, zero-add, add_assoc}
use native.Mathlib.Omega.{arith}
use mathlib.Core.Bool.{true, false}
use mathlib.Core.List.{List, [], ◌∷◌, ◌++◌, append-nil, append_assoc}
use lib.ListN.{length, drop, take, length-drop, length-append}
use lib.Seq.{sets, length-sets, drop-drop, drop-nil}
use Rattle.std.specs.Prelude.{Result, Ok, Err}
use Rattle.tree.specs.declared.Scan.{Scan}
use Rattle.tree.specs.declared.Refusal.{Refusal}
use Rattle.tree.specs.Heads.{is_list, found, refuse, head_at}
use Rattle.tree.specs.Listing.{Entry, entry, Out, took, refused, above, before, and_then, listing, object}
use Rattle.tree.proofs.Listings.{list_none, list_more}
use Rattle.tree.specs.Answers.{words, scan, scanned, Stored, Done}
use Rattle.ground.specs.Rooms.{room_with}
use Rattle.ground.proofs.Puts.{put_in}
use Rattle.tree.proofs.Words.{length_words, store_more}
use Rattle.tree.proofs.Sizes.{SizedOne, sized_object}

drop_past : (s : List ℕ) (p : ℕ) → length s ≤ p → drop p s ≡ []
drop_past [] p h = drop-nil p
drop_past (b ∷ r) zero h = absurd (not-suc-le-zero h)
drop_past (b ∷ r) (suc p) h = drop_past r p (le_of_suc-le-suc h)

-- what a reader's answer holds
abbrev pub words_of : Result Scan Refusal → ℕ
words_of (Ok s) = s.words
words_of (Err e) = 0

abbrev pub used_of : Result Scan Refusal → ℕ
used_of (Ok s) = s.used
used_of (Err e) = 0

abbrev pub out_of : Result Scan Refusal → Out
out_of (Ok s) = took [] 0
out_of (Err e) = refused e.number e.place

-- one object
module _ (d at : ℕ) (s : List ℕ) where
  pub object_refused : (x p : ℕ) → head_at s at d ≡ refuse x p → object d at s ≡ refused x p
  unfolding object
  object_refused x p e = rw e

  pub object_plain : (t start n : ℕ) → head_at s at d ≡ found t start n → is_list t ≡ false → object d at s ≡ took (entry t d at n ∷ []) (start + n)
  unfolding object
  object_plain t start n e b = rw (e, b)

  pub object_inner : (t start n : ℕ) → head_at s at d ≡ found t start n → is_list t ≡ true
      → object d at s ≡ above (entry t d at n) (start + n) (listing (suc d) (at + start) (take n (drop start s)))
  unfolding object
  object_inner t start n e b = rw (e, b)

pub done_refused : (k : ℕ) (o : Out) (room after : List ℕ) (x p : ℕ) → o ≡ refused x p → Done k o (refuse x p) room after
unfolding scanned Stored
done_refused k o room after x p e = rw e (record { answer = refl; stored = tt })

-- an object's own words
put_fits : (room : List ℕ) (k : ℕ) (e : Entry) → k + 4 ≤ length room → room_with room k (words (e ∷ [])) ≡ sets room k (words (e ∷ []))
put_fits room k e h = sym (put_in room k (words (e ∷ [])) (omega (arith, length_words (e ∷ [])))).1

pub done_plain : (k : ℕ) (o : Out) (room after : List ℕ) (e : Entry) (u : ℕ) → o ≡ took (e ∷ []) u → after ≡ room_with room k (words (e ∷ []))
    → Done k o (scan (k + 4) u) room after
unfolding scanned Stored
done_plain k o room after e u h g = rw h (record { answer = refl; stored = λ w. g ∙ put_fits room k e (omega arith) })

-- an object's words and then those of what it holds
put_more : (room mid after : List ℕ) (k : ℕ) (e : Entry) (es : List Entry) → mid ≡ room_with room k (words (e ∷ [])) → k + 4 * suc (length es) ≤ length room
    → after ≡ sets mid (k + 4) (words es) → after ≡ sets room k (words (e ∷ es))
put_more room mid after k e es g h a =
    a ∙ ap (λ (l : List ℕ). sets l (k + 4) (words es)) (g ∙ put_fits room k e (omega arith)) ∙ store_more room k (e ∷ []) es

length_put : (room mid : List ℕ) (k : ℕ) (e : Entry) → mid ≡ room_with room k (words (e ∷ [])) → k + 4 ≤ length room → length mid ≡ length room
length_put room mid k e g h = ap length (g ∙ put_fits room k e h) ∙ length-sets room k (words (e ∷ []))

-- a template: the inner list was read behind its own words
pub done_above : (k : ℕ) (o i : Out) (room mid after : List ℕ) (e : Entry) (u m v : ℕ) (r : Result Scan Refusal)
    → o ≡ above e u i → mid ≡ room_with room k (words (e ∷ [])) → Done (k + 4) i r mid after → r ≡ scan m v → Done k o (scan m u) room after
unfolding scanned Stored
done_above k o (took es w) room mid after e u m v r h g done f =
    let t : scan m v ≡ scan (k + 4 + 4 * length es) w = sym f ∙ done.answer in
    let c : m ≡ k + 4 + 4 * length es = ap words_of t in
    let d : m ≡ k + 4 * suc (length es) = omega arith in
    rw h (record {
      answer = ap (λ (x : ℕ). scan x u) d;
      stored = λ fits. put_more room mid after k e es g fits (done.stored (omega (arith, length_put room mid k e g (omega arith))));
    })
done_above k o (refused x p) room mid after e u m v r h g done f =
    let t : scan m v ≡ refuse x p = sym f ∙ done.answer in
    absurd (let z : ◌≡◌ {A = ℕ} 0 1 = cc in omega arith)

pub done_above_refused : (k : ℕ) (o i : Out) (room mid after : List ℕ) (e : Entry) (u x p : ℕ) (r : Result Scan Refusal)
    → o ≡ above e u i → Done (k + 4) i r mid after → r ≡ refuse x p → Done k o (refuse x p) room after
unfolding scanned Stored
done_above_refused k o (took es w) room mid after e u x p r h done f =
    let t : refuse x p ≡ scan (k + 4 + 4 * length es) w = sym f ∙ done.answer in
    absurd (let z : ◌≡◌ {A = ℕ} 0 1 = cc in omega arith)
done_above_refused k o (refused y q) room mid after e u x p r h done f =
    rw h (record { answer = sym f ∙ done.answer; stored = tt })

-- the list reader before byte p: the objects es were read, and n words are written
pub record Partly (d at : ℕ) (s : List ℕ) (k : ℕ) (room₀ : List ℕ) (p n : ℕ) (room : List ℕ) : Type 0 where
  pub es : List Entry
  pub sofar : listing d at s ≡ before es p (listing d (at + p) (drop p s))
  pub count : n ≡ k + 4 * length es
  pub few : length es ≤ p
  pub within : p ≤ length s
  pub same : length room ≡ length room₀
  pub stored : k + 4 * length es ≤ length room₀ → room ≡ sets room₀ k (words es)

before_none : (o : Out) → before [] 0 o ≡ o
before_none (took es u) = ap (took es) (zero-add u)
before_none (refused x p) = refl

before_before : (es fs : List Entry) (p u : ℕ) (o : Out) → before es p (before fs u o) ≡ before (es ++ fs) (p + u) o
before_before es fs p u (took gs v) = rw (append_assoc, add_assoc)
before_before es fs p u (refused x q) = refl

-- what follows byte p begins with an object
next : (d at : ℕ) (s : List ℕ) (p : ℕ) → p < length s
    → listing d (at + p) (drop p s) ≡ and_then (object d (at + p) (drop p s)) (λ u. listing d (at + (p + u)) (drop (p + u) s))
next d at s p h =
    list_more d (at + p) (drop p s) (simp length-drop (omega arith)) ∙ simp (drop-drop, add_assoc)

module _ (d at : ℕ) (s : List ℕ) (k : ℕ) (room₀ : List ℕ) where
  pub partly_none : Partly d at s k room₀ 0 k room₀
  unfolding words
  partly_none =
      record {
        es = [];
        sofar = rw add-zero (sym (before_none (listing d at s)));
        count = omega arith;
        few = omega arith;
        within = omega arith;
        same = refl;
        stored = λ _. refl;
      }

  -- an object was read: more is done, and bytes were used
  more : (p n : ℕ) (room : List ℕ) → Partly d at s k room₀ p n room → p < length s
      → (r : Result Scan Refusal) (after : List ℕ) (m u : ℕ) (o : Out) → object d (at + p) (drop p s) ≡ o → SizedOne (drop p s) o
      → Done n o r room after → r ≡ scan m u → length after ≡ length room
      → (0 < u) × Partly d at s k room₀ (p + u) m after
  unfolding scanned Stored
  more p n room w h r after m u (took fs v) e z done f g =
      let t : scan m u ≡ scan (n + 4 * length fs) v = sym f ∙ done.answer in
      let a : m ≡ n + 4 * length fs = ap words_of t in
      let b : u ≡ v = ap used_of t in
      let c : m ≡ k + 4 * length (w.es ++ fs) = simp length-append (omega arith) in (
        omega arith,
        record {
          es = w.es ++ fs;
          sofar = w.sofar ∙ ap (before w.es p) (next d at s p h) ∙ rw (e, b) (before_before w.es fs p v (listing d (at + (p + v)) (drop (p + v) s)));
          count = c;
          few = simp length-append (omega arith);
          within = omega (arith, length-drop p s);
          same = g ∙ w.same;
          stored = λ fits.
              let fits2 : k + 4 * (length w.es + length fs) ≤ length room₀ = rw length-append at fits in
              done.stored (omega arith) ∙ rw (w.stored (omega arith), w.count) (store_more room₀ k w.es fs);
        },
      )
  more p n room w h r after m u (refused x q) e z done f g =
      let t : scan m u ≡ refuse x q = sym f ∙ done.answer in
      absurd (let z : ◌≡◌ {A = ℕ} 0 1 = cc in omega arith)

  pub partly_more : (p n : ℕ) (room : List ℕ) → Partly d at s k room₀ p n room → p < length s
      → (r : Result Scan Refusal) (after : List ℕ) (m u : ℕ) → Done n (object d (at + p) (drop p s)) r room after → r ≡ scan m u → length after ≡ length room
      → (0 < u) × Partly d at s k room₀ (p + u) m after
  partly_more p n room w h r after m u done f g =
      more p n room w h r after m u (object d (at + p) (drop p s)) refl (sized_object d (at + p) (drop p s) (simp length-drop (omega arith))) done f g

  -- a refusal ends it
  stop : (p n : ℕ) (room : List ℕ) → Partly d at s k room₀ p n room → p < length s
      → (r : Result Scan Refusal) (after : List ℕ) (x a : ℕ) (o : Out) → object d (at + p) (drop p s) ≡ o → Done n o r room after → r ≡ refuse x a
      → listing d at s ≡ refused x a
  unfolding scanned
  stop p n room w h r after x a (took fs v) e done f =
      let t : refuse x a ≡ scan (n + 4 * length fs) v = sym f ∙ done.answer in
      absurd (let z : ◌≡◌ {A = ℕ} 0 1 = cc in omega arith)
  stop p n room w h r after x a (refused y b) e done f =
      let t : refuse x a ≡ refuse y b = sym f ∙ done.answer in
      let q : refused y b ≡ refused x a = sym (ap out_of t) in
      w.sofar ∙ ap (before w.es p) (next d at s p h) ∙ rw e q

  pub partly_stop : (p n : ℕ) (room : List ℕ) → Partly d at s k room₀ p n room → p < length s
      → (r : Result Scan Refusal) (after : List ℕ) (x a : ℕ) → Done n (object d (at + p) (drop p s)) r room after → r ≡ refuse x a
      → Done k (listing d at s) (refuse x a) room₀ after
  partly_stop p n room w h r after x a done f =
      done_refused k (listing d at s) room₀ after x a (stop p n room w h r after x a (object d (at + p) (drop p s)) refl done f)

  -- nothing is left
  pub partly_end : (p n : ℕ) (room : List ℕ) → Partly d at s k room₀ p n room → length s ≤ p → Done k (listing d at s) (scan n p) room₀ room
  unfolding scanned Stored
  partly_end p n room w h =
      let e : listing d at s ≡ took w.es p = w.sofar ∙ rw (drop_past s p h, list_none d (at + p), append-nil, add-zero) in
      rw e (record { answer = ap (λ (x : ℕ). scan x p) w.count; stored = w.stored })
