-- The answer by addresses of the image is the answer by the template's bytes: a range of the template is a range of the image, 30 addresses on. Assumes nothing.
use Prim.Native.Nat.{ℕ, zero, suc, ◌+◌, ◌-◌, ◌≤◌}
use native.Mathlib.Nat.{zero-add}
use native.Mathlib.Omega.{arith}
use borrow.Author.Tests.{eqb-true, eq-eqb, ne_eqb, leb-true, leb-false, le-leb, lt-leb}
use mathlib.Core.Path.{◌≡◌, refl, sym, ap, ◌∙◌}
use mathlib.Core.Bool.{Bool, true, false}
use mathlib.Core.List.{List, [], ◌∷◌, ◌++◌}
use lib.Dec.{eqb, leb}
use lib.ListN.{length, take, drop, length-take, length-drop, length-append}
use lib.Seq.{sets-eq, length-take-le, take-take, drop-drop}
use Rattle.ground.specs.Rooms.{Put}
use Rattle.edition.specs.declared.Edition.{Edition}
use Rattle.card.specs.declared.Refusal.{Refusal}
use Rattle.card.specs.declared.Places.{Places}
use Rattle.card.specs.Refusals.{none, gate}
use Rattle.card.specs.Frame.{end_of}
use Rattle.card.specs.Reading.{reading}
use Rattle.card.specs.Places.{places}
use Rattle.frame.specs.declared.Front.{Front}
use Rattle.frame.specs.Checks.{front_of, Framed}
use Rattle.lookup.proofs.Tells.{same_refusal}
use Rattle.std.specs.Prelude.{Result, Ok, Err}
use Rattle.host.specs.declared.asking.Command.{Command}
use Rattle.host.specs.declared.asking.Asked.{Asked}
use Rattle.host.specs.Hosting.{is_command, is_reading, offset_of, count_of, template_bytes, accepts, reply}
use Rattle.host.specs.Steps.{command_of, declined, range_of, asked_by, asked_of, reply_of}
use Rattle.host.proofs.Opens.{extent, end_is}

-- ---- a range of the template
-- a range of a part is a range of the whole
range_of_lem : (a n k : ℕ) (l : List ℕ) → a + k ≤ n → take k (drop a (take n l)) ≡ take k (drop a l)
range_of_lem zero n k l h = take-take k n l (omega arith)
range_of_lem (suc a) zero k l h = absurd (omega arith)
range_of_lem (suc a) (suc n) k [] h = refl
range_of_lem (suc a) (suc n) k (x ∷ l) h = range_of_lem a n k l (omega arith)

module _ (s : List ℕ) (f : Framed s (end_of s)) (o n : ℕ) where
  abbrev bytes : List ℕ
  bytes = template_bytes s

  template_long : length bytes ≡ end_of s - 30
  template_long = let l = f.long in let m = f.most in simp (length-take, length-drop) (omega arith)

  range-reply : reply_of s (range_of o n (end_of s)) ≡ gate (leb (o + n) (length bytes)) (0x6A ∷ 0x00 ∷ []) (take n (drop o bytes) ++ (0x90 ∷ 0x00 ∷ []))
  unfolding range_of gate
  range-reply = go (leb (30 + o + n) (end_of s)) refl
    where
      go : (q : Bool) → leb (30 + o + n) (end_of s) ≡ q
          → reply_of s (gate q (declined 0x6A) (record { status = 0x90; start = 30 + o; count = n }))
          ≡ gate (leb (o + n) (length bytes)) (0x6A ∷ 0x00 ∷ []) (take n (drop o bytes) ++ (0x90 ∷ 0x00 ∷ []))
      go true e =
          let h = leb-true (30 + o + n) (end_of s) e in
          rw (template_long, le-leb (o + n) (end_of s - 30) (omega arith), range_of_lem o (end_of s - 30) n (drop 30 s) (omega arith), drop-drop o 30 s)
      go false e =
          let h = leb-false (30 + o + n) (end_of s) e in
          let l = f.least in
          rw (template_long, lt-leb (o + n) (end_of s - 30) (omega arith))

  range_inside : (range_of o n (end_of s)).start + (range_of o n (end_of s)).count ≤ length s
  unfolding range_of gate
  range_inside = go (leb (30 + o + n) (end_of s)) refl
    where
      go : (q : Bool) → leb (30 + o + n) (end_of s) ≡ q → (let r = gate q (declined 0x6A) (record { status = 0x90; start = 30 + o; count = n }) in r.start + r.count ≤ length s)
      go true e = omega (arith, leb-true (30 + o + n) (end_of s) e, f.long, f.most)
      go false e = omega arith

-- ---- the answer
module _ (e : Edition) (s cmd : List ℕ) where
  reply-is : reply_of s (asked_of e s cmd) ≡ reply e s cmd
  unfolding asked_of asked_by command_of reply gate
  reply-is = go (is_command cmd) (is_reading cmd) (accepts e s) refl
    where
      go : (p q r : Bool) → accepts e s ≡ r
          → reply_of s (asked_by r s (gate p (Err 0x67) (gate q (Err 0x6D) (Ok (record { offset = offset_of cmd; count = count_of cmd })))))
          ≡ gate p (0x67 ∷ 0x00 ∷ []) (gate q (0x6D ∷ 0x00 ∷ []) (gate r (0x69 ∷ 0x00 ∷ [])
          (gate (leb (offset_of cmd + count_of cmd) (length (template_bytes s))) (0x6A ∷ 0x00 ∷ []) (take (count_of cmd) (drop (offset_of cmd) (template_bytes s)) ++ (0x90 ∷ 0x00 ∷ [])))))
      go false q r h = refl
      go true false r h = refl
      go true true false h = refl
      go true true true h = range-reply s (extent e s (eqb-true (reading e s).refusal.number 0 h)) (offset_of cmd) (count_of cmd)

  -- the answer put at the start of a room
  pub room_is : (a : Asked) → a ≡ asked_of e s cmd → (room after : List ℕ) (behind : ℕ) → Put room 0 (reply_of s a) after behind → length (reply_of s a) ≤ length room
      → (behind ≡ length (reply e s cmd)) × (after ≡ reply e s cmd ++ drop (length (reply e s cmd)) room)
  room_is a is room after behind put fits =
      let same : reply_of s a ≡ reply e s cmd = ap (reply_of s) is ∙ reply-is in
      let w : Put room 0 (reply e s cmd) after behind = rw same at put in
      (w.place ∙ zero-add _, w.stored ∙ sets-eq (reply e s cmd) room 0 (rw zero-add (rw same at fits)) ∙ ap (λ (k : ℕ). reply e s cmd ++ drop k room) (zero-add (length (reply e s cmd))))

-- how long the answer is
pub reply_long : (s : List ℕ) (a : Asked) → a.start + a.count ≤ length s → length (reply_of s a) ≡ a.count + 2
reply_long s a h =
    let part : length (take a.count (drop a.start s)) ≡ a.count = length-take-le a.count (drop a.start s) (omega (arith, length-drop a.start s)) in
    simp (length-append, part) (omega arith)

-- ---- what is asked, by the pieces
module _ (e : Edition) (s cmd : List ℕ) (p : Result Command ℕ) (parsed : p ≡ command_of cmd) where
  pub asked_unfit : (status : ℕ) → p ≡ Err status → declined status ≡ asked_of e s cmd
  unfolding asked_of asked_by
  asked_unfit status h = rw (← parsed, h)

  module _ (c : Command) (fit : p ≡ Ok c) (t : Places) (is : t ≡ places e s) where
    number : t.refusal.number ≡ (reading e s).refusal.number
    number = ap (λ (x : Places). x.refusal.number) is ∙ ap (λ (x : Refusal). x.number) (same_refusal e s)

    pub asked_refused : (t.refusal.number ≡ 0 → ⊥) → declined 0x69 ≡ asked_of e s cmd
    unfolding asked_of asked_by gate
    asked_refused h = rw (← parsed, fit, ← number, ne_eqb t.refusal.number 0 h)

    module _ (accepted : t.refusal.number ≡ 0) (front : Front) (ends : front ≡ front_of none s) where
      end : front.end ≡ end_of s
      end = end_is e s (sym number ∙ accepted) front ends

      pub asked_range : range_of c.offset c.count front.end ≡ asked_of e s cmd
      unfolding asked_of asked_by gate
      asked_range = rw (end, ← parsed, fit, ← number, eq-eqb t.refusal.number 0 accepted)

      pub asked_inside : (range_of c.offset c.count front.end).start + (range_of c.offset c.count front.end).count ≤ length s
      asked_inside = rw end (range_inside s (extent e s (sym number ∙ accepted)) c.offset c.count)
