-- One turn of the loops over a list of names, and their ends. Assumes nothing.
use Prim.Native.Nat.{ℕ, suc, ◌+◌, ◌-◌, ◌≤◌, ◌<◌}
use native.Mathlib.Omega.{arith}
use borrow.Author.Tests.{lt-ltb, le-ltb}
use mathlib.Core.Path.{◌≡◌, refl, ◌∙◌}
use mathlib.Core.Bool.{Bool, true, false, cond}
use mathlib.Core.List.{List, []}
use lib.Dec.{leb}
use lib.ListN.{length, get_or, take, drop}
use lib.Seq.{sets}
use Rattle.ground.specs.Lists.{leading, same_list}
use Rattle.ground.specs.Rooms.{room_with, behind_put}
use Rattle.card_lines.specs.Lines.{feed_from, lines}
use Rattle.card_lines.specs.Keys.{place_of, names, tags, key_named}
use Rattle.card_lines.proofs.Splits.{line_next, lines_over}

-- ---- the place of a name
module _ (list name : List ℕ) (at e i : ℕ) (h : at < length list) (is : e ≡ feed_from list at) where
  pub place_here : same_list (take (e - at) (drop at list)) name ≡ true → i ≡ i + place_of (lines (drop at list)) name
  unfolding leading
  place_here s = rw (line_next list at e h is, s) (omega arith)

  pub place_farther : same_list (take (e - at) (drop at list)) name ≡ false → i + 1 + place_of (lines (drop (e + 1) list)) name ≡ i + place_of (lines (drop at list)) name
  unfolding leading
  place_farther s = rw (line_next list at e h is, s) (omega arith)

pub place_over : (list name : List ℕ) (at i : ℕ) → length list ≤ at → i ≡ i + place_of (lines (drop at list)) name
unfolding leading
place_over list name at i h = rw (lines_over list at h) (omega arith)

-- ---- the key of a name or tag
module _ (name : List ℕ) (n : ℕ) where
  pub by_name : n ≡ place_of names name → n < 20 → n ≡ key_named name
  unfolding key_named
  by_name e h = rw (← e, lt-ltb n 20 h)

  pub by_tag : (k : ℕ) → n ≡ place_of names name → 20 ≤ n → k ≡ place_of tags name → k ≡ key_named name
  unfolding key_named
  by_tag k e h t = rw (← e, le-ltb n 20 h) t

-- ---- the name at a place
pub from_start : (ls : List (List ℕ)) (n : ℕ) → get_or ls (n - 0) [] ≡ get_or ls n []
from_start ls n = let z : n - 0 ≡ n = omega arith in rw z

module _ (list : List ℕ) (at e i n : ℕ) (h : at < length list) (is : e ≡ feed_from list at) where
  pub line_here : i ≡ n → take (e - at) (drop at list) ≡ get_or (lines (drop at list)) (n - i) []
  line_here s = let z : n - i ≡ 0 = omega arith in rw (line_next list at e h is, z)

  pub line_farther : i < n → get_or (lines (drop (e + 1) list)) (n - (i + 1)) [] ≡ get_or (lines (drop at list)) (n - i) []
  line_farther s = let z : n - i ≡ suc (n - (i + 1)) = omega arith in rw (line_next list at e h is, z)

pub no_line : (list : List ℕ) (at n : ℕ) → length list ≤ at → [] ≡ get_or (lines (drop at list)) n []
no_line list at n h = rw (lines_over list at h)

-- nothing is put
pub put_none : (room : List ℕ) (at : ℕ) → (at ≡ behind_put room at []) × (room ≡ room_with room at [])
unfolding behind_put room_with
put_none room at = (go (leb (at + 0) (length room)), same (leb (at + 0) (length room)))
  where
    go : (q : Bool) → at ≡ cond q (at + 0) at
    go true = omega arith
    go false = refl

    same : (q : Bool) → room ≡ cond q (sets room at []) room
    same true = refl
    same false = refl

pub put_nothing : {room room₀ want : List ℕ} {at : ℕ} → room ≡ room₀ → [] ≡ want → (at ≡ behind_put room₀ at want) × (room ≡ room_with room₀ at want)
put_nothing {room} {room₀} {want} {at} e f = (rw (← f) (put_none room₀ at).0, e ∙ rw (← f) (put_none room₀ at).1)

pub put_same : {room room₀ bytes want after : List ℕ} (at : ℕ) {r : ℕ} → room ≡ room₀ → bytes ≡ want → r ≡ behind_put room at bytes → after ≡ room_with room at bytes
    → (r ≡ behind_put room₀ at want) × (after ≡ room_with room₀ at want)
put_same at e f p q = (rw (← e, ← f) p, rw (← e, ← f) q)
