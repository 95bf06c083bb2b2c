-- The fixed bytes, part by part. Assumes nothing.
use Prim.Native.Nat.{ℕ, ◌+◌, ◌≤◌, ◌<◌}
use native.Mathlib.Omega.{arith}
use borrow.Author.Tests.{eq-eqb, le-leb}
use mathlib.Core.Path.{◌≡◌, refl, sym, ◌∙◌}
use mathlib.Core.List.{List, [], ◌∷◌, ◌++◌}
use lib.ListN.{length, get_or, take, drop, length-take, length-drop, length-append}
use lib.Seq.{drop-cons, take_at, drop_at}
use mathlib.Core.Bool.{true}
use Rattle.ground.specs.Lists.{agree, same_list}
use Rattle.card.specs.Layout.{identifier, head}
use Rattle.card.specs.Frame.{free_of, head_end}
use Rattle.ground.proofs.Lists.{agree_self, same_equal}
use Rattle.frame.specs.Checks.{head_in}
use Rattle.ground.proofs.Runs.{agree_cut, agree_own, run_passes, part_passes}

-- the fixed bytes, and what follows each part of them
abbrev pub chip : List ℕ
chip = 0x13 ∷ 0x10 ∷ 0x91 ∷ 0x46 ∷ 0x0B ∷ []

abbrev pub application : List ℕ
application = 0x61 ∷ 0x0B ∷ 0x4F ∷ 0x06 ∷ []

abbrev pub body : List ℕ
body = 0x53 ∷ 0x01 ∷ []

abbrev free : List ℕ → List ℕ
free s = take 11 (drop 6 s)

abbrev pub last : List ℕ → List ℕ
last s = get_or s 29 0 ∷ []

abbrev pub behind_identifier : List ℕ → List ℕ
behind_identifier s = body ++ last s

abbrev pub behind_application : List ℕ → List ℕ
behind_application s = identifier ++ behind_identifier s

abbrev pub behind_chip : List ℕ → List ℕ
behind_chip s = free s ++ (application ++ behind_application s)

first_right : (s ys : List ℕ) → 0 < length s → agree (get_or s 0 0 ∷ ys) s ≡ 1 + agree ys (drop 1 s)
unfolding agree
first_right [] ys h = absurd (omega arith)
first_right (x ∷ s) ys h = rw (eq-eqb x x refl) (omega arith)

-- two parts that are the same agree to the end
agree_whole : (part want : List ℕ) → same_list part want ≡ true → agree want part ≡ length want
agree_whole part want e = rw (same_equal part want e) (agree_self want)

module _ (s : List ℕ) (long : 30 ≤ length s) where
  pub head_in_lem : head_in s ≡ head_end s
  unfolding head_in
  head_in_lem = rw (le-leb 30 (length s) long)

  free-long : length (free s) ≡ 11
  free-long = simp (length-take, length-drop) (omega arith)

  head_long : length (head (get_or s 0 0) (free_of s)) ≤ 30
  unfolding head free_of identifier
  head_long = simp (length-append, length-take, length-drop) (omega arith)

  pub from_chip : head_end s ≡ 1 + agree (chip ++ behind_chip s) (drop 1 s)
  unfolding head_end head free_of
  from_chip =
      agree_cut 30 (head (get_or s 0 0) (free_of s)) s head_long
      ∙ rw (take_at (free s) (last s) 11 free-long, drop_at (free s) (last s) 11 free-long) (first_right s _ (omega arith))

  -- the free bytes are as they stand
  pub over_free : 6 + agree (behind_chip s) (drop 6 s) ≡ 17 + agree (application ++ behind_application s) (drop 17 s)
  over_free =
      let own = agree_own 11 (drop 6 s) in
      rw free-long at (run_passes s 6 (free s) (application ++ behind_application s) (omega arith))

  pub over_last : 29 + agree (last s) (drop 29 s) ≡ 30
  unfolding agree
  over_last = rw (drop-cons s 29 0 long, eq-eqb (get_or s 29 0) (get_or s 29 0) refl)

  -- each part is as it must be
  pub all_right : same_list (take 5 (drop 1 s)) chip ≡ true → same_list (take 4 (drop 17 s)) application ≡ true
      → same_list (take 6 (drop 21 s)) identifier ≡ true → same_list (take 2 (drop 27 s)) body ≡ true → head_end s ≡ 30
  unfolding identifier
  all_right a b c d =
      from_chip
      ∙ part_passes s 1 5 chip (behind_chip s) (sym (agree_whole _ _ a)) (omega arith) (omega arith)
      ∙ over_free
      ∙ part_passes s 17 4 application (behind_application s) (sym (agree_whole _ _ b)) (omega arith) (omega arith)
      ∙ part_passes s 21 6 identifier (behind_identifier s) (sym (agree_whole _ _ c)) (omega arith) (omega arith)
      ∙ part_passes s 27 2 body (last s) (sym (agree_whole _ _ d)) (omega arith) (omega arith)
      ∙ over_last
