-- The steps of a reading: what is refused behind the objects, the table settled, and the values at its places.
use Rattle.std.specs.Prelude.{ℕ, ◌+◌, ◌-◌, ◌≤◌, ◌<◌, cond, ◌&&◌, List, [], ◌∷◌, eqb, leb, length, take, drop, get_or}
use Rattle.edition.specs.declared.Edition.{Edition}
use Rattle.card.specs.declared.Refusal.{Refusal}
use Rattle.card.specs.declared.Places.{Places}
use Rattle.card.specs.Refusals.{none, refuse, gate, or_else}
use Rattle.card.specs.Layout.{xor_all}
use Rattle.card.specs.Rules.{last_allowed}
use Rattle.card.specs.Frame.{start_of, end_of, tail_part}
use Rattle.card.specs.Sums.{sums_refusal, tag_before}
use Rattle.card.specs.Reading.{checksum_refusal, tail_refusal}
use Rattle.card.specs.Places.{no_places}
use Rattle.frame.specs.Checks.{open_refusal, tail_from}
use Rattle.objects.specs.Objects.{listed}

-- 13, then 14 to 17
abbrev pub end_refusal : List ℕ → Refusal
end_refusal s = or_else (checksum_refusal s) (tail_refusal s)

-- the same behind a template that ends before any `end`; 1 where no card has one that ends there
unfoldable pub checksum_at : List ℕ → ℕ → Refusal
checksum_at s end = gate (eqb (get_or s (end - 1) 0) (xor_all (take (end - 31) (drop 30 s)))) (refuse 13 (end - 1) 0) none

abbrev pub tail_wrong_at : ℕ → ℕ → Refusal
tail_wrong_at end at = refuse (tail_part (255 - end) (at - end)) at 0

unfoldable pub tail_at : List ℕ → ℕ → Refusal
tail_at s end =
    gate (eqb (tail_from s end) 256) (tail_wrong_at end (tail_from s end)) (gate (last_allowed (get_or s 0 0) (get_or s 255 0)) (tail_wrong_at end 255) none)

unfoldable pub end_at : List ℕ → ℕ → Refusal
end_at s end = cond ((eqb (length s) 256 && leb 101 end) && leb end 253) (or_else (checksum_at s end) (tail_at s end)) (refuse 1 0 0)

-- the refusal of a table, or 11, or 13 to 17
unfoldable pub last_refusal : List ℕ → Places → Refusal
last_refusal s t = or_else t.refusal (or_else (sums_refusal (tag_before t.starts) t.lengths) (end_refusal s))

unfoldable pub settled : List ℕ → Places → Places
settled s t = cond (eqb (last_refusal s t).number 0) t (no_places (last_refusal s t))

-- the places under an edition whose refusal is said to be x
unfoldable pub places_by : Refusal → Edition → List ℕ → Places
places_by x e s =
    cond (eqb (open_refusal x s).number 0)
    (settled s (listed (take (end_of s - start_of s) (drop (start_of s) s)) e.rows (start_of s)))
    (no_places (open_refusal x s))

-- the values at the places
unfoldable pub values_at : List ℕ → List ℕ → List ℕ → List (List ℕ)
values_at s [] lengths = []
values_at s (start ∷ starts) [] = []
values_at s (start ∷ starts) (n ∷ lengths) = take n (drop start s) ∷ values_at s starts lengths

-- they lie in the bytes, and each fits an object
pub record Inside (s starts lengths : List ℕ) : Type 0 where
  pub within : (k : ℕ) → k < 16 → get_or starts k 0 + get_or lengths k 0 ≤ length s
  pub short : (k : ℕ) → k < 16 → get_or lengths k 0 ≤ 28
