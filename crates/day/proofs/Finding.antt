-- The steps of a search, and what a search in a file tells. Assumes nothing.
use Prim.Native.Nat.{ℕ, zero, suc, ◌+◌, ◌-◌, ◌*◌, ◌/◌, ◌≤◌, ◌<◌}
use native.Mathlib.Nat.{not-suc-le-zero, le_of_suc-le-suc, add-sub_cancel_left}
use native.Mathlib.Omega.{arith}
use native.Mathlib.Decide.{dec_le}
use borrow.Author.Tests.{leb-true, le-ltb, lt-ltb, le-leb, lt-leb, eq-eqb, ne_eqb, ltb-true, ltb-false}
use mathlib.Core.Path.{◌≡◌, refl, sym, ap, ap₂, ◌∙◌}
use mathlib.Core.Bool.{Bool, true, false, cond, not, ◌&&◌, ◌||◌}
use mathlib.Core.List.{List, [], ◌∷◌, ◌++◌, map}
use lib.Dec.{eqb, leb, ltb}
use lib.ListN.{length, get_or, set, take, drop, replicate}
use lib.Seq.{sets, sets-eq, length-sets, take_all, take-take, get_or-take, get_or-drop}
use Rattle.ground.specs.Lists.{leading}
use Rattle.rules.specs.Values.{is_digit}
use Rattle.ground.proofs.Lists.{and_left, and_right, leading_alike}
use Rattle.card.specs.declared.Refusal.{Refusal}
use Rattle.card.specs.Refusals.{refuse, none, gate}
use Rattle.card.proofs.Chains.{neither, gate_in}
use Rattle.ground.specs.Pieces.{pieces}
use Rattle.ground.specs.Lists.{same_list}
use Rattle.day_index.proofs.Parts.{piece_at, length_pieces}
use Rattle.day.specs.Cards.{padded, entry, is_card, number_of}
use Rattle.day.specs.Index.{position_of, halved, told_at, lookup}
use Rattle.day.specs.Files.{Cards, no-cards, one-card, index_bytes, count_in, images_in, index_in, file_refusal}
use Rattle.day.specs.Calls.{answered, past_refusal, number_formed, has_number, first_with, entries_in, position_in, find_refusal, find_answer}
use Rattle.day.proofs.Padded.{entry_stored}
use Rattle.day.proofs.Searches.{halved_rank, told_rank}
use Rattle.day.proofs.Entries.{entries_are, entries_sorted, length_index_bytes}
use Rattle.day.proofs.Opens.{or_stop, or_on, gate_on, gate_off, opened}
use Rattle.day.proofs.Sizes.{length_images, answered_any}
use Rattle.day.proofs.Numbers.{card_number, padded_same}
use Rattle.day.proofs.Lookups.{lookup_first}

-- ---- digits
pub digit_test : (b : ℕ) (t : Bool) → (ltb b 0x30 || ltb 0x39 b) ≡ t → is_digit b ≡ not t
digit_test b t e = go (ltb b 0x30) (ltb 0x39 b) refl refl ∙ ap not e
  where
    go : (p q : Bool) → ltb b 0x30 ≡ p → ltb 0x39 b ≡ q → is_digit b ≡ not (ltb b 0x30 || ltb 0x39 b)
    go true q d f = rw (d, lt-leb 0x30 b (ltb-true b 0x30 d))
    go false true d f = rw (d, f, le-leb 0x30 b (ltb-false b 0x30 d), lt-leb b 0x39 (ltb-true 0x39 b f))
    go false false d f = rw (d, f, le-leb 0x30 b (ltb-false b 0x30 d), le-leb b 0x39 (ltb-false 0x39 b f))

module _ (v : List ℕ) where
  pub number_short : length v < 6 → number_formed v ≡ false
  unfolding number_formed
  number_short h = rw (lt-leb 6 (length v) h)

  pub number_long : 6 ≤ length v → 12 < length v → number_formed v ≡ false
  unfolding number_formed
  number_long h k = rw (le-leb 6 (length v) h, lt-leb (length v) 12 k)

  pub number_odd : 6 ≤ length v → length v ≤ 12 → leading is_digit v < length v → number_formed v ≡ false
  unfolding number_formed
  number_odd h k d = rw (le-leb 6 (length v) h, le-leb (length v) 12 k, ne_eqb (leading is_digit v) (length v) (λ e. omega arith))

  pub number_right : 6 ≤ length v → length v ≤ 12 → leading is_digit v ≡ length v → number_formed v ≡ true
  unfolding number_formed
  number_right h k d = rw (le-leb 6 (length v) h, le-leb (length v) 12 k, eq-eqb (leading is_digit v) (length v) d)

  pub number_most : number_formed v ≡ true → length v ≤ 12
  unfolding number_formed
  number_most t =
      let a = leb 6 (length v) in
      let b = leb (length v) 12 in
      let d = eqb (leading is_digit v) (length v) in
      leb-true (length v) 12 (and_left b d (and_right a (b && d) t))

-- ---- a key
take_blanks : (n a x : ℕ) → n ≤ a → take n (replicate a x) ≡ replicate n x
take_blanks zero a x h = refl
take_blanks (suc n) zero x h = absurd (not-suc-le-zero h)
take_blanks (suc n) (suc a) x h = ap (λ (l : List ℕ). x ∷ l) (take_blanks n a x (le_of_suc-le-suc h))

drop_blanks : (n a x : ℕ) → n ≤ a → drop n (replicate a x) ≡ replicate (a - n) x
drop_blanks zero a x h = let e : a - 0 ≡ a = omega arith in rw e
drop_blanks (suc n) zero x h = absurd (not-suc-le-zero h)
drop_blanks (suc n) (suc a) x h = let e : suc a - suc n ≡ a - n = omega arith in rw e (drop_blanks n a x (le_of_suc-le-suc h))

blanks : (v : List ℕ) (n a b x : ℕ) → n ≤ length v + a → n ≤ length v + b → take n (v ++ replicate a x) ≡ take n (v ++ replicate b x)
blanks [] n a b x h k = take_blanks n a x (omega arith) ∙ sym (take_blanks n b x (omega arith))
blanks (y ∷ v) zero a b x h k = refl
blanks (y ∷ v) (suc n) a b x h k = ap (λ (l : List ℕ). y ∷ l) (blanks v n a b x (omega arith) (omega arith))

pub key_stored : (v bytes : List ℕ) → length v ≤ 12 → bytes ≡ sets (replicate 14 0x20) 0 v → set (set bytes 12 0) 13 0 ≡ entry v 0
unfolding padded
key_stored v bytes h e =
    let n : length bytes ≡ 14 = ap length e ∙ length-sets (replicate 14 0x20) 0 v in
    let z : 0 + length v ≡ length v = omega arith in
    let k : length v ≤ 14 = omega arith in
    let whole : bytes ≡ v ++ replicate (14 - length v) 0x20 =
    e ∙ sets-eq v (replicate 14 0x20) 0 (omega arith) ∙ ap (λ (i : ℕ). v ++ drop i (replicate 14 0x20)) z ∙ ap (λ (l : List ℕ). v ++ l) (drop_blanks (length v) 14 0x20 k) in
    let front : take 12 bytes ≡ padded v = ap (take 12) whole ∙ blanks v 12 (14 - length v) 12 0x20 (omega arith) (omega arith) in
    entry_stored v bytes 0 n front

-- ---- what the entry at a place tells
module _ (key : List ℕ) (es : List (List ℕ)) (n r : ℕ) (m : length es ≡ n) where
  pub past_all : n ≤ r → n ≡ told_at key es r
  unfolding told_at
  past_all h = rw (le-ltb r (length es) (omega arith)) (sym m)

  pub unlike : r < n → same_list (take 12 (get_or es r [])) (take 12 key) ≡ false → n ≡ told_at key es r
  unfolding told_at
  unlike h t = rw (lt-ltb r (length es) (omega arith), t) (sym m)

  pub like : r < n → same_list (take 12 (get_or es r [])) (take 12 key) ≡ true → position_of (get_or es r []) ≡ told_at key es r
  unfolding told_at
  like h t = rw (lt-ltb r (length es) (omega arith), t)

-- the parts of an entry, as they are lent
module _ (l : List ℕ) (n r : ℕ) (h : r < n) where
  pub front_lent : take (r * 14 + 12 - r * 14) (drop (r * 14) l) ≡ take 12 (get_or (pieces 14 n l) r [])
  front_lent = rw (add-sub_cancel_left, piece_at 14 n l r h) (sym (take-take 12 14 (drop (r * 14) l) (omega arith)))

  pub position_lent : get_or l (r * 14 + 12) 0 * 256 + get_or l (r * 14 + 12 + 1) 0 ≡ position_of (get_or (pieces 14 n l) r [])
  position_lent =
      let f : r * 14 + 12 + 1 ≡ r * 14 + 13 = omega arith in
      let high : get_or (take 14 (drop (r * 14) l)) 12 0 ≡ get_or l (r * 14 + 12) 0 = get_or-take 14 (drop (r * 14) l) 12 0 (omega arith) ∙ get_or-drop (r * 14) l 12 0 in
      let low : get_or (take 14 (drop (r * 14) l)) 13 0 ≡ get_or l (r * 14 + 13) 0 = get_or-take 14 (drop (r * 14) l) 13 0 (omega arith) ∙ get_or-drop (r * 14) l 13 0 in
      rw (piece_at 14 n l r h, f) (sym (ap₂ (λ (a b : ℕ). a * 256 + b) high low))

-- ---- in a file
leading_map : {A B : Type 0} (f : B → Bool) (g : A → B) (xs : List A) → leading (λ x. f (g x)) xs ≡ leading f (map g xs)
unfolding leading
leading_map f g [] = refl
leading_map f g (x ∷ xs) = ap (λ (k : ℕ). cond (f (g x)) (suc k) 0) (leading_map f g xs)

card_at : {xs : List (List ℕ)} → Cards xs → (k : ℕ) → k < length xs → is_card (get_or xs k []) ≡ true
card_at no-cards k h = absurd (not-suc-le-zero h)
card_at (one-card t c) zero h = t
card_at (one-card t c) (suc k) h = card_at c k (le_of_suc-le-suc h)

module _ (s q : List ℕ) where
  abbrev numberTest : Refusal
  numberTest = gate (number_formed q && ltb (first_with q (images_in s)) (count_in s)) (refuse 44 0 0) none

  pub find_file : ((file_refusal s).number ≡ 0 → ⊥) → find_refusal s q ≡ file_refusal s
  unfolding find_refusal
  find_file h = or_stop (file_refusal s) numberTest h

  module _ (z : (file_refusal s).number ≡ 0) where
    past : find_refusal s q ≡ numberTest
    unfolding find_refusal
    past = or_on (file_refusal s) numberTest z

    pub find_odd : number_formed q ≡ false → find_refusal s q ≡ refuse 44 0 0
    find_odd t = past ∙ gate_off _ _ (rw t)

    pub find_none : number_formed q ≡ true → count_in s ≤ first_with q (images_in s) → find_refusal s q ≡ refuse 44 0 0
    find_none t h = past ∙ gate_off _ _ (rw (t, le-ltb (first_with q (images_in s)) (count_in s) h))

    pub find_there : number_formed q ≡ true → first_with q (images_in s) < count_in s → find_refusal s q ≡ none
    find_there t h = past ∙ gate_on _ _ (rw (t, lt-ltb (first_with q (images_in s)) (count_in s) h))

  -- the search of the index tells the first card of the number: the numbers of cards are told by their padded forms
  pub first_found : (file_refusal s).number ≡ 0 → number_formed q ≡ true → (n : ℕ) (room : List ℕ) → n ≡ count_in s → take (n * 14) room ≡ index_bytes (images_in s)
      → lookup (entry q 0) (pieces 14 n room) ≡ first_with q (images_in s)
  unfolding first_with
  first_found z t n room e h =
      ap (lookup (entry q 0)) (entries_are (images_in s) room n (length_images s ∙ sym e) h)
      ∙ lookup_first (map number_of (images_in s)) q
      ∙ sym (leading_map (λ v. not (same_list (padded v) (padded q))) number_of (images_in s))
      ∙ leading_alike (λ x. not (same_list (padded (number_of x)) (padded q))) (λ x. not (has_number q x)) [] (images_in s)
      (λ k l. ap not (padded_same (number_of (get_or (images_in s) k [])) q (card_number (get_or (images_in s) k []) (card_at (opened s z).cards k l)) t))

  -- the position that the index of a file tells is that of the first card
  module _ (z : (file_refusal s).number ≡ 0) (index : List ℕ) (i : index ≡ index_in s) where
    index-size : length index ≡ count_in s * 14
    index-size =
        let o = opened s z in
        ap length (i ∙ o.index) ∙ length_index_bytes (images_in s) ∙ ap (λ (k : ℕ). k * 14) (length_images s)

    pub index_count : length index / 14 ≡ count_in s
    index_count = omega (arith, index-size)

    position_first : number_formed q ≡ true → position_in index q ≡ first_with q (images_in s)
    unfolding position_in
    position_first t =
        let m = length index / 14 in
        let key = entry q 0 in
        let es = entries_in index in
        let h : take (m * 14) index ≡ index_bytes (images_in s) = take_all (m * 14) index (omega (arith, index-size)) ∙ i ∙ (opened s z).index in
        let sorted = entries_sorted (images_in s) index m (length_images s ∙ sym index_count) h in
        rw t (told_rank key es (halved m key es 0 m) (halved_rank key es m sorted (sym (length_pieces 14 m index))) ∙ first_found z t m index index_count h)

    position-odd : number_formed q ≡ false → position_in index q ≡ count_in s
    unfolding position_in
    position-odd t = rw t index_count

    pub find_told : (n p : ℕ) (x : Refusal) → n ≡ count_in s → p ≡ position_in index q → x ≡ past_refusal p n → answered x p ≡ find_answer s q
    unfolding find_answer past_refusal
    find_told n p x e f g = go (number_formed q) refl
      where
        go : (b : Bool) → number_formed q ≡ b → answered x p ≡ answered (find_refusal s q) (first_with q (images_in s))
        go true t =
            let w = f ∙ position_first t in
            ap₂ answered (g ∙ ap₂ (λ (a b : ℕ). gate (ltb a b) (refuse 44 0 0) none) w e ∙ sym (past z ∙ rw t)) w
        go false t =
            let w = f ∙ position-odd t in
            let y : x ≡ refuse 44 0 0 = g ∙ gate_off _ _ (le-ltb p n (omega arith)) in
            ap (λ (r : Refusal). answered r p) (y ∙ sym (find_odd z t)) ∙ answered_any (find_refusal s q) (λ u. let v = ap (λ (r : Refusal). r.number) (find_odd z t) in absurd (omega arith)) p (first_with q (images_in s))

  pub refused_find : (x : Refusal) → x ≡ find_refusal s q → (x.number ≡ 0 → ⊥) → answered x 0 ≡ find_answer s q
  unfolding find_answer
  refused_find x e h = answered_any x h 0 (first_with q (images_in s)) ∙ ap (λ (y : Refusal). answered y (first_with q (images_in s))) e

  pub told_find : (x : Refusal) (n : ℕ) → x ≡ find_refusal s q → n ≡ first_with q (images_in s) → answered x n ≡ find_answer s q
  unfolding find_answer
  told_find x n e f = ap₂ answered e f

  pub found_there : (find_refusal s q).number ≡ 0 → first_with q (images_in s) < count_in s
  unfolding find_refusal
  found_there z =
      let t = (gate_in (number_formed q && ltb (first_with q (images_in s)) (count_in s)) _ _ (omega arith) (neither _ _ z).second).0 in
      ltb-true (first_with q (images_in s)) (count_in s) (and_right (number_formed q) (ltb (first_with q (images_in s)) (count_in s)) t)

  pub told_none : (file_refusal s).number ≡ 0 → number_formed q ≡ true → (find_refusal s q).number ≡ 44 → count_in s ≤ first_with q (images_in s)
  told_none z t e = go (dec_le (count_in s) (first_with q (images_in s)))
    where
      go : Dec (count_in s ≤ first_with q (images_in s)) → count_in s ≤ first_with q (images_in s)
      go (yes l) = l
      go (no l) = let n = ap (λ (x : Refusal). x.number) (find_there z t (omega arith)) in absurd (omega arith)
