-- A search among entries in order: two numbers that close in on the rank. Assumes nothing.
use Prim.Native.Nat.{ℕ, zero, suc, ◌+◌, ◌-◌, ◌≤◌, ◌<◌, suc-le-suc}
use native.Mathlib.Nat.{le_of_suc-le-suc, not-suc-le-zero, zero-lt-suc, lt_of_lt_of_le}
use native.Mathlib.Omega.{arith}
use borrow.Author.Tests.{lt-ltb, le-ltb, ltb-true, ltb-false}
use mathlib.Core.Path.{◌≡◌, refl, sym, ap, ◌∙◌}
use mathlib.Core.Bool.{Bool, true, false}
use mathlib.Core.List.{List, [], ◌∷◌}
use lib.Dec.{ltb}
use lib.ListN.{length, get_or}
use Rattle.ground.specs.Lists.{leading}
use Rattle.ground.proofs.Lists.{true_false}
use Rattle.day_index.specs.Order.{below, Sorted, rank_of}
use Rattle.day_index.proofs.Orders.{below_through}
use Rattle.day_index.proofs.Inserts.{sorted_at}
use Rattle.day.specs.Index.{halfway, halved, lookup, told_at}

-- the first n pass a test and the next does not
pub leading_is : {A : Type 0} (f : A → Bool) (d : A) (xs : List A) (n : ℕ) → n ≤ length xs → ((k : ℕ) → k < n → f (get_or xs k d) ≡ true)
    → (n < length xs → f (get_or xs n d) ≡ false) → leading f xs ≡ n
unfolding leading
leading_is f d [] zero h p s = refl
leading_is f d [] (suc n) h p s = absurd (not-suc-le-zero h)
leading_is f d (x ∷ xs) zero h p s = rw (s (zero-lt-suc (length xs)))
leading_is f d (x ∷ xs) (suc n) h p s =
    rw (p 0 (zero-lt-suc n)) (ap suc (leading_is f d xs n (le_of_suc-le-suc h) (λ k l. p (suc k) (suc-le-suc l)) (λ l. s (suc-le-suc l))))

-- all before `low` come before e, and none from `high` on does
pub record Bracket (xs : List (List ℕ)) (e : List ℕ) (low high : ℕ) : Type 0 where
  pub ordered : low ≤ high
  pub most : high ≤ length xs
  pub passed : (k : ℕ) → k < low → below (get_or xs k []) e ≡ true
  pub left : (k : ℕ) → high ≤ k → k < length xs → below (get_or xs k []) e ≡ false

pub bracket_start : (xs : List (List ℕ)) (e : List ℕ) (n : ℕ) → n ≡ length xs → Bracket xs e 0 n
bracket_start xs e n h = record {
  ordered = omega arith;
  most = omega arith;
  passed = λ k l. absurd (not-suc-le-zero l);
  left = λ k l m. absurd (omega arith);
}

module _ {xs : List (List ℕ)} {e : List ℕ} {low high : ℕ} (s : Sorted xs) (b : Bracket xs e low high) (m : ℕ) (from : low ≤ m) (to : m < high) where
  pub bracket_up : below (get_or xs m []) e ≡ true → Bracket xs e (m + 1) high
  bracket_up t = record {
    ordered = omega arith;
    most = b.most;
    passed = λ k l. go k (omega arith) (below (get_or xs k []) e) refl;
    left = b.left;
  }
    where
      go : (k : ℕ) → k ≤ m → (q : Bool) → below (get_or xs k []) e ≡ q → below (get_or xs k []) e ≡ true
      go k l true u = u
      go k l false u =
          absurd (true_false t (below_through e (get_or xs k []) (get_or xs m []) u (sorted_at xs s k m l (lt_of_lt_of_le to b.most))))

  pub bracket_down : below (get_or xs m []) e ≡ false → Bracket xs e low m
  bracket_down t = record {
    ordered = from;
    most = omega (arith, b.most);
    passed = b.passed;
    left = λ k l r. below_through e (get_or xs m []) (get_or xs k []) t (sorted_at xs s m k l r);
  }

pub bracket_end : (xs : List (List ℕ)) (e : List ℕ) (low high : ℕ) → Bracket xs e low high → high ≤ low → low ≡ rank_of e xs
unfolding rank_of
bracket_end xs e low high b h =
    sym (leading_is (λ x. below x e) [] xs low (omega (arith, b.ordered, b.most)) b.passed (λ l. b.left low (omega arith) l))

-- ---- a search by halving: its end, a turn up, a turn down
pub halved_end : (key : List ℕ) (es : List (List ℕ)) (n low high : ℕ) → high ≤ low → halved n key es low high ≡ low
unfolding halved
halved_end key es zero low high h = refl
halved_end key es (suc n) low high h = rw (le-ltb low high h)

module _ (key : List ℕ) (es : List (List ℕ)) (n low high : ℕ) (h : low < high) where
  up : below (get_or es (halfway low high) []) key ≡ true → halved (suc n) key es low high ≡ halved n key es (halfway low high + 1) high
  unfolding halved
  up t = rw (lt-ltb low high h, t)

  down : below (get_or es (halfway low high) []) key ≡ false → halved (suc n) key es low high ≡ halved n key es low (halfway low high)
  unfolding halved
  down t = rw (lt-ltb low high h, t)

-- more turns than there are places between tell nothing more
more : (key : List ℕ) (es : List (List ℕ)) (n low high : ℕ) → high - low ≤ n → halved (suc n) key es low high ≡ halved n key es low high
more key es zero low high h = halved_end key es 1 low high (omega arith) ∙ sym (halved_end key es 0 low high (omega arith))
more key es (suc n) low high h = go (ltb low high) refl (λ l. more key es n (halfway low high + 1) high (omega arith)) (λ l. more key es n low (halfway low high) (omega arith))
  where
    turn : low < high → (q : Bool) → below (get_or es (halfway low high) []) key ≡ q → halved (suc n) key es (halfway low high + 1) high ≡ halved n key es (halfway low high + 1) high
        → halved (suc n) key es low (halfway low high) ≡ halved n key es low (halfway low high) → halved (suc (suc n)) key es low high ≡ halved (suc n) key es low high
    turn l true t a b = up key es (suc n) low high l t ∙ a ∙ sym (up key es n low high l t)
    turn l false t a b = down key es (suc n) low high l t ∙ b ∙ sym (down key es n low high l t)

    go : (q : Bool) → ltb low high ≡ q → (low < high → halved (suc n) key es (halfway low high + 1) high ≡ halved n key es (halfway low high + 1) high)
        → (low < high → halved (suc n) key es low (halfway low high) ≡ halved n key es low (halfway low high)) → halved (suc (suc n)) key es low high ≡ halved (suc n) key es low high
    go true t a b = let l = ltb-true low high t in turn l (below (get_or es (halfway low high) []) key) refl (a l) (b l)
    go false t a b = let l = ltb-false low high t in halved_end key es (suc (suc n)) low high l ∙ sym (halved_end key es (suc n) low high l)

pub halved_up : (key : List ℕ) (es : List (List ℕ)) (n low high : ℕ) → low < high → high ≤ n → below (get_or es (halfway low high) []) key ≡ true
    → halved n key es low high ≡ halved n key es (halfway low high + 1) high
halved_up key es zero low high l h t = absurd (omega arith)
halved_up key es (suc n) low high l h t = up key es n low high l t ∙ sym (more key es n (halfway low high + 1) high (omega arith))

pub halved_down : (key : List ℕ) (es : List (List ℕ)) (n low high : ℕ) → low < high → high ≤ n → below (get_or es (halfway low high) []) key ≡ false
    → halved n key es low high ≡ halved n key es low (halfway low high)
halved_down key es zero low high l h t = absurd (omega arith)
halved_down key es (suc n) low high l h t = down key es n low high l t ∙ sym (more key es n low (halfway low high) (omega arith))

-- of entries in order it comes to the rank
halved_from : (key : List ℕ) (es : List (List ℕ)) → Sorted es → (n low high : ℕ) → Bracket es key low high → high - low ≤ n → halved n key es low high ≡ rank_of key es
halved_from key es s zero low high b h = halved_end key es 0 low high (omega arith) ∙ bracket_end es key low high b (omega arith)
halved_from key es s (suc n) low high b h =
    go (ltb low high) refl (λ l t. halved_from key es s n (halfway low high + 1) high (bracket_up s b (halfway low high) (omega arith) (omega arith) t) (omega arith))
    (λ l t. halved_from key es s n low (halfway low high) (bracket_down s b (halfway low high) (omega arith) (omega arith) t) (omega arith))
  where
    turn : low < high → (q : Bool) → below (get_or es (halfway low high) []) key ≡ q → (below (get_or es (halfway low high) []) key ≡ true → halved n key es (halfway low high + 1) high ≡ rank_of key es)
        → (below (get_or es (halfway low high) []) key ≡ false → halved n key es low (halfway low high) ≡ rank_of key es) → halved (suc n) key es low high ≡ rank_of key es
    turn l true t a b = up key es n low high l t ∙ a t
    turn l false t a b = down key es n low high l t ∙ b t

    go : (q : Bool) → ltb low high ≡ q → (low < high → below (get_or es (halfway low high) []) key ≡ true → halved n key es (halfway low high + 1) high ≡ rank_of key es)
        → (low < high → below (get_or es (halfway low high) []) key ≡ false → halved n key es low (halfway low high) ≡ rank_of key es) → halved (suc n) key es low high ≡ rank_of key es
    go true t a d = let l = ltb-true low high t in turn l (below (get_or es (halfway low high) []) key) refl (a l) (d l)
    go false t a d = let l = ltb-false low high t in halved_end key es (suc n) low high l ∙ bracket_end es key low high b l

pub halved_rank : (key : List ℕ) (es : List (List ℕ)) (n : ℕ) → Sorted es → n ≡ length es → halved n key es 0 n ≡ rank_of key es
halved_rank key es n s e = halved_from key es s n 0 n (bracket_start es key n e) (omega arith)

pub told_rank : (key : List ℕ) (es : List (List ℕ)) (r : ℕ) → r ≡ rank_of key es → told_at key es r ≡ lookup key es
unfolding told_at lookup
told_rank key es r e = rw e
