-- How writing back ends, by what was put together and listed again. Assumes nothing.
use mathlib.Core.Path.{◌≡◌, refl, sym, ap, subst, ◌∙◌}
use Prim.Native.Nat.{ℕ, ◌≤◌, ◌<◌}
use native.Mathlib.Omega.{arith}
use mathlib.Core.Bool.{true, false}
use mathlib.Core.List.{List}
use lib.ListN.{length, take}
use lib.Seq.{sets}
use Rattle.ground.proofs.Lists.{true_false}
use Rattle.ground.proofs.Stores.{stored_first}
use Rattle.tree.specs.Trees.{Below}
use Rattle.std.specs.Prelude.{Result, Ok, Err, Some, None}
use Rattle.tree_back.specs.declared.BackError.{BackError}
use Rattle.tree_back.specs.declared.BackError.TheVariants.{Room, Listing}
use Rattle.tree_back.specs.Sources.{Those, Back, wrote, small, none-such}
use Rattle.tree_back.specs.Glue.{Glue, glued, none, glue, glued_of, InRoom, same_tree}
use Rattle.tree_back.proofs.WritesBack.{writes_back}
use Rattle.tree_back.proofs.Only.{only_those}

never : {A : Type 0} {bs : List ℕ} → none ≡ glued bs → A
never e = absurd (let z : ◌≡◌ {A = ℕ} 0 1 = cc in omega arith)

same_glued : {xs ys : List ℕ} → glued xs ≡ glued ys → xs ≡ ys
same_glued e = cc

module _ (ws vs room : List ℕ) (r : Result ℕ BackError) where
  none_at : (g : Glue) → glue 4100 0 ws vs ≡ g → None ≡ glued_of g → r ≡ Err Listing → Back ws vs room r room
  unfolding glued_of
  none_at (glued bs) e k a = absurd (let z : ◌≡◌ {A = ℕ} 0 1 = cc in omega arith)
  none_at none e k a = none-such (λ b w. never (sym e ∙ (writes_back ws vs b w).0)) a refl

  pub at_none : None ≡ glued_of (glue 4100 0 ws vs) → r ≡ Err Listing → Back ws vs room r room
  at_none k a = none_at (glue 4100 0 ws vs) refl k a

  -- the bytes stand at the head of the scratch
  module _ (sc after : List ℕ) (n : ℕ) where
    made_at : (g : Glue) → Some n ≡ glued_of g → InRoom g sc after → (g ≡ glued (take n after)) × ((n ≡ length (take n after)) × (n ≤ length sc))
    unfolding glued_of InRoom
    made_at (glued bs) k w =
        let s : n ≡ length bs = cc in
        let t : take n after ≡ bs = rw w.0 (stored_first sc bs n s (omega (arith, w.1))) in
        (ap glued (sym t), (s ∙ ap length (sym t), omega (arith, w.1)))
    made_at none k w = absurd (let z : ◌≡◌ {A = ℕ} 0 1 = cc in omega arith)

    module _ (k : Some n ≡ glued_of (glue 4100 0 ws vs)) (w : InRoom (glue 4100 0 ws vs) sc after) where
      is : glue 4100 0 ws vs ≡ glued (take n after)
      is = (made_at (glue 4100 0 ws vs) k w).0

      size : n ≡ length (take n after)
      size = (made_at (glue 4100 0 ws vs) k w).1.0

      pub in_scratch : n ≤ length sc
      in_scratch = (made_at (glue 4100 0 ws vs) k w).1.1

      pub at_other : same_tree (take n after) ws ≡ false → r ≡ Err Listing → Back ws vs room r room
      at_other f a =
          none-such (λ b t.
          let p = writes_back ws vs b t in
          let e : take n after ≡ b = same_glued (sym is ∙ p.0) in
          true_false p.1 (subst (λ (l : List ℕ). same_tree l ws ≡ false) e f)) a refl

      module _ (words : Below 65536 ws) (bytes : Below 256 vs) (again : same_tree (take n after) ws ≡ true) where
        those : Those ws vs (take n after)
        those = only_those ws vs (take n after) words bytes is again

        pub at_small : length room < n → r ≡ Err Room → Back ws vs room r room
        at_small h a = small (take n after) those (omega (arith, size)) a refl

        pub at_wrote : n ≤ length room → (last : List ℕ) → last ≡ sets room 0 (take n after) → r ≡ Ok n → Back ws vs room r last
        at_wrote h last e a = wrote (take n after) those (omega (arith, size)) (a ∙ ap (λ (x : ℕ). Ok x) size) e
