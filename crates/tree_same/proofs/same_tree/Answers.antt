-- The room has place for any listing; refused bytes have none.
use Rattle.std.proofs.Common.{◌≡◌, ℕ, ◌*◌, ◌≤◌, List, [], ◌∷◌, length, refl, sym, subst, ◌∙◌, replicate, arith}
use lib.Dec.{eqb}
use lib.Pointwise.{pointwise}
use Rattle.std.proofs.lemmas.List.{length-take-le}
use Rattle.std.specs.Prelude.{Result, Ok}
use Rattle.ground.specs.Lists.{same_list}
use Rattle.tree.specs.declared.Refusal.{Refusal}
use Rattle.tree.specs.Answers.{count_of, tree_answer}
use Rattle.tree.proofs.Whole.{listed_fits}
use Rattle.tree_back.specs.Glue.{same_tree}
use Rattle.tree_same.proofs.same_tree.Goals as goal

-- what `==` answers of words
same : (xs ys : List ℕ) → pointwise eqb xs ys ≡ same_list xs ys
unfolding same_list
same [] [] = refl
same [] (y ∷ ys) = refl
same (x ∷ xs) [] = refl
same (x ∷ xs) (y ∷ ys) = rw (same xs ys)

-- the words that were counted lie in the room
counted : (n : ℕ) (s room : List ℕ) → Ok n ≡ tree_answer s room → n * 4 ≤ length room
counted n s room e = subst (λ (r : Result ℕ Refusal). count_of r * 4 ≤ length room) (sym e) (listed_fits s room)

pub returns-in_default : goal.returns-in_default
unfolding same_tree
returns-in_default c = rw (← c.list_tree.ensures.value, c.in_default.is)

pub slice_bounds-room-end : goal.slice_bounds-room-end
slice_bounds-room-end c =
    omega (arith, counted c.in-Ok.count c.args.bytes.now (replicate 8192 0) c.in-Ok.ensures.value, c.list_tree.auto.room)

pub slice_bounds-eq-end : goal.slice_bounds-eq-end
slice_bounds-eq-end c =
    sym (length-take-le (c.in-Ok.count * 4) c.list_tree.new.room
    (omega (arith, counted c.in-Ok.count c.args.bytes.now (replicate 8192 0) c.in-Ok.ensures.value, c.list_tree.auto.room)))

pub returns : goal.returns
unfolding same_tree
returns c = rw (← c.in-Ok.ensures.value, ← c.list_tree.ensures.room_after) (c.eq.ensures ∙ same _ c.args.words.now)
