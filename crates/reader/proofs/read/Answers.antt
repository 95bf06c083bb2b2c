-- `reader::read` meets its contract: at the places of an accepted image stand the values of its content. Assumes nothing.
use Prim.Native.Nat.{ℕ}
use native.Mathlib.Omega.{arith}
use mathlib.Core.Path.{◌≡◌, refl, ◌∙◌}
use mathlib.Core.Bool.{Bool, true, false}
use mathlib.Core.List.{List}
use borrow.Author.Tests.{eqb-true, eqb-false}
use lib.Dec.{eqb}
use lib.ListN.{length}
use Rattle.edition.specs.declared.Edition.{Edition}
use Rattle.card.specs.declared.Places.{Places}
use Rattle.card.specs.Places.{places}
use Rattle.card.specs.Reading.{reading}
use Rattle.reader_steps.proofs.Values.{reads_refused, reads_accepted}
use Rattle.reader.specs.Records.{read_at}
use Rattle.reader.proofs.read.Goals as goal

read_by : (e : Edition) (s : List ℕ) (p : Places) → length e.rows ≡ 17 → p ≡ places e s → read_at p s e.number ≡ reading e s
unfolding read_at
read_by e s p n is = go (eqb p.refusal.number 0) refl
  where
    go : (q : Bool) → eqb p.refusal.number 0 ≡ q → read_at p s e.number ≡ reading e s
    go true t = rw t (reads_accepted e s p n is (eqb-true _ _ t)).is
    go false t = rw t (reads_refused e s p is (eqb-false _ _ t))

pub read_at-requires : goal.read_at-requires
read_at-requires c = λ z.
    let seventeen : length c.args.edition.rows ≡ 17 = omega arith in
    let g = reads_accepted _ _ _ (seventeen) c.places-table.ensures z in
    (g.long, g.inside)

pub returns : goal.returns
returns c =
    let seventeen : length c.args.edition.rows ≡ 17 = omega arith in
    c.read_at.ensures ∙ read_by _ _ _ (seventeen) c.places-table.ensures
