-- What a view of an accepted image and its own table shows is what the record of that image holds. Its calls answer what `lookup` tells of
-- image and table, and those tell the record's content. Assumes nothing.
use Prim.Native.Nat.{ℕ}
use mathlib.Core.Path.{◌≡◌, sym, ◌∙◌}
use mathlib.Core.Bool.{Bool, not}
use mathlib.Core.List.{List, []}
use lib.Dec.{eqb}
use lib.ListN.{length, get_or}
use denote.Ref.{Bor}
use Rattle.edition.specs.declared.Edition.{Edition}
use Rattle.card.specs.Content.{content_of}
use Rattle.card.specs.Reading.{reading}
use Rattle.card.specs.Places.{places}
use Rattle.demands.specs.Demands.{LentEdition, Accepts, library_reader}
use Rattle.lookup.specs.Parts.{is_there, part_at}
use Rattle.lookup.proofs.Tells.{tell_alike}
use Rattle.view.specs.declared.View.{View}

module _ (e : Edition) (v : View) (n : LentEdition e) (h : Accepts library_reader e v.image.now) (own : v.table ≡ places e v.image.now) where
  -- the record's values
  abbrev values : List (List ℕ)
  values = (content_of (reading e v.image.now).content).values

  -- what `part` answers is the record's value
  pub part_shown : (k : ℕ) (z : Bor (List ℕ)) → z.now ≡ part_at v.image.now v.table k → z.now ≡ get_or values k []
  part_shown k z p = p ∙ rw own (sym ((tell_alike e v.image.now n h).value k))

  -- what `has` answers is whether it has a length
  pub has_shown : (k : ℕ) (z : Bool) → z ≡ is_there v.table k → z ≡ not (eqb (length (get_or values k [])) 0)
  has_shown k z p = p ∙ rw own ((tell_alike e v.image.now n h).there k)
