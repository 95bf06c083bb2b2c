-- Record and table tell the same content of an image: its own bytes at address 0, the free places and the end, and its parts at the places of the table.
-- The edition's number, which a table does not have, is no part of this.
use Rattle.std.specs.Prelude.{ℕ, ◌≡◌, not, List, [], eqb, length, get_or}
use Rattle.card.specs.declared.Record.{Record}
use Rattle.card.specs.declared.Places.{Places}
use Rattle.card.specs.Content.{content_of}
use Rattle.card.specs.Frame.{free_of}
use Rattle.lookup.specs.Parts.{is_there, part_at}

pub record TellAlike (s : List ℕ) (r : Record) (t : Places) : Type 0 where
  pub first : (content_of r).first ≡ get_or s 0 0
  pub free : (content_of r).free ≡ free_of s
  pub last : (content_of r).last ≡ get_or s 255 0
  pub many : length (content_of r).values ≡ 16
  pub value : (k : ℕ) → get_or (content_of r).values k [] ≡ part_at s t k
  -- an object is there exactly where the record's value has a length
  pub there : (k : ℕ) → is_there t k ≡ not (eqb (length (get_or (content_of r).values k [])) 0)
