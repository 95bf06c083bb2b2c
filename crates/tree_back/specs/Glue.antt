-- How the bytes are put together, object by object, and listed again. The public promise does not speak of this: it says Sources.
use Rattle.std.specs.Prelude.{◌≡◌, ℕ, ◌+◌, ◌*◌, ◌≤◌, Bool, cond, ◌&&◌, List, [], ◌∷◌, ◌++◌, eqb, ltb, leb, length, drop, take, replicate, is_ok}
use Rattle.std.specs.Prelude.{Option, Some, None}
use Rattle.std.proofs.lemmas.List.Edits.{sets}
use Rattle.ground.specs.Lists.{same_list}
use Rattle.lengths.specs.Lengths.{length_field}
use Rattle.tree.specs.Heads.{is_list}
use Rattle.tree.specs.Answers.{count_of, tree_answer, tree_room}
use Rattle.tree_back.specs.declared.Step.{Step}

-- a list takes no plain bytes
unfoldable pub value_size : ℕ → ℕ → ℕ
value_size t n = cond (is_list t) 0 n

unfoldable pub object_bytes : ℕ → ℕ → List ℕ → List ℕ
object_bytes t n vs = t ∷ (length_field n ++ take (value_size t n) vs)

-- the tag is a byte, there are values enough, and room: cap bytes, of which p are taken
unfoldable pub fits : ℕ → ℕ → ℕ → ℕ → List ℕ → Bool
fits cap p t n vs = leb t 255 && (leb (value_size t n) (length vs) && leb (p + 4 + value_size t n) cap)

-- an object was put
abbrev pub step : ℕ → ℕ → Option Step
step values bytes = Some (record { values = values; bytes = bytes })

unfoldable pub step_of : ℕ → ℕ → ℕ → ℕ → List ℕ → Option Step
step_of cap p t n vs = cond (fits cap p t n vs) (step (value_size t n) (length (object_bytes t n vs))) None

-- the bytes of all words and values, or none
pub data Glue : Type 0 where
  glued : List ℕ → Glue
  none : Glue

abbrev pub prepend : List ℕ → Glue → Glue
prepend bs (glued cs) = glued (bs ++ cs)
prepend bs none = none

unfoldable pub glue : ℕ → ℕ → List ℕ → List ℕ → Glue
glue cap p [] vs = cond (ltb 0 (length vs)) none (glued [])
glue cap p (t ∷ []) vs = none
glue cap p (t ∷ d ∷ []) vs = none
glue cap p (t ∷ d ∷ a ∷ []) vs = none
glue cap p (t ∷ d ∷ a ∷ n ∷ ws) vs =
    cond (fits cap p t n vs)
    (prepend (object_bytes t n vs) (glue cap (p + length (object_bytes t n vs)) ws (drop (value_size t n) vs)))
    none

unfoldable pub glued_of : Glue → Option ℕ
glued_of (glued bs) = Some (length bs)
glued_of none = None

unfoldable pub InRoom : Glue → List ℕ → List ℕ → Type 0
InRoom (glued bs) out after = (after ≡ sets out 0 bs) × (length bs ≤ length out)
InRoom none out after = Unit {0}

pub record GluedIn (g : Glue) (r : Option ℕ) (out after : List ℕ) : Type 0 where
  pub answer : r ≡ glued_of g
  pub bytes : InRoom g out after

-- ws is the listing of s: 8,192 words are room for any
unfoldable pub same_tree : List ℕ → List ℕ → Bool
same_tree s ws =
    is_ok (tree_answer s (replicate 8192 0))
    && same_list (take (count_of (tree_answer s (replicate 8192 0)) * 4) (tree_room s (replicate 8192 0))) ws
