-- The fixed bytes from the identifier on.
use Rattle.std.specs.Prelude.{ℕ, ◌+◌, List, [], ◌∷◌, ◌++◌, get_or, drop}
use Rattle.ground.specs.Lists.{agree}
use Rattle.card.specs.Layout.{identifier}

-- the first address from 21 on whose byte is not as it must be; 30 where all are
unfoldable pub late_end : List ℕ → ℕ
late_end s = 21 + agree (identifier ++ (0x53 ∷ 0x01 ∷ get_or s 29 0 ∷ [])) (drop 21 s)
