-- An edition by its name: 1 `terminal`, 2 `issue`, as the C interface numbers them; 0 for another word.
use Rattle.std.specs.Prelude.{ℕ, Bool, cond, List, [], ◌∷◌}
use Rattle.ground.specs.Lists.{same_list}

abbrev pub terminal_word : List ℕ
terminal_word = 0x74 ∷ 0x65 ∷ 0x72 ∷ 0x6D ∷ 0x69 ∷ 0x6E ∷ 0x61 ∷ 0x6C ∷ []

abbrev pub issue_word : List ℕ
issue_word = 0x69 ∷ 0x73 ∷ 0x73 ∷ 0x75 ∷ 0x65 ∷ []

unfoldable pub edition_named : List ℕ → ℕ
edition_named word = cond (same_list word terminal_word) 1 (cond (same_list word issue_word) 2 0)

-- what the listing program reads under, by whether it is given an argument and by the first one: without one issue, with `terminal` terminal,
-- with any other neither, 0
unfoldable pub chosen : Bool → List ℕ → ℕ
chosen given word = cond given (cond (same_list word terminal_word) 1 0) 2
