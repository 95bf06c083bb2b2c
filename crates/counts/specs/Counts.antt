-- How many there are: facts about the definitions that a reader can count in document 01, without reading code.
use Rattle.std.specs.Prelude.{ℕ, zero, suc, ◌+◌, ◌≡◌, Bool, cond, List, [], ◌∷◌, map, set, replicate}
use Rattle.rules.specs.Values.{is_digit, is_text, is_lead, is_code, is_birth, is_expiry}
use Rattle.edition.specs.declared.Row.{Row}
use Rattle.edition.specs.declared.Edition.{Edition}
use Rattle.edition.specs.Sets.{permitted, shortest_of}
use Rattle.edition.specs.Tables.{terminal, issue}
use Rattle.card.specs.Rules.{first_allowed, last_allowed}
use Rattle.demands.specs.Marked.{card_of, full_values}
use Rattle.card.specs.Layout.{objects_of, template_length}

-- how many numbers below n pass a test
unfoldable pub tally : (ℕ → Bool) → ℕ → ℕ
tally f zero = 0
tally f (suc n) = cond (f n) 1 0 + tally f n

-- .. and how many pairs of numbers below n
unfoldable pub tally_pairs : (ℕ → ℕ → Bool) → ℕ → ℕ → ℕ
tally_pairs f n zero = 0
tally_pairs f n (suc m) = tally (λ k. f k m) n + tally_pairs f n m

-- how many bytes pass
abbrev pub bytes : (ℕ → Bool) → ℕ
bytes f = tally f 256

-- how many lengths each row permits
abbrev pub lengths_of : Edition → List ℕ
lengths_of e = map (λ (r : Row). tally (permitted r.lengths) 32) e.rows

-- the bytes of the shortest objects without any optional one, and those of the checksum
unfoldable pub shortest : List Row → ℕ
shortest [] = 0
shortest (r ∷ rs) = cond r.required (2 + shortest_of r.lengths) 0 + shortest rs

-- the longest objects of all, with a status addition of n bytes
unfoldable pub longest : ℕ → ℕ
longest n = template_length (objects_of (card_of (set full_values 5 (replicate n 0x31))))

pub record Counts : Type 0 where
  pub first_bytes : bytes first_allowed ≡ 3
  pub last_bytes_82 : bytes (last_allowed 0x82) ≡ 2
  pub last_bytes_92 : bytes (last_allowed 0x92) ≡ 1
  pub last_bytes_A2 : bytes (last_allowed 0xA2) ≡ 1
  pub digits : bytes is_digit ≡ 10
  pub text : bytes is_text ≡ 79
  pub leads : bytes is_lead ≡ 3
  pub codes : bytes is_code ≡ 18
  -- of two digits each: months 01 to 12 with days 00 to 31, and month 00 with day 00
  pub births : tally_pairs (is_birth 8) 100 100 ≡ 385
  pub expiries : tally (is_expiry 4) 100 ≡ 12
  pub terminal_lengths : lengths_of terminal ≡ 27 ∷ 1 ∷ 1 ∷ 7 ∷ 2 ∷ 3 ∷ 14 ∷ 28 ∷ 15 ∷ 27 ∷ 1 ∷ 27 ∷ 3 ∷ 4 ∷ 22 ∷ 1 ∷ 1 ∷ []
  pub issue_lengths : lengths_of issue ≡ 27 ∷ 1 ∷ 1 ∷ 7 ∷ 1 ∷ 1 ∷ 14 ∷ 28 ∷ 15 ∷ 27 ∷ 1 ∷ 27 ∷ 3 ∷ 4 ∷ 21 ∷ 1 ∷ 1 ∷ []
  pub shortest_51 : shortest terminal.rows ≡ 51
  pub longest_212 : longest 1 ≡ 212
  pub longest_214 : longest 3 ≡ 214
