-- The kinds of bytes, for the code: a value is looked through by a table of them, and only one with a byte of a kind above its rule's is judged byte by byte.
use Rattle.std.specs.Prelude.{ℕ, zero, suc, Bool, cond, ◌&&◌, List, [], ◌∷◌, eqb, leb, length, get_or, Ok, Err}
use Rattle.std.specs.Int.Bits.{bit_or}
use Rattle.rules.specs.declared.Rule.{Rule}
use Rattle.rules.specs.declared.Fault.TheVariants.{Breaks}
use Rattle.rules.specs.Values.{is_digit, is_text, by_class, holds, Verdict, judged}

-- 0 a digit, 1 other text, 3 any other byte
abbrev pub kind_of : ℕ → ℕ
kind_of b = cond (is_digit b) 0 (cond (is_text b) 1 3)

-- the kinds of n bytes from b on
unfoldable pub kinds_from : ℕ → ℕ → List ℕ
kinds_from b zero = []
kinds_from b (suc n) = kind_of b ∷ kinds_from (suc b) n

-- the kinds of all bytes
unfoldable pub kind_table : List ℕ
kind_table = kinds_from 0 256

-- the bits of `worst` and of all kinds that a table, whatever it has, tells of the bytes of a value
unfoldable pub worst_in : List ℕ → ℕ → List ℕ → ℕ
worst_in table worst [] = worst
worst_in table worst (b ∷ v) = worst_in table (bit_or worst (get_or table b 3)) v

-- a table of 256 tells of a value no kind above the rule's
unfoldable pub within : List ℕ → Rule → List ℕ → Bool
within table rule v = eqb (length table) 256 && leb (worst_in table 0 v) (by_class rule 0 1 3)

-- what a value is judged with by a table, whatever it has: with the table of the kinds, as without one
unfoldable pub judged_by : List ℕ → Rule → List ℕ → Verdict
judged_by table rule v = cond (within table rule v) (cond (holds rule v) (Ok tt) (Err Breaks)) (judged rule v)
