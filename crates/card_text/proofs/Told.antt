-- What the pieces answer, put together by the definitions of faults and records. Assumes nothing.
use Prim.Native.Nat.{ℕ, ◌+◌, ◌-◌, ◌*◌, ◌/◌, ◌%◌, ◌≤◌, ◌<◌}
use native.Mathlib.Omega.{arith}
use borrow.Author.Tests.{eq-eqb, ne_eqb, lt-ltb, le-ltb}
use mathlib.Core.Path.{◌≡◌, sym, ap, ap₂, ◌∙◌}
use mathlib.Core.Bool.{Bool, true, false}
use mathlib.Core.List.{List, ◌++◌}
use lib.ListN.{length, get_or, take, replicate, length-take}
use lib.Seq.{sets, length-sets, length-take-le}
use Rattle.std.specs.Prelude.{Option, Some, None, is_some, unwrap_or}
use Rattle.ground.specs.Rooms.{room_with}
use Rattle.ground.proofs.Stores.{sets_blank}
use Rattle.ground.proofs.Puts.{put_whole}
use Rattle.card_text.proofs.Filling.{filled}
use Rattle.letters.specs.declared.Turned.{Turned}
use Rattle.letters.specs.Letters.{utf8}
use Rattle.letters.specs.Turning.{code, coded_answer}
use Rattle.card.specs.declared.Object.{Object}
use Rattle.card.specs.declared.Record.{Record}
use Rattle.card_lines.specs.Keys.{key_of, value_in}
use Rattle.card_text.specs.declared.Wrong.{Wrong}
use Rattle.card_text.specs.declared.Wrong.TheVariants.{Name, Again, Letter, Digits, Checksum}
use Rattle.card_text.specs.declared.Fault.{Fault}
use Rattle.card_text.specs.Entries.{line_of, value_of}
use Rattle.card_text.specs.Hex.{value_or_0, is_hex, byte_at}
use Rattle.card_text.specs.Faults.{coded, letters_taken, digits_due, fault_of_value, fault_of_line, fault_at}
use Rattle.card_text.specs.Records.{object_said, byte_or, free_said, objects_said, record_said}

-- ---- two hex digits
module _ (value : List ℕ) (i b d h l : ℕ) where
  pub byte_there : i < length value / 2 → b ≡ get_or value (2 * i) 0 → d ≡ get_or value (2 * i + 1) 0 → h ≡ value_or_0 b → l ≡ value_or_0 d → h * 16 + l ≡ byte_at value i
  unfolding byte_at
  byte_there s e f g k = rw (lt-ltb i (length value / 2) s, ← e, ← f, ← g, ← k)

-- ---- the letters of a value
module _ (v : List ℕ) (t : Turned) (is : t ≡ coded_answer (replicate 255 0) v) where
  made : t.made ≡ length (coded v)
  unfolding coded
  made = ap (λ (x : Turned). x.made) is

  taken : t.taken ≡ length (utf8 (coded v))
  unfolding coded
  taken = ap (λ (x : Turned). x.taken) is

  pub letters_many : t.made ≡ 255 → length v ≡ letters_taken v
  unfolding letters_taken
  letters_many h = rw (← made, eq-eqb t.made 255 h)

  pub letters_few : (t.made ≡ 255 → ⊥) → t.taken ≡ letters_taken v
  unfolding letters_taken
  letters_few h = rw (← made, ne_eqb t.made 255 h) taken

  short : length (coded v) ≤ 255
  unfolding coded
  short = rw (length-take) (omega arith)

  abbrev object_with : ℕ → List ℕ → Object
  object_with n bs = record { length = n; bytes = bs }

  pub object_told : (room after : List ℕ) → room ≡ sets (replicate 255 0) 0 (take 255 (code v)) → after ≡ room_with (replicate 28 0) 0 (take 28 room)
      → object_with (t.made % 256) after ≡ object_said v
  unfolding object_said coded
  object_told room after e p =
      let n : t.made % 256 ≡ length (coded v) = omega (arith, made, short) in
      let long : length room ≡ 255 = ap length e ∙ length-sets (replicate 255 0) 0 (take 255 (code v)) in
      let whole : room ≡ coded v ++ replicate (255 - length (coded v)) 0 = e ∙ sets_blank 255 0 (coded v) short in
      let first : after ≡ take 28 room = put_whole (replicate 28 0) (take 28 room) (length-take-le 28 room (omega arith)) p in
      ap₂ object_with n (first ∙ ap (take 28) whole ∙ filled 28 (255 - length (coded v)) 28 (coded v) (omega (arith, short)) (omega arith))

-- ---- the fault of a value
module _ (key : ℕ) (v : List ℕ) where
  pub fault_letter : (n : ℕ) → n ≡ letters_taken v → key < 16 → n < length v → Some Letter ≡ fault_of_value key v
  unfolding fault_of_value
  fault_letter n e k h = rw (lt-ltb key 16 k, ← e, lt-ltb n (length v) h)

  pub no_fault_letter : (n : ℕ) → n ≡ letters_taken v → key < 16 → length v ≤ n → None ≡ fault_of_value key v
  unfolding fault_of_value
  no_fault_letter n e k h = rw (lt-ltb key 16 k, ← e, le-ltb n (length v) h)

  module _ (n : ℕ) (due : n ≡ digits_due key) (q : Bool) (is : q ≡ is_hex v n) (k : 16 ≤ key) where
    said : is_hex v (digits_due key) ≡ q
    said = ap (is_hex v) (sym due) ∙ sym is

    pub no_fault_hex : q ≡ true → None ≡ fault_of_value key v
    unfolding fault_of_value
    no_fault_hex h = rw (le-ltb key 16 k, said, h)

    pub fault_hex : q ≡ false → Some Digits ≡ fault_of_value key v
    unfolding fault_of_value
    fault_hex h = rw (le-ltb key 16 k, said, h)

-- ---- the fault of a line
module _ (text line : List ℕ) (n k : ℕ) (is : k ≡ key_of line) where
  pub line_skipped : k ≡ 21 → None ≡ fault_of_line text line n
  unfolding fault_of_line
  line_skipped h = rw (← is, eq-eqb k 21 h)

  module _ (a : k ≡ 21 → ⊥) where
    pub line_unknown : k ≡ 20 → Some Name ≡ fault_of_line text line n
    unfolding fault_of_line
    line_unknown h = rw (← is, ne_eqb k 21 a, eq-eqb k 20 h)

    module _ (b : k ≡ 20 → ⊥) where
      pub line_checksum : k ≡ 19 → Some Checksum ≡ fault_of_line text line n
      unfolding fault_of_line
      line_checksum h = rw (← is, ne_eqb k 21 a, ne_eqb k 20 b, eq-eqb k 19 h)

      module _ (c : k ≡ 19 → ⊥) (m : ℕ) (first : m ≡ unwrap_or (line_of k text) 0) where
        pub line_again : m < n → Some Again ≡ fault_of_line text line n
        unfolding fault_of_line
        line_again h = rw (← is, ne_eqb k 21 a, ne_eqb k 20 b, ne_eqb k 19 c, ← first, lt-ltb m n h)

        pub line_value : n ≤ m → fault_of_value k (value_in line) ≡ fault_of_line text line n
        unfolding fault_of_line
        line_value h = rw (← is, ne_eqb k 21 a, ne_eqb k 20 b, ne_eqb k 19 c, ← first, le-ltb m n h)

pub fault_told : (wrong : Wrong) (n key place : ℕ) (line : List ℕ) → key ≡ key_of line → place ≡ letters_taken (value_in line)
    → ◌≡◌ {A = Fault} (record { wrong = wrong; line = n; key = key; place = place }) (fault_at wrong n line)
fault_told wrong n key place line e f = rw (e, f)

-- ---- the bytes that stand for themselves
module _ (text : List ℕ) (key other : ℕ) (n : Option ℕ) (is : n ≡ line_of key text) where
  pub byte_other : is_some n ≡ false → other ≡ byte_or text key other
  unfolding byte_or
  byte_other h = rw (← is, h)

  pub byte_said : is_some n ≡ true → byte_at (value_of key text) 0 ≡ byte_or text key other
  unfolding byte_or
  byte_said h = rw (← is, h)

pub record_told : (text free : List ℕ) (number first last : ℕ) (objects : List Object) → first ≡ byte_or text 16 0x92 → free ≡ free_said (value_of 17 text) → last ≡ byte_or text 18 0x00
    → objects ≡ objects_said text → ◌≡◌ {A = Record} (record { first = first; free = free; last = last; objects = objects; number = number }) (record_said text number)
unfolding record_said
record_told text free number first last objects e f g h = rw (e, f, g, h)
