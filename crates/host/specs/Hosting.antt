-- The host's command: '00' 'B0', two bytes of offset, high first, one byte of count 1 to 255, over the template's bytes from '60' to the checksum's value.
use Rattle.std.specs.Prelude.{ℕ, ◌+◌, ◌*◌, ◌-◌, Bool, not, ◌&&◌, List, [], ◌∷◌, ◌++◌, eqb, leb, length, take, drop, get_or}
use Rattle.edition.specs.declared.Edition.{Edition}
use Rattle.card.specs.Refusals.{refuse, none, gate}
use Rattle.card.specs.Frame.{end_of}
use Rattle.card.specs.Reading.{reading}
use Rattle.host.specs.declared.Hosted.{Hosted}

-- ---- the command
-- five bytes, and a count
abbrev pub is_command : List ℕ → Bool
is_command cmd = eqb (length cmd) 5 && not (eqb (get_or cmd 4 0) 0)

abbrev pub is_reading : List ℕ → Bool
is_reading cmd = eqb (get_or cmd 0 0) 0x00 && eqb (get_or cmd 1 0) 0xB0

abbrev pub offset_of : List ℕ → ℕ
offset_of cmd = get_or cmd 2 0 * 256 + get_or cmd 3 0

abbrev pub count_of : List ℕ → ℕ
count_of cmd = get_or cmd 4 0

-- ---- the answer
-- the template's bytes, from '60' to the checksum's value
abbrev pub template_bytes : List ℕ → List ℕ
template_bytes s = take (end_of s - 30) (drop 30 s)

abbrev pub accepts : Edition → List ℕ → Bool
accepts e s = eqb (reading e s).refusal.number 0

-- '6700', '6D00', '6900', '6A00'; else the bytes and '9000'
unfoldable pub reply : Edition → List ℕ → List ℕ → List ℕ
reply e s cmd =
    gate (is_command cmd) (0x67 ∷ 0x00 ∷ [])
    (gate (is_reading cmd) (0x6D ∷ 0x00 ∷ [])
    (gate (accepts e s) (0x69 ∷ 0x00 ∷ [])
    (gate (leb (offset_of cmd + count_of cmd) (length (template_bytes s))) (0x6A ∷ 0x00 ∷ [])
    (take (count_of cmd) (drop (offset_of cmd) (template_bytes s)) ++ (0x90 ∷ 0x00 ∷ [])))))

-- 20 for a room of another size; else how long the answer is
unfoldable pub hosted_of : Edition → List ℕ → List ℕ → List ℕ → Hosted
hosted_of e s cmd room =
    gate (eqb (length room) 257) (record { refusal = refuse 20 0 0; length = 0 })
    (record { refusal = none; length = length (reply e s cmd) })

-- the answer at the start of the room, whose rest stays; a room of another size stays as it is
unfoldable pub room_after : Edition → List ℕ → List ℕ → List ℕ → List ℕ
room_after e s cmd room = gate (eqb (length room) 257) room (reply e s cmd ++ drop (length (reply e s cmd)) room)
