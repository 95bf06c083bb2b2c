-- The steps of an answer, by addresses of the image: the command taken apart, the range, and the answer that it makes.
use Rattle.std.specs.Prelude.{ℕ, ◌+◌, List, [], ◌∷◌, ◌++◌, Bool, leb, take, drop, Result, Ok, Err}
use Rattle.edition.specs.declared.Edition.{Edition}
use Rattle.card.specs.Refusals.{gate}
use Rattle.card.specs.Frame.{end_of}
use Rattle.host.specs.declared.asking.Command.{Command}
use Rattle.host.specs.declared.asking.Asked.{Asked}
use Rattle.host.specs.Hosting.{is_command, is_reading, offset_of, count_of, accepts}

unfoldable pub command_of : List ℕ → Result Command ℕ
command_of cmd =
    gate (is_command cmd) (Err 0x67)
    (gate (is_reading cmd) (Err 0x6D)
    (Ok (record { offset = offset_of cmd; count = count_of cmd })))

abbrev pub declined : ℕ → Asked
declined status = record { status = status; start = 0; count = 0 }

-- a template begins at 30
unfoldable pub range_of : ℕ → ℕ → ℕ → Asked
range_of offset count end = gate (leb (30 + offset + count) end) (declined 0x6A) (record { status = 0x90; start = 30 + offset; count = count })

-- of an image that is accepted or not, by what the command says
unfoldable pub asked_by : Bool → List ℕ → Result Command ℕ → Asked
asked_by accepted s (Err status) = declined status
asked_by accepted s (Ok c) = gate accepted (declined 0x69) (range_of c.offset c.count (end_of s))

unfoldable pub asked_of : Edition → List ℕ → List ℕ → Asked
asked_of e s cmd = asked_by (accepts e s) s (command_of cmd)

-- the answer that is asked for
abbrev pub reply_of : List ℕ → Asked → List ℕ
reply_of s a = take a.count (drop a.start s) ++ (a.status ∷ 0x00 ∷ [])
