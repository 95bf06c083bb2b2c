-- What is promised of the values of a card: the bytes that the text rule takes all have letters, so that they are shown and come back the same.
use Rattle.std.specs.Prelude.{ℕ, ◌≤◌, ◌≡◌, List, length}
use Rattle.ground.specs.Lists.{leading}
use Rattle.rules.specs.Values.{is_text}
use Rattle.letters.specs.Letters.{utf8}
use Rattle.letters.specs.Inverse.{BytesComeBack}
use Rattle.card.specs.Content.{object_of}
use Rattle.card_text.specs.Records.{object_said}

abbrev pub TextComesBack : Type 0
TextComesBack = (v : List ℕ) → leading is_text v ≡ length v → BytesComeBack v

-- an object of at most 28 bytes of text, written in letters and read from a text, is the same object
abbrev pub ObjectComesBack : Type 0
ObjectComesBack = (v : List ℕ) → leading is_text v ≡ length v → length v ≤ 28 → object_said (utf8 v) ≡ object_of v
