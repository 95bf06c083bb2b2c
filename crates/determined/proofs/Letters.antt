-- No second answer of the letters, stated as in `Determined`. Assumes nothing.
use mathlib.Core.Path.{◌≡◌, sym, ◌∙◌}
use Rattle.ground_pick.proofs.pick.Reads as pick
use Rattle.letter_bytes.proofs.first_of.Reads as first-of
use Rattle.letter_bytes.proofs.has_letter.Reads as has-letter
use Rattle.letter_bytes.proofs.second_of.Reads as second-of
use Rattle.letter_codes.proofs.byte_for.Reads as byte-for
use Rattle.letters_spelled.proofs.to_utf8.Reads as to-utf8
use Rattle.letters_coded.proofs.from_utf8.Reads as from-utf8

pub to_utf8_once : (κs : _) (a : _) (z y : _) (e f : _) → to-utf8.Post κs a z e → to-utf8.Post κs a y f → z ≡ y
to_utf8_once κs a z y e f p q = p.0 ∙ sym q.0

pub to_utf8_room_once : (κs : _) (a : _) (z y : _) (e f : _) → to-utf8.Post κs a z e → to-utf8.Post κs a y f → e.1.0.now ≡ f.1.0.now
to_utf8_room_once κs a z y e f p q = p.1 ∙ sym q.1

pub from_utf8_once : (κs : _) (a : _) (z y : _) (e f : _) → from-utf8.Post κs a z e → from-utf8.Post κs a y f → z ≡ y
from_utf8_once κs a z y e f p q = p.0 ∙ sym q.0

pub from_utf8_room_once : (κs : _) (a : _) (z y : _) (e f : _) → from-utf8.Post κs a z e → from-utf8.Post κs a y f → e.1.0.now ≡ f.1.0.now
from_utf8_room_once κs a z y e f p q = p.1 ∙ sym q.1

-- of values of any type, bytes among them
pub letter_pick_once : (g h i j k : _) (κs : _) (a : _) (z y : _) (e f : _) → pick.Post g h i j k κs a z e → pick.Post g h i j k κs a y f → z ≡ y
letter_pick_once g h i j k κs a z y e f p q = p ∙ sym q

pub letter_first_once : (κs : _) (a : _) (z y : _) (e f : _) → first-of.Post κs a z e → first-of.Post κs a y f → z ≡ y
letter_first_once κs a z y e f p q = p ∙ sym q

pub has_letter_once : (κs : _) (a : _) (z y : _) (e f : _) → has-letter.Post κs a z e → has-letter.Post κs a y f → z ≡ y
has_letter_once κs a z y e f p q = p ∙ sym q

pub second_of_once : (κs : _) (a : _) (z y : _) (e f : _) → second-of.Post κs a z e → second-of.Post κs a y f → z ≡ y
second_of_once κs a z y e f p q = p ∙ sym q

pub byte_for_once : (κs : _) (a : _) (z y : _) (e f : _) → byte-for.Post κs a z e → byte-for.Post κs a y f → z ≡ y
byte_for_once κs a z y e f p q = p ∙ sym q
