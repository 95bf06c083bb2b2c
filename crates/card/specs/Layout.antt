-- The 256 bytes of a content.
use Rattle.std.specs.Prelude.{ℕ, ◌+◌, ◌-◌, cond, List, [], ◌∷◌, ◌++◌, leb, eqb, length, take, drop, replicate}
use Rattle.std.specs.Int.Bits.{bit_xor}
use Rattle.edition.specs.Rows.{tags}
use Rattle.card.specs.Content.{Content}
use Rattle.lengths.specs.Lengths.{length_field}

-- the application identifier
unfoldable pub identifier : List ℕ
identifier = 0xD2 ∷ 0x76 ∷ 0x00 ∷ 0x00 ∷ 0x01 ∷ 0x01 ∷ []

-- addresses 0 to 29
unfoldable pub head : ℕ → List ℕ → List ℕ
head first free =
    first ∷ 0x13 ∷ 0x10 ∷ 0x91 ∷ 0x46 ∷ 0x0B
    ∷ (take 11 free ++ (0x61 ∷ 0x0B ∷ 0x4F ∷ 0x06 ∷ (identifier ++ (0x53 ∷ 0x01 ∷ drop 11 free))))

-- the objects stand in card order, each with a one-byte length; an absent one has no bytes
abbrev pub object : ℕ → List ℕ → List ℕ
object tag [] = []
object tag (b ∷ v) = tag ∷ length (b ∷ v) ∷ b ∷ v

unfoldable pub body : List ℕ → List (List ℕ) → List ℕ
body ts [] = []
body [] (v ∷ vs) = []
body (t ∷ ts) (v ∷ vs) = object t v ++ body ts vs

-- where the tag of object i stands, if the objects begin at `at`
unfoldable pub tag_at : ℕ → List (List ℕ) → ℕ → ℕ
tag_at at vs i = at + length (body (take i tags) (take i vs))

-- the exclusive or of all bytes
unfoldable pub xor_all : List ℕ → ℕ
xor_all [] = 0
xor_all (b ∷ bs) = bit_xor b (xor_all bs)

-- the template's length: the objects, and the three bytes of '8E'
abbrev pub template_length : List ℕ → ℕ
template_length objects = length objects + 3

-- all bytes from '60' to the length byte of '8E'
unfoldable pub summed : List ℕ → List ℕ
summed objects = 0x60 ∷ (length_field (template_length objects) ++ (objects ++ (0x8E ∷ 1 ∷ [])))

unfoldable pub template : List ℕ → List ℕ
template objects = summed objects ++ (xor_all (summed objects) ∷ [])

-- how many spaces the filler has, where t is 255 less its start, and how many last bytes follow
unfoldable pub spaces : ℕ → ℕ
spaces t = cond (leb t 129) (t - 2) (cond (eqb t 130) 127 (t - 3))

unfoldable pub lasts : ℕ → ℕ
lasts t = cond (eqb t 130) 2 1

-- the filler, its length in the form due, and the last byte or bytes
unfoldable pub filler : ℕ → ℕ → List ℕ
filler t last = 0xC0 ∷ (length_field (spaces t) ++ (replicate (spaces t) 0x20 ++ replicate (lasts t) last))

abbrev pub object_tags : List ℕ
object_tags = take 16 tags

abbrev pub objects_of : Content → List ℕ
objects_of c = body object_tags c.values

-- the address where the objects start: behind the template's tag, at 30, and its length field
abbrev pub objects_at : Content → ℕ
objects_at c = 31 + length (length_field (template_length (objects_of c)))

unfoldable pub layout : Content → List ℕ
layout c =
    let t = template (objects_of c) in
    head c.first c.free ++ (t ++ filler (255 - (30 + length t)) c.last)
