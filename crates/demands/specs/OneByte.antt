-- One bad byte is always seen: changing any one byte of an accepted image, from address 30 to the filler's last byte, makes an image that is refused. Other bytes are excepted.
use Rattle.std.specs.Prelude.{ℕ, suc, ◌≤◌, ◌≡◌, cond, List, ◌∷◌, ◌++◌, eqb, length, get_or, set, replicate}
use Rattle.edition.specs.declared.Edition.{Edition}
use Rattle.edition.specs.Tables.{terminal}
use Rattle.card.specs.Content.{Content}
use Rattle.lengths.specs.Lengths.{length_field}
use Rattle.card.specs.Layout.{head, template_length, template, objects_of, layout}
use Rattle.card.specs.Rules.{Meets}
use Rattle.demands.specs.Marked.{values_s, card_of}
use Rattle.demands.specs.Demands.{Reader, LentEdition, Accepts, Refuses}

-- the address of the filler's last byte: 254, and at L = 93 253
abbrev pub filler_last : Content → ℕ
filler_last c = cond (eqb (template_length (objects_of c)) 93) 253 254

-- an image that meets every rule of an edition (which is then well formed), an address from 30 to the filler's last byte, and another byte than the one there
pub record BadByte (e : Edition) (s : List ℕ) (a x : ℕ) : Type 0 where
  pub met : Meets e s
  pub from : 30 ≤ a
  pub to : a ≤ filler_last met.content
  pub other : x ≡ get_or s a 0 → ⊥

-- the image is accepted, and refused with that byte: nothing is said of the order in which the reader looks, nor of what it tells
abbrev pub SeesOneByte : Reader → Type 0
SeesOneByte read = (e : Edition) (s : List ℕ) (a x : ℕ) → LentEdition e → BadByte e s a x → Accepts read e s × Refuses read e (set s a x)

-- that this address is the filler's last: up to it stand the head, the template, and the filler's tag, length and spaces; behind it the last byte or bytes alone
abbrev pub up_to_filler : Content → ℕ → List ℕ
up_to_filler c spaces = head c.first c.free ++ (template (objects_of c) ++ (0xC0 ∷ (length_field spaces ++ replicate spaces 0x20)))

pub record FillerEnds (c : Content) : Type 0 where
  pub spaces : ℕ
  pub lasts : ℕ
  pub bytes : layout c ≡ up_to_filler c spaces ++ replicate lasts c.last
  pub ends : length (up_to_filler c spaces) ≡ suc (filler_last c)

-- ---- what is not said, so that nobody reads too much into it: changes that go unseen
pub record Unseen (e : Edition) (s t : List ℕ) : Type 0 where
  pub before : Meets e s
  pub after : Meets e t
  pub changed : s ≡ t → ⊥

abbrev pub image_s : List ℕ
image_s = layout (card_of values_s)

-- S with '82' at address 0
abbrev pub image_s82 : List ℕ
image_s82 = set image_s 0 0x82

-- two bytes of that span: the letters of the fund name change places; and one byte of each excepted kind
pub record GoUnseen : Type 0 where
  pub two_bytes : Unseen terminal image_s (set (set image_s 34 0x42) 35 0x41)
  pub free_byte : Unseen terminal image_s (set image_s 29 0x01)
  pub address_0 : Unseen terminal image_s (set image_s 0 0xA2)
  pub last_byte : Unseen terminal image_s82 (set image_s82 255 0xFF)
