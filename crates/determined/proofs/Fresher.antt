-- No second answer of the fresher of two cards, stated as in `Determined`. Assumes nothing.
use mathlib.Core.Path.{◌≡◌, sym, ◌∙◌}
use Rattle.fresher_months.proofs.months_of.Reads as months-of
use Rattle.fresher_months.proofs.apart.Reads as apart
use Rattle.fresher_look.proofs.is_dated.Reads as is-dated
use Rattle.fresher_look.proofs.look.Reads as look
use Rattle.fresher_weigh.proofs.weigh.Reads as weigh
use Rattle.fresher_cards.proofs.compare.Reads as compare
use Rattle.fresher_cards.proofs.name.Reads as name
use Rattle.fresher_cards.proofs.fresher_name.Reads as fresher-name
use Rattle.fresher_bytes.proofs.write_fresher.Reads as write-fresher
use Rattle.calls_pairs.proofs.fresher.Reads as calls-fresher
use Rattle.kvk.proofs.kvk_fresher.Reads as kvk-fresher

pub fresher_compare_once : (κs : _) (a : _) (z y : _) (e f : _) → compare.Post κs a z e → compare.Post κs a y f → z ≡ y
fresher_compare_once κs a z y e f p q = p ∙ sym q

-- a part is given back by its bytes
pub name_once : (κs : _) (a : _) (z y : _) (e f : _) → name.Post κs a z e → name.Post κs a y f → z.now ≡ y.now
name_once κs a z y e f p q = p ∙ sym q

pub fresher_name_once : (κs : _) (a : _) (z y : _) (e f : _) → fresher-name.Post κs a z e → fresher-name.Post κs a y f → z.now ≡ y.now
fresher_name_once κs a z y e f p q = p ∙ sym q

pub write_fresher_room_once : (κs : _) (a : _) (z y : _) (e f : _) → write-fresher.Post κs a z e → write-fresher.Post κs a y f → e.1.0.now ≡ f.1.0.now
write_fresher_room_once κs a z y e f p q = p ∙ sym q

pub kvk_fresher_once : (κs : _) (a : _) (z y : _) (e f : _) → kvk-fresher.Post κs a z e → kvk-fresher.Post κs a y f → z ≡ y
kvk_fresher_once κs a z y e f p q = p.0 ∙ sym q.0

pub calls_fresher_once : (κs : _) (a : _) (z y : _) (e f : _) → calls-fresher.Post κs a z e → calls-fresher.Post κs a y f → z ≡ y
calls_fresher_once κs a z y e f p q = p.0 ∙ sym q.0

pub kvk_fresher_room_once : (κs : _) (a : _) (z y : _) (e f : _) → kvk-fresher.Post κs a z e → kvk-fresher.Post κs a y f → e.1.1.1.0.now ≡ f.1.1.1.0.now
kvk_fresher_room_once κs a z y e f p q = p.1 ∙ sym q.1

pub calls_fresher_room_once : (κs : _) (a : _) (z y : _) (e f : _) → calls-fresher.Post κs a z e → calls-fresher.Post κs a y f → e.1.1.1.0.now ≡ f.1.1.1.0.now
calls_fresher_room_once κs a z y e f p q = p.1 ∙ sym q.1

pub months_of_once : (κs : _) (a : _) (z y : _) (e f : _) → months-of.Post κs a z e → months-of.Post κs a y f → z ≡ y
months_of_once κs a z y e f p q = p ∙ sym q

pub apart_once : (κs : _) (a : _) (z y : _) (e f : _) → apart.Post κs a z e → apart.Post κs a y f → z ≡ y
apart_once κs a z y e f p q = p ∙ sym q

pub is_dated_once : (κs : _) (a : _) (z y : _) (e f : _) → is-dated.Post κs a z e → is-dated.Post κs a y f → z ≡ y
is_dated_once κs a z y e f p q = p ∙ sym q

pub look_once : (κs : _) (a : _) (z y : _) (e f : _) → look.Post κs a z e → look.Post κs a y f → z ≡ y
look_once κs a z y e f p q = p ∙ sym q

pub weigh_once : (κs : _) (a : _) (z y : _) (e f : _) → weigh.Post κs a z e → weigh.Post κs a y f → z ≡ y
weigh_once κs a z y e f p q = p ∙ sym q
