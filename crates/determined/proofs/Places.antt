-- No second answer of places, the view and the host's command, stated as in `Determined`. Assumes nothing.
use mathlib.Core.Path.{◌≡◌, sym, ◌∙◌}
use Prim.Native.Nat.{ℕ}
use mathlib.Core.Bool.{Bool}
use mathlib.Core.List.{List}
use denote.Ref.{Bor}
use Rattle.lookup.specs.Parts.{is_there, part_at}
use Rattle.view.specs.declared.View.{View}
use Rattle.lookup.proofs.is_there.Reads as is-there
use Rattle.lookup.proofs.cut.Reads as cut
use Rattle.lookup.proofs.part_at.Reads as part_at_reads
use Rattle.host.proofs.host.Reads as host
use Rattle.wire.proofs.write_places.Reads as write-places
use Rattle.wire.proofs.pack_value.Reads as pack-value
use Rattle.calls_places.proofs.places.Reads as calls-places
use Rattle.calls_places.proofs.places_of.Reads as calls-places-of
use Rattle.kvk.proofs.kvk_places.Reads as kvk-places
use Rattle.calls_seen.proofs.host.Reads as calls-host
use Rattle.kvk.proofs.kvk_host.Reads as kvk-host

pub is_there_once : (κs : _) (a : _) (z y : _) (e f : _) → is-there.Post κs a z e → is-there.Post κs a y f → z ≡ y
is_there_once κs a z y e f p q = p ∙ sym q

-- a part is given back by its bytes
pub cut_once : (κs : _) (a : _) (z y : _) (e f : _) → cut.Post κs a z e → cut.Post κs a y f → z.now ≡ y.now
cut_once κs a z y e f p q = p ∙ sym q

pub part_at_once : (κs : _) (a : _) (z y : _) (e f : _) → part_at_reads.Post κs a z e → part_at_reads.Post κs a y f → z.now ≡ y.now
part_at_once κs a z y e f p q = p ∙ sym q

-- of a struct that holds a reference these take the equation that the contract ensures
pub view_has_once : (v : View) (k : ℕ) (z y : Bool) → z ≡ is_there v.table k → y ≡ is_there v.table k → z ≡ y
view_has_once v k z y p q = p ∙ sym q

pub view_part_once : (v : View) (k : ℕ) (z y : Bor (List ℕ)) → z.now ≡ part_at v.image.now v.table k → y.now ≡ part_at v.image.now v.table k → z.now ≡ y.now
view_part_once v k z y p q = p ∙ sym q

pub pack_value_once : (κs : _) (a : _) (z y : _) (e f : _) → pack-value.Post κs a z e → pack-value.Post κs a y f → z ≡ y
pack_value_once κs a z y e f p q = p ∙ sym q

pub write_places_room_once : (κs : _) (a : _) (z y : _) (e f : _) → write-places.Post κs a z e → write-places.Post κs a y f → e.1.0.now ≡ f.1.0.now
write_places_room_once κs a z y e f p q = p ∙ sym q

pub host_once : (κs : _) (a : _) (z y : _) (e f : _) → host.Post κs a z e → host.Post κs a y f → z ≡ y
host_once κs a z y e f p q = p.0 ∙ sym q.0

pub host_room_once : (κs : _) (a : _) (z y : _) (e f : _) → host.Post κs a z e → host.Post κs a y f → e.1.1.1.0.now ≡ f.1.1.1.0.now
host_room_once κs a z y e f p q = p.1 ∙ sym q.1

pub kvk_places_once : (κs : _) (a : _) (z y : _) (e f : _) → kvk-places.Post κs a z e → kvk-places.Post κs a y f → z ≡ y
kvk_places_once κs a z y e f p q = p.0 ∙ sym q.0

pub calls_places_of_once : (κs : _) (a : _) (z y : _) (e f : _) → calls-places-of.Post κs a z e → calls-places-of.Post κs a y f → z ≡ y
calls_places_of_once κs a z y e f p q = p ∙ sym q

pub calls_places_once : (κs : _) (a : _) (z y : _) (e f : _) → calls-places.Post κs a z e → calls-places.Post κs a y f → z ≡ y
calls_places_once κs a z y e f p q = p.0 ∙ sym q.0

pub kvk_places_room_once : (κs : _) (a : _) (z y : _) (e f : _) → kvk-places.Post κs a z e → kvk-places.Post κs a y f → e.1.1.0.now ≡ f.1.1.0.now
kvk_places_room_once κs a z y e f p q = p.1 ∙ sym q.1

pub calls_places_room_once : (κs : _) (a : _) (z y : _) (e f : _) → calls-places.Post κs a z e → calls-places.Post κs a y f → e.1.1.0.now ≡ f.1.1.0.now
calls_places_room_once κs a z y e f p q = p.1 ∙ sym q.1

pub kvk_host_once : (κs : _) (a : _) (z y : _) (e f : _) → kvk-host.Post κs a z e → kvk-host.Post κs a y f → z ≡ y
kvk_host_once κs a z y e f p q = p.0 ∙ sym q.0

pub calls_host_once : (κs : _) (a : _) (z y : _) (e f : _) → calls-host.Post κs a z e → calls-host.Post κs a y f → z ≡ y
calls_host_once κs a z y e f p q = p.0 ∙ sym q.0

pub kvk_host_room_once : (κs : _) (a : _) (z y : _) (e f : _) → kvk-host.Post κs a z e → kvk-host.Post κs a y f → e.1.1.1.0.now ≡ f.1.1.1.0.now
kvk_host_room_once κs a z y e f p q = p.1 ∙ sym q.1

pub calls_host_room_once : (κs : _) (a : _) (z y : _) (e f : _) → calls-host.Post κs a z e → calls-host.Post κs a y f → e.1.1.1.0.now ≡ f.1.1.1.0.now
calls_host_room_once κs a z y e f p q = p.1 ∙ sym q.1
