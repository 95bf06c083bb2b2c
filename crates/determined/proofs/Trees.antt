-- No second answer of the tree of a foreign card, stated as in `Determined`. Assumes nothing.
use mathlib.Core.Path.{◌≡◌, sym, ap, ◌∙◌}
use Rattle.calls_foreign.specs.Foreign.{packed_back}
use Rattle.tree_back.proofs.RoundTrips
use Rattle.tree.proofs.Refusal.new.Reads as tree-refusal
use Rattle.tree_back.proofs.BackError.number.Reads as back-number
use Rattle.tree_tags.proofs.is_bad.Reads as is-bad
use Rattle.tree_tags.proofs.is_list.Reads as is-list
use Rattle.tree_heads.proofs.head_of.Reads as head_of
use Rattle.tree_entries.proofs.put_words.Reads as put-words
use Rattle.tree_list.proofs.list_tree.Reads as list-tree
use Rattle.tree_values.proofs.value_size.Reads as value-size
use Rattle.tree_same.proofs.same_tree.Reads as same-tree
use Rattle.tree_write.proofs.write_back.Reads as write-back
use Rattle.calls_foreign.proofs.tree.Reads as calls-tree
use Rattle.kvk.proofs.kvk_tree.Reads as kvk-tree
use Rattle.calls_foreign.proofs.tree_write.Reads as calls-tree-write
use Rattle.kvk.proofs.kvk_tree_write.Reads as kvk-tree-write

pub list_tree_once : (κs : _) (a : _) (z y : _) (e f : _) → list-tree.Post κs a z e → list-tree.Post κs a y f → z ≡ y
list_tree_once κs a z y e f p q = p.0 ∙ sym q.0

pub list_tree_room_once : (κs : _) (a : _) (z y : _) (e f : _) → list-tree.Post κs a z e → list-tree.Post κs a y f → e.1.0.now ≡ f.1.0.now
list_tree_room_once κs a z y e f p q = p.1 ∙ sym q.1

pub write_back_once : (κs : _) (a : _) (z y : _) (e f : _) → write-back.Post κs a z e → write-back.Post κs a y f → z ≡ y
write_back_once κs a z y e f p q = (RoundTrips.back_once _ _ _ z y _ _ p q).0

pub write_back_room_once : (κs : _) (a : _) (z y : _) (e f : _) → write-back.Post κs a z e → write-back.Post κs a y f → e.1.1.0.now ≡ f.1.1.0.now
write_back_room_once κs a z y e f p q = (RoundTrips.back_once _ _ _ z y _ _ p q).1

pub kvk_tree_once : (κs : _) (a : _) (z y : _) (e f : _) → kvk-tree.Post κs a z e → kvk-tree.Post κs a y f → z ≡ y
kvk_tree_once κs a z y e f p q = p.0 ∙ sym q.0

pub calls_tree_once : (κs : _) (a : _) (z y : _) (e f : _) → calls-tree.Post κs a z e → calls-tree.Post κs a y f → z ≡ y
calls_tree_once κs a z y e f p q = p.0 ∙ sym q.0

pub kvk_tree_room_once : (κs : _) (a : _) (z y : _) (e f : _) → kvk-tree.Post κs a z e → kvk-tree.Post κs a y f → e.1.0.now ≡ f.1.0.now
kvk_tree_room_once κs a z y e f p q = p.1 ∙ sym q.1

pub calls_tree_room_once : (κs : _) (a : _) (z y : _) (e f : _) → calls-tree.Post κs a z e → calls-tree.Post κs a y f → e.1.0.now ≡ f.1.0.now
calls_tree_room_once κs a z y e f p q = p.1 ∙ sym q.1

pub kvk_tree_write_once : (κs : _) (a : _) (z y : _) (e f : _) → kvk-tree-write.Post κs a z e → kvk-tree-write.Post κs a y f → z ≡ y
kvk_tree_write_once κs a z y e f p q = p.packed ∙ ap packed_back (RoundTrips.back_once _ _ _ p.answer q.answer _ _ p.back q.back).0 ∙ sym q.packed

pub calls_tree_write_once : (κs : _) (a : _) (z y : _) (e f : _) → calls-tree-write.Post κs a z e → calls-tree-write.Post κs a y f → z ≡ y
calls_tree_write_once κs a z y e f p q = p.packed ∙ ap packed_back (RoundTrips.back_once _ _ _ p.answer q.answer _ _ p.back q.back).0 ∙ sym q.packed

pub kvk_tree_write_room_once : (κs : _) (a : _) (z y : _) (e f : _) → kvk-tree-write.Post κs a z e → kvk-tree-write.Post κs a y f → e.1.1.0.now ≡ f.1.1.0.now
kvk_tree_write_room_once κs a z y e f p q = (RoundTrips.back_once _ _ _ p.answer q.answer _ _ p.back q.back).1

pub calls_tree_write_room_once : (κs : _) (a : _) (z y : _) (e f : _) → calls-tree-write.Post κs a z e → calls-tree-write.Post κs a y f → e.1.1.0.now ≡ f.1.1.0.now
calls_tree_write_room_once κs a z y e f p q = (RoundTrips.back_once _ _ _ p.answer q.answer _ _ p.back q.back).1

pub tree_refusal_once : (κs : _) (a : _) (z y : _) (e f : _) → tree-refusal.Post κs a z e → tree-refusal.Post κs a y f → z ≡ y
tree_refusal_once κs a z y e f p q = p ∙ sym q

pub back_number_once : (κs : _) (a : _) (z y : _) (e f : _) → back-number.Post κs a z e → back-number.Post κs a y f → z ≡ y
back_number_once κs a z y e f p q = p ∙ sym q

pub is_bad_once : (κs : _) (a : _) (z y : _) (e f : _) → is-bad.Post κs a z e → is-bad.Post κs a y f → z ≡ y
is_bad_once κs a z y e f p q = p ∙ sym q

pub is_list_once : (κs : _) (a : _) (z y : _) (e f : _) → is-list.Post κs a z e → is-list.Post κs a y f → z ≡ y
is_list_once κs a z y e f p q = p ∙ sym q

pub head_of_once : (κs : _) (a : _) (z y : _) (e f : _) → head_of.Post κs a z e → head_of.Post κs a y f → z ≡ y
head_of_once κs a z y e f p q = p ∙ sym q

pub put_words_room_once : (κs : _) (a : _) (z y : _) (e f : _) → put-words.Post κs a z e → put-words.Post κs a y f → e.0.now ≡ f.0.now
put_words_room_once κs a z y e f p q = p ∙ sym q

pub value_size_once : (κs : _) (a : _) (z y : _) (e f : _) → value-size.Post κs a z e → value-size.Post κs a y f → z ≡ y
value_size_once κs a z y e f p q = p ∙ sym q

pub same_tree_once : (κs : _) (a : _) (z y : _) (e f : _) → same-tree.Post κs a z e → same-tree.Post κs a y f → z ≡ y
same_tree_once κs a z y e f p q = p ∙ sym q
