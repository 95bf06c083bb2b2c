-- `day_add::add_entry` meets its contract: the index is put, then the entry among its entries. Assumes nothing.
use mathlib.Core.Path.{◌≡◌, ap, sym, ◌∙◌}
use mathlib.Core.List.{List, [], ◌++◌, append-nil}
use Prim.Native.Nat.{ℕ, ◌+◌, ◌-◌, ◌*◌, ◌≤◌}
use native.Mathlib.Omega.{arith}
use lib.ListN.{length, take, drop, length-drop}
use lib.Seq.{sets, length-take-le}
use Rattle.ground.specs.Pieces.{pieces}
use Rattle.ground.proofs.Puts.{put_stored}
use Rattle.ground.proofs.Stores.{stored_first}
use Rattle.day_index.specs.Order.{flat, insert}
use Rattle.day_index.proofs.Moves.{entry_in}
use Rattle.day_index.proofs.Parts.{pieces_flat, pieces_sized, flat_pieces, length_pieces}
use borrow.Author.Rules.{rules}
use Rattle.day_add.proofs.add_entry.Goals as goal

pieces-front : (n : ℕ) (l : List ℕ) → n * 14 ≤ length l → pieces 14 n (take (n * 14) l) ≡ pieces 14 n l
pieces-front n l h =
    let xs = pieces 14 n l in
    ap (pieces 14 n) (sym (append-nil (flat xs) ∙ flat_pieces 14 n l))
    ∙ ap (λ (k : ℕ). pieces 14 k (flat xs ++ [])) (sym (length_pieces 14 n l))
    ∙ pieces_flat 14 xs [] (pieces_sized 14 n l h)

pub returns : goal.returns
returns c =
    let long : length c.args.entry ≡ 14 =
    search rules in
    let a = c.args in
    let n = a.count in
    let rest = drop (n * 256) a.file.now in
    let part = take (n * 270 - n * 256) rest in
    let d : n * 270 - n * 256 ≡ n * 14 = omega arith in
    let m : n * 14 ≤ length (drop (n * 256) a.file.now) = simp length-drop (omega arith) in
    let same : part ≡ take (n * 14) rest = ap (λ (k : ℕ). take k rest) d in
    let size : length part ≡ n * 14 = ap length same ∙ length-take-le (n * 14) rest m in
    let l = c.put.new.room in
    let k = c.put.auto.room in
    let put : l ≡ sets a.index.now 0 part = put_stored a.index.now 0 part (omega arith) c.put.ensures.room_after in
    let front : take (n * 14) l ≡ take (n * 14) rest = ap (take (n * 14)) put ∙ stored_first a.index.now part (n * 14) (sym size) (omega arith) ∙ same in
    let fits : n * 14 ≤ length l = omega (arith, k) in
    let p : pieces 14 n l ≡ pieces 14 n (take (n * 14) rest) = sym (pieces-front n l fits) ∙ ap (pieces 14 n) front in
    ap (take ((n + 1) * 14)) c.put-2.ensures ∙ entry_in l a.entry n (omega (arith, k)) (long) ∙ ap (λ (es : List (List ℕ)). flat (insert a.entry es)) p
