-- `reader::copy_free` meets its contract: eleven bytes, and one behind them. Assumes nothing.
use mathlib.Core.Path.{◌≡◌, ap, ◌∙◌}
use mathlib.Core.List.{List, [], ◌++◌}
use Prim.Native.Nat.{ℕ, ◌-◌}
use native.Mathlib.Omega.{arith}
use lib.ListN.{length, get_or, set, take, drop, replicate, length-drop}
use lib.Seq.{length-take-le, set_at}
use Rattle.ground.proofs.Puts.{put_stored}
use Rattle.ground.proofs.Stores.{sets_blank}
use Rattle.card.specs.Frame.{free_of}
use Rattle.reader.proofs.copy_free.Goals as goal

pub returns : goal.returns
unfolding free_of
returns c =
    let a = c.args in
    let s = a.image.now in
    let v = take 11 (drop 6 s) in
    let n : length v ≡ 11 = length-take-le 11 (drop 6 s) (omega (arith, length-drop 6 s, c.requires)) in
    let one : 12 - length v ≡ 1 = omega (arith, n) in
    let put = put_stored _ 0 v (omega (arith, n)) c.put.ensures.room_after ∙ sets_blank 12 0 v (omega (arith, n)) ∙ ap (λ (k : ℕ). v ++ replicate k 0) one in
    ap (λ (l : List ℕ). set l 11 (get_or s 29 0)) put ∙ set_at v 0 [] (get_or s 29 0) 11 n
