-- `first_of` meets its contract: what is no number has no entry; the halving finds how many entries come before a number's key, and the entry there is the first that can have it. Assumes nothing.
use mathlib.Core.Path.{◌≡◌, sym, ap, ap₂, ◌∙◌}
use mathlib.Core.List.{List}
use mathlib.Core.Bool.{true}
use Prim.Native.Nat.{ℕ, ◌/◌}
use lib.ListN.{length}
use Rattle.day.specs.Index.{halved, told_at}
use Rattle.day.specs.Calls.{number_formed, entries_in, position_in}
use Rattle.day.proofs.Padded.{length_entry}
use Rattle.day.proofs.Finding.{number_most}
use Rattle.day_search.proofs.first_of.Goals as goal

pub returns-then-not-is_number : goal.returns-then-not-is_number
unfolding position_in
returns-then-not-is_number c =
    let n = sym c.is_number.ensures ∙ c.if-not-is_number.true in
    rw n

pub key_of-key-requires : goal.key_of-key-requires
key_of-key-requires c =
    let formed : number_formed c.args.number.now ≡ true =
    sym c.is_number.ensures ∙ c.if-not-is_number.false in
    number_most _ (formed)

pub told_at-requires : goal.told_at-requires
told_at-requires c =
    ap length c.key_of-key.ensures ∙ length_entry _ 0

pub returns : goal.returns
unfolding position_in
returns c =
    let formed : number_formed c.args.number.now ≡ true =
    sym c.is_number.ensures ∙ c.if-not-is_number.false in
    let a = c.args in
    let i = a.index.now in
    let n = length i / 14 in
    let e = c.key_of-key.ensures in
    rw (formed)
    (c.told_at.ensures
    ∙ ap₂ (λ (x : List ℕ) (m : ℕ). told_at x (entries_in i) m) e (c.rank-k.ensures ∙ ap (λ (x : List ℕ). halved n x (entries_in i) 0 n) e))
