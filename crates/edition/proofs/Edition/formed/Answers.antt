-- `edition::Edition::formed` meets its contract. The invariant: the rows passed are well formed, so the answer is that of the rows from `i` on;
-- the loop stops before the last row, which alone is asked to be that of the checksum. Assumes nothing.
use mathlib.Core.Path.{◌≡◌, sym, ap, ◌∙◌}
use mathlib.Core.Bool.{Bool, true, false}
use mathlib.Core.List.{List}
use Prim.Native.Nat.{ℕ, ◌<◌}
use native.Mathlib.Omega.{arith}
use borrow.Author.Tests.{ne_eqb}
use lib.Dec.{eqb}
use lib.ListN.{length, get_or, take, drop, length-take}
use lib.Seq.{get_or-take}
use Rattle.edition.specs.declared.Row.{Row}
use Rattle.edition.specs.declared.Formed.TheVariants.{Well}
use Rattle.edition.specs.Rows.{no_row, row_formed, formed_from, formed_told}
use Rattle.edition.proofs.Rows.{formed_pass, formed_stop, formed_end, bad_formed, unnumbered, well_formed}
use Rattle.edition.proofs.Edition.formed.Goals as goal

early : (rs : List Row) (i : ℕ) (q : Bool) → i < 16 → row_formed false (get_or (take 16 rs) i no_row) ≡ q → row_formed (eqb i 16) (get_or rs i no_row) ≡ q
early rs i q h e = rw (ne_eqb i 16 (λ z. omega arith), ← get_or-take 16 rs i no_row h) e

past : (rs : List Row) (i : ℕ) → length rs ≡ 17 → i ≡ length (take 16 rs) → formed_from i (drop i rs) ≡ formed_from 0 rs → formed_from 16 (drop 16 rs) ≡ formed_from 0 rs
past rs i n e f = let s : i ≡ 16 = omega (arith, length-take 16 rs) in rw s at f

all : (rs : List Row) → length rs ≡ 17 → formed_from 16 (drop 16 rs) ≡ formed_from 0 rs → row_formed true (get_or rs 16 no_row) ≡ true → formed_from 0 rs ≡ Well
all rs n due t = sym due ∙ sym (formed_pass rs 16 (omega arith) t) ∙ formed_end rs 17 (omega arith)

pub returns-then-not-object_formed : goal.returns-then-not-object_formed
returns-then-not-object_formed c =
    let h = c.loop-i in
    let f = early c.args.self.rows h.i _ (omega arith) (sym c.object_formed.ensures ∙ c.if-not-object_formed.true) in
    ap formed_told (sym (bad_formed _ h.i (sym h.invariant ∙ formed_stop _ h.i (omega arith) f)))

pub loop-i-preserved : goal.loop-i-preserved
loop-i-preserved c =
    let h = c.loop-i in
    let f = early c.args.self.rows h.i _ (omega arith) (sym c.object_formed.ensures ∙ c.if-not-object_formed.false) in
    formed_pass _ h.i (omega arith) f ∙ h.invariant

pub returns-then-not-last_formed : goal.returns-then-not-last_formed
returns-then-not-last_formed c =
    ap formed_told (sym (bad_formed _ 16 (sym (past _ _ (omega arith) (omega arith) c.loop-i.invariant) ∙ formed_stop c.args.self.rows 16 (omega arith) (sym c.last_formed.ensures ∙ c.if-not-last_formed.true))))

pub returns-then-self-eq0 : goal.returns-then-self-eq0
returns-then-self-eq0 c =
    let f = all c.args.self.rows (omega arith) (past _ _ (omega arith) (omega arith) c.loop-i.invariant) (sym c.last_formed.ensures ∙ c.if-not-last_formed.false) in
    ap formed_told (sym (unnumbered _ f c.if-self-eq0.true))

pub returns : goal.returns
returns c =
    let f = all c.args.self.rows (omega arith) (past _ _ (omega arith) (omega arith) c.loop-i.invariant) (sym c.last_formed.ensures ∙ c.if-not-last_formed.false) in
    ap formed_told (sym (well_formed _ f c.if-self-eq0.false))
