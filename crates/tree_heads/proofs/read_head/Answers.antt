-- `tree_heads::read_head` meets its contract, test by test. Assumes nothing.
use Prim.Native.Nat.{ℕ, ◌-◌, ◌≤◌}
use native.Mathlib.Omega.{arith}
use mathlib.Core.Path.{◌≡◌, refl, sym, ap, ◌∙◌}
use mathlib.Core.Bool.{false}
use mathlib.Core.List.{List}
use lib.ListN.{length, get_or, drop, take}
use Rattle.std.specs.Prelude.{Result, Ok, Err}
use Rattle.lengths.specs.declared.Field.{Field}
use Rattle.lengths.specs.declared.FieldError.{FieldError}
use Rattle.lengths.specs.Lengths.{length_read, length_told}
use Rattle.lengths.proofs.Laws.{number_some}
use Rattle.ground.proofs.Runs.{part_to_end}
use Rattle.tree.specs.Heads.{bad_tag, field_behind}
use Rattle.tree.proofs.Inside.{head_bad, head_deep, head_field, head_long, head_object, field_behind_lem}
use Rattle.tree_heads.proofs.read_head.Goals as goal

-- the field that was read is the one behind the tag
behind : (r : Result Field FieldError) (s : List ℕ) → r ≡ length_read (take (length s - 1) (drop 1 s)) → field_behind s ≡ length_told r
behind r s e = sym (ap length_told e ∙ ap (λ (l : List ℕ). length_told (length_read l)) (part_to_end 1 s))

pub returns-then-is_bad : goal.returns-then-is_bad
returns-then-is_bad c =
    let a = c.args in
    rw c.new.ensures (sym (head_bad a.bytes.now a.at (7 - a.left) (sym c.is_bad.ensures ∙ c.if-is_bad.true)))

pub returns-then-left-eq0 : goal.returns-then-left-eq0
returns-then-left-eq0 c =
    let a = c.args in
    rw c.new-then-left-eq0.ensures (sym (head_deep a.bytes.now a.at (7 - a.left) (sym c.is_bad.ensures ∙ c.if-is_bad.false) (omega (arith, c.if-left-eq0.true))))

pub returns-in_default : goal.returns-in_default
returns-in_default c =
    let a = c.args in
    let x = c.in_default.field-0 in
    let field = behind (Err x) a.bytes.now (sym c.in_default.is ∙ c.read_length.ensures.read) in
    let good : bad_tag (get_or a.bytes.now 0 0) ≡ false = sym c.is_bad.ensures ∙ c.if-is_bad.false in
    let flat : 7 - a.left ≤ 6 = omega (arith, c.if-left-eq0.false) in
    rw c.new-in_default.ensures (sym (head_field a.bytes.now a.at (7 - a.left) good flat (rw field (number_some x))))

pub overflow_sub-bytes : goal.overflow_sub-bytes
overflow_sub-bytes c =
    let s = c.args.bytes.now in
    let field = behind (Ok c.in-Ok.field) s c.in-Ok.ensures.read in
    rw field at (field_behind_lem s (rw field refl) (omega arith))

pub returns-then-bytes-start : goal.returns-then-bytes-start
returns-then-bytes-start c =
    let a = c.args in
    let field = behind (Ok c.in-Ok.field) a.bytes.now c.in-Ok.ensures.read in
    let good : bad_tag (get_or a.bytes.now 0 0) ≡ false = sym c.is_bad.ensures ∙ c.if-is_bad.false in
    let flat : 7 - a.left ≤ 6 = omega (arith, c.if-left-eq0.false) in
    rw c.new-then-bytes-start.ensures (sym (head_long a.bytes.now a.at (7 - a.left) good flat (rw field refl) (rw field c.if-bytes-start.true)))

pub returns : goal.returns
returns c =
    let a = c.args in
    let field = behind (Ok c.in-Ok.field) a.bytes.now c.in-Ok.ensures.read in
    let good : bad_tag (get_or a.bytes.now 0 0) ≡ false = sym c.is_bad.ensures ∙ c.if-is_bad.false in
    let flat : 7 - a.left ≤ 6 = omega (arith, c.if-left-eq0.false) in
    rw field at (sym (head_object a.bytes.now a.at (7 - a.left) good flat (rw field refl) (rw field c.if-bytes-start.false)))
