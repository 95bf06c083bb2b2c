-- `fill` meets its contract: eight stores fill eight places. Assumes nothing.
use mathlib.Core.Path.{◌≡◌, refl}
use mathlib.Core.List.{List, [], ◌∷◌}
use Prim.Native.Nat.{ℕ}
use native.Mathlib.Omega.{arith}
use lib.ListN.{length, set, length-set}
use mir.Syntax.{w32}
use mir.Val.{SFits}
use mir.Facts.{to_z-of_z}
use Rattle.fresher.specs.Bytes.{fresher_bytes}
use borrow.Author.Rules.{rules}
use Rattle.fresher_bytes.proofs.fill.Goals as goal

eight : (room : List ℕ) (a b c d e f g h : ℕ) → length room ≡ 8
    → set (set (set (set (set (set (set (set room 0 a) 1 b) 2 c) 3 d) 4 e) 5 f) 6 g) 7 h ≡ a ∷ b ∷ c ∷ d ∷ e ∷ f ∷ g ∷ h ∷ []
eight [] a b c d e f g h n = absurd (omega arith)
eight (_ ∷ []) a b c d e f g h n = absurd (omega arith)
eight (_ ∷ _ ∷ []) a b c d e f g h n = absurd (omega arith)
eight (_ ∷ _ ∷ _ ∷ []) a b c d e f g h n = absurd (omega arith)
eight (_ ∷ _ ∷ _ ∷ _ ∷ []) a b c d e f g h n = absurd (omega arith)
eight (_ ∷ _ ∷ _ ∷ _ ∷ _ ∷ []) a b c d e f g h n = absurd (omega arith)
eight (_ ∷ _ ∷ _ ∷ _ ∷ _ ∷ _ ∷ []) a b c d e f g h n = absurd (omega arith)
eight (_ ∷ _ ∷ _ ∷ _ ∷ _ ∷ _ ∷ _ ∷ []) a b c d e f g h n = absurd (omega arith)
eight (_ ∷ _ ∷ _ ∷ _ ∷ _ ∷ _ ∷ _ ∷ _ ∷ []) a b c d e f g h n = refl
eight (_ ∷ _ ∷ _ ∷ _ ∷ _ ∷ _ ∷ _ ∷ _ ∷ _ ∷ room) a b c d e f g h n = absurd (omega arith)

pub bounds-room-4 : goal.bounds-room-4
bounds-room-4 c = simp length-set (omega arith)

pub bounds-room-5 : goal.bounds-room-5
bounds-room-5 c = simp length-set (omega arith)

pub bounds-room-6 : goal.bounds-room-6
bounds-room-6 c = simp length-set (omega arith)

pub bounds-room-7 : goal.bounds-room-7
bounds-room-7 c = simp length-set (omega arith)

pub returns : goal.returns
unfolding fresher_bytes
returns c =
    let fitting : SFits w32 c.args.fresher.months =
    search rules in
    rw (c.card_of.ensures, c.bits-months.ensures, to_z-of_z {w = w32} {z = c.args.fresher.months} (fitting)) (eight c.args.room.now _ _ _ _ _ _ _ _ c.requires)
