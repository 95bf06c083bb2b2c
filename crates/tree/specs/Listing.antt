-- The listing of all objects of some bytes.
use Rattle.std.specs.Prelude.{ℕ, zero, suc, ◌+◌, cond, List, [], ◌∷◌, ◌++◌, length, drop, take, Result, Ok, Err}
use Rattle.tree.specs.declared.Head.{Head}
use Rattle.tree.specs.declared.Refusal.{Refusal}
use Rattle.tree.specs.Heads.{is_list, head_at}

-- an object: its tag, its depth, the tag's address and the value's length
pub data Entry : Type 0 where
  entry : ℕ → ℕ → ℕ → ℕ → Entry

-- what some bytes give: their objects and how many bytes these take; or a number and a place
pub data Out : Type 0 where
  took : List Entry → ℕ → Out
  refused : ℕ → ℕ → Out

-- an object is there: go on with its tag, where its value starts, and the value's length
abbrev pub on_head : Result Head Refusal → (ℕ → ℕ → ℕ → Out) → Out
on_head (Ok h) k = k h.tag h.start h.length
on_head (Err e) k = refused e.number e.place

-- an object e of u bytes, before the objects in its value
abbrev pub above : Entry → ℕ → Out → Out
above e u (took es m) = took (e ∷ es) u
above e u (refused x p) = refused x p

-- es, which take u bytes, before what follows them
abbrev pub before : List Entry → ℕ → Out → Out
before es u (took fs m) = took (es ++ fs) (u + m)
before es u (refused x p) = refused x p

abbrev pub and_then : Out → (ℕ → Out) → Out
and_then (took es u) k = before es u (k u)
and_then (refused x p) k = refused x p

-- one object with all that it holds; `inner` lists the objects of its value
abbrev pub one : (ℕ → ℕ → List ℕ → Out) → ℕ → ℕ → List ℕ → Out
one inner d at s =
    on_head (head_at s at d) (λ t start n.
    above (entry t d at n) (start + n) (cond (is_list t) (inner (suc d) (at + start) (take n (drop start s))) (took [] 0)))

-- the objects of s, one after the other; f counts down, and is at least the number of bytes
unfoldable pub run : ℕ → ℕ → ℕ → List ℕ → Out
run zero d at s = took [] 0
run (suc f) d at [] = took [] 0
run (suc f) d at (b ∷ r) = and_then (one (λ e a l. run f e a l) d at (b ∷ r)) (λ u. run f d (at + u) (drop u (b ∷ r)))

-- the objects of s, which stands at the address `at`, d deep; and the one that s begins with
unfoldable pub listing : ℕ → ℕ → List ℕ → Out
listing d at s = run (length s) d at s

unfoldable pub object : ℕ → ℕ → List ℕ → Out
object d at s = one (λ e a l. listing e a l) d at s
