-- What passes the test is nested: a rule is within another by what they ask of characters and of sense. Assumes nothing.
use Prim.Native.Nat.{ℕ, ◌≤◌}
use native.Mathlib.Omega.{arith}
use mathlib.Core.Path.{◌≡◌, refl}
use mathlib.Core.Bool.{Bool, true, false, not, ◌&&◌, ◌||◌}
use mathlib.Core.List.{List, [], ◌∷◌}
use lib.ListN.{length, get_or}
use lib.Dec.{eqb}
use Rattle.rules.specs.declared.Rule.{Rule}
use Rattle.rules.specs.declared.Rule.TheVariants.{Digits, Text, Lead, Code, Birth, Expiry, Raw, NotD}
use Rattle.std.specs.Prelude.{Ok}
use Rattle.ground.specs.Lists.{leading}
use Rattle.edition.specs.Sets.{permitted}
use Rattle.rules.specs.Values.{is_digit, is_text, by_class, takes, is_lead, is_code, is_birth, is_expiry, is_not_d, two, by_sense, holds, judged}
use Rattle.ground.proofs.Lists.{true_false, and_left, and_right, leading_wider}
use Rattle.rules.proofs.Verdicts.{taken_means, means_taken, not_d_means}
use Rattle.nesting.specs.Decision.{number_of, numbers_in, rule_in}

-- ---- tests of tests
abbrev implies : Bool → Bool → Bool
implies a b = not a || b

implied : (a b : Bool) → implies a b ≡ true → a ≡ true → b ≡ true
implied true b h t = h
implied false b h t = absurd (true_false t refl)

abbrev every : (Bool → Bool) → Bool
every f = f true && f false

every_at : (f : Bool → Bool) (b : Bool) → every f ≡ true → f b ≡ true
every_at f true h = and_left (f true) (f false) h
every_at f false h = and_right (f true) (f false) h

-- ---- rules: each of the inner's characters is one of the outer's, where every digit is text; what the outer asks beyond them follows from what the inner asks
abbrev characters : Rule → Rule → Bool → Bool → Bool
characters i o text digit = implies (implies digit text) (implies (by_class i digit text true) (by_class o digit text true))

unfoldable characters_test : Rule → Rule → Bool
characters_test i o = every (λ text. every (characters i o text))

abbrev sense : Rule → Rule → Bool → Bool → Bool → Bool → Bool → Bool
sense i o lead code birth expiry notD = implies (by_sense i lead code birth expiry notD) (by_sense o lead code birth expiry notD)

unfoldable sense_test : Rule → Rule → Bool
sense_test i o = every (λ lead. every (λ code. every (λ birth. every (λ expiry. every (sense i o lead code birth expiry)))))

abbrev wider : Rule → Rule → Bool
wider i o = characters_test i o && sense_test i o

digit_text : (b : ℕ) → implies (is_digit b) (is_text b) ≡ true
unfolding is_text
digit_text b = go (is_digit b) refl
  where
    go : (q : Bool) → is_digit b ≡ q → implies q (is_text b) ≡ true
    go true e = rw e
    go false e = refl

wider_takes : (i o : Rule) (b : ℕ) → characters_test i o ≡ true → takes i b ≡ true → takes o b ≡ true
unfolding characters_test
wider_takes i o b h =
    let at : characters i o (is_text b) (is_digit b) ≡ true =
    every_at (characters i o (is_text b)) (is_digit b) (every_at (λ t. every (characters i o t)) (is_text b) h) in
    implied (takes i b) (takes o b) (implied (implies (is_digit b) (is_text b)) (implies (takes i b) (takes o b)) at (digit_text b))

sense_at : (i o : Rule) (a b c d e : Bool) → sense_test i o ≡ true → by_sense i a b c d e ≡ true → by_sense o a b c d e ≡ true
unfolding sense_test
sense_at i o a b c d e h =
    implied (by_sense i a b c d e) (by_sense o a b c d e)
    (every_at (sense i o a b c d) e
    (every_at (λ w. every (sense i o a b c w)) d
    (every_at (λ z. every (λ w. every (sense i o a b z w))) c
    (every_at (λ y. every (λ z. every (λ w. every (sense i o a y z w)))) b
    (every_at (λ x. every (λ y. every (λ z. every (λ w. every (sense i o x y z w))))) a h)))))

wider_holds : (i o : Rule) (v : List ℕ) → sense_test i o ≡ true → holds i v ≡ true → holds o v ≡ true
unfolding holds
wider_holds i o v =
    sense_at i o (is_lead (get_or v 0 0)) (is_code (get_or v 0 0))
    (is_birth (length v) (two (get_or v 0 0) (get_or v 1 0)) (two (get_or v 2 0) (get_or v 3 0)))
    (is_expiry (length v) (two (get_or v 0 0) (get_or v 1 0)))
    (is_not_d (length v) (get_or v 0 0))

wider_judged : (i o : Rule) (v : List ℕ) → wider i o ≡ true → judged i v ≡ Ok tt → judged o v ≡ Ok tt
wider_judged i o v h t =
    let m = taken_means i v t in
    means_taken o v
    (leading_wider (takes i) (takes o) v (λ b. wider_takes i o b (and_left (characters_test i o) (sense_test i o) h)) m.0)
    (wider_holds i o v (and_right (characters_test i o) (sense_test i o) h) m.1)

-- ---- the test of the numbers, for every two rules
abbrev up_to_code : (Rule → Bool) → Bool
up_to_code f = f Digits && f Text && f Lead && f Code

abbrev from_birth : (Rule → Bool) → Bool
from_birth f = f Birth && f Expiry && f Raw && f NotD

abbrev for_rules : (Rule → Bool) → Bool
for_rules f = up_to_code f && from_birth f

for_at : (f : Rule → Bool) → for_rules f ≡ true → (r : Rule) → f r ≡ true
for_at f h r = go r (and_left (up_to_code f) (from_birth f) h) (and_right (up_to_code f) (from_birth f) h)
  where
    go : (r : Rule) → up_to_code f ≡ true → from_birth f ≡ true → f r ≡ true
    go Digits h k = and_left (f Digits) (f Text) (and_left (f Digits && f Text) (f Lead) (and_left (f Digits && f Text && f Lead) (f Code) h))
    go Text h k = and_right (f Digits) (f Text) (and_left (f Digits && f Text) (f Lead) (and_left (f Digits && f Text && f Lead) (f Code) h))
    go Lead h k = and_right (f Digits && f Text) (f Lead) (and_left (f Digits && f Text && f Lead) (f Code) h)
    go Code h k = and_right (f Digits && f Text && f Lead) (f Code) h
    go Birth h k = and_left (f Birth) (f Expiry) (and_left (f Birth && f Expiry) (f Raw) (and_left (f Birth && f Expiry && f Raw) (f NotD) k))
    go Expiry h k = and_right (f Birth) (f Expiry) (and_left (f Birth && f Expiry) (f Raw) (and_left (f Birth && f Expiry && f Raw) (f NotD) k))
    go Raw h k = and_right (f Birth && f Expiry) (f Raw) (and_left (f Birth && f Expiry && f Raw) (f NotD) k)
    go NotD h k = and_right (f Birth && f Expiry && f Raw) (f NotD) k

-- whatever the lengths, within a rule other than the one that leaves D out
abbrev is_left : Rule → Bool
is_left o = eqb (number_of o) 7

abbrev in_wider : Bool → Rule → Rule → Bool
in_wider single i o = implies (numbers_in single (number_of i) (number_of o)) (is_left o || wider i o)

rules_wider : (single : Bool) (i o : Rule) → is_left o ≡ false → numbers_in single (number_of i) (number_of o) ≡ true → wider i o ≡ true
unfolding numbers_in characters_test sense_test
rules_wider single i o n h =
    let all : every (λ s. for_rules (λ r. for_rules (in_wider s r))) ≡ true = refl in
    let one : in_wider single i o ≡ true =
    for_at (in_wider single i) (for_at (λ r. for_rules (in_wider single r)) (every_at (λ s. for_rules (λ r. for_rules (in_wider s r))) single all) i) o in
    let both : (is_left o || wider i o) ≡ true = implied (numbers_in single (number_of i) (number_of o)) (is_left o || wider i o) one h in
    rw n at both

-- ---- within the rule that leaves D out: what has digits alone is never D, and text of other lengths than 1 neither
text_by : (i : Rule) (v : List ℕ) → wider i Text ≡ true → judged i v ≡ Ok tt → judged Text v ≡ Ok tt
text_by i v = wider_judged i Text v

left_by : (i : Rule) (v : List ℕ) → wider i Text ≡ true → (judged i (0x44 ∷ []) ≡ Ok tt → ⊥) → judged i v ≡ Ok tt → judged NotD v ≡ Ok tt
left_by i v w d t = (not_d_means v).1 (text_by i v w t, λ e. d (rw e at t))

long_by : (s : ℕ) (i : Rule) (v : List ℕ) → wider i Text ≡ true → permitted s 1 ≡ false → permitted s (length v) ≡ true → judged i v ≡ Ok tt → judged NotD v ≡ Ok tt
long_by s i v w none p t = (not_d_means v).1 (text_by i v w t, λ e. true_false (rw e at p) none)

-- a value that is outside the characters is not taken
outside_not : (i : Rule) → takes i 0x44 ≡ false → judged i (0x44 ∷ []) ≡ Ok tt → ⊥
unfolding leading
outside_not i f e =
    let m : 1 ≤ leading (takes i) (0x44 ∷ []) = (taken_means i (0x44 ∷ []) e).0 in
    absurd (omega (arith, rw f at m))

-- the length 1 is not permitted, where the test asks for it
unless : (b : Bool) → (not b && true) ≡ true → b ≡ false
unless true h = absurd (true_false h refl)
unless false h = refl

left_sound : (s : ℕ) (i : Rule) → rule_in s i NotD ≡ true → (v : List ℕ) → permitted s (length v) ≡ true → judged i v ≡ Ok tt → judged NotD v ≡ Ok tt
unfolding numbers_in characters_test sense_test
left_sound s Digits h v p t = left_by Digits v refl (outside_not Digits refl) t
left_sound s Text h v p t = long_by s Text v refl (unless (permitted s 1) h) p t
left_sound s Lead h v p t = left_by Lead v refl (outside_not Lead refl) t
left_sound s Code h v p t = long_by s Code v refl (unless (permitted s 1) h) p t
left_sound s Birth h v p t = left_by Birth v refl (outside_not Birth refl) t
left_sound s Expiry h v p t = left_by Expiry v refl (outside_not Expiry refl) t
left_sound s Raw h v p t = absurd (true_false (and_right (not (permitted s 1)) false h) refl)
left_sound s NotD h v p t = t

pub rule_sound : (s : ℕ) (i o : Rule) → rule_in s i o ≡ true → (v : List ℕ) → permitted s (length v) ≡ true → judged i v ≡ Ok tt → judged o v ≡ Ok tt
rule_sound s i Digits h v p t = wider_judged i Digits v (rules_wider (permitted s 1) i Digits refl h) t
rule_sound s i Text h v p t = wider_judged i Text v (rules_wider (permitted s 1) i Text refl h) t
rule_sound s i Lead h v p t = wider_judged i Lead v (rules_wider (permitted s 1) i Lead refl h) t
rule_sound s i Code h v p t = wider_judged i Code v (rules_wider (permitted s 1) i Code refl h) t
rule_sound s i Birth h v p t = wider_judged i Birth v (rules_wider (permitted s 1) i Birth refl h) t
rule_sound s i Expiry h v p t = wider_judged i Expiry v (rules_wider (permitted s 1) i Expiry refl h) t
rule_sound s i Raw h v p t = wider_judged i Raw v (rules_wider (permitted s 1) i Raw refl h) t
rule_sound s i NotD h v p t = left_sound s i h v p t
