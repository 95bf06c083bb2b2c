-- What any writing is refused with, whatever is lent: link by link of the chain. The rows' refusal is that of one row's fault. Assumes nothing.
use Prim.Native.Nat.{ℕ, zero, suc, ◌≤◌, ◌<◌}
use native.Mathlib.Nat.{le_of_suc-le-suc, not-suc-le-zero}
use native.Mathlib.Omega.{arith}
use mathlib.Core.Path.{◌≡◌, refl, ◌∙◌}
use mathlib.Core.Bool.{Bool, true, false, cond}
use mathlib.Core.List.{List, [], ◌∷◌, ◌++◌, map}
use lib.ListN.{length, get_or, drop, replicate, length-take, length-drop, length-map, get_or-map}
use lib.Seq.{get_or-take}
use lib.Dec.{eqb}
use borrow.Author.Tests.{eqb-true, eqb-false}
use Rattle.edition.specs.declared.Row.{Row}
use Rattle.edition.specs.declared.Edition.{Edition}
use Rattle.edition.specs.declared.Formed.{Formed}
use Rattle.edition.specs.declared.Formed.TheVariants.{Well, Bad, Unnumbered}
use Rattle.std.specs.Prelude.{Ok, Err}
use Rattle.rules.specs.declared.Fault.TheVariants.{Outside, Breaks}
use Rattle.ground.specs.Lists.{among}
use Rattle.rules.specs.Values.{Verdict, judged}
use Rattle.ground.proofs.Lists.{leading_most}
use Rattle.rules.proofs.Verdicts.{nine_means}
use Rattle.edition.specs.Sets.{permitted}
use Rattle.edition.specs.Rows.{tags, tag_of, no_row, formed_of}
use Rattle.edition.proofs.Rows.{bad_below, bad_rows, number_zero}
use Rattle.card.specs.declared.Object.{Object}
use Rattle.card.specs.declared.Record.{Record}
use Rattle.card.specs.declared.Refusal.{Refusal}
use Rattle.card.specs.Content.{Content, value_of, content_of}
use Rattle.card.specs.Refusals.{refuse, none, gate, or_else, bad_row}
use Rattle.card.specs.Layout.{object_tags}
use Rattle.card.specs.Rules.{Entry, entries, object_rows, Fault, met, missing, length-out, byte-out, value_out, of_verdict, fault, is_zero, first_present}
use Rattle.card.specs.Sums.{sums_refusal}
use Rattle.card.specs.Refusing.{row_refusal, rows_refusal, ends_refusal, template_refusal, number_refusal, content_refusal, edition_refusal, write_refusal}
use Rattle.card.specs.Writing.{record_refusal}
use Rattle.card.proofs.Chains.{or_keeps, gate_after}
use Rattle.demands.specs.Demands.{LentEdition, WritingSays, no-row, of_row, of_length, of-byte, unnumbered}

-- of a link: it refuses nothing, or says what a writing may say
abbrev Says : Edition → Content → Refusal → Type 0
Says e c x = (x.number ≡ 0 → ⊥) → WritingSays e c x

nothing : (e : Edition) (c : Content) → Says e c none
nothing e c = λ some. absurd (some refl)

bad_says : (e : Edition) (c : Content) (f : Formed) → LentEdition e → formed_of e ≡ f → Says e c (bad_row f)
unfolding bad_row among
bad_says e c Well n q = nothing e c
bad_says e c (Bad k) n q = λ some. of_row 2 k refl (omega (arith, bad_below 0 e.rows k (bad_rows e k q)))
bad_says e c Unnumbered n q = λ some. unnumbered (number_zero e q)

-- ---- the rows: the refusal is that of row j
abbrev no_entry : Entry
no_entry = record { tag = 0; row = no_row }

abbrev row_fault : List Entry → List (List ℕ) → ℕ → Refusal
row_fault rs vs j = row_refusal (get_or rs j no_entry) (fault (get_or rs j no_entry).row (get_or vs j []))

record OfRow (rs : List Entry) (vs : List (List ℕ)) (x : Refusal) : Type 0 where
  j : ℕ
  below : j < length rs
  is : x ≡ row_fault rs vs j

past_end : (j : ℕ) → get_or {A = List ℕ} [] j [] ≡ []
past_end zero = refl
past_end (suc j) = refl

rows_of : (rs : List Entry) (vs : List (List ℕ)) → ((rows_refusal rs vs).number ≡ 0 → ⊥) → OfRow rs vs (rows_refusal rs vs)
unfolding rows_refusal or_else
rows_of [] vs some = absurd (some refl)
rows_of (r ∷ rs) [] some = go (rows_of rs []) (eqb (row_refusal r (fault r.row [])).number 0) some
  where
    go : (((rows_refusal rs []).number ≡ 0 → ⊥) → OfRow rs [] (rows_refusal rs [])) → (q : Bool)
        → ((cond q (rows_refusal rs []) (row_refusal r (fault r.row []))).number ≡ 0 → ⊥)
        → OfRow (r ∷ rs) [] (cond q (rows_refusal rs []) (row_refusal r (fault r.row [])))
    go ih true h =
        let f = ih h in
        record { j = suc f.j; below = omega (arith, f.below); is = rw (past_end f.j) at f.is }
    go ih false h = record { j = 0; below = omega arith; is = refl }
rows_of (r ∷ rs) (v ∷ vs) some = go (rows_of rs vs) (eqb (row_refusal r (fault r.row v)).number 0) some
  where
    go : (((rows_refusal rs vs).number ≡ 0 → ⊥) → OfRow rs vs (rows_refusal rs vs)) → (q : Bool)
        → ((cond q (rows_refusal rs vs) (row_refusal r (fault r.row v))).number ≡ 0 → ⊥)
        → OfRow (r ∷ rs) (v ∷ vs) (cond q (rows_refusal rs vs) (row_refusal r (fault r.row v)))
    go ih true h =
        let f = ih h in
        record { j = suc f.j; below = omega (arith, f.below); is = f.is }
    go ih false h = record { j = 0; below = omega arith; is = refl }

entry_is : (ts : List ℕ) (rs : List Row) (j : ℕ) → j < length (entries ts rs) → get_or (entries ts rs) j no_entry ≡ record { tag = get_or ts j 0; row = get_or rs j no_row }
unfolding entries
entry_is [] rs j h = absurd (not-suc-le-zero h)
entry_is (t ∷ ts) [] j h = absurd (not-suc-le-zero h)
entry_is (t ∷ ts) (r ∷ rs) zero h = refl
entry_is (t ∷ ts) (r ∷ rs) (suc j) h = entry_is ts rs j (le_of_suc-le-suc h)

entries_most : (ts : List ℕ) (rs : List Row) → length (entries ts rs) ≤ length ts
unfolding entries
entries_most [] rs = omega arith
entries_most (t ∷ ts) [] = omega arith
entries_most (t ∷ ts) (r ∷ rs) = omega (arith, entries_most ts rs)

-- an index outside the characters is one within the value
byte_within : (r : Row) (v : List ℕ) (i : ℕ) → fault r v ≡ byte-out i → i < length v
unfolding fault
byte_within r [] i e = absurd (no_byte r.required e)
  where
    no_byte : (q : Bool) → cond q missing met ≡ byte-out i → ⊥
    no_byte true h = let z : ◌≡◌ {A = ℕ} 0 1 = cc in omega arith
    no_byte false h = let z : ◌≡◌ {A = ℕ} 0 1 = cc in omega arith
byte_within r (b ∷ v) i e = go (permitted r.lengths (length (b ∷ v))) (judged r.rule (b ∷ v)) refl e
  where
    go : (q : Bool) (d : Verdict) → judged r.rule (b ∷ v) ≡ d → cond q (of_verdict d) length-out ≡ byte-out i → i < length (b ∷ v)
    go false d q h = absurd (let z : ◌≡◌ {A = ℕ} 0 1 = cc in omega arith)
    go true (Ok u) q h = absurd (let z : ◌≡◌ {A = ℕ} 0 1 = cc in omega arith)
    go true (Err (Outside k)) q h = let same : k ≡ i = cc in rw (← same) (nine_means r.rule (b ∷ v) k q).inside
    go true (Err Breaks) q h = absurd (let z : ◌≡◌ {A = ℕ} 0 1 = cc in omega arith)

row_says : (e : Edition) (c : Content) (k : ℕ) (f : Fault) → k < 16 → fault (get_or e.rows k no_row) (get_or c.values k []) ≡ f
    → Says e c (row_refusal (record { tag = tag_of k; row = get_or e.rows k no_row }) f)
unfolding row_refusal among
row_says e c k met l q = nothing e c
row_says e c k missing l q = λ some. of_row 6 k refl (omega arith)
row_says e c k length-out l q = λ some. of_length k l
row_says e c k (byte-out i) l q = λ some. of-byte i k l (byte_within (get_or e.rows k no_row) (get_or c.values k []) i q)
row_says e c k value_out l q = λ some. of_row 10 k refl (omega arith)

rows_says : (e : Edition) (c : Content) → Says e c (rows_refusal (object_rows e) c.values)
unfolding tags
rows_says e c some =
    let o = rows_of (object_rows e) c.values some in
    let l : o.j < 16 = omega (arith, o.below, entries_most object_tags e.rows) in
    let at = entry_is object_tags e.rows o.j o.below in
    rw o.is (rw (at, tag_is o.j l) (row_says e c o.j _ l refl (λ z. some (rw (o.is, at, tag_is o.j l) z))))
  where
    tag_is : (k : ℕ) → k < 16 → get_or object_tags k 0 ≡ tag_of k
    tag_is k l = get_or-take 16 tags k 0 l

-- ---- the others
first_most : (k : ℕ) (vs : List (List ℕ)) → k ≤ 16 → length vs ≡ 16 → first_present k (map length vs) ≤ 16
first_most k vs h n =
    let m = leading_most is_zero (drop k (map length vs)) in
    let d = length-drop k (map length vs) in
    let l = length-map vs length in
    omega arith

content_says : (e : Edition) (c : Content) → length c.values ≡ 16 → Says e c (content_refusal e c)
unfolding content_refusal ends_refusal sums_refusal template_refusal among
content_says e c many =
    or_keeps (Says e c) _ _ (gate_after (Says e c) _ _ _ (λ z some. no-row 3 refl) (λ z. gate_after (Says e c) _ _ _ (λ z some. no-row 3 refl) (λ z. nothing e c)))
    (or_keeps (Says e c) _ _ (rows_says e c)
    (or_keeps (Says e c) _ _
    (gate_after (Says e c) _ _ _ (λ z some. of_row 11 _ refl (omega (arith, first_most 6 c.values (omega arith) many))) (λ z.
    gate_after (Says e c) _ _ _ (λ z some. of_row 11 _ refl (omega (arith, first_most 12 c.values (omega arith) many))) (λ z. nothing e c)))
    (gate_after (Says e c) _ _ _ (λ z some. no-row 4 refl) (λ z. nothing e c))))

pub writing_says : (e : Edition) (number : ℕ) (c : Content) (n : ℕ) → LentEdition e → length c.values ≡ 16 → Says e c (write_refusal e number c n)
unfolding write_refusal number_refusal among
writing_says e number c n l many =
    or_keeps (Says e c) _ _ (gate_after (Says e c) _ _ _ (λ z some. no-row 20 refl) (λ z. nothing e c))
    (or_keeps (Says e c) _ _ (bad_says e c _ l refl)
    (or_keeps (Says e c) _ _ (gate_after (Says e c) _ _ _ (λ z some. no-row 22 refl) (λ z. nothing e c))
    (content_says e c many)))

-- ---- a refusal of number 0 is none
abbrev ZeroNone : Refusal → Type 0
ZeroNone x = x.number ≡ 0 → x ≡ none

bad_zero : (f : Formed) → ZeroNone (bad_row f)
unfolding bad_row
bad_zero Well = λ z. refl
bad_zero (Bad k) = λ z. absurd (omega arith)
bad_zero Unnumbered = λ z. absurd (omega arith)

row_zero : (r : Entry) (f : Fault) → ZeroNone (row_refusal r f)
unfolding row_refusal
row_zero r met = λ z. refl
row_zero r missing = λ z. absurd (omega arith)
row_zero r length-out = λ z. absurd (omega arith)
row_zero r (byte-out i) = λ z. absurd (omega arith)
row_zero r value_out = λ z. absurd (omega arith)

rows_zero : (rs : List Entry) (vs : List (List ℕ)) → ZeroNone (rows_refusal rs vs)
unfolding rows_refusal
rows_zero [] vs = λ z. refl
rows_zero (r ∷ rs) [] = or_keeps ZeroNone _ _ (row_zero r (fault r.row [])) (rows_zero rs [])
rows_zero (r ∷ rs) (v ∷ vs) = or_keeps ZeroNone _ _ (row_zero r (fault r.row v)) (rows_zero rs vs)

some_zero : (number tag : ℕ) → (number ≡ 0 → ⊥) → ZeroNone (refuse number 0 tag)
some_zero number tag h = λ z. absurd (h z)

link : (q : Bool) (x w : Refusal) → ZeroNone x → ZeroNone w → ZeroNone (gate q x w)
link q x w a b = gate_after ZeroNone q x w (λ e. a) (λ e. b)

content_zero : (e : Edition) (c : Content) → ZeroNone (content_refusal e c)
unfolding content_refusal ends_refusal sums_refusal template_refusal
content_zero e c =
    or_keeps ZeroNone _ _ (link _ _ _ (some_zero 3 0 (omega arith)) (link _ _ _ (some_zero 3 0 (omega arith)) (λ z. refl)))
    (or_keeps ZeroNone _ _ (rows_zero (object_rows e) c.values)
    (or_keeps ZeroNone _ _ (link _ _ _ (some_zero 11 _ (omega arith)) (link _ _ _ (some_zero 11 _ (omega arith)) (λ z. refl)))
    (link _ _ _ (some_zero 4 0 (omega arith)) (λ z. refl))))

pub edition_zero : (e : Edition) (c : Content) → (edition_refusal e c).number ≡ 0 → edition_refusal e c ≡ none
unfolding edition_refusal
edition_zero e c = or_keeps ZeroNone _ _ (bad_zero _) (content_zero e c)

pub zero_is_none : (e : Edition) (number : ℕ) (c : Content) (n : ℕ) → (write_refusal e number c n).number ≡ 0 → write_refusal e number c n ≡ none
unfolding write_refusal number_refusal
zero_is_none e number c n =
    or_keeps ZeroNone _ _ (link _ _ _ (some_zero 20 0 (omega arith)) (λ z. refl))
    (or_keeps ZeroNone _ _ (bad_zero _)
    (or_keeps ZeroNone _ _ (link _ _ _ (some_zero 22 0 (omega arith)) (λ z. refl))
    (content_zero e c)))

-- ---- an index fits a byte where the lengths of the record are bytes
claimed : (o : Object) → o.length ≤ 255 → length (value_of o) ≤ 255
unfolding value_of
claimed o h = omega (arith, length-take o.length (o.bytes ++ replicate 227 0))

-- the place of any refusal of a writing is below 256, the lengths of a record being bytes
pub written_place : (e : Edition) (c : Content) (x : Refusal) → ((k : ℕ) → length (get_or c.values k []) ≤ 255) → WritingSays e c x → x.place < 256
written_place e c x h (no-row number a) = omega arith
written_place e c x h (of_row number k a l) = omega arith
written_place e c x h (of_length k l) = omega arith
written_place e c x h (of-byte i k l b) = omega (arith, h k)
written_place e c x h (unnumbered z) = omega arith

abbrev no_object : Object
no_object = record { length = 0; bytes = [] }

pub every_written_place : (e : Edition) (r : Record) (b : List ℕ) → LentEdition e → length r.objects ≡ 16 → ((k : ℕ) → (get_or r.objects k no_object).length ≤ 255) → (record_refusal e r b).place < 256
unfolding content_of value_of
every_written_place e r b n many h = go (eqb (record_refusal e r b).number 0) refl
  where
    short : (k : ℕ) → length (get_or (content_of r).values k []) ≤ 255
    short k = rw (get_or-map value_of r.objects k no_object) (claimed (get_or r.objects k no_object) (h k))

    go : (q : Bool) → eqb (record_refusal e r b).number 0 ≡ q → (record_refusal e r b).place < 256
    go true z = rw (zero_is_none e r.number (content_of r) (length b) (eqb-true _ _ z)) (omega arith)
    go false z = written_place e (content_of r) _ short (writing_says e r.number (content_of r) (length b) n (length-map r.objects value_of ∙ many) (eqb-false _ _ z))
