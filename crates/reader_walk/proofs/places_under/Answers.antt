-- `reader_walk::places_under` meets its contract: what is open before the objects is refused first; else the frame is right, and the table is that of its template. Assumes nothing.
use mathlib.Core.Path.{◌≡◌, ap, ◌∙◌}
use Prim.Native.Nat.{ℕ, ◌-◌, ◌≤◌}
use native.Mathlib.Omega.{arith}
use lib.ListN.{length, take, drop}
use Rattle.edition.specs.Rows.{formed_of}
use Rattle.card.specs.declared.Refusal.{Refusal}
use Rattle.card.specs.declared.Places.{Places}
use Rattle.card.specs.Refusals.{bad_row}
use Rattle.card.specs.Frame.{start_of, end_of}
use Rattle.card.specs.Places.{no_places, places}
use Rattle.frame.proofs.Extents.{Opened, front_opened, front_refused, open_right, framed, ordered}
use Rattle.objects.specs.Objects.{listed}
use Rattle.reader_steps.specs.Steps.{settled, places_by}
use Rattle.reader_steps.proofs.Tables.{by_refused, by_passed, places_known}
use Rattle.reader_walk.proofs.places_under.Goals as goal

pub returns-then-refusal-ne0 : goal.returns-then-refusal-ne0
returns-then-refusal-ne0 c =
    let returns_of : c.refused.result ≡ places_by c.args.known c.args.edition c.args.image.now =
    let s = c.args.image.now in
    let r = front_refused c.args.known s _ c.check_front-front.ensures c.if-refusal-ne0.true in
    c.refused.ensures ∙ ap no_places r ∙ by_refused c.args.known c.args.edition s (λ z. c.if-refusal-ne0.true (ap (λ (x : Refusal). x.number) r ∙ z)) in
    let seventeen : length c.args.edition.rows ≡ 17 = omega arith in
    let own : (r : Places) → r ≡ places_by c.args.known c.args.edition c.args.image.now → c.args.known ≡ bad_row (formed_of c.args.edition) → r ≡ places c.args.edition c.args.image.now =
    λ r e known. e ∙ ap (λ (x : Refusal). places_by x c.args.edition c.args.image.now) known ∙ places_known c.args.edition c.args.image.now (seventeen) in
    record { value = returns_of; value_2 = own _ (returns_of) }

pub slice_bounds-list_objects-count : goal.slice_bounds-list_objects-count
slice_bounds-list_objects-count c =
    let opened : Opened c.args.known c.args.image.now c.check_front-front.result =
    front_opened _ _ _ c.check_front-front.ensures c.if-refusal-ne0.false in
    let spans : (c.check_front-front.result.start ≤ c.check_front-front.result.end) × (c.check_front-front.result.end ≤ length c.args.image.now) =
    let o = opened in
    let s = c.args.image.now in
    let r = open_right _ s o.passed in
    let f = framed s r.0 r.1 in
    (rw (o.start, o.end) (ordered s r.0 r.1), rw o.end (omega (arith, f.most, f.long))) in
    (spans).0

pub slice_bounds-list_objects-start : goal.slice_bounds-list_objects-start
slice_bounds-list_objects-start c =
    let opened : Opened c.args.known c.args.image.now c.check_front-front.result =
    front_opened _ _ _ c.check_front-front.ensures c.if-refusal-ne0.false in
    let spans : (c.check_front-front.result.start ≤ c.check_front-front.result.end) × (c.check_front-front.result.end ≤ length c.args.image.now) =
    let o = opened in
    let s = c.args.image.now in
    let r = open_right _ s o.passed in
    let f = framed s r.0 r.1 in
    (rw (o.start, o.end) (ordered s r.0 r.1), rw o.end (omega (arith, f.most, f.long))) in
    (spans).0

pub slice_bounds-list_objects-end : goal.slice_bounds-list_objects-end
slice_bounds-list_objects-end c =
    let opened : Opened c.args.known c.args.image.now c.check_front-front.result =
    front_opened _ _ _ c.check_front-front.ensures c.if-refusal-ne0.false in
    let spans : (c.check_front-front.result.start ≤ c.check_front-front.result.end) × (c.check_front-front.result.end ≤ length c.args.image.now) =
    let o = opened in
    let s = c.args.image.now in
    let r = open_right _ s o.passed in
    let f = framed s r.0 r.1 in
    (rw (o.start, o.end) (ordered s r.0 r.1), rw o.end (omega (arith, f.most, f.long))) in
    (spans).1

pub settle-requires : goal.settle-requires
settle-requires c =
    let opened : Opened c.args.known c.args.image.now c.check_front-front.result =
    front_opened _ _ _ c.check_front-front.ensures c.if-refusal-ne0.false in
    let o = opened in
    let s = c.args.image.now in
    let r = open_right _ s o.passed in
    rw o.end (framed s r.0 r.1)

pub returns : goal.returns
returns c =
    let seventeen : length c.args.edition.rows ≡ 17 = omega arith in
    let own : (r : Places) → r ≡ places_by c.args.known c.args.edition c.args.image.now → c.args.known ≡ bad_row (formed_of c.args.edition) → r ≡ places c.args.edition c.args.image.now =
    λ r e known. e ∙ ap (λ (x : Refusal). places_by x c.args.edition c.args.image.now) known ∙ places_known c.args.edition c.args.image.now (seventeen) in
    let opened : Opened c.args.known c.args.image.now c.check_front-front.result =
    front_opened _ _ _ c.check_front-front.ensures c.if-refusal-ne0.false in
    let settled-of : c.settle.result ≡ places_by c.args.known c.args.edition c.args.image.now =
    let o = opened in
    let e = c.args.edition in
    let s = c.args.image.now in
    let f = c.check_front-front.result in
    let table : c.list_objects-table.result ≡ listed (take (end_of s - start_of s) (drop (start_of s) s)) e.rows (start_of s) =
    c.list_objects-table.ensures
    ∙ ap (λ (n : ℕ). listed (take (f.end - n) (drop n s)) e.rows n) o.start
    ∙ ap (λ (n : ℕ). listed (take (n - start_of s) (drop (start_of s) s)) e.rows (start_of s)) o.end in
    c.settle.ensures ∙ ap (settled s) table ∙ by_passed c.args.known e s o.passed in
    record { value = settled-of; value_2 = own _ (settled-of) }
