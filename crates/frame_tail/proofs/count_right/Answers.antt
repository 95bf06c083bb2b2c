-- `frame_tail::count_right` meets its contract: each part is passed or holds the first difference. Assumes nothing.
use native.Mathlib.Omega.{arith}
use Rattle.frame.proofs.Tails.{Placed, sizes, lead_stops, spaces_stop, ends_differ, ends_same}
use borrow.Author.Rules.{rules}
use Rattle.frame_tail.proofs.count_right.Goals as goal

pub lead_same-lead-requires : goal.lead_same-lead-requires
lead_same-lead-requires c =
    let placed : Placed c.args.part.now c.count_spaces-spaces.result c.lead_size-start.result =
    record {
      least = omega (arith, c);
      most = omega (arith, c);
      n_is = c.count_spaces-spaces.ensures;
      start_is = c.lead_size-start.ensures;
    } in
    (search rules, (sizes _ _ _ (placed)).small)

pub returns-then-lead-start : goal.returns-then-lead-start
returns-then-lead-start c =
    let placed : Placed c.args.part.now c.count_spaces-spaces.result c.lead_size-start.result =
    record {
      least = omega (arith, c);
      most = omega (arith, c);
      n_is = c.count_spaces-spaces.ensures;
      start_is = c.lead_size-start.ensures;
    } in
    lead_stops _ _ _ (placed) c.lead_same-lead.ensures c.if-lead-start.true

pub overflow_add-stop : goal.overflow_add-stop
overflow_add-stop c =
    let placed : Placed c.args.part.now c.count_spaces-spaces.result c.lead_size-start.result =
    record {
      least = omega (arith, c);
      most = omega (arith, c);
      n_is = c.count_spaces-spaces.ensures;
      start_is = c.lead_size-start.ensures;
    } in
    let z = sizes _ _ _ (placed) in omega (arith, z.some)

pub slice_bounds-count_run-end : goal.slice_bounds-count_run-end
slice_bounds-count_run-end c =
    let placed : Placed c.args.part.now c.count_spaces-spaces.result c.lead_size-start.result =
    record {
      least = omega (arith, c);
      most = omega (arith, c);
      n_is = c.count_spaces-spaces.ensures;
      start_is = c.lead_size-start.ensures;
    } in
    let z = sizes _ _ _ (placed) in omega (arith, z.some)

pub overflow_add-result : goal.overflow_add-result
overflow_add-result c =
    let placed : Placed c.args.part.now c.count_spaces-spaces.result c.lead_size-start.result =
    record {
      least = omega (arith, c);
      most = omega (arith, c);
      n_is = c.count_spaces-spaces.ensures;
      start_is = c.lead_size-start.ensures;
    } in
    let z = sizes _ _ _ (placed) in omega (arith, z.some)

pub returns-then-run-spaces : goal.returns-then-run-spaces
returns-then-run-spaces c =
    let placed : Placed c.args.part.now c.count_spaces-spaces.result c.lead_size-start.result =
    record {
      least = omega (arith, c);
      most = omega (arith, c);
      n_is = c.count_spaces-spaces.ensures;
      start_is = c.lead_size-start.ensures;
    } in
    spaces_stop _ _ _ (placed) c.lead_same-lead.ensures c.if-lead-start.false c.count_run-run.ensures c.if-run-spaces.true

pub bounds-part-stop : goal.bounds-part-stop
bounds-part-stop c =
    let placed : Placed c.args.part.now c.count_spaces-spaces.result c.lead_size-start.result =
    record {
      least = omega (arith, c);
      most = omega (arith, c);
      n_is = c.count_spaces-spaces.ensures;
      start_is = c.lead_size-start.ensures;
    } in
    let z = sizes _ _ _ (placed) in z.some

pub returns-then-part-stop : goal.returns-then-part-stop
returns-then-part-stop c =
    let placed : Placed c.args.part.now c.count_spaces-spaces.result c.lead_size-start.result =
    record {
      least = omega (arith, c);
      most = omega (arith, c);
      n_is = c.count_spaces-spaces.ensures;
      start_is = c.lead_size-start.ensures;
    } in
    ends_differ _ _ _ (placed) c.lead_same-lead.ensures c.if-lead-start.false c.count_run-run.ensures c.if-run-spaces.false c.if-part-stop.true

pub returns : goal.returns
returns c =
    let placed : Placed c.args.part.now c.count_spaces-spaces.result c.lead_size-start.result =
    record {
      least = omega (arith, c);
      most = omega (arith, c);
      n_is = c.count_spaces-spaces.ensures;
      start_is = c.lead_size-start.ensures;
    } in
    ends_same _ _ _ (placed) c.lead_same-lead.ensures c.if-lead-start.false c.count_run-run.ensures c.if-run-spaces.false c.if-part-stop.false
