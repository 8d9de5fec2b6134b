-- Each turn serves one more link, and the last none.
use Rattle.std.proofs.Common.{◌≡◌, Ok, ap, refl, ◌∙◌, arith}
use Rattle.vmv_serve.specs.Serves.{Seen, Stored}
use Rattle.vmv_serve.proofs.Serving.{none_of, same_of, more_of}
use Rattle.vmv_serve.proofs.turns.serve_links.Goals as goal

pub loop-taken-init : goal.loop-taken-init
loop-taken-init g c =
    let judge = c.args.judge.now in
    let st : g.row.K.Denot → Stored = λ keeper. record { rows = g.K.Keeper.told keeper; faults = g.K.Keeper.fault_count keeper } in
    let seen : g.row.D-Link.Denot → Seen = λ link. record { input = g.D.Link.Link.input link; written = g.D.Link.Link.written link; faults = g.D.Link.Link.fault_count link } in (
      omega arith,
      omega arith,
      omega arith,
      refl,
      refl,
      λ _. refl,
      none_of (g.J.Judge.inspected judge) (g.J.Judge.compared judge) ((keeper : g.row.K.Denot) → g.K.Keeper.fault_count keeper ≡ 0) seen (st c.args.desk.now) (g.D.Door.told c.args.door.now),
    )

pub loop-taken-preserved : goal.loop-taken-preserved
loop-taken-preserved g c =
    let judge = c.args.judge.now in
    let st : g.row.K.Denot → Stored = λ keeper. record { rows = g.K.Keeper.told keeper; faults = g.K.Keeper.fault_count keeper } in
    let seen : g.row.D-Link.Denot → Seen = λ link. record { input = g.D.Link.Link.input link; written = g.D.Link.Link.written link; faults = g.D.Link.Link.fault_count link } in
    let v = c.loop-taken.invariant in
    let is = c.in-Ok-true.field-0-test in
    let e = c.in-Ok-true.ensures in
    let given = rw is at e.given in
    let back = rw is at e.given_back in (
      omega arith,
      omega (arith, given, v.1),
      omega (arith, back, v.2),
      e.stands ∙ v.3,
      e.listens ∙ v.4,
      λ none. absurd (omega (arith, none)),
      more_of (g.J.Judge.inspected judge) (g.J.Judge.compared judge) ((keeper : g.row.K.Denot) → g.K.Keeper.fault_count keeper ≡ 0) seen c.loop-taken.taken
          (st c.args.desk.now) (st c.loop-taken.desk) (st c.serve_next.new.desk) (g.D.Door.told c.args.door.now) (g.D.Door.told c.loop-taken.door) (g.D.Door.told c.serve_next.new.door)
          v.6 (e.served (ap Ok is)),
    )

pub returns-in-Ok-false-clause-served : goal.returns-in-Ok-false-clause-served
returns-in-Ok-false-clause-served g c =
    let judge = c.args.judge.now in
    let st : g.row.K.Denot → Stored = λ keeper. record { rows = g.K.Keeper.told keeper; faults = g.K.Keeper.fault_count keeper } in
    let seen : g.row.D-Link.Denot → Seen = λ link. record { input = g.D.Link.Link.input link; written = g.D.Link.Link.written link; faults = g.D.Link.Link.fault_count link } in
    let same = c.in-Ok-false.ensures.ended (ap Ok c.in-Ok-false.field-0-test) in
    same_of (g.J.Judge.inspected judge) (g.J.Judge.compared judge) ((keeper : g.row.K.Denot) → g.K.Keeper.fault_count keeper ≡ 0) seen c.loop-taken.taken
    (st c.args.desk.now) (st c.loop-taken.desk) (st c.serve_next.new.desk) (g.D.Door.told c.args.door.now) (g.D.Door.told c.loop-taken.door) (g.D.Door.told c.serve_next.new.door)
    same.1 (ap st same.2) c.loop-taken.invariant.6

pub returns-in-Err-clause-served : goal.returns-in-Err-clause-served
returns-in-Err-clause-served g c =
    let judge = c.args.judge.now in
    let st : g.row.K.Denot → Stored = λ keeper. record { rows = g.K.Keeper.told keeper; faults = g.K.Keeper.fault_count keeper } in
    let seen : g.row.D-Link.Denot → Seen = λ link. record { input = g.D.Link.Link.input link; written = g.D.Link.Link.written link; faults = g.D.Link.Link.fault_count link } in
    let same = c.in-Err.ensures.refused in
    same_of (g.J.Judge.inspected judge) (g.J.Judge.compared judge) ((keeper : g.row.K.Denot) → g.K.Keeper.fault_count keeper ≡ 0) seen c.loop-taken.taken
    (st c.args.desk.now) (st c.loop-taken.desk) (st c.serve_next.new.desk) (g.D.Door.told c.args.door.now) (g.D.Door.told c.loop-taken.door) (g.D.Door.told c.serve_next.new.door)
    same.2 (ap st same.3) c.loop-taken.invariant.6
