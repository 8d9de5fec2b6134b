-- The next link is left as one exchange leaves it.
use Rattle.std.proofs.Common.{◌≡◌, Option, Ok, subst}
use Rattle.vmv_edge.specs.declared.sink.Failed.{Failed}
use Rattle.vmv_door.specs.Links.{IsGiven}
use Rattle.vmv_serve.specs.Serves.{Seen, Stored}
use Rattle.vmv_serve.proofs.Serving.{leaves_of, next_of}
use Rattle.vmv_serve.proofs.turns.serve_next.Goals as goal

pub returns-clause-served : goal.returns-clause-served
returns-clause-served g c is =
    let judge = c.args.judge.now in
    let I = g.J.Judge.inspected judge in
    let C = g.J.Judge.compared judge in
    let st : g.row.K.Denot → Stored = λ keeper. record { rows = g.K.Keeper.told keeper; faults = g.K.Keeper.fault_count keeper } in
    let seen : g.row.D-Link.Denot → Seen = λ link. record { input = g.D.Link.Link.input link; written = g.D.Link.Link.written link; faults = g.D.Link.Link.fault_count link } in
    let e = c.serve_one.ensures in
    let old = c.args.desk.now in
    let new = c.serve_one.new.desk in
    let start = g.D.Door.told c.args.door.now in
    let mid = g.D.Door.told c.next.new.self in
    let leaves = leaves_of I C st old new (seen c.in-Some.link) (seen c.serve_one.new.link) c.serve_one.result e.answered e.counted e.ended e.ended_unhandled
    e.read_failed e.read_failed_unhandled e.write_failed e.cut_answer e.unwritten e.unanswered in
    let P : Option (g.row.D-Link.Denot) → Type 0 = λ o. IsGiven {L = g.row.D-Link.Denot} {E = Failed} (Ok o) start mid in
    next_of I C ((keeper : g.row.K.Denot) → g.K.Keeper.fault_count keeper ≡ 0) seen Failed c.in-Some.link c.serve_one.new.link (st old) (st new)
    start mid (g.D.Door.told c.give_back.new.self) (subst P c.in-Some.is c.in_ok-link.ensures.told) c.give_back.ensures.told leaves e.well
