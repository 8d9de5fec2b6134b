-- What is printed is a front of both lines, and where nothing was taken no link was served.
use Rattle.std.proofs.Common.{◌≡◌, arith}
use Rattle.vmv_serve.specs.Lines.{serving, served}
use Rattle.vmv_serve.specs.Serves.{Seen, Stored}
use Rattle.vmv_serve.proofs.Printing.{front_behind, front_of}
use Rattle.vmv_serve.proofs.Serving.{none_of}
use Rattle.vmv_serve.proofs.service.serve_over.Goals as goal

pub returns-in_default-clause-prefix : goal.returns-in_default-clause-prefix
returns-in_default-clause-prefix g c seven =
    (0, omega arith, front_of (g.O.Sink.taken c.args.out.now) (g.O.Sink.taken c.print_serving.new.out) (serving c.args.address.now) (served 0) c.in_default.ensures.prefix)

pub returns-in_default-clause-served : goal.returns-in_default-clause-served
returns-in_default-clause-served g c =
    let judge = c.args.judge.now in
    let st : g.row.K.Denot → Stored = λ keeper. record { rows = g.K.Keeper.told keeper; faults = g.K.Keeper.fault_count keeper } in
    let seen : g.row.D-Link.Denot → Seen = λ link. record { input = g.D.Link.Link.input link; written = g.D.Link.Link.written link; faults = g.D.Link.Link.fault_count link } in (
      0,
      omega arith,
      omega arith,
      none_of (g.J.Judge.inspected judge) (g.J.Judge.compared judge) ((keeper : g.row.K.Denot) → g.K.Keeper.fault_count keeper ≡ 0) seen (st c.args.desk.now) (g.D.Door.told c.args.door.now),
    )

pub returns-in-Err-clause-prefix : goal.returns-in-Err-clause-prefix
returns-in-Err-clause-prefix g c seven =
    let taken = c.serve_links-taken.result.count in (
      taken,
      c.serve_links-taken.ensures.given,
      front_behind (g.O.Sink.taken c.args.out.now) (g.O.Sink.taken c.print_serving.new.out) (g.O.Sink.taken c.print_served.new.out) (serving c.args.address.now) (served taken)
          c.in-Ok.ensures.written c.in-Err.ensures.prefix,
    )
