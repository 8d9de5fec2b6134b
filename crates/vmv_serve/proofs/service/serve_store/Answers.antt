-- Links are served over the store as it was given, and it goes back as the last of them left it.
use Rattle.std.proofs.Common.{◌≡◌, arith}
use Rattle.vmv_serve.specs.Serves.{Seen, Stored}
use Rattle.vmv_serve.proofs.Serving.{none_of, start_of, stored_as, kept_count}
use Rattle.vmv_serve.proofs.service.serve_store.Goals as goal

pub returns-in-Err-clause-served : goal.returns-in-Err-clause-served
returns-in-Err-clause-served g c =
    let judge = c.args.judge.now in
    let K = g.V.Keeper.Keeper in
    let st : g.row.V-Keeper.Denot → Stored = λ keeper. record { rows = K.told keeper; faults = K.fault_count keeper } in
    let seen : g.row.D-Link.Denot → Seen = λ link. record { input = g.D.Link.Link.input link; written = g.D.Link.Link.written link; faults = g.D.Link.Link.fault_count link } in (
      0,
      st c.args.keeper,
      omega arith,
      omega arith,
      none_of (g.J.Judge.inspected judge) (g.J.Judge.compared judge) ((keeper : g.row.V-Keeper.Denot) → K.fault_count keeper ≡ 0) seen (st c.args.keeper) (g.D.Door.told c.args.door.now),
      λ some. c.give_back.ensures.counted (kept_count c.in-Err.fault (K.fault_count c.args.keeper) (K.fault_count c.in-Err.keeper) c.in-Err.ensures.failed c.in-Err.ensures.memory some),
    )

pub returns-clause-served : goal.returns-clause-served
returns-clause-served g c =
    let judge = c.args.judge.now in
    let K = g.V.Keeper.Keeper in
    let st : g.row.V-Keeper.Denot → Stored = λ keeper. record { rows = K.told keeper; faults = K.fault_count keeper } in
    let seen : g.row.D-Link.Denot → Seen = λ link. record { input = g.D.Link.Link.input link; written = g.D.Link.Link.written link; faults = g.D.Link.Link.fault_count link } in
    let s = c.serve_over-status.ensures.served in
    let desk = c.in-Ok.desk in
    let left = c.serve_over-status.new.desk in
    let same = stored_as (K.told desk) (K.told c.args.keeper) (K.fault_count desk) (K.fault_count c.args.keeper) c.in-Ok.ensures.told c.in-Ok.ensures.counted in (
      s.0,
      st left,
      s.1,
      s.2,
      start_of (g.J.Judge.inspected judge) (g.J.Judge.compared judge) ((keeper : g.row.V-Keeper.Denot) → K.fault_count keeper ≡ 0) seen s.0 (st desk) (st c.args.keeper) (st left)
          (g.D.Door.told c.args.door.now) (g.D.Door.told c.serve_over-status.new.door) same s.3,
      rw c.close.ensures at c.give_back-2.ensures.counted,
    )
