-- As many links were given, and given back, as were taken, and they were served one after another.
use Rattle.std.proofs.Common.{◌≡◌, ◌≤◌, ◌+◌, ◌-◌}
use Rattle.vmv_serve.specs.Services.{ServesLinks}
use Rattle.vmv_serve.proofs.turns.serve_links.Given as goal

abbrev pub invariant-loop-taken : goal.invariant-loop-taken
invariant-loop-taken g l =
    (l.taken ≤ l.count)
    × (g.D.Door.given l.door ≡ g.D.Door.given l.initial.door + l.taken)
    × (g.D.Door.given_back l.door ≡ g.D.Door.given_back l.initial.door + l.taken)
    × (g.D.Door.fault_count l.door ≡ g.D.Door.fault_count l.initial.door)
    × (g.D.Door.is_listening l.door ≡ g.D.Door.is_listening l.initial.door)
    × (l.taken ≡ 0 → l.desk ≡ l.initial.desk)
    × ServesLinks (g.J.Judge.inspected l.judge) (g.J.Judge.compared l.judge) ((keeper : g.row.K.Denot) → g.K.Keeper.fault_count keeper ≡ 0)
    (λ link. record { input = g.D.Link.Link.input link; written = g.D.Link.Link.written link; faults = g.D.Link.Link.fault_count link }) l.taken
    (record { rows = g.K.Keeper.told l.initial.desk; faults = g.K.Keeper.fault_count l.initial.desk })
    (record { rows = g.K.Keeper.told l.desk; faults = g.K.Keeper.fault_count l.desk }) (g.D.Door.told l.initial.door) (g.D.Door.told l.door)

abbrev pub decreases-loop-taken : goal.decreases-loop-taken
decreases-loop-taken g l = l.count - l.taken
