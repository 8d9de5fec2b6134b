use Rattle.std.proofs.Common.{refl}
use Rattle.vmv_snapshot.proofs.Kept.{name_of_found, found_exactly, none_exactly}
use Rattle.vmv_snapshot.proofs.snapshot.Snapshot.find_proc.Goals as goal

pub returns-in_err-number-clause-found : goal.returns-in_err-number-clause-found
returns-in_err-number-clause-found c = none_exactly c.args.self.now c.self.inside.program c.self.inside.tables c.self.inside.reached.items c.self.invariant c.self.view_is c.args.name.now c.from_residual.result c.from_residual.ensures c.in_err-number.ensures.index

pub returns-clause-found : goal.returns-clause-found
returns-clause-found c = (λ h. found_exactly c.args.self.now c.self.inside.program c.self.inside.tables c.self.inside.reached.items c.self.invariant c.self.view_is c.args.name.now c.in_ok-number.number c.in_ok-number.ensures.index, λ h. refl)

pub returns-clause-named : goal.returns-clause-named
returns-clause-named c = name_of_found c.args.self.now c.self.inside.program c.self.inside.tables c.self.inside.reached.items c.self.invariant c.self.view_is c.args.name.now c.in_ok-number.number c.in_ok-number.ensures.index
