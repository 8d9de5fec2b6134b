use Rattle.std.proofs.Common.{take}
use Rattle.std.specs.List.{Contains}
use Rattle.vmv_snapshot.specs.declared.code.ProcId.{ProcId}
use Rattle.vmv_assumption.specs.Assumed.{cond_of}
use Rattle.vmv_cert.specs.Tables.{Box}
use Rattle.vmv_need.specs.Vacuous.{IsDoomed}
use Rattle.vmv_need.proofs.vacuous.first_doomed.Given as goal

abbrev pub invariant-loop-place : goal.invariant-loop-place
invariant-loop-place g l = (place : ProcId × Box) → Contains (take l.place l.plan.places.items) place → ¬ IsDoomed l.base l.plan.scope (cond_of l.assumed) place
