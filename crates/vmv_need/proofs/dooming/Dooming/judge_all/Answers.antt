use Rattle.std.proofs.Common.{◌∙◌}
use denote.Param.Send.{sendable}
use Rattle.vmv_lent.proofs.Snapshots.{snapshot_sync}
use Rattle.vmv_assumption.proofs.assumed.Assumption.TheSendSync as assumption
use Rattle.vmv_need.proofs.plan.Plan.TheSendSync as plan
use Rattle.vmv_need.proofs.Pushed.{all_judged}
use Rattle.vmv_need.proofs.dooming.Dooming.judge_all.Goals as goal

pub fan-requires-sync-J : goal.fan-requires-sync-J
fan-requires-sync-J g c κs within = let base = snapshot_sync in let planned = plan.the_sync in let assumed = assumption.the_sync in search sendable depth 20

pub returns : goal.returns
returns g c = all_judged _ _ _ _ _ (c.len-count.ensures ∙ c.args.self.now.plan.now.places.ok.0) c.into_vec.ensures c.in_ok-doomed.ensures.answers c.in_ok-doomed.ensures.count
