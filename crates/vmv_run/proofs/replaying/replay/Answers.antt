use Rattle.vmv_snapshot.specs.Resolution.{tree_of}
use Rattle.vmv_run.proofs.OneReplay.{one_replay}
use Rattle.vmv_run.proofs.Findings.{runs_found, replayed}
use Rattle.vmv_run.proofs.replaying.replay.Goals as goal

pub returns-clause-found : goal.returns-clause-found
returns-clause-found c name named =
    let program = tree_of c.args.snapshot.now in
    let h = runs_found program c.args.entry.0 name c.args.params.now c.entry_frame.result _ c.walk_proc-ended.new.source c.walk_proc-ended.result c.program.ensures.resolution.valid named c.requires.entry c.requires.params
    c.entry_frame.ensures c.walk_proc-ended.ensures in
    replayed program name c.args.params.now c.args.answers c.walk_proc-ended.new.source c.walk_proc-ended.result c.used.result c.found.result h c.used.ensures c.found.ensures

pub returns-clause-only : goal.returns-clause-only
returns-clause-only c name other named h = one_replay (tree_of c.args.snapshot.now) name c.args.params.now _ other c.found.result c.program.ensures.resolution.valid h (returns-clause-found c name named)
