use Rattle.std.proofs.Common.{List, ◌∙◌, sym, subst}
use Rattle.vmv_snapshot.specs.Resolution.{tree_of}
use Rattle.vmv_run.specs.declared.answer.Answer.{Answer}
use Rattle.vmv_run.specs.declared.source.Source.TheVariants.{Constant}
use Rattle.vmv_run.specs.Walk.{WalksProc}
use Rattle.vmv_run.proofs.Findings.{runs_found, constant_found}
use Rattle.vmv_run.proofs.constants.constant.Goals as goal

pub returns : goal.returns
returns c name named =
    let program = tree_of c.args.snapshot.now in
    let own = subst (λ (taken : List Answer). WalksProc program c.args.entry.0 c.entry_frame.result (Constant c.outsides.result c.args.values taken) c.walk_proc-ended.new.source c.walk_proc-ended.result) c.new.ensures c.walk_proc-ended.ensures in
    let h = runs_found program c.args.entry.0 name c.args.params.now c.entry_frame.result _ c.walk_proc-ended.new.source c.walk_proc-ended.result c.program.ensures.resolution.valid named c.requires.entry c.requires.params
    c.entry_frame.ensures own in
    constant_found program name c.args.params.now c.outsides.result c.args.values c.walk_proc-ended.new.source c.walk_proc-ended.result c.in-Some-into_taken.answers c.in-Some.outcome h c.outsides.ensures c.in-Some-into_taken.ensures
    (sym c.over.ensures ∙ c.in-Some.is)
