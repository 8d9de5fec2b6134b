use Rattle.std.proofs.Common.{map, ap, ◌∙◌}
use Rattle.vmv_snapshot.specs.Resolution.{tree_of}
use Rattle.vmv_run.specs.Replay.{pairs}
use Rattle.vmv_witness.specs.declared.witness.ParamValue.{ParamValue}
use Rattle.vmv_witness.specs.Fit.{words_of}
use Rattle.vmv_command.proofs.Fitting.{entry_params, entry_replayed, fails_inside, entry_told}
use Rattle.vmv_command.proofs.replays.replay_entry.Goals as goal

pub replay-outcome-requires-clause-params : goal.replay-outcome-requires-clause-params
replay-outcome-requires-clause-params c =
    let words = c.deref.ensures.value ∙ (c.in_ok-words.ensures ∙ ap (map (λ (p : ParamValue). p.value)) c.as_slice.ensures) in
    entry_params (tree_of c.args.snapshot.now) c.args.witness.now c.args.entry c.deref.result.now c.requires words

pub outcome_output-requires : goal.outcome_output-requires
outcome_output-requires c =
    let words = c.deref.ensures.value ∙ (c.in_ok-words.ensures ∙ ap (map (λ (p : ParamValue). p.value)) c.as_slice.ensures) in
    let found = entry_replayed (tree_of c.args.snapshot.now) c.args.witness.now c.args.entry c.deref.result.now c.as_slice-2.result.now c.replay-outcome.result c.requires words c.as_slice-2.ensures
    c.replay-outcome.ensures.found in
    fails_inside (tree_of c.args.snapshot.now) c.args.witness.now.entry (words_of c.args.witness.now) (pairs c.args.witness.now.answers) c.replay-outcome.result found

pub returns : goal.returns
returns c =
    let words = c.deref.ensures.value ∙ (c.in_ok-words.ensures ∙ ap (map (λ (p : ParamValue). p.value)) c.as_slice.ensures) in
    let found = entry_replayed (tree_of c.args.snapshot.now) c.args.witness.now c.args.entry c.deref.result.now c.as_slice-2.result.now c.replay-outcome.result c.requires words c.as_slice-2.ensures
    c.replay-outcome.ensures.found in
    entry_told c.outcome_output.result (tree_of c.args.snapshot.now) c.args.witness.now c.replay-outcome.result found c.outcome_output.ensures
