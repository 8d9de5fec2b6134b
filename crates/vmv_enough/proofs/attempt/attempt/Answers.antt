use Rattle.std.proofs.Common.{length, ap, sym, ◌∙◌}
use Rattle.vmv_snapshot.specs.Procs.{outsides}
use Rattle.vmv_snapshot.specs.Resolution.{tree_of}
use Rattle.vmv_assumption.specs.Assumed.{cond_of}
use Rattle.vmv_enough.proofs.Answering.{ranges_full}
use Rattle.vmv_enough.proofs.Attempted.{tried_fail, tried_none, site_within, all_some, run_along, answers_count, entry_flag, entry_within, params_count, words_along, answers_along, all_along, witness_along}
use Rattle.vmv_enough.proofs.attempt.attempt.Goals as goal

pub words-requires : goal.words-requires
words-requires c = all_along c.args.probe.now.within _ (sym c.ranges-2.ensures) (ranges_full c.requires.ready.params c.args.probe.now.within c.requires.ready.inside)

pub answers-requires-clause-nonempty : goal.answers-requires-clause-nonempty
answers-requires-clause-nonempty c = all_some (cond_of c.args.enough.now) (outsides (tree_of c.args.revision.now)) _ c.outsides.ensures c.requires.nonempty

pub constant-requires-clause-entry : goal.constant-requires-clause-entry
constant-requires-clause-entry c = entry_flag c.args.revision.now c.args.entry.0 c.requires.ready.params c.requires.ready.entry

pub constant-requires-clause-params : goal.constant-requires-clause-params
constant-requires-clause-params c = λ other takes.
    let taken = words_along c.args.probe.now _ c.in_ok-words.words.items c.ranges-2.ensures c.in_ok-words.ensures in
    params_count c.args.revision.now c.args.entry.0 c.requires.ready.params other c.args.probe.now c.in_ok-words.words.items c.requires.ready.entry c.requires.ready.inside taken takes ∙ ap length (sym c.as_slice.ensures.value)

pub constant-requires-clause-values : goal.constant-requires-clause-values
constant-requires-clause-values c =
    let given = answers_along (cond_of c.args.enough.now) c.args.probe.now _ (outsides (tree_of c.args.revision.now)) c.in_ok-values.values.items c.outsides.ensures c.in_ok-values.ensures in
    ap length c.as_slice-2.ensures.value ∙ answers_count (cond_of c.args.enough.now) c.args.probe.now (outsides (tree_of c.args.revision.now)) c.in_ok-values.values.items given

pub witness_of-requires-clause-entry : goal.witness_of-requires-clause-entry
witness_of-requires-clause-entry c = entry_within c.args.revision.now c.args.entry.0 c.requires.ready.params c.requires.ready.entry

pub witness_of-requires-clause-site : goal.witness_of-requires-clause-site
witness_of-requires-clause-site c =
    site_within c.args.revision.now c.args.entry.0 c.requires.ready.params _ _ c.in_ok-run.run' c.in-Fail.site c.requires.ready.entry c.in_ok-run.ensures c.in-Fail.is

pub witness_of-requires-clause-words : goal.witness_of-requires-clause-words
witness_of-requires-clause-words c = λ other takes.
    let taken = words_along c.args.probe.now _ c.in_ok-words.words.items c.ranges-2.ensures c.in_ok-words.ensures in
    ap length c.as_slice-in-Fail.ensures.value ∙ sym (params_count c.args.revision.now c.args.entry.0 c.requires.ready.params other c.args.probe.now c.in_ok-words.words.items c.requires.ready.entry c.requires.ready.inside taken takes)

pub returns-in-Fail : goal.returns-in-Fail
returns-in-Fail c =
    let ready = c.requires.ready in
    let taken = words_along c.args.probe.now _ c.in_ok-words.words.items c.ranges-2.ensures c.in_ok-words.ensures in
    let given = answers_along (cond_of c.args.enough.now) c.args.probe.now _ (outsides (tree_of c.args.revision.now)) c.in_ok-values.values.items c.outsides.ensures c.in_ok-values.ensures in
    let ran = run_along c.args.revision.now c.args.entry.0 _ c.in_ok-words.words.items _ c.in_ok-values.values.items c.in_ok-run.run' c.as_slice.ensures.value c.as_slice-2.ensures.value c.in_ok-run.ensures in
    let of = witness_along c.args.revision.now c.args.entry.0 _ c.in_ok-words.words.items c.in_ok-run.run' c.in-Fail.site c.in_ok-witness_of-in-Fail.field-0 c.as_slice-in-Fail.ensures.value c.in_ok-witness_of-in-Fail.ensures in
    tried_fail c.args.revision.now c.args.entry.0 (cond_of c.args.enough.now) c.args.probe.now ready.params c.in_ok-words.words.items c.in_ok-values.values.items c.in_ok-run.run' c.in-Fail.site c.in_ok-witness_of-in-Fail.field-0 c.program.ensures.resolution ready.entry
    ready.inside taken given ran c.in-Fail.is of

pub returns : goal.returns
returns c =
    let ready = c.requires.ready in
    let taken = words_along c.args.probe.now _ c.in_ok-words.words.items c.ranges-2.ensures c.in_ok-words.ensures in
    let given = answers_along (cond_of c.args.enough.now) c.args.probe.now _ (outsides (tree_of c.args.revision.now)) c.in_ok-values.values.items c.outsides.ensures c.in_ok-values.ensures in
    let ran = run_along c.args.revision.now c.args.entry.0 _ c.in_ok-words.words.items _ c.in_ok-values.values.items c.in_ok-run.run' c.as_slice.ensures.value c.as_slice-2.ensures.value c.in_ok-run.ensures in
    tried_none c.args.revision.now c.args.entry.0 (cond_of c.args.enough.now) c.args.probe.now ready.params c.in_ok-words.words.items c.in_ok-values.values.items c.in_ok-run.run' c.program.ensures.resolution ready.entry taken given ran c.in_default.not-Fail
