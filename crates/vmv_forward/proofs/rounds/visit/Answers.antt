use Rattle.std.proofs.Common.{arith, rules, Some, ap, sym, ◌∙◌, ◌<◌, length}
use Rattle.vmv_forward.specs.Rounds.{quest_of}
use Rattle.vmv_forward.specs.contracts.instance.Instance.{the_view}
use Rattle.vmv_forward.proofs.Sets.{length_set}
use Rattle.vmv_forward.proofs.Reading.{reads_view}
use Rattle.vmv_forward.proofs.Passing.{input_bound, result_bound_set, proc_bound, input_sizes, fits_bound, made_of, settled_of, told_of, same_of}
use Rattle.vmv_forward.proofs.rounds.visit.Goals as goal

pub offset_bounds-instances-caller : goal.offset_bounds-instances-caller
offset_bounds-instances-caller g c =
    let q = quest_of c.args.search.now in
    let r = reads_view q c.args.instances.now c.args.number c.index-instances-number.result c.requires.kept c.requires.from c.requires.to c.index-instances-number.is (the_view c.instance.inside) c.instance.view_is in
    let h : c.instance.inside.caller < length c.args.instances.now = r.inside in
    search rules

pub bounds-instances-caller : goal.bounds-instances-caller
bounds-instances-caller g c =
    let q = quest_of c.args.search.now in
    let r = reads_view q c.args.instances.now c.args.number c.index-instances-number.result c.requires.kept c.requires.from c.requires.to c.index-instances-number.is (the_view c.instance.inside) c.instance.view_is in
    r.inside

pub input-requires : goal.input-requires
input-requires g c =
    let q = quest_of c.args.search.now in
    let r = reads_view q c.args.instances.now c.args.number c.index-instances-number.result c.requires.kept c.requires.from c.requires.to c.index-instances-number.is (the_view c.instance.inside) c.instance.view_is in
    input_bound q c.args.instances.now c.args.number (the_view c.instance.inside) c.index-instances-caller.result r

pub pass-passed-requires-clause-proc : goal.pass-passed-requires-clause-proc
pass-passed-requires-clause-proc g c =
    let q = quest_of c.args.search.now in
    let r = reads_view q c.args.instances.now c.args.number c.index-instances-number.result c.requires.kept c.requires.from c.requires.to c.index-instances-number.is (the_view c.instance.inside) c.instance.view_is in
    proc_bound q c.args.instances.now c.args.number (the_view c.instance.inside) c.index-instances-number-2.result c.requires.kept c.requires.from r

pub pass-passed-requires-clause-input : goal.pass-passed-requires-clause-input
pass-passed-requires-clause-input g c =
    let q = quest_of c.args.search.now in
    let r = reads_view q c.args.instances.now c.args.number c.index-instances-number.result c.requires.kept c.requires.from c.requires.to c.index-instances-number.is (the_view c.instance.inside) c.instance.view_is in
    input_sizes q c.args.instances.now c.args.number (the_view c.instance.inside) c.index-instances-caller.result c.index-instances-number-2.result c.copy_from.new.self c.requires.kept c.requires.from r (c.input.ensures ∙ ap Some (sym c.copy_from.ensures))

pub pass-passed-requires-clause-fits : goal.pass-passed-requires-clause-fits
pass-passed-requires-clause-fits g c =
    let q = quest_of c.args.search.now in
    let r = reads_view q c.args.instances.now c.args.number c.index-instances-number.result c.requires.kept c.requires.from c.requires.to c.index-instances-number.is (the_view c.instance.inside) c.instance.view_is in
    fits_bound q c.args.instances.now c.args.number (the_view c.instance.inside) c.index-instances-number-2.result c.requires.kept c.requires.from r

pub offset_bounds-instances-caller-2 : goal.offset_bounds-instances-caller-2
offset_bounds-instances-caller-2 g c =
    let q = quest_of c.args.search.now in
    let r = reads_view q c.args.instances.now c.args.number c.index-instances-number.result c.requires.kept c.requires.from c.requires.to c.index-instances-number.is (the_view c.instance.inside) c.instance.view_is in
    let h : c.instance.inside.caller < length c.args.instances.now = r.inside in
    search rules

pub bounds-instances-caller-2 : goal.bounds-instances-caller-2
bounds-instances-caller-2 g c =
    let q = quest_of c.args.search.now in
    let r = reads_view q c.args.instances.now c.args.number c.index-instances-number.result c.requires.kept c.requires.from c.requires.to c.index-instances-number.is (the_view c.instance.inside) c.instance.view_is in
    let long = length_set c.args.instances.now c.args.number c.pass-passed.new.instance in
    let h : c.instance.inside.caller < length c.args.instances.now = r.inside in
    omega (arith, long, h)

pub take_result-changed-requires : goal.take_result-changed-requires
take_result-changed-requires g c =
    let q = quest_of c.args.search.now in
    let r = reads_view q c.args.instances.now c.args.number c.index-instances-number.result c.requires.kept c.requires.from c.requires.to c.index-instances-number.is (the_view c.instance.inside) c.instance.view_is in
    result_bound_set q c.args.instances.now c.args.number (the_view c.instance.inside) c.pass-passed.new.instance c.index-instances-caller-2.result r

pub returns-clause-visited : goal.returns-clause-visited
returns-clause-visited g c =
    let q = quest_of c.args.search.now in
    let r = reads_view q c.args.instances.now c.args.number c.index-instances-number.result c.requires.kept c.requires.from c.requires.to c.index-instances-number.is (the_view c.instance.inside) c.instance.view_is in
    made_of q c.args.instances.now c.args.number (the_view c.instance.inside) c.index-instances-caller.result c.index-instances-number-2.result c.index-instances-caller-2.result c.pass-passed.new.instance c.take_result-changed.new.self
    c.copy_from.new.self c.pass-passed.result.range c.pass-passed.result.raised c.args.steps.now c.pass-passed.new.steps r (c.input.ensures ∙ ap Some (sym c.copy_from.ensures)) c.pass-passed.ensures.passed c.take_result-changed.ensures.taken

pub returns-clause-told : goal.returns-clause-told
returns-clause-told g c old new there there' =
    let q = quest_of c.args.search.now in
    let r = reads_view q c.args.instances.now c.args.number c.index-instances-number.result c.requires.kept c.requires.from c.requires.to c.index-instances-number.is (the_view c.instance.inside) c.instance.view_is in
    told_of q c.args.instances.now c.args.number (the_view c.instance.inside) c.index-instances-number-2.result c.pass-passed.new.instance c.take_result-changed.new.self c.args.risen.now c.pass-passed.new.risen r c.pass-passed.ensures.told old new there there'

pub returns-clause-same : goal.returns-clause-same
returns-clause-same g c still path there =
    let q = quest_of c.args.search.now in
    let r = reads_view q c.args.instances.now c.args.number c.index-instances-number.result c.requires.kept c.requires.from c.requires.to c.index-instances-number.is (the_view c.instance.inside) c.instance.view_is in
    same_of q c.args.instances.now c.args.number (the_view c.instance.inside) c.index-instances-caller-2.result c.pass-passed.new.instance c.take_result-changed.new.self c.pass-passed.result.range r c.take_result-changed.ensures.taken (c.take_result-changed.ensures.same still) path there

pub returns-clause-settled : goal.returns-clause-settled
returns-clause-settled g c stay =
    let q = quest_of c.args.search.now in
    let r = reads_view q c.args.instances.now c.args.number c.index-instances-number.result c.requires.kept c.requires.from c.requires.to c.index-instances-number.is (the_view c.instance.inside) c.instance.view_is in
    settled_of q c.args.instances.now c.args.number (the_view c.instance.inside) c.index-instances-caller.result c.index-instances-number-2.result c.index-instances-caller-2.result c.pass-passed.new.instance c.take_result-changed.new.self
    c.copy_from.new.self c.pass-passed.result.range c.pass-passed.result.raised c.args.steps.now c.pass-passed.new.steps c.requires.kept c.requires.from r (c.input.ensures ∙ ap Some (sym c.copy_from.ensures)) c.pass-passed.ensures.passed c.take_result-changed.ensures.taken
    (c.pass-passed.ensures.settled stay)
