use Rattle.std.proofs.Common.{rules, ◌≡◌, ◌<◌, length, sym, subst, ◌∙◌}
use Rattle.vmv_check.proofs.Lists.{some_same}
use Rattle.vmv_forward.specs.Path.{Path}
use Rattle.vmv_forward.specs.Rounds.{quest_of, HasInput}
use Rattle.vmv_forward.specs.contracts.instance.Instance.{the_view}
use Rattle.vmv_forward.proofs.Reading.{reads_view, read_caller, input_read}
use Rattle.vmv_forward.proofs.rounds.input_of.Goals as goal

pub offset_bounds-instances-caller : goal.offset_bounds-instances-caller
offset_bounds-instances-caller c =
    let q = quest_of c.args.search.now in
    let r = reads_view q c.args.instances.now c.args.number c.index-instances-number.result c.requires.kept c.requires.from c.requires.to c.index-instances-number.is (the_view c.instance.inside) (c.instance.view_is ∙ c.index-instances-number.is) in
    let h : c.instance.inside.caller < length c.args.instances.now = r.inside in
    search rules

pub bounds-instances-caller : goal.bounds-instances-caller
bounds-instances-caller c =
    let q = quest_of c.args.search.now in
    let r = reads_view q c.args.instances.now c.args.number c.index-instances-number.result c.requires.kept c.requires.from c.requires.to c.index-instances-number.is (the_view c.instance.inside) (c.instance.view_is ∙ c.index-instances-number.is) in
    r.inside

pub input-requires : goal.input-requires
input-requires c =
    let q = quest_of c.args.search.now in
    let r = reads_view q c.args.instances.now c.args.number c.index-instances-number.result c.requires.kept c.requires.from c.requires.to c.index-instances-number.is (the_view c.instance.inside) (c.instance.view_is ∙ c.index-instances-number.is) in
    input_read q c.args.instances.now c.args.number (the_view c.instance.inside) c.index-instances-caller.result r c.index-instances-caller.is

pub returns : goal.returns
returns c =
    let q = quest_of c.args.search.now in
    let r = reads_view q c.args.instances.now c.args.number c.index-instances-number.result c.requires.kept c.requires.from c.requires.to c.index-instances-number.is (the_view c.instance.inside) (c.instance.view_is ∙ c.index-instances-number.is) in
    let there = read_caller q c.args.instances.now c.args.number (the_view c.instance.inside) c.index-instances-caller.result r c.index-instances-caller.is in
    λ path at. (let same : the_view c.instance.inside ≡ path = some_same (sym r.at ∙ at) in
    subst (λ (p : Path). HasInput c.args.instances.now p c.input.result.now) same (c.index-instances-caller.result, there, c.input.ensures))
