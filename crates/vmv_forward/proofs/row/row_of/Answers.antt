use Rattle.std.proofs.Common.{◌≡◌, ◌<◌, Some, length, map, slice_get, ap, sym, subst, ◌∙◌}
use Rattle.vmv_tree.specs.Run.{name_of}
use Rattle.vmv_snapshot.specs.Resolution.{procs_of}
use Rattle.vmv_forward.specs.Path.{Path}
use Rattle.vmv_forward.specs.Rounds.{quest_of}
use Rattle.vmv_forward.proofs.Reading.{proc_inside}
use Rattle.vmv_forward.proofs.Stepping.{read, row_made}
use Rattle.vmv_forward.proofs.row.row_of.Goals as goal

pub proc_name-requires : goal.proc_name-requires
proc_name-requires c =
    let at = read c.args.instances.now c.args.number c.index-instances-number.result c.requires.to c.index-instances-number.is in
    let e = ap (λ (p : Path). p.proc.0) c.instance.view_is in
    subst (λ n. n < length (procs_of c.args.search.now.snapshot.now)) (sym e) (proc_inside (quest_of c.args.search.now) c.args.instances.now c.args.number c.index-instances-number.result c.requires.kept c.requires.from at)

pub returns : goal.returns
returns c =
    let path = c.index-instances-number.result in
    let at = read c.args.instances.now c.args.number path c.requires.to c.index-instances-number.is in
    let name = subst (λ n. slice_get (map name_of (procs_of c.args.search.now.snapshot.now)) n ≡ Some c.proc_name.result) (ap (λ (p : Path). p.proc.0) c.instance.view_is) c.proc_name.ensures in
    row_made c.args.search.now.snapshot.now c.args.instances.now c.args.number path c.proc_name.result c.input_of.result.now c.in_ok-from_slice.field-0 c.reach_of.result c.from_vec.result c.result_of.result c.requires.from at name (c.input_of.ensures path at)
    c.requires.reached (c.in_ok-from_slice.ensures ∙ (c.as_slice.ensures.value ∙ ap (λ (p : Path). p.keeps) c.instance.view_is)) (c.result_of.ensures path at) c.reach_of.ensures c.in_ok-sites_of.field-0.items c.in_ok-sites_of.ensures c.from_vec.ensures
