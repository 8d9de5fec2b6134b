use Rattle.std.proofs.Common.{true, length, List, map, refl, ap, ◌∙◌, arith}
use Rattle.std.proofs.lemmas.List.{length-map}
use Rattle.std.proofs.lemmas.Option.{slice_get_within}
use Rattle.vmv_tree.specs.declared.tree.Param.{Param}
use Rattle.vmv_snapshot.specs.Procs.{is_entry}
use Rattle.vmv_snapshot.specs.Resolution.{procs_of}
use Rattle.vmv_assumption.specs.Whole.{whole}
use Rattle.vmv_assumption.specs.Assumed.{cond_of}
use Rattle.vmv_back.proofs.Params.{entry_params}
use Rattle.vmv_cert.specs.Tables.{ranges_of}
use Rattle.vmv_forward.proofs.Entries.{entry_is, whole_box}
use Rattle.vmv_proving.proofs.Showing.{least_as, all_whole}
use Rattle.vmv_proving.proofs.shown.shown_of.Goals as goal

pub full_box-within-requires : goal.full_box-within-requires
full_box-within-requires c =
    let good = entry_params _ c.program.ensures.resolution.valid _ _ c.requires.entry c.params.ensures in
    let same = ap (λ (xs : List Param). length xs) c.as_slice.ensures in
    omega (arith, good.0, same)

pub least_table-requires-clause-entry : goal.least_table-requires-clause-entry
least_table-requires-clause-entry c = (
  c.params.result.now,
  entry_is c.args.showing.now.revision.now c.args.entry.0 c.params.result.now c.requires.entry c.params.ensures,
  whole_box c.args.showing.now.revision.now c.args.entry.0 c.params.result.now c.full_box-within.result c.program.ensures.resolution c.requires.entry c.params.ensures (c.full_box-within.ensures ∙ ap ranges_of c.as_slice.ensures),
)

pub least_table-requires-2-clause-entry : goal.least_table-requires-2-clause-entry
least_table-requires-2-clause-entry c = (
  c.params.result.now,
  entry_is c.args.showing.now.revision.now c.args.entry.0 c.params.result.now c.requires.entry c.params.ensures,
  whole_box c.args.showing.now.revision.now c.args.entry.0 c.params.result.now c.full_box-within.result c.program.ensures.resolution c.requires.entry c.params.ensures (c.full_box-within.ensures ∙ ap ranges_of c.as_slice.ensures),
)

pub proc_name-requires : goal.proc_name-requires
proc_name-requires c =
    let procs = procs_of c.args.showing.now.revision.now in
    omega (arith, slice_get_within (map is_entry procs) c.args.entry.0 true c.requires.entry, length-map procs is_entry)

pub returns : goal.returns
returns c =
    let revision = c.args.showing.now.revision.now in
    let ends = c.args.showing.now.ends.now in
    let needed = cond_of c.args.showing.now.needed.now in
    let boxed = c.full_box-within.ensures ∙ ap ranges_of c.as_slice.ensures in
    record {
      named = c.proc_name.ensures;
      params = c.params.result.now;
      entry = entry_is revision c.args.entry.0 c.params.result.now c.requires.entry c.params.ensures;
      plain = least_as revision c.args.entry.0 ends c.full_box-within.result (ranges_of c.params.result.now) (cond_of c.args.showing.now.whole.now) (λ name. whole) c.in_ok-plain.plain.rows boxed
          (all_whole c.args.showing.now.whole.now c.requires.whole) (c.in_ok-plain.ensures.least ends c.in_ok-thresholds.ensures);
      given = least_as revision c.args.entry.0 ends c.full_box-within.result (ranges_of c.params.result.now) needed needed c.in_ok-given.given.rows boxed refl (c.in_ok-given.ensures.least ends c.in_ok-thresholds.ensures);
    }
