use Rattle.std.proofs.Common.{List, length, ap, ◌∙◌, arith}
use Rattle.vmv_tree.specs.declared.tree.Param.{Param}
use Rattle.vmv_assumption.specs.Assumed.{cond_of}
use Rattle.vmv_back.proofs.Params.{entry_params}
use Rattle.vmv_cert.specs.Tables.{ranges_of}
use Rattle.vmv_forward.proofs.Entries.{entry_is, whole_box}
use Rattle.vmv_forward.proofs.Deciding.{sites_told, sites_reached}
use Rattle.vmv_forward.proofs.decided.unproved_sites.Goals as goal

pub full_box-within-requires : goal.full_box-within-requires
full_box-within-requires c =
    let good = entry_params _ c.program.ensures.resolution.valid _ _ c.requires.entry c.params.ensures in
    let same = ap (λ (xs : List Param). length xs) c.as_slice.ensures in
    omega (arith, good.0, same)

pub least_table-requires-clause-entry : goal.least_table-requires-clause-entry
least_table-requires-clause-entry c = (
  c.params.result.now,
  entry_is c.args.snapshot.now c.args.entry.0 c.params.result.now c.requires.entry c.params.ensures,
  whole_box c.args.snapshot.now c.args.entry.0 c.params.result.now c.full_box-within.result c.program.ensures.resolution c.requires.entry c.params.ensures (c.full_box-within.ensures ∙ ap ranges_of c.as_slice.ensures),
)

pub returns-clause-provable : goal.returns-clause-provable
returns-clause-provable c = λ ends site are.
    (let table = c.in_ok-table.ensures in
    sites_told c.args.snapshot.now c.args.entry.0 c.params.result.now c.full_box-within.result ends (cond_of c.args.assumed.now) c.in_ok-table.table.rows c.in_ok-sites.sites
    (entry_is c.args.snapshot.now c.args.entry.0 c.params.result.now c.requires.entry c.params.ensures) (c.full_box-within.ensures ∙ ap ranges_of c.as_slice.ensures)
    (table.least ends are) (λ first rest e. c.in_ok-sites.ensures first rest (c.as_slice-2.ensures ∙ e)) site)

pub returns-clause-sites : goal.returns-clause-sites
returns-clause-sites c =
    let table = c.in_ok-table.ensures in
    let ends = c.requires.thresholds.0 in
    let are = c.requires.thresholds.1 in
    sites_reached c.args.snapshot.now c.args.entry.0 c.params.result.now c.full_box-within.result ends (cond_of c.args.assumed.now) c.in_ok-table.table.rows c.in_ok-sites.sites c.program.ensures.resolution
    (table.least ends are) (λ first rest e. c.in_ok-sites.ensures first rest (c.as_slice-2.ensures ∙ e))
