use Rattle.std.proofs.Common.{List, Option, length, ap, ◌∙◌, arith, subst}
use Rattle.vmv_tree.specs.declared.site.NamedSite.{NamedSite}
use Rattle.vmv_tree.specs.declared.tree.Param.{Param}
use Rattle.vmv_back.proofs.Params.{entry_params}
use Rattle.vmv_cert.specs.Tables.{ranges_of}
use Rattle.vmv_proof_check.proofs.Seeking.{Finds, full_few, listed_found, none_found}
use Rattle.vmv_proof_check.proofs.shown.rows_found.Goals as goal

pub full_box-within-requires : goal.full_box-within-requires
full_box-within-requires c =
    let good = entry_params _ c.requires.resolution.valid _ _ c.requires.entry c.params.ensures in
    let same = ap (λ (xs : List Param). length xs) c.as_slice.ensures in
    omega (arith, good.0, same)

pub seek-sought-requires : goal.seek-sought-requires
seek-sought-requires c = full_few c.args.revision.now c.args.entry.0 c.params.result.now c.full_box-within.result c.requires.resolution c.requires.entry c.params.ensures (c.full_box-within.ensures ∙ ap ranges_of c.as_slice.ensures)

pub returns-in-Some : goal.returns-in-Some
returns-in-Some c = λ assumed accepted.
    listed_found c.args.revision.now c.args.entry.0 c.params.result.now c.proc_name.result c.full_box-within.result c.seek-sought.result c.args.rows.now c.in-Some.sites assumed c.params.ensures c.proc_name.ensures (c.full_box-within.ensures ∙ ap ranges_of c.as_slice.ensures) c.seek-sought.ensures
    (subst (λ (o : Option (List NamedSite)). Finds c.seek-sought.result c.args.rows.now o) c.in-Some.is c.in_ok-sites.ensures) accepted

pub returns-in-None : goal.returns-in-None
returns-in-None c = λ assumed accepted.
    none_found c.args.revision.now c.args.entry.0 c.params.result.now c.proc_name.result c.full_box-within.result c.seek-sought.result c.args.rows.now assumed c.params.ensures c.proc_name.ensures (c.full_box-within.ensures ∙ ap ranges_of c.as_slice.ensures) c.seek-sought.ensures
    (subst (λ (o : Option (List NamedSite)). Finds c.seek-sought.result c.args.rows.now o) c.in-None.is c.in_ok-sites.ensures) accepted
