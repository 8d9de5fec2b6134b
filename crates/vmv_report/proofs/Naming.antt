-- The name and the parameters of a procedure, read from its program.
use Rattle.std.proofs.Common.{◌≡◌, ℕ, Some, List, [], map, slice_get, unwrap_or, ap}
use Rattle.vmv_tree.specs.declared.name.Name.{Name}
use Rattle.vmv_tree.specs.declared.tree.Param.{Param}
use Rattle.vmv_tree.specs.Run.{name_of}
use Rattle.vmv_snapshot.specs.Procs.{params_of}
use Rattle.vmv_snapshot.specs.Resolution.{Resolution, procs_of}
use Rattle.vmv_tree.specs.declared.site.NamedSite.{NamedSite}
use Rattle.vmv_snapshot.specs.declared.code.SiteId.{SiteId}
use Rattle.vmv_report.specs.Rows.{proc_name, named_site}
use Rattle.vmv_report.specs.Texts.{proc_params}

pub name_read : (program : Resolution) (n : ℕ) (name : Name) → slice_get (map name_of (procs_of program)) n ≡ Some name → proc_name program n ≡ name
name_read program n name e = ap (λ o. unwrap_or o []) e

pub params_read : (program : Resolution) (n : ℕ) (params : List Param) → slice_get (map params_of (procs_of program)) n ≡ Some params → proc_params program n ≡ params
params_read program n params e = ap (λ o. unwrap_or o []) e

pub named_read : (program : Resolution) (site : SiteId) (name : Name) → slice_get (map name_of (procs_of program)) site.proc.0 ≡ Some name → named_site program site ≡ record { proc = name; index = site.index }
named_read program site name e =
    let named : Name → NamedSite = λ x. record { proc = x; index = site.index } in
    ap named (name_read program site.proc.0 name e)
