-- A normal state is below a state exactly where it is below its norm.
use Rattle.std.proofs.Common.{◌≡◌, ◌↔◌, ℕ, Some, map, slice_get, sym, ap, ◌∙◌}
use Rattle.std.specs.List.{Contains}
use Rattle.vmv_tree.specs.Run.{name_of}
use Rattle.vmv_snapshot.specs.Resolution.{procs_of}
use Rattle.vmv_zone.specs.declared.zone.Zone.{Zone}
use Rattle.vmv_zone.specs.Zone.{vars_of, IsBelow, IsNormal, IsNormOf}
use Rattle.vmv_zone.proofs.States.{below_trans}
use Rattle.vmv_cert.specs.declared.row.Row.{Row}
use Rattle.vmv_cert.specs.Walk.{Walk, IsMatch}
use Rattle.vmv_check.specs.Walker.{HasParams}
use Rattle.vmv_check.proofs.Lists.{some_same}

pub match_by_norm : (w : Walk) (callee : ℕ) (args norm : Zone) (row : Row) → IsNormal args → HasParams w.program callee (vars_of args) → IsNormOf row.input norm →
    IsMatch w callee args row ↔ (Contains w.rows row × (slice_get (map name_of (procs_of w.program)) callee ≡ Some row.proc) × (vars_of row.input ≡ vars_of args) × IsBelow args norm)
match_by_norm w callee args norm row normal params is = (
  λ m.
      let vars : row.input.vars ≡ args.vars = some_same (sym m.over ∙ params) in
      (m.one, m.named, vars, is.greatest args (sym vars) normal m.above),
  λ (one, named, vars, below). record {
    one = one;
    named = named;
    over = params ∙ ap (λ n. Some n) (sym vars);
    above = below_trans args norm row.input is.vars below is.below;
  },
)
