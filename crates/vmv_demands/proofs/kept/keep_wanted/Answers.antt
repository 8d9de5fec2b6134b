use Rattle.std.proofs.Common.{◌≤◌, length, arith}
use Rattle.std.specs.List.{filter_map}
use Rattle.vmv_snapshot.specs.View.{stmt_of}
use Rattle.vmv_demands.specs.Back.{results}
use Rattle.vmv_demands.specs.Leads.{led_on, leads_in, insides, asked}
use Rattle.vmv_demands.proofs.Found.{full}
use Rattle.vmv_demands.proofs.kept.keep_wanted.Goals as goal

pub returns-then-len-ge32 : goal.returns-then-len-ge32
returns-then-len-ge32 c = λ before stands.
    let many : 32 ≤ length c.args.kept.now = omega arith in
    full c.args.kept.now (filter_map asked (led_on before (leads_in (results c.args.snapshot.now.codes c.args.proc.0) (insides c.args.snapshot.now.codes c.args.proc.0) c.args.proc (stmt_of c.args.stmt.now)))) many
