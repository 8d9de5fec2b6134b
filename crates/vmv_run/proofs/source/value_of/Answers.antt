use Rattle.std.proofs.Common.{rules, ◌≡◌, true, false, pos, get_or, arith, w64, min, length, ◌≤◌}
use Rattle.std.specs.Prelude.{FitsSigned}
use Rattle.std.specs.Str.{bytes_eq}
use Rattle.std.proofs.lemmas.Int.{to_z-of_z}
use Rattle.vmv_run.proofs.Sources.{value_here, value_past, value_none}
use Rattle.vmv_run.proofs.source.value_of.Goals as goal

pub returns : goal.returns
returns c =
    let few : min (length c.args.names.now) (length c.args.values.now) ≤ c.loop-i.i = search rules in
    value_none c.args.names.now c.args.values.now c.loop-i.i c.args.name.now few c.loop-i.invariant

pub returns-then-eq : goal.returns-then-eq
returns-then-eq c =
    let fits : FitsSigned w64 (get_or c.args.values.now c.loop-i.i (pos 0)) = search rules in
    let same : bytes_eq c.index-names-i.result c.args.name.now ≡ true = search rules in
    value_here c.args.names.now c.args.values.now c.loop-i.i c.index-names-i.result c.args.name.now _ same (omega arith) (omega arith) c.index-names-i.is (to_z-of_z w64 _ fits) c.loop-i.invariant

pub loop-i-preserved : goal.loop-i-preserved
loop-i-preserved c =
    let other : bytes_eq c.index-names-i.result c.args.name.now ≡ false = search rules in
    value_past c.args.names.now c.args.values.now c.loop-i.i c.index-names-i.result c.args.name.now other (omega arith) (omega arith) c.index-names-i.is c.loop-i.invariant
