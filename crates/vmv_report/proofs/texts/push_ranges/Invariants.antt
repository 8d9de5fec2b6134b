use Rattle.std.proofs.Common.{◌≡◌, ◌++◌, zip}
use Rattle.std.specs.List.{flat_map}
use Rattle.vmv_report.specs.Texts.{param_range}
use Rattle.vmv_report.proofs.texts.push_ranges.Given as goal

abbrev pub invariant-loop-param : goal.invariant-loop-param
invariant-loop-param l = l.out.items ++ flat_map param_range (zip l.param-iterator.a.rest.now l.param-iterator.b.rest.now) ≡ l.fn.out.items ++ flat_map param_range (zip l.params l.ranges)
