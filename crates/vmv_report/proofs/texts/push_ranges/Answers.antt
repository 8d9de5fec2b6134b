use Rattle.std.proofs.lemmas.Slice.Zip.{either_empty_from_Zip}
use Rattle.vmv_report.proofs.Reporting.{ranges_written}
use Rattle.vmv_report.proofs.texts.push_ranges.Goals as goal

pub returns : goal.returns
returns c =
    ranges_written c.loop-param.param-iterator.a.rest.now c.loop-param.param-iterator.b.rest.now _ _
    (either_empty_from_Zip c.loop-param.param-iterator c.next.new.self c.next.result c.in-None.is c.next.ensures.steps) c.loop-param.invariant
