use Rattle.std.proofs.Common.{arith}
use Rattle.vmv_text.proofs.Naming.{text_names}
use Rattle.vmv_source.proofs.Within.{defect_within}
use Rattle.vmv_source.proofs.reading.defect_in.Goals as goal

pub unreachable-requires : goal.unreachable-requires
unreachable-requires c =
    let program = c.requires.first.0 in
    let names = text_names c.args.text.now program c.requires.first.1 in
    let within = defect_within program c.args.mention c.args.defect c.requires.first.2.there in
    let none = c.in-None.ensures.none in
    omega arith
