use Rattle.std.proofs.Common.{◌≡◌, Err, ap}
use Rattle.vmv_text.specs.declared.fault.ReadFault.TheVariants as reading
use Rattle.vmv_source.proofs.reading.parse.Goals as goal

pub returns-clause-fault : goal.returns-clause-fault
returns-clause-fault c = c.of_reading.ensures.fault c.args.text.now c.in-Err.ensures.fault

pub returns-clause-not_utf8 : goal.returns-clause-not_utf8
returns-clause-not_utf8 c = λ short at valid.
    let e = c.read_program.ensures.not_utf8 short at valid in
    let f = c.in-Err.is in
    let g : c.in-Err.fault ≡ reading.NotUtf8 at = cc in
    ap Err (c.of_reading.ensures.not_utf8 at g)

pub returns-in-Ok-clause-not_utf8 : goal.returns-in-Ok-clause-not_utf8
returns-in-Ok-clause-not_utf8 c = λ short at valid. let e = c.read_program.ensures.not_utf8 short at valid in let f = c.in-Ok-Whole.is in absurd cc

pub returns-in-Err-Defect-clause-not_utf8 : goal.returns-in-Err-Defect-clause-not_utf8
returns-in-Err-Defect-clause-not_utf8 c = λ short at valid. let e = c.read_program.ensures.not_utf8 short at valid in let f = c.in-Ok-Whole.is in absurd cc

pub returns-in-Ok-Whole-clause-not_utf8 : goal.returns-in-Ok-Whole-clause-not_utf8
returns-in-Ok-Whole-clause-not_utf8 c = λ short at valid. let e = c.read_program.ensures.not_utf8 short at valid in let f = c.in-Ok-Whole.is in absurd cc

pub returns-in-Ok-first_defect_of_deep-clause-not_utf8 : goal.returns-in-Ok-first_defect_of_deep-clause-not_utf8
returns-in-Ok-first_defect_of_deep-clause-not_utf8 c = λ short at valid. let e = c.read_program.ensures.not_utf8 short at valid in let f = c.in-Ok-Deep.is in absurd cc

pub returns-in-Ok-Deep-clause-not_utf8 : goal.returns-in-Ok-Deep-clause-not_utf8
returns-in-Ok-Deep-clause-not_utf8 c = λ short at valid. let e = c.read_program.ensures.not_utf8 short at valid in let f = c.in-Ok-Deep.is in absurd cc
