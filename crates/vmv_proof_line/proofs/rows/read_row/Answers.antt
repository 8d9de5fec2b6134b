use Rattle.std.proofs.Common.{[]}
use Rattle.vmv_proof_text.specs.Parts.{row_part}
use Rattle.vmv_proof_text.specs.Lines.{IsLine}
use Rattle.vmv_proof_text.specs.Loose.{IsLoosely}
use Rattle.vmv_proof_line.specs.declared.rows.RowHead.{RowHead}
use Rattle.vmv_proof_line.proofs.Fields.{untold}
use Rattle.vmv_proof_line.proofs.rows.read_row.Goals as goal

pub returns-in-None : goal.returns-in-None
returns-in-None c =
    untold {A = RowHead} (λ x. IsLine (row_part x.proc x.loops)) (λ x. IsLoosely (row_part x.proc x.loops)) c.args.line.now c.is_row_loosely.result c.fault_of.result c.fault_of.ensures c.in-None.ensures
    (λ t. (record { proc = []; loops = 0 }, c.is_row_loosely.ensures.0 t)) (λ head h. c.is_row_loosely.ensures.1 h)
