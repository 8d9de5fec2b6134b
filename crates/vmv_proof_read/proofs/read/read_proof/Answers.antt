use Rattle.std.proofs.Common.{◌≡◌, ◌+◌, ◌-◌, ◌==◌, length, take, sym, subst, ◌∙◌}
use Rattle.std.specs.Prelude.{Ok, Err, count_by}
use Rattle.std.proofs.lemmas.Bool.{false≢true}
use Rattle.vmv_proof.specs.declared.proof.Proof.{Proof}
use Rattle.vmv_proof_text.specs.Parts.{parts_of_proof}
use Rattle.vmv_proof_line.specs.declared.fault.LineFault.TheVariants.{Form, Size}
use Rattle.vmv_proof_read.specs.Reading.{Reads, Any}
use Rattle.vmv_proof_read.proofs.Counts.{why_form, why_size, why_behind}
use Rattle.vmv_proof_read.proofs.Few.{few_told}
use Rattle.vmv_proof_read.proofs.read.read_proof.Goals as goal

pub returns-then-is_at_end-clause-few : goal.returns-then-is_at_end-clause-few
returns-then-is_at_end-clause-few c = let t = c.in-Ok.ensures.1 in few_told c.in-Ok.proof t.lines t.told

pub returns-else-is_at_end-clause-fault : goal.returns-else-is_at_end-clause-fault
returns-else-is_at_end-clause-fault c =
    let text = c.args.text.now in
    let read = subst (λ t. Reads {A = Proof} Any parts_of_proof t c.read_lines.new.lines (Ok c.in-Ok.proof)) c.new-lines.ensures c.in-Ok.ensures in
    let number = subst (λ r. c.line_number-line.result ≡ count_by (λ b. b == 10) (take (length text - length r) text) + 1) c.rest.ensures c.line_number-line.ensures in
    why_behind text c.read_lines.new.lines c.line_number-line.result c.in-Ok.proof c.if-text-gt-MOST.false read (λ e. false≢true (sym c.if-is_at_end.false ∙ c.is_at_end.ensures.1 e)) number

pub returns-in-Err-Form-clause-fault : goal.returns-in-Err-Form-clause-fault
returns-in-Err-Form-clause-fault c =
    let text = c.args.text.now in
    let told = rw c.in-Err-Form.field-0-is at c.in-Err-Form.ensures in
    let read = subst (λ t. Reads {A = Proof} Any parts_of_proof t c.read_lines.new.lines (Err Form)) c.new-lines.ensures told in
    let number = subst (λ r. c.line_number-line-in-Err-Form.result ≡ count_by (λ b. b == 10) (take (length text - length r) text) + 1) c.rest-in-Err-Form.ensures c.line_number-line-in-Err-Form.ensures in
    why_form text c.read_lines.new.lines c.line_number-line-in-Err-Form.result c.if-text-gt-MOST.false read number

pub returns-in-Err-Size-clause-fault : goal.returns-in-Err-Size-clause-fault
returns-in-Err-Size-clause-fault c =
    let text = c.args.text.now in
    let told = rw c.in-Err-Size.field-0-is at c.in-Err-Size.ensures in
    let read = subst (λ t. Reads {A = Proof} Any parts_of_proof t c.read_lines.new.lines (Err Size)) c.new-lines.ensures told in
    let number = subst (λ r. c.line_number-line-in-Err-Size.result ≡ count_by (λ b. b == 10) (take (length text - length r) text) + 1) c.rest-in-Err-Size.ensures c.line_number-line-in-Err-Size.ensures in
    why_size text c.read_lines.new.lines c.line_number-line-in-Err-Size.result c.if-text-gt-MOST.false read number
