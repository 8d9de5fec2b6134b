use Rattle.vmv_text.proofs.laws.no_program_at_fault.Goals as goal

pub returns : goal.returns
returns c = λ bytes line column p f h. f.fault.no_program p h.grammar
