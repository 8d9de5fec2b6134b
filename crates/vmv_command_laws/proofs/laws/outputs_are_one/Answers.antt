use Rattle.vmv_command_laws.proofs.Rechecking.{no_proof_fault}
use Rattle.vmv_command_laws.proofs.Outputs.{outputs_once}
use Rattle.vmv_command_laws.proofs.laws.outputs_are_one.Goals as goal

pub returns : goal.returns
returns c =
    outputs_once
    (record {
      asked = c.words_ask_for_one_thing.ensures;
      of_texts = record { programs = c.one_program.ensures; faults = c.a_text_has_one_fault.ensures; no_fault = c.valid_texts_have_no_fault.ensures };
      of_witnesses = record {
        witnesses = c.a_witness_text_has_one_witness.ensures;
        faults = c.a_witness_text_is_at_fault_once.ensures;
        no_fault = c.a_witness_text_has_no_fault.ensures;
        fits = c.a_witness_fits_in_one_way.ensures;
        findings = c.one_finding.ensures;
      };
      of_reviews = record {
        resolutions = c.resolutions_are_unique.ensures;
        needed = c.one_thing_is_necessary.ensures;
        baselines = c.baselines_are_unique.ensures;
        reports = c.reports_are_unique.ensures;
        proofs = c.proofs_are_unique.ensures;
      };
      of_proofs = record {
        read = c.a_text_is_of_one_proof.ensures;
        faults = c.a_text_departs_once.ensures.once;
        no_fault = no_proof_fault c.a_text_departs_once.ensures.syntax c.a_text_departs_once.ensures.range;
        answers = c.proofs_have_one_answer.ensures;
      };
      of_samples = c.sample_texts_are_short.ensures;
    })
