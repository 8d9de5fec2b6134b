-- The laws below: what texts, programs and reviews determine is one thing.
use Rattle.std.proofs.Common.{◌≡◌, ◌≢◌, ℕ, ◌≤◌, ℤ, List, length}
use Rattle.std.specs.Prelude.{Result}
use Rattle.vmv_tree.specs.declared.name.Name.{Name}
use Rattle.vmv_tree.specs.Tree.{Item}
use Rattle.vmv_tree.specs.Run.{Answers}
use Rattle.vmv_tree.specs.Valid.{Valid}
use Rattle.vmv_text.specs.Grammar.{IsText}
use Rattle.vmv_source.specs.declared.fault.TextFault.{TextFault}
use Rattle.vmv_source.specs.declared.fault.TextFault.TheVariants as text_fault
use Rattle.vmv_source.specs.Faults.{IsTextFault}
use Rattle.vmv_words.specs.Words.{Word, Request, Asks}
use Rattle.vmv_snapshot.specs.declared.code.ProcId.{ProcId}
use Rattle.vmv_snapshot.specs.Resolution.{Resolution, IsResolution, tree_of}
use Rattle.vmv_run.specs.declared.outcome.Outcome.{Outcome}
use Rattle.vmv_run.specs.Replay.{IsReplay}
use Rattle.vmv_witness.specs.declared.witness.Witness.{Witness}
use Rattle.vmv_witness.specs.declared.fault.WitnessFault.{WitnessFault}
use Rattle.vmv_witness.specs.declared.fault.WitnessFault.TheVariants as witness_fault
use Rattle.vmv_witness.specs.declared.fitting.Unfit.{Unfit}
use Rattle.vmv_witness.specs.Text.{IsTextOf}
use Rattle.vmv_witness.specs.Faults.{IsWhy}
use Rattle.vmv_witness.specs.Fit.{Fits}
use Rattle.vmv_need.specs.declared.subject.Scope.{Scope}
use Rattle.vmv_need.specs.declared.needed.Needed.{Needed}
use Rattle.vmv_need.specs.Needed.{IsFound}
use Rattle.vmv_report.specs.declared.report.Report.{Report}
use Rattle.vmv_report.specs.Baselines.{Based, IsBaseline}
use Rattle.vmv_report.specs.Reports.{IsReport}
use Rattle.vmv_proof.specs.declared.proof.Proof.{Proof}
use Rattle.vmv_review_proof.specs.Proofs.{IsProofOf}
use Rattle.vmv_proof_text.specs.Faults.{IsProofText}
use Rattle.vmv_proof_read.specs.declared.fault.ProofFault.{ProofFault}
use Rattle.vmv_proof_read.specs.declared.fault.ProofFault.TheVariants as proof_fault
use Rattle.vmv_proof_read.specs.Why.{IsWhy as IsProofWhy}
use Rattle.vmv_proof_check.specs.declared.claims.Claims.{Claims}
use Rattle.vmv_proof_check.specs.declared.claims.ProofRefused.{ProofRefused}
use Rattle.vmv_proof_check_laws.specs.Answers.{IsAnswer}
use Rattle.vmv_print.specs.Canonical.{canonical}
use Rattle.vmv_sample.specs.Sample.{sample_program}

-- the texts of programs
pub record OfTexts : Type 0 where
  pub programs : (text : List ℕ) (one other : List Item) → IsText text one → IsText text other → one ≡ other
  pub faults : (text : List ℕ) (one other : TextFault) → IsTextFault text one → IsTextFault text other → one ≢ text_fault.Memory → other ≢ text_fault.Memory → one ≡ other
  pub no_fault : (text : List ℕ) (program : List Item) (why : TextFault) → length text ≤ 1048576 → IsText text program → Valid program → IsTextFault text why → why ≡ text_fault.Memory

-- the texts of witnesses, and what is found of a witness
pub record OfWitnesses : Type 0 where
  pub witnesses : (text : List ℕ) (one other : Witness) → IsTextOf text one → IsTextOf text other → one ≡ other
  pub faults : (text : List ℕ) (one other : WitnessFault) → IsWhy text one → IsWhy text other → one ≢ witness_fault.Memory → other ≢ witness_fault.Memory → one ≡ other
  pub no_fault : (text : List ℕ) (w : Witness) (why : WitnessFault) → length text ≤ 1048576 → IsTextOf text w → IsWhy text why → why ≡ witness_fault.Memory
  pub fits : (program : List Item) (w : Witness) (one other : Result ProcId Unfit) → Valid program → Fits program w one → Fits program w other → one ≡ other
  pub findings : (program : List Item) (proc : Name) (words : List ℤ) (answers : Answers) (one other : Outcome) → Valid program → IsReplay program proc words answers one → IsReplay program proc words answers other → one ≡ other

-- reviews
pub record OfReviews : Type 0 where
  pub resolutions : (one other : Resolution) → IsResolution one → IsResolution other → tree_of one ≡ tree_of other → one ≡ other
  pub needed : (program : Resolution) (scope : Scope) (one other : Needed) → IsResolution program → IsFound program scope one → IsFound program scope other → one ≡ other
  pub baselines : (one other : Based) → one.base ≡ other.base → IsBaseline one → IsBaseline other → one ≡ other
  pub reports : (base revision : Resolution) (one other : Report) → IsResolution base → IsReport base revision one → IsReport base revision other → one ≡ other
  pub proofs : (base revision : Resolution) (one other : Proof) → IsResolution base → IsResolution revision → IsProofOf base revision one → IsProofOf base revision other → one ≡ other

-- the texts of proofs, and their check
pub record OfProofs : Type 0 where
  pub read : (text : List ℕ) (one other : Proof) → IsProofText text one → IsProofText text other → one ≡ other
  pub faults : (text : List ℕ) (one other : ProofFault) → IsProofWhy text one → IsProofWhy text other → one ≢ proof_fault.Memory → other ≢ proof_fault.Memory → one ≡ other
  pub no_fault : (text : List ℕ) (proof : Proof) (why : ProofFault) → length text ≤ 67108864 → IsProofText text proof → IsProofWhy text why → why ≡ proof_fault.Memory
  pub answers : (base revision : Resolution) (proof : Proof) (one other : Result Claims ProofRefused) → IsResolution base → IsResolution revision → IsAnswer base revision proof one → IsAnswer base revision proof other → one ≡ other

-- all of them, and words
pub record AreOne : Type 0 where
  pub asked : (words : List Word) (one other : Request) → Asks words one → Asks words other → one ≡ other
  pub of_texts : OfTexts
  pub of_witnesses : OfWitnesses
  pub of_reviews : OfReviews
  pub of_proofs : OfProofs
  pub of_samples : (more : ℕ) → more ≤ 2 → length (canonical (sample_program more)) ≤ 1048576
