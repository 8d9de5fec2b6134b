-- The check of three texts has one output.
use Rattle.std.proofs.Common.{◌≡◌, inl, inr, ℕ, ◌≤◌, List, ◌++◌, length, codes, refl, sym, subst, arith, ◌∙◌}
use Rattle.std.specs.Prelude.{Result, Ok, Err}
use Rattle.vmv_tree.specs.Tree.{Item}
use Rattle.vmv_snapshot.specs.Resolution.{Resolution, IsResolution}
use Rattle.vmv_proof.specs.declared.proof.Proof.{Proof}
use Rattle.vmv_proof_text.specs.Faults.{IsProofText, SyntaxAt, RangeAt}
use Rattle.vmv_proof_read.specs.declared.fault.ProofFault.{ProofFault}
use Rattle.vmv_proof_read.specs.declared.fault.ProofFault.TheVariants.{Syntax, Range, Limit, Memory}
use Rattle.vmv_proof_read.specs.Why.{IsWhy}
use Rattle.vmv_proof_check.specs.declared.claims.Claims.{Claims}
use Rattle.vmv_proof_check.specs.declared.claims.Part.{Part}
use Rattle.vmv_proof_check.specs.declared.claims.ProofRefused.{ProofRefused}
use Rattle.vmv_proof_check.specs.declared.claims.ProofRefused.TheVariants.{At}
use Rattle.vmv_report.specs.Texts.{line}
use Rattle.vmv_command.specs.Faults.{OnProgram}
use Rattle.vmv_command.specs.Rechecks.{SaysProofFault, SaysAccepted, part_text, place_text, ChecksProof, RechecksPrograms, RechecksProof, RechecksTexts}
use Rattle.vmv_command.specs.Command.{text_most, proof_most}
use Rattle.vmv_command_laws.proofs.Determined.{OfTexts, OfReviews, OfProofs}
use Rattle.vmv_command_laws.proofs.Files.{IsOne, program_once}

-- the text of a proof has no fault
pub no_proof_fault : ((text : List ℕ) (n : ℕ) (p : Proof) → SyntaxAt text n → IsProofText text p → ⊥) → ((text : List ℕ) (n : ℕ) (p : Proof) → RangeAt text n → IsProofText text p → ⊥)
    → (text : List ℕ) (proof : Proof) (why : ProofFault) → length text ≤ 67108864 → IsProofText text proof → IsWhy text why → why ≡ Memory
no_proof_fault syntax range text proof (Syntax n) short is h = absurd (syntax text n proof h.1 is)
no_proof_fault syntax range text proof (Range n) short is h = absurd (range text n proof h.1 is)
no_proof_fault syntax range text proof (Limit found) short is h = absurd (let long = h.0 in omega (arith, short, long))
no_proof_fault syntax range text proof Memory short is h = refl

proof_fault_once : (why : ProofFault) → IsOne (SaysProofFault why)
proof_fault_once why p q s t h g = (h.0 ∙ sym g.0, h.1 ∙ sym g.1)

accepted_once : (claims : Claims) → IsOne (SaysAccepted claims)
accepted_once claims p q s t h g = (h.0 ∙ sym g.0, h.1 ∙ sym g.1)

-- answers that are the same
claims_same : (claims other : Claims) → ◌≡◌ {A = Result Claims ProofRefused} (Ok claims) (Ok other) → claims ≡ other
claims_same claims other e = cc

not_both : (claims : Claims) (part : Part) (row step : ℕ) → ◌≡◌ {A = Result Claims ProofRefused} (Ok claims) (Err (At part row step)) → ⊥
not_both claims part row step e = cc

refusal_same : (part part' : Part) (row row' step step' : ℕ) → ◌≡◌ {A = Result Claims ProofRefused} (Err (At part row step)) (Err (At part' row' step')) → (part ≡ part') × (row ≡ row') × (step ≡ step')
refusal_same part part' row row' step step' e = (let a : part ≡ part' = cc e in a, let b : row ≡ row' = cc e in b, let c : step ≡ step' = cc e in c)

module _ (laws : OfProofs) where
  checked_once : (base revision : Resolution) (proof : Proof) → IsResolution base → IsResolution revision → IsOne (ChecksProof base revision proof)
  checked_once base revision proof is_base is_revision p q s t (inl (claims, ok, says)) (inl (claims', ok', says')) =
      let same = claims_same claims claims' (laws.answers base revision proof (Ok claims) (Ok claims') is_base is_revision ok ok') in
      accepted_once claims' p q s t (subst (λ (c : Claims). SaysAccepted c p s) same says) says'
  checked_once base revision proof is_base is_revision p q s t (inl (claims, ok, says)) (inr (part, row, step, not, says')) =
      absurd (not_both claims part row step (laws.answers base revision proof (Ok claims) (Err (At part row step)) is_base is_revision ok not))
  checked_once base revision proof is_base is_revision p q s t (inr (part, row, step, not, says)) (inl (claims, ok, says')) =
      absurd (not_both claims part row step (laws.answers base revision proof (Ok claims) (Err (At part row step)) is_base is_revision ok not))
  checked_once base revision proof is_base is_revision p q s t (inr (part, row, step, not, says)) (inr (part', row', step', not', says')) =
      let same = refusal_same part part' row row' step step' (laws.answers base revision proof (Err (At part row step)) (Err (At part' row' step')) is_base is_revision not not') in
      let text : line (codes "refused " ++ (part_text part ++ place_text row step)) ≡ line (codes "refused " ++ (part_text part' ++ place_text row' step')) =
      λ i. line (codes "refused " ++ (part_text (same.0 i) ++ place_text (same.1 i) (same.2 i))) in
      (says.0 ∙ (text ∙ sym says'.0), says.1 ∙ sym says'.1)

  programs_rechecked_once : OfReviews → (base revision : List Item) (proof : Proof) → IsOne (RechecksPrograms base revision proof)
  programs_rechecked_once reviews base revision proof p q s t h g =
      let bases : h.base_code ≡ g.base_code = reviews.resolutions h.base_code g.base_code h.base_is.resolution g.base_is.resolution (h.base_is.tree ∙ sym g.base_is.tree) in
      let revisions : h.revision_code ≡ g.revision_code =
      reviews.resolutions h.revision_code g.revision_code h.revision_is.resolution g.revision_is.resolution (h.revision_is.tree ∙ sym g.revision_is.tree) in
      let there = subst (λ (b : Resolution). ChecksProof b h.revision_code proof p s) bases h.checks in
      checked_once g.base_code g.revision_code proof g.base_is.resolution g.revision_is.resolution p q s t
      (subst (λ (r : Resolution). ChecksProof g.base_code r proof p s) revisions there) g.checks

  proof_rechecked_once : OfReviews → (text : List ℕ) (base revision : List Item) → length text ≤ proof_most → IsOne (RechecksProof text base revision)
  proof_rechecked_once reviews text base revision short p q s t (inl (why, has, says)) (inl (why', has', says')) =
      let same = laws.faults text why why' has.0 has'.0 has.1 has'.1 in
      proof_fault_once why' p q s t (subst (λ (u : ProofFault). SaysProofFault u p s) same says) says'
  proof_rechecked_once reviews text base revision short p q s t (inl (why, has, says)) (inr (proof, is_text, done)) = absurd (has.1 (laws.no_fault text proof why short is_text has.0))
  proof_rechecked_once reviews text base revision short p q s t (inr (proof, is_text, done)) (inl (why, has, says)) = absurd (has.1 (laws.no_fault text proof why short is_text has.0))
  proof_rechecked_once reviews text base revision short p q s t (inr (proof, is_text, done)) (inr (proof', is_text', done')) =
      let same = laws.read text proof proof' is_text is_text' in
      programs_rechecked_once reviews base revision proof' p q s t (subst (λ (x : Proof). RechecksPrograms base revision x p s) same done) done'

  pub texts_rechecked_once : OfReviews → OfTexts → (base revision proof : List ℕ) → length base ≤ text_most → length revision ≤ text_most → length proof ≤ proof_most → IsOne (RechecksTexts base revision proof)
  texts_rechecked_once reviews texts base revision proof short short' short'' =
      program_once texts (codes "base") base (λ B. OnProgram (codes "revision") revision (RechecksProof proof B)) short
      (λ B source. program_once texts (codes "revision") revision (RechecksProof proof B) short' (λ R source'. proof_rechecked_once reviews proof B R short''))
