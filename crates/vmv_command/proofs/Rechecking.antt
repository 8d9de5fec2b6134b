-- Where the check of a proof has status 0, the revision is relatively correct.
use Rattle.std.proofs.Common.{◌≡◌, ◌≢◌, inl, inr, ⊎_elim, ℕ, ◌==◌, nat_lt, Bool, true, false, if◌then◌else◌, Option, Some, List, length, codes, refl, sym, subst, ◌∙◌}
use Rattle.std.specs.Prelude.{Result, Ok, Err}
use Rattle.std.specs.Result.{IfOk}
use Rattle.std.specs.declared.alloc.AllocError.{AllocError}
use Rattle.std.proofs.lemmas.Bool.{eqb-true}
use Rattle.vmv_tree.specs.declared.defect.Defect.{Defect}
use Rattle.vmv_tree.specs.declared.defect.Defect.TheVariants.{UnknownName, Repeated, ArityWrong, IndexAssigned, RangeEmpty, Limit}
use Rattle.vmv_tree.specs.Tree.{Item}
use Rattle.vmv_tree.specs.Safe.{RelCorrect}
use Rattle.vmv_snapshot.specs.Resolution.{Resolution, IsResolution, tree_of}
use Rattle.vmv_text.specs.Grammar.{IsText}
use Rattle.vmv_text.proofs.OneTree.{text_once}
use Rattle.vmv_source.specs.declared.fault.TextFault.{TextFault}
use Rattle.vmv_source.specs.declared.fault.TextFault.TheVariants as fault
use Rattle.vmv_words.specs.Words.{Word, Request, recheck, Asks}
use Rattle.vmv_proof.specs.declared.proof.Proof.{Proof}
use Rattle.vmv_proof_read.specs.declared.fault.ProofFault.{ProofFault}
use Rattle.vmv_proof_read.specs.declared.fault.ProofFault.TheVariants as proof_fault
use Rattle.vmv_proof_check.specs.declared.claims.Claims.{Claims}
use Rattle.vmv_proof_read.specs.Why.{AreFew}
use Rattle.vmv_proof_check.specs.declared.claims.Part.{Part}
use Rattle.vmv_proof_check.specs.Proofs.{IsProofAccepted, IsProofRefused, IsSmall}
use Rattle.vmv_command.specs.declared.output.Output.{Output}
use Rattle.vmv_command.specs.Lines.{SaysTooLong}
use Rattle.vmv_command.specs.Faults.{SaysFault, fault_status, defect_status}
use Rattle.vmv_command.specs.Rechecks.{proof_fault_status, accepted_status, SaysRefused, ChecksProof, RechecksPrograms, RechecksProof, RechecksTexts}
use Rattle.vmv_command.specs.Command.{text_most, proof_most, OnFile, Does, ProofHolds}
use Rattle.vmv_command.proofs.Verdict.{on_told, cases, AskOnce}

-- an accepted proof that leaves no row
abbrev pub ProofsHold : Type 0
ProofsHold =
    (base revision : Resolution) (proof : Proof) (claims : Claims) → IsResolution base → IsResolution revision → IsProofAccepted base revision proof claims → claims.left ≡ 0 → RelCorrect (tree_of base) (tree_of revision)

-- a proof that was read may be checked
pub small_of : (p : Proof) → AreFew p → IsSmall p
small_of p h = record { exclusions = h.exclusions; shown = h.shown; excluding = h.excluding; plain = h.plain; given = h.given }

-- the line of a proof that is refused is what its check prints
pub refused_so : (base revision : Resolution) (proof : Proof) (part : Part) (row step : ℕ) (r : Result Output AllocError) → IsResolution base → IsResolution revision
    → IsProofRefused base revision proof part row step → IfOk r (λ o. SaysRefused part row step o.text o.status) → IfOk r (λ o. RechecksPrograms (tree_of base) (tree_of revision) proof o.text o.status)
refused_so base revision proof part row step (Err error) base_is revision_is refused says = tt
refused_so base revision proof part row step (Ok o) base_is revision_is refused says = record {
  base_code = base;
  base_is = record { tree = refl; resolution = base_is };
  revision_code = revision;
  revision_is = record { tree = refl; resolution = revision_is };
  checks = inr (part, row, step, refused, says);
}

defect_is_not : (d : Defect) → defect_status d ≡ 0 → ⊥
defect_is_not UnknownName e = absurd (cc)
defect_is_not Repeated e = absurd (cc)
defect_is_not ArityWrong e = absurd (cc)
defect_is_not IndexAssigned e = absurd (cc)
defect_is_not RangeEmpty e = absurd (cc)
defect_is_not (Limit which found most) e = absurd (cc)

-- no fault has the status 0
fault_is_not : (why : TextFault) → fault_status why ≡ 0 → ⊥
fault_is_not (fault.NotUtf8 at) e = absurd (cc)
fault_is_not (fault.Syntax at column) e = absurd (cc)
fault_is_not (fault.Defect at column d) e = defect_is_not d e
fault_is_not (fault.TooLong found) e = absurd (cc)
fault_is_not fault.Memory e = absurd (cc)

says_not : (name : List ℕ) (why : TextFault) (printed : List ℕ) (status : ℕ) → SaysFault name why printed status → status ≡ 0 → ⊥
says_not name why printed status says is = fault_is_not why (sym says.1 ∙ is)

proof_fault_is_not : (why : ProofFault) → proof_fault_status why ≡ 0 → ⊥
proof_fault_is_not (proof_fault.Syntax at) e = absurd (cc)
proof_fault_is_not (proof_fault.Range at) e = absurd (cc)
proof_fault_is_not (proof_fault.Limit found) e = absurd (cc)
proof_fault_is_not proof_fault.Memory e = absurd (cc)

long_not : (called printed : List ℕ) (most status : ℕ) → SaysTooLong called most printed status → status ≡ 0 → ⊥
long_not called printed most status says is = let e = sym says.1 ∙ is in absurd (cc)

abbrev status_by : Bool → ℕ
status_by none = if none then 0 else 1

yes_of : (b : Bool) → status_by b ≡ 0 → b ≡ true
yes_of true e = refl
yes_of false e = absurd (cc)

none_left : (left : ℕ) → accepted_status left ≡ 0 → left ≡ 0
none_left left e = eqb-true left 0 (yes_of (left == 0) e)

checks_hold : ProofsHold → (base revision : Resolution) (proof : Proof) (printed : List ℕ) (status : ℕ) → IsResolution base → IsResolution revision → ChecksProof base revision proof printed status → status ≡ 0 →
    RelCorrect (tree_of base) (tree_of revision)
checks_hold law base revision proof printed status base_is revision_is (inl (claims, accepted, says)) is =
    law base revision proof claims base_is revision_is accepted (none_left claims.left (sym says.1 ∙ is))
checks_hold law base revision proof printed status base_is revision_is (inr (part, row, step, refused, says)) is = let e = sym says.1 ∙ is in absurd (cc)

programs_hold : ProofsHold → (B R : List Item) (proof : Proof) (printed : List ℕ) (status : ℕ) → RechecksPrograms B R proof printed status → status ≡ 0 → RelCorrect B R
programs_hold law B R proof printed status h is =
    let correct = checks_hold law h.base_code h.revision_code proof printed status h.base_is.resolution h.revision_is.resolution h.checks is in
    subst (λ (P : List Item). RelCorrect P R) h.base_is.tree (subst (λ (P : List Item). RelCorrect (tree_of h.base_code) P) h.revision_is.tree correct)

proof_holds : ProofsHold → (proof : List ℕ) (B R : List Item) (printed : List ℕ) (status : ℕ) → RechecksProof proof B R printed status → status ≡ 0 → RelCorrect B R
proof_holds law proof B R printed status (inl (why, has, says)) is = absurd (proof_fault_is_not why (sym says.1 ∙ is))
proof_holds law proof B R printed status (inr (p, text, checks)) is = programs_hold law B R p printed status checks is

texts_hold : ProofsHold → (base revision proof : List ℕ) (B R : List Item) (printed : List ℕ) (status : ℕ) → RechecksTexts base revision proof printed status → IsText base B → IsText revision R →
    status ≡ 0 → RelCorrect B R
texts_hold law base revision proof B R printed status (inl (why, has, says)) text text' is = absurd (says_not (codes "base") why printed status says is)
texts_hold law base revision proof B R printed status (inr (C, source, (inl (why, has, says)))) text text' is = absurd (says_not (codes "revision") why printed status says is)
texts_hold law base revision proof B R printed status (inr (C, source, (inr (P, source', checks)))) text text' is =
    subst (λ (Q : List Item). RelCorrect Q R) (text_once base C B source.0 text)
    (subst (λ (Q : List Item). RelCorrect C Q) (text_once revision P R source'.0 text') (proof_holds law proof C P printed status checks is))

-- a file that was read isn't too long
was_read : (told : Word → Option (List ℕ)) (name called : List ℕ) (most : ℕ) (Next : List ℕ → List ℕ → ℕ → Type 0) (printed : List ℕ) (status : ℕ) → OnFile told name called most Next printed status → status ≡ 0 →
    (text : List ℕ) × Next text printed status
was_read told name called most Next printed status (text, as_told, branch) is =
    ⊎_elim
    (λ (long : SaysTooLong called most printed status). absurd (long_not called printed most status long is))
    (λ (next : Next text printed status). (text, next))
    (cases (nat_lt most (length text)) _ _ branch)

files_hold : ProofsHold → (told : Word → Option (List ℕ)) (base_name revision_name proof_name base revision : List ℕ) (B R : List Item) (printed : List ℕ) (status : ℕ) → told base_name ≡ Some base
    → told revision_name ≡ Some revision → Does told (recheck base_name revision_name proof_name) printed status → IsText base B → IsText revision R → status ≡ 0 → RelCorrect B R
files_hold law told base_name revision_name proof_name base revision B R printed status told_b told_r done text text' is =
    ⊎_elim
    (λ (long : SaysTooLong (codes "base") text_most printed status). absurd (long_not (codes "base") printed text_most status long is))
    (λ (read : OnFile told revision_name (codes "revision") text_most (λ r. OnFile told proof_name (codes "proof") proof_most (RechecksTexts base r)) printed status). ⊎_elim
    (λ (long : SaysTooLong (codes "revision") text_most printed status). absurd (long_not (codes "revision") printed text_most status long is))
    (λ (both : OnFile told proof_name (codes "proof") proof_most (RechecksTexts base revision) printed status).
    let proof = was_read told proof_name (codes "proof") proof_most (RechecksTexts base revision) printed status both is in
    texts_hold law base revision proof.0 B R printed status proof.1 text text' is)
    (on_told told revision_name (codes "revision") text_most (λ r. OnFile told proof_name (codes "proof") proof_most (RechecksTexts base r)) revision printed status told_r read))
    (on_told told base_name (codes "base") text_most (λ b. OnFile told revision_name (codes "revision") text_most (λ r. OnFile told proof_name (codes "proof") proof_most (RechecksTexts b r))) base printed status told_b
    done)

-- whatever was asked for
pub accepted_holds : ProofsHold → AskOnce → (request : Request) (words : List Word) (told : Word → Option (List ℕ)) (text : List ℕ) (status result : ℕ) → Asks words request → Does told request text status →
    (result ≢ 7 → result ≡ status) → ProofHolds words told result
accepted_holds law once request words told text status result asks done same b r base revision B R (proof_name, asks') told_b told_r text_b text_r zero =
    let asked : request ≡ recheck b r proof_name = once words request (recheck b r proof_name) asks asks' in
    let whole : result ≢ 7 = λ e. not_seven result zero e in
    files_hold law told b r proof_name base revision B R text status told_b told_r (subst (λ (q : Request). Does told q text status) asked done) text_b text_r (sym (same whole) ∙ zero)
  where
    not_seven : (n : ℕ) → n ≡ 0 → n ≡ 7 → ⊥
    not_seven n none seven = absurd (cc)
