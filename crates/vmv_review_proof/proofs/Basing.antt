-- The proof of a base that has necessary conditions.
use Rattle.std.proofs.Common.{◌≡◌, List, sym, subst, ◌∙◌}
use Rattle.vmv_tree.specs.declared.ends.NameEnds.{NameEnds}
use Rattle.vmv_tree.specs.declared.name.Name.{Name}
use Rattle.vmv_cond.specs.declared.cond.Cond.{Cond}
use Rattle.vmv_snapshot.specs.Resolution.{Resolution}
use Rattle.vmv_assumption.specs.Assumed.{cond_of}
use Rattle.vmv_demands.specs.Ends.{AreEnds}
use Rattle.vmv_need.specs.declared.subject.Scope.{Scope}
use Rattle.vmv_need.specs.declared.cut.Cut.{Cut}
use Rattle.vmv_need.specs.declared.needed.Needed.{Needed}
use Rattle.vmv_need.specs.declared.needed.Needed.TheVariants.{Conditions}
use Rattle.vmv_need.specs.Candidates.{IsScopeOf}
use Rattle.vmv_need.specs.Needed.{IsFound, AreConditions}
use Rattle.vmv_proof.specs.declared.proof.Proof.{Proof}
use Rattle.vmv_proving.specs.Exclusions.{AreRecorded, AreExclusions}
use Rattle.vmv_proving.specs.Shown.{AreShown}
use Rattle.vmv_report.specs.Baselines.{Based, IsBaseline}
use Rattle.vmv_review_proof.specs.Proofs.{IsProofOf}

-- what was found of a base that isn't vacuous
record Known (base : Resolution) (ends : List NameEnds) (held : List (Name × Cond)) (cuts : List Cut) : Type 0 where
  scope : Scope
  scope_is : IsScopeOf base scope
  ends_are : scope.ends ≡ ends
  conditions : AreConditions base scope held cuts

known : (based : Based) (ends : List NameEnds) (held : List (Name × Cond)) (cuts : List Cut) → IsBaseline based → based.needed ≡ Conditions held cuts → AreEnds based.base ends → Known based.base ends held cuts
known based ends held cuts (is, (scope, found)) e are = record {
  scope = scope;
  scope_is = found.scope_is;
  ends_are = found.scope_is.ends ∙ sym are;
  conditions = let P : Needed → Type 0 = λ needed. IsFound based.base scope needed in subst P e found.needed_is;
}

-- its exclusions were recorded
pub recorded : (based : Based) (ends : List NameEnds) (held : List (Name × Cond)) (cuts : List Cut) → IsBaseline based → based.needed ≡ Conditions held cuts → AreEnds based.base ends → AreRecorded based.base ends cuts
recorded based ends held cuts is e are =
    let k = known based ends held cuts is e are in
    record { scope = k.scope; scope_is = k.scope_is; ends_are = k.ends_are; last = cond_of held; recorded = k.conditions.cuts_are }

-- and its proof has these, and what is shown of the revision's entries
pub proof_is : (based : Based) (revision : Resolution) (ends : List NameEnds) (held : List (Name × Cond)) (cuts : List Cut) (proof : Proof) → IsBaseline based → based.needed ≡ Conditions held cuts → AreEnds based.base ends →
    AreExclusions based.base ends cuts proof.exclusions → AreShown revision ends (cond_of held) proof.shown → IsProofOf based.base revision proof
proof_is based revision ends held cuts proof is e are exclusions shown =
    let k = known based ends held cuts is e are in
    let P : List NameEnds → Type 0 = λ it. AreExclusions based.base it cuts proof.exclusions in
    let Q : List NameEnds → Type 0 = λ it. AreShown revision it (cond_of held) proof.shown in
    record {
      scope = k.scope;
      scope_is = k.scope_is;
      held = held;
      cuts = cuts;
      conditions = k.conditions;
      exclusions = subst P (sym k.ends_are) exclusions;
      shown = subst Q (sym k.ends_are) shown;
    }

-- what is held of a base is one list
pub held_is : (needed : Needed) (held held' : List (Name × Cond)) (cuts cuts' : List Cut) → needed ≡ Conditions held cuts → needed ≡ Conditions held' cuts' → held ≡ held'
held_is needed held held' cuts cuts' e f = cc
