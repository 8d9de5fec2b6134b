-- The proof of a review.
use Rattle.std.specs.Prelude.{List, ⊤}
use Rattle.vmv_tree.specs.declared.name.Name.{Name}
use Rattle.vmv_cond.specs.declared.cond.Cond.{Cond}
use Rattle.vmv_snapshot.specs.Resolution.{Resolution}
use Rattle.vmv_assumption.specs.Assumed.{cond_of}
use Rattle.vmv_need.specs.declared.subject.Scope.{Scope}
use Rattle.vmv_need.specs.declared.cut.Cut.{Cut}
use Rattle.vmv_need.specs.declared.needed.Needed.{Needed}
use Rattle.vmv_need.specs.declared.needed.Needed.TheVariants.{Conditions, Vacuous}
use Rattle.vmv_need.specs.Candidates.{IsScopeOf}
use Rattle.vmv_need.specs.Needed.{AreConditions}
use Rattle.vmv_proof.specs.declared.proof.Proof.{Proof}
use Rattle.vmv_proving.specs.Exclusions.{AreExclusions}
use Rattle.vmv_proving.specs.Shown.{AreShown}

-- the base isn't vacuous
abbrev pub HasConditions : Needed → Type 0
HasConditions (Conditions held cuts) = ⊤
HasConditions (Vacuous shown) = ⊥

-- The proof of a review of a revision against a base that isn't vacuous: the exclusions that led to what is necessary for the
-- base, each with the least table that shows it, and the two least tables of each entry of the revision.
pub record IsProofOf (base revision : Resolution) (proof : Proof) : Type 0 where
  pub scope : Scope
  pub scope_is : IsScopeOf base scope
  pub held : List (Name × Cond)
  pub cuts : List Cut
  pub conditions : AreConditions base scope held cuts
  pub exclusions : AreExclusions base scope.ends cuts proof.exclusions
  pub shown : AreShown revision scope.ends (cond_of held) proof.shown
