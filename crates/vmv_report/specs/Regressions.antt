-- What a text that tells of a regression shows.
use Rattle.std.specs.Prelude.{◌≡◌, ◌≢◌, Some, ℕ, List, [], ◌++◌, codes}
use Rattle.std.specs.List.{All, Contains}
use Rattle.vmv_tree.specs.declared.name.Name.{Name}
use Rattle.vmv_tree.specs.declared.tree.Param.{Param}
use Rattle.vmv_tree.specs.Tree.{Item, entry, Body}
use Rattle.vmv_tree.specs.Run.{Run, Outcome.fail}
use Rattle.vmv_tree.specs.Safe.{Environment, Covers, FitParams, Safe, RelCorrect}
use Rattle.vmv_cond.specs.declared.cond.Cond.{Cond}
use Rattle.vmv_assumption.specs.Assumed.{Assumed, cond_of}
use Rattle.vmv_assumption.specs.Within.{IsWithin, Meet}
use Rattle.vmv_run.specs.Replay.{pairs}
use Rattle.vmv_witness.specs.declared.witness.Witness.{Witness}
use Rattle.vmv_witness.specs.Fit.{words_of}
use Rattle.vmv_report.specs.Texts.{sufficient_lines, witnesses_lines}

-- the witness is a run of an entry on parameters in their ranges, whose answers meet the conditions, and fails at its site
pub record IsShownRun (program : List Item) (assumed : Assumed) (w : Witness) : Type 0 where
  pub params : List Param
  pub body : Body
  pub entry_is : Contains program (entry w.entry params body)
  pub fit : FitParams params (words_of w)
  pub meet : Meet (pairs w.answers) assumed
  pub run : Run program w.entry (words_of w) (pairs w.answers) (fail (record { proc = w.site.proc; number = w.site.index }))

-- Conditions are printed, within which the base is safe, and witnesses, each of which is a run of the revision within them that
-- fails. So the revision isn't relatively correct to the base.
pub record ShowsRegression (base revision : List Item) (printed : List ℕ) : Type 0 where
  pub front : List ℕ
  pub between : List ℕ
  pub held : List (Name × Cond)
  pub witnesses : List Witness
  pub text : printed ≡ codes "verdict regression\n" ++ (front ++ (sufficient_lines (Some held) ++ (between ++ witnesses_lines witnesses)))
  pub safe : (env : Environment) → Covers env base → IsWithin env (cond_of held) → Safe env base
  pub some : witnesses ≢ []
  pub runs : All (IsShownRun revision (cond_of held)) witnesses
  pub incorrect : RelCorrect base revision → ⊥
