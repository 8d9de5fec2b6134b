-- Runs of probes that fail.
use Rattle.std.specs.Prelude.{◌≡◌, ℕ, ℤ, Some, List, map, slice_get}
use Rattle.std.specs.List.{AllZip, Contains}
use Rattle.vmv_tree.specs.declared.name.Name.{Name}
use Rattle.vmv_tree.specs.declared.tree.Param.{Param}
use Rattle.vmv_tree.specs.Tree.{entry, Body}
use Rattle.vmv_tree.specs.Run.{Outcome.fail, Run}
use Rattle.vmv_tree.specs.Safe.{FitParams}
use Rattle.vmv_snapshot.specs.Procs.{outsides}
use Rattle.vmv_snapshot.specs.Resolution.{Resolution, tree_of, procs_of}
use Rattle.vmv_assumption.specs.Assumed.{Assumed}
use Rattle.vmv_assumption.specs.Within.{Meet}
use Rattle.vmv_run.specs.Replay.{pairs}
use Rattle.vmv_run.specs.Constant.{AreFrom}
use Rattle.vmv_witness.specs.declared.witness.Witness.{Witness}
use Rattle.vmv_witness.specs.Fit.{words_of}
use Rattle.vmv_enough.specs.declared.probe.Probe.{Probe}
use Rattle.vmv_enough.specs.Picks.{IsPick}
use Rattle.vmv_enough.specs.Probes.{IsInRange, IsAnswer}

-- the witness is a run of the entry of number n, which fails at its site
pub record IsFailing (program : Resolution) (n : ℕ) (w : Witness) : Type 0 where
  pub params : List Param
  pub body : Body
  pub entry_is : slice_get (procs_of program) n ≡ Some (entry w.entry params body)
  pub names : map (λ p. p.name) w.params ≡ map (λ (p : Param). p.name) params
  pub run : Run (tree_of program) w.entry (words_of w) (pairs w.answers) (fail (record { proc = w.site.proc; number = w.site.index }))

-- the witness is the run of the probe, and fails: the mode picks each parameter in its range, and each outside name always answers
-- what the probe has it answer
pub record FailsAt (program : Resolution) (n : ℕ) (assumed : Assumed) (probe : Probe) (w : Witness) : Type 0 where
  pub fails : IsFailing program n w
  pub words : AllZip (λ range word. IsPick probe.mode (IsInRange range) word) probe.within (words_of w)
  pub constant : Name → ℤ
  pub answers : (name : Name) → Contains (outsides (tree_of program)) name → IsAnswer assumed probe.mode probe.missed name (constant name)
  pub always : AreFrom constant (pairs w.answers)

-- a failing run of the program on parameters in their ranges, whose answers meet what is assumed
pub record IsCounterexample (program : Resolution) (n : ℕ) (assumed : Assumed) (w : Witness) : Type 0 where
  pub fails : IsFailing program n w
  pub fit : FitParams fails.params (words_of w)
  pub meet : Meet (pairs w.answers) assumed
