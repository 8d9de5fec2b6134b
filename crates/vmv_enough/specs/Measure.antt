-- One step of tightening, where levels are told by how many have been taken; and how much room it leaves.
use Rattle.std.specs.Prelude.{◌≡◌, ◌⊎◌, ℕ, ◌+◌, ◌-◌, ◌*◌, ◌<◌, ◌≤◌, ◌-ℤ◌, unsigned_abs, Bool, true, false, List, drop, sum_by}
use Rattle.vmv_tree.specs.declared.ends.NameEnds.{NameEnds}
use Rattle.vmv_cond.specs.declared.cond.Cond.{Cond}
use Rattle.vmv_snapshot.specs.Procs.{outsides}
use Rattle.vmv_snapshot.specs.Resolution.{Resolution, tree_of}
use Rattle.vmv_assumption.specs.Assumed.{Assumed}
use Rattle.vmv_enough.specs.Open.{NoneOpen}
use Rattle.vmv_enough.specs.Levels.{all_levels}
use Rattle.vmv_enough.specs.Enough.{NoneEmpty}
use Rattle.vmv_enough.specs.Tighten.{Stage, TakesDemand, TakesLevel}

-- what is assumed, where the first so many levels have been taken
abbrev pub stage : Assumed → ℕ → Stage
stage assumed taken = record { assumed = assumed; levels = drop taken all_levels }

-- 1 where 0 may be answered
abbrev pub zero_room : Bool → ℕ
zero_room true = 0
zero_room false = 1

-- a number that falls where a condition that holds a word is narrowed, and still holds one
abbrev pub room_of : Cond → ℕ
room_of c = 2 * unsigned_abs (c.hi -ℤ c.lo) + zero_room c.zero_out

-- a number that falls with each step
abbrev pub room : Resolution → Assumed → ℕ → ℕ
room program assumed taken = sum_by (λ name. room_of (assumed name)) (outsides (tree_of program)) + (4 - taken)

-- what a step leaves: an answer for each name, and less room
pub record Left (program : Resolution) (old : Assumed) (taken : ℕ) (new : Assumed) (more : ℕ) : Type 0 where
  pub nonempty : NoneEmpty program new
  pub less : room program new more < room program old taken

-- a step to where so many levels are taken
pub record Steps (program : Resolution) (ends : List NameEnds) (old : Assumed) (taken : ℕ) (new : Assumed) (more : ℕ) : Type 0 where
  pub step : TakesDemand program ends (stage old taken) (stage new more) ⊎ TakesLevel program ends (stage old taken) (stage new more)
  pub few : more ≤ 4
  pub left : NoneEmpty program old → Left program old taken new more

-- no step is left
pub record Ended (program : Resolution) (ends : List NameEnds) (old : Assumed) (taken : ℕ) (new : Assumed) : Type 0 where
  pub none_open : NoneOpen program ends old
  pub all : taken ≡ 4
  pub same : new ≡ old
