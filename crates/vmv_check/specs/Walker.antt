-- What the checker's own calls take and answer, in the words of walks.
use Rattle.std.specs.Prelude.{◌≡◌, ◌↔◌, ℕ, ◌+◌, ◌≤◌, ℤ, Option, Some, None, Result, Ok, Err, List, length, map, slice_get, ⊤}
use Rattle.std.specs.List.{All, Contains}
use Rattle.vmv_tree.specs.declared.site.NamedSite.{NamedSite}
use Rattle.vmv_cond.specs.declared.cond.Cond.{Cond}
use Rattle.vmv_cond.specs.Cond.{Holds}
use Rattle.vmv_snapshot.specs.declared.code.CodeRepeat.{CodeRepeat}
use Rattle.vmv_snapshot.specs.Code.{Stmt, plain, help, branch, loop, Block, [], ◌⨾◌}
use Rattle.vmv_snapshot.specs.View.{block_of}
use Rattle.vmv_snapshot.specs.Procs.{params_of}
use Rattle.vmv_snapshot.specs.Resolution.{Resolution, procs_of}
use Rattle.vmv_zone.specs.declared.zone.Zone.{Zone}
use Rattle.vmv_zone.specs.Zone.{vars_of}
use Rattle.vmv_assumption.specs.Assumed.{cond_of}
use Rattle.vmv_step.specs.Zones.{IsVariable, IsInside, IsTestInside, AreInside}
use Rattle.vmv_step.specs.Steps.{IsSimpleInside}
use Rattle.vmv_cert.specs.declared.row.Row.{Row}
use Rattle.vmv_cert.specs.declared.row.Reach.{Reach}
use Rattle.vmv_cert.specs.Tables.{Precedes}
use Rattle.vmv_cert.specs.Walk.{Way, goes, fails, Walk, Returns, IsMatch}
use Rattle.vmv_check.specs.declared.walk.Walker.{Walker}

abbrev pub walk_of : Walker → Walk
walk_of w = record { program = w.snapshot.now; assumed = cond_of w.assumed.now; rows = w.rows.now; row = w.row.now }

-- Ok where a walk goes on from the state, Err where it has failed
abbrev pub way_at : Result (Unit {0}) ℕ → Zone → Way
way_at (Ok done) z = goes z
way_at (Err n) z = fails n

abbrev pub loop_of : CodeRepeat → Stmt
loop_of r = loop r.index r.slot r.bound r.cap r.site (block_of r.body)

-- the procedure of this number has so many parameters
abbrev pub HasParams : Resolution → ℕ → ℕ → Type 0
HasParams program n count = slice_get (map (λ item. length (params_of item)) (procs_of program)) n ≡ Some count

-- each slot is one of so many variables, and each call of a helper has as many arguments as that has parameters
abbrev mutual
  pub IsReady : Resolution → ℕ → Stmt → Type 0
  IsReady program vars (plain simple) = IsSimpleInside vars simple
  IsReady program vars (help to callee args) = IsVariable vars to × HasParams program callee.0 (length args) × (length args ≤ 16) × AreInside vars args
  IsReady program vars (branch test first second) = IsTestInside vars test × AreReady program vars first × AreReady program vars second
  IsReady program vars (loop index slot bound most site body) = IsVariable vars index × IsVariable vars slot × IsInside vars bound × AreReady program vars body

  pub AreReady : Resolution → ℕ → Block → Type 0
  AreReady program vars [] = ⊤
  AreReady program vars (s ⨾ rest) = IsReady program vars s × AreReady program vars rest

-- the row keeps states over so many variables, and no fewer than the number
pub record HasKept (row : Row) (vars least : ℕ) : Type 0 where
  pub enough : least ≤ length row.keeps
  pub over : All (λ z. vars_of z ≡ vars) row.keeps

-- some row holds for the arguments
abbrev pub SomeMatch : Walk → ℕ → Zone → Type 0
SomeMatch w callee args = (row : Row) × IsMatch w callee args row

-- all matching rows list the site
abbrev pub IsListedByAll : Walk → ℕ → Zone → NamedSite → Type 0
IsListedByAll w callee args site = (row : Row) → IsMatch w callee args row → Contains row.unproved site

-- the row lists the site where all matching rows do
abbrev pub IsAllowedSite : Walk → ℕ → Zone → NamedSite → Type 0
IsAllowedSite w callee args site = IsListedByAll w callee args site → Contains w.row.unproved site

-- the word was held before, or there was no condition
abbrev pub HoldsBefore : Option Cond → ℤ → Type 0
HoldsBefore None word = ⊤
HoldsBefore (Some c) word = Holds c word

-- the condition holds the words that were held before, where there was a condition, and may be returned
abbrev pub IsNarrowed : Option Cond → Reach → Cond → Type 0
IsNarrowed before result c = (word : ℤ) → Holds c word ↔ (HoldsBefore before word × Returns result word)

-- of two sites that follow one another the first stands before
abbrev pub IsSorted : Resolution → List NamedSite → Type 0
IsSorted program sites = (i : ℕ) (one other : NamedSite) → slice_get sites i ≡ Some one → slice_get sites (i + 1) ≡ Some other → Precedes program one other
