-- One pass over a statement, as it changes what is stored: what the inner functions promise. The public contract is about
-- what follows from it.
use Rattle.std.specs.Prelude.{◌≡◌, ◌⊎◌, ℕ, ◌+◌, ◌-◌, ◌≤◌, ℤ, Bool, true, Some, List, length, slice_get, slice_set, ⊤}
use Rattle.std.specs.List.{All}
use Rattle.vmv_cond.specs.declared.cond.Cond.{Cond}
use Rattle.vmv_snapshot.specs.declared.code.ProcId.{ProcId}
use Rattle.vmv_snapshot.specs.declared.code.Simple.{Simple}
use Rattle.vmv_snapshot.specs.declared.code.Simple.TheVariants.{Set, Arith, Ask, Assert}
use Rattle.vmv_snapshot.specs.Code.{Stmt, plain, help, branch, loop, Block, [], ◌⨾◌}
use Rattle.vmv_snapshot.specs.Resolution.{Resolution}
use Rattle.vmv_zone.specs.declared.zone.Zone.{Zone}
use Rattle.vmv_zone.specs.declared.operand.ZoneValue.TheVariants.{Within}
use Rattle.vmv_zone.specs.Zone.{vars_of, IsBottom, NotBottom, IsBelow, IsJoin, IsNormOf}
use Rattle.vmv_zone.specs.Args.{IsArgsOf}
use Rattle.vmv_zone.specs.Step.{IsAssigned}
use Rattle.vmv_zone.specs.Round.{IsRounded}
use Rattle.vmv_assumption.specs.Assumed.{Assumed, cond_of}
use Rattle.vmv_step.specs.declared.stepped.Stepped.{Stepped}
use Rattle.vmv_step.specs.Zones.{zone_args}
use Rattle.vmv_step.specs.Steps.{IsStepped, IsBranched}
use Rattle.vmv_step.specs.Loops.{IsHead, IsTurn, IsAgain, IsLeft}
use Rattle.vmv_step.specs.Agree.{HasSite}
use Rattle.vmv_cert.specs.Sizes.{loops, block_loops}
use Rattle.vmv_check.specs.Walker.{HasParams}
use Rattle.vmv_pass.specs.declared.place.Place.{Place}
use Rattle.vmv_pass.specs.Callees.{callees, block_callees}
use Rattle.vmv_pass.specs.Source.{Stored}

-- what a pass looks at and doesn't change
pub record Given : Type 0 where
  pub assumed : Assumed
  pub thresholds : List ℤ
  pub results : List Cond

-- what a pass changes: the states at loops, the inputs of calls, the unproved sites, whether it raised something, whether
-- that was a state at a loop, and the number of raised states
pub record Lists : Type 0 where
  pub keeps : List Zone
  pub inputs : List Zone
  pub unproved : List Bool
  pub raised : Bool
  pub looped : Bool
  pub steps : ℕ

abbrev pub given_of : Place → Given
given_of at = record { assumed = cond_of at.assumed.now; thresholds = at.thresholds.now; results = at.results.now }

abbrev pub lists : List Zone → List Zone → List Bool → Bool → Bool → ℕ → Lists
lists keeps inputs unproved raised looped steps = record { keeps = keeps; inputs = inputs; unproved = unproved; raised = raised; looped = looped; steps = steps }

-- what is stored, where these are the lists
abbrev pub stored_of : Place → List Zone → List Zone → List Bool → Stored
stored_of at keeps inputs unproved =
    record { assumed = cond_of at.assumed.now; keeps = keeps; inputs = inputs; results = at.results.now; unproved = unproved }

-- the flag of the statement's site is stored
abbrev pub flagged : Simple → Bool → List Bool → List Bool
flagged (Set to from) flag flags = flags
flagged (Arith to op left right site) flag flags = slice_set flags (site - 1) flag
flagged (Ask to callee args) flag flags = flags
flagged (Assert test site) flag flags = slice_set flags (site - 1) flag

-- the state at the k-th loop becomes kept: it stays where the state that is seen is below it, and else rises to the least
-- threshold state above both
abbrev pub Keeps : Given → ℕ → Zone → Lists → Zone → Lists → Type 0
Keeps given k seen S kept S' =
    (old : Zone) × (slice_get S.keeps k ≡ Some old)
    × ((IsBelow seen old × (kept ≡ old) × (S' ≡ S))
    ⊎ ((IsBelow seen old → ⊥) × ((both : Zone) × IsJoin old seen both × IsRounded given.thresholds both kept
    × (S' ≡ record S { keeps = slice_set S.keeps k kept; raised = true; looped = true; steps = S.steps + 1 }))))

-- the input of the c-th call stays where the arguments are below it, and else rises to the norm of the join
abbrev pub Takes : ℕ → Zone → Lists → Lists → Type 0
Takes c args S S' =
    (old : Zone) × (slice_get S.inputs c ≡ Some old)
    × ((IsBelow args old × (S' ≡ S))
    ⊎ ((IsBelow args old → ⊥) × ((both input : Zone) × IsJoin old args both × IsNormOf both input
    × (S' ≡ record S { inputs = slice_set S.inputs c input; raised = true }))))

-- a pass over a statement from z to e, behind k loops and c calls of helpers
abbrev mutual
  pub Moves : Given → (k c : ℕ) → Stmt → Zone → Lists → Zone → Lists → Type 0
  Moves given k c (plain simple) z S e S' =
      (s : Stepped) × IsStepped simple given.assumed z s × (e ≡ s.zone) × (S' ≡ record S { unproved = flagged simple s.unproved S.unproved })
  Moves given k c (help to callee codes) z S e S' =
      (IsBottom z × (e ≡ z) × (S' ≡ S))
      ⊎ (NotBottom z × ((args : Zone) × (cond : Cond) × IsArgsOf z (zone_args codes) args × Takes c args S S'
      × (slice_get given.results c ≡ Some cond) × IsAssigned z to.0 (Within cond) e))
  Moves given k c (branch test first second) z S e S' =
      (z1 z2 e1 e2 : Zone) × (S1 : Lists) × IsBranched test z z1 z2 × MovesAll given k c first z1 S e1 S1
      × MovesAll given (k + block_loops first) (c + length (block_callees first)) second z2 S1 e2 S' × IsJoin e1 e2 e
  Moves given k c (loop index slot bound most site body) z S e S' =
      (s : Stepped) × (kept normed turned end again last left : Zone) × (S1 S2 : Lists) × IsHead index slot bound most z s
      × Keeps given k s.zone (record S { unproved = slice_set S.unproved (site - 1) s.unproved }) kept S1 × IsNormOf kept normed
      × IsTurn index slot normed turned × MovesAll given (k + 1) c body turned S1 end S2 × IsAgain index end again
      × Keeps given k again S2 last S' × IsNormOf last left × IsLeft index slot left e

  pub MovesAll : Given → (k c : ℕ) → Block → Zone → Lists → Zone → Lists → Type 0
  MovesAll given k c [] z S e S' = (e ≡ z) × (S' ≡ S)
  MovesAll given k c (s ⨾ rest) z S e S' =
      (m : Zone) × (S1 : Lists) × Moves given k c s z S m S1 × MovesAll given (k + loops s) (c + length (callees s)) rest m S1 e S'

-- a helper with so many parameters is called at each place
abbrev pub AreCalled : Resolution → List ℕ → ℕ → List ProcId → Type 0
AreCalled program sizes c callees =
    (i : ℕ) (callee : ProcId) → slice_get callees i ≡ Some callee → (n : ℕ) × (slice_get sizes (c + i) ≡ Some n) × HasParams program callee.0 n

-- states at loops over so many variables, and no fewer than the number
pub record HasKeeps (vars least : ℕ) (keeps : List Zone) : Type 0 where
  pub enough : least ≤ length keeps
  pub over : All (λ z. vars_of z ≡ vars) keeps

-- each site has one of so many numbers, from 1
abbrev mutual
  pub HasSites : ℕ → Stmt → Type 0
  HasSites count (plain simple) = (n : ℕ) → HasSite simple n → (1 ≤ n) × (n ≤ count)
  HasSites count (help to callee args) = ⊤
  HasSites count (branch test first second) = HaveSites count first × HaveSites count second
  HasSites count (loop index slot bound most site body) = (1 ≤ site) × (site ≤ count) × HaveSites count body

  pub HaveSites : ℕ → Block → Type 0
  HaveSites count [] = ⊤
  HaveSites count (s ⨾ rest) = HasSites count s × HaveSites count rest
