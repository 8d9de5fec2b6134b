-- The walk of a procedure that holds, whatever answers its calls of helpers.
use Rattle.std.specs.Prelude.{◌≡◌, ◌⊎◌, ℕ, ◌+◌, Option, Some, None, List, length, slice_get}
use Rattle.vmv_tree.specs.Tree.{Item}
use Rattle.vmv_cond.specs.declared.cond.Cond.{Cond}
use Rattle.vmv_snapshot.specs.declared.code.Code.{Code}
use Rattle.vmv_snapshot.specs.Code.{Stmt, plain, help, branch, loop, Block, [], ◌⨾◌}
use Rattle.vmv_snapshot.specs.View.{code_of}
use Rattle.vmv_snapshot.specs.Procs.{params_of}
use Rattle.vmv_zone.specs.declared.zone.Zone.{Zone}
use Rattle.vmv_zone.specs.declared.operand.ZoneValue.TheVariants.{Within}
use Rattle.vmv_zone.specs.Zone.{IsBottom, NotBottom, IsBelow, IsJoin, IsNormOf}
use Rattle.vmv_zone.specs.Args.{IsArgsOf}
use Rattle.vmv_zone.specs.Step.{IsAssigned}
use Rattle.vmv_zone.specs.Read.{IsRangeOf}
use Rattle.vmv_step.specs.declared.stepped.Stepped.{Stepped}
use Rattle.vmv_step.specs.Zones.{zone_operand, zone_args}
use Rattle.vmv_step.specs.Steps.{IsStepped, IsBranched}
use Rattle.vmv_step.specs.Loops.{IsHead, IsTurn, IsAgain, IsLeft}
use Rattle.vmv_step.specs.Agree.{HasSite}
use Rattle.vmv_step.specs.Enter.{declared_count, IsEntered}
use Rattle.vmv_cert.specs.Sizes.{loops, block_loops}
use Rattle.vmv_pass.specs.Callees.{callees, block_callees}
use Rattle.vmv_pass.specs.Source.{Stored, Source, by_stored, assumed_in, input_in, keeps_in, TellsRange, TellsSite, Answers}

-- The walk of a statement from z holds and goes on from e, behind k loops and c calls of helpers of the procedure; the c-th
-- of the calls has the state of its arguments, and None where it isn't reached.
abbrev mutual
  pub Holds : Source → List (Option Zone) → (k c : ℕ) → Stmt → Zone → Zone → Type 0
  Holds source calls k c (plain simple) z e =
      (s : Stepped) × IsStepped simple (assumed_in source) z s × ((n : ℕ) → HasSite simple n → TellsSite source n s.unproved) × (e ≡ s.zone)
  Holds source calls k c (help to callee codes) z e =
      (IsBottom z × (slice_get calls c ≡ Some None) × (e ≡ z))
      ⊎ (NotBottom z × ((args : Zone) × (cond : Cond) × IsArgsOf z (zone_args codes) args × (slice_get calls c ≡ Some (Some args))
      × Answers source c callee args cond × IsAssigned z to.0 (Within cond) e))
  Holds source calls k c (branch test first second) z e =
      (z1 z2 e1 e2 : Zone) × IsBranched test z z1 z2 × HoldsAll source calls k c first z1 e1
      × HoldsAll source calls (k + block_loops first) (c + length (block_callees first)) second z2 e2 × IsJoin e1 e2 e
  -- the kept state is above the head's first state, and above the end of a turn from its norm
  Holds source calls k c (loop index slot bound most site body) z e =
      (s : Stepped) × (kept normed turned end again : Zone) × IsHead index slot bound most z s × (slice_get (keeps_in source) k ≡ Some kept)
      × TellsSite source site s.unproved × IsBelow s.zone kept × IsNormOf kept normed × IsTurn index slot normed turned
      × HoldsAll source calls (k + 1) c body turned end × IsAgain index end again × IsBelow again kept × IsLeft index slot normed e

  pub HoldsAll : Source → List (Option Zone) → (k c : ℕ) → Block → Zone → Zone → Type 0
  HoldsAll source calls k c [] z e = e ≡ z
  HoldsAll source calls k c (s ⨾ rest) z e =
      (m : Zone) × Holds source calls k c s z m × HoldsAll source calls (k + loops s) (c + length (callees s)) rest m e

-- the walk holds from entering the procedure with the input to the return; each call of a helper has its state
pub record HoldsRow (source : Source) (item : Item) (code : Code) (e : Zone) (calls : List (Option Zone)) : Type 0 where
  pub count : length calls ≡ length (block_callees (code_of code).block)
  pub start : Zone
  pub entered : IsEntered (input_in source) (length (params_of item)) (declared_count item) code.vars start
  pub holds : HoldsAll source calls 0 0 (code_of code).block start e
  pub range : Cond
  pub read : IsRangeOf e (zone_operand code.result) range
  pub told : TellsRange source range

-- the walk over what is stored holds, from this input to this range of what is returned
abbrev pub Settles : Stored → Item → Code → Zone → Cond → Type 0
Settles stored item code input range = (e : Zone) × (calls : List (Option Zone)) × HoldsRow (by_stored input range stored) item code e calls
