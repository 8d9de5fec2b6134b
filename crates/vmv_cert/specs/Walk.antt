-- The walk of a row over the resolved statements of its procedure, in text order.
use Rattle.std.specs.Prelude.{◌≡◌, ◌⊎◌, ◌↔◌, ℕ, ◌+◌, ℤ, Some, List, length, map, slice_get, IsTrue}
use Rattle.std.specs.List.{Contains}
use Rattle.vmv_tree.specs.declared.site.NamedSite.{NamedSite}
use Rattle.vmv_tree.specs.Run.{name_of}
use Rattle.vmv_cond.specs.declared.cond.Cond.{Cond}
use Rattle.vmv_cond.specs.Cond.{Holds}
use Rattle.vmv_snapshot.specs.declared.code.Slot.{Slot}
use Rattle.vmv_snapshot.specs.declared.code.ProcId.{ProcId}
use Rattle.vmv_snapshot.specs.declared.code.CodeOperand.{CodeOperand}
use Rattle.vmv_snapshot.specs.declared.code.Simple.{Simple}
use Rattle.vmv_snapshot.specs.Code.{Stmt, plain, help, branch, loop, Block, [], ◌⨾◌}
use Rattle.vmv_snapshot.specs.Procs.{params_of}
use Rattle.vmv_snapshot.specs.Resolution.{Resolution, procs_of}
use Rattle.vmv_zone.specs.declared.zone.Zone.{Zone}
use Rattle.vmv_zone.specs.declared.operand.ZoneValue.TheVariants.{Within}
use Rattle.vmv_zone.specs.Zone.{vars_of, IsBottom, NotBottom, IsBelow, IsJoin, IsNormOf}
use Rattle.vmv_zone.specs.Args.{IsArgsOf}
use Rattle.vmv_zone.specs.Step.{IsAssigned}
use Rattle.vmv_assumption.specs.Assumed.{Assumed}
use Rattle.vmv_step.specs.declared.stepped.Stepped.{Stepped}
use Rattle.vmv_step.specs.Zones.{zone_args}
use Rattle.vmv_step.specs.Steps.{IsStepped, IsBranched}
use Rattle.vmv_step.specs.Loops.{IsHead, IsTurn, IsAgain, IsLeft}
use Rattle.vmv_step.specs.Agree.{HasSite}
use Rattle.vmv_cert.specs.declared.row.Row.{Row}
use Rattle.vmv_cert.specs.declared.row.Reach.{Reach}
use Rattle.vmv_cert.specs.declared.row.Reach.TheVariants.{Bottom, Value}
use Rattle.vmv_cert.specs.Sizes.{statements, block_statements, loops, block_loops}

-- how a walk goes on: from this state, or it has failed at the step of this number
pub data Way : Type 0 where
  goes : Zone → Way
  fails : ℕ → Way

-- what a walk looks at: the program, the conditions of its outside names, the rows of the table, and the row
pub record Walk : Type 0 where
  pub program : Resolution
  pub assumed : Assumed
  pub rows : List Row
  pub row : Row

-- where P holds the walk goes on from z, and else it fails at step n
abbrev pub GoesIf : Type 0 → ℕ → Zone → Way → Type 0
GoesIf P n z way = (P × (way ≡ goes z)) ⊎ ((P → ⊥) × (way ≡ fails n))

-- a walk that goes on goes on so
abbrev pub Then : Way → (Zone → Way → Type 0) → Way → Type 0
Then (goes z) Next way = Next z way
Then (fails n) Next way = way ≡ fails n

-- the row lists the site of this number in its own procedure
abbrev pub ListsOwn : Row → ℕ → Type 0
ListsOwn row number = Contains row.unproved (record { proc = row.proc; index = number })

-- the row lists the statement's site where that is unproved
abbrev pub IsAllowed : Row → Simple → Stepped → Type 0
IsAllowed row simple s = IsTrue s.unproved → (number : ℕ) → HasSite simple number → ListsOwn row number

-- the word may be returned
abbrev pub Returns : Reach → ℤ → Type 0
Returns Bottom word = ⊥
Returns (Value c) word = Holds c word

-- the row is one of the helper of this number that holds for these arguments: its input is over the helper's parameters
-- and above the arguments' state
pub record IsMatch (w : Walk) (callee : ℕ) (args : Zone) (row : Row) : Type 0 where
  pub one : Contains w.rows row
  pub named : slice_get (map name_of (procs_of w.program)) callee ≡ Some row.proc
  pub over : slice_get (map (λ item. length (params_of item)) (procs_of w.program)) callee ≡ Some (vars_of row.input)
  pub above : IsBelow args row.input

-- the condition holds the words that all matching rows return
abbrev pub IsReturned : Walk → ℕ → Zone → Cond → Type 0
IsReturned w callee args c = (word : ℤ) → Holds c word ↔ ((row : Row) → IsMatch w callee args row → Returns row.result word)

-- a site that all matching rows list is one that the row lists
abbrev pub AreAllowed : Walk → ℕ → Zone → Type 0
AreAllowed w callee args = (site : NamedSite) → ((row : Row) → IsMatch w callee args row → Contains row.unproved site) → Contains w.row.unproved site

-- a helper's call is step n: some row must match, and each site that all matching rows list must be listed
abbrev pub WalksCall : Walk → ℕ → Slot → ProcId → List CodeOperand → Zone → Way → Type 0
WalksCall w n to callee codes z way =
    (IsBottom z × (way ≡ goes z))
    ⊎ (NotBottom z × ((args : Zone) × IsArgsOf z (zone_args codes) args
    × ((((row : Row) → IsMatch w callee.0 args row → ⊥) × (way ≡ fails n))
    ⊎ (((row : Row) × IsMatch w callee.0 args row)
    × ((c : Cond) × (r : Zone) × IsReturned w callee.0 args c × IsAssigned z to.0 (Within c) r × GoesIf (AreAllowed w callee.0 args) n r way)))))

-- The walk of a statement whose number is n, with k loops of the procedure before it.
abbrev mutual
  pub Walks : Walk → (n k : ℕ) → Stmt → Zone → Way → Type 0
  Walks w n k (plain simple) z way = (s : Stepped) × IsStepped simple w.assumed z s × GoesIf (IsAllowed w.row simple s) n s.zone way
  Walks w n k (help to callee codes) z way = WalksCall w n to callee codes z way
  -- the ends of both parts are joined
  Walks w n k (branch test first second) z way =
      (z1 z2 : Zone) × (one : Way) × IsBranched test z z1 z2 × WalksAll w (n + 1) k first z1 one
      × Then one (λ e1 way. (other : Way) × WalksAll w (n + 1 + block_statements first) (k + block_loops first) second z2 other
      × Then other (λ e2 way. (j : Zone) × IsJoin e1 e2 j × (way ≡ goes j)) way) way
  -- the kept state must be above the head's first state, and above the end of a turn from its norm
  Walks w n k (loop index slot bound most site body) z way =
      (s : Stepped) × (kept normed turned left : Zone) × (begun : Way) × IsHead index slot bound most z s × (slice_get w.row.keeps k ≡ Some kept)
      × IsNormOf kept normed × IsTurn index slot normed turned × IsLeft index slot normed left
      × GoesIf ((IsTrue s.unproved → ListsOwn w.row site) × IsBelow s.zone kept) n turned begun
      × Then begun (λ start way. (end : Way) × WalksAll w (n + 1) (k + 1) body start end
      × Then end (λ e way. (again : Zone) × IsAgain index e again × GoesIf (IsBelow again kept) n left way) way) way

  pub WalksAll : Walk → (n k : ℕ) → Block → Zone → Way → Type 0
  WalksAll w n k [] z way = way ≡ goes z
  WalksAll w n k (s ⨾ rest) z way = (first : Way) × Walks w n k s z first × Then first (λ e way. WalksAll w (n + statements s) (k + loops s) rest e way) way
