-- How steps are taken, one after the other, over the operands that are held. Private contracts alone cite what stands here.
use Rattle.std.specs.Prelude.{ℕ, ◌+◌, nat_le, pos, List, [], ◌∷◌, length, map, reverse, take, drop, Option, Some, None, if◌then◌else◌}
use Rattle.vmv_tree.specs.declared.name.Name.{Name}
use Rattle.vmv_tree.specs.declared.tree.Operand.{Operand}
use Rattle.vmv_tree.specs.declared.tree.Operand.TheVariants as operand
use Rattle.vmv_tree.specs.declared.tree.Op.{Op}
use Rattle.vmv_tree.specs.declared.tree.Op.TheVariants.{Sub}
use Rattle.vmv_tree.specs.Tree as core
use Rattle.vmv_tree.specs.Tree.{[], ◌⨾◌}
use Rattle.vmv_surface.specs.Temporaries.{temporary}
use Rattle.vmv_surface.specs.Lower.{◌⧺◌}
use Rattle.vmv_lower.specs.declared.step.Step.{Step}
use Rattle.vmv_lower.specs.declared.step.Step.TheVariants.{Lit, Var, Operate, Negate, Ask}
use Rattle.vmv_lower.specs.declared.machine.Held.{Held}
use Rattle.vmv_lower.specs.declared.machine.Machine.{Machine}
use Rattle.vmv_tree.specs.View.{block_of}

-- the statements so far, the depth behind them, and what is held, the last first
pub record State : Type 0 where
  pub block : core.Block
  pub depth : ℕ
  pub held : List Held

abbrev pub state_of : Machine → State
state_of m = record { block = block_of m.block; depth = m.depth; held = reverse m.held.items }

-- the name that a statement sets: this one, or the temporary behind this depth
abbrev pub target : Option Name → ℕ → Name
target None depth = temporary (depth + 1)
target (Some to) depth = to

abbrev pub starting : ℕ → State
starting depth = record { block = []; depth = depth; held = [] }

abbrev pub holding : Operand → State → State
holding o s = record { block = s.block; depth = s.depth; held = record { operand = o; depth = s.depth } ∷ s.held }

-- a statement that sets the temporary behind this depth, which is held in the place of what was taken
abbrev pub produced : core.Stmt → (depth : ℕ) → (rest : List Held) → State → State
produced stmt depth rest s = record {
  block = s.block ⧺ (stmt ⨾ []);
  depth = depth + 1;
  held = record { operand = operand.Var (temporary (depth + 1)); depth = depth } ∷ rest;
}

abbrev pub operated : Option Name → Op → State → List Held → Option State
operated to op s (right ∷ left ∷ rest) =
    Some (produced (core.compute (target to left.depth) op left.operand right.operand) left.depth rest s)
operated to op s held = None

abbrev pub negated : Option Name → State → List Held → Option State
negated to s (inner ∷ rest) =
    Some (produced (core.compute (target to inner.depth) Sub (operand.Lit (pos 0)) inner.operand) inner.depth rest s)
negated to s [] = None

-- the depth before these, in order
abbrev pub first_depth : ℕ → List Held → ℕ
first_depth depth [] = depth
first_depth depth (h ∷ held) = h.depth

abbrev pub operands_of : List Held → List Operand
operands_of held = map (λ h. h.operand) held

abbrev pub asked_of : Option Name → Name → (args rest : List Held) → State → State
asked_of to callee args rest s =
    produced (core.call (target to (first_depth s.depth args)) callee (operands_of args)) (first_depth s.depth args) rest s

abbrev pub asked : Option Name → Name → ℕ → State → Option State
asked to callee count s =
    if nat_le count (length s.held) then Some (asked_of to callee (reverse (take count s.held)) (drop count s.held) s) else None

abbrev pub stepped : Option Name → Step → State → Option State
stepped to (Lit word) s = Some (holding (operand.Lit word) s)
stepped to (Var name) s = Some (holding (operand.Var name) s)
stepped to (Operate op) s = operated to op s s.held
stepped to Negate s = negated to s s.held
stepped to (Ask callee count) s = asked to callee count s

abbrev pub and_then : (State → Option State) → Option State → Option State
and_then f None = None
and_then f (Some s) = f s

abbrev pub run : List Step → State → Option State
run [] s = Some s
run (step ∷ steps) s = and_then (run steps) (stepped None step s)
