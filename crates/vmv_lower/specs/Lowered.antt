-- What is said of an expression that was lowered.
use Rattle.std.specs.Prelude.{◌≡◌, ℕ, Option, Some, None}
use Rattle.vmv_tree.specs.declared.tree.Operand.{Operand}
use Rattle.vmv_tree.specs.declared.tree.Operand.TheVariants as operand
use Rattle.vmv_tree.specs.View.{block_of}
use Rattle.vmv_surface.specs.Surface.{Expr}
use Rattle.vmv_surface.specs.Lower.{behind, operand, lowered}
use Rattle.vmv_lower.specs.declared.step.Step.{Step}
use Rattle.vmv_lower.specs.declared.step.Step.TheVariants.{Lit, Var}
use Rattle.vmv_lower.specs.declared.expression.LoweredExpr.{LoweredExpr}

-- its statements, the operand that it is, and the depth behind it
pub record IsLowered (depth : ℕ) (e : Expr) (expr : LoweredExpr) : Type 0 where
  pub block : block_of expr.block ≡ lowered depth e
  pub operand_is : expr.operand ≡ operand depth e
  pub behind_is : expr.depth ≡ behind depth e

-- the operand that a step is by itself
abbrev pub simple : Step → Option Operand
simple (Lit word) = Some (operand.Lit word)
simple (Var name) = Some (operand.Var name)
simple step = None
