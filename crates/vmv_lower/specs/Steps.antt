-- Expressions and tests as rows of steps, each of which stands behind what it takes.
use Rattle.std.specs.Prelude.{◌≡◌, ℕ, ◌+◌, List, [], ◌∷◌, ◌++◌}
use Rattle.vmv_surface.specs.Surface.{Expr, literal, variable, operate, minus, ask, Args, no_args, arg, Test, compared, negated, both, either}
use Rattle.vmv_lower.specs.declared.step.Step.{Step}
use Rattle.vmv_lower.specs.declared.step.Step.TheVariants.{Lit, Var, Operate, Negate, Ask}
use Rattle.vmv_lower.specs.declared.step.TestStep.{TestStep}
use Rattle.vmv_lower.specs.declared.step.TestStep.TheVariants.{Compare, Not, And, Or}

abbrev pub count : Args → ℕ
count no_args = 0
count (arg first rest) = 1 + count rest

abbrev mutual
  pub steps_of : Expr → List Step
  steps_of (literal word) = Lit word ∷ []
  steps_of (variable name) = Var name ∷ []
  steps_of (operate op left right) = (steps_of left ++ steps_of right) ++ Operate op ∷ []
  steps_of (minus inner) = steps_of inner ++ Negate ∷ []
  steps_of (ask callee args) = args_steps args ++ Ask callee (count args) ∷ []

  pub args_steps : Args → List Step
  args_steps no_args = []
  args_steps (arg first rest) = steps_of first ++ args_steps rest

-- the steps are those of some expression
abbrev pub AreSteps : List Step → Type 0
AreSteps steps = (e : Expr) × (steps ≡ steps_of e)

abbrev pub test_steps_of : Test → List TestStep
test_steps_of (compared left rel right) = Compare (steps_of left) rel (steps_of right) ∷ []
test_steps_of (negated part) = test_steps_of part ++ Not ∷ []
test_steps_of (both first second) = (test_steps_of first ++ test_steps_of second) ++ And ∷ []
test_steps_of (either first second) = (test_steps_of first ++ test_steps_of second) ++ Or ∷ []

-- the steps are those of some test
abbrev pub AreTestSteps : List TestStep → Type 0
AreTestSteps steps = (test : Test) × (steps ≡ test_steps_of test)
