-- What the readers of parts say of what they took.
use Rattle.std.specs.Prelude.{◌≡◌, ◌≤◌, ℕ, ℤ, pos, Bool, true, false, Some, List}
use Rattle.vmv_tree.specs.declared.name.Name.{Name}
use Rattle.vmv_tree.specs.declared.tree.Op.{Op}
use Rattle.vmv_text.specs.declared.token.Token.{Token}
use Rattle.vmv_text.specs.declared.token.Token.TheVariants.{Named, Number, Minus, OpenParen}
use Rattle.vmv_text.specs.Tokens.{Placed}
use Rattle.vmv_text.specs.Grammar.{op_token}
use Rattle.vmv_text.specs.Reading.{Lacks, IsSizeOf, first_of}
use Rattle.vmv_surface.specs.Surface.{Expr}
use Rattle.vmv_lower.specs.declared.step.Step.{Step}
use Rattle.vmv_lower.specs.Steps.{steps_of}
use Rattle.vmv_surface_text.specs.Grammar.{binding}

-- what may stand behind an expression: no parenthesis, and no operator of this strength or more
pub record FitsAt (level : ℕ) (rest : List Token) : Type 0 where
  pub no_call : Lacks OpenParen rest
  pub no_op : (op : Op) → level ≤ binding op → Lacks (op_token op) rest

-- the steps of the expression that was taken
abbrev pub HasSteps : List Step → Expr → Type 0
HasSteps steps e = steps ≡ steps_of e

-- the token ends this literal, with a sign in front of it or without
abbrev pub EndsLit : (signed : Bool) → Token → ℤ → Type 0
EndsLit true token z = IsSizeOf z (Some token)
EndsLit false token z = (n : ℕ) × (z ≡ pos n) × (token ≡ Number n)

-- this token is next, and it begins neither an atom nor a sign
pub record IsOther (now : List Placed) (token : Token) : Type 0 where
  pub next : first_of now ≡ Some token
  pub no_name : (name : Name) → token ≡ Named name → ⊥
  pub no_group : token ≡ OpenParen → ⊥
  pub no_sign : token ≡ Minus → ⊥
