-- The names of a text, numbered from 0, their places, and the names that a program mentions.
use Rattle.std.specs.Prelude.{◌≡◌, ℕ, ◌+◌, ◌≤◌, Bool, true, false, List, [], ◌∷◌, ◌++◌, take, drop, map, Some}
use Rattle.vmv_tree.specs.declared.name.Name.{Name}
use Rattle.vmv_tree.specs.declared.tree.Operand.{Operand}
use Rattle.vmv_tree.specs.declared.tree.Operand.TheVariants.{Lit, Var}
use Rattle.vmv_tree.specs.declared.tree.Test.{Test}
use Rattle.vmv_tree.specs.Tree.{Stmt, copy, compute, call, assert, choose, repeat, Block, [], ◌⨾◌, Body, Item, outside, helper, entry}
use Rattle.vmv_tree.specs.Mentions.{item_mentions}
use Rattle.vmv_text.specs.declared.token.Token.{Token}
use Rattle.vmv_text.specs.declared.token.Token.TheVariants.{Named}
use Rattle.vmv_text.specs.Tokens.{Placed, placed_tokens, tokens_of, tokens}
use Rattle.vmv_text.specs.Faults.{line_after, column_after, front_at}
use Rattle.vmv_text.specs.Reading.{first_of}

-- the names among the tokens, in order
abbrev pub names_in : List Token → List Name
names_in [] = []
names_in (Named x ∷ rest) = x ∷ names_in rest
names_in (t ∷ rest) = names_in rest

-- how many of the tokens are names
abbrev pub name_count : List Token → ℕ
name_count [] = 0
name_count (Named x ∷ rest) = 1 + name_count rest
name_count (t ∷ rest) = name_count rest

-- the name of this number stands at this line and column
pub record HasMention (text : List ℕ) (mention line column : ℕ) : Type 0 where
  pub token : ℕ
  pub name : Name
  pub is_name : first_of (drop token (placed_tokens text)) ≡ Some (Named name)
  pub number : name_count (take token (tokens text)) ≡ mention
  pub line_is : line ≡ line_after (front_at text token)
  pub column_is : column ≡ column_after (front_at text token)

abbrev pub operand_names : Operand → List Name
operand_names (Lit z) = []
operand_names (Var x) = x ∷ []

abbrev pub test_names : Test → List Name
test_names test = operand_names test.left ++ operand_names test.right

abbrev pub args_names : List Operand → List Name
args_names [] = []
args_names (o ∷ args) = operand_names o ++ args_names args

-- the names that a statement mentions, in text order
abbrev mutual
  pub stmt_names : Stmt → List Name
  stmt_names (copy to from) = to ∷ operand_names from
  stmt_names (compute to op left right) = to ∷ operand_names left ++ operand_names right
  stmt_names (call to callee args) = to ∷ callee ∷ args_names args
  stmt_names (assert test) = test_names test
  stmt_names (choose test first second) = test_names test ++ block_names first ++ block_names second
  stmt_names (repeat index bound most body) = index ∷ operand_names bound ++ block_names body

  pub block_names : Block → List Name
  block_names [] = []
  block_names (s ⨾ block) = stmt_names s ++ block_names block

-- the variables, the statements, the returned operand
abbrev pub body_names : Body → List Name
body_names body = body.vars ++ block_names body.block ++ operand_names body.output

abbrev pub item_names : Item → List Name
item_names (outside f arity) = f ∷ []
item_names (helper f params body) = f ∷ params ++ body_names body
item_names (entry f params body) = f ∷ map (λ p. p.name) params ++ body_names body

-- the names that a program mentions, in text order
abbrev pub mentioned : List Item → List Name
mentioned [] = []
mentioned (item ∷ items) = item_names item ++ mentioned items

-- how many mentions a program has
abbrev pub program_mentions : List Item → ℕ
program_mentions [] = 0
program_mentions (item ∷ items) = item_mentions item + program_mentions items

-- tokens with so many names among them were left out
pub record Skipped (count : ℕ) (old new : List Placed) : Type 0 where
  pub used : List Placed
  pub place : old ≡ used ++ new
  pub number : name_count (tokens_of used) ≡ count

-- what is left begins with the name of this number, or there are no more names than that
abbrev pub AtName : ℕ → Bool → (old new : List Placed) → Type 0
AtName number true old new = (name : Name) × (first_of new ≡ Some (Named name)) × Skipped number old new
AtName number false old new = name_count (tokens_of old) ≤ number
