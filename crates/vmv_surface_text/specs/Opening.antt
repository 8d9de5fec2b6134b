-- How far an expression was read: what is open, and what is left to read of it. Private contracts alone cite what stands
-- here.
use Rattle.std.specs.Prelude.{◌≡◌, ℕ, ◌+◌, Bool, true, false, if◌then◌else◌, Option, Some, None, Result, Ok, Err, List, [], ◌∷◌, ◌++◌}
use Rattle.vmv_tree.specs.declared.name.Name.{Name}
use Rattle.vmv_tree.specs.declared.tree.Op.{Op}
use Rattle.vmv_text.specs.declared.fault.Fault.{Fault}
use Rattle.vmv_text.specs.declared.token.Token.{Token}
use Rattle.vmv_text.specs.declared.token.Token.TheVariants.{Minus, CloseParen}
use Rattle.vmv_text.specs.Tokens.{Placed, tokens_of}
use Rattle.vmv_text.specs.Grammar.{Takes, op_token}
use Rattle.vmv_text.specs.Reading.{Meets, Fails, Ends}
use Rattle.vmv_surface.specs.Surface.{Expr, operate, minus, ask, Args, no_args, arg}
use Rattle.vmv_lower.specs.declared.step.Step.{Step}
use Rattle.vmv_lower.specs.declared.step.Step.TheVariants.{Operate, Negate}
use Rattle.vmv_lower.specs.Steps.{steps_of, args_steps, count}
use Rattle.vmv_surface_text.specs.declared.reader.Place.{Place}
use Rattle.vmv_surface_text.specs.declared.reader.Place.TheVariants.{Operand, Operator}
use Rattle.vmv_surface_text.specs.declared.reader.Waiting.{Waiting}
use Rattle.vmv_surface_text.specs.declared.reader.Bracket.{Bracket}
use Rattle.vmv_surface_text.specs.declared.reader.Bracket.TheVariants as kind
use Rattle.vmv_surface_text.specs.declared.reader.Open.{Open}
use Rattle.vmv_surface_text.specs.declared.reader.Reader.{Reader}
use Rattle.vmv_surface_text.specs.Grammar.{IsExprAt, AreMoreArgs, binding}
use Rattle.vmv_surface_text.specs.Reading.{FitsAt}

-- operators of this strength, each with its right side
unfoldable pub TailAt : ℕ → List (Op × Expr) → Takes
TailAt level [] ts rest = ts ≡ rest
TailAt level (t ∷ more) ts rest =
    (mid : List Token) × (back : List Token) × (binding t.0 ≡ level) × (ts ≡ op_token t.0 ∷ mid) × IsExprAt (level + 1) t.1 mid back × TailAt level more back rest

-- grouped from the left
abbrev pub grown : Expr → List (Op × Expr) → Expr
grown acc [] = acc
grown acc (t ∷ more) = grown (operate t.0 acc t.1) more

-- the one arguments, and then the other
abbrev pub onto : Args → Args → Args
onto no_args more = more
onto (arg x args) more = arg x (onto args more)

-- an operator and its left side, which wait for the right one
pub record Left : Type 0 where
  pub left : Expr
  pub op : Op

abbrev pub joined : Option Left → Expr → Expr
joined None right = right
joined (Some l) right = operate l.op l.left right

-- what stands in front of an operand
pub record Pending : Type 0 where
  pub sum : Option Left
  pub product : Option Left
  pub signed : Bool

abbrev pub nothing : Pending
nothing = record { sum = None; product = None; signed = false }

-- an operand with the sign in front of it
abbrev pub with_sign : Bool → Expr → Expr
with_sign true e = minus e
with_sign false e = e

-- what an open parenthesis belongs to
pub data Around : Type 0 where
  group : Around
  -- with the arguments before the open one
  call : (callee : Name) (args : Args) → Around

-- an open parenthesis
pub record Frame : Type 0 where
  pub pending : Pending
  pub around : Around

-- what is left of an expression behind a part of it: the part, and the whole
abbrev pub Leaves : Type 1
Leaves = Expr → Expr → Takes

-- behind a term
unfoldable pub BehindTerm : (outer : Leaves) → Option Left → Leaves
BehindTerm outer sum term e us rest =
    (sums : List (Op × Expr)) × (mid : List Token) × TailAt 0 sums us mid × outer (grown (joined sum term) sums) e mid rest

-- behind a factor
unfoldable pub BehindFactor : (outer : Leaves) → Pending → Leaves
BehindFactor outer p factor e us rest =
    (products : List (Op × Expr)) × (mid : List Token) × TailAt 1 products us mid
    × BehindTerm outer p.sum (grown (joined p.product factor) products) e mid rest

-- behind an atom, in front of which a sign may stand
abbrev pub BehindAtom : (outer : Leaves) → Pending → Leaves
BehindAtom outer p atom = BehindFactor outer p (with_sign p.signed atom)

-- behind an expression in a parenthesis
unfoldable pub BehindIn : (outer : Leaves) → Pending → Around → Leaves
BehindIn outer p group x e us rest = (mid : List Token) × (us ≡ CloseParen ∷ mid) × BehindAtom outer p x e mid rest
BehindIn outer p (call callee args) x e us rest =
    (more : Args) × (mid : List Token) × AreMoreArgs more us (CloseParen ∷ mid)
    × BehindAtom outer p (ask callee (onto args (arg x more))) e mid rest

-- behind an expression in these parentheses
unfoldable pub Behind : List Frame → Leaves
Behind [] x e us rest = (e ≡ x) × (us ≡ rest)
Behind (f ∷ frames) x e us rest = BehindIn (Behind frames) f.pending f.around x e us rest

-- a factor, from behind its sign on where there is one
abbrev pub FactorAt : Bool → Expr → Takes
FactorAt true x us rest = IsExprAt 2 x (Minus ∷ us) rest
FactorAt false x us rest = IsExprAt 2 x us rest

-- what is left of the whole from an operand on
unfoldable pub FromOperand : (outer : Leaves) → Pending → Expr → Takes
FromOperand outer p e us rest =
    (x : Expr) × (mid : List Token) × FactorAt p.signed x us mid × BehindFactor outer p x e mid rest

-- What is left to read of a part: these tokens were taken, and whatever follows that begins as what is left, there is
-- such a part exactly where this is what is left of one.
pub record Leading {X : Type 0} (part : X → Takes) (fits : List Token → Type 0) (start : List Placed) (left : X → Takes) (now : List Placed) : Type 0 where
  pub used : List Placed
  pub place : start ≡ used ++ now
  pub made : (x : X) (us rest : List Token) → left x us rest → part x (tokens_of used ++ us) rest
  pub only : (x : X) (us rest : List Token) → Meets now us → fits rest → part x (tokens_of used ++ us) rest → (whole : X) × left whole us rest

abbrev pub Leads : (start : List Placed) (left : Expr → Takes) (now : List Placed) → Type 0
Leads start left now = Leading (IsExprAt 0) (FitsAt 0) start left now

-- how the reader holds what is open

abbrev pub op_of : Option Left → Option Op
op_of None = None
op_of (Some l) = Some l.op

abbrev pub waiting_of : Pending → Waiting
waiting_of p = record { sum = op_of p.sum; product = op_of p.product; signed = p.signed }

abbrev pub bracket_of : Around → Bracket
bracket_of group = kind.Group
bracket_of (call callee args) = kind.Call callee (count args)

abbrev pub open_of : Frame → Open
open_of f = record { waiting = waiting_of f.pending; bracket = bracket_of f.around }

abbrev pub opens_of : List Frame → List Open
opens_of [] = []
opens_of (f ∷ frames) = opens_of frames ++ open_of f ∷ []

-- the steps of what was read

abbrev pub left_steps : Option Left → List Step
left_steps None = []
left_steps (Some l) = steps_of l.left

abbrev pub pending_steps : Pending → List Step
pending_steps p = left_steps p.sum ++ left_steps p.product

abbrev pub around_steps : Around → List Step
around_steps group = []
around_steps (call callee args) = args_steps args

abbrev pub open_steps : List Frame → List Step
open_steps [] = []
open_steps (f ∷ frames) = (open_steps frames ++ pending_steps f.pending) ++ around_steps f.around

-- an operand is asked for, of which these tokens were taken
pub record Asked (front : List Token) (start : List Placed) (r : Reader) (now : List Placed) : Type 0 where
  pub frames : List Frame
  pub pending : Pending
  pub steps : r.steps ≡ open_steps frames ++ pending_steps pending
  pub waiting : r.waiting ≡ waiting_of pending
  pub opened : r.opened ≡ opens_of frames
  pub leads : Leads start (λ e us rest. FromOperand (Behind frames) pending e (front ++ us) rest) now

-- an operand was read
pub record Given (start : List Placed) (r : Reader) (now : List Placed) : Type 0 where
  pub frames : List Frame
  pub pending : Pending
  pub factor : Expr
  pub steps : r.steps ≡ (open_steps frames ++ pending_steps pending) ++ steps_of factor
  pub waiting : r.waiting ≡ waiting_of pending
  pub unsigned : pending.signed ≡ false
  pub opened : r.opened ≡ opens_of frames
  pub leads : Leads start (BehindFactor (Behind frames) pending factor) now

-- an expression was read in what is open
pub record Ended (start : List Placed) (r : Reader) (now : List Placed) : Type 0 where
  pub frames : List Frame
  pub inner : Expr
  pub steps : r.steps ≡ open_steps frames ++ steps_of inner
  pub opened : r.opened ≡ opens_of frames
  pub leads : Leads start (Behind frames inner) now

-- an expression was read in a parenthesis, which is no longer held as open
pub record EndedIn (bracket : Bracket) (start : List Placed) (r : Reader) (now : List Placed) : Type 0 where
  pub frames : List Frame
  pub pending : Pending
  pub around : Around
  pub inner : Expr
  pub is : bracket ≡ bracket_of around
  pub steps : r.steps ≡ ((open_steps frames ++ pending_steps pending) ++ around_steps around) ++ steps_of inner
  pub waiting : r.waiting ≡ waiting_of pending
  pub opened : r.opened ≡ opens_of frames
  pub leads : Leads start (BehindIn (Behind frames) pending around inner) now

abbrev pub At : Place → (start : List Placed) → Reader → (now : List Placed) → Type 0
At Operand start r now = Asked [] start r now
At Operator start r now = Given start r now

-- the reading goes on, or it failed
abbrev pub GoesOn : Result Place Fault → (start : List Placed) → Reader → (now : List Placed) → Type 0
GoesOn (Ok place) start r now = At place start r now
GoesOn (Err fault) start r now = Fails (IsExprAt 0) (FitsAt 0) fault start now

-- the reading goes on, or the expression was read, or that failed
abbrev pub GoesOnOrEnds : Result (Option Place) Fault → (start : List Placed) → Reader → (now : List Placed) → Type 0
GoesOnOrEnds (Ok (Some place)) start r now = At place start r now
GoesOnOrEnds (Ok None) start r now = (e : Expr) × (r.steps ≡ steps_of e) × Ends (IsExprAt 0) (FitsAt 0) e start now
GoesOnOrEnds (Err fault) start r now = Fails (IsExprAt 0) (FitsAt 0) fault start now

-- what the reader does to what it holds

abbrev pub with_step : Step → Reader → Reader
with_step step r = record { steps = r.steps ++ step ∷ []; waiting = r.waiting; opened = r.opened }

abbrev pub without_sign : Reader → Reader
without_sign r = record {
  steps = if r.waiting.signed then r.steps ++ Negate ∷ [] else r.steps;
  waiting = record { sum = r.waiting.sum; product = r.waiting.product; signed = false };
  opened = r.opened;
}

abbrev pub ended : Option Op → List Step → List Step
ended None steps = steps
ended (Some op) steps = steps ++ Operate op ∷ []

abbrev pub without_product : Reader → Reader
without_product r = record {
  steps = ended r.waiting.product r.steps;
  waiting = record { sum = r.waiting.sum; product = None; signed = r.waiting.signed };
  opened = r.opened;
}

abbrev pub without_sum : Reader → Reader
without_sum r = record {
  steps = ended r.waiting.sum r.steps;
  waiting = record { sum = None; product = r.waiting.product; signed = r.waiting.signed };
  opened = r.opened;
}

abbrev pub entered : Bracket → Reader → Reader
entered bracket r = record {
  steps = r.steps;
  waiting = record { sum = None; product = None; signed = false };
  opened = r.opened ++ record { waiting = r.waiting; bracket = bracket } ∷ [];
}
