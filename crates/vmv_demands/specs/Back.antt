-- Where what is wanted of a variable leads, going backward over resolved statements.
use Rattle.std.specs.Prelude.{ℕ, zero, suc, ◌==◌, pos, neg_ℤ, ◌||◌, Option, Some, None, List, slice_get, if◌then◌else◌}
use Rattle.std.specs.Ordering.{int_eq}
use Rattle.vmv_tree.specs.declared.name.Name.{Name}
use Rattle.vmv_tree.specs.declared.tree.Op.{Op}
use Rattle.vmv_tree.specs.declared.tree.Op.TheVariants.{Add, Sub, Mul, Div, Rem}
use Rattle.vmv_snapshot.specs.declared.code.Slot.{Slot}
use Rattle.vmv_snapshot.specs.declared.code.CodeOperand.{CodeOperand}
use Rattle.vmv_snapshot.specs.declared.code.CodeOperand.TheVariants.{Lit, Var}
use Rattle.vmv_snapshot.specs.declared.code.Simple.{Simple}
use Rattle.vmv_snapshot.specs.declared.code.Simple.TheVariants.{Set, Arith, Ask, Assert}
use Rattle.vmv_snapshot.specs.declared.code.Code.{Code}
use Rattle.vmv_snapshot.specs.Code.{Stmt, plain, help, branch, loop, Block, [], ◌⨾◌, Body}
use Rattle.vmv_snapshot.specs.View.{code_of}
use Rattle.vmv_back.specs.Assigned.{assigns, block_assigns}
use Rattle.vmv_demands.specs.declared.want.Want.{Want}
use Rattle.vmv_demands.specs.declared.want.Want.TheVariants.{Within, Except}
use Rattle.vmv_demands.specs.declared.want.Condition.TheVariants.{Range, Nonzero}
use Rattle.vmv_demands.specs.declared.lead.Lead.{Lead}
use Rattle.vmv_demands.specs.declared.lead.Lead.TheVariants.{Nowhere, Asked, At}
use Rattle.vmv_demands.specs.Wants.{is_whole, moved}

-- to the slot, where something is wanted
abbrev pub on_slot : Slot → Option Want → Lead
on_slot x (Some want) = At x want
on_slot x None = Nowhere

-- to the operand's variable; a literal stands for no variable
abbrev pub on_operand : CodeOperand → Option Want → Lead
on_operand (Var x) want = on_slot x want
on_operand (Lit word) want = Nowhere

-- to the answer of an outside function: a condition on it is a range that isn't whole, or leaves out 0 alone
abbrev pub on_answer : Name → Want → Lead
on_answer f (Within lo hi) = if is_whole lo hi then Nowhere else Asked f (Range lo hi)
on_answer f (Except c) = if int_eq c (pos 0) then Asked f Nonzero else Nowhere

-- over `x = left op right`, where this is wanted of x
abbrev pub over_arith : Op → CodeOperand → CodeOperand → Want → Lead
over_arith Add (Var y) (Lit c) want = on_slot y (moved (neg_ℤ c) want)
over_arith Add (Lit c) (Var y) want = on_slot y (moved (neg_ℤ c) want)
over_arith Add (Var y) (Var z) want = Nowhere
over_arith Add (Lit c) (Lit d) want = Nowhere
over_arith Sub (Var y) (Lit c) want = on_slot y (moved c want)
over_arith Sub (Lit c) (Var y) want = Nowhere
over_arith Sub (Var y) (Var z) want = Nowhere
over_arith Sub (Lit c) (Lit d) want = Nowhere
over_arith Mul left right want = Nowhere
over_arith Div left right want = Nowhere
over_arith Rem left right want = Nowhere

-- over a simple statement that assigns x, where this is wanted of x
abbrev pub over_simple : Simple → Want → Lead
over_simple (Set to from) want = on_operand from (Some want)
over_simple (Arith to op left right site) want = over_arith op left right want
over_simple (Ask to f args) want = on_answer f want
over_simple (Assert test site) want = Nowhere

-- what is given for the parameter in this slot; the parameters' slots are numbered from 1
abbrev pub argument : List CodeOperand → ℕ → Option CodeOperand
argument args zero = None
argument args (suc k) = slice_get args k

abbrev pub on_argument : Option CodeOperand → Want → Lead
on_argument (Some operand) want = on_operand operand (Some want)
on_argument None want = Nowhere

-- from the start of a helper to before this call of it: a parameter is the argument, another variable leads nowhere
abbrev pub out_of_call : List CodeOperand → Lead → Lead
out_of_call args Nowhere = Nowhere
out_of_call args (Asked f cond) = Asked f cond
out_of_call args (At x want) = on_argument (argument args x.0) want

-- From the start of a loop's body to before the loop: nowhere where a turn may assign the slot, as it does the index.
abbrev pub out_of_loop : Slot → Block → Lead → Lead
out_of_loop index body Nowhere = Nowhere
out_of_loop index body (Asked f cond) = Asked f cond
out_of_loop index body (At x want) = if (index.0 == x.0) || block_assigns x.0 body then Nowhere else At x want

-- where what is wanted of the result of a helper, by its number, leads: to one of its slots at its start, or further
abbrev pub Results : Type 0
Results = ℕ → Want → Lead

-- over a statement that assigns x, where this is wanted of x
abbrev pub over_assigning : Results → Stmt → Want → Lead
over_assigning results (plain simple) want = over_simple simple want
over_assigning results (help to callee args) want = out_of_call args (results callee.0 want)
over_assigning results (branch test first second) want = Nowhere
over_assigning results (loop index slot bound most site body) want = Nowhere

-- over a statement; one that doesn't assign the slot, itself or inside, is passed
abbrev pub over : Results → Stmt → Lead → Lead
over results s Nowhere = Nowhere
over results s (Asked f cond) = Asked f cond
over results s (At x want) = if assigns x.0 s then over_assigning results s want else At x want

-- from the end of statements in a row to their start
unfoldable pub over_all : Results → Block → Lead → Lead
over_all results [] lead = lead
over_all results (s ⨾ rest) lead = over results s (over_all results rest lead)

-- from the end of a procedure to its start, where this is wanted of what it returns
abbrev pub over_body : Results → Body → Want → Lead
over_body results body want = over_all results body.block (on_operand body.output (Some want))

abbrev pub over_code : Results → Option Code → Want → Lead
over_code results (Some code) want = over_body results (code_of code) want
over_code results None want = Nowhere

-- of the procedures of numbers less than n, which are those that procedure n calls
unfoldable pub results : List Code → ℕ → Results
results codes zero callee want = Nowhere
results codes (suc n) callee want =
    if callee == n then over_code (results codes n) (slice_get codes n) want else results codes n callee want
