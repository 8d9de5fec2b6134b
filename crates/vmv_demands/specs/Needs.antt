-- What a site wants of one variable, so that it passes.
use Rattle.std.specs.Prelude.{ℤ, pos, negsuc, ◌+ℤ◌, ◌-ℤ◌, int_lt, int_div, Option, Some, None, if◌then◌else◌}
use Rattle.std.specs.Ordering.{int_eq}
use Rattle.vmv_tree.specs.declared.tree.Op.{Op}
use Rattle.vmv_tree.specs.declared.tree.Op.TheVariants.{Add, Sub, Mul, Div, Rem}
use Rattle.vmv_tree.specs.declared.tree.Rel.{Rel}
use Rattle.vmv_tree.specs.declared.tree.Rel.TheVariants.{Equal, Unequal, Less, AtMost, Greater, AtLeast}
use Rattle.vmv_snapshot.specs.declared.code.CodeOperand.{CodeOperand}
use Rattle.vmv_snapshot.specs.declared.code.CodeOperand.TheVariants.{Lit, Var}
use Rattle.vmv_snapshot.specs.declared.code.CodeTest.{CodeTest}
use Rattle.vmv_back.specs.Facts.{mirrored}
use Rattle.vmv_demands.specs.declared.want.Want.{Want}
use Rattle.vmv_demands.specs.declared.want.Want.TheVariants.{Except}
use Rattle.vmv_demands.specs.declared.lead.Lead.{Lead}
use Rattle.vmv_demands.specs.declared.lead.Lead.TheVariants.{Nowhere}
use Rattle.vmv_demands.specs.Wants.{least, greatest, needed}
use Rattle.vmv_demands.specs.Back.{on_slot, on_operand}

-- of x in `x rel c`
abbrev pub rel_needs : Rel → ℤ → Option Want
rel_needs Equal c = needed c c
rel_needs Unequal c = Some (Except c)
rel_needs Less c = needed least (c -ℤ pos 1)
rel_needs AtMost c = needed least c
rel_needs Greater c = needed (c +ℤ pos 1) greatest
rel_needs AtLeast c = needed c greatest

-- of the one variable that a comparison has; nothing where it compares two variables or two literals
abbrev pub sides_need : CodeOperand → Rel → CodeOperand → Lead
sides_need (Var x) rel (Lit c) = on_slot x (rel_needs rel c)
sides_need (Lit c) rel (Var x) = on_slot x (rel_needs (mirrored rel) c)
sides_need (Var x) rel (Var y) = Nowhere
sides_need (Lit c) rel (Lit d) = Nowhere

abbrev pub test_needs : CodeTest → Lead
test_needs test = sides_need test.left test.rel test.right

-- of x in `x * c`: the quotients are cut off toward 0
abbrev pub factor_needs : ℤ → Option Want
factor_needs c =
    if int_lt (pos 0) c then needed (int_div least c) (int_div greatest c)
    else (if int_lt c (pos 0) then needed (int_div greatest c) (int_div least c) else None)

-- of x in `x / c` and `x % c`: only -1 divides the least word to what isn't a word
abbrev pub dividend_needs : ℤ → Option Want
dividend_needs c = if int_eq c (negsuc 0) then needed (least +ℤ pos 1) greatest else None

-- of x in `x op c`
abbrev pub left_needs : Op → ℤ → Option Want
left_needs Add c = needed (least -ℤ c) (greatest -ℤ c)
left_needs Sub c = needed (least +ℤ c) (greatest +ℤ c)
left_needs Mul c = factor_needs c
left_needs Div c = dividend_needs c
left_needs Rem c = dividend_needs c

-- of x in `c op x`
abbrev pub right_needs : Op → ℤ → Option Want
right_needs Add c = needed (least -ℤ c) (greatest -ℤ c)
right_needs Sub c = needed (c -ℤ greatest) (c -ℤ least)
right_needs Mul c = factor_needs c
right_needs Div c = Some (Except (pos 0))
right_needs Rem c = Some (Except (pos 0))

-- of x in `y op x`, y being a variable
abbrev pub divisor_needs : Op → Option Want
divisor_needs Add = None
divisor_needs Sub = None
divisor_needs Mul = None
divisor_needs Div = Some (Except (pos 0))
divisor_needs Rem = Some (Except (pos 0))

-- of a variable in `left op right`
abbrev pub arith_needs : Op → CodeOperand → CodeOperand → Lead
arith_needs op (Var x) (Lit c) = on_slot x (left_needs op c)
arith_needs op (Lit c) (Var x) = on_slot x (right_needs op c)
arith_needs op (Var y) (Var x) = on_slot x (divisor_needs op)
arith_needs op (Lit c) (Lit d) = Nowhere

-- of the bound of a loop: it isn't above the cap
abbrev pub bound_needs : CodeOperand → ℤ → Lead
bound_needs bound most = on_operand bound (needed least most)
