-- Small programs, lowered by hand.
use Rattle.std.proofs.Common.{◌≡◌, ℕ, ℤ, pos, List, [], ◌∷◌, refl}
use Rattle.std.specs.Prelude.{codes}
use Rattle.vmv_tree.specs.declared.tree.Operand.TheVariants.{Lit, Var}
use Rattle.vmv_tree.specs.declared.tree.Op.TheVariants.{Add, Mul}
use Rattle.vmv_tree.specs.declared.tree.Rel.TheVariants.{AtLeast, AtMost}
use Rattle.vmv_tree.specs.Tree as core
use Rattle.vmv_tree.specs.Tree.{[], ◌⨾◌}
use Rattle.vmv_surface.specs.Surface.{literal, variable, operate, ask, no_args, compared, both, Stmt, assert, Body, no_stmts}
use Rattle.vmv_surface.specs.Temporaries.{temporary, temporaries_of}
use Rattle.vmv_surface.specs.Lower.{lower, whole_block}

-- return n * (n + 1);
product : Body
product = record { vars = []; block = no_stmts; output = operate Mul (variable (codes "n")) (operate Add (variable (codes "n")) (literal (pos 1))) }

product_lowered : whole_block product ≡ core.compute (codes "__1") Add (Var (codes "n")) (Lit (pos 1)) ⨾ (core.compute (codes "__1") Mul (Var (codes "n")) (Var (codes "__1")) ⨾ [])
unfolding product
product_lowered = refl

product_temporaries : temporaries_of (whole_block product) ≡ codes "__1" ∷ []
unfolding product
product_temporaries = refl

-- assert read() >= 1 and read() <= 9;
range : Stmt
range = assert (both (compared (ask (codes "read") no_args) AtLeast (literal (pos 1))) (compared (ask (codes "read") no_args) AtMost (literal (pos 9))))

range_lowered : lower range ≡ core.call (codes "__1") (codes "read") [] ⨾ (core.assert (record { left = Var (codes "__1"); rel = AtLeast; right = Lit (pos 1) })
    ⨾ (core.call (codes "__1") (codes "read") [] ⨾ (core.assert (record { left = Var (codes "__1"); rel = AtMost; right = Lit (pos 9) }) ⨾ [])))
unfolding range
range_lowered = refl

eleventh : temporary 11 ≡ codes "__11"
eleventh = refl
