-- Steps from normal states, and from states by way of their norms.
use Rattle.std.proofs.Common.{◌∙◌, ◌+◌, ℕ, List, arith, refl, subst}
use Rattle.std.proofs.lemmas.Int.{ints}
use Rattle.vmv_zone.specs.declared.zone.Zone.{Zone}
use Rattle.vmv_cond.specs.declared.cond.Cond.{Cond}
use Rattle.vmv_zone.specs.declared.operand.ZoneOperand.{ZoneOperand}
use Rattle.vmv_zone.specs.declared.operand.ZoneTest.{ZoneTest}
use Rattle.vmv_zone.specs.declared.operand.ZoneValue.{ZoneValue}
use Rattle.vmv_zone.specs.declared.operand.ZoneOperand.TheVariants.{Var}
use Rattle.vmv_zone.specs.Zone.{IsNormal, IsNormOf, IsGreatest}
use Rattle.vmv_zone.specs.Step.{IsGuarded, IsAssigned, Tested, Given}
use Rattle.vmv_zone.specs.Args.{IsArgsOf}
use Rattle.vmv_zone.specs.Read.{IsRangeOf}
use Rattle.vmv_zone.proofs.States.{below_trans}

-- a normal state is its own norm
pub norm_itself : (z : Zone) → IsNormal z → IsNormOf z z
norm_itself z normal = record {
  vars = refl;
  normal = normal;
  below = λ up. record { not_bottom = up; bounds = λ i j hi hj. omega (arith, ints); marks = λ i from hi marked. marked };
  greatest = λ m same normal' below. below;
}

-- the norm of the norm is the norm
pub norm_through : (z b n : Zone) → IsNormOf z b → IsNormOf b n → IsNormOf z n
norm_through z b n one two = record {
  vars = two.vars ∙ one.vars;
  normal = two.normal;
  below = below_trans n b z one.vars two.below one.below;
  greatest = λ m same normal below. two.greatest m (omega (arith, same, one.vars)) normal (one.greatest m same normal below);
}

pub guarded_through : (z b g : Zone) (test : ZoneTest) → IsNormOf z b → IsGuarded b test g → IsGuarded z test g
guarded_through z b g test norm guarded = record {
  before = guarded.before;
  norm = norm_through z b guarded.before norm guarded.norm;
  greatest = let F : ℕ → Type 0 = λ k. IsGreatest k guarded.before (λ n. Tested test.rel guarded.before n test.left test.right) g in subst F norm.vars guarded.greatest;
}

pub assigned_through : (z b r : Zone) (to : ℕ) (value : ZoneValue) → IsNormOf z b → IsAssigned b to value r → IsAssigned z to value r
assigned_through z b r to value norm assigned = record {
  before = assigned.before;
  norm = norm_through z b assigned.before norm assigned.norm;
  fresh = assigned.fresh;
  greatest = let F : ℕ → Type 0 = λ k. IsGreatest (k + 1) assigned.before (λ n. Given value assigned.before n (Var (k + 1))) assigned.fresh in subst F norm.vars assigned.greatest;
  drops = assigned.drops;
}

pub args_through : (z b r : Zone) (args : List ZoneOperand) → IsNormOf z b → IsArgsOf b args r → IsArgsOf z args r
args_through z b r args norm passed = record {
  before = passed.before;
  norm = norm_through z b passed.before norm passed.norm;
  vars = passed.vars;
  bottom = passed.bottom;
  bounds = passed.bounds;
  marks = passed.marks;
}

pub range_through : (z b : Zone) (x : ZoneOperand) (c : Cond) → IsNormOf z b → IsRangeOf b x c → IsRangeOf z x c
range_through z b x c norm range = record { before = range.before; norm = norm_through z b range.before norm range.norm; words = range.words }
