-- Steps from a state, by way of its norm.
use Rattle.std.proofs.Common.{◌∙◌, ◌≡◌, ◌≤◌, ℕ, Bool, ℤ, List}
use Rattle.vmv_tree.specs.declared.name.Name.{Name}
use Rattle.vmv_tree.specs.declared.tree.Op.{Op}
use Rattle.vmv_cond.specs.declared.cond.Cond.{Cond}
use Rattle.vmv_snapshot.specs.declared.code.CodeOperand.{CodeOperand}
use Rattle.vmv_snapshot.specs.declared.code.Slot.{Slot}
use Rattle.vmv_snapshot.specs.declared.code.Simple.{Simple}
use Rattle.vmv_snapshot.specs.declared.code.Simple.TheVariants.{Set, Arith, Ask, Assert}
use Rattle.vmv_zone.specs.declared.zone.Zone.{Zone}
use Rattle.vmv_zone.specs.declared.operand.ZoneOp.{ZoneOp}
use Rattle.vmv_zone.specs.declared.operand.ZoneOperand.{ZoneOperand}
use Rattle.vmv_zone.specs.declared.operand.ZoneTest.{ZoneTest}
use Rattle.vmv_zone.specs.Zone.{IsNormOf}
use Rattle.vmv_zone.proofs.Normed.{norm_through, guarded_through, assigned_through}
use Rattle.vmv_step.specs.declared.stepped.Stepped.{Stepped}
use Rattle.vmv_step.specs.Fails.{TellsArith, TellsTest, TellsBound}
use Rattle.vmv_step.specs.Loops.{IsHead, IsLeft}
use Rattle.vmv_step.specs.Steps.{IsSimpleInside, IsAfter, Tells, IsStepped}

pub tells_arith_through : (op : ZoneOp) (z b : Zone) (x y : ZoneOperand) (r : Bool) → IsNormOf z b → TellsArith op b x y r → TellsArith op z x y r
tells_arith_through op z b x y r norm t = record { before = t.before; norm = norm_through z b t.before norm t.norm; tells = t.tells }

pub tells_test_through : (test : ZoneTest) (z b : Zone) (r : Bool) → IsNormOf z b → TellsTest test b r → TellsTest test z r
tells_test_through test z b r norm t = record { failing = t.failing; guard = guarded_through z b t.failing _ norm t.guard; tells = t.tells }

pub tells_bound_through : (x : ZoneOperand) (cap : ℤ) (z b : Zone) (r : Bool) → IsNormOf z b → TellsBound x cap b r → TellsBound x cap z r
tells_bound_through x cap z b r norm t = record { before = t.before; norm = norm_through z b t.before norm t.norm; tells = t.tells }

pub after_through : (stmt : Simple) (A : Name → Cond) (z b r : Zone) → IsNormOf z b → IsAfter stmt A b r → IsAfter stmt A z r
after_through (Set to from) A z b r norm after = assigned_through z b r _ _ norm after
after_through (Arith to op left right site) A z b r norm after = assigned_through z b r _ _ norm after
after_through (Ask to callee args) A z b r norm after = assigned_through z b r _ _ norm after
after_through (Assert test site) A z b r norm after = guarded_through z b r _ norm after

pub tells_through : (stmt : Simple) (z b : Zone) (r : Bool) → IsNormOf z b → Tells stmt b r → Tells stmt z r
tells_through (Set to from) z b r norm tells = tells
tells_through (Arith to op left right site) z b r norm tells = tells_arith_through _ z b _ _ r norm tells
tells_through (Ask to callee args) z b r norm tells = tells
tells_through (Assert test site) z b r norm tells = tells_test_through _ z b r norm tells

-- the step from the norm is one from the state
pub stepped_through : (stmt : Simple) (A : Name → Cond) (z b : Zone) (s : Stepped) → IsNormOf z b → IsStepped stmt A b s → IsStepped stmt A z s
stepped_through stmt A z b s norm stepped = record { zone = after_through stmt A z b s.zone norm stepped.zone; unproved = tells_through stmt z b s.unproved norm stepped.unproved }

pub head_through : (i slot : Slot) (bound : CodeOperand) (most : ℤ) (z b : Zone) (s : Stepped) → IsNormOf z b → IsHead i slot bound most b s → IsHead i slot bound most z s
head_through i slot bound most z b s norm head = record {
  capped = head.capped;
  guard = guarded_through z b head.capped _ norm head.guard;
  copied = head.copied;
  copy = head.copy;
  zone = head.zone;
  unproved = tells_bound_through _ most z b s.unproved norm head.unproved;
}

pub left_through : (i slot : Slot) (z b r : Zone) → IsNormOf z b → IsLeft i slot b r → IsLeft i slot z r
left_through i slot z b r norm left = record {
  last = left.last;
  guard = guarded_through z b left.last _ norm left.guard;
  vars = left.vars ∙ norm.vars;
  bottom = left.bottom;
  forgotten = left.forgotten;
}

-- the slot that a statement gives a value is a variable
pub arith_target : (vars : ℕ) (stmt : Simple) (to : Slot) (op : Op) (left right : CodeOperand) (site : ℕ) → stmt ≡ Arith to op left right site → IsSimpleInside vars stmt → 1 ≤ to.0
arith_target vars stmt to op left right site is inside = let there : IsSimpleInside vars (Arith to op left right site) = rw is at inside in there.0.0

pub ask_target : (vars : ℕ) (stmt : Simple) (to : Slot) (callee : Name) (args : List CodeOperand) → stmt ≡ Ask to callee args → IsSimpleInside vars stmt → 1 ≤ to.0
ask_target vars stmt to callee args is inside = let there : IsSimpleInside vars (Ask to callee args) = rw is at inside in there.0
