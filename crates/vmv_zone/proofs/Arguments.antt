-- The bounds and marks of arguments.
use Rattle.std.proofs.Common.{◌∙◌, ◌≡◌, ◌≢◌, ◌↔◌, ◌^◌, ◌-◌, ℕ, ◌+◌, ◌*◌, ◌≤◌, ◌<◌, ℤ, pos, ◌≤ℤ◌, List, length, set, Bool, IsTrue, IsFalse, FitsSigned, arith, rules, ⊎_elim, sym, get_or-set_same, get_or-set_other}
use Rattle.std.specs.Int.{w64}
use Rattle.std.proofs.lemmas.Int.{ints}
use Rattle.std.proofs.lemmas.Bool.{cases_eq}
use Rattle.vmv_zone.specs.declared.zone.Zone.{Zone}
use Rattle.vmv_zone.specs.declared.operand.ZoneOperand.{ZoneOperand}
use Rattle.vmv_zone.specs.declared.operand.ZoneOperand.TheVariants.{Lit, Var}
use Rattle.vmv_zone.specs.Bounds.{IsInReach, top_bound, IsMarkedIn, IsTableBy}
use Rattle.vmv_zone.specs.Zone.{IsNormal, IsNormOf}
use Rattle.vmv_zone.specs.Operand.{thing, shift, dif, IsOperand, IsNonzero}
use Rattle.vmv_zone.specs.Args.{argument_at, AreOperands, IsArgBound, IsArgsOf}
use Rattle.vmv_zone.proofs.Operands.{thing_inside}
use Rattle.vmv_zone.proofs.Words.{variable_words, self_bound}

-- differences of operands in a normal state lie from -2^64 to 2^64 - 1
pub dif_reach : (m : Zone) (x y : ZoneOperand) → IsNormal m → IsOperand m.vars x → IsOperand m.vars y → FitsSigned w64 (shift x) → FitsSigned w64 (shift y) → IsInReach (dif m x y)
dif_reach m (Lit c) (Lit d) normal hx hy fx fy = let e = self_bound m 0 normal (omega arith) in record { low = omega (arith, ints); high = omega (arith, ints) }
dif_reach m (Lit c) (Var y) normal hx hy fx fy = let w = variable_words m y normal hy.0 hy.1 in let w0 = w.0 in record { low = omega (arith, ints); high = omega (arith, ints) }
dif_reach m (Var x) (Lit d) normal hx hy fx fy = let w = variable_words m x normal hx.0 hx.1 in let w1 = w.1 in record { low = omega (arith, ints); high = omega (arith, ints) }
dif_reach m (Var x) (Var y) normal hx hy fx fy = let r = m.reach (18 * x + y) in let l = r.low in let h = r.high in record { low = omega (arith, ints); high = omega (arith, ints) }

dif_self : (m : Zone) (x : ZoneOperand) → IsNormal m → IsOperand m.vars x → dif m x x ≡ pos 0
dif_self m x normal hx = let e = self_bound m (thing x) normal (thing_inside m.vars x hx) in omega (arith, ints)

up_word : (m : Zone) (x : ZoneOperand) → IsNormal m → IsOperand m.vars x → FitsSigned w64 (shift x) → dif m x (Lit (pos 0)) ≤ℤ pos (2 ^ 63 - 1)
up_word m (Lit c) normal hx fx = let e = self_bound m 0 normal (omega arith) in omega (arith, ints)
up_word m (Var x) normal hx fx = let w = variable_words m x normal hx.0 hx.1 in let w1 = w.1 in omega (arith, ints)

low_word : (m : Zone) (x : ZoneOperand) → IsNormal m → IsOperand m.vars x → FitsSigned w64 (shift x) → dif m (Lit (pos 0)) x ≤ℤ pos (2 ^ 63)
low_word m (Lit c) normal hx fx = let e = self_bound m 0 normal (omega arith) in omega (arith, ints)
low_word m (Var x) normal hx fx = let w = variable_words m x normal hx.0 hx.1 in let w0 = w.0 in omega (arith, ints)

top_high : (i j : ℕ) → i ≢ j → j ≡ 0 → top_bound i j ≡ pos (2 ^ 63 - 1)
top_high i j h k = grind arith

top_low : (i j : ℕ) → i ≢ j → j ≢ 0 → i ≡ 0 → top_bound i j ≡ pos (2 ^ 63)
top_low i j h k l = grind arith

top_most : (i j : ℕ) → i ≢ j → j ≢ 0 → i ≢ 0 → top_bound i j ≡ pos (2 ^ 64 - 1)
top_most i j h k l = grind arith

top_self : (i j : ℕ) → i ≡ j → top_bound i j ≡ pos 0
top_self i j h = grind arith

pub dif_topped : (m : Zone) (args : List ZoneOperand) (i j : ℕ) → IsNormal m → AreOperands m.vars args → i ≤ length args → j ≤ length args →
    FitsSigned w64 (shift (argument_at args i)) → FitsSigned w64 (shift (argument_at args j)) → dif m (argument_at args i) (argument_at args j) ≤ℤ top_bound i j
dif_topped m args i j normal operands hi hj fi fj =
    ⊎_elim
    (λ (same : i ≡ j). let e = dif_self m (argument_at args j) normal (operands j hj) in let t = top_self i j same in rw t (rw (same, e) (omega (arith, ints))))
    (λ (differ : i ≢ j). ⊎_elim
    (λ (at : j ≡ 0). let t = top_high i j differ at in let u = up_word m (argument_at args i) normal (operands i hi) fi in rw t (rw at u))
    (λ (off : j ≢ 0). ⊎_elim
    (λ (at : i ≡ 0). let t = top_low i j differ off at in let u = low_word m (argument_at args j) normal (operands j hj) fj in rw t (rw at u))
    (λ (off' : i ≢ 0). let t = top_most i j differ off off' in let r = dif_reach m (argument_at args i) (argument_at args j) normal (operands i hi) (operands j hj) fi fj in rw t r.high)
    (cases_eq i 0))
    (cases_eq j 0))
    (cases_eq i j)

pub arg_bound_is : (m : Zone) (args : List ZoneOperand) (i j : ℕ) (x y : ZoneOperand) (b b' : ℤ) → IsNormal m → AreOperands m.vars args → i ≤ length args → j ≤ length args →
    b ≡ dif m x y → FitsSigned w64 (shift x) → FitsSigned w64 (shift y) → x ≡ argument_at args i → y ≡ argument_at args j → b' ≡ b → IsArgBound m args i j b'
arg_bound_is m args i j x y b b' normal operands hi hj e fx fy ex ey eb =
    let fx' : FitsSigned w64 (shift (argument_at args i)) = rw (sym ex) fx in
    let fy' : FitsSigned w64 (shift (argument_at args j)) = rw (sym ey) fy in
    let is : b' ≡ dif m (argument_at args i) (argument_at args j) = eb ∙ (rw (ex, ey) at e) in
    record { is = is; topped = rw is (dif_topped m args i j normal operands hi hj fx' fy') }

-- one more mark
pub marked_more : (m : Zone) (args : List ZoneOperand) (marks : List Bool) (i : ℕ) (x : ZoneOperand) (b : Bool) → length marks ≡ 18 → i < 18 →
    ((k : ℕ) → 1 ≤ k → k < i → IsMarkedIn marks k ↔ IsNonzero m (argument_at args k)) → IsTrue b ↔ IsNonzero m x → x ≡ argument_at args i →
    (k : ℕ) → 1 ≤ k → k < i + 1 → IsMarkedIn (set marks i b) k ↔ IsNonzero m (argument_at args k)
marked_more m args marks i x b full inside done iff ex k from h =
    let within : i < length marks = omega arith in
    ⊎_elim
    (λ (same : k ≡ i). rw (same, get_or-set_same) (rw (sym ex) iff))
    (λ (other : k ≢ i). rw get_or-set_other (done k from (omega arith)))
    (cases_eq k i)

pub marked_inside : (marks : List Bool) (i : ℕ) (b : Bool) → length marks ≡ 18 → i < 18 → 1 ≤ i →
    ((k : ℕ) → IsMarkedIn marks k → (1 ≤ k) × (k < i)) → (k : ℕ) → IsMarkedIn (set marks i b) k → (1 ≤ k) × (k < i + 1)
marked_inside marks i b full inside from variables k marked =
    ⊎_elim
    (λ (same : k ≡ i). (omega arith, omega arith))
    (λ (other : k ≢ i). let h = variables k (rw get_or-set_other at marked) in (h.0, omega (arith, h.1)))
    (cases_eq k i)

pub args_of : (z m r : Zone) (args : List ZoneOperand) → IsNormOf z m → IsFalse m.bottom → r.vars ≡ length args → IsFalse r.bottom →
    IsTableBy (λ i j b. IsArgBound m args i j b) (length args) r.bounds →
    ((i : ℕ) → 1 ≤ i → i ≤ length args → IsMarkedIn r.marks i ↔ IsNonzero m (argument_at args i)) → IsArgsOf z args r
args_of z m r args norm up' vars up'' table marks = record {
  before = m;
  norm = norm;
  vars = vars;
  bottom = up'' ∙ sym up';
  bounds = λ up i j hi hj. (table.at i j hi hj).is;
  marks = λ up i from hi. marks i from hi;
}

pub no_args : (z m r : Zone) (args : List ZoneOperand) → IsNormOf z m → IsTrue m.bottom → r.vars ≡ length args → IsTrue r.bottom → IsArgsOf z args r
no_args z m r args norm none vars none' = record {
  before = m;
  norm = norm;
  vars = vars;
  bottom = none' ∙ sym none;
  bounds = λ up. absurd (search rules);
  marks = λ up. absurd (search rules);
}
