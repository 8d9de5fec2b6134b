-- A box has one state and one norm, and which rows are above it.
use Rattle.std.proofs.Common.{◌≡◌, ◌↔◌, IsTrue, ℕ, zero, suc, ◌+◌, ◌≤◌, ℤ, ◌≤ℤ◌, Some, length, map, slice_get, sym, ap, subst, arith, ◌∙◌}
use Rattle.std.proofs.lemmas.Int.{ints}
use Rattle.vmv_tree.specs.declared.name.Name.{Name}
use Rattle.vmv_tree.specs.Run.{name_of}
use Rattle.vmv_snapshot.specs.Resolution.{Resolution, procs_of}
use Rattle.vmv_zone.specs.declared.zone.Zone.{Zone}
use Rattle.vmv_zone.specs.Zone.{vars_of, bound_of, IsBelow, IsNormOf}
use Rattle.vmv_zone.proofs.Equal.{below_both, norm_once}
use Rattle.vmv_cert.specs.declared.row.Row.{Row}
use Rattle.vmv_cert.specs.Tables.{Box, IsBoxState, IsRowAbove}
use Rattle.vmv_check.proofs.Lists.{some_same, item_at}
use Rattle.vmv_proof_check.specs.declared.sought.Sought.{Sought}
use Rattle.vmv_proof_check.specs.Work.{IsSought}

box_bound : (box : Box) (a b : Zone) → IsBoxState box a → IsBoxState box b → (i j : ℕ) → i ≤ length box → j ≤ length box → bound_of a i j ≡ bound_of b i j
box_bound box a b f g zero zero hi hj = f.origin ∙ sym g.origin
box_bound box a b f g (suc i) zero hi hj =
    let r = item_at box i (omega arith) in
    let e : i + 1 ≡ suc i = omega arith in
    subst (λ k. bound_of a k 0 ≡ bound_of b k 0) e (f.high i r.0 r.1 ∙ sym (g.high i r.0 r.1))
box_bound box a b f g zero (suc j) hi hj =
    let r = item_at box j (omega arith) in
    let e : j + 1 ≡ suc j = omega arith in
    subst (λ k. bound_of a 0 k ≡ bound_of b 0 k) e (f.low j r.0 r.1 ∙ sym (g.low j r.0 r.1))
box_bound box a b f g (suc i) (suc j) hi hj = f.others (suc i) (suc j) (omega arith) hi (omega arith) hj ∙ sym (g.others (suc i) (suc j) (omega arith) hi (omega arith) hj)

no_more : (x y : ℤ) → x ≡ y → x ≤ℤ y
no_more x y e = omega (arith, ints)

box_below : (box : Box) (a b : Zone) → IsBoxState box a → IsBoxState box b → IsBelow a b
box_below box a b f g up = record {
  not_bottom = g.not_bottom;
  bounds = λ i j hi hj. (let e = g.vars in no_more (bound_of a i j) (bound_of b i j) (box_bound box a b f g i j (omega arith) (omega arith)));
  marks = λ i from hi marked. absurd (g.unmarked i marked);
}

box_once : (box : Box) (a b : Zone) → IsBoxState box a → IsBoxState box b → a ≡ b
box_once box a b f g = below_both a b (f.vars ∙ sym g.vars) (box_below box a b f g) (box_below box b a g f)

pub boxed_once : (box : Box) (a b m n : Zone) → IsBoxState box a → IsBoxState box b → IsNormOf a m → IsNormOf b n → m ≡ n
boxed_once box a b m n f g x y = norm_once b m n (subst (λ (z : Zone). IsNormOf z m) (box_once box a b f g) x) y

-- the state that is looked for is over a variable for each range
least_vars : (name : Name) (box : Box) (sought : Sought) → IsSought name box sought → vars_of sought.least ≡ length box
least_vars name box sought is = is.norm.vars ∙ is.box_is.vars

-- a row whose name is another isn't looked for
pub other_name : (program : Resolution) (number : ℕ) (name : Name) (box : Box) (row : Row) → slice_get (map name_of (procs_of program)) number ≡ Some name → IsRowAbove program number box row → row.proc ≡ name
other_name program number name box row named r = some_same (sym r.named ∙ named)

pub other_vars : (program : Resolution) (number : ℕ) (box : Box) (sought : Sought) (row : Row) → IsSought sought.name box sought → IsRowAbove program number box row → vars_of row.input ≡ vars_of sought.least
other_vars program number box sought row is r = r.over ∙ sym (least_vars sought.name box sought is)

pub above_told : (program : Resolution) (number : ℕ) (box : Box) (sought : Sought) (row : Row) (norm : Zone) (b : _) → slice_get (map name_of (procs_of program)) number ≡ Some sought.name → IsSought sought.name box sought → row.proc ≡ sought.name →
    vars_of row.input ≡ vars_of sought.least → IsNormOf row.input norm → (IsTrue b ↔ IsBelow sought.least norm) → IsTrue b ↔ IsRowAbove program number box row
above_told program number box sought row norm b named is same vars input_norm told = (
  λ t. record {
    named = named ∙ ap (λ (x : Name). Some x) (sym same);
    over = vars ∙ least_vars sought.name box sought is;
    boxed = is.boxed;
    box_is = is.box_is;
    least = sought.least;
    box_norm = is.norm;
    input = norm;
    input_norm = input_norm;
    above = told.0 t;
  },
  λ r.
      let one : r.least ≡ sought.least = boxed_once box r.boxed is.boxed r.least sought.least r.box_is is.box_is r.box_norm is.norm in
      let two : r.input ≡ norm = norm_once row.input r.input norm r.input_norm input_norm in
      told.1 (subst (λ (z : Zone). IsBelow sought.least z) two (subst (λ (z : Zone). IsBelow z r.input) one r.above)),
)
