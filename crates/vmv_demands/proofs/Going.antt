-- Moves back over statements and into helpers, step by step.
use Rattle.std.proofs.Common.{◌≡◌, ◌≢◌, ℕ, zero, suc, ◌-◌, ◌<◌, ◌≤◌, ◌==◌, Bool, true, false, Some, List, [], ◌∷◌, length, get_or, take, slice_get, refl, sym, ap, ◌∙◌, arith, if◌then◌else◌}
use Rattle.std.proofs.lemmas.Bool.Decides.{nat_tests}
use Rattle.vmv_snapshot.specs.declared.code.Slot.{Slot}
use Rattle.vmv_snapshot.specs.declared.code.ProcId.{ProcId}
use Rattle.vmv_snapshot.specs.declared.code.CodeOperand.{CodeOperand}
use Rattle.vmv_snapshot.specs.declared.code.CodeTest.{CodeTest}
use Rattle.vmv_snapshot.specs.declared.code.Simple.{Simple}
use Rattle.vmv_snapshot.specs.declared.code.CodeStmt.{CodeStmt, Plain, Help, If, Repeat}
use Rattle.vmv_snapshot.specs.declared.code.CodeRepeat.{CodeRepeat}
use Rattle.vmv_snapshot.specs.declared.code.Code.{Code}
use Rattle.vmv_snapshot.specs.Code.{Stmt, Block, [], ◌⨾◌}
use Rattle.vmv_snapshot.specs.View.{stmt_of, block_of}
use Rattle.vmv_demands.specs.declared.want.Want.{Want}
use Rattle.vmv_demands.specs.declared.lead.Lead.{Lead}
use Rattle.vmv_demands.specs.declared.lead.Lead.TheVariants.{Nowhere}
use Rattle.vmv_demands.specs.Back.{on_operand, over_simple, out_of_call, Results, over_assigning, over, over_all, over_code, results}
use Rattle.vmv_demands.proofs.Sizes.{is_plain, is_help, is_if, is_repeat}

pick_true : {A : Type 0} (b : Bool) (x y : A) → b ≡ true → (if b then x else y) ≡ x
pick_true true x y e = refl
pick_true false x y e = absurd (cc)

pick_false : {A : Type 0} (b : Bool) (x y : A) → b ≡ false → (if b then x else y) ≡ y
pick_false true x y e = absurd (cc)
pick_false false x y e = refl

same_number : (a b : ℕ) → a ≡ b → (a == b) ≡ true
same_number a b h = grind (arith, nat_tests)

other_number : (a b : ℕ) → a ≢ b → (a == b) ≡ false
other_number a b h = grind (arith, nat_tests)

-- a procedure that isn't before n leads nowhere
pub results_behind : (codes : List Code) (n callee : ℕ) (want : Want) → n ≤ callee → results codes n callee want ≡ Nowhere
unfolding results
results_behind codes zero callee want h = refl
results_behind codes (suc n) callee want h =
    pick_false (callee == n) (over_code (results codes n) (slice_get codes n) want) (results codes n callee want) (other_number callee n (λ e. absurd (omega arith)))
    ∙ results_behind codes n callee want (omega arith)

-- one before n leads over its body, whose calls are of those before it
pub results_before : (codes : List Code) (n callee : ℕ) (want : Want) → callee < n → results codes n callee want ≡ over_code (results codes callee) (slice_get codes callee) want
unfolding results
results_before codes zero callee want h = absurd (omega arith)
results_before codes (suc n) callee want h = by (callee == n) refl (λ k. results_before codes n callee want k)
  where
    equal : (a b : ℕ) → (a == b) ≡ true → b ≡ a
    equal a b e = grind (arith, nat_tests)

    below : (a b : ℕ) → a < suc b → (a == b) ≡ false → a < b
    below a b h e = grind (arith, nat_tests)

    by : (b : Bool) → (callee == n) ≡ b → (callee < n → results codes n callee want ≡ over_code (results codes callee) (slice_get codes callee) want) →
        (if callee == n then over_code (results codes n) (slice_get codes n) want else results codes n callee want) ≡ over_code (results codes callee) (slice_get codes callee) want
    by true e rest =
        pick_true (callee == n) (over_code (results codes n) (slice_get codes n) want) (results codes n callee want) e
        ∙ ap (λ (m : ℕ). over_code (results codes m) (slice_get codes m) want) (equal callee n e)
    by false e rest =
        pick_false (callee == n) (over_code (results codes n) (slice_get codes n) want) (results codes n callee want) e
        ∙ rest (below callee n h e)

-- over a statement that assigns x, by its form
pub over_if : (r : Results) (s : CodeStmt) (test : CodeTest) (first second : List CodeStmt) (want : Want) → s ≡ If test first second → Nowhere ≡ over_assigning r (stmt_of s) want
over_if r s test first second want is = sym (ap (λ (t : Stmt). over_assigning r t want) (is_if s test first second is))

pub over_repeat : (r : Results) (s : CodeStmt) (repeat : CodeRepeat) (want : Want) → s ≡ Repeat repeat → Nowhere ≡ over_assigning r (stmt_of s) want
over_repeat r s repeat want is = sym (ap (λ (t : Stmt). over_assigning r t want) (is_repeat s repeat is))

-- over statements in a row, from the last one on
pub over_all-none : (r : Results) (lead : Lead) → over_all r [] lead ≡ lead
unfolding over_all
over_all-none r lead = refl

over_all-row : (r : Results) (s : Stmt) (rest : Block) (lead : Lead) → over_all r (s ⨾ rest) lead ≡ over r s (over_all r rest lead)
unfolding over_all
over_all-row r s rest lead = refl

pub take_none : (block : List CodeStmt) → take 0 block ≡ []
take_none [] = refl
take_none (b ∷ block) = refl

pub over_last : (r : Results) (block : List CodeStmt) (i : ℕ) (s : CodeStmt) (lead : Lead) → i < length block → s ≡ get_or block i s →
    over_all r (block_of (take (suc i) block)) lead ≡ over_all r (block_of (take i block)) (over r (stmt_of s) lead)
over_last r [] i s lead h is = absurd (omega arith)
over_last r (b ∷ block) zero s lead h is =
    ap (λ (rest : List CodeStmt). over_all r (stmt_of b ⨾ block_of rest) lead) (take_none block)
    ∙ over_all-row r (stmt_of b) [] lead ∙ ap (over r (stmt_of b)) (over_all-none r lead)
    ∙ ap (λ (x : CodeStmt). over r (stmt_of x) lead) (sym is) ∙ sym (over_all-none r (over r (stmt_of s) lead))
over_last r (b ∷ block) (suc i) s lead h is =
    over_all-row r (stmt_of b) (block_of (take (suc i) block)) lead
    ∙ ap (over r (stmt_of b)) (over_last r block i s lead (omega (arith, h)) is)
    ∙ sym (over_all-row r (stmt_of b) (block_of (take i block)) (over r (stmt_of s) lead))
