-- Simple statements keep points, and what fails at a point is unproved.
use Rattle.std.proofs.Common.{◌∙◌, ◌≡◌, ℕ, ◌+◌, ℤ, Bool, true, false, if◌then◌else◌, IsTrue, MatchBool, Option, Some, None, List, [], ◌∷◌, map, FitsSigned, arith, refl, sym, subst, ap}
use Rattle.std.specs.Int.{w64}
use Rattle.vmv_tree.specs.declared.name.Name.{Name}
use Rattle.vmv_tree.specs.declared.tree.Op.{Op}
use Rattle.vmv_tree.specs.declared.tree.Rel.{Rel}
use Rattle.vmv_tree.specs.declared.tree.Operand.{Operand}
use Rattle.vmv_tree.specs.declared.tree.Test.{Test}
use Rattle.vmv_tree.specs.Words.{IsWord, result_of, compare}
use Rattle.vmv_tree.specs.Tree.{Stmt, copy, compute, call, assert, Item}
use Rattle.vmv_tree.specs.Run.{Valuation, Answers, Site, next, fail, Outcome, done, value, holds, assign, set_or_fail, set_to_outcome, Runs, RunsAbove}
use Rattle.vmv_cond.specs.declared.cond.Cond.{Cond}
use Rattle.vmv_cond.specs.Cond.{Holds}
use Rattle.vmv_snapshot.specs.declared.code.Slot.{Slot}
use Rattle.vmv_snapshot.specs.declared.code.CodeOperand.{CodeOperand}
use Rattle.vmv_snapshot.specs.declared.code.CodeOperand.TheVariants.{Lit, Var}
use Rattle.vmv_snapshot.specs.declared.code.CodeTest.{CodeTest}
use Rattle.vmv_snapshot.specs.declared.code.Simple.{Simple}
use Rattle.vmv_snapshot.specs.declared.code.Simple.TheVariants.{Set, Arith, Ask, Assert}
use Rattle.vmv_snapshot.specs.Code.{plain}
use Rattle.vmv_snapshot.specs.Resolves.{Scope, IsSlot, ResolvesOperand, ResolvesTest, Resolves}
use Rattle.vmv_zone.specs.declared.zone.Zone.{Zone}
use Rattle.vmv_zone.specs.declared.operand.ZoneOp.{ZoneOp}
use Rattle.vmv_zone.specs.declared.operand.ZoneOperand.{ZoneOperand}
use Rattle.vmv_zone.specs.declared.operand.ZoneValue.{ZoneValue}
use Rattle.vmv_zone.specs.declared.operand.ZoneValue.TheVariants.{Copy, Arith, Within}
use Rattle.vmv_zone.specs.Rel.{Meets}
use Rattle.vmv_zone.specs.Zone.{HasPoint}
use Rattle.vmv_zone.specs.Operand.{IsOperand}
use Rattle.vmv_zone.specs.Points.{Results, Gives, updated}
use Rattle.vmv_zone.specs.Step.{IsGuarded, IsAssigned, IsOperandOf}
use Rattle.vmv_zone.proofs.GuardLaws.{guard_point, norm_point}
use Rattle.vmv_zone.proofs.AssignPoints.{assign_point}
use Rattle.vmv_assumption.specs.Assumed.{Assumed}
use Rattle.vmv_assumption.specs.Within.{Meet}
use Rattle.vmv_step.specs.declared.stepped.Stepped.{Stepped}
use Rattle.vmv_step.specs.Zones.{zone_operand, zone_op, zone_rel, zone_test, negation, negated_rel}
use Rattle.vmv_step.specs.Fails.{TellsArith}
use Rattle.vmv_step.specs.Steps.{IsSimpleInside, IsStepped, IsBranched}
use Rattle.vmv_step.specs.Agree.{AreSlots, Agrees, Follows, IsWordOperand, HasWords, AreAsked, HasSite}
use Rattle.vmv_step.proofs.Result.{word_fits, fits_word, gives, failing, Failing, meets, meets_not}
use Rattle.vmv_step.proofs.Ends.{IsFit, may_fail}
use Rattle.vmv_step.proofs.Places.{named_inside, operand_inside, operand_value, operand_word, agrees_assigned, unnamed_assigned}

pub fit_operand : (c : CodeOperand) → IsWordOperand c → IsFit (zone_operand c)
fit_operand (Lit w) h = word_fits w h
fit_operand (Var n) h = tt

-- a variable that is given a word has it at a point behind that
pub assigned_follows : (scope : Scope) (to : Name) (slot : Slot) (given : ZoneValue) (z r : Zone) (v w : Valuation) (p : ℕ → ℤ) (word : ℤ) → AreSlots z.vars scope.slots → IsSlot scope to slot →
    IsOperandOf given z.vars → IsAssigned z slot.0 given r → HasPoint z p → Agrees scope.slots v p → Gives given p word → IsWord word → w ≡ assign v to word → Follows r scope.slots w p
assigned_follows scope to slot given z r v w p word are at operands assigned point agrees is fits e =
    let inside = named_inside z.vars scope.slots slot.0 to are at in
    let P : Valuation → Type 0 = λ u. Agrees scope.slots u (updated p slot.0 word) in
    record {
      after = updated p slot.0 word;
      point = assign_point z r slot.0 given p word are.few inside.0 inside.1 operands assigned point is (word_fits word fits);
      agrees = subst P (sym e) (agrees_assigned z.vars scope.slots v p to slot.0 word are at fits agrees);
      unnamed = unnamed_assigned scope.slots p to slot.0 word at;
    }

pub given_follows : (scope : Scope) (to : Name) (slot : Slot) (c : Cond) (z r : Zone) (v : Valuation) (p : ℕ → ℤ) (w : ℤ) → AreSlots z.vars scope.slots → IsSlot scope to slot →
    IsAssigned z slot.0 (Within c) r → HasPoint z p → Agrees scope.slots v p → IsWord w → Holds c w → Follows r scope.slots (assign v to w) p
given_follows scope to slot c z r v p w are at assigned point agrees word held =
    assigned_follows scope to slot (Within c) z r v (assign v to w) p w are at tt assigned point agrees held word refl

some_of : (v : Valuation) (to : Name) (site : Site) (o : Option ℤ) (w : Valuation) → next w ≡ set_or_fail v to site o → (word : ℤ) × (o ≡ Some word) × (w ≡ assign v to word)
some_of v to site (Some word) w e = (word, refl, (cc))
some_of v to site None w e = absurd (cc)

none_of : (v : Valuation) (to : Name) (site : Site) (o : Option ℤ) (end : Site) → fail end ≡ set_or_fail v to site o → (o ≡ None) × (end ≡ site)
none_of v to site (Some word) end e = absurd (cc)
none_of v to site None end e = (refl, (cc))

held_of : (b : Bool) (v w : Valuation) (site : Site) → next w ≡ (if b then next v else fail site) → (b ≡ true) × (w ≡ v)
held_of true v w site e = (refl, (cc))
held_of false v w site e = absurd (cc)

missed_of : (b : Bool) (v : Valuation) (site end : Site) → fail end ≡ (if b then next v else fail site) → (b ≡ false) × (end ≡ site)
missed_of true v site end e = absurd (cc)
missed_of false v site end e = (refl, (cc))

same_results : (op : ZoneOp) (x y w x' y' : ℤ) → x ≡ x' → y ≡ y' → Results op x' y' w → Results op x y w
same_results op x y w x' y' ex ey h = rw (ex, ey) h

same_failing : (op : Op) (x y x' y' : ℤ) → x ≡ x' → y ≡ y' → Failing op x' y' → Failing op x y
same_failing op x y x' y' ex ey h = rw (ex, ey) h

same_meets : (rel rel' : Rel) (x y x' y' : ℤ) → rel ≡ rel' → x ≡ x' → y ≡ y' → compare rel' x' y' ≡ true → Meets (zone_rel rel) x y
same_meets rel rel' x y x' y' er ex ey h = meets rel x y (rw (er, ex, ey) h)

same_misses : (rel rel' : Rel) (x y x' y' : ℤ) → rel ≡ rel' → x ≡ x' → y ≡ y' → compare rel' x' y' ≡ false → Meets (negated_rel (zone_rel rel)) x y
same_misses rel rel' x y x' y' er ex ey h = meets_not rel x y (rw (er, ex, ey) h)

-- a point where the test holds is one of the state after its guard
pub test_point : (scope : Scope) (test : Test) (code : CodeTest) (z g : Zone) (v : Valuation) (p : ℕ → ℤ) → AreSlots z.vars scope.slots → ResolvesTest scope test code →
    IsGuarded z (zone_test code) g → HasPoint z p → Agrees scope.slots v p → holds v test ≡ true → HasPoint g p
test_point scope test code z g v p are res guard point agrees held =
    guard_point z g (zone_test code) p (operand_inside z.vars scope test.left code.left are res.0) (operand_inside z.vars scope test.right code.right are res.2) guard point
    (same_meets code.rel test.rel _ _ (value v test.left) (value v test.right) res.1 (operand_value scope test.left code.left v p res.0 agrees) (operand_value scope test.right code.right v p res.2 agrees) held)

pub missed_point : (scope : Scope) (test : Test) (code : CodeTest) (z g : Zone) (v : Valuation) (p : ℕ → ℤ) → AreSlots z.vars scope.slots → ResolvesTest scope test code →
    IsGuarded z (negation (zone_test code)) g → HasPoint z p → Agrees scope.slots v p → holds v test ≡ false → HasPoint g p
missed_point scope test code z g v p are res guard point agrees missed =
    guard_point z g (negation (zone_test code)) p (operand_inside z.vars scope test.left code.left are res.0) (operand_inside z.vars scope test.right code.right are res.2) guard point
    (same_misses code.rel test.rel _ _ (value v test.left) (value v test.right) res.1 (operand_value scope test.left code.left v p res.0 agrees) (operand_value scope test.right code.right v p res.2 agrees) missed)

pub by_match : (b : Bool) (P Q : Type 0) → (b ≡ true → P) → (b ≡ false → Q) → MatchBool b P Q
by_match true P Q f g = f refl
by_match false P Q f g = g refl

pub branch_point : (scope : Scope) (test : Test) (code : CodeTest) (z first second : Zone) (v : Valuation) (p : ℕ → ℤ) → AreSlots z.vars scope.slots → ResolvesTest scope test code →
    IsBranched code z first second → HasPoint z p → Agrees scope.slots v p → MatchBool (holds v test) (HasPoint first p) (HasPoint second p)
branch_point scope test code z first second v p are res branched point agrees =
    by_match (holds v test) (HasPoint first p) (HasPoint second p)
    (λ held. test_point scope test code z first v p are res branched.holds point agrees held)
    (λ missed. missed_point scope test code z second v p are res branched.fails point agrees missed)

arith_point : (scope : Scope) (to : Name) (slot : Slot) (op same : Op) (left right : Operand) (a b : CodeOperand) (z r : Zone) (v w : Valuation) (p : ℕ → ℤ) (word : ℤ) → AreSlots z.vars scope.slots → IsSlot scope to slot →
    same ≡ op → ResolvesOperand scope left a → ResolvesOperand scope right b → IsWordOperand a → IsAssigned z slot.0 (Arith (zone_op same) (zone_operand a) (zone_operand b)) r → HasPoint z p → Agrees scope.slots v p →
    result_of op (value v left) (value v right) ≡ Some word → w ≡ assign v to word → Follows r scope.slots w p
arith_point scope to slot op same left right a b z r v w p word are at eo hl hr words assigned point agrees is e =
    let el = operand_value scope left a v p hl agrees in
    let er = operand_value scope right b v p hr agrees in
    let il = operand_inside z.vars scope left a are hl in
    let ir = operand_inside z.vars scope right b are hr in
    let fits : FitsSigned w64 (value v left) = subst (FitsSigned w64) el (word_fits _ (operand_word z a p point il words)) in
    let is' : result_of same (value v left) (value v right) ≡ Some word = rw eo is in
    let g = gives same (value v left) (value v right) word fits is' in
    assigned_follows scope to slot (Arith (zone_op same) (zone_operand a) (zone_operand b)) z r v w p word are at (il, ir) assigned point agrees
    (same_results (zone_op same) _ _ word (value v left) (value v right) el er g.0) (fits_word word g.1) e

asked_word : (name callee : Name) (word : ℤ) (answers : Answers) (A : Assumed) → name ≡ callee → answers ≡ (callee, word) ∷ [] → Meet answers A → IsWord word → Holds (A name) word
asked_word name callee word answers A en ea meet fits =
    let meet' : Meet ((callee, word) ∷ []) A = subst (λ (xs : Answers). Meet xs A) ea meet in
    rw en (meet' 0 (callee, word) (omega arith) fits)

answered : (v : Valuation) (to : Name) (w : Valuation) (outcome : Outcome) (word : ℤ) → outcome ≡ done word → next w ≡ set_to_outcome v to outcome → w ≡ assign v to word
answered v to w outcome word is e = let e' : next w ≡ set_to_outcome v to (done word) = subst (λ (o : Outcome). next w ≡ set_to_outcome v to o) is e in cc

never_fails : (v : Valuation) (to : Name) (end : Site) (outcome : Outcome) (word : ℤ) → outcome ≡ done word → fail end ≡ set_to_outcome v to outcome → ⊥
never_fails v to end outcome word is e = let e' : fail end ≡ set_to_outcome v to (done word) = subst (λ (o : Outcome). fail end ≡ set_to_outcome v to o) is e in absurd (cc)

pub step_point : (above : List Item) (scope : Scope) (proc : Name) (k : ℕ) (s : Stmt) (c : Simple) (A : Assumed) (z : Zone) (r : Stepped) (v w : Valuation) (answers : Answers) (p : ℕ → ℤ) →
    AreSlots z.vars scope.slots → AreAsked above scope.outsides → Resolves scope k s (plain c) → HasWords c → IsStepped c A z r → HasPoint z p → Agrees scope.slots v p → Meet answers A →
    Runs (RunsAbove above) proc k s v answers (next w) → Follows r.zone scope.slots w p
unfolding Resolves
step_point above scope proc k (copy to from) (Set slot code) A z r v w answers p are asked res words stepped point agrees meet run =
    let inside = operand_inside z.vars scope from code are res.1 in
    let is = operand_value scope from code v p res.1 agrees in
    let word : IsWord (value v from) = subst IsWord is (operand_word z code p point inside words) in
    assigned_follows scope to slot (Copy (zone_operand code)) z r.zone v w p (value v from) are res.0 inside stepped.zone point agrees (sym is) word (let e = run.1 in cc)
step_point above scope proc k (compute to op left right) (Arith slot same a b site) A z r v w answers p are asked res words stepped point agrees meet run =
    let found = some_of v to _ (result_of op (value v left) (value v right)) w run.1 in
    arith_point scope to slot op same left right a b z r.zone v w p found.0 are res.0 res.1 res.2 res.3 words.0 stepped.zone point agrees found.1 found.2
step_point above scope proc k (call to callee args) (Ask slot name codes) A z r v w answers p are asked res words stepped point agrees meet run =
    let answer = asked callee (map (value v) args) answers run.0 res.2 run.1 in
    assigned_follows scope to slot (Within (A name)) z r.zone v w p answer.0 are res.0 tt stepped.zone point agrees
    (asked_word name callee answer.0 answers A res.1 answer.2 meet answer.1) answer.1 (answered v to w run.0 answer.0 answer.3 run.2)
step_point above scope proc k (assert test) (Assert code site) A z r v w answers p are asked res words stepped point agrees meet run =
    let found = held_of (holds v test) v w _ run.1 in
    let P : Valuation → Type 0 = λ u. Agrees scope.slots u p in
    record {
      after = p;
      point = test_point scope test code z r.zone v p are res.0 stepped.zone point agrees found.0;
      agrees = subst P (sym found.1) agrees;
      unnamed = λ n e. refl;
    }
step_point above scope proc k s c A z r v w answers p are asked res words stepped point agrees meet run = absurd res

fails_arith : (scope : Scope) (op same : Op) (left right : Operand) (a b : CodeOperand) (z : Zone) (unproved : Bool) (v : Valuation) (p : ℕ → ℤ) → AreSlots z.vars scope.slots →
    same ≡ op → ResolvesOperand scope left a → ResolvesOperand scope right b → IsWordOperand a → TellsArith (zone_op same) z (zone_operand a) (zone_operand b) unproved → HasPoint z p → Agrees scope.slots v p →
    result_of op (value v left) (value v right) ≡ None → IsTrue unproved
fails_arith scope op same left right a b z unproved v p are eo hl hr words tells point agrees is =
    let el = operand_value scope left a v p hl agrees in
    let er = operand_value scope right b v p hr agrees in
    let il = operand_inside z.vars scope left a are hl in
    let ir = operand_inside z.vars scope right b are hr in
    let fits : FitsSigned w64 (value v left) = subst (FitsSigned w64) el (word_fits _ (operand_word z a p point il words)) in
    let is' : result_of same (value v left) (value v right) ≡ None = rw eo is in
    let m = tells.before in
    let here = norm_point z m p tells.norm point in
    let inside : (o : ZoneOperand) → IsOperand z.vars o → IsOperand m.vars o = λ o h. (let P : ℕ → Type 0 = λ n. IsOperand n o in subst P (sym tells.norm.vars) h) in
    tells.tells.1 (
      here.not_bottom,
      may_fail same m p (zone_operand a) (zone_operand b) here (tells.norm.normal here.not_bottom) (inside (zone_operand a) il) (inside (zone_operand b) ir) (fit_operand a words)
          (same_failing same _ _ (value v left) (value v right) el er (failing same (value v left) (value v right) fits is')),
    )

site_is : (site end : Site) → end ≡ site → (end.proc ≡ site.proc) × (site.number ≡ end.number)
site_is site end e = (ap (λ (s : Site). s.proc) e, sym (ap (λ (s : Site). s.number) e))

pub failing_point : (above : List Item) (scope : Scope) (proc : Name) (k : ℕ) (s : Stmt) (c : Simple) (A : Assumed) (z : Zone) (r : Stepped) (v : Valuation) (answers : Answers) (p : ℕ → ℤ) (end : Site) →
    AreSlots z.vars scope.slots → AreAsked above scope.outsides → Resolves scope k s (plain c) → HasWords c → IsStepped c A z r → HasPoint z p → Agrees scope.slots v p →
    Runs (RunsAbove above) proc k s v answers (fail end) → IsTrue r.unproved × (end.proc ≡ proc) × HasSite c end.number
unfolding Resolves
failing_point above scope proc k (copy to from) (Set slot code) A z r v answers p end are asked res words stepped point agrees run = let e = run.1 in absurd (cc)
failing_point above scope proc k (compute to op left right) (Arith slot same a b site) A z r v answers p end are asked res words stepped point agrees run =
    let found = none_of v to (record { proc = proc; number = k + 1 }) (result_of op (value v left) (value v right)) end run.1 in
    let is = site_is (record { proc = proc; number = k + 1 }) end found.1 in
    (fails_arith scope op same left right a b z r.unproved v p are res.1 res.2 res.3 words.0 stepped.unproved point agrees found.0, is.0, res.4 ∙ is.1)
failing_point above scope proc k (call to callee args) (Ask slot name codes) A z r v answers p end are asked res words stepped point agrees run =
    let answer = asked callee (map (value v) args) answers run.0 res.2 run.1 in
    absurd (never_fails v to end run.0 answer.0 answer.3 run.2)
failing_point above scope proc k (assert test) (Assert code site) A z r v answers p end are asked res words stepped point agrees run =
    let found = missed_of (holds v test) v (record { proc = proc; number = k + 1 }) end run.1 in
    let is = site_is (record { proc = proc; number = k + 1 }) end found.1 in
    let tells = stepped.unproved in
    (tells.tells.1 (missed_point scope test code z tells.failing v p are res.0 tells.guard point agrees found.0).not_bottom, is.0, res.1 ∙ is.1)
failing_point above scope proc k s c A z r v answers p end are asked res words stepped point agrees run = absurd res

pub simple_inside : (vars : ℕ) (scope : Scope) (k : ℕ) (s : Stmt) (c : Simple) → AreSlots vars scope.slots → Resolves scope k s (plain c) → IsSimpleInside vars c
unfolding Resolves
simple_inside vars scope k (copy to from) (Set slot code) are res = (named_inside vars scope.slots slot.0 to are res.0, operand_inside vars scope from code are res.1)
simple_inside vars scope k (compute to op left right) (Arith slot same a b site) are res =
    (named_inside vars scope.slots slot.0 to are res.0, operand_inside vars scope left a are res.2, operand_inside vars scope right b are res.3)
simple_inside vars scope k (call to callee args) (Ask slot name codes) are res = named_inside vars scope.slots slot.0 to are res.0
simple_inside vars scope k (assert test) (Assert code site) are res =
    let t = res.0 in (operand_inside vars scope test.left code.left are t.0, operand_inside vars scope test.right code.right are t.2)
simple_inside vars scope k s c are res = absurd res
