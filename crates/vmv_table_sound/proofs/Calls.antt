-- Simple statements and calls of helpers end as the walk shows.
use Rattle.std.proofs.Common.{◌∙◌, ◌≡◌, inl, inr, ℕ, zero, suc, ℤ, Some, List, [], ◌∷◌, length, map, slice_get, sym, ap, subst, arith}
use Rattle.std.specs.List.{All, Contains}
use Rattle.std.proofs.lemmas.List.{length-map}
use Rattle.std.proofs.lemmas.Slice.Zip.{AllZip-long}
use Rattle.vmv_tree.specs.declared.name.Name.{Name}
use Rattle.vmv_tree.specs.declared.tree.Operand.{Operand}
use Rattle.vmv_tree.specs.declared.tree.Operand.TheVariants.{Lit, Var}
use Rattle.vmv_tree.specs.Words.{IsWord}
use Rattle.vmv_tree.specs.Tree.{Stmt, copy, compute, call, assert, Item}
use Rattle.vmv_tree.specs.Run.{Valuation, Answers, End, next, End.fail, Outcome, done, Outcome.fail, Runs, RunsAbove, value, name_of, set_to_outcome}
use Rattle.vmv_cond.specs.declared.cond.Cond.{Cond}
use Rattle.vmv_snapshot.specs.declared.code.Slot.{Slot}
use Rattle.vmv_snapshot.specs.declared.code.ProcId.{ProcId}
use Rattle.vmv_snapshot.specs.declared.code.CodeOperand.{CodeOperand}
use Rattle.vmv_snapshot.specs.declared.code.CodeOperand.TheVariants.{Lit, Var}
use Rattle.vmv_snapshot.specs.declared.code.Simple.{Simple}
use Rattle.vmv_snapshot.specs.declared.code.Simple.TheVariants.{Set, Arith, Ask, Assert}
use Rattle.vmv_snapshot.specs.Code.{plain}
use Rattle.vmv_snapshot.specs.Resolution.{procs_of}
use Rattle.vmv_snapshot.specs.Resolves.{Scope, IsSlot, ResolvesOperand, ResolvesArgs, Resolves}
use Rattle.vmv_zone.specs.declared.zone.Zone.{Zone}
use Rattle.vmv_zone.specs.declared.operand.ZoneValue.TheVariants.{Within}
use Rattle.vmv_zone.specs.Zone.{vars_of, HasPoint}
use Rattle.vmv_zone.specs.Step.{IsAssigned}
use Rattle.vmv_zone.proofs.Equal.{clash}
use Rattle.vmv_zone.proofs.MoreLaws.{below_point}
use Rattle.vmv_assumption.specs.Within.{Meet}
use Rattle.vmv_step.specs.declared.stepped.Stepped.{Stepped}
use Rattle.vmv_step.specs.Steps.{IsStepped}
use Rattle.vmv_step.specs.Agree.{AreSlots, Agrees, AreAsked, HasWords, IsWordOperand, words_at}
use Rattle.vmv_step.proofs.StepPoints.{step_point, failing_point, given_follows}
use Rattle.vmv_step.proofs.LoopPoints.{pass_point}
use Rattle.vmv_cert.specs.declared.row.Row.{Row}
use Rattle.vmv_cert.specs.Walk.{Walk, goes, GoesIf, IsAllowed, Returns, IsMatch, IsReturned, AreAllowed, WalksCall}
use Rattle.vmv_check.specs.Walker.{HasParams}
use Rattle.vmv_check.proofs.Lists.{some_same}
use Rattle.vmv_check.proofs.Walking.{assigned_vars}
use Rattle.vmv_table_sound.specs.Told.{named}
use Rattle.vmv_table_sound.proofs.Leads.{IsShown, Leads, went, goes_or_fails, same_zone}

-- a resolved literal is a word
pub word_operand : (scope : Scope) (o : Operand) (c : CodeOperand) → ResolvesOperand scope o c → IsWordOperand c
word_operand scope (Lit w) (Lit u) r = subst IsWord (sym r.0) r.1
word_operand scope (Lit w) (Var n) r = absurd r
word_operand scope (Var x) (Lit u) r = absurd r
word_operand scope (Var x) (Var n) r = tt

-- a resolved operand has a word
pub operand_has_word : (scope : Scope) (o : Operand) (c : CodeOperand) (v : Valuation) → ((x : Name) → IsWord (v x)) → ResolvesOperand scope o c → IsWord (value v o)
operand_has_word scope (Lit w) (Lit u) v words r = r.1
operand_has_word scope (Lit w) (Var n) v words r = absurd r
operand_has_word scope (Var x) (Lit u) v words r = absurd r
operand_has_word scope (Var x) (Var n) v words r = words x

word_args : (scope : Scope) (args : List Operand) (codes : List CodeOperand) → ResolvesArgs scope args codes → All IsWordOperand codes
word_args scope [] [] r k d h = absurd (omega arith)
word_args scope [] (c ∷ codes) r k d h = absurd r
word_args scope (o ∷ args) [] r k d h = absurd r
word_args scope (o ∷ args) (c ∷ codes) r zero d h = word_operand scope o c r.0
word_args scope (o ∷ args) (c ∷ codes) r (suc k) d h = word_args scope args codes r.1 k d (omega (arith, h))

-- the literals of a resolved statement are words
words_of : (scope : Scope) (k : ℕ) (s : Stmt) (c : Simple) → Resolves scope k s (plain c) → HasWords c
unfolding Resolves
words_of scope k (copy to from) (Set slot code) r = word_operand scope from code r.1
words_of scope k (compute to op left right) (Arith slot same a b site) r = (word_operand scope left a r.2, word_operand scope right b r.3)
words_of scope k (call to callee args) (Ask slot name codes) r = word_args scope args codes r.3
words_of scope k (assert test) (Assert code site) r = (word_operand scope test.left code.left r.0.0, word_operand scope test.right code.right r.0.2)
words_of scope k s c r = absurd r

-- what a row tells of an outcome; a returned word is a word
abbrev pub IsToldWord : Row → Outcome → Type 0
IsToldWord row (done word) = Returns row.result word × IsWord word
IsToldWord row (fail site) = Contains row.unproved (named site)

-- the rows of the helpers of a scope tell their runs over the items above
abbrev pub AreTold : Walk → List Item → Scope → Type 0
AreTold w above scope =
    (n : ℕ) (callee : Name) (row : Row) (words : List ℤ) (answers : Answers) (outcome : Outcome) → slice_get scope.helpers n ≡ Some (Some callee) → Contains w.rows row
    → slice_get (map name_of (procs_of w.program)) n ≡ Some row.proc → length words ≡ vars_of row.input → HasPoint row.input (words_at words) → Meet answers w.assumed
    → RunsAbove above callee words answers outcome → IsToldWord row outcome

-- what is known of the procedure of a row
pub record Setting (w : Walk) (above : List Item) (scope : Scope) (vars : ℕ) : Type 0 where
  pub slots : AreSlots vars scope.slots
  pub asked : AreAsked above scope.outsides
  pub told : AreTold w above scope
  pub over : All (λ z. vars_of z ≡ vars) w.row.keeps

plain_shown : (w : Walk) (above : List Item) (scope : Scope) (k : ℕ) (s : Stmt) (c : Simple) (z : Zone) (r : Stepped) (v : Valuation) (p : ℕ → ℤ) (answers : Answers) (end : End) →
    AreSlots z.vars scope.slots → AreAsked above scope.outsides → Resolves scope k s (plain c) → IsStepped c w.assumed z r → IsAllowed w.row c r → HasPoint z p → Agrees scope.slots v p → Meet answers w.assumed →
    Runs (RunsAbove above) w.row.proc k s v answers end → IsShown w.row r.zone scope.slots p end
plain_shown w above scope k s c z r v p answers (next u) are asked res stepped allowed point agrees meet run =
    step_point above scope w.row.proc k s c w.assumed z r v u answers p are asked res (words_of scope k s c res) stepped point agrees meet run
plain_shown w above scope k s c z r v p answers (fail site) are asked res stepped allowed point agrees meet run =
    let f = failing_point above scope w.row.proc k s c w.assumed z r v answers p site are asked res (words_of scope k s c res) stepped point agrees run in
    let P : Name → Type 0 = λ x. Contains w.row.unproved (record { proc = x; index = site.number }) in
    subst P (sym f.1) (allowed f.0 site.number f.2)

-- a simple statement
pub plain_leads : (w : Walk) (above : List Item) (scope : Scope) (vars n k : ℕ) (s : Stmt) (c : Simple) (z e : Zone) (r : Stepped) → Setting w above scope vars → z.vars ≡ vars → Resolves scope k s (plain c) →
    IsStepped c w.assumed z r → GoesIf (IsAllowed w.row c r) n r.zone (goes e) → Leads w.assumed w.row scope.slots (Runs (RunsAbove above) w.row.proc k s) z e
plain_leads w above scope vars n k s c z e r it same res stepped g v p answers end point agrees meet run =
    let t = went (IsAllowed w.row c r) n r.zone e g in
    let are : AreSlots z.vars scope.slots = subst (λ m. AreSlots m scope.slots) (sym same) it.slots in
    let P : Zone → Type 0 = λ x. IsShown w.row x scope.slots p end in
    subst P (sym t.1) (plain_shown w above scope k s c z r v p answers end are it.asked res stepped t.0 point agrees meet run)

-- how the call of a helper ends, where all matching rows tell its outcome
called_shown : (w : Walk) (callee : ℕ) (scope : Scope) (to : Name) (slot : Slot) (args z r : Zone) (c : Cond) (v : Valuation) (p : ℕ → ℤ) (outcome : Outcome) (one : Row) →
    AreSlots z.vars scope.slots → IsSlot scope to slot → IsReturned w callee args c → IsAssigned z slot.0 (Within c) r → AreAllowed w callee args → HasPoint z p → Agrees scope.slots v p →
    IsMatch w callee args one → ((row : Row) → IsMatch w callee args row → IsToldWord row outcome) → IsShown w.row r scope.slots p (set_to_outcome v to outcome)
called_shown w callee scope to slot args z r c v p (done word) one are at returned given allowed point agrees m told =
    given_follows scope to slot c z r v p word are at given point agrees (told one m).1 ((returned word).1 (λ row n. (told row n).0))
called_shown w callee scope to slot args z r c v p (fail site) one are at returned given allowed point agrees m told = allowed (named site) (λ row n. told row n)

-- the words of the arguments are a point of the input of each row that matches them
matched_point : (w : Walk) (callee count : ℕ) (args : Zone) (row : Row) (p : ℕ → ℤ) → args.vars ≡ count → HasParams w.program callee count → IsMatch w callee args row → HasPoint args p →
    (row.input.vars ≡ count) × HasPoint row.input p
matched_point w callee count args row p vars params m point =
    let same : row.input.vars ≡ count = some_same (sym m.over ∙ params) in
    (same, below_point args row.input p (vars ∙ sym same) m.above point)

-- the call of a helper
pub call_leads : (w : Walk) (above : List Item) (scope : Scope) (vars n k : ℕ) (to callee : Name) (args : List Operand) (slot : Slot) (proc : ProcId) (codes : List CodeOperand) (z e : Zone) → Setting w above scope vars →
    z.vars ≡ vars → IsSlot scope to slot → slice_get scope.helpers proc.0 ≡ Some (Some callee) → ResolvesArgs scope args codes → HasParams w.program proc.0 (length codes) →
    WalksCall w n slot proc codes z (goes e) → Leads w.assumed w.row scope.slots (Runs (RunsAbove above) w.row.proc k (call to callee args)) z e
call_leads w above scope vars n k to callee args slot proc codes z e it same at helps res params (inl (none, is)) v p answers end point agrees meet run = absurd (clash z.bottom none point.not_bottom)
call_leads w above scope vars n k to callee args slot proc codes z e it same at helps res params (inr (up, (passed, is, inl (none, bad)))) v p answers end point agrees meet run = absurd (goes_or_fails e n bad)
call_leads w above scope vars n k to callee args slot proc codes z e it same at helps res params (inr (up, (passed, is, inr ((one, m), (c, r, returned, given, g))))) v p answers end point agrees meet (outcome, ran, ends) =
    let t = went (AreAllowed w proc.0 passed) n r e g in
    let are : AreSlots z.vars scope.slots = subst (λ m. AreSlots m scope.slots) (sym same) it.slots in
    let words : List ℤ = map (value v) args in
    let count : passed.vars ≡ length codes = is.vars ∙ length-map codes _ in
    let long : length words ≡ length codes = length-map args (value v) ∙ sym (AllZip-long (ResolvesOperand scope) args codes res) in
    let here = pass_point scope args codes z passed v p are res (word_args scope args codes res) is point agrees in
    let told : (row : Row) → IsMatch w proc.0 passed row → IsToldWord row outcome = λ row n. (let q = matched_point w proc.0 (length codes) passed row (words_at words) count params n here in
    it.told proc.0 callee row words answers outcome helps n.one n.named (long ∙ sym q.0) q.1 meet ran) in
    let P : Zone → Type 0 = λ x. IsShown w.row x scope.slots p end in
    subst P (sym t.1) (subst (IsShown w.row r scope.slots p) (sym ends) (called_shown w proc.0 scope to slot passed z r c v p outcome one are at returned given t.0 point agrees m told))

-- the state behind a call is over as many variables
pub call_vars : (w : Walk) (n : ℕ) (slot : Slot) (proc : ProcId) (codes : List CodeOperand) (z e : Zone) → WalksCall w n slot proc codes z (goes e) → e.vars ≡ z.vars
call_vars w n slot proc codes z e (inl (none, is)) = ap (λ (x : Zone). x.vars) (same_zone e z is)
call_vars w n slot proc codes z e (inr (up, (passed, is, inl (none, bad)))) = absurd (goes_or_fails e n bad)
call_vars w n slot proc codes z e (inr (up, (passed, is, inr (some, (c, r, returned, given, g))))) =
    let t = went (AreAllowed w proc.0 passed) n r e g in ap (λ (x : Zone). x.vars) t.1 ∙ assigned_vars z r slot.0 (Within c) given
