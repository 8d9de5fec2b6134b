-- A walk over resolved statements shows how their runs end.
use Rattle.std.proofs.Common.{◌∙◌, ◌≡◌, ℕ, ◌+◌, ℤ, pos, Bool, IsTrue, MatchBool, Some, None, List, [], slice_get, refl, sym, ap, subst}
use Rattle.std.specs.Prelude.{int_lt}
use Rattle.vmv_tree.specs.declared.name.Name.{Name}
use Rattle.vmv_tree.specs.declared.tree.Operand.{Operand}
use Rattle.vmv_tree.specs.Tree.{Stmt, call, choose, repeat, Block, [], ◌⨾◌, Item}
use Rattle.vmv_tree.specs.Run.{Valuation, Answers, End, Does, Ends, Turns, Runs, RunsAll, RunsAbove, value, holds, assign, sites, block_sites, turns_of}
use Rattle.vmv_snapshot.specs.declared.code.Slot.{Slot}
use Rattle.vmv_snapshot.specs.declared.code.CodeOperand.{CodeOperand}
use Rattle.vmv_snapshot.specs.declared.code.Simple.{Simple}
use Rattle.vmv_snapshot.specs.Code.{Stmt as CodeStmt, plain, help, branch, loop, Block as CodeBlock, [], ◌⨾◌}
use Rattle.vmv_snapshot.specs.Resolves.{Scope, IsSlot, ResolvesOperand, Resolves, ResolvesAll}
use Rattle.vmv_zone.specs.declared.zone.Zone.{Zone}
use Rattle.vmv_zone.specs.Zone.{vars_of, HasPoint, IsBelow, IsJoin}
use Rattle.vmv_zone.specs.Points.{updated}
use Rattle.vmv_zone.proofs.MoreLaws.{below_point}
use Rattle.vmv_assumption.specs.Within.{Meet}
use Rattle.vmv_step.specs.declared.stepped.Stepped.{Stepped}
use Rattle.vmv_step.specs.Steps.{IsSimpleInside, IsStepped}
use Rattle.vmv_step.specs.Loops.{IsHead}
use Rattle.vmv_step.specs.Agree.{AreSlots, Agrees}
use Rattle.vmv_step.proofs.Result.{fits_word}
use Rattle.vmv_step.proofs.Places.{updated_same, updated_other}
use Rattle.vmv_step.proofs.StepPoints.{branch_point}
use Rattle.vmv_step.proofs.LoopPoints.{head_point}
use Rattle.vmv_step.proofs.StepOrder.{step_normal, head_normal}
use Rattle.vmv_cert.specs.Sizes.{statements, block_statements, loops, block_loops}
use Rattle.vmv_cert.specs.Walk.{Walk, goes, fails, GoesIf, ListsOwn, IsAllowed, Walks, WalksAll}
use Rattle.vmv_check.specs.Walker.{IsReady, AreReady}
use Rattle.vmv_check.proofs.Lists.{got_in, of_all}
use Rattle.vmv_table_sound.proofs.Leads.{IsShown, Leads, shown_above, row_leads, either_way, went, goes_or_fails, same_zone}
use Rattle.vmv_table_sound.proofs.Steady.{IsSteady, AreSteady, block_keeps}
use Rattle.vmv_table_sound.proofs.Loops.{IsLooped, unnamed_apart, both_variables, loop_shown}
use Rattle.vmv_table_sound.proofs.Calls.{Setting, word_operand, operand_has_word, plain_leads, call_leads, call_vars}

plain_vars : (w : Walk) (vars n : ℕ) (c : Simple) (z e : Zone) (r : Stepped) → z.vars ≡ vars → IsSimpleInside vars c → IsStepped c w.assumed z r → GoesIf (IsAllowed w.row c r) n r.zone (goes e) → e.vars ≡ vars
plain_vars w vars n c z e r same inside stepped g =
    let inside' : IsSimpleInside z.vars c = subst (λ m. IsSimpleInside m c) (sym same) inside in
    ap (λ (x : Zone). x.vars) (went (IsAllowed w.row c r) n r.zone e g).1 ∙ ((step_normal c w.assumed z r inside' stepped).1 ∙ same)

-- the two parts of an `if` and their join
record IsForked (w : Walk) (scope : Scope) (first second : Does) (z1 z2 e : Zone) : Type 0 where
  one : Zone
  other : Zone
  join : IsJoin one other e
  same : other.vars ≡ one.vars
  first_leads : Leads w.assumed w.row scope.slots first z1 one
  second_leads : Leads w.assumed w.row scope.slots second z2 other

fork_shown : (w : Walk) (scope : Scope) (first second : Does) (z1 z2 e : Zone) (b : Bool) (v : Valuation) (p : ℕ → ℤ) (answers : Answers) (end : End) → IsForked w scope first second z1 z2 e →
    MatchBool b (HasPoint z1 p) (HasPoint z2 p) → Agrees scope.slots v p → Meet answers w.assumed → MatchBool b (first v answers end) (second v answers end) → IsShown w.row e scope.slots p end
fork_shown w scope first second z1 z2 e b v p answers end f points agrees meet run =
    either_way b (HasPoint z1 p) (HasPoint z2 p) (first v answers end) (second v answers end) (IsShown w.row e scope.slots p end) points run
    (λ point h. shown_above w.row f.one e scope.slots p end (sym f.join.vars) f.join.left (f.first_leads v p answers end point agrees meet h))
    (λ point h. shown_above w.row f.other e scope.slots p end (f.same ∙ sym f.join.vars) f.join.right (f.second_leads v p answers end point agrees meet h))

-- a loop's head, and its turns
loop_leads : (w : Walk) (above : List Item) (scope : Scope) (j : ℕ) (index : Name) (bound : Operand) (most : ℤ) (body : Block) (i slot : Slot) (code : CodeOperand) (site : ℕ) (z kept left : Zone) (s : Stepped) →
    AreSlots z.vars scope.slots → IsSlot scope index i → slot.0 ≡ i.0 + 1 → slice_get scope.slots slot.0 ≡ Some None → ResolvesOperand scope bound code → site ≡ j + 1 → kept.vars ≡ z.vars →
    IsHead i slot code most z s → (IsTrue s.unproved → ListsOwn w.row site) → IsBelow s.zone kept →
    IsLooped w.assumed w.row scope index i slot (RunsAll (RunsAbove above) w.row.proc (j + 1) body) kept left →
    Leads w.assumed w.row scope.slots (Runs (RunsAbove above) w.row.proc j (repeat index bound most body)) z left
loop_leads w above scope j index bound most body i slot code site z kept left s are at next_slot nameless res here over head listed below it v p answers end point agrees meet run =
    let b : ℤ = value v bound in
    let q : ℕ → ℤ = updated (updated p slot.0 b) i.0 (pos 0) in
    let both = both_variables z.vars scope index i slot are at next_slot nameless in
    let vars : s.zone.vars ≡ kept.vars = (head_normal i slot code most z s both.0 both.1 head).1 ∙ sym over in
    let apart = unnamed_apart scope.slots slot.0 i.0 index nameless at in
    either_way (int_lt most b) (IsTrue s.unproved) (HasPoint s.zone q × Agrees scope.slots (assign v index (pos 0)) q)
    (Ends answers end (End.fail (record { proc = w.row.proc; number = j + 1 }))) (Turns index (RunsAll (RunsAbove above) w.row.proc (j + 1) body) (turns_of b) 0 v answers end)
    (IsShown w.row left scope.slots p end)
    (head_point scope index i slot bound code most z s v p are at next_slot nameless res (word_operand scope bound code res) head point agrees) run
    (λ unproved h. subst (IsShown w.row left scope.slots p) (sym h.1) (subst (ListsOwn w.row) here (listed unproved)))
    (λ started h. loop_shown w.assumed w.row scope index i slot (RunsAll (RunsAbove above) w.row.proc (j + 1) body) kept left it v p q b answers end
    (below_point s.zone kept q vars below started.0) started.1 agrees.words (fits_word (p slot.0) (point.words slot.0 both.1.1)) (operand_has_word scope bound code v agrees.words res)
    (updated_other (updated p slot.0 b) i.0 slot.0 (pos 0) apart ∙ updated_same p slot.0 b)
    (λ n other e. updated_other (updated p slot.0 b) i.0 n (pos 0) (unnamed_apart scope.slots n i.0 index e at) ∙ updated_other p slot.0 n b other)
    meet h)

module _ (w : Walk) (above : List Item) (scope : Scope) (vars : ℕ) (it : Setting w above scope vars) where
  abbrev Shows : Does → Zone → Zone → Type 0
  Shows does z e = Leads w.assumed w.row scope.slots does z e × (e.vars ≡ vars)

  mutual
    unfolding Resolves

    stmt_leads : (n k j : ℕ) (s : Stmt) (c : CodeStmt) (z e : Zone) → z.vars ≡ vars → Resolves scope j s c → IsReady w.program vars c → IsSteady s → Walks w n k c z (goes e) →
        Shows (Runs (RunsAbove above) w.row.proc j s) z e
    stmt_leads n k j s (plain c) z e same res ready steady (r, stepped, g) = (
      plain_leads w above scope vars n j s c z e r it same res stepped g,
      plain_vars w vars n c z e r same ready stepped g,
    )
    stmt_leads n k j (call to callee args) (help slot proc codes) z e same res ready steady walks = (
      call_leads w above scope vars n j to callee args slot proc codes z e it same res.0 res.1 res.2 ready.1 walks,
      call_vars w n slot proc codes z e walks ∙ same,
    )
    stmt_leads n k j (choose test first second) (branch code one other) z e same res ready steady (z1, z2, goes e1, branched, walk1, (goes e2, walk2, (join, is, ends))) =
        let a = block_leads (n + 1) k j first one z1 e1 (branched.holds.greatest.vars ∙ same) res.1 ready.1 steady.0 walk1 in
        let b = block_leads (n + 1 + block_statements one) (k + block_loops one) (j + block_sites first) second other z2 e2 (branched.fails.greatest.vars ∙ same) res.2 ready.2 steady.1 walk2 in
        let joined : IsJoin e1 e2 e = subst (IsJoin e1 e2) (sym (same_zone e join ends)) is in
        let are : AreSlots z.vars scope.slots = subst (λ m. AreSlots m scope.slots) (sym same) it.slots in
        let forked : IsForked w scope (RunsAll (RunsAbove above) w.row.proc j first) (RunsAll (RunsAbove above) w.row.proc (j + block_sites first) second) z1 z2 e =
        record { one = e1; other = e2; join = joined; same = b.1 ∙ sym a.1; first_leads = a.0; second_leads = b.0 } in (
          λ v p answers end point agrees meet run. fork_shown w scope _ _ z1 z2 e (holds v test) v p answers end forked (branch_point scope test code z z1 z2 v p are res.0 branched point agrees) agrees meet run,
          joined.vars ∙ a.1,
        )
    stmt_leads n k j (choose test first second) (branch code one other) z e same res ready steady (z1, z2, goes e1, branched, walk1, (fails f, walk2, bad)) = absurd (goes_or_fails e f bad)
    stmt_leads n k j (choose test first second) (branch code one other) z e same res ready steady (z1, z2, fails f, branched, walk1, bad) = absurd (goes_or_fails e f bad)
    stmt_leads n k j (repeat index bound most body) (loop i slot code cap site inside) z e same res ready steady (s, kept, normed, turned, left, goes start, head, keeps, norm, turn, leaves, begins, (goes last, walk, (again, more, g))) =
        let b = went ((IsTrue s.unproved → ListsOwn w.row site) × IsBelow s.zone kept) n turned start begins in
        let t = went (IsBelow again kept) n left e g in
        let over : kept.vars ≡ vars = of_all (λ (x : Zone). vars_of x ≡ vars) w.row.keeps it.over kept (got_in w.row.keeps k kept keeps) in
        let normed_vars : normed.vars ≡ vars = norm.vars ∙ over in
        let start_vars : start.vars ≡ vars = ap (λ (x : Zone). x.vars) b.1 ∙ (turn.greatest.vars ∙ normed_vars) in
        let inner = block_leads (n + 1) (k + 1) (j + 1) body inside start last start_vars res.6 ready.3 steady.1 walk in
        let P : Zone → Type 0 = λ x. Leads w.assumed w.row scope.slots (RunsAll (RunsAbove above) w.row.proc (j + 1) body) x last in
        let looped : IsLooped w.assumed w.row scope index i slot (RunsAll (RunsAbove above) w.row.proc (j + 1) body) kept left = record {
          normed = normed;
          turned = turned;
          end = last;
          again = again;
          are = subst (λ m. AreSlots m scope.slots) (sym normed_vars) it.slots;
          at = res.0;
          nameless = res.2;
          next_slot = res.1;
          norm = norm;
          turn = turn;
          ended = inner.1 ∙ sym normed_vars;
          more = more;
          below = t.0;
          leaves = leaves;
          leads = subst P b.1 inner.0;
          keeps = block_keeps (RunsAbove above) w.row.proc index (j + 1) body steady.0;
        } in
        let Q : Zone → Type 0 = λ x. Leads w.assumed w.row scope.slots (Runs (RunsAbove above) w.row.proc j (repeat index bound most body)) z x in
        let head' : IsHead i slot code most z s = subst (λ (m : ℤ). IsHead i slot code m z s) res.4 head in (
          subst Q (sym t.1)
              (loop_leads w above scope j index bound most body i slot code site z kept left s (subst (λ m. AreSlots m scope.slots) (sym same) it.slots) res.0 res.1 res.2 res.3 res.5 (over ∙ sym same) head' b.0.0 b.0.1 looped),
          ap (λ (x : Zone). x.vars) t.1 ∙ (leaves.vars ∙ normed_vars),
        )
    stmt_leads n k j (repeat index bound most body) (loop i slot code cap site inside) z e same res ready steady (s, kept, normed, turned, left, goes start, head, keeps, norm, turn, leaves, begins, (fails f, walk, bad)) =
        absurd (goes_or_fails e f bad)
    stmt_leads n k j (repeat index bound most body) (loop i slot code cap site inside) z e same res ready steady (s, kept, normed, turned, left, fails f, head, keeps, norm, turn, leaves, begins, bad) = absurd (goes_or_fails e f bad)
    stmt_leads n k j s c z e same res ready steady walks = absurd res

    pub block_leads : (n k j : ℕ) (b : Block) (c : CodeBlock) (z e : Zone) → z.vars ≡ vars → ResolvesAll scope j b c → AreReady w.program vars c → AreSteady b → WalksAll w n k c z (goes e) →
        Shows (RunsAll (RunsAbove above) w.row.proc j b) z e
    block_leads n k j [] [] z e same res ready steady walks =
        let is : e ≡ z = same_zone e z walks in (
          λ v p answers end point agrees meet run.
              let P : Zone → Type 0 = λ x. HasPoint x p in
              subst (IsShown w.row e scope.slots p) (sym run.1) (record { after = p; point = subst P (sym is) point; agrees = agrees; unnamed = λ n at. refl }),
          ap (λ (x : Zone). x.vars) is ∙ same,
        )
    block_leads n k j (s ⨾ rest) (c ⨾ codes) z e same res ready steady (goes y, walk, walks) =
        let a = stmt_leads n k j s c z y same res.0 ready.0 steady.0 walk in
        let b = block_leads (n + statements c) (k + loops c) (j + sites s) rest codes y e a.1 res.1 ready.1 steady.1 walks in
        (row_leads w.assumed w.row scope.slots (Runs (RunsAbove above) w.row.proc j s) (RunsAll (RunsAbove above) w.row.proc (j + sites s) rest) z y e a.0 b.0, b.1)
    block_leads n k j (s ⨾ rest) (c ⨾ codes) z e same res ready steady (fails f, walk, bad) = absurd (goes_or_fails e f bad)
    block_leads n k j b c z e same res ready steady walks = absurd res
