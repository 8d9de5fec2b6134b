-- The walk of statements ends in some way.
use Rattle.std.proofs.Common.{◌≡◌, ◌↔◌, inl, inr, ⊎_elim, ℕ, ◌+◌, ◌<◌, ◌≤◌, ℤ, Some, List, [], ◌∷◌, length, slice_get, IsTrue, refl, sym, subst, arith, ◌∙◌}
use Rattle.std.specs.Prelude.{⊤}
use Rattle.std.specs.List.{All, Contains}
use Rattle.vmv_cond.specs.declared.cond.Cond.{Cond}
use Rattle.vmv_cond.specs.Cond.{Holds}
use Rattle.vmv_snapshot.specs.declared.code.Slot.{Slot}
use Rattle.vmv_snapshot.specs.declared.code.ProcId.{ProcId}
use Rattle.vmv_snapshot.specs.declared.code.CodeOperand.{CodeOperand}
use Rattle.vmv_snapshot.specs.declared.code.Simple.{Simple}
use Rattle.vmv_snapshot.specs.Code.{Stmt, plain, help, branch, loop, Block, [], ◌⨾◌}
use Rattle.vmv_zone.specs.declared.zone.Zone.{Zone}
use Rattle.vmv_zone.specs.declared.operand.ZoneValue.TheVariants.{Within}
use Rattle.vmv_zone.specs.Zone.{vars_of, IsBelow, IsNormOf}
use Rattle.vmv_zone.proofs.Equal.{by_truth}
use Rattle.vmv_states_exist.proofs.Joins.{joins}
use Rattle.vmv_states_exist.proofs.Greatest.{norm_exists}
use Rattle.vmv_states_exist.proofs.Dropping.{assignment_exists}
use Rattle.vmv_states_exist.proofs.Conds.{nothing, nothing_empty, meet_exists}
use Rattle.vmv_step.specs.Zones.{IsVariable, AreInside}
use Rattle.vmv_step.specs.declared.stepped.Stepped.{Stepped}
use Rattle.vmv_step.specs.Steps.{IsSimpleInside, IsStepped}
use Rattle.vmv_step.specs.Loops.{IsHead, IsTurn, IsLeft}
use Rattle.vmv_step.proofs.StepOrder.{step_normal}
use Rattle.vmv_cert.specs.declared.row.Row.{Row}
use Rattle.vmv_cert.specs.declared.row.Reach.{Reach}
use Rattle.vmv_cert.specs.declared.row.Reach.TheVariants.{Bottom, Value}
use Rattle.vmv_cert.specs.Sizes.{statements, block_statements, loops, block_loops}
use Rattle.vmv_cert.specs.Walk.{Way, goes, fails, Walk, GoesIf, Then, ListsOwn, IsAllowed, Returns, IsMatch, IsReturned, AreAllowed, WalksCall, Walks, WalksAll}
use Rattle.vmv_check.specs.Walker.{IsReady, AreReady, SomeMatch}
use Rattle.vmv_check.proofs.Lists.{of_all, got_in, item_at}
use Rattle.vmv_table_order.proofs.Parts.{assigned_vars, IsJoined, BehindFirst, BehindBody, BehindHead}
use Rattle.vmv_table_order.proofs.Lists.{first_or_further, none_in, further}
use Rattle.vmv_table_order.proofs.Literals.{IsWorded, AreWorded}
use Rattle.vmv_table_order.proofs.Results.{decided, stepped_exists, branched_exists, head_exists, turn_exists, again_exists, left_exists, args_exist}

-- a way that goes on is one from a state over so many variables
abbrev pub IsOver : ℕ → Way → Type 0
IsOver vars (goes z) = z.vars ≡ vars
IsOver vars (fails n) = ⊤

-- it isn't so that there is no such way
abbrev pub SomeWay : ℕ → (Way → Type 0) → Type 0
SomeWay vars Is = ¬ (¬ ((way : Way) × Is way × IsOver vars way))

-- a test is passed or not
pub some_test : (vars : ℕ) (P : Type 0) (n : ℕ) (z : Zone) → z.vars ≡ vars → SomeWay vars (GoesIf P n z)
some_test vars P n z over k =
    decided P (⊎_elim (λ (p : P). k (goes z, inl (p, refl), over)) (λ (q : P → ⊥). k (fails n, inr (q, refl), tt)))

-- what comes behind a way comes to some end
pub some_behind : (vars : ℕ) (first : Way) (Next : Zone → Way → Type 0) → IsOver vars first → ((e : Zone) → e.vars ≡ vars → SomeWay vars (Next e)) → SomeWay vars (Then first Next)
some_behind vars (goes z) Next over next k = next z over k
some_behind vars (fails n) Next over next k = k (fails n, refl, tt)

-- the words that may be returned are those of a condition
reach_cond : (result : Reach) → (c : Cond) × ((word : ℤ) → Holds c word ↔ Returns result word)
reach_cond Bottom = (nothing, λ word. ((λ h. nothing_empty word h), (λ h. absurd h)))
reach_cond (Value c) = (c, λ word. ((λ h. h), (λ h. h)))

-- the words that this row and the matching ones among these may return
abbrev AreReturned : Walk → ℕ → Zone → Row → List Row → Cond → Type 0
AreReturned w callee args row rows c = (word : ℤ) → Holds c word ↔ (Returns row.result word × ((x : Row) → Contains rows x → IsMatch w callee args x → Returns x.result word))

narrowed : (w : Walk) (callee : ℕ) (args : Zone) (row x : Row) (rows : List Row) (c d m : Cond) → AreReturned w callee args row rows c → ((word : ℤ) → Holds d word ↔ Returns x.result word) → ((word : ℤ) → Holds m word ↔ (Holds c word × Holds d word)) →
    IsMatch w callee args x → AreReturned w callee args row (x ∷ rows) m
narrowed w callee args row x rows c d m are one meet match word = (
  λ h.
      let both = (meet word).0 h in
      let old = (are word).0 both.0 in
      (old.0, λ y among k. ⊎_elim (λ (e : x ≡ y). subst (λ (u : Row). Returns u.result word) e ((one word).0 both.1)) (λ (g : Contains rows y). old.1 y g k) (first_or_further x rows y among)),
  λ h. (meet word).1 ((are word).1 (h.0, λ y g k. h.1 y (further x rows y g) k), (one word).1 (h.1 x (0, omega arith, refl) match)),
)

passed_over : (w : Walk) (callee : ℕ) (args : Zone) (row x : Row) (rows : List Row) (c : Cond) → AreReturned w callee args row rows c → (IsMatch w callee args x → ⊥) → AreReturned w callee args row (x ∷ rows) c
passed_over w callee args row x rows c are off word = (
  λ h.
      let old = (are word).0 h in
      (old.0, λ y among k. ⊎_elim (λ (e : x ≡ y). absurd (off (subst (λ (u : Row). IsMatch w callee args u) (sym e) k))) (λ (g : Contains rows y). old.1 y g k) (first_or_further x rows y among)),
  λ h. (are word).1 (h.0, λ y g k. h.1 y (further x rows y g) k),
)

some_returned : (w : Walk) (callee : ℕ) (args : Zone) (row : Row) (rows : List Row) → ¬ (¬ ((c : Cond) × AreReturned w callee args row rows c))
some_returned w callee args row [] k =
    let c = reach_cond row.result in
    k (c.0, λ word. ((λ h. ((c.1 word).0 h, λ x among m. absurd (none_in x among))), (λ h. (c.1 word).1 h.0)))
some_returned w callee args row (x ∷ rows) k =
    some_returned w callee args row rows
    (λ c. decided (IsMatch w callee args x)
    (⊎_elim
    (λ (match : IsMatch w callee args x).
    let d = reach_cond x.result in
    let m = meet_exists c.0 d.0 in
    k (m.0, narrowed w callee args row x rows c.0 d.0 m.0 c.1 d.1 m.1 match))
    (λ (off : IsMatch w callee args x → ⊥). k (c.0, passed_over w callee args row x rows c.0 c.1 off))))

returned_exists : (w : Walk) (callee : ℕ) (args : Zone) (row : Row) → IsMatch w callee args row → ¬ (¬ ((c : Cond) × IsReturned w callee args c))
returned_exists w callee args row match k =
    some_returned w callee args row w.rows
    (λ c. k (c.0, λ word. ((λ h. λ x m. (((c.1 word).0 h).1 x m.one m)), (λ h. (c.1 word).1 (h row match, λ x among m. h x m)))))

some_call : (w : Walk) (vars n : ℕ) (to : Slot) (callee : ProcId) (codes : List CodeOperand) (z : Zone) → vars ≤ 16 → z.vars ≡ vars → IsReady w.program vars (help to callee codes) → IsWorded (help to callee codes) →
    SomeWay vars (WalksCall w n to callee codes z)
some_call w vars n to callee codes z few over ready words k =
    by_truth z.bottom (λ none. k (goes z, inl (none, refl), over))
    (λ some. args_exist codes z ready.2 (subst (λ u. AreInside u codes) (sym over) ready.3) words
    (λ args. decided (SomeMatch w callee.0 args.0)
    (⊎_elim
    (λ (match : SomeMatch w callee.0 args.0).
    returned_exists w callee.0 args.0 match.0 match.1
    (λ c. assignment_exists z to.0 (Within c.0) (omega (arith, over, few)) ready.0.0
    (λ r. some_test vars (AreAllowed w callee.0 args.0) n r.0 (assigned_vars z r.0 to.0 (Within c.0) r.1 ∙ over)
    (λ way. k (way.0, inr (some, (args.0, args.1, inr (match, (c.0, r.0, c.1, r.1, way.1)))), way.2)))))
    (λ (none : SomeMatch w callee.0 args.0 → ⊥). k (fails n, inr (some, (args.0, args.1, inl ((λ row m. none (row, m)), refl))), tt)))))

some_plain : (w : Walk) (vars n : ℕ) (simple : Simple) (z : Zone) → vars ≤ 16 → z.vars ≡ vars → IsSimpleInside vars simple → SomeWay vars (λ way. (s : Stepped) × IsStepped simple w.assumed z s × GoesIf (IsAllowed w.row simple s) n s.zone way)
some_plain w vars n simple z few over inside k =
    let inside_z : IsSimpleInside z.vars simple = subst (λ u. IsSimpleInside u simple) (sym over) inside in
    stepped_exists simple w.assumed z (omega (arith, over, few)) inside_z
    (λ s. some_test vars (IsAllowed w.row simple s.0) n s.0.zone ((step_normal simple w.assumed z s.0 inside_z s.1).1 ∙ over)
    (λ way. k (way.0, (s.0, s.1, way.1), way.2)))

some_join : (vars : ℕ) (e1 e2 : Zone) → e1.vars ≡ vars → e2.vars ≡ vars → SomeWay vars (IsJoined e1 e2)
some_join vars e1 e2 one two k = let j = joins e1 e2 (one ∙ sym two) in k (goes j.state, (j.state, j.join, refl), j.join.vars ∙ one)

some_turn : (vars n : ℕ) (index : Slot) (kept left e : Zone) → vars ≤ 16 → IsVariable vars index → left.vars ≡ vars → e.vars ≡ vars → SomeWay vars (BehindBody n index kept left e)
some_turn vars n index kept left e few hi lv ev k =
    again_exists index e (omega (arith, ev, few)) (subst (λ u. IsVariable u index) (sym ev) hi)
    (λ r. some_test vars (IsBelow r.0 kept) n left lv (λ way. k (way.0, (r.0, r.1, way.1), way.2)))

-- what a loop's head comes to
record Heads (w : Walk) (vars n k : ℕ) (index slot : Slot) (bound : CodeOperand) (most : ℤ) (site : ℕ) (z : Zone) : Type 0 where
  step : Stepped
  kept : Zone
  normed : Zone
  turned : Zone
  left : Zone
  begun : Way
  head : IsHead index slot bound most z step
  keeps : slice_get w.row.keeps k ≡ Some kept
  norm : IsNormOf kept normed
  turn : IsTurn index slot normed turned
  leaves : IsLeft index slot normed left
  begins : GoesIf ((IsTrue step.unproved → ListsOwn w.row site) × IsBelow step.zone kept) n turned begun
  begun_over : IsOver vars begun
  left_vars : left.vars ≡ vars

some_head : (w : Walk) (vars n k : ℕ) (index slot : Slot) (bound : CodeOperand) (most : ℤ) (site : ℕ) (z : Zone) → vars ≤ 16 → z.vars ≡ vars → IsVariable vars index → IsVariable vars slot → All (λ x. vars_of x ≡ vars) w.row.keeps →
    k < length w.row.keeps → ¬ (¬ Heads w vars n k index slot bound most site z)
some_head w vars n k index slot bound most site z few over hi hs keeps inside next =
    let kept = item_at w.row.keeps k inside in
    let kept_vars : kept.0.vars ≡ vars = of_all (λ x. vars_of x ≡ vars) w.row.keeps keeps kept.0 (got_in w.row.keeps k kept.0 kept.1) in
    head_exists index slot bound most z (omega (arith, over, few)) (subst (λ u. IsVariable u index) (sym over) hi) (subst (λ u. IsVariable u slot) (sym over) hs)
    (λ s. norm_exists kept.0
    (λ m. turn_exists index slot m.0
    (λ t. left_exists index slot m.0
    (λ l. let normed_vars : m.0.vars ≡ vars = m.1.vars ∙ kept_vars in
    some_test vars ((IsTrue s.0.unproved → ListsOwn w.row site) × IsBelow s.0.zone kept.0) n t.0 (t.1.greatest.vars ∙ normed_vars)
    (λ way. next
    (record {
      step = s.0;
      kept = kept.0;
      normed = m.0;
      turned = t.0;
      left = l.0;
      begun = way.0;
      head = s.1;
      keeps = kept.1;
      norm = m.1;
      turn = t.1;
      leaves = l.1;
      begins = way.1;
      begun_over = way.2;
      left_vars = l.1.vars ∙ normed_vars;
    }))))))

mutual
  some_stmt : (w : Walk) (vars n k : ℕ) (s : Stmt) (z : Zone) → vars ≤ 16 → All (λ x. vars_of x ≡ vars) w.row.keeps → k + loops s ≤ length w.row.keeps → z.vars ≡ vars → IsReady w.program vars s → IsWorded s → SomeWay vars (Walks w n k s z)
  some_stmt w vars n k (plain simple) z few keeps enough over ready words next = some_plain w vars n simple z few over ready next
  some_stmt w vars n k (help to callee codes) z few keeps enough over ready words next = some_call w vars n to callee codes z few over ready words next
  some_stmt w vars n k (branch test first second) z few keeps enough over ready words next =
      let n2 = n + 1 + block_statements first in
      let k2 = k + block_loops first in
      branched_exists test z
      (λ b. some_block w vars (n + 1) k first b.0 few keeps (omega (arith, enough)) (b.2.holds.greatest.vars ∙ over) ready.1 words.2
      (λ one. some_behind vars one.0 (BehindFirst w n2 k2 second b.1) one.2
      (λ e1 v1 go. some_block w vars n2 k2 second b.1 few keeps (omega (arith, enough)) (b.2.fails.greatest.vars ∙ over) ready.2 words.3
      (λ other. some_behind vars other.0 (IsJoined e1) other.2 (λ e2 v2. some_join vars e1 e2 v1 v2)
      (λ way. go (way.0, (other.0, other.1, way.1), way.2))))
      (λ way. next (way.0, (b.0, b.1, one.0, b.2, one.1, way.1), way.2))))
  some_stmt w vars n k (loop index slot bound most site body) z few keeps enough over ready words next =
      some_head w vars n k index slot bound most site z few over ready.0 ready.1 keeps (omega (arith, enough))
      (λ h. some_behind vars h.begun (BehindHead w n k index body h.kept h.left) h.begun_over
      (λ start sv go. some_block w vars (n + 1) (k + 1) body start few keeps (omega (arith, enough)) sv ready.3 words.1
      (λ end. some_behind vars end.0 (BehindBody n index h.kept h.left) end.2 (λ e ev. some_turn vars n index h.kept h.left e few ready.0 h.left_vars ev)
      (λ way. go (way.0, (end.0, end.1, way.1), way.2))))
      (λ way. next (way.0, (h.step, h.kept, h.normed, h.turned, h.left, h.begun, h.head, h.keeps, h.norm, h.turn, h.leaves, h.begins, way.1), way.2)))

  pub some_block : (w : Walk) (vars n k : ℕ) (block : Block) (z : Zone) → vars ≤ 16 → All (λ x. vars_of x ≡ vars) w.row.keeps → k + block_loops block ≤ length w.row.keeps → z.vars ≡ vars → AreReady w.program vars block → AreWorded block →
      SomeWay vars (WalksAll w n k block z)
  some_block w vars n k [] z few keeps enough over ready words next = next (goes z, refl, over)
  some_block w vars n k (s ⨾ rest) z few keeps enough over ready words next =
      some_stmt w vars n k s z few keeps (omega (arith, enough)) over ready.0 words.0
      (λ first. some_behind vars first.0 (λ e way. WalksAll w (n + statements s) (k + loops s) rest e way) first.2
      (λ e ev. some_block w vars (n + statements s) (k + loops s) rest e few keeps (omega (arith, enough)) ev ready.1 words.1)
      (λ way. next (way.0, (first.0, first.1, way.1), way.2)))
