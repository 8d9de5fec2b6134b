-- The walk of statements, part by part.
use Rattle.std.proofs.Common.{◌≡◌, inl, inr, ℕ, ◌+◌, ◌*◌, ◌<◌, ◌≤◌, ℤ, Some, Result, Ok, Err, OnOk, IsErr, IsErrAnd, IsTrue, rules, List, [], ◌∷◌, length, drop, get_or, slice_get, refl, sym, ap, subst, arith, ◌∙◌, add-one, drop-cons}
use Rattle.std.specs.List.{All}
use Rattle.std.proofs.lemmas.List.{drop_all}
use Rattle.vmv_snapshot.specs.declared.code.Slot.{Slot}
use Rattle.vmv_snapshot.specs.declared.code.ProcId.{ProcId}
use Rattle.vmv_snapshot.specs.declared.code.CodeOperand.{CodeOperand}
use Rattle.vmv_snapshot.specs.declared.code.CodeTest.{CodeTest}
use Rattle.vmv_snapshot.specs.declared.code.Simple.{Simple}
use Rattle.vmv_snapshot.specs.declared.code.Simple.TheVariants.{Set, Arith, Ask, Assert}
use Rattle.vmv_snapshot.specs.declared.code.CodeStmt.{CodeStmt, Plain, Help, If, Repeat}
use Rattle.vmv_snapshot.specs.declared.code.CodeRepeat.{CodeRepeat}
use Rattle.vmv_snapshot.specs.Code.{plain, help, branch, [], ◌⨾◌}
use Rattle.vmv_snapshot.specs.View.{stmt_of, block_of, stmt_of-plain, stmt_of-help, stmt_of-if, stmt_of-repeat}
use Rattle.vmv_zone.specs.declared.zone.Zone.{Zone}
use Rattle.vmv_zone.specs.declared.operand.ZoneValue.{ZoneValue}
use Rattle.vmv_zone.specs.Zone.{IsBelow, IsJoin, IsNormal, IsNormOf}
use Rattle.vmv_zone.specs.Step.{IsAssigned}
use Rattle.vmv_assumption.specs.Assumed.{Assumed}
use Rattle.vmv_step.specs.declared.stepped.Stepped.{Stepped}
use Rattle.vmv_step.specs.Steps.{IsAfter, IsBranched}
use Rattle.vmv_step.specs.Loops.{IsHead, IsTurn, IsAgain, IsLeft}
use Rattle.vmv_cert.specs.Sizes.{statements, block_statements, loops, block_loops}
use Rattle.vmv_cert.specs.Walk.{Way, goes, fails, Walk, ListsOwn, Walks, WalksAll}
use Rattle.vmv_check.specs.Walker.{way_at, loop_of, IsReady, AreReady, HasKept}
use Rattle.vmv_check.proofs.Lists.{at_place}

-- a block from its i-th statement on
pub from_item : (block : List CodeStmt) (i : ℕ) (s : CodeStmt) → i < length block → s ≡ get_or block i s → block_of (drop i block) ≡ stmt_of s ⨾ block_of (drop (i + 1) block)
from_item block i s h is = let tail : drop i block ≡ s ∷ drop (i + 1) block = rw (add-one, drop-cons block i s, ← is) refl in ap block_of tail

pub is_plain : (s : CodeStmt) (simple : Simple) → s ≡ Plain simple → stmt_of s ≡ plain simple
is_plain s simple is = ap stmt_of is ∙ stmt_of-plain simple

pub is_help : (s : CodeStmt) (to : Slot) (callee : ProcId) (args : List CodeOperand) → s ≡ Help to callee args → stmt_of s ≡ help to callee args
is_help s to callee args is = ap stmt_of is ∙ stmt_of-help to callee args

pub is_if : (s : CodeStmt) (test : CodeTest) (first second : List CodeStmt) → s ≡ If test first second → stmt_of s ≡ branch test (block_of first) (block_of second)
is_if s test first second is = ap stmt_of is ∙ stmt_of-if test first second

pub is_repeat : (s : CodeStmt) (r : CodeRepeat) → s ≡ Repeat r → stmt_of s ≡ loop_of r
is_repeat s r is = ap stmt_of is ∙ stmt_of-repeat r.index r.slot r.bound r.cap r.site r.body

-- states are over the same variables behind a step

pub assigned_vars : (z r : Zone) (to : ℕ) (value : ZoneValue) → IsAssigned z to value r → r.vars ≡ z.vars
assigned_vars z r to value h = let a = h.greatest.vars in let b = h.drops.vars in omega arith

pub after_vars : (s : Simple) (A : Assumed) (z r : Zone) → IsAfter s A z r → r.vars ≡ z.vars
after_vars (Set to from) A z r h = assigned_vars z r to.0 _ h
after_vars (Arith to op left right site) A z r h = assigned_vars z r to.0 _ h
after_vars (Ask to callee args) A z r h = assigned_vars z r to.0 _ h
after_vars (Assert test site) A z r h = h.greatest.vars

pub head_vars : (index slot : Slot) (bound : CodeOperand) (most : ℤ) (z : Zone) (s : Stepped) → IsHead index slot bound most z s → s.zone.vars ≡ z.vars
head_vars index slot bound most z s h =
    assigned_vars h.copied s.zone index.0 _ h.zone ∙ (assigned_vars h.capped h.copied slot.0 _ h.copy ∙ h.guard.greatest.vars)

-- what is said where a walk goes on is so
pub on_ok : {A : Type 0} (r : Result A ℕ) (P : Type 0) → P → OnOk r P
on_ok (Ok z) P p = p
on_ok (Err n) P p = tt

-- a failure that is handed on is the same
pub err_way : (r : Result (Unit {0}) ℕ) (z : Zone) (m : ℕ) → IsErr r → IsErrAnd r (λ n. n ≡ m) → way_at r z ≡ fails m
err_way (Ok done) z m is same = absurd (search rules)
err_way (Err n) z m is same = ap fails same

-- an `if`

-- the statement, by slices of its parts
pub if_of : (s : CodeStmt) (test : CodeTest) (first second one other : List CodeStmt) → s ≡ If test first second → one ≡ first → other ≡ second → stmt_of s ≡ branch test (block_of one) (block_of other)
if_of s test first second one other is a b = is_if s test first second is ∙ (λ i. branch test (block_of (sym a i)) (block_of (sym b i)))

pub if_first_fails : (w : Walk) (n k n' m : ℕ) (test : CodeTest) (first second : List CodeStmt) (z z1 z2 : Zone) → IsBranched test z z1 z2 → n' ≡ n + 1 →
    WalksAll w n' k (block_of first) z1 (fails m) → Walks w n k (branch test (block_of first) (block_of second)) z (fails m)
if_first_fails w n k n' m test first second z z1 z2 b en h = (z1, z2, fails m, b, subst (λ i. WalksAll w i k (block_of first) z1 (fails m)) en h, refl)

pub if_second_fails : (w : Walk) (n k n' n'' k' m : ℕ) (test : CodeTest) (first second : List CodeStmt) (z z1 z2 e1 : Zone) →
    IsBranched test z z1 z2 → n' ≡ n + 1 → n'' ≡ n' + block_statements (block_of first) → k' ≡ k + block_loops (block_of first) → WalksAll w n' k (block_of first) z1 (goes e1) →
    WalksAll w n'' k' (block_of second) z2 (fails m) → Walks w n k (branch test (block_of first) (block_of second)) z (fails m)
if_second_fails w n k n' n'' k' m test first second z z1 z2 e1 b en en' ek h g =
    let h' = subst (λ i. WalksAll w i k (block_of first) z1 (goes e1)) en h in
    let g1 = subst (λ i. WalksAll w i k' (block_of second) z2 (fails m)) (en' ∙ ap (λ i. i + block_statements (block_of first)) en) g in
    let g2 = subst (λ i. WalksAll w (n + 1 + block_statements (block_of first)) i (block_of second) z2 (fails m)) ek g1 in
    (z1, z2, goes e1, b, h', (fails m, g2, refl))

pub if_goes : (w : Walk) (n k n' n'' k' : ℕ) (test : CodeTest) (first second : List CodeStmt) (z z1 z2 e1 e2 j : Zone) →
    IsBranched test z z1 z2 → n' ≡ n + 1 → n'' ≡ n' + block_statements (block_of first) → k' ≡ k + block_loops (block_of first) → WalksAll w n' k (block_of first) z1 (goes e1) →
    WalksAll w n'' k' (block_of second) z2 (goes e2) → IsJoin e1 e2 j → Walks w n k (branch test (block_of first) (block_of second)) z (goes j)
if_goes w n k n' n'' k' test first second z z1 z2 e1 e2 j b en en' ek h g join =
    let h' = subst (λ i. WalksAll w i k (block_of first) z1 (goes e1)) en h in
    let g1 = subst (λ i. WalksAll w i k' (block_of second) z2 (goes e2)) (en' ∙ ap (λ i. i + block_statements (block_of first)) en) g in
    let g2 = subst (λ i. WalksAll w (n + 1 + block_statements (block_of first)) i (block_of second) z2 (goes e2)) ek g1 in
    (z1, z2, goes e1, b, h', (goes e2, g2, (j, join, refl)))

-- a loop

-- what is known before its head is looked at
pub record Begun (w : Walk) (k : ℕ) (r : CodeRepeat) (z : Zone) (s : Stepped) (kept normed turned left : Zone) : Type 0 where
  pub head : IsHead r.index r.slot r.bound r.cap z s
  pub there : slice_get w.row.keeps k ≡ Some kept
  pub norm : IsNormOf kept normed
  pub turn : IsTurn r.index r.slot normed turned
  pub leave : IsLeft r.index r.slot normed left

pub begun_of : (w : Walk) (k : ℕ) (r : CodeRepeat) (z : Zone) (s : Stepped) (kept normed turned left : Zone) (keeps : List Zone) → keeps ≡ w.row.keeps → kept ≡ get_or keeps k kept →
    HasKept w.row z.vars (k + loops (loop_of r)) → IsHead r.index r.slot r.bound r.cap z s → IsNormOf kept normed → IsTurn r.index r.slot normed turned → IsLeft r.index r.slot normed left → Begun w k r z s kept normed turned left
begun_of w k r z s kept normed turned left keeps same is has head norm turn leave =
    let m = has.enough in
    let e : loops (loop_of r) ≡ 1 + block_loops (block_of r.body) = refl in
    let f : length keeps ≡ length w.row.keeps = ap length same in
    record {
      head = head;
      there = subst (λ xs. slice_get xs k ≡ Some kept) same (at_place keeps k kept (omega arith) is);
      norm = norm;
      turn = turn;
      leave = leave;
    }

abbrev pub HeadHolds : Walk → CodeRepeat → Stepped → Zone → Type 0
HeadHolds w r s kept = (IsTrue s.unproved → ListsOwn w.row r.site) × IsBelow s.zone kept

pub head_fails : (w : Walk) (n k : ℕ) (r : CodeRepeat) (z : Zone) (s : Stepped) (kept normed turned left : Zone) → Begun w k r z s kept normed turned left → (HeadHolds w r s kept → ⊥) →
    Walks w n k (loop_of r) z (fails n)
head_fails w n k r z s kept normed turned left b other = (s, kept, normed, turned, left, fails n, b.head, b.there, b.norm, b.turn, b.leave, inr (other, refl), refl)

pub body_fails : (w : Walk) (n k m n' k' : ℕ) (r : CodeRepeat) (body : List CodeStmt) (z : Zone) (s : Stepped) (kept normed turned left : Zone) → Begun w k r z s kept normed turned left → HeadHolds w r s kept →
    body ≡ r.body → n' ≡ n + 1 → k' ≡ k + 1 → WalksAll w n' k' (block_of body) turned (fails m) → Walks w n k (loop_of r) z (fails m)
body_fails w n k m n' k' r body z s kept normed turned left b held e en ek h =
    let h1 = subst (λ (x : List CodeStmt). WalksAll w n' k' (block_of x) turned (fails m)) e h in
    let h2 = subst (λ i. WalksAll w i k' (block_of r.body) turned (fails m)) en h1 in
    let h3 = subst (λ i. WalksAll w (n + 1) i (block_of r.body) turned (fails m)) ek h2 in
    (s, kept, normed, turned, left, goes turned, b.head, b.there, b.norm, b.turn, b.leave, inl (held, refl), (fails m, h3, refl))

pub again_fails : (w : Walk) (n k n' k' : ℕ) (r : CodeRepeat) (body : List CodeStmt) (z : Zone) (s : Stepped) (kept normed turned left e again : Zone) → Begun w k r z s kept normed turned left → HeadHolds w r s kept →
    body ≡ r.body → n' ≡ n + 1 → k' ≡ k + 1 → WalksAll w n' k' (block_of body) turned (goes e) → IsAgain r.index e again → (IsBelow again kept → ⊥) → Walks w n k (loop_of r) z (fails n)
again_fails w n k n' k' r body z s kept normed turned left e again b held same en ek h more other =
    let h1 = subst (λ (x : List CodeStmt). WalksAll w n' k' (block_of x) turned (goes e)) same h in
    let h2 = subst (λ i. WalksAll w i k' (block_of r.body) turned (goes e)) en h1 in
    let h3 = subst (λ i. WalksAll w (n + 1) i (block_of r.body) turned (goes e)) ek h2 in
    (s, kept, normed, turned, left, goes turned, b.head, b.there, b.norm, b.turn, b.leave, inl (held, refl), (goes e, h3, (again, more, inr (other, refl))))

pub loop_goes : (w : Walk) (n k n' k' : ℕ) (r : CodeRepeat) (body : List CodeStmt) (z : Zone) (s : Stepped) (kept normed turned left e again : Zone) → Begun w k r z s kept normed turned left → HeadHolds w r s kept →
    body ≡ r.body → n' ≡ n + 1 → k' ≡ k + 1 → WalksAll w n' k' (block_of body) turned (goes e) → IsAgain r.index e again → IsBelow again kept → Walks w n k (loop_of r) z (goes left)
loop_goes w n k n' k' r body z s kept normed turned left e again b held same en ek h more below =
    let h1 = subst (λ (x : List CodeStmt). WalksAll w n' k' (block_of x) turned (goes e)) same h in
    let h2 = subst (λ i. WalksAll w i k' (block_of r.body) turned (goes e)) en h1 in
    let h3 = subst (λ i. WalksAll w (n + 1) i (block_of r.body) turned (goes e)) ek h2 in
    (s, kept, normed, turned, left, goes turned, b.head, b.there, b.norm, b.turn, b.leave, inl (held, refl), (goes e, h3, (again, more, inl (below, refl))))

-- statements in a row

-- what holds before the i-th statement
pub record InRow (w : Walk) (n k : ℕ) (block : List CodeStmt) (start : Zone) (i n' k' : ℕ) (now : Zone) : Type 0 where
  pub along : (way : Way) → WalksAll w n' k' (block_of (drop i block)) now way → WalksAll w n k (block_of block) start way
  pub ready : AreReady w.program start.vars (block_of (drop i block))
  pub vars : now.vars ≡ start.vars
  pub normal : IsNormal now
  pub step : n' + block_statements (block_of (drop i block)) ≡ n + block_statements (block_of block)
  pub keep : k' + block_loops (block_of (drop i block)) ≡ k + block_loops (block_of block)
  pub inside : block_statements (block_of (drop i block)) ≤ block_statements (block_of block)

pub row_start : (w : Walk) (n k : ℕ) (block : List CodeStmt) (start : Zone) → AreReady w.program start.vars (block_of block) → IsNormal start → InRow w n k block start 0 n k start
row_start w n k block start ready normal = record { along = λ way h. h; ready = ready; vars = refl; normal = normal; step = refl; keep = refl; inside = omega arith }

-- what a statement's walk takes
pub record Takes (w : Walk) (t n k : ℕ) (s : CodeStmt) (now : Zone) : Type 0 where
  pub falls : 3 * statements (stmt_of s) < t
  pub few : now.vars ≤ 16
  pub normal : IsNormal now
  pub ready : IsReady w.program now.vars (stmt_of s)
  pub kept : HasKept w.row now.vars (k + loops (stmt_of s))
  pub steps : n + statements (stmt_of s) ≤ 2001

pub row_takes : (w : Walk) (n k : ℕ) (block : List CodeStmt) (start : Zone) (i n' k' t : ℕ) (now : Zone) (s : CodeStmt) → i < length block → s ≡ get_or block i s → InRow w n k block start i n' k' now →
    start.vars ≤ 16 → HasKept w.row start.vars (k + block_loops (block_of block)) → n + block_statements (block_of block) ≤ 2001 → 3 * block_statements (block_of block) + 1 ≡ t → Takes w t n' k' s now
row_takes w n k block start i n' k' t now s h is row few kept steps d =
    let e = from_item block i s h is in
    let a : block_statements (block_of (drop i block)) ≡ statements (stmt_of s) + block_statements (block_of (drop (i + 1) block)) = ap block_statements e in
    let b : block_loops (block_of (drop i block)) ≡ loops (stmt_of s) + block_loops (block_of (drop (i + 1) block)) = ap block_loops e in
    let r : AreReady w.program start.vars (stmt_of s ⨾ block_of (drop (i + 1) block)) = subst (AreReady w.program start.vars) e row.ready in
    let x = row.step in
    let y = row.keep in
    let z = row.inside in
    let v = row.vars in
    let m = kept.enough in
    record {
      falls = omega arith;
      few = omega arith;
      normal = row.normal;
      ready = subst (λ c. IsReady w.program c (stmt_of s)) (sym v) r.0;
      kept = record { enough = omega arith; over = subst (λ c. All (λ (z : Zone). z.vars ≡ c) w.row.keeps) (sym v) kept.over };
      steps = omega arith;
    }

pub row_stops : (w : Walk) (n k : ℕ) (block : List CodeStmt) (start : Zone) (i n' k' m : ℕ) (now : Zone) (s : CodeStmt) → i < length block → s ≡ get_or block i s → InRow w n k block start i n' k' now →
    Walks w n' k' (stmt_of s) now (fails m) → WalksAll w n k (block_of block) start (fails m)
row_stops w n k block start i n' k' m now s h is row walk =
    row.along (fails m) (subst (λ b. WalksAll w n' k' b now (fails m)) (sym (from_item block i s h is)) (fails m, walk, refl))

pub row_more : (w : Walk) (n k : ℕ) (block : List CodeStmt) (start : Zone) (i n' k' n'' k'' : ℕ) (now next : Zone) (s : CodeStmt) → i < length block → s ≡ get_or block i s → InRow w n k block start i n' k' now →
    Walks w n' k' (stmt_of s) now (goes next) → IsNormal next → next.vars ≡ now.vars → n'' ≡ n' + statements (stmt_of s) → k'' ≡ k' + loops (stmt_of s) → InRow w n k block start (i + 1) n'' k'' next
row_more w n k block start i n' k' n'' k'' now next s h is row walk normal same en ek =
    let e = from_item block i s h is in
    let a : block_statements (block_of (drop i block)) ≡ statements (stmt_of s) + block_statements (block_of (drop (i + 1) block)) = ap block_statements e in
    let b : block_loops (block_of (drop i block)) ≡ loops (stmt_of s) + block_loops (block_of (drop (i + 1) block)) = ap block_loops e in
    let r : AreReady w.program start.vars (stmt_of s ⨾ block_of (drop (i + 1) block)) = subst (AreReady w.program start.vars) e row.ready in
    let x = row.step in
    let y = row.keep in
    let z = row.inside in
    record {
      along = λ way g.
          let g1 = subst (λ j. WalksAll w j k'' (block_of (drop (i + 1) block)) next way) en g in
          let g2 = subst (λ j. WalksAll w (n' + statements (stmt_of s)) j (block_of (drop (i + 1) block)) next way) ek g1 in
          row.along way (subst (λ c. WalksAll w n' k' c now way) (sym e) (goes next, walk, g2));
      ready = r.1;
      vars = same ∙ row.vars;
      normal = normal;
      step = omega arith;
      keep = omega arith;
      inside = omega arith;
    }

pub row_end : (w : Walk) (n k : ℕ) (block : List CodeStmt) (start : Zone) (i n' k' : ℕ) (now : Zone) → length block ≤ i → InRow w n k block start i n' k' now → WalksAll w n k (block_of block) start (goes now)
row_end w n k block start i n' k' now h row =
    let none : drop i block ≡ [] = drop_all i block h in
    row.along (goes now) (subst (λ (b : List CodeStmt). WalksAll w n' k' (block_of b) now (goes now)) (sym none) refl)

pub row_counts : (w : Walk) (n k : ℕ) (block : List CodeStmt) (start : Zone) (i n' k' : ℕ) (now : Zone) → length block ≤ i → InRow w n k block start i n' k' now →
    (n' ≡ n + block_statements (block_of block)) × (k' ≡ k + block_loops (block_of block))
row_counts w n k block start i n' k' now h row =
    let none : drop i block ≡ [] = drop_all i block h in
    let a : block_statements (block_of (drop i block)) ≡ 0 = ap (λ (b : List CodeStmt). block_statements (block_of b)) none in
    let b : block_loops (block_of (drop i block)) ≡ 0 = ap (λ (b : List CodeStmt). block_loops (block_of b)) none in
    let x = row.step in
    let y = row.keep in
    (omega arith, omega arith)
