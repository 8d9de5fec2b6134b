-- From a lower state, under a smaller assumption, the walk of statements goes on where that from above does, from lower states.
use Rattle.std.proofs.Common.{◌≡◌, ◌⊎◌, inl, inr, ℕ, ◌+◌, ℤ, Some, List, length, slice_get, IsTrue, refl, sym, ap, subst, arith, ◌∙◌}
use Rattle.std.specs.List.{All}
use Rattle.std.proofs.lemmas.Int.{ints}
use Rattle.vmv_cond.specs.declared.cond.Cond.{Cond}
use Rattle.vmv_cond.specs.Cond.{IsSubset}
use Rattle.vmv_snapshot.specs.declared.code.Slot.{Slot}
use Rattle.vmv_snapshot.specs.declared.code.ProcId.{ProcId}
use Rattle.vmv_snapshot.specs.declared.code.CodeOperand.{CodeOperand}
use Rattle.vmv_snapshot.specs.declared.code.Simple.{Simple}
use Rattle.vmv_snapshot.specs.Code.{Stmt, plain, help, branch, loop, Block, [], ◌⨾◌}
use Rattle.vmv_zone.specs.declared.zone.Zone.{Zone}
use Rattle.vmv_zone.specs.declared.operand.ZoneValue.TheVariants.{Within}
use Rattle.vmv_zone.specs.Zone.{vars_of, IsBelow, IsNormOf}
use Rattle.vmv_zone.specs.Step.{IsAssigned}
use Rattle.vmv_zone.proofs.Equal.{clash, norm_once}
use Rattle.vmv_zone.proofs.States.{below_trans}
use Rattle.vmv_zone.proofs.MoreLaws.{join_mono}
use Rattle.vmv_zone.proofs.WordOrder.{word_mono}
use Rattle.vmv_assumption.specs.Assumed.{Assumed}
use Rattle.vmv_assumption.specs.Within.{IsBelow as IsLess}
use Rattle.vmv_step.specs.declared.stepped.Stepped.{Stepped}
use Rattle.vmv_step.specs.Zones.{IsVariable, IsInside, IsTestInside, AreInside}
use Rattle.vmv_step.specs.Steps.{IsSimpleInside, IsStepped}
use Rattle.vmv_step.specs.Loops.{IsHead, IsTurn, IsLeft}
use Rattle.vmv_step.specs.Agree.{HasWords}
use Rattle.vmv_step.proofs.Arguments.{pass_mono, pass_normal}
use Rattle.vmv_step.proofs.StepOrder.{step_mono, step_normal, branch_mono, head_mono, head_normal, turn_mono, again_mono, again_normal, leave_mono}
use Rattle.vmv_cert.specs.declared.row.Row.{Row}
use Rattle.vmv_cert.specs.Sizes.{statements, block_statements, loops, block_loops}
use Rattle.vmv_cert.specs.Walk.{Way, goes, fails, Walk, GoesIf, Then, ListsOwn, IsAllowed, IsMatch, IsReturned, AreAllowed, WalksCall, Walks, WalksAll}
use Rattle.vmv_check.specs.Walker.{HasParams, IsReady, AreReady}
use Rattle.vmv_check.proofs.Lists.{some_same, of_all, got_in}
use Rattle.vmv_table_order.proofs.Parts.{assigned_vars, IsJoined, BehindFirst, BehindBody, BehindHead}
use Rattle.vmv_table_order.proofs.Literals.{IsWorded, AreWorded}

-- the same walk under another assumption
abbrev pub under : Walk → Assumed → Walk
under w assumed = record { program = w.program; assumed = assumed; rows = w.rows; row = w.row }

-- each state is below itself
pub below_same : (z : Zone) → IsBelow z z
below_same z up = record { not_bottom = up; bounds = λ i j hi hj. omega (arith, ints); marks = λ i from hi marked. marked }

-- a lower way than one that goes on from e: it goes on from a state below e, over as many variables
pub record IsLower (vars : ℕ) (e : Zone) (way : Way) : Type 0 where
  pub end : Zone
  pub is : way ≡ goes end
  pub below : IsBelow end e
  pub lower_vars : end.vars ≡ vars
  pub vars_are : e.vars ≡ vars

same_goes : (a b : Zone) → goes a ≡ goes b → a ≡ b
same_goes a b e = cc

pub goes_or_fails : {P : Type 0} (z : Zone) (n : ℕ) → goes z ≡ fails n → P
goes_or_fails z n e = absurd (cc)

-- a test that a walk passed
pub passed : (P : Type 0) (n : ℕ) (z e : Zone) → GoesIf P n z (goes e) → P × (e ≡ z)
passed P n z e (inl h) = (h.0, same_goes e z h.1)
passed P n z e (inr h) = goes_or_fails e n h.1

-- a test that holds is passed
pub passes : (P : Type 0) (n : ℕ) (z : Zone) (way : Way) → P → GoesIf P n z way → way ≡ goes z
passes P n z way p (inl h) = h.1
passes P n z way p (inr h) = absurd (h.0 p)

-- what goes on behind a way, where it goes on to the end
pub record GoesOn (first : Way) (Next : Zone → Way → Type 0) (e : Zone) : Type 0 where
  pub at : Zone
  pub is : first ≡ goes at
  pub next : Next at (goes e)

pub went_on : (first : Way) (Next : Zone → Way → Type 0) (e : Zone) → Then first Next (goes e) → GoesOn first Next e
went_on (goes z) Next e h = record { at = z; is = refl; next = h }
went_on (fails n) Next e h = goes_or_fails e n h

pub behind : (first : Way) (Next : Zone → Way → Type 0) (z : Zone) (way : Way) → first ≡ goes z → Then first Next way → Next z way
behind first Next z way is h = subst (λ (v : Way). Then v Next way) is h

-- where both end in a test that is passed
pub lower_end : (vars : ℕ) (e z y : Zone) (way : Way) → e ≡ z → way ≡ goes y → IsBelow y z → y.vars ≡ vars → z.vars ≡ vars → IsLower vars e way
lower_end vars e z y way same is below one two =
    record { end = y; is = is; below = subst (λ (x : Zone). IsBelow y x) (sym same) below; lower_vars = one; vars_are = ap (λ (x : Zone). x.vars) same ∙ two }

plain_lower : (w : Walk) (less : Assumed) (vars n : ℕ) (simple : Simple) (z y e : Zone) (way : Way) (s t : Stepped) → IsLess less w.assumed → z.vars ≡ vars → y.vars ≡ vars → IsBelow y z → IsSimpleInside vars simple → HasWords simple →
    IsStepped simple w.assumed z s → IsStepped simple less y t → GoesIf (IsAllowed w.row simple s) n s.zone (goes e) → GoesIf (IsAllowed w.row simple t) n t.zone way → IsLower vars e way
plain_lower w less vars n simple z y e way s t smaller zv yv below inside words x x' h g =
    let inside_z : IsSimpleInside z.vars simple = subst (λ k. IsSimpleInside k simple) (sym zv) inside in
    let inside_y : IsSimpleInside y.vars simple = subst (λ k. IsSimpleInside k simple) (sym yv) inside in
    let m = step_mono simple less w.assumed y z t s (yv ∙ sym zv) inside_z words x' x smaller below in
    let up = passed (IsAllowed w.row simple s) n s.zone e h in
    let down = passes (IsAllowed w.row simple t) n t.zone way (λ open_site number site. up.0 (m.1 open_site) number site) g in
    lower_end vars e s.zone t.zone way up.1 down m.0 ((step_normal simple less y t inside_y x').1 ∙ yv) ((step_normal simple w.assumed z s inside_z x).1 ∙ zv)

-- a row that holds for arguments holds for lower ones
match_lower : (w : Walk) (less : Assumed) (callee count : ℕ) (args lower : Zone) (row : Row) → HasParams w.program callee count → args.vars ≡ count → IsBelow lower args → IsMatch w callee args row →
    IsMatch (under w less) callee lower row
match_lower w less callee count args lower row params same below m =
    let inputs : vars_of row.input ≡ count = some_same (sym m.over ∙ params) in
    record { one = m.one; named = m.named; over = m.over; above = below_trans lower args row.input (same ∙ sym inputs) below m.above }

-- the end of a call with lower arguments, which each row matches that matches the upper ones
abbrev Called : Walk → ℕ → Slot → ProcId → Zone → Zone → Way → Type 0
Called w n to callee z args way =
    (((row : Row) → IsMatch w callee.0 args row → ⊥) × (way ≡ fails n))
    ⊎ (((row : Row) × IsMatch w callee.0 args row)
    × ((c : Cond) × (r : Zone) × IsReturned w callee.0 args c × IsAssigned z to.0 (Within c) r × GoesIf (AreAllowed w callee.0 args) n r way))

called_lower : (w : Walk) (less : Assumed) (vars n : ℕ) (to : Slot) (callee : ProcId) (z y e args lower : Zone) (way : Way) (c : Cond) (r : Zone) (row : Row) → z.vars ≡ vars → y.vars ≡ vars → IsBelow y z → IsVariable vars to →
    ((x : Row) → IsMatch w callee.0 args x → IsMatch (under w less) callee.0 lower x) → IsMatch w callee.0 args row → IsReturned w callee.0 args c → IsAssigned z to.0 (Within c) r →
    GoesIf (AreAllowed w callee.0 args) n r (goes e) → Called (under w less) n to callee y lower way → IsLower vars e way
called_lower w less vars n to callee z y e args lower way c r row zv yv below variable matches m returned given h (inl g) = absurd (g.0 row (matches row m))
called_lower w less vars n to callee z y e args lower way c r row zv yv below variable matches m returned given h (inr (some, (c', r', returned', given', g))) =
    let fewer : IsSubset c' c = λ word held. (returned word).1 (λ x k. (returned' word).0 held x (matches x k)) in
    let up = passed (AreAllowed w callee.0 args) n r e h in
    let down = passes (AreAllowed (under w less) callee.0 lower) n r' way (λ site all. up.0 site (λ x k. all x (matches x k))) g in
    lower_end vars e r r' way up.1 down (word_mono y z r' r to.0 c' c (yv ∙ sym zv) variable.0 fewer given' given below)
    (assigned_vars y r' to.0 (Within c') given' ∙ yv) (assigned_vars z r to.0 (Within c) given ∙ zv)

call_lower : (w : Walk) (less : Assumed) (vars n : ℕ) (to : Slot) (callee : ProcId) (codes : List CodeOperand) (z y e : Zone) (way : Way) → IsLess less w.assumed → z.vars ≡ vars → y.vars ≡ vars → IsBelow y z →
    IsReady w.program vars (help to callee codes) → WalksCall w n to callee codes z (goes e) → WalksCall (under w less) n to callee codes y way → IsLower vars e way
call_lower w less vars n to callee codes z y e way smaller zv yv below ready (inl h) (inl g) = lower_end vars e z y way (same_goes e z h.1) g.1 below yv zv
call_lower w less vars n to callee codes z y e way smaller zv yv below ready (inl h) (inr g) = clash z.bottom h.0 (below g.0).not_bottom
call_lower w less vars n to callee codes z y e way smaller zv yv below ready (inr (f, (args, is, inl (none, h)))) g = goes_or_fails e n h
call_lower w less vars n to callee codes z y e way smaller zv yv below ready (inr (f, (args, is, inr ((row, m), (c, r, returned, given, h))))) (inl g) =
    let up = passed (AreAllowed w callee.0 args) n r e h in
    lower_end vars e r y way up.1 g.1 (λ some. clash y.bottom g.0 some) yv (assigned_vars z r to.0 (Within c) given ∙ zv)
call_lower w less vars n to callee codes z y e way smaller zv yv below ready (inr (f, (args, is, inr ((row, m), (c, r, returned, given, h))))) (inr (f', (args', is', g))) =
    let inside = subst (λ k. AreInside k codes) (sym zv) ready.3 in
    let lower = pass_mono codes y z args' args (yv ∙ sym zv) inside is' is below in
    let over = (pass_normal codes z args inside is).1 in
    let matches : (x : Row) → IsMatch w callee.0 args x → IsMatch (under w less) callee.0 args' x = λ x k. match_lower w less callee.0 (length codes) args args' x ready.1 over lower k in
    called_lower w less vars n to callee z y e args args' way c r row zv yv below ready.0 matches m returned given h g

-- the ends of both parts of an `if`, joined
joined_lower : (vars : ℕ) (e1 e2 a1 a2 e : Zone) (way : Way) → e1.vars ≡ vars → e2.vars ≡ vars → a1.vars ≡ vars → a2.vars ≡ vars → IsBelow a1 e1 → IsBelow a2 e2 → IsJoined e1 e2 (goes e) → IsJoined a1 a2 way → IsLower vars e way
joined_lower vars e1 e2 a1 a2 e way v1 v2 u1 u2 b1 b2 (j, x, h) (k, y, g) =
    lower_end vars e j k way (same_goes e j h) g (join_mono a1 a2 e1 e2 k j (u1 ∙ sym v1) (u2 ∙ sym v1) (v2 ∙ sym v1) y x b1 b2) (y.vars ∙ u1) (x.vars ∙ v1)

-- what a loop's head tells
record Headed (w : Walk) (n k : ℕ) (index slot : Slot) (bound : CodeOperand) (most : ℤ) (site : ℕ) (z : Zone) (s : Stepped) (kept normed turned left : Zone) (begun : Way) : Type 0 where
  head : IsHead index slot bound most z s
  keeps : slice_get w.row.keeps k ≡ Some kept
  norm : IsNormOf kept normed
  turn : IsTurn index slot normed turned
  leaves : IsLeft index slot normed left
  begins : GoesIf ((IsTrue s.unproved → ListsOwn w.row site) × IsBelow s.zone kept) n turned begun

-- the lower walk of a loop goes into its body, and has a lower state behind it
record IsLowerLoop (vars : ℕ) (kept kept' left left' start start' : Zone) (begun' : Way) : Type 0 where
  keeps : kept' ≡ kept
  begins : begun' ≡ goes start'
  start_below : IsBelow start' start
  left_below : IsBelow left' left
  start_vars : start.vars ≡ vars
  lower_vars : start'.vars ≡ vars
  left_vars : left.vars ≡ vars
  lower_left_vars : left'.vars ≡ vars
  kept_vars : kept.vars ≡ vars

head_lower : (w : Walk) (less : Assumed) (vars n k : ℕ) (index slot : Slot) (bound : CodeOperand) (most : ℤ) (site : ℕ) (z y : Zone) (s s' : Stepped) (kept kept' normed normed' turned turned' left left' : Zone) (begun begun' : Way) (start : Zone) →
    z.vars ≡ vars → y.vars ≡ vars → IsBelow y z → IsVariable vars index → IsVariable vars slot → IsInside vars bound → All (λ x. vars_of x ≡ vars) w.row.keeps → begun ≡ goes start →
    Headed w n k index slot bound most site z s kept normed turned left begun → Headed (under w less) n k index slot bound most site y s' kept' normed' turned' left' begun' → IsLowerLoop vars kept kept' left left' start turned' begun'
head_lower w less vars n k index slot bound most site z y s s' kept kept' normed normed' turned turned' left left' begun begun' start zv yv below hi hs inside keeps is a b =
    let same : kept' ≡ kept = some_same (sym b.keeps ∙ a.keeps) in
    let norm : normed' ≡ normed = norm_once kept normed' normed (subst (λ (x : Zone). IsNormOf x normed') same b.norm) a.norm in
    let turn' = subst (λ (x : Zone). IsTurn index slot x turned') norm b.turn in
    let leaves' = subst (λ (x : Zone). IsLeft index slot x left') norm b.leaves in
    let over : kept.vars ≡ vars = of_all (λ x. vars_of x ≡ vars) w.row.keeps keeps kept (got_in w.row.keeps k kept a.keeps) in
    let normed_vars : normed.vars ≡ vars = a.norm.vars ∙ over in
    let at_z : (v : ℕ) → v ≡ vars → IsVariable v index × IsVariable v slot × IsInside v bound = λ v e. (subst (λ u. IsVariable u index) (sym e) hi, subst (λ u. IsVariable u slot) (sym e) hs, subst (λ u. IsInside u bound) (sym e) inside) in
    let iz = at_z z.vars zv in
    let iy = at_z y.vars yv in
    let m = head_mono index slot bound most y z s' s (yv ∙ sym zv) iz.0 iz.1 iz.2 b.head a.head below in
    let head_vars : s.zone.vars ≡ vars = (head_normal index slot bound most z s iz.0 iz.1 a.head).1 ∙ zv in
    let up = passed ((IsTrue s.unproved → ListsOwn w.row site) × IsBelow s.zone kept) n turned start (subst (λ (v : Way). GoesIf ((IsTrue s.unproved → ListsOwn w.row site) × IsBelow s.zone kept) n turned v) is a.begins) in
    let under_kept : IsBelow s'.zone kept = below_trans s'.zone s.zone kept (head_vars ∙ sym over) m.0 up.0.1 in
    let down = passes ((IsTrue s'.unproved → ListsOwn w.row site) × IsBelow s'.zone kept') n turned' begun' (λ open_site. up.0.0 (m.1 open_site), subst (λ (x : Zone). IsBelow s'.zone x) (sym same) under_kept) b.begins in
    let first : turned ≡ start = sym up.1 in
    let ic = at_z normed.vars normed_vars in
    record {
      keeps = same;
      begins = down;
      start_below = subst (λ (x : Zone). IsBelow turned' x) first (turn_mono index slot normed normed turned' turned refl ic.0 ic.1 turn' a.turn (below_same normed));
      left_below = leave_mono index slot normed normed left' left refl ic.0 ic.1 leaves' a.leaves (below_same normed);
      start_vars = ap (λ (x : Zone). x.vars) up.1 ∙ (a.turn.greatest.vars ∙ normed_vars);
      lower_vars = turn'.greatest.vars ∙ normed_vars;
      left_vars = a.leaves.vars ∙ normed_vars;
      lower_left_vars = leaves'.vars ∙ normed_vars;
      kept_vars = over;
    }

body_lower : (vars n : ℕ) (index : Slot) (kept left left' e1 a1 e : Zone) (way : Way) → IsVariable vars index → kept.vars ≡ vars → left.vars ≡ vars → left'.vars ≡ vars → IsBelow left' left → e1.vars ≡ vars → a1.vars ≡ vars → IsBelow a1 e1 →
    BehindBody n index kept left e1 (goes e) → BehindBody n index kept left' a1 way → IsLower vars e way
body_lower vars n index kept left left' e1 a1 e way hi kv lv lv' lower ev av below (r, x, h) (t, y, g) =
    let hi' = subst (λ u. IsVariable u index) (sym ev) hi in
    let up = passed (IsBelow r kept) n left e h in
    let m = again_mono index a1 e1 t r (av ∙ sym ev) hi' y x below in
    let over : r.vars ≡ kept.vars = (again_normal index e1 r hi' x).1 ∙ (ev ∙ sym kv) in
    lower_end vars e left left' way up.1 (passes (IsBelow t kept) n left' way (below_trans t r kept over m up.0) g) lower lv' lv

mutual
  stmt_lower : (w : Walk) (less : Assumed) (vars n k : ℕ) (s : Stmt) (z y e : Zone) (way : Way) → IsLess less w.assumed → All (λ x. vars_of x ≡ vars) w.row.keeps → z.vars ≡ vars → y.vars ≡ vars → IsBelow y z → IsReady w.program vars s → IsWorded s →
      Walks w n k s z (goes e) → Walks (under w less) n k s y way → IsLower vars e way
  stmt_lower w less vars n k (plain simple) z y e way smaller keeps zv yv below ready words (s, x, h) (t, x', g) = plain_lower w less vars n simple z y e way s t smaller zv yv below ready words x x' h g
  stmt_lower w less vars n k (help to callee codes) z y e way smaller keeps zv yv below ready words h g = call_lower w less vars n to callee codes z y e way smaller zv yv below ready h g
  stmt_lower w less vars n k (branch test first second) z y e way smaller keeps zv yv below ready words (z1, z2, one, x, h, rest) (y1, y2, one', x', h', rest') =
      let n2 = n + 1 + block_statements first in
      let k2 = k + block_loops first in
      let m = branch_mono test y z y1 y2 z1 z2 (yv ∙ sym zv) (subst (λ u. IsTestInside u test) (sym zv) ready.0) x' x below in
      let a = went_on one (BehindFirst w n2 k2 second z2) e rest in
      let l1 = block_lower w less vars (n + 1) k first z1 y1 a.at one' smaller keeps (x.holds.greatest.vars ∙ zv) (x'.holds.greatest.vars ∙ yv) m.0 ready.1 words.2 (subst (λ (v : Way). WalksAll w (n + 1) k first z1 v) a.is h) h' in
      let p = a.next in
      let q = behind one' (BehindFirst (under w less) n2 k2 second y2) l1.end way l1.is rest' in
      let b = went_on p.0 (IsJoined a.at) e p.2 in
      let l2 = block_lower w less vars n2 k2 second z2 y2 b.at q.0 smaller keeps (x.fails.greatest.vars ∙ zv) (x'.fails.greatest.vars ∙ yv) m.1 ready.2 words.3 (subst (λ (v : Way). WalksAll w n2 k2 second z2 v) b.is p.1) q.1 in
      joined_lower vars a.at b.at l1.end l2.end e way l1.vars_are l2.vars_are l1.lower_vars l2.lower_vars l1.below l2.below b.next (behind q.0 (IsJoined l1.end) l2.end way l2.is q.2)
  stmt_lower w less vars n k (loop index slot bound most site body) z y e way smaller keeps zv yv below ready words
      (s, kept, normed, turned, left, begun, x0, x1, x2, x3, x4, x5, rest) (s', kept', normed', turned', left', begun', y0, y1, y2, y3, y4, y5, rest') =
      let a = went_on begun (BehindHead w n k index body kept left) e rest in
      let m = head_lower w less vars n k index slot bound most site z y s s' kept kept' normed normed' turned turned' left left' begun begun' a.at zv yv below ready.0 ready.1 ready.2 keeps a.is
      (record { head = x0; keeps = x1; norm = x2; turn = x3; leaves = x4; begins = x5 }) (record { head = y0; keeps = y1; norm = y2; turn = y3; leaves = y4; begins = y5 }) in
      let p = a.next in
      let q = behind begun' (BehindHead (under w less) n k index body kept' left') turned' way m.begins rest' in
      let b = went_on p.0 (BehindBody n index kept left) e p.2 in
      let l = block_lower w less vars (n + 1) (k + 1) body a.at turned' b.at q.0 smaller keeps m.start_vars m.lower_vars m.start_below ready.3 words.1 (subst (λ (v : Way). WalksAll w (n + 1) (k + 1) body a.at v) b.is p.1) q.1 in
      let last = behind q.0 (BehindBody n index kept' left') l.end way l.is q.2 in
      let moved = subst (λ (u : Zone). BehindBody n index u left' l.end way) m.keeps last in
      body_lower vars n index kept left left' b.at l.end e way ready.0 m.kept_vars m.left_vars m.lower_left_vars m.left_below l.vars_are l.lower_vars l.below b.next moved

  pub block_lower : (w : Walk) (less : Assumed) (vars n k : ℕ) (block : Block) (z y e : Zone) (way : Way) → IsLess less w.assumed → All (λ x. vars_of x ≡ vars) w.row.keeps → z.vars ≡ vars → y.vars ≡ vars → IsBelow y z → AreReady w.program vars block → AreWorded block →
      WalksAll w n k block z (goes e) → WalksAll (under w less) n k block y way → IsLower vars e way
  block_lower w less vars n k [] z y e way smaller keeps zv yv below ready words h g = lower_end vars e z y way (same_goes e z h) g below yv zv
  block_lower w less vars n k (s ⨾ rest) z y e way smaller keeps zv yv below ready words (first, x, h) (first', x', g) =
      let Rest : Walk → Zone → Way → Type 0 = λ u. λ at. λ out. WalksAll u (n + statements s) (k + loops s) rest at out in
      let a = went_on first (Rest w) e h in
      let l = stmt_lower w less vars n k s z y a.at first' smaller keeps zv yv below ready.0 words.0 (subst (λ (v : Way). Walks w n k s z v) a.is x) x' in
      block_lower w less vars (n + statements s) (k + loops s) rest a.at l.end e way smaller keeps l.vars_are l.lower_vars l.below ready.1 words.1 a.next (behind first' (Rest (under w less)) l.end way l.is g)
