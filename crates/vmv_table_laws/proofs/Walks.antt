-- The walk of statements ends in one way.
use Rattle.std.proofs.Common.{◌≡◌, ◌⊎◌, inl, inr, ℕ, ◌+◌, ℤ, Some, List, slice_get, IsTrue, sym, ap, subst, ◌∙◌}
use Rattle.vmv_cond.specs.declared.cond.Cond.{Cond}
use Rattle.vmv_snapshot.specs.declared.code.Slot.{Slot}
use Rattle.vmv_snapshot.specs.declared.code.ProcId.{ProcId}
use Rattle.vmv_snapshot.specs.declared.code.CodeOperand.{CodeOperand}
use Rattle.vmv_snapshot.specs.declared.code.Simple.{Simple}
use Rattle.vmv_snapshot.specs.Code.{Stmt, plain, help, branch, loop, Block, [], ◌⨾◌}
use Rattle.vmv_zone.specs.declared.zone.Zone.{Zone}
use Rattle.vmv_zone.specs.declared.operand.ZoneValue.TheVariants.{Within}
use Rattle.vmv_zone.specs.Zone.{IsBelow, IsJoin, IsNormOf}
use Rattle.vmv_zone.specs.Step.{IsAssigned}
use Rattle.vmv_zone.proofs.Equal.{clash, norm_once}
use Rattle.vmv_step.specs.declared.stepped.Stepped.{Stepped}
use Rattle.vmv_step.specs.Zones.{zone_args, zone_test, negation}
use Rattle.vmv_step.specs.Steps.{IsStepped}
use Rattle.vmv_step.specs.Loops.{IsHead, IsTurn, IsAgain, IsLeft}
use Rattle.vmv_cert.specs.declared.row.Row.{Row}
use Rattle.vmv_cert.specs.Sizes.{statements, block_statements, loops, block_loops}
use Rattle.vmv_cert.specs.Walk.{Way, goes, fails, Walk, GoesIf, Then, ListsOwn, IsAllowed, Returns, IsMatch, IsReturned, AreAllowed, WalksCall, Walks, WalksAll}
use Rattle.vmv_check.proofs.Lists.{some_same}
use Rattle.vmv_table_laws.proofs.States.{chain, join_once, guarded_once, assigned_once, args_once}
use Rattle.vmv_table_laws.proofs.Steps.{stepped_once, head_once, turn_once, again_once, left_once, cond_once}

-- one test, from one state
pub goes_once : (P : Type 0) (n : ℕ) (z : Zone) (a b : Way) → GoesIf P n z a → GoesIf P n z b → a ≡ b
goes_once P n z a b (inl x) (inl y) = x.1 ∙ sym y.1
goes_once P n z a b (inl x) (inr y) = absurd (y.0 x.0)
goes_once P n z a b (inr x) (inl y) = absurd (x.0 y.0)
goes_once P n z a b (inr x) (inr y) = x.1 ∙ sym y.1

then_from : (N M : Zone → Way → Type 0) → ((e : Zone) (a b : Way) → N e a → M e b → a ≡ b) → (y a b : Way) → Then y N a → Then y M b → a ≡ b
then_from N M once (goes e) a b h g = once e a b h g
then_from N M once (fails n) a b h g = h ∙ sym g

-- what goes on from one way
pub then_once : (N M : Zone → Way → Type 0) → ((e : Zone) (a b : Way) → N e a → M e b → a ≡ b) → (x y : Way) → x ≡ y → (a b : Way) → Then x N a → Then y M b → a ≡ b
then_once N M once x y same a b h g = then_from N M once y a b (subst (λ (v : Way). Then v N a) same h) g

-- the end of a call with these arguments
abbrev Called : Walk → ℕ → Slot → ProcId → Zone → Zone → Way → Type 0
Called w n to callee z args way =
    (((row : Row) → IsMatch w callee.0 args row → ⊥) × (way ≡ fails n))
    ⊎ (((row : Row) × IsMatch w callee.0 args row)
    × ((c : Cond) × (r : Zone) × IsReturned w callee.0 args c × IsAssigned z to.0 (Within c) r × GoesIf (AreAllowed w callee.0 args) n r way))

called_once : (w : Walk) (n : ℕ) (to : Slot) (callee : ProcId) (z args : Zone) (a b : Way) → Called w n to callee z args a → Called w n to callee z args b → a ≡ b
called_once w n to callee z args a b (inl x) (inl y) = x.1 ∙ sym y.1
called_once w n to callee z args a b (inl x) (inr y) = absurd (x.0 y.0.0 y.0.1)
called_once w n to callee z args a b (inr x) (inl y) = absurd (y.0 x.0.0 x.0.1)
called_once w n to callee z args a b (inr (row, (c, r, returned, given, g))) (inr (row', (c', r', returned', given', g'))) =
    let same : c ≡ c' = cond_once (λ word. (row : Row) → IsMatch w callee.0 args row → Returns row.result word) c c' returned returned' in
    let one : r ≡ r' = assigned_once to.0 (Within c') z r r' (subst (λ (x : Cond). IsAssigned z to.0 (Within x) r) same given) given' in
    goes_once (AreAllowed w callee.0 args) n r' a b (subst (λ (x : Zone). GoesIf (AreAllowed w callee.0 args) n x a) one g) g'

call_once : (w : Walk) (n : ℕ) (to : Slot) (callee : ProcId) (codes : List CodeOperand) (z : Zone) (a b : Way) → WalksCall w n to callee codes z a → WalksCall w n to callee codes z b → a ≡ b
call_once w n to callee codes z a b (inl x) (inl y) = x.1 ∙ sym y.1
call_once w n to callee codes z a b (inl x) (inr y) = clash z.bottom x.0 y.0
call_once w n to callee codes z a b (inr x) (inl y) = clash z.bottom y.0 x.0
call_once w n to callee codes z a b (inr (f, (args, is, h))) (inr (f', (args', is', h'))) =
    let same : args ≡ args' = args_once (zone_args codes) z args args' is is' in
    called_once w n to callee z args' a b (subst (λ (x : Zone). Called w n to callee z x a) same h) h'

-- a simple statement
plain_once : (w : Walk) (n : ℕ) (simple : Simple) (z : Zone) (a b : Way) (s t : Stepped) → IsStepped simple w.assumed z s → IsStepped simple w.assumed z t →
    GoesIf (IsAllowed w.row simple s) n s.zone a → GoesIf (IsAllowed w.row simple t) n t.zone b → a ≡ b
plain_once w n simple z a b s t x y h g =
    let same : s ≡ t = stepped_once simple w.assumed z s t x y in
    goes_once (IsAllowed w.row simple t) n t.zone a b (subst (λ (u : Stepped). GoesIf (IsAllowed w.row simple u) n u.zone a) same h) g

abbrev IsJoined : Zone → Zone → Way → Type 0
IsJoined e1 e2 way = (j : Zone) × IsJoin e1 e2 j × (way ≡ goes j)

joined_once : (e1 e2 : Zone) (a b : Way) → IsJoined e1 e2 a → IsJoined e1 e2 b → a ≡ b
joined_once e1 e2 a b (j, x, h) (k, y, g) = h ∙ (ap goes (join_once e1 e2 j k x y) ∙ sym g)

-- behind the first part of an `if`
abbrev BehindFirst : Walk → (n k : ℕ) → Block → Zone → Zone → Way → Type 0
BehindFirst w n k second z2 e1 way = (other : Way) × WalksAll w n k second z2 other × Then other (IsJoined e1) way

-- behind the body of a loop
abbrev BehindBody : ℕ → Slot → Zone → Zone → Zone → Way → Type 0
BehindBody n index kept left e way = (again : Zone) × IsAgain index e again × GoesIf (IsBelow again kept) n left way

-- behind the head of a loop
abbrev BehindHead : Walk → (n k : ℕ) → Slot → Block → Zone → Zone → Zone → Way → Type 0
BehindHead w n k index body kept left start way =
    (end : Way) × WalksAll w (n + 1) (k + 1) body start end × Then end (BehindBody n index kept left) way

behind_body_once : (n : ℕ) (index : Slot) (kept left e : Zone) (a b : Way) → BehindBody n index kept left e a → BehindBody n index kept left e b → a ≡ b
behind_body_once n index kept left e a b (r, x, h) (s, y, g) =
    let same : r ≡ s = again_once index e r s x y in
    goes_once (IsBelow s kept) n left a b (subst (λ (u : Zone). GoesIf (IsBelow u kept) n left a) same h) g

-- what a loop's head tells
record Headed (w : Walk) (n k : ℕ) (index slot : Slot) (bound : CodeOperand) (most : ℤ) (site : ℕ) (z : Zone) (s : Stepped) (kept normed turned left : Zone) (begun : Way) : Type 0 where
  pub head : IsHead index slot bound most z s
  pub keeps : slice_get w.row.keeps k ≡ Some kept
  pub norm : IsNormOf kept normed
  pub turn : IsTurn index slot normed turned
  pub leaves : IsLeft index slot normed left
  pub begins : GoesIf ((IsTrue s.unproved → ListsOwn w.row site) × IsBelow s.zone kept) n turned begun

record SameHead (kept kept' left left' : Zone) (begun begun' : Way) : Type 0 where
  pub keeps : kept ≡ kept'
  pub lefts : left ≡ left'
  pub begins : begun ≡ begun'

headed_once : (w : Walk) (n k : ℕ) (index slot : Slot) (bound : CodeOperand) (most : ℤ) (site : ℕ) (z : Zone) (s s' : Stepped) (kept kept' normed normed' turned turned' left left' : Zone) (begun begun' : Way) →
    Headed w n k index slot bound most site z s kept normed turned left begun → Headed w n k index slot bound most site z s' kept' normed' turned' left' begun' → SameHead kept kept' left left' begun begun'
headed_once w n k index slot bound most site z s s' kept kept' normed normed' turned turned' left left' begun begun' a b =
    let one : s ≡ s' = head_once index slot bound most z s s' a.head b.head in
    let same : kept ≡ kept' = some_same (sym a.keeps ∙ b.keeps) in
    let norm : normed ≡ normed' = chain IsNormOf norm_once kept kept' normed normed' same a.norm b.norm in
    let turn : turned ≡ turned' = chain (IsTurn index slot) (turn_once index slot) normed normed' turned turned' norm a.turn b.turn in
    let g1 = subst (λ (u : Stepped). GoesIf ((IsTrue u.unproved → ListsOwn w.row site) × IsBelow u.zone kept) n turned begun) one a.begins in
    let g2 = subst (λ (u : Zone). GoesIf ((IsTrue s'.unproved → ListsOwn w.row site) × IsBelow s'.zone u) n turned begun) same g1 in
    let g3 = subst (λ (u : Zone). GoesIf ((IsTrue s'.unproved → ListsOwn w.row site) × IsBelow s'.zone kept') n u begun) turn g2 in
    record {
      keeps = same;
      lefts = chain (IsLeft index slot) (left_once index slot) normed normed' left left' norm a.leaves b.leaves;
      begins = goes_once ((IsTrue s'.unproved → ListsOwn w.row site) × IsBelow s'.zone kept') n turned' begun begun' g3 b.begins;
    }

mutual
  walks_once : (w : Walk) (n k : ℕ) (s : Stmt) (z : Zone) (a b : Way) → Walks w n k s z a → Walks w n k s z b → a ≡ b
  walks_once w n k (plain simple) z a b (s, x, h) (t, y, g) = plain_once w n simple z a b s t x y h g
  walks_once w n k (help to callee codes) z a b h g = call_once w n to callee codes z a b h g
  walks_once w n k (branch test first second) z a b (z1, z2, one, x, h, rest) (z1', z2', one', x', h', rest') =
      let e1 : z1 ≡ z1' = guarded_once (zone_test test) z z1 z1' x.holds x'.holds in
      let e2 : z2 ≡ z2' = guarded_once (negation (zone_test test)) z z2 z2' x.fails x'.fails in
      let same : one ≡ one' = all_once w (n + 1) k first z1' one one' (subst (λ (u : Zone). WalksAll w (n + 1) k first u one) e1 h) h' in
      let n2 = n + 1 + block_statements first in
      let k2 = k + block_loops first in
      then_once (BehindFirst w n2 k2 second z2) (BehindFirst w n2 k2 second z2')
      (λ e1 a b p q.
      let other : p.0 ≡ q.0 = all_once w n2 k2 second z2' p.0 q.0 (subst (λ (u : Zone). WalksAll w n2 k2 second u p.0) e2 p.1) q.1 in
      then_once (IsJoined e1) (IsJoined e1) (joined_once e1) p.0 q.0 other a b p.2 q.2)
      one one' same a b rest rest'
  walks_once w n k (loop index slot bound most site body) z a b (s, kept, normed, turned, left, begun, x0, x1, x2, x3, x4, x5, rest) (s', kept', normed', turned', left', begun', y0, y1, y2, y3, y4, y5, rest') =
      let same = headed_once w n k index slot bound most site z s s' kept kept' normed normed' turned turned' left left' begun begun'
      (record { head = x0; keeps = x1; norm = x2; turn = x3; leaves = x4; begins = x5 }) (record { head = y0; keeps = y1; norm = y2; turn = y3; leaves = y4; begins = y5 }) in
      then_once (BehindHead w n k index body kept left) (BehindHead w n k index body kept' left')
      (λ start a b p q.
      let end : p.0 ≡ q.0 = all_once w (n + 1) (k + 1) body start p.0 q.0 p.1 q.1 in
      then_once (BehindBody n index kept left) (BehindBody n index kept' left')
      (λ e a b x y. behind_body_once n index kept' left' e a b
      (subst (λ (u : Zone). BehindBody n index kept' u e a) same.lefts (subst (λ (u : Zone). BehindBody n index u left e a) same.keeps x)) y)
      p.0 q.0 end a b p.2 q.2)
      begun begun' same.begins a b rest rest'

  pub all_once : (w : Walk) (n k : ℕ) (block : Block) (z : Zone) (a b : Way) → WalksAll w n k block z a → WalksAll w n k block z b → a ≡ b
  all_once w n k [] z a b h g = h ∙ sym g
  all_once w n k (s ⨾ rest) z a b (first, x, h) (first', y, g) =
      let same : first ≡ first' = walks_once w n k s z first first' x y in
      let Rest : Zone → Way → Type 0 = λ e way. WalksAll w (n + statements s) (k + loops s) rest e way in
      then_once Rest Rest (λ e a b p q. all_once w (n + statements s) (k + loops s) rest e a b p q) first first' same a b h g
