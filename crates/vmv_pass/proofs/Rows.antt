-- A pass over statements in a row, and over a loop and an `if`, part by part.
use Rattle.std.proofs.Common.{◌≡◌, ℕ, zero, suc, ◌+◌, ◌*◌, ◌<◌, ◌≤◌, Some, List, [], ◌∷◌, ◌++◌, length, map, drop, get_or, slice_get, refl, sym, ap, subst, arith, ◌∙◌}
use Rattle.std.specs.List.{All}
use Rattle.std.proofs.lemmas.List.{drop_all}
use Rattle.vmv_snapshot.specs.declared.code.CodeStmt.{CodeStmt, Help}
use Rattle.vmv_snapshot.specs.declared.code.Slot.{Slot}
use Rattle.vmv_snapshot.specs.declared.code.ProcId.{ProcId}
use Rattle.vmv_snapshot.specs.declared.code.CodeOperand.{CodeOperand}
use Rattle.vmv_snapshot.specs.declared.code.CodeTest.{CodeTest}
use Rattle.vmv_snapshot.specs.Code.{Stmt, help, branch, Block, [], ◌⨾◌}
use Rattle.vmv_snapshot.specs.Resolution.{Resolution}
use Rattle.vmv_snapshot.specs.View.{stmt_of, block_of}
use Rattle.vmv_zone.specs.declared.zone.Zone.{Zone}
use Rattle.vmv_zone.specs.Zone.{vars_of, IsNormal, IsJoin}
use Rattle.vmv_step.specs.Steps.{IsBranched}
use Rattle.vmv_cert.specs.Sizes.{statements, block_statements, loops, block_loops}
use Rattle.vmv_check.specs.Walker.{IsReady, AreReady}
use Rattle.vmv_check.proofs.Walking.{from_item, is_help}
use Rattle.vmv_check.proofs.Lists.{some_same}
use Rattle.vmv_pass.specs.Callees.{callees, block_callees}
use Rattle.vmv_pass.specs.Moves.{Given, Lists, Moves, MovesAll, AreCalled, HasKeeps, HasSites, HaveSites}
use Rattle.vmv_pass.proofs.Zips.{append_long}
use Rattle.vmv_pass.proofs.Moving.{called_first, called_second}

-- what holds before the i-th statement
pub record InRow (program : Resolution) (given : Given) (count k c : ℕ) (block : List CodeStmt) (start : Zone) (S : Lists) (i k' c' : ℕ) (now : Zone) (S' : Lists) : Type 0 where
  pub along : (e : Zone) (T : Lists) → MovesAll given k' c' (block_of (drop i block)) now S' e T → MovesAll given k c (block_of block) start S e T
  pub ready : AreReady program start.vars (block_of (drop i block))
  pub sites : HaveSites count (block_of (drop i block))
  pub called : AreCalled program (map vars_of S.inputs) c' (block_callees (block_of (drop i block)))
  pub vars : now.vars ≡ start.vars
  pub normal : IsNormal now
  pub over : All (λ (z : Zone). z.vars ≡ start.vars) S'.keeps
  pub sizes : map vars_of S'.inputs ≡ map vars_of S.inputs
  pub keep : k' + block_loops (block_of (drop i block)) ≡ k + block_loops (block_of block)
  pub call : c' + length (block_callees (block_of (drop i block))) ≡ c + length (block_callees (block_of block))
  pub inside : block_statements (block_of (drop i block)) ≤ block_statements (block_of block)

pub row_start : (program : Resolution) (given : Given) (count k c : ℕ) (block : List CodeStmt) (start : Zone) (S : Lists) → AreReady program start.vars (block_of block) → HaveSites count (block_of block) →
    HasKeeps start.vars (k + block_loops (block_of block)) S.keeps → AreCalled program (map vars_of S.inputs) c (block_callees (block_of block)) → IsNormal start → InRow program given count k c block start S 0 k c start S
row_start program given count k c block start S ready sites kept called normal =
    record { along = λ e T h. h; ready = ready; sites = sites; called = called; vars = refl; normal = normal; over = kept.over; sizes = refl; keep = refl; call = refl; inside = omega arith }

-- what a pass over a statement takes
pub record TakesOne (program : Resolution) (t count k c : ℕ) (s : CodeStmt) (now : Zone) (S : Lists) : Type 0 where
  pub falls : 3 * statements (stmt_of s) < t
  pub normal : IsNormal now
  pub few : now.vars ≤ 16
  pub ready : IsReady program now.vars (stmt_of s)
  pub sites : HasSites count (stmt_of s)
  pub kept : HasKeeps now.vars (k + loops (stmt_of s)) S.keeps
  pub called : AreCalled program (map vars_of S.inputs) c (callees (stmt_of s))
  pub calls : c + length (callees (stmt_of s)) ≤ length S.inputs

pub row_takes : (program : Resolution) (given : Given) (count k c : ℕ) (block : List CodeStmt) (start : Zone) (S : Lists) (i k' c' t : ℕ) (now : Zone) (S' : Lists) (s : CodeStmt) → i < length block → s ≡ get_or block i s →
    InRow program given count k c block start S i k' c' now S' → start.vars ≤ 16 → k + block_loops (block_of block) ≤ length S'.keeps → c + length (block_callees (block_of block)) ≤ length S'.inputs → 3 * block_statements (block_of block) + 1 ≡ t → TakesOne program t count k' c' s now S'
row_takes program given count k c block start S i k' c' t now S' s h is row few enough room d =
    let e = from_item block i s h is in
    let a : block_statements (block_of (drop i block)) ≡ statements (stmt_of s) + block_statements (block_of (drop (i + 1) block)) = ap block_statements e in
    let b : block_loops (block_of (drop i block)) ≡ loops (stmt_of s) + block_loops (block_of (drop (i + 1) block)) = ap block_loops e in
    let r : AreReady program start.vars (stmt_of s ⨾ block_of (drop (i + 1) block)) = subst (AreReady program start.vars) e row.ready in
    let u : HaveSites count (stmt_of s ⨾ block_of (drop (i + 1) block)) = subst (HaveSites count) e row.sites in
    let v : AreCalled program (map vars_of S.inputs) c' (callees (stmt_of s) ++ block_callees (block_of (drop (i + 1) block))) =
    subst (λ (x : Block). AreCalled program (map vars_of S.inputs) c' (block_callees x)) e row.called in
    let x : length (block_callees (block_of (drop i block))) ≡ length (callees (stmt_of s)) + length (block_callees (block_of (drop (i + 1) block))) =
    ap (λ (x : Block). length (block_callees x)) e ∙ append_long (callees (stmt_of s)) (block_callees (block_of (drop (i + 1) block))) in
    let y = row.keep in
    let y' = row.call in
    let z = row.inside in
    let w = row.vars in
    record {
      falls = omega arith;
      normal = row.normal;
      few = omega arith;
      ready = subst (λ n. IsReady program n (stmt_of s)) (sym w) r.0;
      sites = u.0;
      kept = record { enough = omega arith; over = subst (λ n. All (λ (z : Zone). z.vars ≡ n) S'.keeps) (sym w) row.over };
      called = subst (λ ns. AreCalled program ns c' (callees (stmt_of s))) (sym row.sizes) (called_first program (map vars_of S.inputs) c' (callees (stmt_of s)) (block_callees (block_of (drop (i + 1) block))) v);
      calls = omega arith;
    }

pub row_more : (program : Resolution) (given : Given) (count k c : ℕ) (block : List CodeStmt) (start : Zone) (S : Lists) (i k' c' k'' c'' : ℕ) (now next : Zone) (S' S'' : Lists) (s : CodeStmt) → i < length block → s ≡ get_or block i s →
    InRow program given count k c block start S i k' c' now S' → Moves given k' c' (stmt_of s) now S' next S'' → IsNormal next → next.vars ≡ now.vars → All (λ (z : Zone). z.vars ≡ now.vars) S''.keeps → map vars_of S''.inputs ≡ map vars_of S'.inputs →
    k'' ≡ k' + loops (stmt_of s) → c'' ≡ c' + length (callees (stmt_of s)) → InRow program given count k c block start S (i + 1) k'' c'' next S''
row_more program given count k c block start S i k' c' k'' c'' now next S' S'' s h is row moves normal same over sizes ek ec =
    let rest = block_of (drop (i + 1) block) in
    let e : block_of (drop i block) ≡ stmt_of s ⨾ rest = from_item block i s h is in
    let a : block_statements (block_of (drop i block)) ≡ statements (stmt_of s) + block_statements rest = ap block_statements e in
    let b : block_loops (block_of (drop i block)) ≡ loops (stmt_of s) + block_loops rest = ap block_loops e in
    let d : length (block_callees (block_of (drop i block))) ≡ length (callees (stmt_of s)) + length (block_callees rest) =
    ap (λ (x : Block). length (block_callees x)) e ∙ append_long (callees (stmt_of s)) (block_callees rest) in
    let r : AreReady program start.vars (stmt_of s ⨾ rest) = subst (AreReady program start.vars) e row.ready in
    let u : HaveSites count (stmt_of s ⨾ rest) = subst (HaveSites count) e row.sites in
    let v : AreCalled program (map vars_of S.inputs) c' (callees (stmt_of s) ++ block_callees rest) =
    subst (λ (x : Block). AreCalled program (map vars_of S.inputs) c' (block_callees x)) e row.called in
    let x = row.keep in
    let y = row.call in
    let z = row.inside in
    record {
      along = λ end T g.
          let g1 = subst (λ j. MovesAll given j c'' rest next S'' end T) ek g in
          let g2 = subst (λ j. MovesAll given (k' + loops (stmt_of s)) j rest next S'' end T) ec g1 in
          row.along end T (subst (λ (x : Block). MovesAll given k' c' x now S' end T) (sym e) (next, S'', moves, g2));
      ready = r.1;
      sites = u.1;
      called = subst (λ j. AreCalled program (map vars_of S.inputs) j (block_callees rest)) (sym ec) (called_second program (map vars_of S.inputs) c' (callees (stmt_of s)) (block_callees rest) v);
      vars = same ∙ row.vars;
      normal = normal;
      over = subst (λ n. All (λ (z : Zone). z.vars ≡ n) S''.keeps) row.vars over;
      sizes = sizes ∙ row.sizes;
      keep = omega arith;
      call = omega arith;
      inside = omega arith;
    }

-- what holds behind the statements
pub record RowEnds (given : Given) (k c : ℕ) (block : List CodeStmt) (start : Zone) (S : Lists) (k' c' : ℕ) (now : Zone) (S' : Lists) : Type 0 where
  pub moves : MovesAll given k c (block_of block) start S now S'
  pub vars : now.vars ≡ start.vars
  pub normal : IsNormal now
  pub over : All (λ (z : Zone). z.vars ≡ start.vars) S'.keeps
  pub sizes : map vars_of S'.inputs ≡ map vars_of S.inputs
  pub keep : k' ≡ k + block_loops (block_of block)
  pub call : c' ≡ c + length (block_callees (block_of block))

pub row_end : (program : Resolution) (given : Given) (count k c : ℕ) (block : List CodeStmt) (start : Zone) (S : Lists) (i k' c' : ℕ) (now : Zone) (S' : Lists) → length block ≤ i →
    InRow program given count k c block start S i k' c' now S' → RowEnds given k c block start S k' c' now S'
row_end program given count k c block start S i k' c' now S' h row =
    let none : drop i block ≡ [] = drop_all i block h in
    let a : block_loops (block_of (drop i block)) ≡ 0 = ap (λ (b : List CodeStmt). block_loops (block_of b)) none in
    let b : length (block_callees (block_of (drop i block))) ≡ 0 = ap (λ (b : List CodeStmt). length (block_callees (block_of b))) none in
    let x = row.keep in
    let y = row.call in
    record {
      moves = row.along now S' (subst (λ (b : List CodeStmt). MovesAll given k' c' (block_of b) now S' now S') (sym none) (refl, refl));
      vars = row.vars;
      normal = row.normal;
      over = row.over;
      sizes = row.sizes;
      keep = omega arith;
      call = omega arith;
    }

-- what a pass over a block takes
pub record Part (program : Resolution) (vars count n m : ℕ) (sizes : List ℕ) (t k c : ℕ) (b : Block) : Type 0 where
  pub falls : 3 * block_statements b + 1 < t
  pub ready : AreReady program vars b
  pub sites : HaveSites count b
  pub enough : k + block_loops b ≤ n
  pub called : AreCalled program sizes c (block_callees b)
  pub calls : c + length (block_callees b) ≤ m

pub part_as : (program : Resolution) (vars vars' count n m : ℕ) (sizes : List ℕ) (t k k' c c' : ℕ) (block block' : List CodeStmt) → Part program vars count n m sizes t k c (block_of block) → vars' ≡ vars → k' ≡ k → c' ≡ c → block' ≡ block →
    Part program vars' count n m sizes t k' c' (block_of block')
part_as program vars vars' count n m sizes t k k' c c' block block' part ev ek ec eb =
    let one = subst (λ v. Part program v count n m sizes t k c (block_of block)) (sym ev) part in
    let two = subst (λ j. Part program vars' count n m sizes t j c (block_of block)) (sym ek) one in
    let three = subst (λ j. Part program vars' count n m sizes t k' j (block_of block)) (sym ec) two in
    subst (λ (b : List CodeStmt). Part program vars' count n m sizes t k' c' (block_of b)) (sym eb) three

-- the parts of an `if`
pub record IfParts (program : Resolution) (vars count n m : ℕ) (sizes : List ℕ) (t k c : ℕ) (first second : Block) : Type 0 where
  pub one : Part program vars count n m sizes t k c first
  pub other : Part program vars count n m sizes t (k + block_loops first) (c + length (block_callees first)) second

pub if_parts : (program : Resolution) (vars count n m : ℕ) (sizes : List ℕ) (t k c : ℕ) (test : CodeTest) (first second : Block) → IsReady program vars (branch test first second) → HasSites count (branch test first second) →
    k + loops (branch test first second) ≤ n → AreCalled program sizes c (callees (branch test first second)) → c + length (callees (branch test first second)) ≤ m → 3 * (block_statements first + block_statements second) + 2 ≡ t →
    IfParts program vars count n m sizes t k c first second
if_parts program vars count n m sizes t k c test first second ready sites enough called calls d =
    let xs = block_callees first in
    let ys = block_callees second in
    let b : length (xs ++ ys) ≡ length xs + length ys = append_long xs ys in
    let calls' : c + length (xs ++ ys) ≤ m = calls in
    let enough' : k + (block_loops first + block_loops second) ≤ n = enough in
    record {
      one = record { falls = omega arith; ready = ready.1; sites = sites.0; enough = omega arith; called = called_first program sizes c xs ys called; calls = omega arith };
      other = record { falls = omega arith; ready = ready.2; sites = sites.1; enough = omega arith; called = called_second program sizes c xs ys called; calls = omega arith };
    }

pub if_moves : (given : Given) (k c k' c' : ℕ) (test : CodeTest) (first second : Block) (z z1 z2 e1 e2 j : Zone) (S S1 S2 : Lists) → IsBranched test z z1 z2 →
    k' ≡ k + block_loops first → c' ≡ c + length (block_callees first) → MovesAll given k c first z1 S e1 S1 → MovesAll given k' c' second z2 S1 e2 S2 → IsJoin e1 e2 j → Moves given k c (branch test first second) z S j S2
if_moves given k c k' c' test first second z z1 z2 e1 e2 j S S1 S2 b ek ec h g join =
    let g2 = subst (λ i. MovesAll given i c' second z2 S1 e2 S2) ek g in
    let g3 = subst (λ i. MovesAll given (k + block_loops first) i second z2 S1 e2 S2) ec g2 in
    (z1, z2, e1, e2, S1, b, h, g3, join)

pub if_calls : (c c' c'' : ℕ) (test : CodeTest) (first second : Block) → c' ≡ c + length (block_callees first) → c'' ≡ c' + length (block_callees second) → c'' ≡ c + length (callees (branch test first second))
if_calls c c' c'' test first second e e' =
    let b : length (block_callees first ++ block_callees second) ≡ length (block_callees first) + length (block_callees second) = append_long (block_callees first) (block_callees second) in
    let g : c'' ≡ c + length (block_callees first ++ block_callees second) = omega arith in
    g

map_back : {X : Type 0} (f : X → ℕ) (xs : List X) (k n : ℕ) → slice_get (map f xs) k ≡ Some n → (d : X) → f (get_or xs k d) ≡ n
map_back f [] k n e d = absurd (cc)
map_back f (x ∷ xs) zero n e d = some_same e
map_back f (x ∷ xs) (suc k) n e d = map_back f xs k n e d

pub call_size : (program : Resolution) (vars : ℕ) (inputs : List Zone) (c : ℕ) (s : CodeStmt) (to : Slot) (callee : ProcId) (args slice : List CodeOperand) → s ≡ Help to callee args → slice ≡ args → IsReady program vars (stmt_of s) →
    AreCalled program (map vars_of inputs) c (callees (stmt_of s)) → (d : Zone) → vars_of (get_or inputs c d) ≡ length slice
call_size program vars inputs c s to callee args slice is same ready called d =
    let e = is_help s to callee args is in
    let r : IsReady program vars (help to callee args) = subst (IsReady program vars) e ready in
    let h = called 0 callee (ap (λ (x : Stmt). slice_get (callees x) 0) e) in
    let z : c + 0 ≡ c = omega arith in
    let n : h.0 ≡ length args = some_same (sym h.2 ∙ r.1) in
    map_back vars_of inputs c h.0 (subst (λ j. slice_get (map vars_of inputs) j ≡ Some h.0) z h.1) d ∙ (n ∙ ap length (sym same))
