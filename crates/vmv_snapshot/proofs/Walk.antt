-- The walk of a resolver over statements: what holds of a part where it holds of the whole.
use Rattle.std.proofs.Common.{◌≡◌, ℕ, ◌+◌, ◌*◌, ◌<◌, ◌≤◌, ℤ, List, [], ◌∷◌, ◌++◌, length, take, drop, get_or, refl, sym, ap, subst, ◌∙◌, arith, add-one, drop-cons, Result, IfOk, Ok, Err}
use Rattle.vmv_tree.specs.declared.name.Name.{Name}
use Rattle.vmv_tree.specs.declared.tree.Operand.{Operand}
use Rattle.vmv_tree.specs.declared.tree.Test.{Test}
use Rattle.vmv_tree.specs.declared.tree.Stmt as declared
use Rattle.vmv_tree.specs.declared.tree.Stmt.{Call, If, Repeat}
use Rattle.vmv_tree.specs.Tree.{Stmt, call, choose, repeat, Block, [], ◌⨾◌}
use Rattle.vmv_tree.specs.View.{stmt_of, block_of, stmt_of-call, stmt_of-if, stmt_of-repeat}
use Rattle.vmv_tree.specs.Run.{sites, block_sites}
use Rattle.vmv_tree.specs.Limits.{statements, block_statements}
use Rattle.vmv_snapshot.specs.declared.code.CodeStmt.{CodeStmt}
use Rattle.vmv_snapshot.specs.View.{stmt_of as code_stmt_of, block_of as code_block_of}
use Rattle.vmv_snapshot.specs.Resolves.{Scope, Resolves, ResolvesAll}
use Rattle.vmv_snapshot.specs.Resolvable.{IsResolvable, AreResolvable}
use Rattle.vmv_snapshot.proofs.Zips.{take_one_more}

-- what is known of a part: its names mean something, and there is room for its sites
abbrev pub Part : Scope → ℕ → Block → Type 0
Part scope n b = AreResolvable scope b × (n + block_sites b ≤ 2000)

is_if : (s : declared.Stmt) (test : Test) (first second : List declared.Stmt) → s ≡ If test first second → stmt_of s ≡ choose test (block_of first) (block_of second)
is_if s test first second is = ap stmt_of is ∙ stmt_of-if test first second

is_repeat : (s : declared.Stmt) (index : Name) (bound : Operand) (cap : ℤ) (body : List declared.Stmt) → s ≡ Repeat index bound cap body → stmt_of s ≡ repeat index bound cap (block_of body)
is_repeat s index bound cap body is = ap stmt_of is ∙ stmt_of-repeat index bound cap body

pub falls_first : (t : ℕ) (s : declared.Stmt) (test : Test) (first second one : List declared.Stmt) → s ≡ If test first second → one ≡ first →
    2 * statements (stmt_of s) ≡ t → 2 * block_statements (block_of one) + 1 < t
falls_first t s test first second one is a d =
    let e : statements (stmt_of s) ≡ 1 + block_statements (block_of first) + block_statements (block_of second) = ap statements (is_if s test first second is) in
    let f : block_statements (block_of one) ≡ block_statements (block_of first) = ap (λ b. block_statements (block_of b)) a in
    omega arith

pub falls_second : (t : ℕ) (s : declared.Stmt) (test : Test) (first second two : List declared.Stmt) → s ≡ If test first second → two ≡ second →
    2 * statements (stmt_of s) ≡ t → 2 * block_statements (block_of two) + 1 < t
falls_second t s test first second two is a d =
    let e : statements (stmt_of s) ≡ 1 + block_statements (block_of first) + block_statements (block_of second) = ap statements (is_if s test first second is) in
    let f : block_statements (block_of two) ≡ block_statements (block_of second) = ap (λ b. block_statements (block_of b)) a in
    omega arith

pub falls_body : (t : ℕ) (s : declared.Stmt) (index : Name) (bound : Operand) (cap : ℤ) (body inside : List declared.Stmt) → s ≡ Repeat index bound cap body → inside ≡ body →
    2 * statements (stmt_of s) ≡ t → 2 * block_statements (block_of inside) + 1 < t
falls_body t s index bound cap body inside is a d =
    let e : statements (stmt_of s) ≡ 1 + block_statements (block_of body) = ap statements (is_repeat s index bound cap body is) in
    let f : block_statements (block_of inside) ≡ block_statements (block_of body) = ap (λ b. block_statements (block_of b)) a in
    omega arith

pub part_first : (scope : Scope) (n : ℕ) (s : declared.Stmt) (test : Test) (first second one : List declared.Stmt) → s ≡ If test first second → one ≡ first →
    IsResolvable scope (stmt_of s) → n + sites (stmt_of s) ≤ 2000 → Part scope n (block_of one)
unfolding IsResolvable
part_first scope n s test first second one is a known few =
    let e : sites (stmt_of s) ≡ block_sites (block_of first) + block_sites (block_of second) = ap sites (is_if s test first second is) in
    let k : IsResolvable scope (choose test (block_of first) (block_of second)) = subst (IsResolvable scope) (is_if s test first second is) known in
    subst (λ b. Part scope n (block_of b)) (sym a) (k.1, omega arith)

pub part_second : (scope : Scope) (n m : ℕ) (s : declared.Stmt) (test : Test) (first second one two : List declared.Stmt) → s ≡ If test first second → one ≡ first → two ≡ second →
    m ≡ n + block_sites (block_of one) → IsResolvable scope (stmt_of s) → n + sites (stmt_of s) ≤ 2000 → Part scope m (block_of two)
unfolding IsResolvable
part_second scope n m s test first second one two is a b c known few =
    let e : sites (stmt_of s) ≡ block_sites (block_of first) + block_sites (block_of second) = ap sites (is_if s test first second is) in
    let f : block_sites (block_of one) ≡ block_sites (block_of first) = ap (λ x. block_sites (block_of x)) a in
    let k : IsResolvable scope (choose test (block_of first) (block_of second)) = subst (IsResolvable scope) (is_if s test first second is) known in
    subst (λ x. Part scope m (block_of x)) (sym b) (k.2, omega arith)

pub part_body : (scope : Scope) (n m : ℕ) (s : declared.Stmt) (index : Name) (bound : Operand) (cap : ℤ) (body inside : List declared.Stmt) → s ≡ Repeat index bound cap body →
    inside ≡ body → m ≡ n + 1 → IsResolvable scope (stmt_of s) → n + sites (stmt_of s) ≤ 2000 → Part scope m (block_of inside)
unfolding IsResolvable
part_body scope n m s index bound cap body inside is a c known few =
    let e : sites (stmt_of s) ≡ 1 + block_sites (block_of body) = ap sites (is_repeat s index bound cap body is) in
    let k : IsResolvable scope (repeat index bound cap (block_of body)) = subst (IsResolvable scope) (is_repeat s index bound cap body is) known in
    subst (λ b. Part scope m (block_of b)) (sym a) (k.2, omega arith)

-- a call, whatever is before it
pub call_resolved : (scope : Scope) (n : ℕ) (s : declared.Stmt) (to callee : Name) (args same : List Operand) {E : Type 0} (r : Result CodeStmt E) → s ≡ Call to callee args → same ≡ args →
    IfOk r (λ code. (k : ℕ) → Resolves scope k (call to callee same) (code_stmt_of code)) → IfOk r (λ code. Resolves scope n (stmt_of s) (code_stmt_of code))
call_resolved scope n s to callee args same (Ok code) is a h =
    let e : stmt_of s ≡ call to callee same = ap stmt_of is ∙ (stmt_of-call to callee args ∙ ap (call to callee) (sym a)) in
    subst (λ x. Resolves scope n x (code_stmt_of code)) (sym e) (h n)
call_resolved scope n s to callee args same (Err error) is a h = h

-- a block from its i-th statement on
from_item : (block : List declared.Stmt) (i : ℕ) (s : declared.Stmt) → i < length block → s ≡ get_or block i s → block_of (drop i block) ≡ stmt_of s ⨾ block_of (drop (i + 1) block)
from_item block i s h is = let tail : drop i block ≡ s ∷ drop (i + 1) block = rw (add-one, drop-cons block i s, ← is) refl in ap block_of tail

pub item_known : (scope : Scope) (block : List declared.Stmt) (i n t all : ℕ) (s : declared.Stmt) → i < length block → s ≡ get_or block i s → AreResolvable scope (block_of (drop i block)) →
    n + block_sites (block_of (drop i block)) ≡ all → all ≤ 2000 → block_statements (block_of (drop i block)) ≤ block_statements (block_of block) →
    2 * block_statements (block_of block) + 1 ≡ t → (2 * statements (stmt_of s) < t) × IsResolvable scope (stmt_of s) × (n + sites (stmt_of s) ≤ 2000)
unfolding AreResolvable
item_known scope block i n t all s h is known left few inside d =
    let e = from_item block i s h is in
    let a : block_sites (block_of (drop i block)) ≡ sites (stmt_of s) + block_sites (block_of (drop (i + 1) block)) = ap block_sites e in
    let b : block_statements (block_of (drop i block)) ≡ statements (stmt_of s) + block_statements (block_of (drop (i + 1) block)) = ap block_statements e in
    let k : AreResolvable scope (stmt_of s ⨾ block_of (drop (i + 1) block)) = subst (AreResolvable scope) e known in
    (omega arith, k.0, omega arith)

block_of-push : (xs : List declared.Stmt) (s : declared.Stmt) → block_sites (block_of (xs ++ s ∷ [])) ≡ block_sites (block_of xs) + sites (stmt_of s)
block_of-push [] s = omega arith
block_of-push (x ∷ xs) s = let e = block_of-push xs s in omega arith

resolved_push : (scope : Scope) (k : ℕ) (xs : List declared.Stmt) (s : declared.Stmt) (codes : List CodeStmt) (c : CodeStmt) → ResolvesAll scope k (block_of xs) (code_block_of codes) →
    Resolves scope (k + block_sites (block_of xs)) (stmt_of s) (code_stmt_of c) → ResolvesAll scope k (block_of (xs ++ s ∷ [])) (code_block_of (codes ++ c ∷ []))
unfolding ResolvesAll
resolved_push scope k [] s [] c all one = let e : k + 0 ≡ k = omega arith in (subst (λ n. Resolves scope n (stmt_of s) (code_stmt_of c)) e one, tt)
resolved_push scope k [] s (d ∷ codes) c all one = absurd all
resolved_push scope k (x ∷ xs) s [] c all one = absurd all
resolved_push scope k (x ∷ xs) s (d ∷ codes) c all one =
    let e : k + (sites (stmt_of x) + block_sites (block_of xs)) ≡ k + sites (stmt_of x) + block_sites (block_of xs) = omega arith in
    (all.0, resolved_push scope (k + sites (stmt_of x)) xs s codes c all.1 (subst (λ n. Resolves scope n (stmt_of s) (code_stmt_of c)) e one))

-- what is kept over a block
pub record Kept (scope : Scope) (start count : ℕ) (block : List declared.Stmt) (i : ℕ) (codes : List CodeStmt) : Type 0 where
  pub known : AreResolvable scope (block_of (drop i block))
  pub left : count + block_sites (block_of (drop i block)) ≡ start + block_sites (block_of block)
  pub counted : count ≡ start + block_sites (block_of (take i block))
  pub inside : block_statements (block_of (drop i block)) ≤ block_statements (block_of block)
  pub resolved : ResolvesAll scope start (block_of (take i block)) (code_block_of codes)

pub kept_start : (scope : Scope) (n : ℕ) (block : List declared.Stmt) (codes : List CodeStmt) → AreResolvable scope (block_of block) → codes ≡ [] → Kept scope n n block 0 codes
unfolding ResolvesAll
kept_start scope n block codes known e = record {
  known = known;
  left = refl;
  counted = omega arith;
  inside = omega arith;
  resolved = subst (λ c. ResolvesAll scope n [] (code_block_of c)) (sym e) tt;
}

pub kept_more : (scope : Scope) (start count next : ℕ) (block : List declared.Stmt) (i : ℕ) (codes more : List CodeStmt) (s : declared.Stmt) (c : CodeStmt) → i < length block → s ≡ get_or block i s →
    Kept scope start count block i codes → Resolves scope count (stmt_of s) (code_stmt_of c) → next ≡ count + sites (stmt_of s) → more ≡ codes ++ c ∷ [] → Kept scope start next block (i + 1) more
unfolding AreResolvable
kept_more scope start count next block i codes more s c h is kept one step e =
    let rest = from_item block i s h is in
    let a : block_sites (block_of (drop i block)) ≡ sites (stmt_of s) + block_sites (block_of (drop (i + 1) block)) = ap block_sites rest in
    let b : block_statements (block_of (drop i block)) ≡ statements (stmt_of s) + block_statements (block_of (drop (i + 1) block)) = ap block_statements rest in
    let k : AreResolvable scope (stmt_of s ⨾ block_of (drop (i + 1) block)) = subst (AreResolvable scope) rest kept.known in
    let done : take (i + 1) block ≡ take i block ++ s ∷ [] = take_one_more block i s h is in
    let f : block_sites (block_of (take (i + 1) block)) ≡ block_sites (block_of (take i block)) + sites (stmt_of s) = ap (λ x. block_sites (block_of x)) done ∙ block_of-push (take i block) s in
    let l = kept.left in
    let m = kept.counted in
    let n = kept.inside in
    record {
      known = k.1;
      left = omega arith;
      counted = omega arith;
      inside = omega arith;
      resolved = rw (done, e) (resolved_push scope start (take i block) s codes c kept.resolved (subst (λ x. Resolves scope x (stmt_of s) (code_stmt_of c)) kept.counted one));
    }
