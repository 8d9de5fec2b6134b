-- Parts of resolved statements: how large they are, and which helpers they call.
use Rattle.std.proofs.Common.{◌≡◌, inl, inr, ℕ, zero, suc, ◌+◌, ◌*◌, ◌<◌, ◌≤◌, ℤ, Some, List, [], ◌∷◌, length, drop, set, get_or, slice_get, refl, sym, ap, subst, arith, ◌∙◌, add-one, drop-cons}
use Rattle.std.proofs.lemmas.List.{drop_all}
use Rattle.vmv_tree.specs.Tree.{Item}
use Rattle.vmv_snapshot.specs.declared.code.Slot.{Slot}
use Rattle.vmv_snapshot.specs.declared.code.ProcId.{ProcId}
use Rattle.vmv_snapshot.specs.declared.code.CodeOperand.{CodeOperand}
use Rattle.vmv_snapshot.specs.declared.code.CodeTest.{CodeTest}
use Rattle.vmv_snapshot.specs.declared.code.Simple.{Simple}
use Rattle.vmv_snapshot.specs.declared.code.CodeStmt.{CodeStmt, Plain, Help, If, Repeat}
use Rattle.vmv_snapshot.specs.declared.code.CodeRepeat.{CodeRepeat}
use Rattle.vmv_snapshot.specs.declared.code.Code.{Code}
use Rattle.vmv_snapshot.specs.Code.{Stmt, plain, help, branch, loop, Block, [], ◌⨾◌}
use Rattle.vmv_snapshot.specs.View.{stmt_of, block_of, code_of, stmt_of-plain, stmt_of-help, stmt_of-if, stmt_of-repeat}
use Rattle.vmv_snapshot.specs.Rows.{Helps, BlockHelps}
use Rattle.vmv_snapshot.specs.Resolves.{IsCode}
use Rattle.vmv_snapshot.proofs.Links.{helps_call}
use Rattle.vmv_run.specs.declared.source.Source.{Source}
use Rattle.vmv_run.specs.declared.walked.Walked.{Walked}
use Rattle.vmv_run.specs.declared.walked.Walked.TheVariants.{Next}
use Rattle.vmv_run.specs.Walk.{Walks, WalksAll, size, block_size, budget}
use Rattle.vmv_run.proofs.Rules.{Row, row_start, row_next, row_stop, row_end}

-- the calls in it are of helpers before this number
abbrev pub CallsBelow : (ℕ → Type 0) → ℕ → Type 0
CallsBelow helps p = (n : ℕ) → helps n → n < p

-- a block from its i-th statement on
pub from_item : (block : List CodeStmt) (i : ℕ) (s : CodeStmt) → i < length block → s ≡ get_or block i s → block_of (drop i block) ≡ stmt_of s ⨾ block_of (drop (i + 1) block)
from_item block i s h is = let tail : drop i block ≡ s ∷ drop (i + 1) block = rw (add-one, drop-cons block i s, ← is) refl in ap block_of tail

-- what holds of a walk over a row before its i-th statement
pub record InRow (program : List Item) (proc : ℕ) (block : List CodeStmt) (i : ℕ) (before now : List ℤ) (old new : Source) : Type 0 where
  pub row : Row program proc (block_of block) before now old new (block_of (drop i block))
  pub inside : block_size (block_of (drop i block)) ≤ block_size (block_of block)
  pub calls : (n : ℕ) → BlockHelps (block_of (drop i block)) n → BlockHelps (block_of block) n

is_help : (s : CodeStmt) (to : Slot) (callee : ProcId) (args : List CodeOperand) → s ≡ Help to callee args → stmt_of s ≡ help to callee args
is_help s to callee args is = ap stmt_of is ∙ stmt_of-help to callee args

is_if : (s : CodeStmt) (test : CodeTest) (first second : List CodeStmt) → s ≡ If test first second → stmt_of s ≡ branch test (block_of first) (block_of second)
is_if s test first second is = ap stmt_of is ∙ stmt_of-if test first second

abbrev pub loop_of : CodeRepeat → Stmt
loop_of r = loop r.index r.slot r.bound r.cap r.site (block_of r.body)

is_repeat : (s : CodeStmt) (r : CodeRepeat) → s ≡ Repeat r → stmt_of s ≡ loop_of r
is_repeat s r is = ap stmt_of is ∙ stmt_of-repeat r.index r.slot r.bound r.cap r.site r.body

-- the calls in a part are calls in the whole
pub help_below : (p : ℕ) (s : CodeStmt) (to : Slot) (callee : ProcId) (args : List CodeOperand) → s ≡ Help to callee args → CallsBelow (Helps (stmt_of s)) p → callee.0 < p
help_below p s to callee args is below = below callee.0 (subst (λ (c : Stmt). Helps c callee.0) (sym (is_help s to callee args is)) refl)

pub first_below : (p : ℕ) (s : CodeStmt) (test : CodeTest) (first second one : List CodeStmt) → s ≡ If test first second → one ≡ first → CallsBelow (Helps (stmt_of s)) p →
    CallsBelow (BlockHelps (block_of one)) p
first_below p s test first second one is e below n h =
    below n (subst (λ (c : Stmt). Helps c n) (sym (is_if s test first second is)) (inl (subst (λ (b : List CodeStmt). BlockHelps (block_of b) n) e h)))

pub second_below : (p : ℕ) (s : CodeStmt) (test : CodeTest) (first second one : List CodeStmt) → s ≡ If test first second → one ≡ second → CallsBelow (Helps (stmt_of s)) p →
    CallsBelow (BlockHelps (block_of one)) p
second_below p s test first second one is e below n h =
    below n (subst (λ (c : Stmt). Helps c n) (sym (is_if s test first second is)) (inr (subst (λ (b : List CodeStmt). BlockHelps (block_of b) n) e h)))

pub body_below : (p : ℕ) (s : CodeStmt) (r : CodeRepeat) → s ≡ Repeat r → CallsBelow (Helps (stmt_of s)) p → CallsBelow (BlockHelps (block_of r.body)) p
body_below p s r is below n h = below n (subst (λ (c : Stmt). Helps c n) (sym (is_repeat s r is)) h)

pub same_below : (p : ℕ) (one other : List CodeStmt) → one ≡ other → CallsBelow (BlockHelps (block_of other)) p → CallsBelow (BlockHelps (block_of one)) p
same_below p one other e below n h = below n (subst (λ (b : List CodeStmt). BlockHelps (block_of b) n) e h)

budget-zero : (codes : List Code) → budget codes 0 ≡ 0
budget-zero [] = refl
budget-zero (c ∷ codes) = refl

budget-more : (codes : List Code) (m n : ℕ) → m ≤ n → budget codes m ≤ budget codes n
budget-more [] m n h = omega arith
budget-more (c ∷ codes) zero n h = omega arith
budget-more (c ∷ codes) (suc m) zero h = absurd (omega arith)
budget-more (c ∷ codes) (suc m) (suc n) h = let k = budget-more codes m n (omega arith) in omega arith

budget-next : (codes : List Code) (p : ℕ) (code : Code) → slice_get codes p ≡ Some code → budget codes (suc p) ≡ budget codes p + 3 * block_size (block_of code.block) + 2
budget-next [] p code e = absurd (cc)
budget-next (c ∷ codes) zero code e =
    let same : c ≡ code = cc in
    let z = budget-zero codes in
    let k : block_size (block_of c.block) ≡ block_size (block_of code.block) = ap (λ (x : Code). block_size (block_of x.block)) same in
    omega arith
budget-next (c ∷ codes) (suc p) code e = let k = budget-next codes p code e in omega arith

-- the bound falls with each call
pub falls_help : (codes : List Code) (t p : ℕ) (s : CodeStmt) (to : Slot) (callee : ProcId) (args : List CodeOperand) → s ≡ Help to callee args → callee.0 < p →
    budget codes p + 3 * size (stmt_of s) ≡ t → budget codes (callee.0 + 1) < t
falls_help codes t p s to callee args is below d =
    let e : size (stmt_of s) ≡ 1 = ap size (is_help s to callee args is) in
    let k = budget-more codes (callee.0 + 1) p (omega arith) in
    omega arith

pub falls_first : (codes : List Code) (t p : ℕ) (s : CodeStmt) (test : CodeTest) (first second one : List CodeStmt) → s ≡ If test first second → one ≡ first →
    budget codes p + 3 * size (stmt_of s) ≡ t → budget codes p + 3 * block_size (block_of one) + 1 < t
falls_first codes t p s test first second one is a d =
    let e : size (stmt_of s) ≡ 1 + block_size (block_of first) + block_size (block_of second) = ap size (is_if s test first second is) in
    let f : block_size (block_of one) ≡ block_size (block_of first) = ap (λ (b : List CodeStmt). block_size (block_of b)) a in
    omega arith

pub falls_second : (codes : List Code) (t p : ℕ) (s : CodeStmt) (test : CodeTest) (first second one : List CodeStmt) → s ≡ If test first second → one ≡ second →
    budget codes p + 3 * size (stmt_of s) ≡ t → budget codes p + 3 * block_size (block_of one) + 1 < t
falls_second codes t p s test first second one is a d =
    let e : size (stmt_of s) ≡ 1 + block_size (block_of first) + block_size (block_of second) = ap size (is_if s test first second is) in
    let f : block_size (block_of one) ≡ block_size (block_of second) = ap (λ (b : List CodeStmt). block_size (block_of b)) a in
    omega arith

pub falls_repeat : (codes : List Code) (t p : ℕ) (s : CodeStmt) (r : CodeRepeat) → s ≡ Repeat r → budget codes p + 3 * size (stmt_of s) ≡ t → budget codes p + 3 * block_size (block_of r.body) + 2 < t
falls_repeat codes t p s r is d =
    let e : size (stmt_of s) ≡ 1 + block_size (block_of r.body) = ap size (is_repeat s r is) in
    omega arith

pub falls_body : (codes : List Code) (t p : ℕ) (body one : List CodeStmt) → one ≡ body → budget codes p + 3 * block_size (block_of body) + 2 ≡ t → budget codes p + 3 * block_size (block_of one) + 1 < t
falls_body codes t p body one a d =
    let f : block_size (block_of one) ≡ block_size (block_of body) = ap (λ (b : List CodeStmt). block_size (block_of b)) a in
    omega arith

pub falls_proc : (codes : List Code) (t p : ℕ) (code : Code) (one : List CodeStmt) → slice_get codes p ≡ Some code → one ≡ code.block → budget codes (p + 1) ≡ t →
    budget codes p + 3 * block_size (block_of one) + 1 < t
falls_proc codes t p code one at a d =
    let f : block_size (block_of one) ≡ block_size (block_of code.block) = ap (λ (b : List CodeStmt). block_size (block_of b)) a in
    let g : budget codes (p + 1) ≡ budget codes (suc p) = ap (budget codes) (omega arith) in
    let h = budget-next codes p code at in
    omega arith

pub row_begun : (program : List Item) (proc : ℕ) (block : List CodeStmt) (before : List ℤ) (old : Source) → InRow program proc block 0 before before old old
row_begun program proc block before old = record { row = row_start program proc (block_of block) before old; inside = omega arith; calls = λ n h. h }

-- what holds of the statement at hand
pub item_part : (program : List Item) (codes : List Code) (t proc : ℕ) (block : List CodeStmt) (i : ℕ) (before now : List ℤ) (old new : Source) (s : CodeStmt) → i < length block → s ≡ get_or block i s →
    InRow program proc block i before now old new → CallsBelow (BlockHelps (block_of block)) proc → budget codes proc + 3 * block_size (block_of block) + 1 ≡ t →
    (budget codes proc + 3 * size (stmt_of s) < t) × CallsBelow (Helps (stmt_of s)) proc
item_part program codes t proc block i before now old new s h is row below d =
    let e = from_item block i s h is in
    let a : block_size (block_of (drop i block)) ≡ size (stmt_of s) + block_size (block_of (drop (i + 1) block)) = ap block_size e in
    let k = row.inside in
    (omega arith, λ n g. below n (row.calls n (subst (λ (b : Block). BlockHelps b n) (sym e) (inl g))))

pub row_more : (program : List Item) (proc : ℕ) (block : List CodeStmt) (i : ℕ) (before now later : List ℤ) (old mid new : Source) (s : CodeStmt) → i < length block → s ≡ get_or block i s →
    InRow program proc block i before now old mid → Walks program proc (stmt_of s) now later mid new Next → InRow program proc block (i + 1) before later old new
row_more program proc block i before now later old mid new s h is row w =
    let e = from_item block i s h is in
    let a : block_size (block_of (drop i block)) ≡ size (stmt_of s) + block_size (block_of (drop (i + 1) block)) = ap block_size e in
    let k = row.inside in
    record {
      row = row_next program proc (block_of block) before now later old mid new (stmt_of s) (block_of (drop (i + 1) block)) (subst (λ (b : Block). Row program proc (block_of block) before now old mid b) e row.row) w;
      inside = omega arith;
      calls = λ n g. row.calls n (subst (λ (b : Block). BlockHelps b n) (sym e) (inr g));
    }

pub row_stopped : (program : List Item) (proc : ℕ) (block : List CodeStmt) (i : ℕ) (before now later : List ℤ) (old mid new : Source) (s : CodeStmt) (walked : Walked) → (walked ≡ Next → ⊥) →
    i < length block → s ≡ get_or block i s → InRow program proc block i before now old mid → Walks program proc (stmt_of s) now later mid new walked → WalksAll program proc (block_of block) before later old new walked
row_stopped program proc block i before now later old mid new s walked stopped h is row w =
    row_stop program proc (block_of block) before now later old mid new (stmt_of s) (block_of (drop (i + 1) block)) walked stopped
    (subst (λ (b : Block). Row program proc (block_of block) before now old mid b) (from_item block i s h is) row.row) w

pub row_over : (program : List Item) (proc : ℕ) (block : List CodeStmt) (i : ℕ) (before now : List ℤ) (old new : Source) → length block ≤ i → InRow program proc block i before now old new →
    WalksAll program proc (block_of block) before now old new Next
row_over program proc block i before now old new h row =
    row_end program proc (block_of block) before now old new (subst (λ (b : Block). Row program proc (block_of block) before now old new b) (ap block_of (drop_all i block h)) row.row)

-- what a statement's form makes of a walk over it
pub as_stmt : (program : List Item) (proc : ℕ) (s : CodeStmt) (c : Stmt) (before now : List ℤ) (old new : Source) (r : Walked) → stmt_of s ≡ c → Walks program proc c before now old new r →
    Walks program proc (stmt_of s) before now old new r
as_stmt program proc s c before now old new r e w = subst (λ (x : Stmt). Walks program proc x before now old new r) (sym e) w

pub as_plain : (s : CodeStmt) (simple : Simple) → s ≡ Plain simple → stmt_of s ≡ plain simple
as_plain s simple is = ap stmt_of is ∙ stmt_of-plain simple

pub as_help : (s : CodeStmt) (to : Slot) (callee : ProcId) (args : List CodeOperand) → s ≡ Help to callee args → stmt_of s ≡ help to callee args
as_help s to callee args is = is_help s to callee args is

pub as_if : (s : CodeStmt) (test : CodeTest) (first second one two : List CodeStmt) → s ≡ If test first second → one ≡ first → two ≡ second → stmt_of s ≡ branch test (block_of one) (block_of two)
as_if s test first second one two is a b = is_if s test first second is ∙ (λ i. branch test (block_of (sym a i)) (block_of (sym b i)))

pub as_repeat : (s : CodeStmt) (r : CodeRepeat) → s ≡ Repeat r → stmt_of s ≡ loop_of r
as_repeat s r is = is_repeat s r is

-- the calls in a procedure's code are of helpers before it
pub code_below : (program : List Item) (p : ℕ) (code : Code) (one : List CodeStmt) → one ≡ code.block → IsCode program p (code_of code) → CallsBelow (BlockHelps (block_of one)) p
code_below program p code one e is n h = (helps_call program p (code_of code) is n (subst (λ (b : List CodeStmt). BlockHelps (block_of b) n) e h)).1

-- a walk over a loop's body, whose index has been put into its slot
pub turn_walks : (program : List Item) (proc : ℕ) (body one : List CodeStmt) (now later : List ℤ) (n : ℕ) (w u : ℤ) (mid new : Source) (r : Walked) → one ≡ body → w ≡ u →
    WalksAll program proc (block_of one) (set now n w) later mid new r → WalksAll program proc (block_of body) (set now n u) later mid new r
turn_walks program proc body one now later n w u mid new r e f walked =
    subst (λ (b : List CodeStmt). WalksAll program proc (block_of b) (set now n u) later mid new r) e (subst (λ (z : ℤ). WalksAll program proc (block_of one) (set now n z) later mid new r) f walked)
