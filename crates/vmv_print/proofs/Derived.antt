-- The tokens of a canonical text are derived by the grammar.
use Rattle.std.proofs.Common.{◌≡◌, inl, inr, ℕ, suc, ◌<◌, ◌^◌, Bool, true, false, List, [], ◌∷◌, refl, sym, ap, ◌∙◌, subst, arith}
use Rattle.std.specs.Prelude.{ℤ, pos, negsuc, neg_ℤ, nat_lt, All}
use Rattle.std.proofs.lemmas.Bool.{ltb-true, ltb-false}
use Rattle.std.proofs.lemmas.List.{append-nil}
use Rattle.std.proofs.lemmas.List.Elements.{All-head, All-tail}
use Rattle.vmv_tree.specs.Words.{IsWord}
use Rattle.vmv_tree.specs.declared.name.Name.{Name}
use Rattle.vmv_tree.specs.declared.tree.Operand.{Operand}
use Rattle.vmv_tree.specs.declared.tree.Operand.TheVariants.{Lit, Var}
use Rattle.vmv_tree.specs.declared.tree.Test.{Test}
use Rattle.vmv_tree.specs.declared.tree.Param.{Param}
use Rattle.vmv_tree.specs.Tree.{Stmt, copy, compute, call, assert, choose, repeat, Block, [], ◌⨾◌, Body, Item, outside, helper, entry}
use Rattle.vmv_text.proofs.Spoken.{Token, Number, Edge, Comma, CloseParen, Semicolon, CloseBrace, ElseWord, OpenBrace, CapWord, ReturnWord, Minus, Dots}
use Rattle.vmv_text.specs.Tokens.{placed_tokens, tokens, number_token}
use Rattle.vmv_text.specs.Grammar.{Takes, rel_token, op_token, IsLit, IsOperand, Commas, AnyCommas, IsName as TakesName, IsTest, IsStmt, AreStmts, IsVars, IsInBody, IsBody, IsParam, IsItem, IsProgram, IsText}
use Rattle.vmv_print.specs.Canonical.{canonical}
use Rattle.vmv_print.specs.Written.{IsName, IsWrittenOperand, IsWrittenTest, IsWrittenParam, IsWrittenStmt, IsWrittenBlock, IsWrittenBody, IsWrittenItem, IsWritten}
use Rattle.vmv_print.proofs.Lexing.{Before, lit_before, small_number, word_above}
use Rattle.vmv_print.proofs.TreeTokens.{operand_before, test_before, after_before, listed_before, name_before, param_before, stmt_before, block_before, vars_before, body_before, item_before, program_before, program_closed}

edge_number : number_token (2 ^ 63) ≡ Edge
edge_number = refl

-- a negative literal is written by its size
negative_by : (n : ℕ) (t : Bool) → nat_lt (suc n) (2 ^ 63) ≡ t → n < 2 ^ 63 → (ts : List Token) → IsLit (negsuc n) (Minus ∷ number_token (suc n) ∷ ts) ts
negative_by n true e h ts =
    let small = small_number (suc n) (ltb-true (suc n) (2 ^ 63) e) in
    inr (inl (suc n, refl, ap (λ t. Minus ∷ t ∷ ts) small))
negative_by n false e h ts =
    let size : suc n ≡ 2 ^ 63 = omega (arith, ltb-false (suc n) (2 ^ 63) e) in
    inr (inr (ap (λ k. neg_ℤ (pos k)) size, ap (λ k. Minus ∷ number_token k ∷ ts) size))

lit_derived : (z : ℤ) → IsWord z → (ts : List Token) → IsLit z (lit_before z ts) ts
lit_derived (pos n) h ts = inl (n, refl, refl)
lit_derived (negsuc n) h ts = negative_by n (nat_lt (suc n) (2 ^ 63)) refl (word_above n h) ts

operand_derived : (o : Operand) → IsWrittenOperand o → (ts : List Token) → IsOperand o (operand_before o ts) ts
operand_derived (Lit z) h ts = lit_derived z h ts
operand_derived (Var x) h ts = refl

test_derived : (test : Test) → IsWrittenTest test → (ts : List Token) → IsTest test (test_before test ts) ts
test_derived test h ts =
    let right = operand_before test.right ts in
    (right, operand_derived test.left h.0 (rel_token test.rel ∷ right), operand_derived test.right h.1 ts)

commas_derived : {A : Type 0} (before : A → Before) (part : A → Takes) (P : A → Type 0) → ((x : A) → P x → (ts : List Token) → part x (before x ts) ts) → (x : A) (xs : List A) → All P (x ∷ xs) → (ts : List Token) → Commas part (x ∷ xs) (before x (after_before before xs ts)) ts
commas_derived before part P one x [] h ts = one x (All-head P x [] h) ts
commas_derived before part P one x (y ∷ ys) h ts =
    let mid = before y (after_before before ys ts) in
    (mid, one x (All-head P x (y ∷ ys) h) (Comma ∷ mid), commas_derived before part P one y ys (All-tail P x (y ∷ ys) h) ts)

listed_derived : {A : Type 0} (before : A → Before) (part : A → Takes) (P : A → Type 0) → ((x : A) → P x → (ts : List Token) → part x (before x ts) ts) → (xs : List A) → All P xs → (ts : List Token) → AnyCommas part xs (listed_before before xs ts) ts
listed_derived before part P one [] h ts = refl
listed_derived before part P one (x ∷ xs) h ts = commas_derived before part P one x xs h ts

name_derived : (x : Name) → IsName x → (ts : List Token) → TakesName x (name_before x ts) ts
name_derived x h ts = refl

param_derived : (p : Param) → IsWrittenParam p → (ts : List Token) → IsParam p (param_before p ts) ts
param_derived p h ts =
    let last = lit_before p.hi ts in
    (lit_before p.lo (Dots ∷ last), last, refl, lit_derived p.lo h.1 (Dots ∷ last), lit_derived p.hi h.2 ts)

mutual
  unfolding IsStmt IsWrittenStmt

  stmt_derived : (s : Stmt) → IsWrittenStmt s → (ts : List Token) → IsStmt s (stmt_before s ts) ts
  stmt_derived (copy to from) h ts =
      (operand_before from (Semicolon ∷ ts), refl, operand_derived from h.1 (Semicolon ∷ ts))
  stmt_derived (compute to op left right) h ts =
      let more = operand_before right (Semicolon ∷ ts) in
      (operand_before left (op_token op ∷ more), more, refl, operand_derived left h.1 (op_token op ∷ more), operand_derived right h.2 (Semicolon ∷ ts))
  stmt_derived (call to callee args) h ts =
      let back = CloseParen ∷ Semicolon ∷ ts in
      (listed_before operand_before args back, refl, listed_derived operand_before IsOperand IsWrittenOperand operand_derived args h.2 back)
  stmt_derived (assert test) h ts =
      (test_before test (Semicolon ∷ ts), refl, test_derived test h (Semicolon ∷ ts))
  stmt_derived (choose test first []) h ts =
      let more = OpenBrace ∷ block_before first (CloseBrace ∷ ts) in (
        test_before test more,
        more,
        ts,
        refl,
        test_derived test h.0 more,
        (block_before first (CloseBrace ∷ ts), refl, block_derived first h.1 (CloseBrace ∷ ts)),
        inl (refl, refl),
      )
  stmt_derived (choose test first (s ⨾ block)) h ts =
      let inner = stmt_before s (block_before block (CloseBrace ∷ ts)) in
      let back = ElseWord ∷ OpenBrace ∷ inner in
      let more = OpenBrace ∷ block_before first (CloseBrace ∷ back) in (
        test_before test more,
        more,
        back,
        refl,
        test_derived test h.0 more,
        (block_before first (CloseBrace ∷ back), refl, block_derived first h.1 (CloseBrace ∷ back)),
        inr (OpenBrace ∷ inner, refl, (inner, refl, block_derived (s ⨾ block) h.2 (CloseBrace ∷ ts))),
      )
  stmt_derived (repeat index bound (pos n) body) h ts =
      let inner = block_before body (CloseBrace ∷ ts) in
      let more = OpenBrace ∷ inner in (
        operand_before bound (CapWord ∷ Number n ∷ more),
        more,
        n,
        refl,
        operand_derived bound h.1 (CapWord ∷ Number n ∷ more),
        refl,
        (inner, refl, block_derived body h.3 (CloseBrace ∷ ts)),
      )
  stmt_derived (repeat index bound (negsuc n) body) h ts = absurd h.2

  block_derived : (block : Block) → IsWrittenBlock block → (ts : List Token) → AreStmts block (block_before block ts) ts
  block_derived [] h ts = refl
  block_derived (s ⨾ block) h ts =
      (block_before block ts, stmt_derived s h.0 (block_before block ts), block_derived block h.1 ts)

vars_derived : (names : List Name) → All IsName names → (ts : List Token) → IsVars names (vars_before names ts) ts
vars_derived [] h ts = refl
vars_derived (x ∷ xs) h ts =
    (listed_before name_before (x ∷ xs) (Semicolon ∷ ts), refl, commas_derived name_before TakesName IsName name_derived x xs h (Semicolon ∷ ts))

in_body_derived : (body : Body) → IsWrittenBody body → (ts : List Token) → IsInBody body (body_before body ts) (CloseBrace ∷ ts)
unfolding IsInBody
in_body_derived body h ts =
    let back = Semicolon ∷ CloseBrace ∷ ts in
    let last = operand_before body.output back in
    let mid = block_before body.block (ReturnWord ∷ last) in
    (mid, last, vars_derived body.vars h.0 mid, block_derived body.block h.1 (ReturnWord ∷ last), operand_derived body.output h.2 back)

body_derived : (body : Body) → IsWrittenBody body → (ts : List Token) → IsBody body (OpenBrace ∷ body_before body ts) ts
body_derived body h ts = (body_before body ts, refl, in_body_derived body h ts)

item_derived : (item : Item) → IsWrittenItem item → (ts : List Token) → IsItem item (item_before item ts) ts
unfolding IsItem
item_derived (outside f (pos n)) h ts = (n, refl, refl)
item_derived (outside f (negsuc n)) h ts = absurd h.1
item_derived (helper f params body) h ts =
    let more = OpenBrace ∷ body_before body ts in (
      listed_before name_before params (CloseParen ∷ more),
      more,
      refl,
      listed_derived name_before TakesName IsName name_derived params h.1 (CloseParen ∷ more),
      body_derived body h.2 ts,
    )
item_derived (entry f params body) h ts =
    let more = OpenBrace ∷ body_before body ts in (
      listed_before param_before params (CloseParen ∷ more),
      more,
      refl,
      listed_derived param_before IsParam IsWrittenParam param_derived params h.1 (CloseParen ∷ more),
      body_derived body h.2 ts,
    )

program_derived : (items : List Item) → IsWritten items → IsProgram items (program_before items [])
unfolding IsProgram
program_derived [] h = refl
program_derived (item ∷ items) h = (
  program_before items [],
  item_derived item (All-head IsWrittenItem item items h) (program_before items []),
  program_derived items (All-tail IsWrittenItem item items h),
)

no_tokens : tokens [] ≡ []
unfolding tokens placed_tokens
no_tokens = refl

-- the canonical text of a program is one of its texts
pub canonical_read : (program : List Item) → IsWritten program → IsText (canonical program) program
canonical_read program h =
    let closed = program_closed program h in
    let same : tokens (canonical program) ≡ program_before program [] =
    ap tokens (sym (append-nil (canonical program))) ∙ (closed.lexed [] ∙ ap (program_before program) no_tokens) in
    record { utf8 = closed.utf8; grammar = subst (λ ts. IsProgram program ts) (sym same) (program_derived program h) }
