-- A program of a text is one that can be written.
use Rattle.std.proofs.Common.{◌≡◌, ◌⊎◌, inl, inr, ℕ, zero, suc, ◌-◌, ◌<◌, ◌^◌, List, [], ◌∷◌, refl, sym, subst, arith}
use Rattle.std.specs.Prelude.{ℤ, pos, neg_ℤ, int_le, int_lt, All}
use Rattle.std.proofs.lemmas.Bool.{and_from, le-leb, lt-ltb}
use Rattle.std.proofs.lemmas.List.Elements.{All-cons, All-nil}
use Rattle.vmv_tree.specs.Words.{IsWord}
use Rattle.vmv_tree.specs.declared.name.Name.{Name}
use Rattle.vmv_tree.specs.declared.tree.Operand.{Operand}
use Rattle.vmv_tree.specs.declared.tree.Operand.TheVariants.{Lit, Var}
use Rattle.vmv_tree.specs.declared.tree.Op.{Op}
use Rattle.vmv_tree.specs.declared.tree.Op.TheVariants.{Add, Sub, Mul, Div, Rem}
use Rattle.vmv_tree.specs.declared.tree.Rel.{Rel}
use Rattle.vmv_tree.specs.declared.tree.Rel.TheVariants.{Equal, Unequal, Less, AtMost, Greater, AtLeast}
use Rattle.vmv_tree.specs.declared.tree.Test.{Test}
use Rattle.vmv_tree.specs.declared.tree.Param.{Param}
use Rattle.vmv_tree.specs.Tree.{Stmt, copy, compute, call, assert, choose, repeat, Block, [], ◌⨾◌, Body, Item, outside, helper, entry}
use Rattle.vmv_text.proofs.Spoken.{Token, ElseWord}
use Rattle.vmv_text.proofs.Proper.{AreProper, tokens_proper}
use Rattle.vmv_text.specs.Tokens.{tokens}
use Rattle.vmv_text.specs.Grammar.{Takes, rel_token, op_token, IsLit, IsOperand, Commas, AnyCommas, IsName as TakesName, IsTest, IsStmt, AreStmts, Braces, IsVars, IsInBody, IsBody, IsParam, IsItem, IsProgram, IsText}
use Rattle.vmv_print.specs.Written.{IsName, IsCount, IsWrittenOperand, IsWrittenTest, IsWrittenParam, IsWrittenStmt, IsWrittenBlock, IsWrittenBody, IsWrittenItem, IsWritten}

-- the same tokens are proper alike
same_proper : (ts us : List Token) → ts ≡ us → AreProper ts → AreProper us
same_proper ts us e h = subst AreProper e h

op_proper : (op : Op) (ts : List Token) → AreProper (op_token op ∷ ts) → AreProper ts
op_proper Add ts h = h.1
op_proper Sub ts h = h.1
op_proper Mul ts h = h.1
op_proper Div ts h = h.1
op_proper Rem ts h = h.1

rel_proper : (rel : Rel) (ts : List Token) → AreProper (rel_token rel ∷ ts) → AreProper ts
rel_proper Equal ts h = h.1
rel_proper Unequal ts h = h.1
rel_proper Less ts h = h.1
rel_proper AtMost ts h = h.1
rel_proper Greater ts h = h.1
rel_proper AtLeast ts h = h.1

small_word : (n : ℕ) → n < 2 ^ 63 → IsWord (pos n)
small_word n h = and_from (int_le (neg_ℤ (pos (2 ^ 63))) (pos n)) (int_lt (pos n) (pos (2 ^ 63))) refl (lt-ltb n (2 ^ 63) h)

negative_word : (n : ℕ) → n < 2 ^ 63 → IsWord (neg_ℤ (pos n))
negative_word zero h = refl
negative_word (suc n) h =
    let least = le-leb n (2 ^ 63 - 1) (omega arith) in
    and_from (int_le (neg_ℤ (pos (2 ^ 63))) (neg_ℤ (pos (suc n)))) (int_lt (neg_ℤ (pos (suc n))) (pos (2 ^ 63))) least refl

-- what a part is written of, and what is left
abbrev Said : {A : Type 0} → (A → Takes) → (A → Type 0) → A → Type 0
Said part P x = (ts rest : List Token) → AreProper ts → part x ts rest → P x × AreProper rest

lit_said : (z : ℤ) → Said IsLit IsWord z
lit_said z ts rest h (inl (n, is, e)) =
    let p = same_proper ts _ e h in
    (subst IsWord (sym is) (small_word n p.0), p.1)
lit_said z ts rest h (inr (inl (n, is, e))) =
    let p = same_proper ts _ e h in
    (subst IsWord (sym is) (negative_word n p.1.0), p.1.1)
lit_said z ts rest h (inr (inr (is, e))) =
    let p = same_proper ts _ e h in
    (subst IsWord (sym is) refl, p.1.1)

operand_said : (o : Operand) → Said IsOperand IsWrittenOperand o
operand_said (Var x) ts rest h e = same_proper ts _ e h
operand_said (Lit z) ts rest h e = lit_said z ts rest h e

test_said : (test : Test) → Said IsTest IsWrittenTest test
test_said test ts rest h (mid, l, r) =
    let left = operand_said test.left ts _ h l in
    let right = operand_said test.right mid rest (rel_proper test.rel mid left.1) r in
    ((left.0, right.0), right.1)

name_said : (x : Name) → Said TakesName IsName x
name_said x ts rest h e = same_proper ts _ e h

param_said : (p : Param) → Said IsParam IsWrittenParam p
param_said p ts rest h (mid, more, e, lo, hi) =
    let first = same_proper ts _ e h in
    let low = lit_said p.lo mid _ first.1.1 lo in
    let high = lit_said p.hi more rest low.1.1 hi in
    ((first.0, low.0, high.0), high.1)

commas_said : {A : Type 0} (part : A → Takes) (P : A → Type 0) → ((x : A) → Said part P x) → (xs : List A) → (ts rest : List Token) → AreProper ts → Commas part xs ts rest → All P xs × AreProper rest
commas_said part P one [] ts rest h e = absurd e
commas_said part P one (x ∷ []) ts rest h e =
    let a = one x ts rest h e in
    (All-cons P x [] a.0 (All-nil P), a.1)
commas_said part P one (x ∷ y ∷ xs) ts rest h (mid, e, f) =
    let a = one x ts _ h e in
    let b = commas_said part P one (y ∷ xs) mid rest a.1.1 f in
    (All-cons P x (y ∷ xs) a.0 b.0, b.1)

any_said : {A : Type 0} (part : A → Takes) (P : A → Type 0) → ((x : A) → Said part P x) → (xs : List A) → (ts rest : List Token) → AreProper ts → AnyCommas part xs ts rest → All P xs × AreProper rest
any_said part P one [] ts rest h e = (All-nil P, same_proper ts rest e h)
any_said part P one (x ∷ xs) ts rest h e = commas_said part P one (x ∷ xs) ts rest h e

else_said : (b : Block) → Said AreStmts IsWrittenBlock b
    → (ts rest : List Token) → AreProper ts → ((b ≡ []) × (ts ≡ rest)) ⊎ ((last : List Token) × (ts ≡ ElseWord ∷ last) × Braces (AreStmts b) last rest) → IsWrittenBlock b × AreProper rest
unfolding IsWrittenStmt
else_said b f ts rest h (inl (none, e)) = (subst IsWrittenBlock (sym none) tt, same_proper ts rest e h)
else_said b f ts rest h (inr (last, e, (mid, brace, body))) =
    let first = same_proper ts _ e h in
    let inner = f mid _ (same_proper last _ brace first.1).1 body in
    (inner.0, inner.1.1)

mutual
  unfolding IsStmt IsWrittenStmt

  stmt_said : (s : Stmt) → Said IsStmt IsWrittenStmt s
  stmt_said (copy to from) ts rest h (mid, e, f) =
      let first = same_proper ts _ e h in
      let a = operand_said from mid _ first.1.1 f in
      ((first.0, a.0), a.1.1)
  stmt_said (compute to op left right) ts rest h (mid, more, e, l, r) =
      let first = same_proper ts _ e h in
      let a = operand_said left mid _ first.1.1 l in
      let b = operand_said right more _ (op_proper op more a.1) r in
      ((first.0, a.0, b.0), b.1.1)
  stmt_said (call to callee args) ts rest h (mid, e, f) =
      let first = same_proper ts _ e h in
      let a = any_said IsOperand IsWrittenOperand operand_said args mid _ first.1.1.1.1 f in
      ((first.0, first.1.1.0, a.0), a.1.1.1)
  stmt_said (assert test) ts rest h (mid, e, f) =
      let first = same_proper ts _ e h in
      let a = test_said test mid _ first.1 f in
      (a.0, a.1.1)
  stmt_said (choose test first second) ts rest h (mid, more, back, e, t, (inside, brace, body), behind) =
      let word = same_proper ts _ e h in
      let a = test_said test mid more word.1 t in
      let b = block_said first inside _ (same_proper more _ brace a.1).1 body in
      let c = else_said second (block_said second) back rest b.1.1 behind in
      ((a.0, b.0, c.0), c.1)
  stmt_said (repeat index bound most body) ts rest h (mid, more, n, e, o, is, (inside, brace, inner)) =
      let word = same_proper ts _ e h in
      let a = operand_said bound mid _ word.1.1.1 o in
      let b = block_said body inside _ (same_proper more _ brace a.1.1.1).1 inner in
      ((word.1.0, a.0, subst IsCount (sym is) a.1.1.0, b.0), b.1.1)

  block_said : (block : Block) → Said AreStmts IsWrittenBlock block
  block_said [] ts rest h e = (tt, same_proper ts rest e h)
  block_said (s ⨾ block) ts rest h (mid, e, f) =
      let a = stmt_said s ts mid h e in
      let b = block_said block mid rest a.1 f in
      ((a.0, b.0), b.1)

vars_said : (names : List Name) → (ts rest : List Token) → AreProper ts → IsVars names ts rest → All IsName names × AreProper rest
vars_said [] ts rest h e = (All-nil IsName, same_proper ts rest e h)
vars_said (x ∷ xs) ts rest h (mid, e, f) =
    let first = same_proper ts _ e h in
    let a = commas_said TakesName IsName name_said (x ∷ xs) mid _ first.1 f in
    (a.0, a.1.1)

body_said : (body : Body) → Said IsBody IsWrittenBody body
unfolding IsInBody
body_said body ts rest h (inside, brace, (mid, last, v, b, o)) =
    let first = same_proper ts _ brace h in
    let vars = vars_said body.vars inside mid first.1 v in
    let block = block_said body.block mid _ vars.1 b in
    let output = operand_said body.output last _ block.1.1 o in
    ((vars.0, block.0, output.0), output.1.1.1)

item_said : (item : Item) → Said IsItem IsWrittenItem item
unfolding IsItem
item_said (outside f arity) ts rest h (n, is, e) =
    let all = same_proper ts _ e h in
    ((all.1.0, subst IsCount (sym is) all.1.1.1.0), all.1.1.1.1.1.1)
item_said (helper f params body) ts rest h (mid, more, e, p, b) =
    let first = same_proper ts _ e h in
    let names = any_said TakesName IsName name_said params mid _ first.1.1.1 p in
    let inner = body_said body more rest names.1.1 b in
    ((first.1.0, names.0, inner.0), inner.1)
item_said (entry f params body) ts rest h (mid, more, e, p, b) =
    let first = same_proper ts _ e h in
    let all = any_said IsParam IsWrittenParam param_said params mid _ first.1.1.1 p in
    let inner = body_said body more rest all.1.1 b in
    ((first.1.0, all.0, inner.0), inner.1)

items_said : (items : List Item) (ts : List Token) → AreProper ts → IsProgram items ts → IsWritten items
unfolding IsProgram
items_said [] ts h e = All-nil IsWrittenItem
items_said (item ∷ items) ts h (mid, e, f) =
    let a = item_said item ts mid h e in
    All-cons IsWrittenItem item items a.0 (items_said items mid a.1 f)

pub text_written : (bytes : List ℕ) (program : List Item) → IsText bytes program → IsWritten program
text_written bytes program h = items_said program (tokens bytes) (tokens_proper bytes) h.grammar
