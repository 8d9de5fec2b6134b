-- Tokens are those of one tree at most: up to blocks.
use Rattle.std.proofs.Common.{◌≡◌, ◌⊎◌, inl, inr, ℤ, List, [], ◌∷◌, refl, sym, ◌∙◌, ap, subst}
use Rattle.vmv_tree.specs.declared.name.Name.{Name}
use Rattle.vmv_tree.specs.declared.tree.Operand.{Operand}
use Rattle.vmv_tree.specs.declared.tree.Operand.TheVariants.{Lit, Var}
use Rattle.vmv_tree.specs.declared.tree.Op.{Op}
use Rattle.vmv_tree.specs.declared.tree.Op.TheVariants.{Add, Sub, Mul, Div, Rem}
use Rattle.vmv_tree.specs.declared.tree.Rel.{Rel}
use Rattle.vmv_tree.specs.declared.tree.Rel.TheVariants.{Equal, Unequal, Less, AtMost, Greater, AtLeast}
use Rattle.vmv_tree.specs.declared.tree.Test.{Test}
use Rattle.vmv_tree.specs.Tree.{Stmt, copy, compute, call, assert, choose, repeat, Block, [], ◌⨾◌}
use Rattle.vmv_text.specs.declared.token.Token.{Token}
use Rattle.vmv_text.specs.declared.token.Token.TheVariants.{Named, Number, IfWord, ElseWord, RepeatWord, CapWord, AssertWord, OpenParen, CloseBrace, ReturnWord, CloseParen, Semicolon, Comma, Dots}
use Rattle.vmv_text.specs.Grammar.{Takes, IsLit, IsName, IsOperand, IsTest, IsParam, Commas, AnyCommas, IsStmt, AreStmts, Braces, op_token, rel_token}
use Rattle.vmv_text.specs.Reading.{Lacks}

pub lit_once : (z w : ℤ) (ts r q : List Token) → IsLit z ts r → IsLit w ts q → (z ≡ w) × (r ≡ q)
lit_once z w ts r q (inl (n, a, b)) (inl (m, c, d)) = (cc (a, b, c, d), cc (b, d))
lit_once z w ts r q (inl (n, a, b)) (inr (inl (m, c, d))) = absurd (cc (b, d))
lit_once z w ts r q (inl (n, a, b)) (inr (inr (c, d))) = absurd (cc (b, d))
lit_once z w ts r q (inr (inl (n, a, b))) (inl (m, c, d)) = absurd (cc (b, d))
lit_once z w ts r q (inr (inl (n, a, b))) (inr (inl (m, c, d))) = (cc (a, b, c, d), cc (b, d))
lit_once z w ts r q (inr (inl (n, a, b))) (inr (inr (c, d))) = absurd (cc (b, d))
lit_once z w ts r q (inr (inr (a, b))) (inl (m, c, d)) = absurd (cc (b, d))
lit_once z w ts r q (inr (inr (a, b))) (inr (inl (m, c, d))) = absurd (cc (b, d))
lit_once z w ts r q (inr (inr (a, b))) (inr (inr (c, d))) = (cc (a, c), cc (b, d))

pub no_name : (z : ℤ) (x : Name) (ts r q : List Token) → IsLit z ts r → ts ≡ Named x ∷ q → ⊥
no_name z x ts r q (inl (n, a, b)) d = cc (b, d)
no_name z x ts r q (inr (inl (n, a, b))) d = cc (b, d)
no_name z x ts r q (inr (inr (a, b))) d = cc (b, d)

pub operand_once : (o p : Operand) (ts r q : List Token) → IsOperand o ts r → IsOperand p ts q → (o ≡ p) × (r ≡ q)
operand_once (Lit z) (Lit w) ts r q h k = let e = lit_once z w ts r q h k in (ap Lit e.0, e.1)
operand_once (Lit z) (Var y) ts r q h k = absurd (no_name z y ts r q h k)
operand_once (Var x) (Lit w) ts r q h k = absurd (no_name w x ts q r k h)
operand_once (Var x) (Var y) ts r q h k = (cc (h, k), cc (h, k))

pub op_once : (a b : Op) (x y : List Token) → ◌≡◌ {A = List Token} (op_token a ∷ x) (op_token b ∷ y) → a ≡ b
op_once Add Add x y h = refl
op_once Sub Sub x y h = refl
op_once Mul Mul x y h = refl
op_once Div Div x y h = refl
op_once Rem Rem x y h = refl
op_once a b x y h = absurd (cc h)

pub rel_once : (a b : Rel) (x y : List Token) → ◌≡◌ {A = List Token} (rel_token a ∷ x) (rel_token b ∷ y) → a ≡ b
rel_once Equal Equal x y h = refl
rel_once Unequal Unequal x y h = refl
rel_once Less Less x y h = refl
rel_once AtMost AtMost x y h = refl
rel_once Greater Greater x y h = refl
rel_once AtLeast AtLeast x y h = refl
rel_once a b x y h = absurd (cc h)

-- an operator is no end of a statement
pub op_semi : (a : Op) (x y : List Token) → ◌≡◌ {A = List Token} (op_token a ∷ x) (Semicolon ∷ y) → ⊥
op_semi Add x y h = cc h
op_semi Sub x y h = cc h
op_semi Mul x y h = cc h
op_semi Div x y h = cc h
op_semi Rem x y h = cc h

pub test_once : (a b : Test) (ts r q : List Token) → IsTest a ts r → IsTest b ts q → (a ≡ b) × (r ≡ q)
test_once a b ts r q h k =
    let l = operand_once a.left b.left ts _ _ h.1 k.1 in
    let rel = rel_once a.rel b.rel _ _ l.1 in
    let mid : h.0 ≡ k.0 = cc l.1 in
    let e = operand_once a.right b.right k.0 r q (subst (λ m. IsOperand a.right m r) mid h.2) k.2 in
    (λ i. record { left = l.0 i; rel = rel i; right = e.0 i }, e.1)

abbrev pub TakesOnce : {A : Type 0} → (A → Takes) → Type 0
TakesOnce {A} one = (x y : A) (ts r q : List Token) → one x ts r → one y ts q → (x ≡ y) × (r ≡ q)

-- what one takes is taken once, so a list of it is, up to a token that is no comma
pub commas_once : {A : Type 0} (one : A → Takes) → TakesOnce one
    → (xs ys : List A) (ts r q : List Token) → Lacks Comma r → Lacks Comma q → Commas one xs ts r → Commas one ys ts q → (xs ≡ ys) × (r ≡ q)
commas_once one f [] ys ts r q n m h k = absurd h
commas_once one f (x ∷ []) [] ts r q n m h k = absurd k
commas_once one f (x ∷ []) (y ∷ []) ts r q n m h k =
    let e = f x y ts r q h k in
    (ap (λ z. z ∷ []) e.0, e.1)
commas_once one f (x ∷ []) (y ∷ z ∷ ys) ts r q n m h k = absurd (n k.0 (f x y ts _ _ h k.1).1)
commas_once one f (x ∷ w ∷ xs) [] ts r q n m h k = absurd k
commas_once one f (x ∷ w ∷ xs) (y ∷ []) ts r q n m h k = absurd (m h.0 (sym (f x y ts _ _ h.1 k).1))
commas_once one f (x ∷ w ∷ xs) (y ∷ z ∷ ys) ts r q n m h k =
    let e = f x y ts _ _ h.1 k.1 in
    let mid : h.0 ≡ k.0 = cc e.1 in
    let rest = commas_once one f (w ∷ xs) (z ∷ ys) k.0 r q n m (subst (λ t. Commas one (w ∷ xs) t r) mid h.2) k.2 in
    (λ i. e.0 i ∷ rest.0 i, rest.1)

pub close-no_comma : (r : List Token) → Lacks Comma (CloseParen ∷ r)
close-no_comma r x h = cc h

pub semicolon-no_comma : (r : List Token) → Lacks Comma (Semicolon ∷ r)
semicolon-no_comma r x h = cc h

-- what never begins with a closing parenthesis
abbrev pub NeverCloses : {A : Type 0} → (A → Takes) → Type 0
NeverCloses {A} one = (x : A) (ts r q : List Token) → one x ts r → ts ≡ CloseParen ∷ q → ⊥

pub commas_close : {A : Type 0} (one : A → Takes) → NeverCloses one → (xs : List A) (ts r q : List Token) → Commas one xs ts r → ts ≡ CloseParen ∷ q → ⊥
commas_close one f [] ts r q h k = h
commas_close one f (x ∷ []) ts r q h k = f x ts r q h k
commas_close one f (x ∷ y ∷ xs) ts r q h k = f x ts _ q h.1 k

-- a list in parentheses, empty or not
pub any_commas_once : {A : Type 0} (one : A → Takes) → TakesOnce one → NeverCloses one
    → (xs ys : List A) (ts r q : List Token) → AnyCommas one xs ts (CloseParen ∷ r) → AnyCommas one ys ts (CloseParen ∷ q) → (xs ≡ ys) × (r ≡ q)
any_commas_once one f g [] [] ts r q h k = (refl, cc (h, k))
any_commas_once one f g [] (y ∷ ys) ts r q h k = absurd (commas_close one g (y ∷ ys) ts _ r k h)
any_commas_once one f g (x ∷ xs) [] ts r q h k = absurd (commas_close one g (x ∷ xs) ts _ q h k)
any_commas_once one f g (x ∷ xs) (y ∷ ys) ts r q h k =
    let e = commas_once one f (x ∷ xs) (y ∷ ys) ts _ _ (close-no_comma r) (close-no_comma q) h k in
    (e.0, cc e.1)

pub operand_close : NeverCloses IsOperand
operand_close (Var x) ts r q h k = cc (h, k)
operand_close (Lit z) ts r q (inl (n, a, b)) k = cc (k, b)
operand_close (Lit z) ts r q (inr (inl (n, a, b))) k = cc (k, b)
operand_close (Lit z) ts r q (inr (inr (a, b))) k = cc (k, b)

pub name_once : TakesOnce IsName
name_once x y ts r q h k = (cc (h, k), cc (h, k))

pub name_close : NeverCloses IsName
name_close x ts r q h k = cc (h, k)

pub param_once : TakesOnce IsParam
param_once x y ts r q h k =
    let name : x.name ≡ y.name = cc (h.2, k.2) in
    let mid : h.0 ≡ k.0 = cc (h.2, k.2) in
    let lo = lit_once x.lo y.lo k.0 _ _ (subst (λ m. IsLit x.lo m (Dots ∷ h.1)) mid h.3) k.3 in
    let more : h.1 ≡ k.1 = cc lo.1 in
    let hi = lit_once x.hi y.hi k.1 r q (subst (λ m. IsLit x.hi m r) more h.4) k.4 in
    (λ i. record { name = name i; lo = lo.0 i; hi = hi.0 i }, hi.1)

pub param_close : NeverCloses IsParam
param_close x ts r q h k = cc (h.2, k)

-- the first token says of which kind a statement is
pub data Kind : Type 0 where
  assigns : Kind
  asserts : Kind
  chooses : Kind
  repeats : Kind
  none : Kind

abbrev pub kind_of : Stmt → Kind
kind_of (copy to from) = assigns
kind_of (compute to op left right) = assigns
kind_of (call to callee args) = assigns
kind_of (assert test) = asserts
kind_of (choose test first second) = chooses
kind_of (repeat index bound most body) = repeats

abbrev pub kind_at : List Token → Kind
kind_at (Named x ∷ ts) = assigns
kind_at (AssertWord ∷ ts) = asserts
kind_at (IfWord ∷ ts) = chooses
kind_at (RepeatWord ∷ ts) = repeats
kind_at ts = none

pub kind-first : (s : Stmt) (ts r : List Token) → IsStmt s ts r → kind_at ts ≡ kind_of s
unfolding IsStmt
kind-first (copy to from) ts r h = ap kind_at h.1
kind-first (compute to op left right) ts r h = ap kind_at h.2
kind-first (call to callee args) ts r h = ap kind_at h.1
kind-first (assert test) ts r h = ap kind_at h.1
kind-first (choose test first second) ts r h = ap kind_at h.3
kind-first (repeat index bound most body) ts r h = ap kind_at h.3

-- tokens that no statement begins with, and that are no else
abbrev pub Ends_at : Token → Type 0
Ends_at t = (t ≡ CloseBrace) ⊎ (t ≡ ReturnWord)

abbrev pub NoElse : List Token → Type 0
NoElse ts = (x : List Token) → ts ≡ ElseWord ∷ x → ⊥

pub kind-some : (s : Stmt) → kind_of s ≡ none → ⊥
kind-some (copy to from) p = cc p
kind-some (compute to op left right) p = cc p
kind-some (call to callee args) p = cc p
kind-some (assert test) p = cc p
kind-some (choose test first second) p = cc p
kind-some (repeat index bound most body) p = cc p

no_kind : (t : Token) (q : List Token) → Ends_at t → kind_at (t ∷ q) ≡ none
no_kind t q (inl e) = ap (λ u. kind_at (u ∷ q)) e
no_kind t q (inr e) = ap (λ u. kind_at (u ∷ q)) e

pub no_stmt : (s : Stmt) (t : Token) (ts r q : List Token) → Ends_at t → IsStmt s ts r → ts ≡ t ∷ q → ⊥
no_stmt s t ts r q e h k = kind-some s (sym (kind-first s ts r h) ∙ (ap kind_at k ∙ no_kind t q e))

pub stmt_no_else : (s : Stmt) (ts r : List Token) → IsStmt s ts r → NoElse ts
stmt_no_else s ts r h x k = kind-some s (sym (kind-first s ts r h) ∙ ap kind_at k)

pub block_no_else : (b : Block) (t : Token) (ts r : List Token) → Ends_at t → AreStmts b ts (t ∷ r) → NoElse ts
unfolding AreStmts
block_no_else [] t ts r (inl e) h x k = cc (e, h, k)
block_no_else [] t ts r (inr e) h x k = cc (e, h, k)
block_no_else (s ⨾ b) t ts r e h x k = stmt_no_else s ts h.0 h.1 x k

-- an operand at a name that is called ends before the parenthesis
pub called : (o : Operand) (f : Name) (ts p q : List Token) → ts ≡ Named f ∷ OpenParen ∷ p → IsOperand o ts q → q ≡ OpenParen ∷ p
called (Var x) f ts p q h k = cc (h, k)
called (Lit z) f ts p q h k = absurd (no_name z f ts q _ k h)

pub op_paren : (a : Op) (x y : List Token) → ◌≡◌ {A = List Token} (op_token a ∷ x) (OpenParen ∷ y) → ⊥
op_paren Add x y h = cc h
op_paren Sub x y h = cc h
op_paren Mul x y h = cc h
op_paren Div x y h = cc h
op_paren Rem x y h = cc h

-- behind a choice stands no `else`
abbrev pub NoElseAfter : Stmt → List Token → Type 0
NoElseAfter (copy to from) r = Unit {0}
NoElseAfter (compute to op left right) r = Unit {0}
NoElseAfter (call to callee args) r = Unit {0}
NoElseAfter (assert test) r = Unit {0}
NoElseAfter (choose test first second) r = NoElse r
NoElseAfter (repeat index bound most body) r = Unit {0}

pub no_else_after : (s : Stmt) (r : List Token) → NoElse r → NoElseAfter s r
no_else_after (copy to from) r f = tt
no_else_after (compute to op left right) r f = tt
no_else_after (call to callee args) r f = tt
no_else_after (assert test) r f = tt
no_else_after (choose test first second) r f = f
no_else_after (repeat index bound most body) r f = tt

-- the same tokens in braces
unfoldable pub BlockOnce : Block → Block → Type 0
BlockOnce b c = (t u : Token) (ts r q : List Token) → Ends_at t → Ends_at u → AreStmts b ts (t ∷ r) → AreStmts c ts (u ∷ q) → (b ≡ c) × (◌≡◌ {A = List Token} (t ∷ r) (u ∷ q))

pub braces_once : (b c : Block) → BlockOnce b c → (ts r q : List Token) → Braces (AreStmts b) ts r → Braces (AreStmts c) ts q → (b ≡ c) × (r ≡ q)
unfolding BlockOnce
braces_once b c once ts r q h k =
    let mid : h.0 ≡ k.0 = cc (h.1, k.1) in
    let e = once CloseBrace CloseBrace k.0 r q (inl refl) (inl refl) (subst (λ m. AreStmts b m (CloseBrace ∷ r)) mid h.2) k.2 in
    (e.0, cc e.1)

abbrev pub ElsePart : Block → List Token → List Token → Type 0
ElsePart b back rest = ((b ≡ []) × (back ≡ rest)) ⊎ ((last : List Token) × (back ≡ ElseWord ∷ last) × Braces (AreStmts b) last rest)

else_once : (b c : Block) → BlockOnce b c → (back r q : List Token) → NoElse r → NoElse q → ElsePart b back r → ElsePart c back q → (b ≡ c) × (r ≡ q)
else_once b c once back r q f g (inl h) (inl k) = (h.0 ∙ sym k.0, sym h.1 ∙ k.1)
else_once b c once back r q f g (inl h) (inr k) = absurd (f k.0 (sym h.1 ∙ k.1))
else_once b c once back r q f g (inr h) (inl k) = absurd (g h.0 (sym k.1 ∙ h.1))
else_once b c once back r q f g (inr h) (inr k) =
    let last : h.0 ≡ k.0 = cc (h.1, k.1) in
    braces_once b c once k.0 r q (subst (λ m. Braces (AreStmts b) m r) last h.2) k.2

mutual
  unfolding BlockOnce IsStmt AreStmts

  pub stmt_once : (s s' : Stmt) (ts r q : List Token) → IsStmt s ts r → IsStmt s' ts q → NoElseAfter s r → NoElseAfter s' q → (s ≡ s') × (r ≡ q)
  stmt_once (copy to from) (copy to' from') ts r q h k f g =
      let mid : h.0 ≡ k.0 = cc (h.1, k.1) in
      let x : to ≡ to' = cc (h.1, k.1) in
      let e = operand_once from from' k.0 _ _ (subst (λ m. IsOperand from m (Semicolon ∷ r)) mid h.2) k.2 in
      (λ i. copy (x i) (e.0 i), cc e.1)
  stmt_once (compute to op left right) (compute to' op' left' right') ts r q h k f g =
      let mid : h.0 ≡ k.0 = cc (h.2, k.2) in
      let x : to ≡ to' = cc (h.2, k.2) in
      let l = operand_once left left' k.0 _ _ (subst (λ m. IsOperand left m (op_token op ∷ h.1)) mid h.3) k.3 in
      let o = op_once op op' _ _ l.1 in
      let more : h.1 ≡ k.1 = cc l.1 in
      let e = operand_once right right' k.1 _ _ (subst (λ m. IsOperand right m (Semicolon ∷ r)) more h.4) k.4 in
      (λ i. compute (x i) (o i) (l.0 i) (e.0 i), cc e.1)
  stmt_once (call to callee args) (call to' callee' args') ts r q h k f g =
      let mid : h.0 ≡ k.0 = cc (h.1, k.1) in
      let x : to ≡ to' = cc (h.1, k.1) in
      let y : callee ≡ callee' = cc (h.1, k.1) in
      let e = any_commas_once IsOperand operand_once operand_close args args' k.0 _ _ (subst (λ m. AnyCommas IsOperand args m (CloseParen ∷ Semicolon ∷ r)) mid h.2) k.2 in
      (λ i. call (x i) (y i) (e.0 i), cc e.1)
  stmt_once (assert test) (assert test') ts r q h k f g =
      let mid : h.0 ≡ k.0 = cc (h.1, k.1) in
      let e = test_once test test' k.0 _ _ (subst (λ m. IsTest test m (Semicolon ∷ r)) mid h.2) k.2 in
      (ap assert e.0, cc e.1)
  stmt_once (choose test first second) (choose test' first' second') ts r q h k f g =
      let mid : h.0 ≡ k.0 = cc (h.3, k.3) in
      let t = test_once test test' k.0 h.1 k.1 (subst (λ m. IsTest test m h.1) mid h.4) k.4 in
      let a = braces_once first first' (block_once first first') k.1 h.2 k.2 (subst (λ m. Braces (AreStmts first) m h.2) t.1 h.5) k.5 in
      let b = else_once second second' (block_once second second') k.2 r q f g (subst (λ m. ElsePart second m r) a.1 h.6) k.6 in
      (λ i. choose (t.0 i) (a.0 i) (b.0 i), b.1)
  stmt_once (repeat index bound most body) (repeat index' bound' most' body') ts r q h k f g =
      let mid : h.0 ≡ k.0 = cc (h.3, k.3) in
      let x : index ≡ index' = cc (h.3, k.3) in
      let o = operand_once bound bound' k.0 _ _ (subst (λ m. IsOperand bound m (CapWord ∷ Number h.2 ∷ h.1)) mid h.4) k.4 in
      let n : most ≡ most' = cc (o.1, h.5, k.5) in
      let more : h.1 ≡ k.1 = cc o.1 in
      let b = braces_once body body' (block_once body body') k.1 r q (subst (λ m. Braces (AreStmts body) m r) more h.6) k.6 in
      (λ i. repeat (x i) (o.0 i) (n i) (b.0 i), b.1)
  stmt_once (copy to from) (compute to' op' left' right') ts r q h k f g =
      let mid : h.0 ≡ k.0 = cc (h.1, k.2) in
      absurd (op_semi op' _ _ (sym (operand_once from left' k.0 _ _ (subst (λ m. IsOperand from m (Semicolon ∷ r)) mid h.2) k.3).1))
  stmt_once (compute to op left right) (copy to' from') ts r q h k f g =
      let mid : h.0 ≡ k.0 = cc (h.2, k.1) in
      absurd (op_semi op _ _ (operand_once left from' k.0 _ _ (subst (λ m. IsOperand left m (op_token op ∷ h.1)) mid h.3) k.2).1)
  stmt_once (copy to from) (call to' callee' args') ts r q h k f g =
      let at : h.0 ≡ Named callee' ∷ OpenParen ∷ k.0 = cc (h.1, k.1) in
      let e = called from callee' h.0 k.0 _ at h.2 in
      absurd (cc e)
  stmt_once (call to callee args) (copy to' from') ts r q h k f g =
      let at : k.0 ≡ Named callee ∷ OpenParen ∷ h.0 = cc (h.1, k.1) in
      let e = called from' callee k.0 h.0 _ at k.2 in
      absurd (cc e)
  stmt_once (compute to op left right) (call to' callee' args') ts r q h k f g =
      let at : h.0 ≡ Named callee' ∷ OpenParen ∷ k.0 = cc (h.2, k.1) in
      absurd (op_paren op _ _ (called left callee' h.0 k.0 _ at h.3))
  stmt_once (call to callee args) (compute to' op' left' right') ts r q h k f g =
      let at : k.0 ≡ Named callee ∷ OpenParen ∷ h.0 = cc (h.1, k.2) in
      absurd (op_paren op' _ _ (called left' callee k.0 h.0 _ at k.3))
  stmt_once s s' ts r q h k f g = absurd (cc (kind-first s ts r h, kind-first s' ts q k))

  pub block_once : (b c : Block) → BlockOnce b c
  block_once [] [] t u ts r q e d h k = (refl, sym h ∙ k)
  block_once [] (s ⨾ c) t u ts r q e d h k = absurd (no_stmt s t ts k.0 r e k.1 h)
  block_once (s ⨾ b) [] t u ts r q e d h k = absurd (no_stmt s u ts h.0 q d h.1 k)
  block_once (s ⨾ b) (s' ⨾ c) t u ts r q e d h k =
      let one = stmt_once s s' ts h.0 k.0 h.1 k.1 (no_else_after s h.0 (block_no_else b t h.0 r e h.2)) (no_else_after s' k.0 (block_no_else c u k.0 q d k.2)) in
      let rest = block_once b c t u k.0 r q e d (subst (λ m. AreStmts b m (t ∷ r)) one.1 h.2) k.2 in
      (λ i. one.0 i ⨾ rest.0 i, rest.1)
