-- A text is that of one program at most.
use Rattle.std.proofs.Common.{◌≡◌, inr, ℕ, List, [], ◌∷◌, refl, sym, ◌∙◌, ap, subst}
use Rattle.vmv_tree.specs.declared.name.Name.{Name}
use Rattle.vmv_tree.specs.Tree.{Block, [], ◌⨾◌, Body, Item, outside, helper, entry}
use Rattle.vmv_text.specs.declared.token.Token.{Token}
use Rattle.vmv_text.specs.declared.token.Token.TheVariants.{VarWord, ReturnWord, CloseBrace, CloseParen, Semicolon}
use Rattle.vmv_text.specs.Grammar.{IsName, IsOperand, IsParam, Commas, AnyCommas, AreStmts, IsVars, IsInBody, IsBody, IsItem, IsProgram, IsText}
use Rattle.vmv_text.specs.Reading.{NoVar}
use Rattle.vmv_text.specs.Tokens.{tokens}
use Rattle.vmv_text.proofs.OneBlock.{operand_once, name_once, name_close, param_once, param_close, commas_once, any_commas_once, semicolon-no_comma, kind_at, kind-first, kind-some, block_once, BlockOnce}

-- where there are no variables, no declaration of them begins
abbrev EndsVars : List Name → List Token → Type 0
EndsVars [] ts = NoVar ts
EndsVars (x ∷ xs) ts = Unit {0}

-- statements up to `return` begin with no `var`
pub stmts_no_var : (b : Block) (ts r q : List Token) → AreStmts b ts (ReturnWord ∷ r) → ts ≡ VarWord ∷ q → ⊥
unfolding AreStmts
stmts_no_var [] ts r q h k = cc (h, k)
stmts_no_var (s ⨾ b) ts r q h k = kind-some s (sym (kind-first s ts h.0 h.1) ∙ ap kind_at k)

stmts-end_vars : (xs : List Name) (b : Block) (ts r : List Token) → AreStmts b ts (ReturnWord ∷ r) → EndsVars xs ts
stmts-end_vars [] b ts r h = λ x k. stmts_no_var b ts r x h k
stmts-end_vars (y ∷ ys) b ts r h = tt

vars_once : (xs ys : List Name) (ts r q : List Token) → EndsVars xs r → EndsVars ys q → IsVars xs ts r → IsVars ys ts q → (xs ≡ ys) × (r ≡ q)
vars_once [] [] ts r q f g h k = (refl, sym h ∙ k)
vars_once [] (y ∷ ys) ts r q f g h k = absurd (f k.0 (sym h ∙ k.1))
vars_once (x ∷ xs) [] ts r q f g h k = absurd (g h.0 (sym k ∙ h.1))
vars_once (x ∷ xs) (y ∷ ys) ts r q f g h k =
    let mid : h.0 ≡ k.0 = cc (h.1, k.1) in
    let e = commas_once IsName name_once (x ∷ xs) (y ∷ ys) k.0 _ _ (semicolon-no_comma r) (semicolon-no_comma q) (subst (λ m. Commas IsName (x ∷ xs) m (Semicolon ∷ r)) mid h.2) k.2 in
    (e.0, cc e.1)

pub in_body_once : (b c : Body) (ts r q : List Token) → IsInBody b ts r → IsInBody c ts q → (b ≡ c) × (r ≡ q)
unfolding IsInBody BlockOnce
in_body_once b c ts r q h k =
    let v = vars_once b.vars c.vars ts h.0 k.0 (stmts-end_vars b.vars b.block h.0 h.1 h.3) (stmts-end_vars c.vars c.block k.0 k.1 k.3) h.2 k.2 in
    let s = block_once b.block c.block ReturnWord ReturnWord k.0 h.1 k.1 (inr refl) (inr refl) (subst (λ m. AreStmts b.block m (ReturnWord ∷ h.1)) v.1 h.3) k.3 in
    let last : h.1 ≡ k.1 = cc s.1 in
    let o = operand_once b.output c.output k.1 _ _ (subst (λ m. IsOperand b.output m (Semicolon ∷ r)) last h.4) k.4 in
    (λ i. record { vars = v.0 i; block = s.0 i; output = o.0 i }, cc o.1)

pub body_once : (b c : Body) (ts r q : List Token) → IsBody b ts r → IsBody c ts q → (b ≡ c) × (r ≡ q)
body_once b c ts r q h k =
    let mid : h.0 ≡ k.0 = cc (h.1, k.1) in
    let e = in_body_once b c k.0 _ _ (subst (λ m. IsInBody b m (CloseBrace ∷ r)) mid h.2) k.2 in
    (e.0, cc e.1)

pub item_once : (a b : Item) (ts r q : List Token) → IsItem a ts r → IsItem b ts q → (a ≡ b) × (r ≡ q)
unfolding IsItem
item_once (outside f n) (outside g m) ts r q h k =
    let e : f ≡ g = cc (h.2, k.2) in
    let l : n ≡ m = cc (h.1, h.2, k.1, k.2) in
    (λ i. outside (e i) (l i), cc (h.2, k.2))
item_once (helper f xs b) (helper g ys c) ts r q h k =
    let e : f ≡ g = cc (h.2, k.2) in
    let mid : h.0 ≡ k.0 = cc (h.2, k.2) in
    let p = any_commas_once IsName name_once name_close xs ys k.0 _ _ (subst (λ m. AnyCommas IsName xs m (CloseParen ∷ h.1)) mid h.3) k.3 in
    let o = body_once b c k.1 r q (subst (λ m. IsBody b m r) p.1 h.4) k.4 in
    (λ i. helper (e i) (p.0 i) (o.0 i), o.1)
item_once (entry f xs b) (entry g ys c) ts r q h k =
    let e : f ≡ g = cc (h.2, k.2) in
    let mid : h.0 ≡ k.0 = cc (h.2, k.2) in
    let p = any_commas_once IsParam param_once param_close xs ys k.0 _ _ (subst (λ m. AnyCommas IsParam xs m (CloseParen ∷ h.1)) mid h.3) k.3 in
    let o = body_once b c k.1 r q (subst (λ m. IsBody b m r) p.1 h.4) k.4 in
    (λ i. entry (e i) (p.0 i) (o.0 i), o.1)
item_once (outside f n) (helper g ys c) ts r q h k = absurd (cc (h.2, k.2))
item_once (outside f n) (entry g ys c) ts r q h k = absurd (cc (h.2, k.2))
item_once (helper f xs b) (outside g m) ts r q h k = absurd (cc (h.2, k.2))
item_once (helper f xs b) (entry g ys c) ts r q h k = absurd (cc (h.2, k.2))
item_once (entry f xs b) (outside g m) ts r q h k = absurd (cc (h.2, k.2))
item_once (entry f xs b) (helper g ys c) ts r q h k = absurd (cc (h.2, k.2))

-- an item takes some tokens
pub item_some : (a : Item) (r : List Token) → IsItem a [] r → ⊥
unfolding IsItem
item_some (outside f n) r h = cc h.2
item_some (helper f xs b) r h = cc h.2
item_some (entry f xs b) r h = cc h.2

pub program_once : (a b : List Item) (ts : List Token) → IsProgram a ts → IsProgram b ts → a ≡ b
unfolding IsProgram
program_once [] [] ts h k = refl
program_once [] (y ∷ b) ts h k = absurd (item_some y k.0 (subst (λ t. IsItem y t k.0) h k.1))
program_once (x ∷ a) [] ts h k = absurd (item_some x h.0 (subst (λ t. IsItem x t h.0) k h.1))
program_once (x ∷ a) (y ∷ b) ts h k =
    let e = item_once x y ts h.0 k.0 h.1 k.1 in
    let rest = program_once a b k.0 (subst (λ t. IsProgram a t) e.1 h.2) k.2 in
    (λ i. e.0 i ∷ rest i)

-- a text is that of one program at most
pub text_once : (bytes : List ℕ) (a b : List Item) → IsText bytes a → IsText bytes b → a ≡ b
text_once bytes a b h k = program_once a b (tokens bytes) h.grammar k.grammar
