-- The names of a text are those that its program mentions, in the same order.
use Rattle.std.proofs.Common.{◌≡◌, ◌⊎◌, inl, inr, ℕ, ℤ, zero, suc, ◌+◌, List, [], ◌∷◌, ◌++◌, map, length, take, drop, refl, sym, ap, ◌∙◌, append_assoc, length-append, arith}
use Rattle.std.specs.Prelude.{Option, Some, slice_get}
use Rattle.std.proofs.lemmas.List.{length-map}
use Rattle.vmv_tree.specs.declared.name.Name.{Name}
use Rattle.vmv_tree.specs.declared.tree.Operand.{Operand}
use Rattle.vmv_tree.specs.declared.tree.Operand.TheVariants.{Lit, Var}
use Rattle.vmv_tree.specs.declared.tree.Op.{Op}
use Rattle.vmv_tree.specs.declared.tree.Op.TheVariants.{Add, Sub, Mul, Div, Rem}
use Rattle.vmv_tree.specs.declared.tree.Rel.{Rel}
use Rattle.vmv_tree.specs.declared.tree.Rel.TheVariants.{Equal, Unequal, Less, AtMost, Greater, AtLeast}
use Rattle.vmv_tree.specs.declared.tree.Test.{Test}
use Rattle.vmv_tree.specs.declared.tree.Param.{Param}
use Rattle.vmv_tree.specs.Tree.{Stmt, copy, compute, call, assert, choose, repeat, Block, [], ◌⨾◌, Body, Item, outside, helper, entry}
use Rattle.vmv_tree.specs.Mentions.{operand_mentions, test_mentions, args_mentions, mentions, block_mentions, body_mentions, item_mentions}
use Rattle.vmv_text.specs.declared.token.Token.{Token}
use Rattle.vmv_text.specs.declared.token.Token.TheVariants.{Named, ElseWord}
use Rattle.vmv_text.specs.Tokens.{Placed, placed_tokens, tokens_of, tokens}
use Rattle.vmv_text.specs.Grammar.{IsLit, IsOperand, IsTest, IsName, IsParam, Commas, AnyCommas, IsStmt, AreStmts, Braces, IsVars, IsInBody, IsBody, IsItem, IsProgram, IsText, op_token, rel_token}
use Rattle.vmv_text.specs.Reading.{first_of}
use Rattle.vmv_text.specs.Mentioned.{names_in, name_count, operand_names, test_names, args_names, stmt_names, block_names, body_names, item_names, mentioned, program_mentions, HasMention}

-- these names and then those
then_names : (a xs b ys c : List Name) → a ≡ xs ++ b → b ≡ ys ++ c → a ≡ (xs ++ ys) ++ c
then_names a xs b ys c e f = e ∙ (ap (λ z. xs ++ z) f ∙ sym (append_assoc xs ys c))

op_unnamed : (op : Op) (ts : List Token) → names_in (op_token op ∷ ts) ≡ names_in ts
op_unnamed Add ts = refl
op_unnamed Sub ts = refl
op_unnamed Mul ts = refl
op_unnamed Div ts = refl
op_unnamed Rem ts = refl

rel_unnamed : (rel : Rel) (ts : List Token) → names_in (rel_token rel ∷ ts) ≡ names_in ts
rel_unnamed Equal ts = refl
rel_unnamed Unequal ts = refl
rel_unnamed Less ts = refl
rel_unnamed AtMost ts = refl
rel_unnamed Greater ts = refl
rel_unnamed AtLeast ts = refl

in_lit : (z : ℤ) (ts rest : List Token) → IsLit z ts rest → names_in ts ≡ names_in rest
in_lit z ts rest (inl (n, a, b)) = ap names_in b
in_lit z ts rest (inr (inl (n, a, b))) = ap names_in b
in_lit z ts rest (inr (inr (a, b))) = ap names_in b

in_operand : (o : Operand) (ts rest : List Token) → IsOperand o ts rest → names_in ts ≡ operand_names o ++ names_in rest
in_operand (Var x) ts rest h = ap names_in h
in_operand (Lit z) ts rest h = in_lit z ts rest h

in_test : (t : Test) (ts rest : List Token) → IsTest t ts rest → names_in ts ≡ test_names t ++ names_in rest
in_test t ts rest h =
    then_names (names_in ts) (operand_names t.left) (names_in h.0) (operand_names t.right) (names_in rest)
    (in_operand t.left ts (rel_token t.rel ∷ h.0) h.1 ∙ ap (λ z. operand_names t.left ++ z) (rel_unnamed t.rel h.0)) (in_operand t.right h.0 rest h.2)

in_names : (xs : List Name) (ts rest : List Token) → Commas IsName xs ts rest → names_in ts ≡ xs ++ names_in rest
in_names [] ts rest h = absurd h
in_names (x ∷ []) ts rest h = ap names_in h
in_names (x ∷ y ∷ xs) ts rest h = ap names_in h.1 ∙ ap (λ z. x ∷ z) (in_names (y ∷ xs) h.0 rest h.2)

in_args : (xs : List Operand) (ts rest : List Token) → Commas IsOperand xs ts rest → names_in ts ≡ args_names xs ++ names_in rest
in_args [] ts rest h = absurd h
in_args (x ∷ []) ts rest h = then_names (names_in ts) (operand_names x) (names_in rest) [] (names_in rest) (in_operand x ts rest h) refl
in_args (x ∷ y ∷ xs) ts rest h =
    then_names (names_in ts) (operand_names x) (names_in h.0) (args_names (y ∷ xs)) (names_in rest) (in_operand x ts _ h.1) (in_args (y ∷ xs) h.0 rest h.2)

in_param : (p : Param) (ts rest : List Token) → IsParam p ts rest → names_in ts ≡ p.name ∷ names_in rest
in_param p ts rest h = ap names_in h.2 ∙ ap (λ z. p.name ∷ z) (in_lit p.lo h.0 _ h.3 ∙ in_lit p.hi h.1 rest h.4)

in_params : (xs : List Param) (ts rest : List Token) → Commas IsParam xs ts rest → names_in ts ≡ map (λ p. p.name) xs ++ names_in rest
in_params [] ts rest h = absurd h
in_params (x ∷ []) ts rest h = in_param x ts rest h
in_params (x ∷ y ∷ xs) ts rest h = in_param x ts _ h.1 ∙ ap (λ z. x.name ∷ z) (in_params (y ∷ xs) h.0 rest h.2)

in_any_names : (xs : List Name) (ts rest : List Token) → AnyCommas IsName xs ts rest → names_in ts ≡ xs ++ names_in rest
in_any_names [] ts rest h = ap names_in h
in_any_names (x ∷ xs) ts rest h = in_names (x ∷ xs) ts rest h

in_any_args : (xs : List Operand) (ts rest : List Token) → AnyCommas IsOperand xs ts rest → names_in ts ≡ args_names xs ++ names_in rest
in_any_args [] ts rest h = ap names_in h
in_any_args (x ∷ xs) ts rest h = in_args (x ∷ xs) ts rest h

in_any_params : (xs : List Param) (ts rest : List Token) → AnyCommas IsParam xs ts rest → names_in ts ≡ map (λ p. p.name) xs ++ names_in rest
in_any_params [] ts rest h = ap names_in h
in_any_params (x ∷ xs) ts rest h = in_params (x ∷ xs) ts rest h

in_else : (b : Block) → ((ts rest : List Token) → AreStmts b ts rest → names_in ts ≡ block_names b ++ names_in rest)
    → (ts rest : List Token) → ((b ≡ []) × (ts ≡ rest)) ⊎ ((last : List Token) × (ts ≡ ElseWord ∷ last) × Braces (AreStmts b) last rest) → names_in ts ≡ block_names b ++ names_in rest
in_else b f ts rest (inl h) = ap names_in h.1 ∙ ap (λ c. block_names c ++ names_in rest) (sym h.0)
in_else b f ts rest (inr h) = ap names_in h.1 ∙ (ap names_in h.2.1 ∙ f h.2.0 _ h.2.2)

mutual
  unfolding IsStmt AreStmts

  in_stmt : (s : Stmt) (ts rest : List Token) → IsStmt s ts rest → names_in ts ≡ stmt_names s ++ names_in rest
  in_stmt (copy to from) ts rest h = ap names_in h.1 ∙ ap (λ z. to ∷ z) (in_operand from h.0 _ h.2)
  in_stmt (compute to op left right) ts rest h =
      ap names_in h.2 ∙ ap (λ z. to ∷ z)
      (then_names (names_in h.0) (operand_names left) (names_in h.1) (operand_names right) (names_in rest)
      (in_operand left h.0 _ h.3 ∙ ap (λ z. operand_names left ++ z) (op_unnamed op h.1)) (in_operand right h.1 _ h.4))
  in_stmt (call to callee args) ts rest h = ap names_in h.1 ∙ ap (λ z. to ∷ callee ∷ z) (in_any_args args h.0 _ h.2)
  in_stmt (assert test) ts rest h = ap names_in h.1 ∙ in_test test h.0 _ h.2
  in_stmt (choose test first second) ts rest h =
      let start = then_names (names_in h.0) (test_names test) (names_in h.1) (block_names first) (names_in h.2) (in_test test h.0 h.1 h.4) (ap names_in h.5.1 ∙ in_block first h.5.0 _ h.5.2) in
      ap names_in h.3 ∙ then_names (names_in h.0) (test_names test ++ block_names first) (names_in h.2) (block_names second) (names_in rest) start (in_else second (in_block second) h.2 rest h.6)
  in_stmt (repeat index bound most body) ts rest h =
      ap names_in h.3 ∙ ap (λ z. index ∷ z)
      (then_names (names_in h.0) (operand_names bound) (names_in h.1) (block_names body) (names_in rest) (in_operand bound h.0 _ h.4) (ap names_in h.6.1 ∙ in_block body h.6.0 _ h.6.2))

  in_block : (b : Block) (ts rest : List Token) → AreStmts b ts rest → names_in ts ≡ block_names b ++ names_in rest
  in_block [] ts rest h = ap names_in h
  in_block (s ⨾ b) ts rest h = then_names (names_in ts) (stmt_names s) (names_in h.0) (block_names b) (names_in rest) (in_stmt s ts h.0 h.1) (in_block b h.0 rest h.2)

in_vars : (xs : List Name) (ts rest : List Token) → IsVars xs ts rest → names_in ts ≡ xs ++ names_in rest
in_vars [] ts rest h = ap names_in h
in_vars (x ∷ xs) ts rest h = ap names_in h.1 ∙ in_names (x ∷ xs) h.0 _ h.2

in_body : (b : Body) (ts rest : List Token) → IsBody b ts rest → names_in ts ≡ body_names b ++ names_in rest
unfolding IsInBody
in_body b ts rest h =
    let start = then_names (names_in h.0) b.vars (names_in h.2.0) (block_names b.block) (names_in h.2.1) (in_vars b.vars h.0 h.2.0 h.2.2) (in_block b.block h.2.0 _ h.2.3) in
    ap names_in h.1 ∙ then_names (names_in h.0) (b.vars ++ block_names b.block) (names_in h.2.1) (operand_names b.output) (names_in rest) start (in_operand b.output h.2.1 _ h.2.4)

in_item : (item : Item) (ts rest : List Token) → IsItem item ts rest → names_in ts ≡ item_names item ++ names_in rest
unfolding IsItem
in_item (outside f arity) ts rest h = ap names_in h.2
in_item (helper f params body) ts rest h =
    ap names_in h.2 ∙ ap (λ z. f ∷ z)
    (then_names (names_in h.0) params (names_in h.1) (body_names body) (names_in rest) (in_any_names params h.0 _ h.3) (in_body body h.1 rest h.4))
in_item (entry f params body) ts rest h =
    ap names_in h.2 ∙ ap (λ z. f ∷ z)
    (then_names (names_in h.0) (map (λ p. p.name) params) (names_in h.1) (body_names body) (names_in rest) (in_any_params params h.0 _ h.3) (in_body body h.1 rest h.4))

in_items : (items : List Item) (ts : List Token) → IsProgram items ts → names_in ts ≡ mentioned items
unfolding IsProgram
in_items [] ts h = ap names_in h
in_items (item ∷ items) ts h = in_item item ts h.0 h.1 ∙ ap (λ z. item_names item ++ z) (in_items items h.0 h.2)

pub text_mentions : (bytes : List ℕ) (p : List Item) → IsText bytes p → names_in (tokens bytes) ≡ mentioned p
text_mentions bytes p h = in_items p (tokens bytes) h.grammar

-- what is mentioned is as much as the mentions are
operand_count : (o : Operand) → length (operand_names o) ≡ operand_mentions o
operand_count (Lit z) = refl
operand_count (Var x) = refl

test_count : (t : Test) → length (test_names t) ≡ test_mentions t
test_count t = omega (arith, length-append (operand_names t.left) (operand_names t.right), operand_count t.left, operand_count t.right)

args_count : (args : List Operand) → length (args_names args) ≡ args_mentions args
args_count [] = refl
args_count (o ∷ args) = omega (arith, length-append (operand_names o) (args_names args), operand_count o, args_count args)

mutual
  stmt_count : (s : Stmt) → length (stmt_names s) ≡ mentions s
  stmt_count (copy to from) = omega (arith, operand_count from)
  stmt_count (compute to op left right) =
      omega (arith, length-append (operand_names left) (operand_names right), operand_count left, operand_count right)
  stmt_count (call to callee args) = omega (arith, args_count args)
  stmt_count (assert test) = test_count test
  stmt_count (choose test first second) =
      omega (arith, length-append (test_names test ++ block_names first) (block_names second), length-append (test_names test) (block_names first), test_count test, block_count first, block_count second)
  stmt_count (repeat index bound most body) =
      omega (arith, length-append (operand_names bound) (block_names body), operand_count bound, block_count body)

  block_count : (b : Block) → length (block_names b) ≡ block_mentions b
  block_count [] = refl
  block_count (s ⨾ b) = omega (arith, length-append (stmt_names s) (block_names b), stmt_count s, block_count b)

body_count : (b : Body) → length (body_names b) ≡ body_mentions b
body_count b =
    omega (arith, length-append (b.vars ++ block_names b.block) (operand_names b.output), length-append b.vars (block_names b.block), block_count b.block, operand_count b.output)

item_count : (item : Item) → length (item_names item) ≡ item_mentions item
item_count (outside f arity) = refl
item_count (helper f params body) = omega (arith, length-append params (body_names body), body_count body)
item_count (entry f params body) =
    omega (arith, length-append (map (λ (p : Param). p.name) params) (body_names body), length-map params (λ (p : Param). p.name), body_count body)

pub mentioned_count : (items : List Item) → length (mentioned items) ≡ program_mentions items
mentioned_count [] = refl
mentioned_count (item ∷ items) = omega (arith, length-append (item_names item) (mentioned items), item_count item, mentioned_count items)

-- the names of tokens are as many as the tokens that are names
names_counted : (ts : List Token) → length (names_in ts) ≡ name_count ts
names_counted [] = refl
names_counted (Named x ∷ ts) = omega (arith, names_counted ts)
names_counted (t ∷ ts) = names_counted ts

pub text_names : (bytes : List ℕ) (p : List Item) → IsText bytes p → name_count (tokens bytes) ≡ program_mentions p
text_names bytes p h = sym (names_counted (tokens bytes)) ∙ (ap length (text_mentions bytes p h) ∙ mentioned_count p)

name_here : (t : Token) (x : Name) (ts : List Token) → t ≡ Named x → slice_get (names_in (t ∷ ts)) 0 ≡ Some x
name_here t x ts e = ap (λ (u : Token). slice_get (names_in (u ∷ ts)) 0) e

name_behind : (t : Token) (ts us : List Token) (found : Option Name) → slice_get (names_in ts) (name_count us) ≡ found → slice_get (names_in (t ∷ ts)) (name_count (t ∷ us)) ≡ found
name_behind (Named x) ts us found h =
    let one : 1 + name_count us ≡ suc (name_count us) = omega arith in
    ap (slice_get (x ∷ names_in ts)) one ∙ h
name_behind t ts us found h = h

-- the name that stands behind so many names
named_at : (k : ℕ) (x : Name) (ts : List Placed) → first_of (drop k ts) ≡ Some (Named x) → slice_get (names_in (tokens_of ts)) (name_count (take k (tokens_of ts))) ≡ Some x
named_at zero x [] h = absurd (cc h)
named_at (suc k) x [] h = absurd (cc h)
named_at zero x (p ∷ ts) h = let is : p.token ≡ Named x = cc h in name_here p.token x (tokens_of ts) is
named_at (suc k) x (p ∷ ts) h = name_behind p.token (tokens_of ts) (take k (tokens_of ts)) (Some x) (named_at k x ts h)

pub named_there : (bytes : List ℕ) (p : List Item) (mention line column : ℕ) → IsText bytes p → (at : HasMention bytes mention line column) → slice_get (mentioned p) mention ≡ Some at.name
unfolding tokens
named_there bytes p mention line column h at =
    ap (λ (xs : List Name). slice_get xs mention) (sym (text_mentions bytes p h))
    ∙ (ap (slice_get (names_in (tokens bytes))) (sym at.number) ∙ named_at at.token at.name (placed_tokens bytes) at.is_name)
