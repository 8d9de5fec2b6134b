-- What the definitions say of small texts.
use Rattle.std.proofs.Common.{◌≡◌, ℕ, ◌≤◌, pos, neg_ℤ, List, [], ◌∷◌, refl, inl, inr, arith}
use Rattle.std.specs.Prelude.{codes}
use Rattle.vmv_tree.specs.declared.name.Name.{Name}
use Rattle.vmv_tree.specs.declared.tree.Op.TheVariants.{Add, Sub, Mul}
use Rattle.vmv_tree.specs.declared.tree.Rel.TheVariants.{Less}
use Rattle.vmv_text.specs.declared.token.Token.{Token}
use Rattle.vmv_text.specs.declared.token.Token.TheVariants.{Named, Number, Bad, OpenBrace, CloseBrace, OpenParen, CloseParen, LessThan, AndWord, OrWord, NotWord, OpenBracket, CloseBracket, Semicolon}
use Rattle.vmv_text.specs.Tokens.{placed_tokens}
use Rattle.vmv_surface.specs.Surface.{Expr, literal, variable, operate, minus, ask, no_args, Test, compared, both, either, negated, no_stmts, Item, entry}
use Rattle.vmv_surface_text.specs.Grammar.{surface_tokens, strength, IsBareExpr, IsExprAt, IsExpr, test_strength, IsBareTest, IsTestAt, IsTest, AreStmts, IsInBody, IsItem, IsSurfaceProgram}

-- the keywords and symbols of the surface language, and a name of a temporary
connectives : surface_tokens (codes "[a and not b] or __x; and_1 # {") ≡ OpenBracket ∷ Named (codes "a") ∷ AndWord ∷ NotWord ∷ Named (codes "b") ∷ CloseBracket ∷ OrWord ∷ Bad ∷ Semicolon ∷ Named (codes "and_1") ∷ Bad ∷ OpenBrace ∷ []
unfolding placed_tokens
connectives = refl

-- what binds strongly enough stands in no parentheses, and everything stands in a pair of them
bare : (asked : ℕ) (e : Expr) (ts rest : List Token) → asked ≤ strength e → IsBareExpr e ts rest → IsExprAt asked e ts rest
bare asked e ts rest h p = (0, ts, λ weak. absurd (omega (arith, weak, h)), refl, p)

inside : (asked : ℕ) (e : Expr) (ts rest : List Token) → IsBareExpr e ts (CloseParen ∷ rest) → IsExprAt asked e (OpenParen ∷ ts) rest
inside asked e ts rest p = (1, ts, λ weak. omega arith, refl, p)

bare_test : (asked : ℕ) (t : Test) (ts rest : List Token) → asked ≤ test_strength t → IsBareTest t ts rest → IsTestAt asked t ts rest
bare_test asked t ts rest h p = (0, ts, λ weak. absurd (omega (arith, weak, h)), refl, p)

inside_test : (asked : ℕ) (t : Test) (ts rest : List Token) → IsBareTest t ts (CloseBracket ∷ rest) → IsTestAt asked t (OpenBracket ∷ ts) rest
inside_test asked t ts rest p = (1, ts, λ weak. omega arith, refl, p)

name : (asked : ℕ) (x : Name) (rest : List Token) → asked ≤ 3 → IsExprAt asked (variable x) (Named x ∷ rest) rest
unfolding IsBareExpr
name asked x rest h = bare asked (variable x) (Named x ∷ rest) rest h refl

number : (asked k : ℕ) (rest : List Token) → asked ≤ 2 → IsExprAt asked (literal (pos k)) (Number k ∷ rest) rest
unfolding IsBareExpr
number asked k rest h = bare asked (literal (pos k)) (Number k ∷ rest) rest h (inl (k, refl, refl))

a : Name
a = codes "a"

b : Name
b = codes "b"

n : Name
n = codes "n"

product : List Item
product = entry (codes "e") (record { name = n; lo = pos 1; hi = pos 9 } ∷ []) (record { vars = []; block = no_stmts; output = operate Mul (variable n) (operate Add (variable n) (literal (pos 1))) }) ∷ []

product_text : IsSurfaceProgram product (surface_tokens (codes "entry e(n: 1..9) { return n * (n + 1); }"))
unfolding placed_tokens IsSurfaceProgram IsItem IsInBody AreStmts IsBareExpr product n
product_text =
    let sum = inside 2 (operate Add (variable n) (literal (pos 1))) _ (Semicolon ∷ CloseBrace ∷ []) (_, name 0 n _ (omega arith), number 1 1 _ (omega arith)) in
    let whole = bare 0 (operate Mul (variable n) (operate Add (variable n) (literal (pos 1)))) _ _ (omega arith) (_, name 1 n _ (omega arith), sum) in
    (_, (_, _, refl, (_, _, refl, inl (1, refl, refl), inl (9, refl, refl)), (_, refl, (_, _, refl, refl, whole))), refl)

-- from the left
differences : IsExpr (operate Sub (operate Sub (variable a) (variable b)) (literal (neg_ℤ (pos 1)))) (surface_tokens (codes "a - b - -1")) []
unfolding placed_tokens IsBareExpr a b
differences =
    let first = bare 0 (operate Sub (variable a) (variable b)) _ _ (omega arith) (_, name 0 a _ (omega arith), name 1 b _ (omega arith)) in
    let last = bare 1 (literal (neg_ℤ (pos 1))) _ _ (omega arith) (inr (inl (1, refl, refl))) in
    bare 0 (operate Sub (operate Sub (variable a) (variable b)) (literal (neg_ℤ (pos 1)))) _ _ (omega arith) (_, first, last)

-- a literal, and an operator before one in parentheses
five : IsExpr (literal (neg_ℤ (pos 5))) (surface_tokens (codes "-5")) []
unfolding placed_tokens IsBareExpr
five = bare 0 (literal (neg_ℤ (pos 5))) _ _ (omega arith) (inr (inl (5, refl, refl)))

minus_five : IsExpr (minus (literal (pos 5))) (surface_tokens (codes "-(5)")) []
unfolding placed_tokens IsBareExpr
minus_five =
    bare 0 (minus (literal (pos 5))) _ _ (omega arith) (_, refl, inside 3 (literal (pos 5)) _ _ (inl (5, refl, refl)))

-- a sign before a name belongs to that alone
minus_a : IsExpr (operate Mul (minus (variable a)) (ask b no_args)) (surface_tokens (codes "-a * b()")) []
unfolding placed_tokens IsBareExpr a b
minus_a =
    bare 0 (operate Mul (minus (variable a)) (ask b no_args)) _ _ (omega arith)
    (_, bare 1 (minus (variable a)) _ _ (omega arith) (_, refl, name 3 a _ (omega arith)), bare 2 (ask b no_args) _ _ (omega arith) (_, refl, refl))

-- `not` binds before `and`, and `and` before `or`

less : Test
less = compared (variable a) Less (variable b)

less_bare : (rest : List Token) → IsBareTest less (Named a ∷ LessThan ∷ Named b ∷ rest) rest
unfolding IsBareTest less
less_bare rest = (_, name 0 a _ (omega arith), name 0 b _ (omega arith))

less_strong : 2 ≤ test_strength less
unfolding less
less_strong = omega arith

mixed : IsTest (either less (both (negated less) less)) (surface_tokens (codes "a < b or not a < b and a < b")) []
unfolding placed_tokens IsBareTest a b
mixed =
    let not_less = bare_test 1 (negated less) _ _ (omega arith) (_, refl, bare_test 2 less _ _ less_strong (less_bare _)) in
    let last = bare_test 1 (both (negated less) less) _ _ (omega arith) (_, not_less, bare_test 2 less _ _ less_strong (less_bare _)) in
    bare_test 0 (either less (both (negated less) less)) _ _ (omega arith) (_, bare_test 0 less _ _ (omega arith) (less_bare _), last)

bracketed : IsTest (both (either less less) less) (surface_tokens (codes "[a < b or a < b] and a < b")) []
unfolding placed_tokens IsBareTest a b less
bracketed =
    let first = inside_test 1 (either less less) _ _ (_, bare_test 0 less _ _ (omega arith) (less_bare _), bare_test 1 less _ _ (omega arith) (less_bare _)) in
    bare_test 0 (both (either less less) less) _ _ (omega arith) (_, first, bare_test 2 less _ _ (omega arith) (less_bare _))
