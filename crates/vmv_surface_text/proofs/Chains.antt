-- Operations of one strength in a row: an expression that binds more strongly, and then operators, each with another.
use Rattle.std.proofs.Common.{true, false, Bool, eqb, ◌≡◌, ℕ, zero, suc, ◌+◌, ◌<◌, List, [], ◌∷◌, ◌++◌, refl, sym, ◌∙◌, ap, subst, arith}
use Rattle.std.proofs.lemmas.Bool.{eqb-true, eqb-false}
use Rattle.vmv_tree.specs.declared.tree.Op.{Op}
use Rattle.vmv_text.specs.declared.token.Token.{Token}
use Rattle.vmv_text.specs.Grammar.{op_token}
use Rattle.vmv_text.proofs.OneBlock.{op_once, op_paren}
use Rattle.vmv_surface.specs.Surface.{Expr, literal, variable, operate, minus, ask}
use Rattle.vmv_surface_text.specs.Grammar.{IsBareExpr, IsExprAt, binding, strength}
use Rattle.vmv_surface_text.specs.Reading.{FitsAt}
use Rattle.vmv_surface_text.specs.Opening.{TailAt, grown}

pub weaker : (level : ℕ) (e : Expr) (ts rest : List Token) → IsExprAt (level + 1) e ts rest → IsExprAt level e ts rest
weaker level e ts rest (k, mid, pairs, a, b) = (k, mid, λ h. pairs (omega (arith, h)), a, b)

one_more : (level : ℕ) (op : Op) (acc t : Expr) (ts mid rest : List Token) → binding op ≡ level → IsExprAt level acc ts (op_token op ∷ mid) → IsExprAt (level + 1) t mid rest → IsExprAt level (operate op acc t) ts rest
unfolding IsBareExpr
one_more level op acc t ts mid rest is left right = (
  0,
  ts,
  λ weak. absurd (omega (arith, weak, is)),
  refl,
  (
    mid,
    subst (λ (n : ℕ). IsExprAt n acc ts (op_token op ∷ mid)) (sym is) left,
    subst (λ (n : ℕ). IsExprAt (n + 1) t mid rest) (sym is) right,
  ),
)

pub tails_join : (level : ℕ) (tails : List (Op × Expr)) (acc : Expr) (ts mid rest : List Token) → IsExprAt level acc ts mid → TailAt level tails mid rest → IsExprAt level (grown acc tails) ts rest
unfolding TailAt
tails_join level [] acc ts mid rest h k = subst (λ (t : List Token). IsExprAt level acc ts t) k h
tails_join level (t ∷ more) acc ts mid rest h k =
    tails_join level more (operate t.0 acc t.1) ts k.1 rest
    (one_more level t.0 acc t.1 ts k.0 k.1 k.2 (subst (λ (u : List Token). IsExprAt level acc ts u) k.3 h) k.4) k.5

-- an expression is the first and its tail
pub record Parted (level : ℕ) (e : Expr) (ts rest : List Token) : Type 0 where
  pub first : Expr
  pub tails : List (Op × Expr)
  pub is : e ≡ grown first tails
  pub mid : List Token
  pub begins : IsExprAt (level + 1) first ts mid
  pub goes_on : TailAt level tails mid rest

alone : (level : ℕ) (e : Expr) (ts rest : List Token) → IsExprAt (level + 1) e ts rest → Parted level e ts rest
unfolding TailAt
alone level e ts rest h = record { first = e; tails = []; is = refl; mid = rest; begins = h; goes_on = refl }

tail_more : (level : ℕ) (tails : List (Op × Expr)) (op : Op) (t : Expr) (ts mid rest : List Token) → binding op ≡ level → TailAt level tails ts (op_token op ∷ mid) → IsExprAt (level + 1) t mid rest → TailAt level (tails ++ (op, t) ∷ []) ts rest
unfolding TailAt
tail_more level [] op t ts mid rest is h k = (mid, rest, is, h, k, refl)
tail_more level (x ∷ tails) op t ts mid rest is h k = (h.0, h.1, h.2, h.3, h.4, tail_more level tails op t h.1 mid rest is h.5 k)

grown_more : (tails : List (Op × Expr)) (acc : Expr) (op : Op) (t : Expr) → grown acc (tails ++ (op, t) ∷ []) ≡ operate op (grown acc tails) t
grown_more [] acc op t = refl
grown_more (x ∷ tails) acc op t = grown_more tails (operate x.0 acc x.1) op t

-- the strength that is asked can be one more, except of operations of just this strength
stronger : (level : ℕ) (e : Expr) (ts rest : List Token) → (strength e ≡ level → ⊥) → IsExprAt level e ts rest → IsExprAt (level + 1) e ts rest
stronger level e ts rest other (zero, mid, pairs, a, b) = (zero, mid, λ weak. absurd (by weak), a, b)
  where
    by : strength e < level + 1 → ⊥
    by weak = either_way (eqb (strength e) level) refl
      where
        either_way : (t : Bool) → eqb (strength e) level ≡ t → ⊥
        either_way true e' = other (eqb-true _ _ e')
        either_way false e' =
            let less : strength e < level = omega (arith, weak, eqb-false (strength e) level e') in
            let none = pairs less in
            omega (arith, none)
stronger level e ts rest other (suc k, mid, pairs, a, b) = (suc k, mid, λ weak. omega arith, a, b)

by_level : (level : ℕ) (op : Op) (left right : Expr) (ts mid more rest : List Token) (t : Bool) → eqb (binding op) level ≡ t → IsExprAt level (operate op left right) ts rest → ts ≡ mid
    → IsExprAt (binding op + 1) right more rest → (binding op ≡ level → Parted level left mid (op_token op ∷ more)) → Parted level (operate op left right) ts rest
by_level level op left right ts mid more rest false other h a b parts =
    alone level (operate op left right) ts rest (stronger level (operate op left right) ts rest (eqb-false (binding op) level other) h)
by_level level op left right ts mid more rest true same_level h a b parts =
    let is : binding op ≡ level = eqb-true _ _ same_level in
    let l = parts is in
    record {
      first = l.first;
      tails = l.tails ++ (op, right) ∷ [];
      is = ap (λ x. operate op x right) l.is ∙ sym (grown_more l.tails l.first op right);
      mid = l.mid;
      begins = subst (λ (t : List Token). IsExprAt (level + 1) l.first t l.mid) (sym a) l.begins;
      goes_on = tail_more level l.tails op right l.mid more rest is l.goes_on (subst (λ (n : ℕ). IsExprAt (n + 1) right more rest) is b);
    }

pub parted : (level : ℕ) → level < 2 → (e : Expr) (ts rest : List Token) → IsExprAt level e ts rest → Parted level e ts rest
unfolding IsBareExpr
parted level low (literal word) ts rest h = alone level (literal word) ts rest (stronger level (literal word) ts rest (λ e. omega (arith, low, e)) h)
parted level low (variable name) ts rest h = alone level (variable name) ts rest (stronger level (variable name) ts rest (λ e. omega (arith, low, e)) h)
parted level low (minus inner) ts rest h = alone level (minus inner) ts rest (stronger level (minus inner) ts rest (λ e. omega (arith, low, e)) h)
parted level low (ask callee args) ts rest h = alone level (ask callee args) ts rest (stronger level (ask callee args) ts rest (λ e. omega (arith, low, e)) h)
parted level low (operate op left right) ts rest (suc k, mid, pairs, a, b) =
    alone level (operate op left right) ts rest (suc k, mid, λ weak. omega arith, a, b)
parted level low (operate op left right) ts rest (zero, mid, pairs, a, b) =
    by_level level op left right ts mid b.0 rest (eqb (binding op) level) refl (zero, mid, pairs, a, b) a b.2
    (λ is. parted level low left mid (op_token op ∷ b.0) (subst (λ (n : ℕ). IsExprAt n left mid (op_token op ∷ b.0)) is b.1))

pub fits_stronger : (level : ℕ) (rest : List Token) → FitsAt level rest → FitsAt (level + 1) rest
fits_stronger level rest f = record { no_call = f.no_call; no_op = λ op h. f.no_op op (omega (arith, h)) }

fits_op : (level : ℕ) (op : Op) (mid : List Token) → binding op ≡ level → FitsAt (level + 1) (op_token op ∷ mid)
fits_op level op mid is = record {
  no_call = λ q e. op_paren op mid q e;
  no_op = λ other h q e. let one = op_once op other mid q e in omega (arith, h, is, ap binding one);
}

pub fits_tail : (level : ℕ) (tails : List (Op × Expr)) (q rest : List Token) → FitsAt level rest → TailAt level tails q rest → FitsAt (level + 1) q
unfolding TailAt
fits_tail level [] q rest f h = subst (FitsAt (level + 1)) (sym h) (fits_stronger level rest f)
fits_tail level (t ∷ more) q rest f h = subst (FitsAt (level + 1)) (sym h.3) (fits_op level t.0 h.0 h.2)

-- a tail that begins with an operator of its strength
pub record TailFrom (level : ℕ) (op : Op) (tails : List (Op × Expr)) (us rest : List Token) : Type 0 where
  pub right : Expr
  pub more : List (Op × Expr)
  pub back : List Token
  pub first : IsExprAt (level + 1) right us back
  pub second : TailAt level more back rest

pub tail_behind : (level : ℕ) (op : Op) → binding op ≡ level → (tails : List (Op × Expr)) (us rest : List Token) → FitsAt level rest → TailAt level tails (op_token op ∷ us) rest → TailFrom level op tails us rest
unfolding TailAt
tail_behind level op is [] us rest f k = absurd (f.no_op op (omega (arith, is)) us (sym k))
tail_behind level op is (t ∷ more) us rest f k =
    let here : k.0 ≡ us = cc (k.3) in
    record { right = t.1; more = more; back = k.1; first = subst (λ (u : List Token). IsExprAt (level + 1) t.1 u k.1) here k.4; second = k.5 }
