-- What begins with one token: literals, names, calls, and what stands in parentheses.
use Rattle.std.proofs.lemmas.Bool.{leb-true, leb-false}
use Rattle.std.proofs.Math.Dec.{leb}
use Rattle.std.proofs.Common.{Bool, true, ◌≡◌, ◌⊎◌, inl, inr, ℕ, zero, suc, ◌<◌, ◌≤◌, ◌^◌, ℤ, pos, neg_ℤ, List, ◌∷◌, ◌++◌, replicate, false, refl, sym, ◌∙◌, ap, subst, arith}
use Rattle.vmv_tree.specs.declared.name.Name.{Name}
use Rattle.vmv_tree.specs.declared.tree.Op.{Op}
use Rattle.vmv_tree.specs.declared.tree.Op.TheVariants.{Add, Sub, Mul, Div, Rem}
use Rattle.vmv_text.specs.declared.token.Token.{Token}
use Rattle.vmv_text.specs.declared.token.Token.TheVariants.{Named, Number, Edge, Minus, OpenParen, CloseParen, Comma}
use Rattle.vmv_text.specs.Grammar.{op_token}
use Rattle.vmv_surface.specs.Surface.{Expr, literal, variable, operate, minus, ask, Args}
use Rattle.vmv_surface_text.specs.Grammar.{IsBareExpr, AreArgs, IsExprAt, binding, strength}
use Rattle.vmv_surface_text.specs.Reading.{FitsAt, EndsLit}
use Rattle.vmv_surface_text.specs.Opening.{FactorAt, with_sign}
use Rattle.vmv_surface_text.proofs.Chains.{weaker}

binding_low : (op : Op) → binding op < 2
binding_low Add = omega arith
binding_low Sub = omega arith
binding_low Mul = omega arith
binding_low Div = omega arith
binding_low Rem = omega arith

-- in parentheses, what stands inside
closers : (k : ℕ) (rest : List Token) → replicate k CloseParen ++ (CloseParen ∷ rest) ≡ replicate (suc k) CloseParen ++ rest
closers zero rest = refl
closers (suc k) rest = ap (λ t. CloseParen ∷ t) (closers k rest)

pub opened : (asked : ℕ) (e : Expr) (us rest : List Token) → IsExprAt 0 e us (CloseParen ∷ rest) → IsExprAt asked e (OpenParen ∷ us) rest
opened asked e us rest (k, mid, pairs, a, b) =
    (suc k, mid, λ weak. omega arith, ap (λ t. OpenParen ∷ t) a, subst (IsBareExpr e mid) (closers k rest) b)

no_paren : (e : Expr) (ts rest q : List Token) → 2 ≤ strength e → IsBareExpr e ts rest → ts ≡ OpenParen ∷ q → ⊥
unfolding IsBareExpr
no_paren (literal word) ts rest q h (inl (n, a, b)) k = cc (b, k)
no_paren (literal word) ts rest q h (inr (inl (n, a, b))) k = cc (b, k)
no_paren (literal word) ts rest q h (inr (inr (a, b))) k = cc (b, k)
no_paren (variable name) ts rest q h b k = cc (b, k)
no_paren (operate op left right) ts rest q h b k = omega (arith, h, binding_low op)
no_paren (minus inner) ts rest q h b k = cc (b.1, k)
no_paren (ask callee args) ts rest q h b k = cc (b.1, k)

strong_enough : (s asked : ℕ) → (s < asked → 0 < 0) → asked ≤ s
strong_enough s asked pairs = either (leb asked s) refl
  where
    either : (b : Bool) → leb asked s ≡ b → asked ≤ s
    either true e = leb-true asked s e
    either false e =
        let none = pairs (leb-false asked s e) in
        absurd (omega (arith, none))

pub inside : (asked : ℕ) → 2 ≤ asked → (e : Expr) (us rest : List Token) → IsExprAt asked e (OpenParen ∷ us) rest → IsExprAt 0 e us (CloseParen ∷ rest)
inside asked low e us rest (zero, mid, pairs, a, b) = absurd (no_paren e mid rest us (omega (arith, low, strong_enough (strength e) asked pairs)) b (sym a))
inside asked low e us rest (suc k, mid, pairs, a, b) = (k, mid, λ h. absurd (omega (arith, h)), cc a, subst (IsBareExpr e mid) (sym (closers k rest)) b)

pub fits_close : (rest : List Token) → FitsAt 0 (CloseParen ∷ rest)
fits_close rest = record { no_call = λ q e. cc e; no_op = λ op h q e. no_close op q e }
  where
    no_close : (op : Op) (q : List Token) → ◌≡◌ {A = List Token} (CloseParen ∷ rest) (op_token op ∷ q) → ⊥
    no_close Add q e = cc e
    no_close Sub q e = cc e
    no_close Mul q e = cc e
    no_close Div q e = cc e
    no_close Rem q e = cc e

pub fits_comma : (mid : List Token) → FitsAt 0 (Comma ∷ mid)
fits_comma mid = record { no_call = λ q e. cc e; no_op = λ op h q e. no_comma op q e }
  where
    no_comma : (op : Op) (q : List Token) → ◌≡◌ {A = List Token} (Comma ∷ mid) (op_token op ∷ q) → ⊥
    no_comma Add q e = cc e
    no_comma Sub q e = cc e
    no_comma Mul q e = cc e
    no_comma Div q e = cc e
    no_comma Rem q e = cc e

-- behind a name: nothing, or arguments
abbrev pub NamedCase : Name → Expr → (us rest : List Token) → Type 0
NamedCase x e us rest =
    ((e ≡ variable x) × (rest ≡ us)) ⊎ ((args : Args) × (m : List Token) × (e ≡ ask x args) × (us ≡ OpenParen ∷ m) × AreArgs args m (CloseParen ∷ rest))

named_case : (asked : ℕ) → 2 ≤ asked → (x : Name) (e : Expr) (us rest : List Token) → IsExprAt asked e (Named x ∷ us) rest → NamedCase x e us rest
unfolding IsBareExpr
named_case asked low x e us rest (suc k, mid, pairs, a, b) = absurd (cc a)
named_case asked low x (literal word) us rest (zero, mid, pairs, a, inl (n, b, d)) = absurd (cc (a, d))
named_case asked low x (literal word) us rest (zero, mid, pairs, a, inr (inl (n, b, d))) = absurd (cc (a, d))
named_case asked low x (literal word) us rest (zero, mid, pairs, a, inr (inr (b, d))) = absurd (cc (a, d))
named_case asked low x (variable y) us rest (zero, mid, pairs, a, b) =
    let name : y ≡ x = cc (a, b) in
    inl (ap variable name, cc (a, b))
named_case asked low x (operate op left right) us rest (zero, mid, pairs, a, b) = absurd (omega (arith, low, pairs, binding_low op))
named_case asked low x (minus inner) us rest (zero, mid, pairs, a, b) = absurd (cc (a, b.1))
named_case asked low x (ask callee args) us rest (zero, mid, pairs, a, b) =
    let name : callee ≡ x = cc (a, b.1) in
    inr (args, b.0, ap (λ f. ask f args) name, cc (a, b.1), b.2)

variable_made : (asked : ℕ) → asked ≤ 3 → (x : Name) (us : List Token) → IsExprAt asked (variable x) (Named x ∷ us) us
unfolding IsBareExpr
variable_made asked h x us = (0, Named x ∷ us, λ weak. absurd (omega (arith, weak, h)), refl, refl)

ask_made : (asked : ℕ) → asked ≤ 3 → (x : Name) (args : Args) (us rest : List Token) → AreArgs args us (CloseParen ∷ rest) → IsExprAt asked (ask x args) (Named x ∷ (OpenParen ∷ us)) rest
unfolding IsBareExpr
ask_made asked h x args us rest k = (0, Named x ∷ OpenParen ∷ us, λ weak. absurd (omega (arith, weak, h)), refl, (us, refl, k))

-- nothing else begins an atom
atom_first : (e : Expr) (us rest : List Token) → IsExprAt 3 e us rest → ((x : Name) (q : List Token) → us ≡ Named x ∷ q → ⊥) → ((q : List Token) → us ≡ OpenParen ∷ q → ⊥) → ⊥
unfolding IsBareExpr
atom_first e us rest (suc k, mid, pairs, a, b) named paren = paren (replicate k OpenParen ++ mid) a
atom_first (literal word) us rest (zero, mid, pairs, a, b) named paren = omega (arith, pairs)
atom_first (variable x) us rest (zero, mid, pairs, a, b) named paren = named x rest (a ∙ b)
atom_first (operate op left right) us rest (zero, mid, pairs, a, b) named paren = omega (arith, pairs, binding_low op)
atom_first (minus inner) us rest (zero, mid, pairs, a, b) named paren = omega (arith, pairs)
atom_first (ask callee args) us rest (zero, mid, pairs, a, b) named paren = named callee (OpenParen ∷ b.0) (a ∙ b.1)

-- a number

number_made : (n : ℕ) (us : List Token) → IsExprAt 2 (literal (pos n)) (Number n ∷ us) us
unfolding IsBareExpr
number_made n us = (0, Number n ∷ us, λ weak. absurd (omega (arith, weak)), refl, inl (n, refl, refl))

number_only : (n : ℕ) (e : Expr) (us rest : List Token) → IsExprAt 2 e (Number n ∷ us) rest → rest ≡ us
unfolding IsBareExpr
number_only n e us rest (suc k, mid, pairs, a, b) = absurd (cc a)
number_only n (literal word) us rest (zero, mid, pairs, a, inl (m, b, d)) = cc (a, d)
number_only n (literal word) us rest (zero, mid, pairs, a, inr (inl (m, b, d))) = absurd (cc (a, d))
number_only n (literal word) us rest (zero, mid, pairs, a, inr (inr (b, d))) = absurd (cc (a, d))
number_only n (variable x) us rest (zero, mid, pairs, a, b) = absurd (cc (a, b))
number_only n (operate op left right) us rest (zero, mid, pairs, a, b) = absurd (omega (arith, pairs, binding_low op))
number_only n (minus inner) us rest (zero, mid, pairs, a, b) = absurd (cc (a, b.1))
number_only n (ask callee args) us rest (zero, mid, pairs, a, b) = absurd (cc (a, b.1))

-- behind a sign: a number, or an atom

abbrev SignCase : Expr → (us rest : List Token) → Type 0
SignCase e us rest =
    ((n : ℕ) × (e ≡ literal (neg_ℤ (pos n))) × (us ≡ Number n ∷ rest))
    ⊎ (((e ≡ literal (neg_ℤ (pos (2 ^ 63)))) × (us ≡ Edge ∷ rest))
    ⊎ ((inner : Expr) × (e ≡ minus inner) × IsExprAt 3 inner us rest))

sign_case : (e : Expr) (us rest : List Token) → IsExprAt 2 e (Minus ∷ us) rest → SignCase e us rest
unfolding IsBareExpr
sign_case e us rest (suc k, mid, pairs, a, b) = absurd (cc a)
sign_case (literal word) us rest (zero, mid, pairs, a, inl (m, b, d)) = absurd (cc (a, d))
sign_case (literal word) us rest (zero, mid, pairs, a, inr (inl (m, b, d))) = inl (m, ap literal b, cc (a, d))
sign_case (literal word) us rest (zero, mid, pairs, a, inr (inr (b, d))) = inr (inl (ap literal b, cc (a, d)))
sign_case (variable x) us rest (zero, mid, pairs, a, b) = absurd (cc (a, b))
sign_case (operate op left right) us rest (zero, mid, pairs, a, b) = absurd (omega (arith, pairs, binding_low op))
sign_case (minus inner) us rest (zero, mid, pairs, a, b) =
    let here : b.0 ≡ us = cc (a, b.1) in
    inr (inr (inner, refl, subst (λ (t : List Token). IsExprAt 3 inner t rest) here b.2))
sign_case (ask callee args) us rest (zero, mid, pairs, a, b) = absurd (cc (a, b.1))

signed_number : (n : ℕ) (us : List Token) → IsExprAt 2 (literal (neg_ℤ (pos n))) (Minus ∷ (Number n ∷ us)) us
unfolding IsBareExpr
signed_number n us = (0, Minus ∷ Number n ∷ us, λ weak. absurd (omega (arith, weak)), refl, inr (inl (n, refl, refl)))

signed_edge : (us : List Token) → IsExprAt 2 (literal (neg_ℤ (pos (2 ^ 63)))) (Minus ∷ (Edge ∷ us)) us
unfolding IsBareExpr
signed_edge us = (0, Minus ∷ Edge ∷ us, λ weak. absurd (omega (arith, weak)), refl, inr (inr (refl, refl)))

signed_atom : (inner : Expr) (us rest : List Token) → IsExprAt 3 inner us rest → IsExprAt 2 (minus inner) (Minus ∷ us) rest
unfolding IsBareExpr
signed_atom inner us rest k = (0, Minus ∷ us, λ weak. absurd (omega (arith, weak)), refl, (us, refl, k))

number_behind : (n : ℕ) (e : Expr) (us rest : List Token) → SignCase e (Number n ∷ us) rest → rest ≡ us
number_behind n e us rest (inl (m, a, b)) = cc b
number_behind n e us rest (inr (inl (a, b))) = absurd (cc b)
number_behind n e us rest (inr (inr (inner, a, b))) = absurd (atom_first inner (Number n ∷ us) rest b (λ x q h. cc h) (λ q h. cc h))

edge_behind : (e : Expr) (us rest : List Token) → SignCase e (Edge ∷ us) rest → rest ≡ us
edge_behind e us rest (inl (m, a, b)) = absurd (cc b)
edge_behind e us rest (inr (inl (a, b))) = cc b
edge_behind e us rest (inr (inr (inner, a, b))) = absurd (atom_first inner (Edge ∷ us) rest b (λ x q h. cc h) (λ q h. cc h))

-- a factor, from behind its sign on where there is one

pub atom_factor : (signed : Bool) (e : Expr) (us rest : List Token) → IsExprAt 3 e us rest → FactorAt signed (with_sign signed e) us rest
atom_factor true e us rest k = signed_atom e us rest k
atom_factor false e us rest k = weaker 2 e us rest k

pub variable_factor : (signed : Bool) (x : Name) (us : List Token) → FactorAt signed (with_sign signed (variable x)) (Named x ∷ us) us
variable_factor signed x us = atom_factor signed (variable x) (Named x ∷ us) us (variable_made 3 (omega arith) x us)

pub ask_factor : (signed : Bool) (x : Name) (args : Args) (us rest : List Token) → AreArgs args us (CloseParen ∷ rest) → FactorAt signed (with_sign signed (ask x args)) (Named x ∷ OpenParen ∷ us) rest
ask_factor signed x args us rest k = atom_factor signed (ask x args) (Named x ∷ OpenParen ∷ us) rest (ask_made 3 (omega arith) x args us rest k)

pub group_factor : (signed : Bool) (e : Expr) (us rest : List Token) → IsExprAt 0 e us (CloseParen ∷ rest) → FactorAt signed (with_sign signed e) (OpenParen ∷ us) rest
group_factor signed e us rest k = atom_factor signed e (OpenParen ∷ us) rest (opened 3 e us rest k)

-- the factor that begins with a name

pub record NamedFactor (signed : Bool) (x : Name) (e : Expr) (us rest : List Token) : Type 0 where
  pub atom : Expr
  pub is : e ≡ with_sign signed atom
  pub parts : NamedCase x atom us rest

pub named_factor : (signed : Bool) (x : Name) (e : Expr) (us rest : List Token) → FactorAt signed e (Named x ∷ us) rest → NamedFactor signed x e us rest
named_factor false x e us rest k = record { atom = e; is = refl; parts = named_case 2 (omega arith) x e us rest k }
named_factor true x e us rest k = by (sign_case e (Named x ∷ us) rest k)
  where
    by : SignCase e (Named x ∷ us) rest → NamedFactor true x e us rest
    by (inl (n, a, b)) = absurd (cc b)
    by (inr (inl (a, b))) = absurd (cc b)
    by (inr (inr (inner, a, b))) = record { atom = inner; is = a; parts = named_case 3 (omega arith) x inner us rest b }

-- the one that begins with a parenthesis

pub record GroupFactor (signed : Bool) (e : Expr) (us rest : List Token) : Type 0 where
  pub inner : Expr
  pub is : e ≡ with_sign signed inner
  pub inside : IsExprAt 0 inner us (CloseParen ∷ rest)

pub grouped_factor : (signed : Bool) (e : Expr) (us rest : List Token) → FactorAt signed e (OpenParen ∷ us) rest → GroupFactor signed e us rest
grouped_factor false e us rest k = record { inner = e; is = refl; inside = inside 2 (omega arith) e us rest k }
grouped_factor true e us rest k = by (sign_case e (OpenParen ∷ us) rest k)
  where
    by : SignCase e (OpenParen ∷ us) rest → GroupFactor true e us rest
    by (inl (n, a, b)) = absurd (cc b)
    by (inr (inl (a, b))) = absurd (cc b)
    by (inr (inr (inner, a, b))) = record { inner = inner; is = a; inside = inside 3 (omega arith) inner us rest b }

-- a literal

pub lit_factor : (signed : Bool) (t : Token) (z : ℤ) (us : List Token) → EndsLit signed t z → FactorAt signed (literal z) (t ∷ us) us
lit_factor true t z us (inl (n, a, b)) =
    let this : t ≡ Number n = cc b in
    subst (λ (u : Token). IsExprAt 2 (literal z) (Minus ∷ u ∷ us) us) (sym this) (subst (λ (w : ℤ). IsExprAt 2 (literal w) (Minus ∷ Number n ∷ us) us) (sym a) (signed_number n us))
lit_factor true t z us (inr (a, b)) =
    let this : t ≡ Edge = cc b in
    subst (λ (u : Token). IsExprAt 2 (literal z) (Minus ∷ u ∷ us) us) (sym this) (subst (λ (w : ℤ). IsExprAt 2 (literal w) (Minus ∷ Edge ∷ us) us) (sym a) (signed_edge us))
lit_factor false t z us (n, a, b) =
    subst (λ (u : Token). IsExprAt 2 (literal z) (u ∷ us) us) (sym b) (subst (λ (w : ℤ). IsExprAt 2 (literal w) (Number n ∷ us) us) (sym a) (number_made n us))

pub lit_only : (signed : Bool) (t : Token) (z : ℤ) (e : Expr) (us rest : List Token) → EndsLit signed t z → FactorAt signed e (t ∷ us) rest → rest ≡ us
lit_only true t z e us rest (inl (n, a, b)) k =
    let this : t ≡ Number n = cc b in
    number_behind n e us rest (sign_case e (Number n ∷ us) rest (subst (λ (u : Token). IsExprAt 2 e (Minus ∷ u ∷ us) rest) this k))
lit_only true t z e us rest (inr (a, b)) k =
    let this : t ≡ Edge = cc b in
    edge_behind e us rest (sign_case e (Edge ∷ us) rest (subst (λ (u : Token). IsExprAt 2 e (Minus ∷ u ∷ us) rest) this k))
lit_only false t z e us rest (n, a, b) k = number_only n e us rest (subst (λ (u : Token). IsExprAt 2 e (u ∷ us) rest) b k)

-- what a factor begins with

pub record LitFirst (signed : Bool) (us : List Token) : Type 0 where
  pub token : Token
  pub word : ℤ
  pub more : List Token
  pub is : us ≡ token ∷ more
  pub ends : EndsLit signed token word

abbrev pub First : Bool → List Token → Type 0
First signed us =
    LitFirst signed us ⊎ (((q : List Token) × (signed ≡ false) × (us ≡ Minus ∷ q)) ⊎ (((x : Name) × (q : List Token) × (us ≡ Named x ∷ q)) ⊎ ((q : List Token) × (us ≡ OpenParen ∷ q))))

atom_begins : (signed : Bool) (e : Expr) (us rest : List Token) → IsExprAt 3 e us rest → First signed us
unfolding IsBareExpr
atom_begins signed e us rest (suc k, mid, pairs, a, b) = inr (inr (inr (replicate k OpenParen ++ mid, a)))
atom_begins signed (literal word) us rest (zero, mid, pairs, a, b) = absurd (omega (arith, pairs))
atom_begins signed (variable x) us rest (zero, mid, pairs, a, b) = inr (inr (inl (x, rest, a ∙ b)))
atom_begins signed (operate op left right) us rest (zero, mid, pairs, a, b) = absurd (omega (arith, pairs, binding_low op))
atom_begins signed (minus inner) us rest (zero, mid, pairs, a, b) = absurd (omega (arith, pairs))
atom_begins signed (ask callee args) us rest (zero, mid, pairs, a, b) = inr (inr (inl (callee, OpenParen ∷ b.0, a ∙ b.1)))

factor_begins : (e : Expr) (us rest : List Token) → IsExprAt 2 e us rest → First false us
unfolding IsBareExpr
factor_begins e us rest (suc k, mid, pairs, a, b) = inr (inr (inr (replicate k OpenParen ++ mid, a)))
factor_begins (literal word) us rest (zero, mid, pairs, a, inl (n, b, d)) =
    inl (record { token = Number n; word = pos n; more = rest; is = a ∙ d; ends = (n, refl, refl) })
factor_begins (literal word) us rest (zero, mid, pairs, a, inr (inl (n, b, d))) = inr (inl (Number n ∷ rest, refl, a ∙ d))
factor_begins (literal word) us rest (zero, mid, pairs, a, inr (inr (b, d))) = inr (inl (Edge ∷ rest, refl, a ∙ d))
factor_begins (variable x) us rest (zero, mid, pairs, a, b) = inr (inr (inl (x, rest, a ∙ b)))
factor_begins (operate op left right) us rest (zero, mid, pairs, a, b) = absurd (omega (arith, pairs, binding_low op))
factor_begins (minus inner) us rest (zero, mid, pairs, a, b) = inr (inl (b.0, refl, a ∙ b.1))
factor_begins (ask callee args) us rest (zero, mid, pairs, a, b) = inr (inr (inl (callee, OpenParen ∷ b.0, a ∙ b.1)))

signed_begins : (e : Expr) (us rest : List Token) → SignCase e us rest → First true us
signed_begins e us rest (inl (n, a, b)) =
    inl (record { token = Number n; word = neg_ℤ (pos n); more = rest; is = b; ends = inl (n, refl, refl) })
signed_begins e us rest (inr (inl (a, b))) =
    inl (record { token = Edge; word = neg_ℤ (pos (2 ^ 63)); more = rest; is = b; ends = inr (refl, refl) })
signed_begins e us rest (inr (inr (inner, a, b))) = atom_begins true inner us rest b

pub begins : (signed : Bool) (e : Expr) (us rest : List Token) → FactorAt signed e us rest → First signed us
begins true e us rest k = signed_begins e us rest (sign_case e us rest k)
begins false e us rest k = factor_begins e us rest k
