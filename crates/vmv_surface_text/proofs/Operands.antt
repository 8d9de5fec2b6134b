-- What an operand that is asked for begins with.
use Rattle.std.proofs.Common.{◌≡◌, inl, inr, ℤ, Bool, true, false, List, [], ◌∷◌, ◌++◌, Some, None, refl, sym, ◌∙◌, ap, subst, arith}
use Rattle.vmv_tree.specs.declared.name.Name.{Name}
use Rattle.vmv_text.specs.declared.token.Token.{Token}
use Rattle.vmv_text.specs.declared.token.Token.TheVariants.{Named, Minus, OpenParen, CloseParen}
use Rattle.vmv_text.specs.Tokens.{Placed, tokens_of}
use Rattle.vmv_text.specs.Reading.{Meets, Lacks, first_of}
use Rattle.vmv_text.proofs.Steps.{Open, meets_lacks}
use Rattle.vmv_text.proofs.Single.{meets_first}
use Rattle.vmv_surface.specs.Surface.{Expr, literal, variable, ask, Args, no_args, arg}
use Rattle.vmv_surface_text.specs.Grammar.{IsBareExpr, AreArgs, IsExprAt}
use Rattle.vmv_surface_text.specs.Reading.{FitsAt, EndsLit, IsOther}
use Rattle.vmv_surface_text.specs.Opening.{grown, Pending, nothing, with_sign, group, call, Leaves, BehindTerm, BehindFactor, BehindAtom, BehindIn, FactorAt, FromOperand}
use Rattle.vmv_surface_text.proofs.Chains.{weaker, tails_join, parted}
use Rattle.vmv_surface_text.proofs.Atoms.{NamedCase, NamedFactor, named_factor, grouped_factor, variable_factor, ask_factor, group_factor, lit_factor, lit_only, First, begins}
use Rattle.vmv_surface_text.proofs.Outside.{Surrounds, factor_other, factor_fits, factor_open}

-- an expression in something
pub record Within (outer : Leaves) (e : Expr) (us rest : List Token) : Type 0 where
  pub inner : Expr
  pub mid : List Token
  pub first : IsExprAt 0 inner us mid
  pub second : outer inner e mid rest

pub from_within : (outer : Leaves) (e : Expr) (us rest : List Token) → Within outer e us rest → FromOperand outer nothing e us rest
unfolding FromOperand BehindFactor BehindTerm
from_within outer e us rest w =
    let p = parted 0 (omega arith) w.inner us w.mid w.first in
    let q = parted 1 (omega arith) p.first us p.mid p.begins in
    let is : w.inner ≡ grown (grown q.first q.tails) p.tails = p.is ∙ ap (λ (y : Expr). grown y p.tails) q.is in (
      q.first,
      q.mid,
      q.begins,
      (q.tails, p.mid, q.goes_on, (p.tails, w.mid, p.goes_on, subst (λ (y : Expr). outer y e w.mid rest) is w.second)),
    )

pub to_within : (outer : Leaves) (e : Expr) (us rest : List Token) → FromOperand outer nothing e us rest → Within outer e us rest
unfolding FromOperand BehindFactor BehindTerm
to_within outer e us rest (x, mid, f, (products, back, a, (sums, last, b, k))) = record {
  inner = grown (grown x products) sums;
  mid = last;
  first = tails_join 0 sums (grown x products) us back last (weaker 0 (grown x products) us back (tails_join 1 products x us mid back (weaker 1 x us mid f) a)) b;
  second = k;
}

-- a sign

abbrev pub signed : Pending → Pending
signed p = record { sum = p.sum; product = p.product; signed = true }

abbrev pub unsigned : Pending → Pending
unsigned p = record { sum = p.sum; product = p.product; signed = false }

pub sign_made : (outer : Leaves) (p : Pending) → p.signed ≡ false → (e : Expr) (us rest : List Token) → FromOperand outer (signed p) e us rest → FromOperand outer p e (Minus ∷ us) rest
unfolding FromOperand BehindFactor
sign_made outer p none e us rest (x, mid, f, b) =
    (x, mid, subst (λ (s : Bool). FactorAt s x (Minus ∷ us) mid) (sym none) f, b)

pub sign_only : (outer : Leaves) (p : Pending) → p.signed ≡ false → (e : Expr) (us rest : List Token) → FromOperand outer p e (Minus ∷ us) rest → FromOperand outer (signed p) e us rest
unfolding FromOperand BehindFactor
sign_only outer p none e us rest (x, mid, f, b) =
    (x, mid, subst (λ (s : Bool). FactorAt s x (Minus ∷ us) mid) none f, b)

-- a literal

pub lit_made : (outer : Leaves) (p : Pending) (t : Token) (z : ℤ) → EndsLit p.signed t z → (e : Expr) (us rest : List Token) → BehindFactor outer (unsigned p) (literal z) e us rest → FromOperand outer p e (t ∷ us) rest
unfolding FromOperand BehindFactor
lit_made outer p t z is e us rest k = (literal z, us, lit_factor p.signed t z us is, k)

pub lit_taken : (outer : Leaves) → Surrounds outer → (p : Pending) (t : Token) (z : ℤ) → EndsLit p.signed t z → (e : Expr) (us rest : List Token) → FromOperand outer p e (t ∷ us) rest
    → (whole : Expr) × BehindFactor outer (unsigned p) (literal z) whole us rest
unfolding FromOperand BehindFactor
lit_taken outer s p t z is e us rest (x, mid, f, b) =
    let end = lit_only p.signed t z x us mid is f in
    as_unsigned (factor_other outer s p x (literal z) e us rest (subst (λ (m : List Token). BehindFactor outer p x e m rest) end b))
  where
    as_unsigned : (whole : Expr) × BehindFactor outer p (literal z) whole us rest → (whole : Expr) × BehindFactor outer (unsigned p) (literal z) whole us rest
    as_unsigned k = k

-- a name that no arguments follow

pub variable_made : (outer : Leaves) (p : Pending) (x : Name) (e : Expr) (us rest : List Token) → BehindAtom outer p (variable x) e us rest → FromOperand outer p e (Named x ∷ us) rest
unfolding FromOperand
variable_made outer p x e us rest k = (with_sign p.signed (variable x), us, variable_factor p.signed x us, k)

alone_only : (x : Name) (now : List Placed) → Lacks OpenParen (tokens_of now) → (e : Expr) (us rest : List Token) → Meets now us → NamedCase x e us rest → rest ≡ us
alone_only x now none e us rest m (inl h) = h.1
alone_only x now none e us rest m (inr h) = absurd (meets_lacks OpenParen now us none m h.1 h.3)

pub variable_taken : (outer : Leaves) → Surrounds outer → (p : Pending) (x : Name) (now : List Placed) → Lacks OpenParen (tokens_of now) → (e : Expr) (us rest : List Token) → Meets now us
    → FromOperand outer p e (Named x ∷ us) rest → (whole : Expr) × BehindAtom outer p (variable x) whole us rest
unfolding FromOperand
variable_taken outer s p x now none e us rest m (f, mid, k, b) =
    let n = named_factor p.signed x f us mid k in
    let end = alone_only x now none n.atom us mid m n.parts in
    factor_other outer s p f (with_sign p.signed (variable x)) e us rest (subst (λ (t : List Token). BehindFactor outer p f e t rest) end b)

-- a call

pub record Called (outer : Leaves) (p : Pending) (x : Name) (us rest : List Token) : Type 0 where
  pub args : Args
  pub mid : List Token
  pub whole : Expr
  pub are : AreArgs args us (CloseParen ∷ mid)
  pub behind : BehindAtom outer p (ask x args) whole mid rest

called_parts : (outer : Leaves) → Surrounds outer → (p : Pending) (x : Name) (f e : Expr) (us mid rest : List Token) → FitsAt 0 rest → BehindFactor outer p f e mid rest → NamedFactor p.signed x f (OpenParen ∷ us) mid → Called outer p x us rest
called_parts outer s p x f e us mid rest ok b n = by n.parts
  where
    by : NamedCase x n.atom (OpenParen ∷ us) mid → Called outer p x us rest
    by (inl h) = absurd ((factor_fits outer s p f e mid rest ok b).no_call us h.1)
    by (inr (args, m, a, c, d)) =
        let here : m ≡ us = cc c in
        let o = factor_other outer s p f (with_sign p.signed (ask x args)) e mid rest b in
        record { args = args; mid = mid; whole = o.0; are = subst (λ (t : List Token). AreArgs args t (CloseParen ∷ mid)) here d; behind = o.1 }

pub called : (outer : Leaves) → Surrounds outer → (p : Pending) (x : Name) (e : Expr) (us rest : List Token) → FitsAt 0 rest → FromOperand outer p e (Named x ∷ OpenParen ∷ us) rest → Called outer p x us rest
unfolding FromOperand
called outer s p x e us rest ok (f, mid, k, b) =
    called_parts outer s p x f e us mid rest ok b (named_factor p.signed x f (OpenParen ∷ us) mid k)

call_made : (outer : Leaves) (p : Pending) (x : Name) (args : Args) (e : Expr) (us mid rest : List Token) → AreArgs args us (CloseParen ∷ mid) → BehindAtom outer p (ask x args) e mid rest → FromOperand outer p e (Named x ∷ OpenParen ∷ us) rest
unfolding FromOperand
call_made outer p x args e us mid rest are k = (with_sign p.signed (ask x args), mid, ask_factor p.signed x args us mid are, k)

-- without arguments

pub none_made : (outer : Leaves) (p : Pending) (x : Name) (e : Expr) (us rest : List Token) → BehindAtom outer p (ask x no_args) e us rest → FromOperand outer p e (Named x ∷ OpenParen ∷ CloseParen ∷ us) rest
unfolding IsBareExpr
none_made outer p x e us rest k = call_made outer p x no_args e (CloseParen ∷ us) us rest refl k

-- no expression begins with a closing parenthesis
expr_open : (e : Expr) (us rest : List Token) → IsExprAt 0 e (CloseParen ∷ us) rest → ⊥
unfolding FromOperand
expr_open e us rest k =
    let w = from_within (λ x whole m r. m ≡ r) e (CloseParen ∷ us) rest (record { inner = e; mid = rest; first = k; second = refl }) in
    shut w
  where
    unlike : First false (CloseParen ∷ us) → ⊥
    unlike (inl l) = lit l.token l.word l.ends (cc l.is)
      where
        lit : (t : Token) (z : ℤ) → EndsLit false t z → CloseParen ≡ t → ⊥
        lit t z (n, a, b) c = cc (b, c)
    unlike (inr (inl (q, a, b))) = cc b
    unlike (inr (inr (inl (x, q, b)))) = cc b
    unlike (inr (inr (inr (q, b)))) = cc b

    shut : FromOperand (λ x whole m r. m ≡ r) nothing e (CloseParen ∷ us) rest → ⊥
    shut (x, mid, f, b) = unlike (begins false x (CloseParen ∷ us) mid f)

none_only : (args : Args) (us rest : List Token) → AreArgs args (CloseParen ∷ us) (CloseParen ∷ rest) → rest ≡ us
unfolding IsBareExpr
none_only no_args us rest k = cc k
none_only (arg x more) us rest k = absurd (expr_open x us k.0 k.1)

pub none_taken : (outer : Leaves) → Surrounds outer → (p : Pending) (x : Name) (e : Expr) (us rest : List Token) → FitsAt 0 rest → FromOperand outer p e (Named x ∷ OpenParen ∷ CloseParen ∷ us) rest
    → (whole : Expr) × BehindAtom outer p (ask x no_args) whole us rest
none_taken outer s p x e us rest ok k =
    let c = called outer s p x e (CloseParen ∷ us) rest ok k in
    let end = none_only c.args us c.mid c.are in
    factor_other outer s p (with_sign p.signed (ask x c.args)) (with_sign p.signed (ask x no_args)) c.whole us rest (subst (λ (t : List Token). BehindAtom outer p (ask x c.args) c.whole t rest) end c.behind)

-- with some

abbrev pub InCall : Leaves → Pending → Name → Leaves
InCall outer p x = BehindIn outer p (call x no_args)

pub some_made : (outer : Leaves) (p : Pending) (x : Name) (e : Expr) (us rest : List Token) → FromOperand (InCall outer p x) nothing e us rest → FromOperand outer p e (Named x ∷ OpenParen ∷ us) rest
unfolding BehindIn IsBareExpr
some_made outer p x e us rest k = by (to_within (InCall outer p x) e us rest k)
  where
    by : Within (InCall outer p x) e us rest → FromOperand outer p e (Named x ∷ OpenParen ∷ us) rest
    by w = call_made outer p x (arg w.inner w.second.0) e us w.second.1 rest (w.mid, w.first, w.second.2) w.second.3

some_parts : (outer : Leaves) (p : Pending) (x : Name) (now : List Placed) → Lacks CloseParen (tokens_of now) → (args : Args) (e : Expr) (us mid rest : List Token) → Meets now us → AreArgs args us (CloseParen ∷ mid)
    → BehindAtom outer p (ask x args) e mid rest → Within (InCall outer p x) e us rest
unfolding BehindIn IsBareExpr
some_parts outer p x now none no_args e us mid rest m are k = absurd (meets_lacks CloseParen now us none m mid are)
some_parts outer p x now none (arg y more) e us mid rest m are k = record { inner = y; mid = are.0; first = are.1; second = (more, mid, are.2, k) }

pub some_taken : (outer : Leaves) → Surrounds outer → (p : Pending) (x : Name) (now : List Placed) → Lacks CloseParen (tokens_of now) → (e : Expr) (us rest : List Token) → Meets now us → FitsAt 0 rest
    → FromOperand outer p e (Named x ∷ OpenParen ∷ us) rest → (whole : Expr) × FromOperand (InCall outer p x) nothing whole us rest
some_taken outer s p x now none e us rest m ok k =
    let c = called outer s p x e us rest ok k in
    (c.whole, from_within (InCall outer p x) c.whole us rest (some_parts outer p x now none c.args c.whole us c.mid rest m c.are c.behind))

-- a group

pub group_made : (outer : Leaves) (p : Pending) (e : Expr) (us rest : List Token) → FromOperand (BehindIn outer p group) nothing e us rest → FromOperand outer p e (OpenParen ∷ us) rest
unfolding BehindIn FromOperand
group_made outer p e us rest k = by (to_within (BehindIn outer p group) e us rest k)
  where
    by : Within (BehindIn outer p group) e us rest → FromOperand outer p e (OpenParen ∷ us) rest
    by w = (
      with_sign p.signed w.inner,
      w.second.0,
      group_factor p.signed w.inner us w.second.0 (subst (λ (t : List Token). IsExprAt 0 w.inner us t) w.second.1 w.first),
      w.second.2,
    )

pub group_taken : (outer : Leaves) (p : Pending) (e : Expr) (us rest : List Token) → FromOperand outer p e (OpenParen ∷ us) rest → FromOperand (BehindIn outer p group) nothing e us rest
unfolding FromOperand BehindIn
group_taken outer p e us rest (f, mid, k, b) =
    let g = grouped_factor p.signed f us mid k in
    from_within (BehindIn outer p group) e us rest
    (record { inner = g.inner; mid = CloseParen ∷ mid; first = g.inside; second = (mid, refl, subst (λ (y : Expr). BehindFactor outer p y e mid rest) g.is b) })

-- nothing begins an operand

pub operand_open : (outer : Leaves) → Surrounds outer → (p : Pending) → Open (FromOperand outer p)
operand_open outer s p =
    let o = factor_open outer s p (with_sign p.signed (variable (97 ∷ []))) in
    record { some = o.some; more = Named (97 ∷ []) ∷ o.more; goes_on = λ rest. variable_made outer p (97 ∷ []) o.some (o.more ++ rest) rest (o.goes_on rest) }

pub record Unlike (signed : Bool) (now : List Placed) : Type 0 where
  pub no_lit : (t : Token) (z : ℤ) → EndsLit signed t z → first_of now ≡ Some t → ⊥
  pub no_sign : signed ≡ false → first_of now ≡ Some Minus → ⊥
  pub no_name : (x : Name) → first_of now ≡ Some (Named x) → ⊥
  pub no_group : first_of now ≡ Some OpenParen → ⊥

unlike : (signed : Bool) (now : List Placed) → Unlike signed now → (us : List Token) → Meets now us → First signed us → ⊥
unlike signed now u us m (inl l) = u.no_lit l.token l.word l.ends (meets_first l.token now us l.more m l.is)
unlike signed now u us m (inr (inl (q, a, b))) = u.no_sign a (meets_first Minus now us q m b)
unlike signed now u us m (inr (inr (inl (x, q, b)))) = u.no_name x (meets_first (Named x) now us q m b)
unlike signed now u us m (inr (inr (inr (q, b)))) = u.no_group (meets_first OpenParen now us q m b)

pub operand_shut : (outer : Leaves) (p : Pending) (now : List Placed) → Unlike p.signed now → (e : Expr) (us rest : List Token) → Meets now us → FromOperand outer p e us rest → ⊥
unfolding FromOperand
operand_shut outer p now u e us rest m (x, mid, f, b) = unlike p.signed now u us m (begins p.signed x us mid f)

minus_no_lit : (signed : Bool) (z : ℤ) → EndsLit signed Minus z → ⊥
minus_no_lit true z (inl (n, a, b)) = cc b
minus_no_lit true z (inr (a, b)) = cc b
minus_no_lit false z (n, a, b) = cc b

pub sign_unlike : (signed : Bool) (now : List Placed) → signed ≡ true → first_of now ≡ Some Minus → Unlike signed now
sign_unlike signed now is first = record {
  no_lit = λ t z k h.
      let this : t ≡ Minus = cc (first, h) in
      minus_no_lit signed z (subst (λ (u : Token). EndsLit signed u z) this k);
  no_sign = λ none h. cc (is, none);
  no_name = λ x h. cc (first, h);
  no_group = λ h. cc (first, h);
}

pub none_unlike : (signed : Bool) (now : List Placed) → first_of now ≡ None → Unlike signed now
none_unlike signed now none = record {
  no_lit = λ t z k h. cc (none, h);
  no_sign = λ s h. cc (none, h);
  no_name = λ x h. cc (none, h);
  no_group = λ h. cc (none, h);
}

pub other_unlike : (signed : Bool) (now : List Placed) (first : Token) → IsOther now first → ((z : ℤ) → EndsLit signed first z → ⊥) → Unlike signed now
other_unlike signed now first other none = record {
  no_lit = λ t z k h.
      let next = other.next in
      let this : t ≡ first = cc (next, h) in
      none z (subst (λ (u : Token). EndsLit signed u z) this k);
  no_sign = λ s h.
      let next = other.next in
      other.no_sign (cc (next, h));
  no_name = λ x h.
      let next = other.next in
      other.no_name x (cc (next, h));
  no_group = λ h.
      let next = other.next in
      other.no_group (cc (next, h));
}
