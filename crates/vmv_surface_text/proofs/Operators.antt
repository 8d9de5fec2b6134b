-- What stands behind an operand.
use Rattle.std.proofs.Common.{◌≡◌, ℕ, false, List, [], ◌∷◌, Option, Some, None, refl, sym, ap, subst, arith}
use Rattle.vmv_tree.specs.declared.name.Name.{Name}
use Rattle.vmv_tree.specs.declared.tree.Op.{Op}
use Rattle.vmv_text.specs.declared.token.Token.{Token}
use Rattle.vmv_text.specs.declared.token.Token.TheVariants.{CloseParen, Comma}
use Rattle.vmv_text.specs.Tokens.{Placed, tokens_of}
use Rattle.vmv_text.specs.Grammar.{op_token}
use Rattle.vmv_text.specs.Reading.{Meets, Lacks, first_of}
use Rattle.vmv_text.proofs.Steps.{meets_lacks}
use Rattle.vmv_text.proofs.Single.{meets_first}
use Rattle.vmv_surface.specs.Surface.{Expr, operate, ask, Args, no_args, arg}
use Rattle.vmv_surface_text.specs.Grammar.{IsBareExpr, AreMoreArgs, IsExprAt, binding}
use Rattle.vmv_surface_text.specs.Reading.{FitsAt}
use Rattle.vmv_surface_text.specs.Opening.{TailAt, grown, onto, Left, joined, Pending, nothing, group, call, Leaves, BehindTerm, BehindFactor, BehindAtom, BehindIn, FromOperand}
use Rattle.vmv_surface_text.proofs.Chains.{weaker, tails_join, parted, tail_behind}
use Rattle.vmv_surface_text.proofs.Outside.{Surrounds, term_other, term_fits}
use Rattle.vmv_surface_text.proofs.Operands.{Within, from_within, to_within}

-- a product

abbrev pub with_product : Pending → Expr → Op → Pending
with_product p x op =
    record { sum = p.sum; product = Some (record { left = joined p.product x; op = op }); signed = false }

pub product_made : (outer : Leaves) (p : Pending) (x : Expr) (op : Op) → binding op ≡ 1 → (e : Expr) (us rest : List Token) → FromOperand outer (with_product p x op) e us rest → BehindFactor outer p x e (op_token op ∷ us) rest
unfolding FromOperand BehindFactor TailAt
product_made outer p x op is e us rest (y, mid, f, (products, back, a, b)) = ((op, y) ∷ products, back, (us, mid, is, refl, f, a), b)

pub product_taken : (outer : Leaves) → Surrounds outer → (p : Pending) (x : Expr) (op : Op) → binding op ≡ 1 → (e : Expr) (us rest : List Token) → FitsAt 0 rest → BehindFactor outer p x e (op_token op ∷ us) rest
    → (whole : Expr) × FromOperand outer (with_product p x op) whole us rest
unfolding FromOperand BehindFactor
product_taken outer s p x op is e us rest ok (products, mid, a, b) =
    let t = tail_behind 1 op is products us mid (term_fits outer s p.sum (grown (joined p.product x) products) e mid rest ok b) a in
    let o = term_other outer s p.sum p.sum (grown (joined p.product x) products) (grown (operate op (joined p.product x) t.right) t.more) e mid rest b in
    (o.0, (t.right, t.back, t.first, (t.more, mid, t.second, o.1)))

-- no product: a whole term was read

pub term_made : (outer : Leaves) (p : Pending) (x e : Expr) (us rest : List Token) → BehindTerm outer p.sum (joined p.product x) e us rest → BehindFactor outer p x e us rest
unfolding BehindFactor TailAt
term_made outer p x e us rest k = ([], us, refl, k)

no_tail : (level : ℕ) (now : List Placed) → ((op : Op) → binding op ≡ level → first_of now ≡ Some (op_token op) → ⊥) → (tails : List (Op × Expr)) (us rest : List Token) → Meets now us → TailAt level tails us rest → us ≡ rest
unfolding TailAt
no_tail level now none [] us rest m k = k
no_tail level now none (t ∷ more) us rest m k = absurd (none t.0 k.2 (meets_first (op_token t.0) now us k.0 m k.3))

pub term_taken : (outer : Leaves) → Surrounds outer → (p : Pending) (x : Expr) (now : List Placed) → ((op : Op) → binding op ≡ 1 → first_of now ≡ Some (op_token op) → ⊥) → (e : Expr) (us rest : List Token) → Meets now us
    → BehindFactor outer p x e us rest → (whole : Expr) × BehindTerm outer p.sum (joined p.product x) whole us rest
unfolding BehindFactor
term_taken outer s p x now none e us rest m (products, mid, a, b) =
    let end = no_tail 1 now none products us mid m a in
    term_other outer s p.sum p.sum (grown (joined p.product x) products) (joined p.product x) e us rest (subst (λ (t : List Token). BehindTerm outer p.sum (grown (joined p.product x) products) e t rest) (sym end) b)

-- a sum

abbrev pub with_sum : Option Left → Expr → Op → Pending
with_sum sum t op = record { sum = Some (record { left = joined sum t; op = op }); product = None; signed = false }

pub sum_made : (outer : Leaves) (sum : Option Left) (t : Expr) (op : Op) → binding op ≡ 0 → (e : Expr) (us rest : List Token) → FromOperand outer (with_sum sum t op) e us rest → BehindTerm outer sum t e (op_token op ∷ us) rest
unfolding FromOperand BehindFactor BehindTerm TailAt
sum_made outer sum t op is e us rest (y, mid, f, (products, back, a, (sums, last, b, k))) =
    ((op, grown y products) ∷ sums, last, (us, back, is, refl, tails_join 1 products y us mid back (weaker 1 y us mid f) a, b), k)

pub sum_taken : (outer : Leaves) → Surrounds outer → (sum : Option Left) (t : Expr) (op : Op) → binding op ≡ 0 → (e : Expr) (us rest : List Token) → FitsAt 0 rest → BehindTerm outer sum t e (op_token op ∷ us) rest
    → (whole : Expr) × FromOperand outer (with_sum sum t op) whole us rest
unfolding FromOperand BehindFactor BehindTerm
sum_taken outer s sum t op is e us rest ok (sums, mid, a, k) =
    let r = tail_behind 0 op is sums us mid (s.fits (grown (joined sum t) sums) e mid rest ok k) a in
    let q = parted 1 (omega arith) r.right us r.back r.first in
    let o = s.other (grown (joined sum t) sums) (grown (operate op (joined sum t) (grown q.first q.tails)) r.more) e mid rest k in
    (o.0, (q.first, q.mid, q.begins, (q.tails, r.back, q.goes_on, (r.more, mid, r.second, o.1))))

-- no sum: a whole expression was read

pub whole_made : (outer : Leaves) (sum : Option Left) (t e : Expr) (us rest : List Token) → outer (joined sum t) e us rest → BehindTerm outer sum t e us rest
unfolding BehindTerm TailAt
whole_made outer sum t e us rest k = ([], us, refl, k)

pub whole_taken : (outer : Leaves) → Surrounds outer → (sum : Option Left) (t : Expr) (now : List Placed) → ((op : Op) → binding op ≡ 0 → first_of now ≡ Some (op_token op) → ⊥) → (e : Expr) (us rest : List Token) → Meets now us
    → BehindTerm outer sum t e us rest → (whole : Expr) × outer (joined sum t) whole us rest
unfolding BehindTerm
whole_taken outer s sum t now none e us rest m (sums, mid, a, k) =
    let end = no_tail 0 now none sums us mid m a in
    s.other (grown (joined sum t) sums) (joined sum t) e us rest (subst (λ (u : List Token). outer (grown (joined sum t) sums) e u rest) (sym end) k)

-- behind what is grouped

pub close_made : (outer : Leaves) (p : Pending) (x e : Expr) (us rest : List Token) → BehindAtom outer p x e us rest → BehindIn outer p group x e (CloseParen ∷ us) rest
unfolding BehindIn
close_made outer p x e us rest k = (us, refl, k)

pub close_taken : (outer : Leaves) (p : Pending) (x e : Expr) (us rest : List Token) → BehindIn outer p group x e (CloseParen ∷ us) rest → BehindAtom outer p x e us rest
unfolding BehindIn
close_taken outer p x e us rest (mid, a, k) =
    let here : mid ≡ us = cc a in
    subst (λ (t : List Token). BehindAtom outer p x e t rest) here k

pub close_shut : (outer : Leaves) (p : Pending) (x : Expr) (now : List Placed) → Lacks CloseParen (tokens_of now) → (e : Expr) (us rest : List Token) → Meets now us → BehindIn outer p group x e us rest → ⊥
unfolding BehindIn
close_shut outer p x now none e us rest m (mid, a, k) = meets_lacks CloseParen now us none m mid a

-- behind an argument

pub onto-assoc : (args : Args) (x : Expr) (more : Args) → onto args (arg x more) ≡ onto (onto args (arg x no_args)) more
onto-assoc no_args x more = refl
onto-assoc (arg y args) x more = ap (λ (a : Args). arg y a) (onto-assoc args x more)

module _ (outer : Leaves) (p : Pending) (callee : Name) (args : Args) (x : Expr) where
  abbrev pub InNext : Leaves
  InNext = BehindIn outer p (call callee (onto args (arg x no_args)))

  pub comma_made : (e : Expr) (us rest : List Token) → FromOperand InNext nothing e us rest → BehindIn outer p (call callee args) x e (Comma ∷ us) rest
  unfolding BehindIn IsBareExpr
  comma_made e us rest k = by (to_within InNext e us rest k)
    where
      by : Within InNext e us rest → BehindIn outer p (call callee args) x e (Comma ∷ us) rest
      by w = (
        arg w.inner w.second.0,
        w.second.1,
        (us, w.mid, refl, w.first, w.second.2),
        subst (λ (a : Args). BehindAtom outer p (ask callee a) e w.second.1 rest) (sym (onto-assoc args x (arg w.inner w.second.0))) w.second.3,
      )

  comma_parts : (more : Args) (mid : List Token) (e : Expr) (us rest : List Token) → AreMoreArgs more (Comma ∷ us) (CloseParen ∷ mid) → BehindAtom outer p (ask callee (onto args (arg x more))) e mid rest → Within InNext e us rest
  unfolding BehindIn IsBareExpr
  comma_parts no_args mid e us rest are k = absurd (cc are)
  comma_parts (arg y more) mid e us rest are k =
      let here : are.0 ≡ us = cc are.2 in
      record {
        inner = y;
        mid = are.1;
        first = subst (λ (t : List Token). IsExprAt 0 y t are.1) here are.3;
        second = (
          more,
          mid,
          are.4,
          subst (λ (a : Args). BehindAtom outer p (ask callee a) e mid rest) (onto-assoc args x (arg y more)) k,
        );
      }

  pub comma_taken : (e : Expr) (us rest : List Token) → BehindIn outer p (call callee args) x e (Comma ∷ us) rest → FromOperand InNext nothing e us rest
  unfolding BehindIn
  comma_taken e us rest (more, mid, are, k) = from_within InNext e us rest (comma_parts more mid e us rest are k)

  pub last_made : (e : Expr) (us rest : List Token) → BehindAtom outer p (ask callee (onto args (arg x no_args))) e us rest → BehindIn outer p (call callee args) x e (CloseParen ∷ us) rest
  unfolding BehindIn AreMoreArgs
  last_made e us rest k = (no_args, us, refl, k)

  last_parts : (more : Args) (mid : List Token) (e : Expr) (us rest : List Token) → AreMoreArgs more (CloseParen ∷ us) (CloseParen ∷ mid) → BehindAtom outer p (ask callee (onto args (arg x more))) e mid rest
      → BehindAtom outer p (ask callee (onto args (arg x no_args))) e us rest
  unfolding AreMoreArgs
  last_parts no_args mid e us rest are k =
      let here : mid ≡ us = cc are in
      subst (λ (t : List Token). BehindAtom outer p (ask callee (onto args (arg x no_args))) e t rest) here k
  last_parts (arg y more) mid e us rest are k = absurd (cc are.2)

  pub last_taken : (e : Expr) (us rest : List Token) → BehindIn outer p (call callee args) x e (CloseParen ∷ us) rest → BehindAtom outer p (ask callee (onto args (arg x no_args))) e us rest
  unfolding BehindIn
  last_taken e us rest (more, mid, are, k) = last_parts more mid e us rest are k

  more_shut : (now : List Placed) → Lacks Comma (tokens_of now) → Lacks CloseParen (tokens_of now) → (more : Args) (mid us : List Token) → Meets now us → AreMoreArgs more us (CloseParen ∷ mid) → ⊥
  unfolding AreMoreArgs
  more_shut now no_comma no_close no_args mid us m are = meets_lacks CloseParen now us no_close m mid are
  more_shut now no_comma no_close (arg y more) mid us m are = meets_lacks Comma now us no_comma m are.0 are.2

  pub last_shut : (now : List Placed) → Lacks Comma (tokens_of now) → Lacks CloseParen (tokens_of now) → (e : Expr) (us rest : List Token) → Meets now us → BehindIn outer p (call callee args) x e us rest → ⊥
  unfolding BehindIn
  last_shut now no_comma no_close e us rest m (more, mid, are, k) = more_shut now no_comma no_close more mid us m are
