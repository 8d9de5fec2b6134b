-- A box has one state, and a least table's first row is that of the entry with the norm of the box.
use Rattle.std.proofs.Common.{◌≡◌, inl, inr, ℕ, zero, suc, ◌+◌, ◌≤◌, ℤ, ◌≤ℤ◌, Option, Some, None, List, [], ◌∷◌, ◌++◌, length, refl, sym, ap, subst, arith, append_assoc, ◌∙◌}
use Rattle.std.specs.List.{Contains}
use Rattle.std.proofs.lemmas.Int.{ints}
use Rattle.vmv_tree.specs.declared.ends.NameEnds.{NameEnds}
use Rattle.vmv_tree.specs.declared.site.NamedSite.{NamedSite}
use Rattle.vmv_tree.specs.declared.tree.Param.{Param}
use Rattle.vmv_tree.specs.Tree.{entry, Body}
use Rattle.vmv_tree.specs.declared.name.Name.{Name}
use Rattle.vmv_snapshot.specs.declared.code.ProcId.{ProcId}
use Rattle.vmv_snapshot.specs.Resolution.{Resolution}
use Rattle.vmv_zone.specs.declared.zone.Zone.{Zone}
use Rattle.vmv_zone.specs.Zone.{bound_of, IsBelow, IsNormOf}
use Rattle.vmv_zone.proofs.Equal.{below_both, norm_once}
use Rattle.vmv_assumption.specs.Assumed.{Assumed}
use Rattle.vmv_cert.specs.declared.row.Row.{Row}
use Rattle.vmv_cert.specs.declared.row.Reach.{Reach}
use Rattle.vmv_cert.specs.declared.row.Reach.TheVariants.{Bottom, Value}
use Rattle.vmv_cert.specs.Tables.{Accepted, HasThresholds, Box, IsBoxState, IsRowAbove, IsEntry, IsBoxIn, ranges_of, Shows, Dead, Provable}
use Rattle.vmv_check.proofs.Lists.{some_same, item_at}
use Rattle.vmv_forward.specs.Least.{IsReachBelow, IsNoMore, IsRowFor, IsFirst, Visit, VisitsCalls, Visits, IsLeastTable}
use Rattle.vmv_forward.proofs.States.{below_same}
use Rattle.vmv_forward.proofs.Instances.{normal_norm}

box_bound : (box : Box) (a b : Zone) → IsBoxState box a → IsBoxState box b → (i j : ℕ) → i ≤ length box → j ≤ length box → bound_of a i j ≡ bound_of b i j
box_bound box a b f g zero zero hi hj = f.origin ∙ sym g.origin
box_bound box a b f g (suc i) zero hi hj =
    let r = item_at box i (omega arith) in
    let e : i + 1 ≡ suc i = omega arith in
    subst (λ k. bound_of a k 0 ≡ bound_of b k 0) e (f.high i r.0 r.1 ∙ sym (g.high i r.0 r.1))
box_bound box a b f g zero (suc j) hi hj =
    let r = item_at box j (omega arith) in
    let e : j + 1 ≡ suc j = omega arith in
    subst (λ k. bound_of a 0 k ≡ bound_of b 0 k) e (f.low j r.0 r.1 ∙ sym (g.low j r.0 r.1))
box_bound box a b f g (suc i) (suc j) hi hj = f.others (suc i) (suc j) (omega arith) hi (omega arith) hj ∙ sym (g.others (suc i) (suc j) (omega arith) hi (omega arith) hj)

no_more : (x y : ℤ) → x ≡ y → x ≤ℤ y
no_more x y e = omega (arith, ints)

box_below : (box : Box) (a b : Zone) → IsBoxState box a → IsBoxState box b → IsBelow a b
box_below box a b f g up = record {
  not_bottom = g.not_bottom;
  bounds = λ i j hi hj. (let e = g.vars in no_more (bound_of a i j) (bound_of b i j) (box_bound box a b f g i j (omega arith) (omega arith)));
  marks = λ i from hi marked. absurd (g.unmarked i marked);
}

-- a box has one state
box_once : (box : Box) (a b : Zone) → IsBoxState box a → IsBoxState box b → a ≡ b
box_once box a b f g = below_both a b (f.vars ∙ sym g.vars) (box_below box a b f g) (box_below box b a g f)

-- and one norm
pub boxed_once : (box : Box) (a b m n : Zone) → IsBoxState box a → IsBoxState box b → IsNormOf a m → IsNormOf b n → m ≡ n
boxed_once box a b m n f g x y = norm_once b m n (subst (λ (z : Zone). IsNormOf z m) (box_once box a b f g) x) y

-- visits add rows behind those that are there
abbrev pub Extends : Visit → Type 0
Extends V = (n : ℕ) (input : Zone) (seen out : List Row) → V n input seen out → (more : List Row) × (out ≡ seen ++ more)

none_more : (xs : List Row) → xs ≡ xs ++ []
none_more [] = refl
none_more (x ∷ xs) = ap (λ (ys : List Row). x ∷ ys) (none_more xs)

more_on : (seen mid out xs ys : List Row) → mid ≡ seen ++ xs → out ≡ mid ++ ys → out ≡ seen ++ (xs ++ ys)
more_on seen mid out xs ys e f = f ∙ (ap (λ (zs : List Row). zs ++ ys) e ∙ append_assoc seen xs ys)

pub calls_extend : (V : Visit) (callees : List ProcId) (calls : List (Option Zone)) (seen out : List Row) → Extends V → VisitsCalls V callees calls seen out → (more : List Row) × (out ≡ seen ++ more)
calls_extend V [] [] seen out extends same = ([], same ∙ none_more seen)
calls_extend V [] (o ∷ calls) seen out extends h = absurd h
calls_extend V (callee ∷ callees) [] seen out extends h = absurd h
calls_extend V (callee ∷ callees) (None ∷ calls) seen out extends h = calls_extend V callees calls seen out extends h
calls_extend V (callee ∷ callees) (Some args ∷ calls) seen out extends (mid, v, h) =
    let a = extends callee.0 args seen mid v in
    let b = calls_extend V callees calls mid out extends h in
    (a.0 ++ b.0, more_on seen mid out a.0 b.0 a.1 b.1)

pub visits_extend : (depth : ℕ) (program : Resolution) (assumed : Assumed) (rows : List Row) → Extends (Visits depth program assumed rows)
visits_extend zero program assumed rows n input seen out h = absurd h
visits_extend (suc depth) program assumed rows n input seen out (inl h) = ([], h.1 ∙ none_more seen)
visits_extend (suc depth) program assumed rows n input seen out (inr (none, (row, item, code, end, calls, is, proc, holds, v))) =
    let a = calls_extend (Visits depth program assumed rows) _ calls (seen ++ row ∷ []) out (visits_extend depth program assumed rows) v in
    (row ∷ a.0, a.1 ∙ append_assoc seen (row ∷ []) a.0)

-- the first row
pub record Begins (program : Resolution) (n : ℕ) (input : Zone) (out : List Row) : Type 0 where
  pub first : Row
  pub rest : List Row
  pub is : out ≡ first ∷ rest
  pub for : IsRowFor program n input first

none_in : (row : Row) → Contains [] row → ⊥
none_in row (k, h, e) = absurd (omega (arith, h))

pub begins : (depth : ℕ) (program : Resolution) (assumed : Assumed) (rows : List Row) (n : ℕ) (input : Zone) (out : List Row) → Visits depth program assumed rows n input [] out → Begins program n input out
begins zero program assumed rows n input out h = absurd h
begins (suc depth) program assumed rows n input out (inl h) = absurd (none_in h.0.0 h.0.1)
begins (suc depth) program assumed rows n input out (inr (none, (row, item, code, end, calls, is, proc, holds, v))) =
    let a = calls_extend (Visits depth program assumed rows) _ calls (row ∷ []) out (visits_extend depth program assumed rows) v in
    record { first = row; rest = a.0; is = a.1; for = is }

-- a least table has a first row
pub has_rows : (program : Resolution) (number : ℕ) (box : Box) (ends : List NameEnds) (assumed : Assumed) (rows : List Row) → IsLeastTable program number box ends assumed rows → (first : Row) × (rest : List Row) × (rows ≡ first ∷ rest) × IsFirst program number first
has_rows program number box ends assumed rows least = let b = begins least.depth program assumed rows number least.input rows least.visits in (b.first, b.rest, b.is, b.for.named)

heads : (x y : Row) (xs ys : List Row) → x ∷ xs ≡ y ∷ ys → x ≡ y
heads x y xs ys e = cc

-- the first row is the entry's, with the norm of the box
pub first_for : (program : Resolution) (number : ℕ) (box : Box) (ends : List NameEnds) (assumed : Assumed) (first : Row) (rest : List Row) → (least : IsLeastTable program number box ends assumed (first ∷ rest)) → IsRowFor program number least.input first
first_for program number box ends assumed first rest least =
    let b = begins least.depth program assumed (first ∷ rest) number least.input (first ∷ rest) least.visits in
    subst (IsRowFor program number least.input) (sym (heads first b.first rest b.rest b.is)) b.for

-- it is above the box
pub first_above : (program : Resolution) (number : ℕ) (box : Box) (ends : List NameEnds) (assumed : Assumed) (first : Row) (rest : List Row) → IsLeastTable program number box ends assumed (first ∷ rest) → IsRowAbove program number box first
first_above program number box ends assumed first rest least =
    let f = first_for program number box ends assumed first rest least in
    record {
      named = f.named;
      over = ap (λ (z : Zone). z.vars) f.input_is ∙ (least.norm.vars ∙ least.box_is.vars);
      boxed = least.boxed;
      box_is = least.box_is;
      least = least.input;
      box_norm = least.norm;
      input = least.input;
      input_norm = subst (λ (z : Zone). IsNormOf z least.input) (sym f.input_is) (normal_norm least.input least.norm.normal);
      above = below_same least.input;
    }

-- and says no more than each row above the box of an accepted table
first_no_more : (program : Resolution) (number : ℕ) (box : Box) (ends : List NameEnds) (assumed : Assumed) (first : Row) (rest rows : List Row) (other : Row) → IsLeastTable program number box ends assumed (first ∷ rest) → Accepted program assumed rows →
    HasThresholds program number ends rows → Contains rows other → IsRowAbove program number box other → IsNoMore first other
first_no_more program number box ends assumed first rest rows other least accepted has among above =
    let f = first_for program number box ends assumed first rest least in
    let same : above.least ≡ first.input = boxed_once box above.boxed least.boxed above.least least.input above.box_is least.box_is above.box_norm least.norm ∙ sym f.input_is in
    least.least first (0, omega arith, refl) rows other accepted has among (some_same (sym above.named ∙ f.named))
    (record {
      under = first.input;
      under_norm = subst (λ (z : Zone). IsNormOf z z) (sym f.input_is) (normal_norm least.input least.norm.normal);
      over = above.input;
      over_norm = above.input_norm;
      below = subst (λ (z : Zone). IsBelow z above.input) same above.above;
    })

only_bottom : (r : Reach) → IsReachBelow r Bottom → r ≡ Bottom
only_bottom Bottom h = refl
only_bottom (Value c) h = absurd h

pub decides_death : (program : Resolution) (number : ℕ) (params : List Param) (box : Box) (ends : List NameEnds) (assumed : Assumed) (first : Row) (rest : List Row) → IsEntry program number params → IsBoxIn params box →
    IsLeastTable program number box ends assumed (first ∷ rest) →
    (Dead program number box ends assumed → first.result ≡ Bottom) × (first.result ≡ Bottom → Dead program number box ends assumed)
decides_death program number params box ends assumed first rest is in_box least = (
  λ dead. let s = dead.3 in
      only_bottom first.result (subst (λ (r : Reach). IsReachBelow first.result r) s.6 (first_no_more program number box ends assumed first rest s.0 s.1 least s.2 s.3 s.4 s.5).result),
  λ none. (params, is, in_box, (first ∷ rest, first, least.accepted, least.thresholds, (0, omega arith, refl), first_above program number box ends assumed first rest least, none)),
)

same_params : (n m : Name) (ps qs : List Param) (b c : Body) → entry n ps b ≡ entry m qs c → ps ≡ qs
same_params n m ps qs b c e = cc

params_once : (program : Resolution) (n : ℕ) (ps qs : List Param) → IsEntry program n ps → IsEntry program n qs → ps ≡ qs
params_once program n ps qs (name, body, at) (name', body', at') = same_params name name' ps qs body body' (some_same (sym at ∙ at'))

pub decides_proof : (program : Resolution) (number : ℕ) (params : List Param) (ends : List NameEnds) (assumed : Assumed) (first : Row) (rest : List Row) (site : NamedSite) → IsEntry program number params →
    IsLeastTable program number (ranges_of params) ends assumed (first ∷ rest) →
    (Provable program number ends assumed site → Contains first.unproved site → ⊥) × ((Contains first.unproved site → ⊥) → Provable program number ends assumed site)
decides_proof program number params ends assumed first rest site is least = (
  λ provable listed.
      (let same : provable.0 ≡ params = params_once program number provable.0 params provable.1 is in
      let s = subst (λ (ps : List Param). Shows program number (ranges_of ps) ends assumed (λ row. Contains row.unproved site → ⊥)) same provable.2 in
      s.6 ((first_no_more program number (ranges_of params) ends assumed first rest s.0 s.1 least s.2 s.3 s.4 s.5).sites site listed)),
  λ none. (params, is, (first ∷ rest, first, least.accepted, least.thresholds, (0, omega arith, refl), first_above program number (ranges_of params) ends assumed first rest least, none)),
)
