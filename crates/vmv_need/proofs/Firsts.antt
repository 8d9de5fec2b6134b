-- The first of a list of which something holds, and what shows that a program is vacuous.
use Rattle.std.proofs.Common.{◌≡◌, inl, inr, ⊎_elim, ℕ, suc, ◌<◌, Option, Some, None, MatchOption, List, ◌∷◌, length, take, drop, get_or, sym, subst}
use Rattle.std.specs.List.{Contains}
use Rattle.std.proofs.lemmas.List.Elements.{Contains-append_right}
use Rattle.vmv_tree.specs.declared.name.Name.{Name}
use Rattle.vmv_cond.specs.declared.cond.Cond.{Cond}
use Rattle.vmv_cond.specs.Cond.{IsEmpty}
use Rattle.vmv_snapshot.specs.declared.code.ProcId.{ProcId}
use Rattle.vmv_snapshot.specs.Procs.{outsides}
use Rattle.vmv_snapshot.specs.Resolution.{Resolution, tree_of}
use Rattle.vmv_assumption.specs.Assumed.{Assumed}
use Rattle.vmv_cert.specs.Tables.{Box}
use Rattle.vmv_need.specs.declared.subject.Scope.{Scope}
use Rattle.vmv_need.specs.declared.shown.ShownBy.{ShownBy}
use Rattle.vmv_need.specs.declared.shown.ShownBy.TheVariants.{EmptyName, Doomed}
use Rattle.vmv_need.specs.Candidates.{places_of}
use Rattle.vmv_need.specs.Vacuous.{IsEmptyName, IsDoomed, IsVacuous, IsFirst, IsShownBy}
use Rattle.vmv_need.specs.Plan.{IsFirstDoomed}
use Rattle.vmv_need.proofs.Lists.{first_in, parts_at}

pub first_is : {A : Type 0} (P : A → Type 0) (xs ys : List A) (i : ℕ) (x : A) → i < length xs → x ≡ get_or xs i x → xs ≡ ys → ((y : A) → Contains (take i xs) y → ¬ P y) → P x → IsFirst P ys x
first_is P xs ys i x h e same before here =
    subst (λ (zs : List _). IsFirst P zs x) same (record { before = take i xs; after = drop (suc i) xs; parts = parts_at xs i x h e; holds = here; none_before = before })

first_there : {A : Type 0} (P : A → Type 0) (xs : List A) (x : A) → IsFirst P xs x → Contains xs x
first_there P xs x first =
    subst (λ (zs : List _). Contains zs x) (sym first.parts) (Contains-append_right first.before (x ∷ first.after) x (first_in x first.after))

pub empty_name : (assumed : Assumed) (name : Name) (c : Cond) → c ≡ assumed name → IsEmpty c → IsEmptyName assumed name
empty_name assumed name c e empty = subst IsEmpty e empty

pub full_name : (assumed : Assumed) (name : Name) (c : Cond) → c ≡ assumed name → ¬ IsEmpty c → ¬ IsEmptyName assumed name
full_name assumed name c e full = subst (λ (d : Cond). ¬ IsEmpty d) e full

pub empty_shows : (program : Resolution) (scope : Scope) (assumed : Assumed) (names : List Name) (name : Name) → names ≡ outsides (tree_of program) → IsFirst (IsEmptyName assumed) names name →
    IsVacuous program scope assumed × IsFirst (IsEmptyName assumed) (outsides (tree_of program)) name
empty_shows program scope assumed names name same first =
    let here = subst (λ (ns : List Name). IsFirst (IsEmptyName assumed) ns name) same first in
    (inl (name, first_there (IsEmptyName assumed) (outsides (tree_of program)) name here, here.holds), here)

pub doomed_shows : (program : Resolution) (scope : Scope) (assumed : Assumed) (names : List Name) (found : Option ShownBy) → names ≡ outsides (tree_of program) → ((name : Name) → Contains names name → ¬ IsEmptyName assumed name) →
    MatchOption found ((place : ProcId × Box) → Contains (places_of scope) place → ¬ IsDoomed program scope assumed place) (λ shown. IsFirstDoomed program scope assumed shown) →
    MatchOption found (¬ IsVacuous program scope assumed) (λ shown. IsVacuous program scope assumed × IsShownBy program scope assumed shown)
doomed_shows program scope assumed names None same full none =
    λ vacuous. ⊎_elim
    (λ (empty : (name : Name) × Contains (outsides (tree_of program)) name × IsEmptyName assumed name). full empty.0 (subst (λ (ns : List Name). Contains ns empty.0) (sym same) empty.1) empty.2)
    (λ (doomed : (place : ProcId × Box) × Contains (places_of scope) place × IsDoomed program scope assumed place). none doomed.0 doomed.1 doomed.2)
    vacuous
doomed_shows program scope assumed names (Some (EmptyName name)) same full first = absurd first
doomed_shows program scope assumed names (Some (Doomed entry within table)) same full first = (
  inr ((entry, within), first_there (IsDoomed program scope assumed) (places_of scope) (entry, within) first.0, first.0.holds),
  ((λ name there. full name (subst (λ (ns : List Name). Contains ns name) (sym same) there)), first.0, first.1),
)

pub where_some : {A : Type 0} (P : Type 0) (Q : A → Type 0) (found : Option A) (x : A) → MatchOption found P Q → found ≡ Some x → Q x
where_some P Q found x h e = subst (λ (o : Option _). MatchOption o P Q) e h

pub where_none : {A : Type 0} (P : Type 0) (Q : A → Type 0) (found : Option A) → MatchOption found P Q → found ≡ None → P
where_none P Q found h e = subst (λ (o : Option _). MatchOption o P Q) e h
