-- Open demands, by the sites that aren't provable.
use Rattle.std.proofs.Common.{◌≡◌, ⊎_elim, ℕ, ◌+◌, ◌<◌, ◌≤◌, Bool, true, false, IfSome, IfNone, is_some, get_or, Option, Some, None, List, length, slice_get, map, refl, sym, ap, subst, arith}
use Rattle.std.specs.List.{Contains}
use Rattle.std.proofs.lemmas.Option.{slice_get_within}
use Rattle.vmv_tree.specs.declared.ends.NameEnds.{NameEnds}
use Rattle.vmv_tree.specs.declared.site.NamedSite.{NamedSite}
use Rattle.vmv_snapshot.specs.Procs.{is_entry, outsides}
use Rattle.vmv_snapshot.specs.Resolution.{Resolution, tree_of, procs_of}
use Rattle.vmv_assumption.specs.Assumed.{Assumed}
use Rattle.vmv_demands.specs.declared.demand.Demand.{Demand}
use Rattle.vmv_demands.specs.Demands.{first_wanted, AreDemands}
use Rattle.vmv_demands.proofs.Names.{same_demands}
use Rattle.vmv_enough.specs.declared.plan.Subject.{Subject}
use Rattle.vmv_enough.specs.declared.plan.Plan.{Plan}
use Rattle.vmv_enough.specs.Plan.{IsSubject, IsAt, IsPlan, IsJudged, AreJudged}
use Rattle.vmv_enough.specs.Open.{IsDemandAt, IsOpen, IsFirstOpen, NoneOpen}
use Rattle.vmv_enough.specs.OpenBy.{IsOpenBy, IsFirstBy, NoneBy}
use Rattle.std.proofs.lemmas.List.{length-map}
use Rattle.vmv_snapshot.proofs.Lookups.{at_contains}
use Rattle.vmv_enough.proofs.Lists.{something_at, same_there, below_or_at, read_at}
use Rattle.vmv_enough.proofs.Planned.{same_place, earlier_place}

open_from : (program : Resolution) (ends : List NameEnds) (assumed : Assumed) (n : ℕ) (sites : List NamedSite) (d : Demand) → IsJudged program ends assumed n sites → IsOpenBy program sites assumed d → IsOpen program ends assumed n d
open_from program ends assumed n sites d judged ((named, is_named, has), narrows) = record {
  site = named;
  named = is_named;
  unproved = λ p. (judged.decides named).0 p has;
  met = narrows.0;
  narrower = narrows.1;
}

not_open_from : (program : Resolution) (ends : List NameEnds) (assumed : Assumed) (n : ℕ) (sites : List NamedSite) (d : Demand) → IsJudged program ends assumed n sites → ¬ IsOpenBy program sites assumed d → ¬ IsOpen program ends assumed n d
not_open_from program ends assumed n sites d judged none o =
    o.unproved ((judged.decides o.site).1 (λ has. none ((o.site, o.named, has), (o.met, o.narrower))))

-- the demands of an entry are those of its subject
entry_demands : (program : Resolution) (ends : List NameEnds) (n i : ℕ) (d : Demand) (subject : Subject) → IsSubject program ends subject → subject.entry.0 ≡ n → IsDemandAt program n i d → slice_get subject.demands i ≡ Some d
entry_demands program ends n i d subject s number at =
    let own = subst (λ (k : ℕ). AreDemands program k subject.demands) number s.demands in
    subst (λ ds. slice_get ds i ≡ Some d) (same_demands (first_wanted program n) at.demands subject.demands at.are own) at.place

-- none is open in the first so many places
abbrev pub NoneIn : Resolution → Assumed → List Subject → List (List NamedSite) → ℕ → Type 0
NoneIn program assumed subjects judged n =
    (m : ℕ) (subject : Subject) (sites : List NamedSite) → m < n → slice_get subjects m ≡ Some subject → slice_get judged m ≡ Some sites → NoneBy program sites assumed subject.demands

entry_within : (program : Resolution) (n i : ℕ) (d : Demand) → IsDemandAt program n i d → n < length (procs_of program)
entry_within program n i d at =
    let item = slice_get_within (map is_entry (procs_of program)) n true at.entry in
    omega (arith, item, length-map (procs_of program) is_entry)

module _ (program : Resolution) (plan : Plan) (assumed : Assumed) (judged : List (List NamedSite)) (is_plan : IsPlan program plan) (are : AreJudged program plan assumed judged) where
  not_open_at : (n i : ℕ) (d : Demand) → IsDemandAt program n i d →
      ((place : ℕ) (at : IsAt plan.subjects place n) (sites : List NamedSite) → slice_get judged place ≡ Some sites → slice_get at.subject.demands i ≡ Some d → ¬ IsOpenBy program sites assumed d) → ¬ IsOpen program plan.ends assumed n d
  not_open_at n i d at none =
      let own = is_plan.subjects.all n (entry_within program n i d at) at.entry in
      let inside = slice_get_within plan.subjects own.0 own.1.subject own.1.there in
      let sites = something_at judged own.0 (subst (λ (k : ℕ). own.0 < k) (sym are.count) inside) in
      let has = subst (λ (k : ℕ). IsJudged program plan.ends assumed k sites.0) own.1.number (are.each own.0 sites.0 sites.1 own.1.subject own.1.there) in
      let is = (is_plan.subjects.each own.0 own.1.subject own.1.there).0 in
      not_open_from program plan.ends assumed n sites.0 d has (none own.0 own.1 sites.0 sites.1 (entry_demands program plan.ends n i d own.1.subject is own.1.number at))

  pub none_open_where : (k : ℕ) → length plan.subjects ≤ k → NoneIn program assumed plan.subjects judged k → NoneOpen program plan.ends assumed
  none_open_where k all none n i d at =
      not_open_at n i d at (λ place own sites s e. none place own.subject sites (omega (arith, all, slice_get_within plan.subjects place own.subject own.there)) own.there s i d e)

  -- a first open demand of a place, where none is open before it
  pub first_open_where : (k : ℕ) (subject : Subject) (sites : List NamedSite) (d : Demand) → slice_get plan.subjects k ≡ Some subject → slice_get judged k ≡ Some sites → NoneIn program assumed plan.subjects judged k →
      IsFirstBy program sites assumed subject.demands d → IsFirstOpen program plan.ends assumed d
  first_open_where k subject sites d p s before by =
      let n = subject.entry.0 in
      let here : IsAt plan.subjects k n = record { subject = subject; there = p; number = refl } in
      let is = (is_plan.subjects.each k subject p).0 in
      record {
        n = n;
        i = by.i;
        at = record { entry = is.entry; demands = subject.demands; are = is.demands; place = by.place };
        is_open = open_from program plan.ends assumed n sites d (are.each k sites s subject p) by.is_open;
        first = λ m j other earlier at.
            not_open_at m j other at
            (λ place own sites' s' e.
            ⊎_elim
            (λ (l : m < n).
            before place own.subject sites' (earlier_place program plan.ends (length (procs_of program)) plan.subjects is_plan.subjects place k m n own here l) own.there s' j other e)
            (λ (same : (m ≡ n) × (j < by.i)).
            let moved = subst (λ (i : ℕ). IsAt plan.subjects place i) same.0 own in
            let one : place ≡ k = same_place program plan.ends (length (procs_of program)) plan.subjects is_plan.subjects place k n moved here in
            let q : own.subject ≡ subject = same_there plan.subjects k own.subject subject (subst (λ (i : ℕ). slice_get plan.subjects i ≡ Some own.subject) one own.there) p in
            let t : sites ≡ sites' = same_there judged k sites sites' s (subst (λ (i : ℕ). slice_get judged i ≡ Some sites') one s') in
            subst (λ xs. ¬ IsOpenBy program xs assumed other) t (by.first j other same.1 (subst (λ (x : Subject). slice_get x.demands j ≡ Some other) q e)))
            earlier);
      }

pub none_more : (program : Resolution) (assumed : Assumed) (subjects : List Subject) (judged : List (List NamedSite)) (n : ℕ) (subject : Subject) (sites : List NamedSite) → slice_get subjects n ≡ Some subject → slice_get judged n ≡ Some sites →
    NoneIn program assumed subjects judged n → NoneBy program sites assumed subject.demands → NoneIn program assumed subjects judged (n + 1)
none_more program assumed subjects judged n subject sites p s before here m subject' sites' below p' s' =
    ⊎_elim (λ (l : m < n). before m subject' sites' l p' s')
    (λ (e : m ≡ n).
    let same : subject ≡ subject' = same_there subjects n subject subject' p (subst (λ i. slice_get subjects i ≡ Some subject') e p') in
    let same_sites : sites ≡ sites' = same_there judged n sites sites' s (subst (λ i. slice_get judged i ≡ Some sites') e s') in
    subst (λ xs. NoneBy program xs assumed subject'.demands) same_sites (subst (λ (q : Subject). NoneBy program sites assumed q.demands) same here))
    (below_or_at m n below)

-- the name of a first open demand is an outside name
pub open_name : (program : Resolution) (plan : Plan) (assumed : Assumed) (d : Demand) → IsPlan program plan → IsFirstOpen program plan.ends assumed d → Contains (outsides (tree_of program)) d.name
open_name program plan assumed d is_plan first =
    let own = is_plan.subjects.all first.n (entry_within program first.n first.i d first.at) first.at.entry in
    let is = (is_plan.subjects.each own.0 own.1.subject own.1.there).0 in
    is.names d (at_contains own.1.subject.demands first.i d (entry_demands program plan.ends first.n first.i d own.1.subject is own.1.number first.at))

pub subject_at : (subjects now : List Subject) (n : ℕ) (subject : Subject) → now ≡ subjects → n < length now → subject ≡ get_or now n subject → slice_get subjects n ≡ Some subject
subject_at subjects now n subject same below is =
    let h = subst (λ xs. n < length xs) same below in
    let e = subst (λ xs. subject ≡ get_or xs n subject) same is in
    read_at subjects n subject h e

pub sites_at : (subjects now : List Subject) (judged : List (List NamedSite)) (n : ℕ) (sites : List NamedSite) → now ≡ subjects → n < length now → length judged ≡ length subjects → sites ≡ get_or judged n sites → slice_get judged n ≡ Some sites
sites_at subjects now judged n sites same below count is =
    let h = ap length same in
    read_at judged n sites (omega (arith, below, h, count)) is

pub some_found : (program : Resolution) (plan : Plan) (assumed : Assumed) (judged : List (List NamedSite)) → IsPlan program plan → AreJudged program plan assumed judged → (n : ℕ) (subject : Subject) (sites : List NamedSite) (found : Option Demand) →
    slice_get plan.subjects n ≡ Some subject → slice_get judged n ≡ Some sites → NoneIn program assumed plan.subjects judged n → (told : List NamedSite) (demands : List Demand) → told ≡ sites → demands ≡ subject.demands →
    IfSome found (IsFirstBy program told assumed demands) → IfSome found (IsFirstOpen program plan.ends assumed)
some_found program plan assumed judged is_plan are n subject sites None p s before told demands e f by = by
some_found program plan assumed judged is_plan are n subject sites (Some d) p s before told demands e f by =
    first_open_where program plan assumed judged is_plan are n subject sites d p s before
    (subst (λ xs. IsFirstBy program xs assumed subject.demands d) e (subst (λ ds. IsFirstBy program told assumed ds d) f by))

pub none_found : {A : Type 0} (found : Option A) (some : Bool) → some ≡ is_some found → some ≡ false → found ≡ None
none_found None some e f = refl
none_found (Some x) some e f = absurd (cc)

pub none_at : (program : Resolution) (assumed : Assumed) (subject : Subject) (sites : List NamedSite) (found : Option Demand) (told : List NamedSite) (demands : List Demand) → told ≡ sites → demands ≡ subject.demands →
    IfNone found (NoneBy program told assumed demands) → found ≡ None → NoneBy program sites assumed subject.demands
none_at program assumed subject sites None told demands e f by is = subst (λ xs. NoneBy program xs assumed subject.demands) e (subst (λ ds. NoneBy program told assumed ds) f by)
none_at program assumed subject sites (Some d) told demands e f by is = absurd (cc)
