-- What is kept of the conditions that are found, and what is made of them.
use Rattle.std.proofs.Common.{◌≡◌, ℕ, zero, suc, ◌+◌, ◌<◌, ◌≤◌, Bool, true, false, ◌&&◌, Some, List, [], ◌∷◌, ◌++◌, length, get_or, slice_get, take, drop, refl, sym, ap, subst, ◌∙◌, arith, add-one, drop-cons}
use Rattle.std.specs.List.{filter_map, AllZip}
use Rattle.std.specs.Ordering.{int_eq}
use Rattle.std.specs.Str.{bytes_eq}
use Rattle.std.proofs.lemmas.List.{take_all, drop_all}
use Rattle.std.proofs.lemmas.List.Elements.{filter_map-append}
use Rattle.std.proofs.lemmas.Bool.Decides.{Decides-int_eq}
use Rattle.std.proofs.lemmas.Slice.Eq.{bytes_eq-Decides}
use Rattle.vmv_snapshot.specs.declared.code.ProcId.{ProcId}
use Rattle.vmv_snapshot.specs.declared.code.SiteId.{SiteId}
use Rattle.vmv_snapshot.specs.declared.code.CodeStmt.{CodeStmt}
use Rattle.vmv_snapshot.specs.declared.code.Code.{Code}
use Rattle.vmv_snapshot.specs.View.{stmt_of, block_of}
use Rattle.vmv_back.specs.Firsts.{firsts}
use Rattle.vmv_back.specs.Kept.{keep_all}
use Rattle.vmv_demands.specs.declared.want.Condition.{Condition}
use Rattle.vmv_demands.specs.declared.want.Condition.TheVariants.{Range, Nonzero}
use Rattle.vmv_demands.specs.declared.lead.Lead.{Lead}
use Rattle.vmv_demands.specs.declared.lead.Lead.TheVariants.{Nowhere, Asked, At}
use Rattle.vmv_demands.specs.declared.lead.SiteLead.{SiteLead}
use Rattle.vmv_demands.specs.declared.lead.Found.{Found}
use Rattle.vmv_demands.specs.declared.demand.Demand.{Demand}
use Rattle.vmv_demands.specs.Back.{Results, over_all, results}
use Rattle.vmv_demands.specs.Leads.{lead_of, led_on, Inside, leads_in, leads_in_all, insides, asked, wanted_by}
use Rattle.vmv_demands.specs.Demands.{same_condition, same_found, IsDemand}
use Rattle.vmv_demands.proofs.Keeping.{keep_all-append, full_stays, kept_are_firsts}
use Rattle.vmv_demands.proofs.Leading.{no_leads, more_leads, proc_leads_are}

both_true : (a b : Bool) → (a && b) ≡ true → (a ≡ true) × (b ≡ true)
both_true true b h = (refl, h)
both_true false b h = absurd (cc)

same_condition-same : (a b : Condition) → same_condition a b ≡ true → a ≡ b
same_condition-same (Range lo hi) (Range low high) h =
    let parts = both_true (int_eq lo low) (int_eq hi high) h in λ i. Range ((Decides-int_eq lo low).0 parts.0 i) ((Decides-int_eq hi high).0 parts.1 i)
same_condition-same (Range lo hi) Nonzero h = absurd (cc)
same_condition-same Nonzero (Range low high) h = absurd (cc)
same_condition-same Nonzero Nonzero h = refl

same_found-agrees : (x y z : Found) → same_found x y ≡ true → same_found y z ≡ same_found x z
same_found-agrees x y z h =
    let parts = both_true (bytes_eq x.name y.name) (same_condition x.cond y.cond) h in
    let name : x.name ≡ y.name = (bytes_eq-Decides x.name y.name).0 parts.0 in
    let cond : x.cond ≡ y.cond = same_condition-same x.cond y.cond parts.1 in
    sym (λ i. bytes_eq (name i) z.name && same_condition (cond i) z.cond)

pub full : (kept xs : List Found) → 32 ≤ length kept → kept ≡ keep_all 32 same_found kept xs
full kept xs h = sym (full_stays same_found same_found-agrees 32 kept xs h)

asked_lead : (site : SiteId) (lead : Lead) → filter_map asked (lead_of site lead) ≡ filter_map asked (record { site = site; lead = lead } ∷ [])
asked_lead site Nowhere = refl
asked_lead site (Asked f cond) = refl
asked_lead site (At x want) = refl

-- from one site behind statements to the next
pub keep_next : (move : Lead → Lead) (behind : List SiteLead) (i : ℕ) (led : SiteLead) (lead : Lead) (kept more all : List Found) → i < length behind → led ≡ get_or behind i led →
    keep_all 32 same_found kept (filter_map asked (led_on move (drop i behind))) ≡ all →
    lead ≡ move led.lead → more ≡ keep_all 32 same_found kept (filter_map asked (record { site = led.site; lead = lead } ∷ [])) →
    keep_all 32 same_found more (filter_map asked (led_on move (drop (i + 1) behind))) ≡ all
keep_next move behind i led lead kept more all h is inv same e =
    let tail : drop i behind ≡ led ∷ drop (i + 1) behind = rw (add-one, drop-cons behind i led, ← is) refl in
    let here : List SiteLead = lead_of led.site (move led.lead) in
    let rest : List SiteLead = led_on move (drop (i + 1) behind) in
    ap (λ (k : List Found). keep_all 32 same_found k (filter_map asked rest)) (e ∙ ap (λ (l : Lead). keep_all 32 same_found kept (filter_map asked (record { site = led.site; lead = l } ∷ []))) same ∙ ap (keep_all 32 same_found kept) (sym (asked_lead led.site (move led.lead))))
    ∙ sym (keep_all-append 32 same_found kept (filter_map asked here) (filter_map asked rest))
    ∙ ap (keep_all 32 same_found kept) (sym (filter_map-append asked here rest))
    ∙ ap (λ (l : List SiteLead). keep_all 32 same_found kept (filter_map asked (led_on move l))) (sym tail)
    ∙ inv

pub keep_end : (move : Lead → Lead) (behind : List SiteLead) (i : ℕ) (kept all : List Found) → length behind ≤ i → keep_all 32 same_found kept (filter_map asked (led_on move (drop i behind))) ≡ all → kept ≡ all
keep_end move behind i kept all h inv = sym (ap (λ (l : List SiteLead). keep_all 32 same_found kept (filter_map asked (led_on move l))) (drop_all i behind h)) ∙ inv

pub kept_as : (move : Lead → Lead) (behind leads : List SiteLead) (kept more : List Found) → behind ≡ leads → more ≡ keep_all 32 same_found kept (filter_map asked (led_on move behind)) → more ≡ keep_all 32 same_found kept (filter_map asked (led_on move leads))
kept_as move behind leads kept more e h = h ∙ ap (λ (l : List SiteLead). keep_all 32 same_found kept (filter_map asked (led_on move l))) e

-- from one statement of a procedure to the next
pub next_wanted : (r : Results) (inside : Inside) (p : ProcId) (block before : List CodeStmt) (i : ℕ) (s : CodeStmt) (kept more : List Found) → i < length block → s ≡ get_or block i s → before ≡ take i block →
    kept ≡ keep_all 32 same_found [] (filter_map asked (leads_in_all r inside p (block_of (take i block)))) →
    more ≡ keep_all 32 same_found kept (filter_map asked (led_on (over_all r (block_of before)) (leads_in r inside p (stmt_of s)))) →
    more ≡ keep_all 32 same_found [] (filter_map asked (leads_in_all r inside p (block_of (take (i + 1) block))))
next_wanted r inside p block before i s kept more h is front inv e =
    let found : List SiteLead = leads_in_all r inside p (block_of (take i block)) in
    let here : List SiteLead = led_on (over_all r (block_of (take i block))) (leads_in r inside p (stmt_of s)) in
    e ∙ (λ j. keep_all 32 same_found (inv j) (filter_map asked (led_on (over_all r (block_of (front j))) (leads_in r inside p (stmt_of s)))))
    ∙ sym (keep_all-append 32 same_found [] (filter_map asked found) (filter_map asked here))
    ∙ ap (keep_all 32 same_found []) (sym (filter_map-append asked found here))
    ∙ ap (λ (l : List SiteLead). keep_all 32 same_found [] (filter_map asked l)) (sym (more_leads r inside p block i s h is))

-- at its start
pub no_wanted : (r : Results) (inside : Inside) (p : ProcId) (block : List CodeStmt) (kept : List Found) → kept ≡ [] → kept ≡ keep_all 32 same_found [] (filter_map asked (leads_in_all r inside p (block_of (take 0 block))))
no_wanted r inside p block kept e = e ∙ ap (λ (l : List SiteLead). keep_all 32 same_found [] (filter_map asked l)) (no_leads r inside p block [] refl)

-- at its end
pub all_wanted : (codes : List Code) (p : ProcId) (code : Code) (block : List CodeStmt) (i : ℕ) (kept : List Found) → slice_get codes p.0 ≡ Some code → block ≡ code.block → length block ≤ i →
    kept ≡ keep_all 32 same_found [] (filter_map asked (leads_in_all (results codes p.0) (insides codes p.0) p (block_of (take i block)))) → kept ≡ take 32 (firsts same_found (wanted_by codes p.0))
all_wanted codes p code block i kept at same h inv =
    inv ∙ kept_are_firsts same_found same_found-agrees 32 (filter_map asked (leads_in_all (results codes p.0) (insides codes p.0) p (block_of (take i block))))
    ∙ ap (λ (l : List SiteLead). take 32 (firsts same_found (filter_map asked l)))
    (ap (λ (b : List CodeStmt). leads_in_all (results codes p.0) (insides codes p.0) p (block_of b)) (take_all i block h) ∙ proc_leads_are codes p code block _ at same refl)

-- the first items and one more
take_none : (xs : List Found) → take 0 xs ≡ []
take_none [] = refl
take_none (x ∷ xs) = refl

take_more : (xs : List Found) (i : ℕ) (x : Found) → i < length xs → x ≡ get_or xs i x → take (suc i) xs ≡ take i xs ++ x ∷ []
take_more [] i x h is = absurd (omega arith)
take_more (y ∷ xs) zero x h is = (λ j. sym is j ∷ take_none xs j) ∙ ap (λ (zs : List Found). zs ++ x ∷ []) (sym (take_none (y ∷ xs)))
take_more (y ∷ xs) (suc i) x h is = ap (λ (zs : List Found). y ∷ zs) (take_more xs i x (omega (arith, h)) is)

zip_push : (xs : List Found) (ys : List Demand) (x : Found) (y : Demand) → AllZip IsDemand xs ys → IsDemand x y → AllZip IsDemand (xs ++ x ∷ []) (ys ++ y ∷ [])
zip_push [] [] x y h k = (k, tt)
zip_push [] (b ∷ ys) x y h k = absurd h
zip_push (a ∷ xs) [] x y h k = absurd h
zip_push (a ∷ xs) (b ∷ ys) x y h k = (h.0, zip_push xs ys x y h.1 k)

pub one_demand : (wanted : List Found) (demands more : List Demand) (i : ℕ) (x : Found) (y : Demand) → i < length wanted → x ≡ get_or wanted i x → AllZip IsDemand (take i wanted) demands → IsDemand x y →
    more ≡ demands ++ y ∷ [] → AllZip IsDemand (take (i + 1) wanted) more
one_demand wanted demands more i x y h is inv k e =
    let front : take i wanted ++ x ∷ [] ≡ take (i + 1) wanted = sym (take_more wanted i x h is) ∙ ap (λ (n : ℕ). take n wanted) (sym (add-one i)) in
    let long : AllZip IsDemand (take i wanted ++ x ∷ []) (demands ++ y ∷ []) = zip_push (take i wanted) demands x y inv k in
    subst (λ (ds : List Demand). AllZip IsDemand (take (i + 1) wanted) ds) (sym e) (subst (λ (fs : List Found). AllZip IsDemand fs (demands ++ y ∷ [])) front long)
