-- The sites that an entry may fail at, from the lists of those that aren't provable.
use Rattle.std.proofs.Common.{◌≡◌, ◌≢◌, ℕ, List, [], ◌∷◌, refl, sym, subst, arith}
use Rattle.std.specs.List.{Contains}
use Rattle.vmv_tree.specs.declared.site.NamedSite.{NamedSite}
use Rattle.vmv_assumption.specs.Assumed.{Assumed}
use Rattle.vmv_assumption.specs.Whole.{whole}
use Rattle.vmv_witness.specs.declared.witness.Witness.{Witness}
use Rattle.vmv_cert.specs.Tables.{AreSitesOf}
use Rattle.vmv_report.specs.declared.proving.EntrySites.{EntrySites}
use Rattle.vmv_report.specs.Rows.{Review}
use Rattle.vmv_report.specs.Work.{WhereSome, AreUnproved, AreFoundBy, AreSitesFor}

none_in : {X : Type 0} (x : X) → Contains [] x → ⊥
none_in x (k, within, is) = absurd (omega (arith, within))

-- what is said where something is in the first list
pub where_some : {A B : Type 0} (xs : List A) (said : List B → Type 0) (ys : List B) (x : A) → Contains xs x → WhereSome xs said ys → said ys
where_some [] said ys x there h = absurd (none_in x there)
where_some (z ∷ xs) said ys x there h = h

where_none : {A B : Type 0} (xs : List A) (said : List B → Type 0) (ys : List B) → xs ≡ [] → ys ≡ [] → WhereSome xs said ys
where_none [] said ys e none = none
where_none (z ∷ xs) said ys e none = absurd (cc)

where_more : {A B : Type 0} (xs : List A) (said : List B → Type 0) (ys : List B) → xs ≢ [] → said ys → WhereSome xs said ys
where_more [] said ys some h = absurd (some refl)
where_more (z ∷ xs) said ys some h = h

-- where each site is always provable, nothing is asked of what is necessary
pub sites_of_none : (review : Review) (n : ℕ) (assumed : Assumed) (always relative : List NamedSite) (found : List Witness) → assumed ≡ (λ name. whole) → always ≡ [] → relative ≡ [] → found ≡ [] → AreUnproved review.revision n review.ends assumed always →
    AreSitesFor review n (record { always = always; relative = relative; found = found })
sites_of_none review n assumed always relative found e none no_more no_runs are = record {
  always = subst (λ (a : Assumed). AreUnproved review.revision n review.ends a always) e are;
  relative = where_none always (AreUnproved review.revision n review.ends review.needed) relative none no_more;
  found = where_none relative (AreFoundBy review.revision review.enough n) found no_more no_runs;
}

-- where each is provable in one way or the other, no runs are looked for
pub sites_of_one : (review : Review) (n : ℕ) (assumed : Assumed) (always relative : List NamedSite) (found : List Witness) → assumed ≡ (λ name. whole) → always ≢ [] → AreUnproved review.revision n review.ends assumed always →
    AreUnproved review.revision n review.ends review.needed relative → relative ≡ [] → found ≡ [] → AreSitesFor review n (record { always = always; relative = relative; found = found })
sites_of_one review n assumed always relative found e some are are_relative none no_runs = record {
  always = subst (λ (a : Assumed). AreUnproved review.revision n review.ends a always) e are;
  relative = where_more always (AreUnproved review.revision n review.ends review.needed) relative some are_relative;
  found = where_none relative (AreFoundBy review.revision review.enough n) found none no_runs;
}

pub sites_of_both : (review : Review) (n : ℕ) (assumed : Assumed) (always relative : List NamedSite) (found : List Witness) → assumed ≡ (λ name. whole) → always ≢ [] → AreUnproved review.revision n review.ends assumed always →
    AreUnproved review.revision n review.ends review.needed relative → relative ≢ [] → AreFoundBy review.revision review.enough n found → AreSitesFor review n (record { always = always; relative = relative; found = found })
sites_of_both review n assumed always relative found e some are are_relative more runs = record {
  always = subst (λ (a : Assumed). AreUnproved review.revision n review.ends a always) e are;
  relative = where_more always (AreUnproved review.revision n review.ends review.needed) relative some are_relative;
  found = where_more relative (AreFoundBy review.revision review.enough n) found more runs;
}

-- both lists are of sites that the entry reaches, in order
pub in_order : (review : Review) (n : ℕ) (sites : EntrySites) → AreSitesFor review n sites → AreSitesOf review.revision n sites.always × AreSitesOf review.revision n sites.relative
in_order review n sites are = (are.always.sites, by sites.always are.relative)
  where
    nothing : AreSitesOf review.revision n []
    nothing = record { each = λ site there. absurd (none_in site there); sorted = λ i one other at_one at_other. absurd (cc) }

    by : (always : List NamedSite) → WhereSome always (AreUnproved review.revision n review.ends review.needed) sites.relative → AreSitesOf review.revision n sites.relative
    by [] none = subst (AreSitesOf review.revision n) (sym none) nothing
    by (x ∷ xs) some = some.sites
