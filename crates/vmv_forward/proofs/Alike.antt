-- Rows that say no more than one another are equal.
use Rattle.std.proofs.Common.{◌≡◌, ℕ, List, refl, sym, ap, ◌∙◌}
use Rattle.std.specs.List.{All, AllZip}
use Rattle.vmv_tree.specs.declared.name.Name.{Name}
use Rattle.vmv_tree.specs.declared.site.NamedSite.{NamedSite}
use Rattle.vmv_tree.specs.Tree.{Item}
use Rattle.vmv_cond.specs.declared.cond.Cond.{Cond}
use Rattle.vmv_cond.proofs.Same.{same_words}
use Rattle.vmv_snapshot.specs.declared.code.Code.{Code}
use Rattle.vmv_snapshot.specs.Resolution.{Resolution, IsResolution}
use Rattle.vmv_zone.specs.declared.zone.Zone.{Zone}
use Rattle.vmv_zone.specs.Zone.{vars_of, IsBelow}
use Rattle.vmv_zone.proofs.Equal.{below_both}
use Rattle.vmv_cert.specs.declared.row.Row.{Row}
use Rattle.vmv_cert.specs.declared.row.Reach.{Reach}
use Rattle.vmv_cert.specs.declared.row.Reach.TheVariants.{Bottom, Value}
use Rattle.vmv_cert.specs.Tables.{IsFormed}
use Rattle.vmv_check.proofs.Lists.{of_all}
use Rattle.vmv_forward.specs.Least.{IsReachBelow, IsNoMore}
use Rattle.vmv_forward.proofs.Items.{zips_same}
use Rattle.vmv_forward.proofs.Sorted.{sites_same}

abbrev row_with : Name → Zone → List Zone → Reach → List NamedSite → Row
row_with proc input keeps result unproved = record { proc = proc; input = input; keeps = keeps; result = result; unproved = unproved }

-- rows with the same parts are equal
pub same_parts : (a b : Row) → a.proc ≡ b.proc → a.input ≡ b.input → a.keeps ≡ b.keeps → a.result ≡ b.result → a.unproved ≡ b.unproved → a ≡ b
same_parts a b p i k r u =
    ap (λ (x : Name). row_with x a.input a.keeps a.result a.unproved) p
    ∙ (ap (λ (x : Zone). row_with b.proc x a.keeps a.result a.unproved) i
    ∙ (ap (λ (x : List Zone). row_with b.proc b.input x a.result a.unproved) k
    ∙ (ap (λ (x : Reach). row_with b.proc b.input b.keeps x a.unproved) r
    ∙ ap (λ (x : List NamedSite). row_with b.proc b.input b.keeps b.result x) u)))

-- results that are below one another are equal
reach_both : (a b : Reach) → IsReachBelow a b → IsReachBelow b a → a ≡ b
reach_both Bottom Bottom h g = refl
reach_both Bottom (Value d) h g = absurd g
reach_both (Value c) Bottom h g = absurd h
reach_both (Value c) (Value d) h g = ap (λ (x : Cond). Value x) (same_words c d h g)

pub keeps_both : (vars : ℕ) (xs ys : List Zone) → All (λ z. vars_of z ≡ vars) xs → All (λ z. vars_of z ≡ vars) ys → AllZip IsBelow xs ys → AllZip IsBelow ys xs → xs ≡ ys
keeps_both vars xs ys a b one two =
    zips_same IsBelow (λ (z : Zone). z.vars ≡ vars) xs ys (λ x y p q down up. below_both x y (p ∙ sym q) down up) (λ x c. of_all (λ z. vars_of z ≡ vars) xs a x c) (λ y c. of_all (λ z. vars_of z ≡ vars) ys b y c) one two

-- rows of one procedure and input that say no more than one another are equal
pub no_more_both : (program : Resolution) (n : ℕ) (item : Item) (code : Code) (a b : Row) → IsResolution program → IsFormed program a n item code → IsFormed program b n item code → a.input ≡ b.input → IsNoMore a b → IsNoMore b a → a ≡ b
no_more_both program n item code a b is f g input one two =
    same_parts a b (sym f.named ∙ g.named) input (keeps_both code.vars a.keeps b.keeps f.over g.over one.keeps two.keeps) (reach_both a.result b.result one.result two.result)
    (sites_same program n n a.unproved b.unproved is f.sites g.sites one.sites two.sites)
