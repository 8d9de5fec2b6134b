-- What the first row of a least table tells of its entry.
use Rattle.std.proofs.Common.{◌≡◌, ◌↔◌, ℕ, Bool, IsTrue, List, ◌∷◌, refl, sym, subst, arith}
use Rattle.std.specs.List.{Contains}
use Rattle.vmv_tree.specs.declared.ends.NameEnds.{NameEnds}
use Rattle.vmv_tree.specs.declared.site.NamedSite.{NamedSite}
use Rattle.vmv_tree.specs.declared.tree.Param.{Param}
use Rattle.vmv_snapshot.specs.Resolution.{Resolution, IsResolution}
use Rattle.vmv_assumption.specs.Assumed.{Assumed}
use Rattle.vmv_cert.specs.declared.row.Row.{Row}
use Rattle.vmv_cert.specs.declared.row.Reach.TheVariants.{Bottom}
use Rattle.vmv_cert.specs.Tables.{Box, IsEntry, IsBoxIn, ranges_of, AreSitesOf, Provable, Dead}
use Rattle.vmv_forward.specs.Least.{IsLeastTable}
use Rattle.vmv_forward.proofs.Low.{accepted_goes, formed_at}
use Rattle.vmv_forward.proofs.FirstRows.{has_rows, decides_death, decides_proof}

module _ (program : Resolution) (n : ℕ) (params : List Param) (box : Box) (ends : List NameEnds) (assumed : Assumed) (rows : List Row) where
  -- its first row says whether the entry is dead
  pub death_told : (dead : Bool) → IsEntry program n params → IsBoxIn params box → IsLeastTable program n box ends assumed rows → ((first : Row) (rest : List Row) → rows ≡ first ∷ rest → IsTrue dead ↔ (first.result ≡ Bottom)) → IsTrue dead ↔ Dead program n box ends assumed
  death_told dead is inside told tells =
      let x = has_rows program n box ends assumed rows told in
      let one = tells x.0 x.1 x.2 in
      let law =
      decides_death program n params box ends assumed x.0 x.1 is inside (subst (λ (rs : List Row). IsLeastTable program n box ends assumed rs) x.2 told) in
      ((λ d. law.1 (one.0 d)), (λ d. one.1 (law.0 d)))

  -- it lists the sites that aren't provable
  pub sites_told : (sites : List NamedSite) → IsEntry program n params → box ≡ ranges_of params → IsLeastTable program n box ends assumed rows → ((first : Row) (rest : List Row) → rows ≡ first ∷ rest → sites ≡ first.unproved) →
      (site : NamedSite) → Provable program n ends assumed site ↔ (Contains sites site → ⊥)
  sites_told sites is whole told lists site =
      let x = has_rows program n box ends assumed rows told in
      let L : Box → Type 0 = λ b. IsLeastTable program n b ends assumed (x.0 ∷ x.1) in
      let law =
      decides_proof program n params ends assumed x.0 x.1 site is (subst L whole (subst (λ (rs : List Row). IsLeastTable program n box ends assumed rs) x.2 told)) in
      subst (λ (ss : List NamedSite). Provable program n ends assumed site ↔ (Contains ss site → ⊥)) (sym (lists x.0 x.1 x.2)) law

  -- these are sites of procedures that the entry reaches
  pub sites_reached : (sites : List NamedSite) → IsResolution program → IsLeastTable program n box ends assumed rows → ((first : Row) (rest : List Row) → rows ≡ first ∷ rest → sites ≡ first.unproved) → AreSitesOf program n sites
  sites_reached sites is told lists =
      let x = has_rows program n box ends assumed rows told in
      let there : Contains rows x.0 = subst (λ (rs : List Row). Contains rs x.0) (sym x.2) (first_in x.0 x.1) in
      let g = accepted_goes program assumed rows x.0 told.accepted there in
      let formed = formed_at program x.0 g.number n g.item g.code is g.formed x.3 in
      subst (λ (ss : List NamedSite). AreSitesOf program n ss) (sym (lists x.0 x.1 x.2)) formed.sites
    where
      first_in : (row : Row) (rest : List Row) → Contains (row ∷ rest) row
      first_in row rest = (0, omega arith, refl)
