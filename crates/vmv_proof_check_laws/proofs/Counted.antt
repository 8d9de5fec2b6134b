-- The rows of a revision are counted in one way.
use Rattle.std.proofs.Common.{◌≡◌, inl, inr, ℕ, Bool, List, count_by, refl, sym, ap, subst, arith, ◌∙◌}
use Rattle.std.specs.List.{Contains}
use Rattle.vmv_snapshot.specs.Resolution.{Resolution}
use Rattle.vmv_cert.specs.Places.{Place, IsSiteBefore, IsBefore}
use Rattle.vmv_proof.specs.declared.proof.Shown.{Shown}
use Rattle.vmv_proof_check.specs.declared.claims.Claims.{Claims}
use Rattle.vmv_proof_check.specs.Counts.{Standing, clean, hidden, left, StandsAs, is_clean, is_hidden, is_left, AreStandings, AreCounted}
use Rattle.vmv_proof_check_laws.proofs.Lists.{ordered_of, one_order}

abbrev Told : Type 0
Told = Place × Standing

site_apart : (a b : Place) → IsSiteBefore a b → IsSiteBefore b a → ⊥
site_apart a b (inl h) (inl g) = absurd (omega (arith, h, g))
site_apart a b (inl h) (inr (e, g)) = absurd (omega (arith, h, e))
site_apart a b (inr (e, h)) (inl g) = absurd (omega (arith, e, g))
site_apart a b (inr (e, h)) (inr (f, g)) = absurd (omega (arith, h, g))

-- of two places one stands before the other at most
before_apart : (a b : Place) → IsBefore a b → IsBefore b a → ⊥
before_apart a b (inl h) (inl g) = absurd (omega (arith, h, g))
before_apart a b (inl h) (inr (e, g)) = absurd (omega (arith, h, e))
before_apart a b (inr (e, h)) (inl g) = absurd (omega (arith, e, g))
before_apart a b (inr (e, h)) (inr (f, g)) = site_apart a b h g

-- a row stands in one way
standing_once : (revision : Resolution) (shown : List Shown) (place : Place) (s t : Standing) → StandsAs revision shown place s → StandsAs revision shown place t → s ≡ t
standing_once revision shown place clean clean h g = refl
standing_once revision shown place clean hidden h g = absurd (g.0 h)
standing_once revision shown place clean left h g = absurd (g.0 h)
standing_once revision shown place hidden clean h g = absurd (h.0 g)
standing_once revision shown place hidden hidden h g = refl
standing_once revision shown place hidden left h g = absurd (g.1 h.1)
standing_once revision shown place left clean h g = absurd (h.0 g)
standing_once revision shown place left hidden h g = absurd (h.1 g.1)
standing_once revision shown place left left h g = refl

module _ (revision : Resolution) (shown : List Shown) where
  among : (a b : List Told) → AreStandings revision shown a → AreStandings revision shown b → (row : Told) → Contains a row → Contains b row
  among a b h g row there =
      let one = h.each row there in
      let found = g.all row.0 one.0 in
      let other = g.each (row.0, found.0) found.1 in
      subst (λ (s : Standing). Contains b (row.0, s)) (standing_once revision shown row.0 found.0 row.1 other.1 one.1) found.1

  rows_once : (a b : List Told) → AreStandings revision shown a → AreStandings revision shown b → a ≡ b
  rows_once a b h g =
      one_order (λ (x y : Told). IsBefore x.0 y.0) (λ x y. before_apart x.0 y.0) a b (ordered_of (λ (x y : Told). IsBefore x.0 y.0) a h.in_order)
      (ordered_of (λ (x y : Told). IsBefore x.0 y.0) b g.in_order) (among a b h g) (among b a g h)

  count_once : (p : Standing → Bool) (a b : List Told) (m n : ℕ) → a ≡ b → m ≡ count_by (λ (row : Told). p row.1) a → n ≡ count_by (λ (row : Told). p row.1) b → m ≡ n
  count_once p a b m n e h g = h ∙ (ap (λ (rows : List Told). count_by (λ (row : Told). p row.1) rows) e ∙ sym g)

  pub claims_once : (one other : Claims) → AreCounted revision shown one → AreCounted revision shown other → one ≡ other
  claims_once one other h g =
      let rows = rows_once h.rows g.rows h.standings g.standings in
      let c = count_once is_clean h.rows g.rows one.clean other.clean rows h.clean_is g.clean_is in
      let d = count_once is_hidden h.rows g.rows one.hidden other.hidden rows h.hidden_is g.hidden_is in
      let l = count_once is_left h.rows g.rows one.left other.left rows h.left_is g.left_is in
      λ i. record { clean = c i; hidden = d i; left = l i }
