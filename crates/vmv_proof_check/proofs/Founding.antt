-- The sites that all rows which are looked for list.
use Rattle.std.proofs.Common.{◌≡◌, ◌↔◌, ◌⊎◌, inl, inr, ⊎_elim, ℕ, ◌+◌, ◌<◌, ◌≤◌, Option, Some, None, List, [], ◌∷◌, ◌++◌, length, take, get_or, sym, ap, subst, arith}
use Rattle.std.specs.List.{Contains}
use Rattle.std.proofs.lemmas.Bool.{cases_eq}
use Rattle.std.proofs.lemmas.List.{take_all}
use Rattle.vmv_tree.specs.declared.site.NamedSite.{NamedSite}
use Rattle.vmv_snapshot.specs.Resolution.{Resolution}
use Rattle.vmv_snapshot.proofs.Zips.{take_one_more}
use Rattle.vmv_step.proofs.Places.{same_name}
use Rattle.vmv_cert.specs.declared.row.Row.{Row}
use Rattle.vmv_cert.specs.Tables.{Box, IsRowAbove}
use Rattle.vmv_check.proofs.Lists.{push_in, old_in, new_in}
use Rattle.vmv_proof_check.specs.Parts.{HasRow}
use Rattle.vmv_proof_check.specs.Work.{AreCommon, AreFound, IsBeforehand, IsNarrowed, IsNextFound}
use Rattle.vmv_proof_check.proofs.Lists.{none_in, first_or_later, later_in}

same_site : (a b : NamedSite) → (a ≡ b) ⊎ (a ≡ b → ⊥)
same_site a b = ⊎_elim (λ (e : a.proc ≡ b.proc). by e (cases_eq a.index b.index)) (λ (n : a.proc ≡ b.proc → ⊥). inr (λ f. n (ap (λ (s : NamedSite). s.proc) f))) (same_name a.proc b.proc)
  where
    by : a.proc ≡ b.proc → ((a.index ≡ b.index) ⊎ (a.index ≡ b.index → ⊥)) → (a ≡ b) ⊎ (a ≡ b → ⊥)
    by e (inl i) = inl (λ t. record { proc = e t; index = i t })
    by e (inr n) = inr (λ f. n (ap (λ (s : NamedSite). s.index) f))

-- a site is in a list or isn't
among : (sites : List NamedSite) (site : NamedSite) → Contains sites site ⊎ (Contains sites site → ⊥)
among [] site = inr (none_in site)
among (s ∷ sites) site = by (same_site s site) (among sites site)
  where
    by : ((s ≡ site) ⊎ (s ≡ site → ⊥)) → (Contains sites site ⊎ (Contains sites site → ⊥)) → Contains (s ∷ sites) site ⊎ (Contains (s ∷ sites) site → ⊥)
    by (inl e) rest = inl (0, omega arith, e)
    by (inr n) (inl h) = inl (later_in s sites site h)
    by (inr n) (inr m) = inr (λ h. ⊎_elim (λ (e : s ≡ site). n e) (λ (g : Contains sites site). m g) (first_or_later s sites site h))

module _ (program : Resolution) (number : ℕ) (box : Box) where
  abbrev Above : Row → Type 0
  Above row = IsRowAbove program number box row

  more_rows : (P : Row → Type 0) (rows : List Row) (row : Row) → HasRow program number box P rows → HasRow program number box P (rows ++ row ∷ [])
  more_rows P rows row (r, there, above, holds) = (r, old_in rows row r there, above, holds)

  pub found_start : (rows : List Row) → AreFound program number box (take 0 rows) None
  found_start rows row there = absurd (none_in row there)

  push_no : (rows : List Row) (row : Row) (found : Option (List NamedSite)) → AreFound program number box rows found → (Above row → ⊥) → AreFound program number box (rows ++ row ∷ []) found
  push_no rows row None old other = λ r there above. ⊎_elim (λ (o : Contains rows r). old r o above) (λ (e : row ≡ r). other (subst Above (sym e) above)) (push_in rows row r there)
  push_no rows row (Some sites) old other = record {
    some = more_rows _ rows row old.some;
    listed = λ site s r there above. ⊎_elim (λ (o : Contains rows r). old.listed site s r o above) (λ (e : row ≡ r). absurd (other (subst Above (sym e) above))) (push_in rows row r there);
    left_out = λ site n. more_rows _ rows row (old.left_out site n);
  }

  push_yes : (rows : List Row) (row : Row) (found : Option (List NamedSite)) (sites : List NamedSite) → AreFound program number box rows found → Above row → IsNarrowed found row sites → AreCommon program number box (rows ++ row ∷ []) sites
  push_yes rows row found sites old above narrowed = record {
    some = (row, new_in rows row, above, tt);
    listed = λ site s r there up. ⊎_elim (λ (o : Contains rows r). earlier found old site ((narrowed site).0 s).0 r o up) (λ (e : row ≡ r). subst (λ (x : Row). Contains x.unproved site) e ((narrowed site).0 s).1) (push_in rows row r there);
    left_out = λ site n. ⊎_elim (λ (h : Contains row.unproved site). more_rows _ rows row (missing found old site (λ b. n ((narrowed site).1 (b, h))))) (λ (m : Contains row.unproved site → ⊥). (row, new_in rows row, above, m)) (among row.unproved site);
  }
    where
      earlier : (f : Option (List NamedSite)) → AreFound program number box rows f → (site : NamedSite) → IsBeforehand f site → (r : Row) → Contains rows r → Above r → Contains r.unproved site
      earlier None o site b r there up = absurd (o r there up)
      earlier (Some s) o site b r there up = o.listed site b r there up

      missing : (f : Option (List NamedSite)) → AreFound program number box rows f → (site : NamedSite) → (IsBeforehand f site → ⊥) → HasRow program number box (λ r. Contains r.unproved site → ⊥) rows
      missing None o site n = absurd (n tt)
      missing (Some s) o site n = o.left_out site n

  pub found_no : (rows : List Row) (i : ℕ) (row : Row) (found : Option (List NamedSite)) → i < length rows → row ≡ get_or rows i row → AreFound program number box (take i rows) found → (Above row → ⊥) → AreFound program number box (take (i + 1) rows) found
  found_no rows i row found h is old other = subst (λ (rs : List Row). AreFound program number box rs found) (sym (take_one_more rows i row h is)) (push_no (take i rows) row found old other)

  pub found_yes : (rows : List Row) (i : ℕ) (row : Row) (found : Option (List NamedSite)) (sites : List NamedSite) → i < length rows → row ≡ get_or rows i row → AreFound program number box (take i rows) found → Above row → IsNarrowed found row sites →
      AreFound program number box (take (i + 1) rows) (Some sites)
  found_yes rows i row found sites h is old above narrowed = subst (λ (rs : List Row). AreCommon program number box rs sites) (sym (take_one_more rows i row h is)) (push_yes (take i rows) row found sites old above narrowed)

  pub found_all : (rows : List Row) (i : ℕ) (found : Option (List NamedSite)) → length rows ≤ i → AreFound program number box (take i rows) found → AreFound program number box rows found
  found_all rows i found h old = subst (λ (rs : List Row). AreFound program number box rs found) (take_all i rows h) old

  pub found_next : (rows : List Row) (i : ℕ) (row : Row) (found next : Option (List NamedSite)) → i < length rows → row ≡ get_or rows i row → AreFound program number box (take i rows) found → IsNextFound program number box found row next → AreFound program number box (take (i + 1) rows) next
  found_next rows i row found next h is old (inl (above, (sites, e, narrowed))) = subst (λ (o : Option (List NamedSite)). AreFound program number box (take (i + 1) rows) o) (sym e) (found_yes rows i row found sites h is old above narrowed)
  found_next rows i row found next h is old (inr (other, e)) = subst (λ (o : Option (List NamedSite)). AreFound program number box (take (i + 1) rows) o) (sym e) (found_no rows i row found h is old other)

-- one more site that both lists have, or only the first
pub both_more : (sites others both more : List NamedSite) (i : ℕ) (site : NamedSite) → i < length sites → site ≡ get_or sites i site → ((s : NamedSite) → Contains both s ↔ (Contains (take i sites) s × Contains others s)) →
    ((s : NamedSite) → Contains more s ↔ (Contains both s ⊎ ((site ≡ s) × Contains others s))) → (s : NamedSite) → Contains more s ↔ (Contains (take (i + 1) sites) s × Contains others s)
both_more sites others both more i site h is old step s =
    subst (λ (ss : List NamedSite). Contains more s ↔ (Contains ss s × Contains others s)) (sym (take_one_more sites i site h is)) (
      λ there. ⊎_elim (λ (o : Contains both s). let b = (old s).0 o in (old_in (take i sites) site s b.0, b.1)) (λ (n : (site ≡ s) × Contains others s). (subst (λ (x : NamedSite). Contains (take i sites ++ site ∷ []) x) n.0 (new_in (take i sites) site), n.1)) ((step s).0 there),
      λ (there, other). ⊎_elim (λ (o : Contains (take i sites) s). (step s).1 (inl ((old s).1 (o, other)))) (λ (e : site ≡ s). (step s).1 (inr (e, other))) (push_in (take i sites) site s there),
    )

pub both_none : (sites others both : List NamedSite) → both ≡ [] → (s : NamedSite) → Contains both s ↔ (Contains (take 0 sites) s × Contains others s)
both_none sites others both e s = ((λ h. absurd (none_in s (subst (λ (ss : List NamedSite). Contains ss s) e h))), (λ h. absurd (none_in s h.0)))

pub both_all : (sites others both : List NamedSite) (i : ℕ) → length sites ≤ i → ((s : NamedSite) → Contains both s ↔ (Contains (take i sites) s × Contains others s)) → (s : NamedSite) → Contains both s ↔ (Contains sites s × Contains others s)
both_all sites others both i h old s = subst (λ (ss : List NamedSite). Contains both s ↔ (Contains ss s × Contains others s)) (take_all i sites h) (old s)
