-- Rows that are gathered with a run for each regression.
use Rattle.std.proofs.Common.{◌≡◌, inl, inr, ⊎_elim, ℕ, ◌+◌, Bool, true, false, Option, Some, None, List, [], ◌∷◌, ◌++◌, filter, refl, sym, ap, subst, arith, ◌∙◌, append-nil, Result, Ok, Err, OnOk}
use Rattle.std.specs.List.{AllZip, Contains}
use Rattle.std.proofs.lemmas.List.Elements.{filter-append}
use Rattle.std.proofs.lemmas.Slice.Zip.{all_zipped_more}
use Rattle.vmv_tree.specs.declared.name.Name.{Name}
use Rattle.vmv_tree.specs.declared.site.NamedSite.{NamedSite}
use Rattle.vmv_cond.specs.declared.cond.Cond.{Cond}
use Rattle.vmv_snapshot.specs.Resolution.{Resolution}
use Rattle.vmv_assumption.specs.Whole.{whole}
use Rattle.vmv_assumption.specs.Assumed.{Assumed, cond_of}
use Rattle.vmv_cert.specs.Tables.{Provable}
use Rattle.vmv_witness.specs.declared.witness.Witness.{Witness}
use Rattle.vmv_enough.specs.Failures.{IsCounterexample}
use Rattle.vmv_check.proofs.Lists.{of_all}
use Rattle.vmv_report.specs.declared.class.Class.{Class}
use Rattle.vmv_report.specs.declared.class.Class.TheVariants.{Clean, Hidden, Regression, Alarm}
use Rattle.vmv_report.specs.declared.row.ReportRow.{ReportRow}
use Rattle.vmv_report.specs.declared.proving.EntrySites.{EntrySites}
use Rattle.vmv_report.specs.declared.told.Told.{Told}
use Rattle.vmv_report.specs.Rows.{named_site, Place, IsPlace, place_of, regression_count, Review, IsAlwaysProvable, IsRelativelyProvable, IsOfClass, is_class, RegressesBy, StaysBy, IsFoundAt, IsWitnessBy}
use Rattle.vmv_report.specs.Work.{at, AreUnproved, AreFoundBy, AreSitesFor, IsInBoth, IsToldClass, IsNextRun, IsNoRun, IsToldBefore}
use Rattle.vmv_report.proofs.Gathering.{no_rows, one_row}
use Rattle.vmv_report.proofs.Counting.{other_counted, one_counted}
use Rattle.vmv_report.proofs.Listing.{where_some}

none_in : {X : Type 0} (x : X) → Contains [] x → ⊥
none_in x (k, within, is) = absurd (omega (arith, within))

pub no_told : (review : Review) (told : Told) → told.rows ≡ [] → told.witnesses ≡ [] → told.regressions ≡ 0 → IsToldBefore review (at 0 0 1) told
no_told review told rows runs none = record {
  rows = no_rows review told.rows rows;
  witnesses =
      let R = IsWitnessBy review.revision review.enough in
      let p : ReportRow → Bool = λ r. is_class Regression r.class in
      let P : List ReportRow → Type 0 = λ rs. AllZip R (filter p rs) told.witnesses in
      let Q : List Witness → Type 0 = λ ws. AllZip R [] ws in
      subst P (sym rows) (subst Q (sym runs) tt);
  counted = none ∙ ap (regression_count 0) (sym rows);
}

-- one more row that is no regression, with no more runs
pub one_told : (review : Review) (n m k : ℕ) (row : ReportRow) (old new : Told) → new.rows ≡ old.rows ++ row ∷ [] → new.witnesses ≡ old.witnesses → new.regressions ≡ old.regressions → place_of row ≡ at n m k → IsPlace review.revision (at n m k) →
    IsOfClass review old.rows row row.class → is_class Regression row.class ≡ false → IsToldBefore review (at n m k) old → IsToldBefore review (at n m (k + 1)) new
one_told review n m k row old new grown same count here is class other before = record {
  rows = one_row review n m k row old.rows new.rows grown here is class before.rows;
  witnesses =
      let R = IsWitnessBy review.revision review.enough in
      let p : ReportRow → Bool = λ r. is_class Regression r.class in
      let last : filter p (row ∷ []) ≡ [] = rw other refl in
      let e : filter p new.rows ≡ filter p old.rows = ap (filter p) grown ∙ filter-append p old.rows (row ∷ []) ∙ ap (λ rs. filter p old.rows ++ rs) last ∙ append-nil (filter p old.rows) in
      let P : List ReportRow → Type 0 = λ rs. AllZip R rs new.witnesses in
      let Q : List Witness → Type 0 = λ ws. AllZip R (filter p old.rows) ws in
      subst P (sym e) (subst Q (sym same) before.witnesses);
  counted = count ∙ before.counted ∙ sym (other_counted n row old.rows new.rows grown other);
}

-- one more regression, with its run
pub one_more_run : (review : Review) (n m k : ℕ) (row : ReportRow) (w : Witness) (old new : Told) → new.rows ≡ old.rows ++ row ∷ [] → new.witnesses ≡ old.witnesses ++ w ∷ [] → new.regressions ≡ old.regressions + 1 → place_of row ≡ at n m k → IsPlace review.revision (at n m k) →
    IsOfClass review old.rows row row.class → is_class Regression row.class ≡ true → IsWitnessBy review.revision review.enough row w → IsToldBefore review (at n m k) old → IsToldBefore review (at n m (k + 1)) new
one_more_run review n m k row w old new grown more count here is class regression run before = record {
  rows = one_row review n m k row old.rows new.rows grown here is class before.rows;
  witnesses =
      let R = IsWitnessBy review.revision review.enough in
      let p : ReportRow → Bool = λ r. is_class Regression r.class in
      let last : filter p (row ∷ []) ≡ row ∷ [] = rw regression refl in
      let e : filter p new.rows ≡ filter p old.rows ++ row ∷ [] = ap (filter p) grown ∙ filter-append p old.rows (row ∷ []) ∙ ap (λ rs. filter p old.rows ++ rs) last in
      let P : List ReportRow → Type 0 = λ rs. AllZip R rs new.witnesses in
      let Q : List Witness → Type 0 = λ ws. AllZip R (filter p old.rows ++ row ∷ []) ws in
      subst P (sym e) (subst Q (sym more) (all_zipped_more R (filter p old.rows) old.witnesses row w before.witnesses run));
  counted = count ∙ ap (λ c. c + 1) before.counted ∙ sym (one_counted n row old.rows new.rows grown (ap (λ (p : Place). p.entry) here) regression);
}

moved : (review : Review) (a : Assumed) (n : ℕ) (x y : NamedSite) → x ≡ y → Provable review.revision n review.ends a x → Provable review.revision n review.ends a y
moved review a n x y s h = let Q : NamedSite → Type 0 = λ z. Provable review.revision n review.ends a z in subst Q s h

-- what the other list has, where a site isn't always provable
relatively : (review : Review) (n : ℕ) (sites : EntrySites) (named : NamedSite) → AreSitesFor review n sites → Contains sites.always named → AreUnproved review.revision n review.ends review.needed sites.relative
relatively review n sites named are there = where_some sites.always (AreUnproved review.revision n review.ends review.needed) sites.relative named there are.relative

-- the runs, where a site is in both lists
pub runs_found : (review : Review) (n : ℕ) (sites : EntrySites) (named : NamedSite) → AreSitesFor review n sites → IsInBoth sites named → AreFoundBy review.revision review.enough n sites.found
runs_found review n sites named are both = where_some sites.relative (AreFoundBy review.revision review.enough n) sites.found named both.1 are.found

-- the class that the lists of an entry tell is that of the row
pub class_right : (review : Review) (before : List ReportRow) (sites : EntrySites) (named : NamedSite) (row : ReportRow) → AreSitesFor review row.entry.0 sites → named_site review.revision row.site ≡ named → IsToldClass sites named (Some row.class) →
    IsOfClass review before row row.class
class_right review before sites named row are s told = by row.class told
  where
    by : (class : Class) → IsToldClass sites named (Some class) → IsOfClass review before row class
    by Clean t = moved review (λ name. whole) row.entry.0 named (named_site review.revision row.site) (sym s) ((are.always.decides named).1 t)
    by Hidden t = (
      (λ p. (are.always.decides named).0 (moved review (λ name. whole) row.entry.0 (named_site review.revision row.site) named s p) t.0),
      moved review review.needed row.entry.0 named (named_site review.revision row.site) (sym s) (((relatively review row.entry.0 sites named are t.0).decides named).1 t.1),
    )
    by Regression t = absurd t
    by Alarm t = absurd t

pub told_other : (sites : EntrySites) (named : NamedSite) (class : Class) → IsToldClass sites named (Some class) → is_class Regression class ≡ false
told_other sites named Clean t = refl
told_other sites named Hidden t = refl
told_other sites named Regression t = absurd t
told_other sites named Alarm t = refl

-- a site that is in both lists is provable in neither way
pub neither : (review : Review) (sites : EntrySites) (row : ReportRow) → AreSitesFor review row.entry.0 sites → IsInBoth sites (named_site review.revision row.site) → (¬ IsAlwaysProvable review row) × (¬ IsRelativelyProvable review row)
neither review sites row are both =
    let site = named_site review.revision row.site in
    ((λ p. (are.always.decides site).0 p both.0), (λ p. ((relatively review row.entry.0 sites site are both.0).decides site).0 p both.1))

-- the next run makes the row a regression
pub run_is : (revision : Resolution) (enough : Option (List (Name × Cond))) (found : List Witness) (before : List ReportRow) (row : ReportRow) (w : Witness) → AreFoundBy revision enough row.entry.0 found →
    IsNextRun (regression_count row.entry.0 before) found (named_site revision row.site) w → RegressesBy revision enough before row × IsWitnessBy revision enough row w
run_is revision None found before row w are next =
    let P : List Witness → Type 0 = λ ws. Contains ws w in absurd (none_in w (subst P are next.0))
run_is revision (Some held) found before row w are next =
    let is : IsFoundAt revision (cond_of held) row w = record { found = found; found_are = are.0; there = next.0; site = next.1; runs = of_all (IsCounterexample revision row.entry.0 (cond_of held)) found are.1 w next.0 } in
    (record { witness = w; witness_is = is; few = next.2 }, is)

-- without a next run it is an alarm
pub stays : (revision : Resolution) (enough : Option (List (Name × Cond))) (found : List Witness) (before : List ReportRow) (row : ReportRow) → AreFoundBy revision enough row.entry.0 found →
    IsNoRun (regression_count row.entry.0 before) found (named_site revision row.site) → StaysBy revision enough before row
stays revision None found before row are none = tt
stays revision (Some held) found before row are none =
    ⊎_elim
    (λ (no : (w : Witness) → Contains found w → w.site ≡ named_site revision row.site → ⊥). inl (record { found = found; found_are = are.0; none = no }))
    (λ many. inr many)
    none

-- what is found of counts, lists and sites that are the same
pub next_is : {count count' : ℕ} {found found' : List Witness} {site site' : NamedSite} {w w' : Witness} → count ≡ count' → found ≡ found' → site ≡ site' → w ≡ w' → IsNextRun count found site w → IsNextRun count' found' site' w'
next_is {count} {count'} {found} {found'} {site} {site'} {w} {w'} e f s v next =
    let P : ℕ → Type 0 = λ it. IsNextRun it found site w in
    let Q : List Witness → Type 0 = λ it. IsNextRun count' it site w in
    let R : NamedSite → Type 0 = λ it. IsNextRun count' found' it w in
    let S : Witness → Type 0 = λ it. IsNextRun count' found' site' it in
    subst S v (subst R s (subst Q f (subst P e next)))

pub none_is : {count count' : ℕ} {found found' : List Witness} {site site' : NamedSite} → count ≡ count' → found ≡ found' → site ≡ site' → IsNoRun count found site → IsNoRun count' found' site'
none_is {count} {count'} {found} {found'} {site} {site'} e f s none =
    let P : ℕ → Type 0 = λ it. IsNoRun it found site in
    let Q : List Witness → Type 0 = λ it. IsNoRun count' it site in
    let R : NamedSite → Type 0 = λ it. IsNoRun count' found' it in
    subst R s (subst Q f (subst P e none))

pub on_ok : {A E P Q : Type 0} (r : Result A E) → OnOk r P → (P → Q) → OnOk r Q
on_ok (Ok a) h on = on h
on_ok (Err e) h on = h
