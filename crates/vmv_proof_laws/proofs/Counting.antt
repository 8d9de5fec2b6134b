-- What the tables of a proof show of the rows of a report.
use Rattle.std.proofs.Common.{◌≡◌, ◌↔◌, ⊎_elim, ℕ, ◌+◌, ◌<◌, Bool, true, cond, Option, Some, List, [], ◌∷◌, ◌++◌, length, map, count_by, slice_get, get_or, refl, sym, ap, subst, ◌∙◌, arith}
use Rattle.std.specs.List.{AllPairs, Contains}
use Rattle.std.proofs.lemmas.List.{get_or-map, length-map}
use Rattle.std.proofs.lemmas.List.Sums.{sum_by-cons}
use Rattle.vmv_tree.specs.declared.ends.NameEnds.{NameEnds}
use Rattle.vmv_tree.specs.declared.name.Name.{Name}
use Rattle.vmv_tree.specs.declared.tree.Param.{Param}
use Rattle.vmv_tree.specs.Tree.{entry}
use Rattle.vmv_tree.specs.Run.{name_of}
use Rattle.vmv_cond.specs.declared.cond.Cond.{Cond}
use Rattle.vmv_snapshot.specs.Procs.{is_entry}
use Rattle.vmv_snapshot.specs.Resolution.{Resolution, IsResolution, procs_of}
use Rattle.vmv_assumption.specs.Whole.{whole}
use Rattle.vmv_assumption.specs.Assumed.{Assumed}
use Rattle.vmv_cert.specs.declared.row.Row.{Row}
use Rattle.vmv_cert.specs.Tables.{IsEntry, ranges_of, Provable}
use Rattle.vmv_cert.specs.Places.{Place, IsPlace, IsBefore, site_at}
use Rattle.vmv_forward.specs.Least.{IsLeastTable}
use Rattle.vmv_need.proofs.Lists.{none_in, first_in, later_in, first_or_later}
use Rattle.vmv_proof.specs.declared.proof.Shown.{Shown}
use Rattle.vmv_proving.specs.Shown.{IsShownOf, AreShown}
use Rattle.vmv_proof_check.specs.Counts.{LeavesOut, IsShownFor, IsPlain, IsGiven, Standing, clean, hidden, left, StandsAs, is_clean, is_hidden, is_left, AreStandings, AreCounted}
use Rattle.vmv_proof_check.specs.declared.claims.Claims.{Claims}
use Rattle.vmv_report.specs.declared.class.Class.{Class}
use Rattle.vmv_report.specs.declared.class.Class.TheVariants.{Clean, Hidden, Regression, Alarm}
use Rattle.vmv_report.specs.declared.row.ReportRow.{ReportRow}
use Rattle.vmv_report.specs.Rows.{is_class, Review, IsOfClass, AreRows, class_count, Place as RowPlace, IsPlace as IsRowPlace, place_of as row_place}
use Rattle.vmv_report.proofs.Reading.{HaveRows, DecideProof, some_shown, own_shown}
use Rattle.vmv_proof_laws.proofs.Excluding.{BeginAbove, map_some, first_row}

module _ (have : HaveRows) (decide : DecideProof) (above : BeginAbove) (revision : Resolution) (ends : List NameEnds) (is : IsResolution revision) where
  -- a least table for the whole ranges leaves a site out exactly where it is provable
  left_out_is : (place : Place) (params : List Param) (assumed : Assumed) (rows : List Row) → IsEntry revision place.entry params → IsLeastTable revision place.entry (ranges_of params) ends assumed rows →
      LeavesOut revision place rows ↔ Provable revision place.entry ends assumed (site_at revision place)
  left_out_is place params assumed rows its least = (
    (λ out. (out.0, out.1, (rows, out.2.0, least.accepted, least.thresholds, out.2.1, out.2.2, out.2.3))),
    (λ provable. (
      params,
      its,
      first_row have above revision place.entry (ranges_of params) ends assumed rows (λ row. ¬ Contains row.unproved (site_at revision place)) least
          (λ first rest e. (decide revision place.entry params ends assumed first rest (site_at revision place) is its (subst (λ (rs : List Row). IsLeastTable revision place.entry (ranges_of params) ends assumed rs) e least)).0 provable),
    )),
  )

  module _ (needed : Assumed) (shown : List Shown) (are : AreShown revision ends needed shown) (place : Place) (here : IsPlace revision place) where
    flag : slice_get (map is_entry (procs_of revision)) place.entry ≡ Some true
    flag = let e = here.entry in map_some is_entry (procs_of revision) place.entry (entry e.0 here.params e.1) e.2

    named : slice_get (map name_of (procs_of revision)) place.entry ≡ Some here.entry.0
    named = let e = here.entry in map_some name_of (procs_of revision) place.entry (entry e.0 here.params e.1) e.2

    own_of : (s : Shown) → IsShownFor revision shown place s → IsShownOf revision ends needed place.entry s
    own_of s for = own_shown revision ends needed shown are place.entry s.entry for.1 is s for.0 refl

    some_of : (s : Shown) × IsShownFor revision shown place s
    some_of =
        let found = some_shown revision ends needed shown are place.entry here.entry.0 named flag in
        (found.0, (found.1, named ∙ ap Some (sym found.2)))

    plain_is : IsPlain revision shown place ↔ Provable revision place.entry ends (λ name. whole) (site_at revision place)
    plain_is = (
      (λ p. let own = own_of p.0 p.1 in (left_out_is place own.params (λ name. whole) (p.0).plain.rows own.entry own.plain).0 p.2),
      (λ q. let s = some_of in let own = own_of s.0 s.1 in (s.0, s.1, (left_out_is place own.params (λ name. whole) (s.0).plain.rows own.entry own.plain).1 q)),
    )

    given_is : IsGiven revision shown place ↔ Provable revision place.entry ends needed (site_at revision place)
    given_is = (
      (λ p. let own = own_of p.0 p.1 in (left_out_is place own.params needed (p.0).given.rows own.entry own.given).0 p.2),
      (λ q. let s = some_of in let own = own_of s.0 s.1 in (s.0, s.1, (left_out_is place own.params needed (s.0).given.rows own.entry own.given).1 q)),
    )

-- the place of a row, as tables have it
abbrev place_like : RowPlace → Place
place_like place = record { entry = place.entry; proc = place.proc; index = place.index }

abbrev place_of : ReportRow → Place
place_of row = place_like (row_place row)

abbrev row_like : Place → RowPlace
row_like place = record { entry = place.entry; proc = place.proc; index = place.index }

-- the places of rows are those at which an entry may fail
to_place : (program : Resolution) (place : RowPlace) → IsRowPlace program place → IsPlace program (place_like place)
to_place program place is = record { params = is.params; entry = is.entry; item = is.item; proc = is.proc; reached = is.reached; from = is.from; to = is.to }

from_place : (program : Resolution) (place : Place) → IsPlace program place → IsRowPlace program (row_like place)
from_place program place is = record { params = is.params; entry = is.entry; item = is.item; proc = is.proc; reached = is.reached; from = is.from; to = is.to }

-- how a row of a class stands
abbrev pub standing : Class → Standing
standing Clean = clean
standing Hidden = hidden
standing Regression = left
standing Alarm = left

abbrev pub stood : ReportRow → Place × Standing
stood row = (place_of row, standing row.class)

clean_counted : (class : Class) → is_clean (standing class) ≡ is_class Clean class
clean_counted Clean = refl
clean_counted Hidden = refl
clean_counted Regression = refl
clean_counted Alarm = refl

hidden_counted : (class : Class) → is_hidden (standing class) ≡ is_class Hidden class
hidden_counted Clean = refl
hidden_counted Hidden = refl
hidden_counted Regression = refl
hidden_counted Alarm = refl

count_cons : {A : Type 0} (p : A → Bool) (x : A) (xs : List A) → count_by p (x ∷ xs) ≡ cond (p x) 1 0 + count_by p xs
count_cons p x xs = sum_by-cons (λ y. cond (p y) 1 0) x xs

count_stood : (p : Standing → Bool) (class : Class) → ((c : Class) → p (standing c) ≡ is_class class c) → (rows : List ReportRow) → class_count class rows ≡ count_by (λ r. p r.1) (map stood rows)
count_stood p class same [] = refl
count_stood p class same (row ∷ rows) =
    count_cons (λ (r : ReportRow). is_class class r.class) row rows ∙ (λ i. cond (sym (same row.class) i) 1 0 + count_stood p class same rows i)
    ∙ sym (count_cons (λ (r : Place × Standing). p r.1) (stood row) (map stood rows))

left_counted : (rows : List ReportRow) → class_count Regression rows + class_count Alarm rows ≡ count_by (λ r. is_left r.1) (map stood rows)
left_counted [] = refl
left_counted (row ∷ rows) =
    let one = count_cons (λ (r : ReportRow). is_class Regression r.class) row rows in
    let other = count_cons (λ (r : ReportRow). is_class Alarm r.class) row rows in
    let both = count_cons (λ (r : Place × Standing). is_left r.1) (stood row) (map stood rows) in
    (λ i. one i + other i) ∙ by row.class (class_count Regression rows) (class_count Alarm rows) (count_by (λ (r : Place × Standing). is_left r.1) (map stood rows)) (left_counted rows) ∙ sym both
  where
    by : (class : Class) (m n k : ℕ) → m + n ≡ k → cond (is_class Regression class) 1 0 + m + (cond (is_class Alarm class) 1 0 + n) ≡ cond (is_left (standing class)) 1 0 + k
    by Clean m n k e = omega (arith, e)
    by Hidden m n k e = omega (arith, e)
    by Regression m n k e = omega (arith, e)
    by Alarm m n k e = omega (arith, e)

in_map : {A B : Type 0} (f : A → B) (xs : List A) (y : B) → Contains (map f xs) y → (x : A) × Contains xs x × (f x ≡ y)
in_map f [] y there = absurd (none_in y there)
in_map f (x ∷ xs) y there =
    ⊎_elim (λ (e : f x ≡ y). (x, first_in x xs, e)) (λ (later : Contains (map f xs) y). let more = in_map f xs y later in (more.0, later_in x xs more.0 more.1, more.2))
    (first_or_later (f x) (map f xs) y there)

to_map : {A B : Type 0} (f : A → B) (xs : List A) (x : A) → Contains xs x → Contains (map f xs) (f x)
to_map f [] x there = absurd (none_in x there)
to_map f (y ∷ xs) x there =
    ⊎_elim (λ (e : y ≡ x). subst (Contains (map f (y ∷ xs))) (ap f e) (first_in (f y) (map f xs))) (λ (later : Contains xs x). later_in (f y) (map f xs) (f x) (to_map f xs x later))
    (first_or_later y xs x there)

-- an element stands behind those before it
parts_of : {A : Type 0} (xs : List A) (x : A) → Contains xs x → (before : List A) × (after : List A) × (xs ≡ before ++ x ∷ after)
parts_of [] x there = absurd (none_in x there)
parts_of (y ∷ xs) x there =
    ⊎_elim (λ (e : y ≡ x). ([], xs, ap (λ z. z ∷ xs) e)) (λ (later : Contains xs x). let more = parts_of xs x later in (y ∷ more.0, more.1, ap (λ ys. y ∷ ys) more.2))
    (first_or_later y xs x there)

pairs_of_map : {A B : Type 0} (R : B → B → Type 0) (f : A → B) (xs : List A) → AllPairs (λ a b. R (f a) (f b)) xs → AllPairs R (map f xs)
pairs_of_map R f [] all i j d less within = absurd (omega (arith, within))
pairs_of_map R f (x ∷ xs) all i j d less within =
    let count = length-map (x ∷ xs) f in
    let inside : j < length (x ∷ xs) = omega (arith, within, count) in
    let one = get_or-map f (x ∷ xs) i x d (omega (arith, less, inside)) in
    let other = get_or-map f (x ∷ xs) j x d inside in
    subst (λ b. R (get_or (map f (x ∷ xs)) i d) b) (sym other) (subst (λ a. R a (f (get_or (x ∷ xs) j x))) (sym one) (all i j x less inside))

module _ (have : HaveRows) (decide : DecideProof) (above : BeginAbove) (revision : Resolution) (ends : List NameEnds) (is : IsResolution revision) (needed : Assumed) (enough : Option (List (Name × Cond))) (shown : List Shown)
    (are : AreShown revision ends needed shown) where
  abbrev review : Review
  review = record { revision = revision; ends = ends; needed = needed; enough = enough }

  stands : (before : List ReportRow) (row : ReportRow) (class : Class) → IsPlace revision (place_of row) → IsOfClass review before row class → StandsAs revision shown (place_of row) (standing class)
  stands before row Clean here of = (plain_is have decide above revision ends is needed shown are (place_of row) here).1 of
  stands before row Hidden here of = (
    (λ p. of.0 ((plain_is have decide above revision ends is needed shown are (place_of row) here).0 p)),
    (given_is have decide above revision ends is needed shown are (place_of row) here).1 of.1,
  )
  stands before row Regression here of = (
    (λ p. of.0 ((plain_is have decide above revision ends is needed shown are (place_of row) here).0 p)),
    (λ g. of.1 ((given_is have decide above revision ends is needed shown are (place_of row) here).0 g)),
  )
  stands before row Alarm here of = (
    (λ p. of.0 ((plain_is have decide above revision ends is needed shown are (place_of row) here).0 p)),
    (λ g. of.1 ((given_is have decide above revision ends is needed shown are (place_of row) here).0 g)),
  )

  abbrev Stands : Place × Standing → Type 0
  Stands r = IsPlace revision r.0 × StandsAs revision shown r.0 r.1

  standings : (rows : List ReportRow) → AreRows review rows → AreStandings revision shown (map stood rows)
  standings rows are_rows = record {
    each = λ r there.
        let x = in_map stood rows r there in
        let part = parts_of rows x.0 x.1 in
        let here = to_place revision (row_place x.0) (are_rows.each x.0 x.1) in
        subst Stands x.2 (here, stands part.0 x.0 (x.0).class here (are_rows.classes part.0 part.1 x.0 part.2));
    all = λ place at.
        let x = are_rows.all (row_like place) (from_place revision place at) in
        (standing (x.0).class, subst (λ (p : Place). Contains (map stood rows) (p, standing (x.0).class)) (ap place_like x.2) (to_map stood rows x.0 x.1));
    in_order = pairs_of_map (λ a b. IsBefore a.0 b.0) stood rows are_rows.in_order;
  }

  -- the checker counts what the report tells
  pub counted : (rows : List ReportRow) (claims : Claims) → AreRows review rows → claims.clean ≡ class_count Clean rows → claims.hidden ≡ class_count Hidden rows → claims.left ≡ class_count Regression rows + class_count Alarm rows →
      AreCounted revision shown claims
  counted rows claims are_rows cleans hiddens lefts = record {
    rows = map stood rows;
    standings = standings rows are_rows;
    clean_is = cleans ∙ count_stood is_clean Clean clean_counted rows;
    hidden_is = hiddens ∙ count_stood is_hidden Hidden hidden_counted rows;
    left_is = lefts ∙ left_counted rows;
  }
