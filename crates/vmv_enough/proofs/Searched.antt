-- What the first so many probes find.
use Rattle.std.proofs.Common.{◌≡◌, ◌≢◌, ◌⊎◌, inl, inr, ⊎_elim, ℕ, zero, suc, Bool, true, false, IsTrue, ◌↔◌, ◌+◌, ◌<◌, ◌≤◌, Option, Some, None, List, [], ◌∷◌, ◌++◌, length, take, get_or, slice_get, map, refl, sym, subst, ◌∙◌, arith}
use Rattle.std.specs.List.{All, AllZip, Contains}
use Rattle.std.proofs.lemmas.Option.{slice_get_within, slice_get-get_or}
use Rattle.std.proofs.lemmas.List.{take_all}
use Rattle.std.proofs.lemmas.List.Elements.{All-nil, All-push, Contains-append_left, Contains-append_right}
use Rattle.std.proofs.lemmas.List.Quantifiers.{all_pairs_push}
use Rattle.vmv_tree.specs.declared.site.NamedSite.{NamedSite}
use Rattle.vmv_crew.specs.Answers.{AnswersInOrder}
use Rattle.vmv_snapshot.specs.Resolution.{Resolution}
use Rattle.vmv_snapshot.proofs.Zips.{take_one_more}
use Rattle.vmv_snapshot.proofs.Lookups.{contains_at, at_contains}
use Rattle.vmv_snapshot.proofs.Links.{map_at}
use Rattle.vmv_assumption.specs.Assumed.{Assumed}
use Rattle.vmv_witness.specs.declared.witness.Witness.{Witness}
use Rattle.vmv_enough.specs.declared.probe.Probe.{Probe}
use Rattle.vmv_enough.specs.Failures.{FailsAt, IsCounterexample}
use Rattle.vmv_enough.specs.Found.{FailsIn, IsFirstFailure, AreFailures}
use Rattle.vmv_enough.specs.Tried.{IsTried, IsTriedAt, AddsFirst}
use Rattle.vmv_enough.proofs.Lists.{first_in, push_at, old_at, new_at, mapped_at, something_at}

module _ (program : Resolution) (n : ℕ) (assumed : Assumed) where
  -- a failing probe among one more is an old one, or the last
  fails_cases : (probes : List Probe) (p : Probe) (i : ℕ) (w : Witness) → FailsIn program n assumed (probes ++ p ∷ []) i w → FailsIn program n assumed probes i w ⊎ ((i ≡ length probes) × FailsAt program n assumed p w)
  fails_cases probes p i w h =
      ⊎_elim
      (λ (old : slice_get probes i ≡ Some h.probe). inl (record { probe = h.probe; there = old; fails = h.fails }))
      (λ (new : (i ≡ length probes) × (p ≡ h.probe)). inr (new.0, subst (λ x. FailsAt program n assumed x w) (sym new.1) h.fails))
      (push_at probes p h.probe i h.there)

  fails_old : (probes : List Probe) (p : Probe) (i : ℕ) (w : Witness) → FailsIn program n assumed probes i w → FailsIn program n assumed (probes ++ p ∷ []) i w
  fails_old probes p i w h = record { probe = h.probe; there = old_at probes (p ∷ []) h.probe i h.there; fails = h.fails }

  within : (probes : List Probe) (i : ℕ) (w : Witness) → FailsIn program n assumed probes i w → i < length probes
  within probes i w h = slice_get_within probes i h.probe h.there

  first_old : (probes : List Probe) (p : Probe) (i : ℕ) (w : Witness) → IsFirstFailure program n assumed probes i w → IsFirstFailure program n assumed (probes ++ p ∷ []) i w
  first_old probes p i w h = record {
    fails = fails_old probes p i w h.fails;
    first = λ earlier v before fails.
        ⊎_elim (λ (old : FailsIn program n assumed probes earlier v). h.first earlier v before old)
        (λ (new : (earlier ≡ length probes) × FailsAt program n assumed p v). let size = within probes i w h.fails in let e = new.0 in absurd (omega (arith, before, size, e)))
        (fails_cases probes p earlier v fails);
  }

  each_old : (probes : List Probe) (p : Probe) (places : List ℕ) (found : List Witness) → AllZip (IsFirstFailure program n assumed probes) places found → AllZip (IsFirstFailure program n assumed (probes ++ p ∷ [])) places found
  each_old probes p [] [] h = tt
  each_old probes p [] (w ∷ found) h = absurd h
  each_old probes p (i ∷ places) [] h = absurd h
  each_old probes p (i ∷ places) (w ∷ found) h = (first_old probes p i w h.0, each_old probes p places found h.1)

  each_push : (probes : List Probe) (places : List ℕ) (found : List Witness) (i : ℕ) (w : Witness) → AllZip (IsFirstFailure program n assumed probes) places found → IsFirstFailure program n assumed probes i w →
      AllZip (IsFirstFailure program n assumed probes) (places ++ i ∷ []) (found ++ w ∷ [])
  each_push probes [] [] i w h first = (first, tt)
  each_push probes [] (v ∷ found) i w h first = absurd h
  each_push probes (j ∷ places) [] i w h first = absurd h
  each_push probes (j ∷ places) (v ∷ found) i w h first = (h.0, each_push probes places found i w h.1 first)

  places_below : (probes : List Probe) (places : List ℕ) (found : List Witness) → AllZip (IsFirstFailure program n assumed probes) places found → (k d : ℕ) → k < length places → get_or places k d < length probes
  places_below probes [] found h k d small = absurd (omega (arith, small))
  places_below probes (i ∷ places) [] h k d small = absurd h
  places_below probes (i ∷ places) (w ∷ found) h zero d small = within probes i w h.0.fails
  places_below probes (i ∷ places) (w ∷ found) h (suc k) d small = places_below probes places found h.1 k d (omega (arith, small))

  -- nothing new is found at a probe that doesn't fail, or fails at a site that is found
  kept : (probes : List Probe) (p : Probe) (found : List Witness) → AreFailures program n assumed probes found → ((v : Witness) → FailsAt program n assumed p v → (u : Witness) × Contains found u × (u.site ≡ v.site)) → AreFailures program n assumed (probes ++ p ∷ []) found
  kept probes p found h known = record {
    places = h.places;
    rising = h.rising;
    each = each_old probes p h.places found h.each;
    all = λ place w fails.
        ⊎_elim (λ (old : FailsIn program n assumed probes place w). h.all place w old) (λ (new : (place ≡ length probes) × FailsAt program n assumed p w). known w new.1) (fails_cases probes p place w fails);
  }

  added : (probes : List Probe) (p : Probe) (found : List Witness) (w : Witness) → AreFailures program n assumed probes found → FailsAt program n assumed p w → ((v : Witness) → FailsAt program n assumed p v → v.site ≡ w.site) →
      ((u : Witness) → Contains found u → u.site ≢ w.site) → AreFailures program n assumed (probes ++ p ∷ []) (found ++ w ∷ [])
  added probes p found w h fails only new = record {
    places = h.places ++ length probes ∷ [];
    rising = all_pairs_push (λ a b. a < b) h.places (length probes) h.rising (λ k d small. places_below probes h.places found h.each k d small);
    each = each_push (probes ++ p ∷ []) h.places found (length probes) w (each_old probes p h.places found h.each) (record {
      fails = record { probe = p; there = new_at probes p; fails = fails };
      first = λ earlier v before other.
          ⊎_elim
          (λ (old : FailsIn program n assumed probes earlier v). λ same. let u = h.all earlier v old in new u.0 u.1 (u.2 ∙ same))
          (λ (late : (earlier ≡ length probes) × FailsAt program n assumed p v). let e = late.0 in absurd (omega (arith, before, e)))
          (fails_cases probes p earlier v other);
    });
    all = λ place v other.
        ⊎_elim
        (λ (old : FailsIn program n assumed probes place v). let u = h.all place v old in (u.0, Contains-append_left found (w ∷ []) u.0 u.1, u.2))
        (λ (here : (place ≡ length probes) × FailsAt program n assumed p v). (w, Contains-append_right found (w ∷ []) w (first_in w []), sym (only v here.1)))
        (fails_cases probes p place v other);
  }

-- the sites of what is found
abbrev pub sites_of : List Witness → List NamedSite
sites_of found = map (λ w. w.site) found

pub site_found : (found : List Witness) (site : NamedSite) → Contains (sites_of found) site → (u : Witness) × Contains found u × (u.site ≡ site)
site_found found site there =
    let at = contains_at (sites_of found) site there in
    let item = map_at (λ (w : Witness). w.site) found at.0 site at.1 in
    (item.0, at_contains found at.0 item.0 item.1, item.2)

found_site : (found : List Witness) (u : Witness) → Contains found u → Contains (sites_of found) u.site
found_site found u there =
    let at = contains_at found u there in
    at_contains (sites_of found) at.0 u.site (mapped_at (λ (w : Witness). w.site) found at.0 u at.1)

-- what the first i probes find
pub record IsSearched (program : Resolution) (n : ℕ) (assumed : Assumed) (probes : List Probe) (i : ℕ) (found : List Witness) : Type 0 where
  pub failures : AreFailures program n assumed (take i probes) found
  pub runs : All (IsCounterexample program n assumed) found

pub searched_start : (program : Resolution) (n : ℕ) (assumed : Assumed) (probes : List Probe) (found : List Witness) → found ≡ [] → IsSearched program n assumed probes 0 found
searched_start program n assumed probes found e = subst (λ xs. IsSearched program n assumed probes 0 xs) (sym e) (record {
  failures = record { places = []; rising = λ i j d less small. absurd (omega (arith, small)); each = tt; all = λ place w fails. let at = fails.there in absurd (none_at probes place fails.probe at) };
  runs = All-nil (IsCounterexample program n assumed);
})
  where
    none_at : (probes : List Probe) (place : ℕ) (p : Probe) → slice_get (take 0 probes) place ≡ Some p → ⊥
    none_at [] place p at = cc
    none_at (x ∷ probes) place p at = cc

module _ (program : Resolution) (n : ℕ) (assumed : Assumed) (probes : List Probe) (i : ℕ) (p : Probe) (found : List Witness) (h : i < length probes) (is : p ≡ get_or probes i p) (s : IsSearched program n assumed probes i found) where
  along : (new : List Witness) → AreFailures program n assumed (take i probes ++ p ∷ []) new → AreFailures program n assumed (take (i + 1) probes) new
  along new f = subst (λ xs. AreFailures program n assumed xs new) (sym (take_one_more probes i p h is)) f

  pub searched_none : IsTried program n assumed p None → IsSearched program n assumed probes (i + 1) found
  searched_none none = record { failures = along found (kept program n assumed (take i probes) p found s.failures (λ v fails. absurd (none v fails))); runs = s.runs }

  pub searched_known : (w : Witness) → IsTried program n assumed p (Some w) → Contains (sites_of found) w.site → IsSearched program n assumed probes (i + 1) found
  searched_known w tried there = record {
    failures = along found (kept program n assumed (take i probes) p found s.failures (λ v fails. let u = site_found found w.site there in (u.0, u.1, u.2 ∙ sym (tried.2 v fails))));
    runs = s.runs;
  }

  pub searched_new : (w : Witness) (new : List Witness) → IsTried program n assumed p (Some w) → (Contains (sites_of found) w.site → ⊥) → new ≡ found ++ w ∷ [] → IsSearched program n assumed probes (i + 1) new
  searched_new w new tried other e = subst (λ xs. IsSearched program n assumed probes (i + 1) xs) (sym e) (record {
    failures = along (found ++ w ∷ []) (added program n assumed (take i probes) p found w s.failures tried.0 tried.2 (λ u there same. other (subst (λ x. Contains (sites_of found) x) same (found_site found u there))));
    runs = All-push (IsCounterexample program n assumed) found w s.runs tried.1;
  })

pub searched_failures : (program : Resolution) (n : ℕ) (assumed : Assumed) (probes : List Probe) (i : ℕ) (found : List Witness) → length probes ≤ i → IsSearched program n assumed probes i found → AreFailures program n assumed probes found
searched_failures program n assumed probes i found all s = subst (λ xs. AreFailures program n assumed xs found) (take_all i probes all) s.failures

pub contains_along : (probes own : List Probe) (probe : Probe) → probes ≡ own → Contains probes probe → Contains own probe
contains_along probes own probe e h = subst (λ xs. Contains xs probe) e h

pub failures_along : (program : Resolution) (n : ℕ) (assumed : Assumed) (probes own : List Probe) (found : List Witness) → probes ≡ own → AreFailures program n assumed probes found → AreFailures program n assumed own found
failures_along program n assumed probes own found e h = subst (λ xs. AreFailures program n assumed xs found) e h

pub not_found : (found told : List Witness) (site : NamedSite) (result : Bool) → told ≡ found → IsTrue result ↔ Contains (sites_of told) site → result ≡ false → Contains (sites_of found) site → ⊥
not_found found told site result e is no_one there = let t = is.1 (subst (λ xs. Contains (sites_of xs) site) (sym e) there) in absurd (cc)

pub is_there : (found told : List Witness) (site : NamedSite) (result : Bool) → told ≡ found → IsTrue result ↔ Contains (sites_of told) site → result ≡ true → Contains (sites_of found) site
is_there found told site result e is so = subst (λ xs. Contains (sites_of xs) site) e (is.0 so)

pub tried_nothing : (program : Resolution) (n : ℕ) (assumed : Assumed) (p : Probe) (o : Option Witness) → IsTried program n assumed p o → ((w : Witness) → o ≡ Some w → ⊥) → IsTried program n assumed p None
tried_nothing program n assumed p None h never = h
tried_nothing program n assumed p (Some w) h never = absurd (never w refl)

-- what is found, where these answers of probes are left
pub record IsLeft (program : Resolution) (n : ℕ) (assumed : Assumed) (probes : List Probe) (left : List (Option Witness)) (found : List Witness) : Type 0 where
  pub i : ℕ
  pub searched : IsSearched program n assumed probes i found
  pub answers : AnswersInOrder (IsTriedAt program n assumed probes) i (length left) left
  pub count : i + length left ≡ length probes

pub left_start : (program : Resolution) (n : ℕ) (assumed : Assumed) (probes : List Probe) (tried left : List (Option Witness)) (found : List Witness) (count : ℕ) → found ≡ [] → left ≡ tried → count ≡ length probes → AnswersInOrder (IsTriedAt program n assumed probes) 0 count tried → length tried ≡ count →
    IsLeft program n assumed probes left found
left_start program n assumed probes tried left found count e same all answers counted = let P : List (Option Witness) → Type 0 = λ xs. IsLeft program n assumed probes xs found in subst P (sym same) (record {
  i = 0;
  searched = searched_start program n assumed probes found e;
  answers = subst (λ (k : ℕ). AnswersInOrder (IsTriedAt program n assumed probes) 0 k tried) (sym counted) answers;
  count = let size = counted ∙ all in omega (arith, size);
})

-- the next probe
pub searched_more : (program : Resolution) (n : ℕ) (assumed : Assumed) (probes : List Probe) (i : ℕ) (o : Option Witness) (found new : List Witness) → i < length probes → IsTriedAt program n assumed probes i o → AddsFirst found o new → IsSearched program n assumed probes i found →
    IsSearched program n assumed probes (i + 1) new
searched_more program n assumed probes i o found new h tried adds s =
    let p = something_at probes i h in
    let is : p.0 ≡ get_or probes i p.0 = let at : Some p.0 ≡ Some (get_or probes i p.0) = sym p.1 ∙ slice_get-get_or probes i p.0 h in cc in
    by o p.0 is (tried p.0 p.1) adds
  where
    by : (o : Option Witness) (p : Probe) → p ≡ get_or probes i p → IsTried program n assumed p o → AddsFirst found o new → IsSearched program n assumed probes (i + 1) new
    by None p is t a = subst (λ xs. IsSearched program n assumed probes (i + 1) xs) (sym a) (searched_none program n assumed probes i p found h is s t)
    by (Some w) p is t a =
        ⊎_elim
        (λ (known : Contains (sites_of found) w.site × (new ≡ found)). subst (λ xs. IsSearched program n assumed probes (i + 1) xs) (sym known.1) (searched_known program n assumed probes i p found h is s w t known.0))
        (λ (other : (¬ Contains (sites_of found) w.site) × (new ≡ found ++ w ∷ [])). searched_new program n assumed probes i p found h is s w new t other.0 other.1)
        a

pub left_more : (program : Resolution) (n : ℕ) (assumed : Assumed) (probes : List Probe) (left rest : List (Option Witness)) (o : Option Witness) (found new : List Witness) → left ≡ o ∷ rest → AddsFirst found o new → IsLeft program n assumed probes left found → IsLeft program n assumed probes rest new
left_more program n assumed probes left rest o found new next adds is = by (let P : List (Option Witness) → Type 0 = λ xs. IsLeft program n assumed probes xs found in subst P next is)
  where
    by : IsLeft program n assumed probes (o ∷ rest) found → IsLeft program n assumed probes rest new
    by l =
        let count = l.count in
        let inside : l.i < length probes = omega (arith, count) in
        record {
          i = l.i + 1;
          searched = searched_more program n assumed probes l.i o found new inside l.answers.0 adds l.searched;
          answers = l.answers.1;
          count = omega (arith, count);
        }

pub left_none : (program : Resolution) (n : ℕ) (assumed : Assumed) (probes : List Probe) (left : List (Option Witness)) (found : List Witness) → length left ≡ 0 → IsLeft program n assumed probes left found → IsSearched program n assumed probes (length probes) found
left_none program n assumed probes left found none l =
    let count = l.count in
    let same : l.i ≡ length probes = omega (arith, count, none) in
    subst (λ (i : ℕ). IsSearched program n assumed probes i found) same l.searched
