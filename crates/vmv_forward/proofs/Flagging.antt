-- Which sites are marked as flagged, at an instance and at those to which reached calls lead.
use Rattle.std.proofs.Common.{◌≡◌, ◌⊎◌, ◌↔◌, inl, inr, ⊎_elim, ℕ, zero, suc, ◌+◌, ◌-◌, ◌<◌, ◌≤◌, Bool, true, false, Some, List, [], ◌∷◌, length, slice_get, refl, sym, ap, subst, arith, ◌∙◌}
use Rattle.std.specs.Prelude.{slice_set, replicate, get_or}
use Rattle.std.proofs.lemmas.List.{length-replicate}
use Rattle.vmv_forward.proofs.Passing.{same_or}
use Rattle.std.proofs.lemmas.Bool.{cases_eq}
use Rattle.vmv_zone.specs.declared.zone.Zone.{Zone}
use Rattle.vmv_zone.specs.Zone.{IsBottom, NotBottom}
use Rattle.vmv_zone.proofs.Equal.{clash}
use Rattle.vmv_check.proofs.Lists.{some_same, within, at_place}
use Rattle.vmv_forward.specs.Path.{Path}
use Rattle.vmv_forward.specs.Rows.{IsListed, IsOwn, AreMarkedBy}
use Rattle.vmv_forward.proofs.Sets.{get_same, get_other, length_set}
use Rattle.vmv_forward.proofs.Stepping.{listed_on}

pub same_marks : (P Q : ℕ → Type 0) (old new : List Bool) → ((i : ℕ) → P i ↔ Q i) → AreMarkedBy P old new → AreMarkedBy Q old new
same_marks P Q old new same h = record {
  count = h.count;
  each = λ i inside. (
    λ e. ⊎_elim (λ (a : slice_get old i ≡ Some true). inl a) (λ (p : P i). inr ((same i).0 p)) ((h.each i inside).0 e),
    λ f. (h.each i inside).1 (⊎_elim (λ (a : slice_get old i ≡ Some true). inl a) (λ (q : Q i). inr ((same i).1 q)) f),
  );
}

pub more_marks : (P Q R : ℕ → Type 0) (old mid new : List Bool) → ((i : ℕ) → R i ↔ (P i ⊎ Q i)) → AreMarkedBy P old mid → AreMarkedBy Q mid new → AreMarkedBy R old new
more_marks P Q R old mid new both h g =
    let count = h.count in record {
      count = g.count ∙ h.count;
      each = λ i inside. (
        λ e. ⊎_elim
            (λ (b : slice_get mid i ≡ Some true). ⊎_elim (λ (a : slice_get old i ≡ Some true). inl a) (λ (p : P i). inr ((both i).1 (inl p))) ((h.each i inside).0 b))
            (λ (q : Q i). inr ((both i).1 (inr q))) ((g.each i (omega arith)).0 e),
        λ f. (g.each i (omega arith)).1
            (⊎_elim (λ (a : slice_get old i ≡ Some true). inl ((h.each i inside).1 (inl a)))
            (λ (r : R i). ⊎_elim (λ (p : P i). inl ((h.each i inside).1 (inr p))) (λ (q : Q i). inr q) ((both i).0 r)) f),
      );
    }

pub no_marks : (P : ℕ → Type 0) (old : List Bool) → ((i : ℕ) → P i → ⊥) → AreMarkedBy P old old
no_marks P old none = record { count = refl; each = λ i inside. (λ e. inl e, λ f. ⊎_elim (λ (a : slice_get old i ≡ Some true). a) (λ (p : P i). absurd (none i p)) f) }

-- one more is marked
one_mark : (old : List Bool) (n : ℕ) → n < length old → AreMarkedBy (λ i. i ≡ n) old (slice_set old n true)
one_mark old n h = record {
  count = length_set old n true;
  each = λ i inside. (
    λ e. ⊎_elim (λ (s : i ≡ n). inr s) (λ (d : i ≡ n → ⊥). inl (sym (get_other old n i true d) ∙ e)) (cases_eq i n),
    λ f. ⊎_elim (λ (s : i ≡ n). subst (λ k. slice_get (slice_set old n true) k ≡ Some true) (sym s) (get_same old n true h))
        (λ (d : i ≡ n → ⊥). get_other old n i true d ∙ ⊎_elim (λ (a : slice_get old i ≡ Some true). a) (λ (s : i ≡ n). absurd (d s)) f) (cases_eq i n),
  );
}

-- those with numbers up to k, of which this holds
abbrev pub Upto : (ℕ → Type 0) → ℕ → ℕ → Type 0
Upto P k i = (i < k) × P i

pub upto_start : (P : ℕ → Type 0) (old : List Bool) → AreMarkedBy (Upto P 0) old old
upto_start P old = no_marks (Upto P 0) old (λ i h. (let l = h.0 in omega arith))

pub upto_mark : (P : ℕ → Type 0) (old now : List Bool) (k : ℕ) → k < length old → P k → AreMarkedBy (Upto P k) old now → AreMarkedBy (Upto P (k + 1)) old (slice_set now k true)
upto_mark P old now k inside holds h =
    let count = h.count in
    more_marks (Upto P k) (λ i. i ≡ k) (Upto P (k + 1)) old now (slice_set now k true)
    (λ i. (
      λ r. ⊎_elim (λ (s : i ≡ k). inr s) (λ (d : i ≡ k → ⊥). inl ((let l = r.0 in omega arith), r.1)) (cases_eq i k),
      λ f. ⊎_elim (λ (p : Upto P k i). ((let l = p.0 in omega arith), p.1)) (λ (s : i ≡ k). ((omega arith), subst P (sym s) holds)) f,
    )) h (one_mark now k (omega arith))

pub upto_skip : (P : ℕ → Type 0) (old now : List Bool) (k : ℕ) → (P k → ⊥) → AreMarkedBy (Upto P k) old now → AreMarkedBy (Upto P (k + 1)) old now
upto_skip P old now k none h =
    same_marks (Upto P k) (Upto P (k + 1)) old now
    (λ i. (λ p. ((let l = p.0 in omega arith), p.1), λ r. ⊎_elim (λ (s : i ≡ k). absurd (none (subst P s r.1))) (λ (d : i ≡ k → ⊥). ((let l = r.0 in omega arith), r.1)) (cases_eq i k))) h

pub upto_end : (P : ℕ → Type 0) (old now : List Bool) (k : ℕ) → length old ≤ k → AreMarkedBy (Upto P k) old now → AreMarkedBy P old now
upto_end P old now k all h = record {
  count = h.count;
  each = λ i inside. (
    λ e. ⊎_elim (λ (a : slice_get old i ≡ Some true). inl a) (λ (p : Upto P k i). inr p.1) ((h.each i inside).0 e),
    λ f. (h.each i inside).1 (⊎_elim (λ (a : slice_get old i ≡ Some true). inl a) (λ (p : P i). inr (omega arith, p)) f),
  );
}

-- flagged at the instance, or where the first c calls lead
abbrev pub FoundUpto : List Path → Path → ℕ → ℕ → ℕ → Type 0
FoundUpto xs path proc c index =
    IsOwn path proc index
    ⊎ ((d next : ℕ) × (input : Zone) × (d < c) × (slice_get path.callees d ≡ Some next) × (slice_get path.inputs d ≡ Some input) × NotBottom input × IsListed xs next proc index)

pub found_start : (xs : List Path) (path : Path) (proc : ℕ) (old now : List Bool) → AreMarkedBy (λ i. IsOwn path proc (i + 1)) old now → AreMarkedBy (λ i. FoundUpto xs path proc 0 (i + 1)) old now
found_start xs path proc old now h =
    same_marks (λ i. IsOwn path proc (i + 1)) (λ i. FoundUpto xs path proc 0 (i + 1)) old now
    (λ i. (
      λ p. inl p,
      λ f. ⊎_elim (λ (p : IsOwn path proc (i + 1)). p)
          (λ (g : (d next : ℕ) × (input : Zone) × (d < 0) × (slice_get path.callees d ≡ Some next) × (slice_get path.inputs d ≡ Some input) × NotBottom input × IsListed xs next proc (i + 1)). absurd (let l = g.3 in omega arith)) f,
    )) h

-- the c-th call leads on
pub found_more : (xs : List Path) (path : Path) (proc c next : ℕ) (input : Zone) (old now new : List Bool) → slice_get path.callees c ≡ Some next → slice_get path.inputs c ≡ Some input → NotBottom input → AreMarkedBy (λ i. FoundUpto xs path proc c (i + 1)) old now →
    AreMarkedBy (λ i. IsListed xs next proc (i + 1)) now new → AreMarkedBy (λ i. FoundUpto xs path proc (c + 1) (i + 1)) old new
found_more xs path proc c next input old now new to there up h g =
    more_marks (λ i. FoundUpto xs path proc c (i + 1)) (λ i. IsListed xs next proc (i + 1)) (λ i. FoundUpto xs path proc (c + 1) (i + 1)) old now new
    (λ i. (λ r. split i r, λ f. ⊎_elim (λ (p : FoundUpto xs path proc c (i + 1)). widen i p) (λ (l : IsListed xs next proc (i + 1)). inr (c, next, input, omega arith, to, there, up, l)) f)) h g
  where
    widen : (i : ℕ) → FoundUpto xs path proc c (i + 1) → FoundUpto xs path proc (c + 1) (i + 1)
    widen i (inl p) = inl p
    widen i (inr (d, n, z, l, a, b, u, r)) = inr (d, n, z, omega arith, a, b, u, r)

    split : (i : ℕ) → FoundUpto xs path proc (c + 1) (i + 1) → FoundUpto xs path proc c (i + 1) ⊎ IsListed xs next proc (i + 1)
    split i (inl p) = inl (inl p)
    split i (inr (d, n, z, l, a, b, u, r)) =
        ⊎_elim (λ (s : d ≡ c). inr (subst (λ k. IsListed xs k proc (i + 1)) (some_same (sym a ∙ (ap (slice_get path.callees) s ∙ to))) r))
        (λ (e : d ≡ c → ⊥). inl (inr (d, n, z, omega arith, a, b, u, r))) (cases_eq d c)

-- the c-th isn't reached
pub found_skip : (xs : List Path) (path : Path) (proc c : ℕ) (input : Zone) (old now : List Bool) → slice_get path.inputs c ≡ Some input → IsBottom input → AreMarkedBy (λ i. FoundUpto xs path proc c (i + 1)) old now →
    AreMarkedBy (λ i. FoundUpto xs path proc (c + 1) (i + 1)) old now
found_skip xs path proc c input old now there none h = same_marks (λ i. FoundUpto xs path proc c (i + 1)) (λ i. FoundUpto xs path proc (c + 1) (i + 1)) old now (λ i. (λ p. widen i p, λ r. narrow i r)) h
  where
    widen : (i : ℕ) → FoundUpto xs path proc c (i + 1) → FoundUpto xs path proc (c + 1) (i + 1)
    widen i (inl p) = inl p
    widen i (inr (d, n, z, l, a, b, u, r)) = inr (d, n, z, omega arith, a, b, u, r)

    narrow : (i : ℕ) → FoundUpto xs path proc (c + 1) (i + 1) → FoundUpto xs path proc c (i + 1)
    narrow i (inl p) = inl p
    narrow i (inr (d, n, z, l, a, b, u, r)) =
        ⊎_elim (λ (s : d ≡ c). (let same : z ≡ input = some_same (sym b ∙ (ap (slice_get path.inputs) s ∙ there)) in clash z.bottom (subst IsBottom (sym same) none) u))
        (λ (e : d ≡ c → ⊥). inr (d, n, z, omega arith, a, b, u, r)) (cases_eq d c)

-- all that is listed at instance j
pub found_end : (xs : List Path) (j : ℕ) (path : Path) (proc c : ℕ) (items : List ℕ) (old now : List Bool) → slice_get xs j ≡ Some path → items ≡ path.callees → length items ≤ c → AreMarkedBy (λ i. FoundUpto xs path proc c (i + 1)) old now →
    AreMarkedBy (λ i. IsListed xs j proc (i + 1)) old now
found_end xs j path proc c items old now at same end h = same_marks (λ i. FoundUpto xs path proc c (i + 1)) (λ i. IsListed xs j proc (i + 1)) old now (λ i. (λ p. on i p, λ l. back i l)) h
  where
    on : (i : ℕ) → FoundUpto xs path proc c (i + 1) → IsListed xs j proc (i + 1)
    on i (inl (p, from, flag)) = ([], j, refl, (path, at, p, from, flag))
    on i (inr (d, n, z, l, a, b, u, r)) = listed_on xs j path d n z proc (i + 1) at a b u r

    back : (i : ℕ) → IsListed xs j proc (i + 1) → FoundUpto xs path proc c (i + 1)
    back i ([], k, leads, (other, there, p, from, flag)) =
        let one : other ≡ path = some_same (sym there ∙ (ap (slice_get xs) (sym leads) ∙ at)) in
        inl (ap (λ (x : Path). x.proc.0) (sym one) ∙ p, from, subst (λ (x : Path). slice_get x.unproved (i + 1 - 1) ≡ Some true) one flag)
    back i (place ∷ places, k, (other, n, z, there, a, b, u, leads), flagged) =
        let one : other ≡ path = some_same (sym there ∙ at) in
        let a' = subst (λ (x : Path). slice_get x.callees place ≡ Some n) one a in
        let few = within path.callees place n a' in
        let long : length items ≡ length path.callees = ap length same in
        inr (place, n, z, omega arith, a', subst (λ (x : Path). slice_get x.inputs place ≡ Some z) one b, u, (places, k, leads, flagged))

never : (n i : ℕ) → slice_get (replicate n false) i ≡ Some true → ⊥
never zero i e = absurd (cc)
never (suc n) zero e = absurd (cc)
never (suc n) (suc i) e = never n i e

-- a site is marked exactly where it is listed
pub marked_listed : (xs : List Path) (j proc count before : ℕ) (old now : List Bool) → old ≡ replicate count false → before < length old → AreMarkedBy (λ i. IsListed xs j proc (i + 1)) old now → (slice_get now before ≡ Some true) ↔ IsListed xs j proc (before + 1)
marked_listed xs j proc count before old now is inside h = (
  λ e. ⊎_elim (λ (a : slice_get old before ≡ Some true). absurd (never count before (subst (λ (l : List Bool). slice_get l before ≡ Some true) is a))) (λ (l : IsListed xs j proc (before + 1)). l) ((h.each before inside).0 e),
  λ l. (h.each before inside).1 (inr l),
)

pub flag_listed : (xs : List Path) (j proc count before : ℕ) (old now view : List Bool) → old ≡ replicate count false → view ≡ now → before < count → AreMarkedBy (λ i. IsListed xs j proc (i + 1)) old now → get_or view before false ≡ true → IsListed xs j proc (before + 1)
flag_listed xs j proc count before old now view is same inside h e =
    let long : length old ≡ count = ap length is ∙ length-replicate count false in
    let long' = h.count in
    let l : length view ≡ length now = ap length same in
    (marked_listed xs j proc count before old now is (omega arith) h).0 (subst (λ (l : List Bool). slice_get l before ≡ Some true) same (at_place view before true (omega arith) (sym e ∙ same_or view before false true (omega arith))))

pub flag_unlisted : (xs : List Path) (j proc count before : ℕ) (old now view : List Bool) → old ≡ replicate count false → view ≡ now → before < count → AreMarkedBy (λ i. IsListed xs j proc (i + 1)) old now → get_or view before false ≡ false → IsListed xs j proc (before + 1) → ⊥
flag_unlisted xs j proc count before old now view is same inside h e listed =
    let long : length old ≡ count = ap length is ∙ length-replicate count false in
    let long' = h.count in
    let l : length view ≡ length now = ap length same in
    let on = (marked_listed xs j proc count before old now is (omega arith) h).1 listed in
    let off : slice_get now before ≡ Some false = subst (λ (l : List Bool). slice_get l before ≡ Some false) same (at_place view before false (omega arith) (sym e)) in
    let bad : Some true ≡ Some false = sym on ∙ off in
    absurd (cc)
