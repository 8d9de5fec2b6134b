-- What a search over rows finds: a row whose pattern the path matches.
use Rattle.std.proofs.Common.{◌≡◌, ℕ, zero, suc, ◌-◌, ◌<◌, ◌≤◌, ◌==◌, ◌⊎◌, inl, inr, List, [], ◌∷◌, ◌++◌, length, drop, take, Option, Some, None, Bool, true, false, cond, refl, sym, ap, ◌∙◌, subst, arith, ltb, ◌&&◌}
use Rattle.std.proofs.lemmas.Bool.Decides.{nat_tests}
use Rattle.matchit.specs.Rows.{RowsOf, param_token, catch_all_token}
use Rattle.matchit.specs.Seek.{own, step, or_else, seek, param_step, has_slash, segment, slash, better, cuts, longest_from, longest_suffix, with_suffix, same_text}
use Rattle.vmv_routes.specs.Matching.{IsPart}

-- a path matches a pattern: a byte stands for itself, a parameter for a part, and a catch-all for anything
abbrev pub Matches : List ℕ → List ℕ → Type 0
Matches [] path = path ≡ []
Matches (x ∷ t) path =
    (x ≡ 257)
    ⊎ ((rest : List ℕ) × (path ≡ x ∷ rest) × Matches t rest)
    ⊎ ((x ≡ 256) × ((part : List ℕ) × (rest : List ℕ) × IsPart part × (path ≡ part ++ rest) × Matches t rest))

module _ {K : Type 0} where
  -- the row is one of these
  abbrev pub IsIn : List ℕ → K → RowsOf K → Type 0
  IsIn t k [] = ⊥
  IsIn t k (row ∷ rest) = ((t ≡ row.0) × (k ≡ row.1)) ⊎ IsIn t k rest

  -- each row has this property
  abbrev pub EachRow : (List ℕ → K → Type 0) → RowsOf K → Type 0
  EachRow P [] = Unit {0}
  EachRow P (row ∷ rest) = P row.0 row.1 × EachRow P rest

  pub in_each : (P : List ℕ → K → Type 0) (rs : RowsOf K) (t : List ℕ) (k : K) → EachRow P rs → IsIn t k rs → P t k
  in_each P [] t k each h = absurd h
  in_each P (row ∷ rest) t k each (inl h) =
      let Q : List ℕ → Type 0 = λ u. P u row.1 in
      let R : K → Type 0 = λ l. P t l in
      subst R (sym h.1) (subst Q (sym h.0) each.0)
  in_each P (row ∷ rest) t k each (inr h) = in_each P rest t k each.1 h

  own-in : (rs : RowsOf K) (k : K) → own rs ≡ Some k → IsIn [] k rs
  own-in [] k e = absurd (cc e)
  own-in (([], key) ∷ rest) k e = let same : key ≡ k = cc in inl (refl, sym same)
  own-in ((x ∷ t, key) ∷ rest) k e = inr (own-in rest k e)

  step-in : (b : ℕ) (rs : RowsOf K) (t : List ℕ) (k : K) → IsIn t k (step b rs) → IsIn (b ∷ t) k rs
  step-in b [] t k h = h
  step-in b (([], key) ∷ rest) t k h = inr (step-in b rest t k h)
  step-in b ((x ∷ u, key) ∷ rest) t k h = by (x == b) refl (λ g. step-in b rest t k g) h
    where
      by : (v : Bool) → (x == b) ≡ v → (IsIn t k (step b rest) → IsIn (b ∷ t) k rest) → IsIn t k (cond v ((u, key) ∷ step b rest) (step b rest)) → IsIn (b ∷ t) k ((x ∷ u, key) ∷ rest)
      by true e ih (inl h) =
          let same : x ≡ b = grind (arith, nat_tests) in
          inl (ap (λ l. b ∷ l) h.0 ∙ ap (λ y. y ∷ u) (sym same), h.1)
      by true e ih (inr h) = inr (ih h)
      by false e ih h = inr (ih h)

  suffix-in : (s : List ℕ) (rs : RowsOf K) (t : List ℕ) (k : K) → IsIn t k (with_suffix s rs) → IsIn t k rs
  suffix-in s [] t k h = h
  suffix-in s ((u, key) ∷ rest) t k h = by (same_text (segment u) s) (λ g. suffix-in s rest t k g) h
    where
      by : (v : Bool) → (IsIn t k (with_suffix s rest) → IsIn t k rest) → IsIn t k (cond v ((u, key) ∷ with_suffix s rest) (with_suffix s rest)) → IsIn t k ((u, key) ∷ rest)
      by true ih (inl h) = inl h
      by true ih (inr h) = inr (ih h)
      by false ih h = inr (ih h)

  pub none-found : (n : ℕ) (path : List ℕ) → seek {K = K} n [] path ≡ None
  unfolding seek param_step
  none-found n [] = refl
  none-found (suc n) (b ∷ p) = none-found n p
  none-found zero (b ∷ p) = by (has_slash (b ∷ p)) (λ n. none-found n p)
    where
      by : (v : Bool) → ((n : ℕ) → seek {K = K} n [] p ≡ None) → or_else (seek 0 (step {K = K} b []) p)
          (or_else (seek ((cond {A = ℕ × RowsOf K} v (0, []) (length (b ∷ p), [])).0 - 1) (cond {A = ℕ × RowsOf K} v (0, []) (length (b ∷ p), [])).1 p) (own (step {K = K} 257 []))) ≡ None
      by true ih = rw (ih 0) refl
      by false ih = rw (ih 0, ih (length (b ∷ p) - 1)) refl

-- the suffix that is chosen leaves a byte in front of it
better-shorter : (seg best s : List ℕ) → (length best ≡ 0) ⊎ (length best < length seg) → (length (better seg best s) ≡ 0) ⊎ (length (better seg best s) < length seg)
better-shorter seg best s h = by (ltb (length best) (length s) && cuts seg s) refl
  where
    by : (v : Bool) → (ltb (length best) (length s) && cuts seg s) ≡ v → (length (cond v s best) ≡ 0) ⊎ (length (cond v s best) < length seg)
    by true q =
        let l : length s < length seg = grind (arith, nat_tests) in
        inr l
    by false q = h

longest-shorter : {K : Type 0} (seg best : List ℕ) (rs : RowsOf K) → (length best ≡ 0) ⊎ (length best < length seg) → (length (longest_from seg best rs) ≡ 0) ⊎ (length (longest_from seg best rs) < length seg)
longest-shorter seg best [] h = h
longest-shorter seg best ((t, k) ∷ rest) h = longest-shorter seg (better seg best (segment t)) rest (better-shorter seg best (segment t) h)

-- what is cut off a segment in front has no slash
front-plain : (p : List ℕ) (m : ℕ) → m < length (segment p) → has_slash (take m p) ≡ false
front-plain p zero h = refl
front-plain [] (suc m) h = absurd (omega arith)
front-plain (b ∷ p) (suc m) h = by (b == slash) refl (λ g. front-plain p m g) h
  where
    by : (v : Bool) → (b == slash) ≡ v → (m < length (segment p) → has_slash (take m p) ≡ false) → suc m < length (cond v (b ∷ []) (b ∷ segment p)) → has_slash (take (suc m) (b ∷ p)) ≡ false
    by true e ih h = absurd (omega arith)
    by false e ih h = rw e (ih (omega arith))

segment-within : (p : List ℕ) → length (segment p) ≤ length p
segment-within [] = omega arith
segment-within (b ∷ p) = by (b == slash) (segment-within p)
  where
    by : (v : Bool) → length (segment p) ≤ length p → length (cond v (b ∷ []) (b ∷ segment p)) ≤ suc (length p)
    by true h = omega arith
    by false h = omega arith

take-part : (p : List ℕ) (m : ℕ) → 0 < m → m ≤ length p → 0 < length (take m p)
take-part p zero h l = absurd (omega arith)
take-part [] (suc m) h l = absurd (omega arith)
take-part (b ∷ p) (suc m) h l = omega arith

take-rest : (p : List ℕ) (m : ℕ) → p ≡ take m p ++ drop m p
take-rest p zero = refl
take-rest [] (suc m) = refl
take-rest (b ∷ p) (suc m) = ap (λ l. b ∷ l) (take-rest p m)

drop-one : (b : ℕ) (p : List ℕ) (m : ℕ) → 0 < m → drop (m - 1) p ≡ drop m (b ∷ p)
drop-one b p zero h = absurd (omega arith)
drop-one b p (suc m) h = ap (λ k. drop k p) (let e : suc m - 1 ≡ m = omega arith in e)

take-whole : (p : List ℕ) → take (length p) p ≡ p
take-whole [] = refl
take-whole (b ∷ p) = ap (λ l. b ∷ l) (take-whole p)

-- a parameter that takes so many bytes
taken : (t : List ℕ) (b : ℕ) (p : List ℕ) (m : ℕ) → 0 < m → m ≤ length (b ∷ p) → has_slash (take m (b ∷ p)) ≡ false → Matches t (drop (m - 1) p) → Matches (256 ∷ t) (b ∷ p)
taken t b p m some within plain h =
    let Q : List ℕ → Type 0 = λ l. Matches t l in
    inr (inr (refl, (take m (b ∷ p), drop m (b ∷ p), (take-part (b ∷ p) m some within, plain), take-rest (b ∷ p) m, subst Q (drop-one b p m some) h)))

module _ {K : Type 0} where
  -- what a search finds is a row whose pattern the path matches
  abbrev pub IsFound : RowsOf K → List ℕ → K → Type 0
  IsFound rs path k = (t : List ℕ) × IsIn t k rs × Matches t path

  or-found : (x y : Option K) (k : K) → or_else x y ≡ Some k → (x ≡ Some k) ⊎ (y ≡ Some k)
  or-found None y k e = inr e
  or-found (Some a) y k e = inl e

  -- by a parameter
  param-sound : (rs : RowsOf K) (b : ℕ) (p : List ℕ) (k : K) → ((n : ℕ) (some : RowsOf K) → seek n some p ≡ Some k → IsFound some (drop n p) k)
      → seek ((param_step rs (b ∷ p)).0 - 1) (param_step rs (b ∷ p)).1 p ≡ Some k → (t : List ℕ) × IsIn t k rs × Matches (256 ∷ t) (b ∷ p)
  unfolding param_step
  param-sound rs b p k ih e = by (ltb 0 (length (longest_suffix (segment (b ∷ p)) rs))) refl (has_slash (b ∷ p)) refl e
    where
      by : (u : Bool) → ltb 0 (length (longest_suffix (segment (b ∷ p)) rs)) ≡ u → (v : Bool) → has_slash (b ∷ p) ≡ v
          → seek ((cond {A = ℕ × RowsOf K} u (length (segment (b ∷ p)) - length (longest_suffix (segment (b ∷ p)) rs), with_suffix (longest_suffix (segment (b ∷ p)) rs) rs) (cond {A = ℕ × RowsOf K} v (0, []) (length (b ∷ p), rs))).0 - 1)
          (cond {A = ℕ × RowsOf K} u (length (segment (b ∷ p)) - length (longest_suffix (segment (b ∷ p)) rs), with_suffix (longest_suffix (segment (b ∷ p)) rs) rs) (cond {A = ℕ × RowsOf K} v (0, []) (length (b ∷ p), rs))).1 p ≡ Some k
          → (t : List ℕ) × IsIn t k rs × Matches (256 ∷ t) (b ∷ p)
      by true q v w e =
          let s = longest_suffix (segment (b ∷ p)) rs in
          let n = length (segment (b ∷ p)) - length s in
          let some : 0 < length s = grind (arith, nat_tests) in
          let short = longest-shorter (segment (b ∷ p)) [] rs (inl refl) in
          let shorter : length s < length (segment (b ∷ p)) = omega (arith, short) in
          let within = segment-within (b ∷ p) in
          let f = ih (n - 1) (with_suffix s rs) e in
          (f.0, suffix-in s rs f.0 k f.1, taken f.0 b p n (let h : 0 < n = omega arith in h) (let h : n ≤ length (b ∷ p) = omega arith in h) (front-plain (b ∷ p) n (let h : n < length (segment (b ∷ p)) = omega arith in h)) f.2)
      by false q true w e = let no = none-found {K = K} (0 - 1) p in absurd (cc)
      by false q false w e =
          let f = ih (length (b ∷ p) - 1) rs e in
          (f.0, f.1, taken f.0 b p (length (b ∷ p)) (omega arith) (omega arith) (ap has_slash (take-whole (b ∷ p)) ∙ w) f.2)

  at-start : (rs : RowsOf K) (b : ℕ) (p : List ℕ) (k : K) → ((n : ℕ) (some : RowsOf K) → seek n some p ≡ Some k → IsFound some (drop n p) k)
      → seek 0 rs (b ∷ p) ≡ Some k → IsFound rs (b ∷ p) k
  unfolding seek
  at-start rs b p k ih e =
      elim (or-found (seek 0 (step b rs) p) _ k e) [
        | inl h ↦ let f = ih 0 (step b rs) h in (b ∷ f.0, step-in b rs f.0 k f.1, inr (inl (p, refl, f.2)))
        | inr h ↦
            elim (or-found (seek ((param_step (step param_token rs) (b ∷ p)).0 - 1) (param_step (step param_token rs) (b ∷ p)).1 p) _ k h) [
              | inl g ↦ let f = param-sound (step param_token rs) b p k ih g in (256 ∷ f.0, step-in 256 rs f.0 k f.1, f.2)
              | inr g ↦ (257 ∷ [], step-in 257 rs [] k (own-in (step catch_all_token rs) k g), inl refl)
            ]
      ]

  pub found-sound : (n : ℕ) (rs : RowsOf K) (path : List ℕ) (k : K) → seek n rs path ≡ Some k → IsFound rs (drop n path) k
  unfolding seek
  found-sound zero rs [] k e = ([], own-in rs k e, refl)
  found-sound (suc n) rs [] k e = ([], own-in rs k e, refl)
  found-sound (suc n) rs (b ∷ p) k e = found-sound n rs p k e
  found-sound zero rs (b ∷ p) k e = at-start rs b p k (λ n some h. found-sound n some p k h) e
