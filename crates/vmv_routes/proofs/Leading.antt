-- A search over the rows finds the route of a path that is made of its pattern.
use Rattle.std.proofs.Common.{◌≡◌, ℕ, zero, suc, ◌+◌, ◌-◌, ◌<◌, ◌==◌, List, [], ◌∷◌, ◌++◌, length, drop, Option, Some, None, Bool, true, false, cond, refl, sym, ap, ◌∙◌, arith, ltb, length-append}
use Rattle.std.proofs.lemmas.Bool.{ne_eqb, eq-eqb}
use Rattle.std.proofs.lemmas.Bool.Decides.{nat_tests}
use Rattle.matchit.specs.Rows.{RowsOf}
use Rattle.matchit.specs.Seek.{step, or_else, seek, param_step, has_slash, segment, slash, cuts, longest_from, longest_suffix, with_suffix}
use Rattle.matchit.specs.Level.{IsText}
use Rattle.vmv_routes.specs.Matching.{IsPart}
use Rattle.vmv_routes.proofs.Searching.{none-found}

module _ {K : Type 0} where
  or_none : (x : Option K) → or_else x None ≡ x
  or_none None = refl
  or_none (Some k) = refl

  no_param : (p : List ℕ) → (param_step {K = K} [] p).1 ≡ []
  unfolding param_step
  no_param p = by (has_slash p)
    where
      by : (v : Bool) → (cond {A = ℕ × RowsOf K} v (0, []) (length p, [])).1 ≡ []
      by true = refl
      by false = refl

  -- a byte, where no row goes on with a parameter
  one_byte : (rs : RowsOf K) (c : ℕ) (q : List ℕ) → step 256 rs ≡ [] → step 257 rs ≡ [] → seek 0 rs (c ∷ q) ≡ seek 0 (step c rs) q
  unfolding seek
  one_byte rs c q e f =
      let n = (param_step {K = K} [] (c ∷ q)).0 - 1 in
      simp (e, f, no_param (c ∷ q), none-found {K = K} n q, or_none)

  -- some bytes
  abbrev pub steps : List ℕ → RowsOf K → RowsOf K
  steps [] rs = rs
  steps (c ∷ w) rs = steps w (step c rs)

  abbrev pub ArePlain : List ℕ → RowsOf K → Type 0
  ArePlain [] rs = Unit {0}
  ArePlain (c ∷ w) rs = (step 256 rs ≡ []) × (step 257 rs ≡ []) × ArePlain w (step c rs)

  pub some_bytes : (w : List ℕ) (rs : RowsOf K) (p : List ℕ) → ArePlain w rs → seek 0 rs (w ++ p) ≡ seek 0 (steps w rs) p
  some_bytes [] rs p h = refl
  some_bytes (c ∷ w) rs p h = one_byte rs c (w ++ p) h.0 h.1 ∙ some_bytes w (step c rs) p h.2

  -- rows that all go on with a parameter and a slash
  abbrev pub AreParams : RowsOf K → Type 0
  AreParams [] = Unit {0}
  AreParams (([], k) ∷ rest) = ⊥
  AreParams ((x ∷ t, k) ∷ rest) = (x ≡ 256) × (segment t ≡ 47 ∷ []) × AreParams rest

  abbrev pub AreSlashes : RowsOf K → Type 0
  AreSlashes [] = Unit {0}
  AreSlashes ((t, k) ∷ rest) = (segment t ≡ 47 ∷ []) × AreSlashes rest

  other_step : (b : ℕ) (rs : RowsOf K) → (256 ≡ b → ⊥) → AreParams rs → step b rs ≡ []
  other_step b [] n h = refl
  other_step b (([], k) ∷ rest) n h = absurd h
  other_step b ((x ∷ t, k) ∷ rest) n h =
      let e : (x == b) ≡ false = ne_eqb x b (λ e. n (sym h.0 ∙ e)) in
      rw e (other_step b rest n h.2)

  param_rows : (rs : RowsOf K) → AreParams rs → AreSlashes (step 256 rs)
  param_rows [] h = tt
  param_rows (([], k) ∷ rest) h = absurd h
  param_rows ((x ∷ t, k) ∷ rest) h =
      let e : (x == 256) ≡ true = eq-eqb x 256 h.0 in
      rw e (h.1, param_rows rest h.2)

  with_all : (rs : RowsOf K) → AreSlashes rs → with_suffix (47 ∷ []) rs ≡ rs
  with_all [] h = refl
  with_all ((t, k) ∷ rest) h = rw h.0 (ap (λ l. (t, k) ∷ l) (with_all rest h.1))

  longest_more : (seg : List ℕ) (rs : RowsOf K) → AreSlashes rs → longest_from seg (47 ∷ []) rs ≡ 47 ∷ []
  longest_more seg [] h = refl
  longest_more seg ((t, k) ∷ rest) h = rw h.0 (longest_more seg rest h.1)

  longest_one : (seg : List ℕ) (rs : RowsOf K) → 0 < length rs → cuts seg (47 ∷ []) ≡ true → AreSlashes rs → longest_suffix seg rs ≡ 47 ∷ []
  longest_one seg [] some cut h = absurd (omega arith)
  longest_one seg ((t, k) ∷ rest) some cut h = rw (h.0, cut) (longest_more seg rest h.1)

not_byte : (b : ℕ) → b < 256 → 256 ≡ b → ⊥
not_byte b h e = omega arith

apart : (b : ℕ) → b ≡ 257 → 256 ≡ b → ⊥
apart b h e = omega arith

segment_part : (part p : List ℕ) → has_slash part ≡ false → segment (part ++ 47 ∷ p) ≡ part ++ 47 ∷ []
segment_part [] p h = refl
segment_part (b ∷ part) p h = by (b == slash) refl h (segment_part part p)
  where
    by : (v : Bool) → (b == slash) ≡ v → cond v true (has_slash part) ≡ false → (has_slash part ≡ false → segment (part ++ 47 ∷ p) ≡ part ++ 47 ∷ [])
        → cond v (b ∷ []) (b ∷ segment (part ++ 47 ∷ p)) ≡ b ∷ (part ++ 47 ∷ [])
    by true e h ih = absurd (cc)
    by false e h ih = ap (λ l. b ∷ l) (ih h)

past_front : (part q : List ℕ) → drop (length part) (part ++ q) ≡ q
past_front [] q = refl
past_front (b ∷ part) q = past_front part q

cut_part : (part : List ℕ) → 0 < length part → cuts (part ++ 47 ∷ []) (47 ∷ []) ≡ true
cut_part part some =
    let len : length (part ++ 47 ∷ []) ≡ length part + 1 = length-append part (47 ∷ []) in
    let one : length part + 1 - 1 ≡ length part = omega arith in
    let long : ltb 1 (length part + 1) ≡ true = grind (arith, nat_tests) in
    rw (len, one, long, past_front part (47 ∷ [])) refl

module _ {K : Type 0} where
  skipped : (n : ℕ) (rs : RowsOf K) (p : List ℕ) → seek n rs p ≡ seek 0 rs (drop n p)
  unfolding seek
  skipped zero rs p = refl
  skipped (suc n) rs [] = refl
  skipped (suc n) rs (b ∷ p) = skipped n rs p

  param_takes : (rs : RowsOf K) (part p : List ℕ) → 0 < length rs → AreSlashes rs → IsPart part → param_step rs (part ++ 47 ∷ p) ≡ (length part, rs)
  unfolding param_step
  param_takes rs part p some h is =
      let seg = segment_part part p is.1 in
      let longest = longest_one (part ++ 47 ∷ []) rs some (cut_part part is.0) h in
      let len : length (part ++ 47 ∷ []) - 1 ≡ length part = omega (arith, length-append part (47 ∷ [])) in
      rw (seg, longest, len, with_all rs h) refl

  -- a part, and the slash behind it
  pub one_part_more : (rs : RowsOf K) (b : ℕ) (part p : List ℕ) → b < 256 → IsPart (b ∷ part) → AreParams rs → 0 < length (step 256 rs) → step 256 (step 256 rs) ≡ [] → step 257 (step 256 rs) ≡ []
      → seek 0 rs ((b ∷ part) ++ 47 ∷ p) ≡ seek 0 (step 47 (step 256 rs)) p
  unfolding seek
  one_part_more rs b part p byte is params some plain rest =
      let takes = param_takes (step 256 rs) (b ∷ part) p some (param_rows rs params) is in
      let one : length (b ∷ part) - 1 ≡ length part = omega arith in
      let skip = skipped (length part) (step 256 rs) (part ++ 47 ∷ p) ∙ ap (seek 0 (step 256 rs)) (past_front part (47 ∷ p)) ∙ one_byte (step 256 rs) 47 p plain rest in
      rw (other_step b rs (not_byte b byte) params, other_step 257 rs (apart 257 refl) params, takes, none-found {K = K} 0 (part ++ 47 ∷ p), one, or_none) skip

  pub part_more : (rs : RowsOf K) (part p : List ℕ) → IsText part → IsPart part → AreParams rs → 0 < length (step 256 rs) → step 256 (step 256 rs) ≡ [] → step 257 (step 256 rs) ≡ []
      → seek 0 rs (part ++ 47 ∷ p) ≡ seek 0 (step 47 (step 256 rs)) p
  part_more rs [] p text is params some plain rest = absurd (let h = is.0 in omega arith)
  part_more rs (b ∷ part) p text is params some plain rest = one_part_more rs b part p text.0 is params some plain rest
