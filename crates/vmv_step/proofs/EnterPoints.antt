-- Entering a procedure keeps points and the order of states.
use Rattle.std.proofs.Common.{◌∙◌, ◌≡◌, ◌≢◌, ◌⊎◌, inl, inr, ⊎_elim, ℕ, zero, suc, ◌+◌, ◌-◌, ◌≤◌, ◌<◌, ◌==◌, ◌&&◌, ◌||◌, ℤ, pos, ◌-ℤ◌, ◌≤ℤ◌, Bool, true, false, if◌then◌else◌, IsTrue, IsFalse, Option, Some, None, List, [], ◌∷◌, ◌++◌, length, map, get_or, slice_get, FitsSigned, arith, refl, sym, subst, ap}
use Rattle.std.specs.Prelude.{nat_le, nat_lt}
use Rattle.std.specs.Int.{w64}
use Rattle.std.proofs.lemmas.Int.{ints}
use Rattle.vmv_tree.specs.declared.name.Name.{Name}
use Rattle.vmv_tree.specs.Words.{IsWord}
use Rattle.vmv_tree.specs.Tree.{Body}
use Rattle.vmv_tree.specs.Limits.{block_indexes}
use Rattle.vmv_tree.specs.Run.{Valuation, start}
use Rattle.vmv_snapshot.specs.Resolves.{loop_names, slot_names}
use Rattle.vmv_zone.specs.declared.zone.Zone.{Zone}
use Rattle.vmv_zone.specs.Bounds.{top_bound}
use Rattle.vmv_zone.specs.Zone.{HasPoint, IsBelow, IsNormal, bound_of, mark_of}
use Rattle.vmv_zone.proofs.Words.{is_or_not}
use Rattle.vmv_zone.proofs.Confining.{true_along}
use Rattle.vmv_zone.proofs.States.{norm_mono}
use Rattle.vmv_zone.proofs.GuardLaws.{norm_point}
use Rattle.vmv_step.specs.Enter.{is_declared, IsStart, IsEntered}
use Rattle.vmv_step.specs.Agree.{AreSlots, HasStart, words_at}
use Rattle.vmv_step.proofs.Result.{word_fits, fits_word}
use Rattle.vmv_step.proofs.Places.{within, assigned_same, assigned_other, assigned_word}
use Rattle.vmv_step.proofs.LoopPoints.{under_top}
use Rattle.vmv_step.proofs.Procedures.{item_at}
use Rattle.vmv_step.proofs.Told.{clash}

-- the places of names among the slots

AreOnce : List Name → Type 0
AreOnce names = (m n : ℕ) (x : Name) → slice_get names m ≡ Some x → slice_get names n ≡ Some x → m ≡ n

front : {X : Type 0} (xs ys : List X) (n : ℕ) (x : X) → slice_get xs n ≡ Some x → slice_get (xs ++ ys) n ≡ Some x
front [] ys n x e = absurd (cc)
front (y ∷ xs) ys zero x e = e
front (y ∷ xs) ys (suc n) x e = front xs ys n x e

back : {X : Type 0} (xs ys : List X) (n : ℕ) (x : X) → slice_get ys n ≡ Some x → slice_get (xs ++ ys) (length xs + n) ≡ Some x
back [] ys n x e = rw (let z : 0 + n ≡ n = omega arith in z) e
back (y ∷ xs) ys n x e = let h = back xs ys n x e in rw (let z : suc (length xs) + n ≡ suc (length xs + n) = omega arith in z) h

mapped : (names : List Name) (n : ℕ) (x : Name) → slice_get names n ≡ Some x → slice_get (map (λ (y : Name). Some y) names) n ≡ Some (Some x)
mapped [] n x e = absurd (cc)
mapped (y ∷ names) zero x e = let same : y ≡ x = cc in ap (λ (z : Name). Some (Some z)) same
mapped (y ∷ names) (suc n) x e = mapped names n x e

pub param_slot : (params : List Name) (body : Body) (k : ℕ) (x : Name) → slice_get params k ≡ Some x → slice_get (slot_names params body) (suc k) ≡ Some (Some x)
param_slot params body k x e = front (map (λ (y : Name). Some y) (params ++ body.vars)) (loop_names (block_indexes body.block)) k (Some x) (mapped (params ++ body.vars) k x (front params body.vars k x e))

pub declared_slot : (params : List Name) (body : Body) (k : ℕ) (x : Name) → slice_get body.vars k ≡ Some x → slice_get (slot_names params body) (suc (length params + k)) ≡ Some (Some x)
declared_slot params body k x e =
    front (map (λ (y : Name). Some y) (params ++ body.vars)) (loop_names (block_indexes body.block)) (length params + k) (Some x) (mapped (params ++ body.vars) (length params + k) x (back params body.vars k x e))

declared_slot_at : (params : List Name) (body : Body) (n k : ℕ) (x : Name) → n ≡ length params + k → slice_get body.vars k ≡ Some x → slice_get (slot_names params body) (suc n) ≡ Some (Some x)
declared_slot_at params body n k x e is = rw e (declared_slot params body k x is)

params_once : (params : List Name) (body : Body) (count : ℕ) → AreSlots count (slot_names params body) → AreOnce params
unfolding AreOnce
params_once params body count are m n x e e' = let h = are.once (suc m) (suc n) x (param_slot params body m x e) (param_slot params body n x e') in omega arith

further : (x : Name) (names : List Name) → AreOnce (x ∷ names) → AreOnce names
unfolding AreOnce
further x names once m n y e e' = let h = once (suc m) (suc n) y e e' in omega arith

not_first : (x : Name) (names : List Name) (k : ℕ) (y : Name) → AreOnce (x ∷ names) → slice_get names k ≡ Some y → y ≢ x
unfolding AreOnce
not_first x names k y once e is = let h = once 0 (suc k) y (ap (λ (z : Name). Some z) (sym is)) e in omega arith

-- a parameter has its word
param_word : (params : List Name) (words : List ℤ) (k : ℕ) (x : Name) → AreOnce params → length words ≡ length params → slice_get params k ≡ Some x → start params words x ≡ get_or words k (pos 0)
param_word [] words k x once long e = absurd (cc)
param_word (y ∷ params) [] k x once long e = absurd (omega arith)
param_word (y ∷ params) (w ∷ words) zero x once long e =
    let same : x ≡ y = cc in
    let P : Name → Type 0 = λ z. start (y ∷ params) (w ∷ words) z ≡ w in
    subst P (sym same) (assigned_same (start params words) y w)
param_word (y ∷ params) (w ∷ words) (suc k) x once long e =
    assigned_other (start params words) y x w (not_first y params k x once e) ∙ param_word params words k x (further y params once) (omega arith) e

-- every other name has 0
other_word : (params : List Name) (words : List ℤ) (x : Name) → ((k : ℕ) → slice_get params k ≡ Some x → ⊥) → start params words x ≡ pos 0
other_word [] words x none = refl
other_word (y ∷ params) [] x none = refl
other_word (y ∷ params) (w ∷ words) x none =
    assigned_other (start params words) y x w (λ is. none 0 (ap (λ (z : Name). Some z) (sym is))) ∙ other_word params words x (λ k e. none (suc k) e)

start_words : (params : List Name) (words : List ℤ) → ((k : ℕ) → IsWord (get_or words k (pos 0))) → (x : Name) → IsWord (start params words x)
start_words [] words fits x = refl
start_words (y ∷ params) [] fits x = refl
start_words (y ∷ params) (w ∷ words) fits x = assigned_word (start params words) y x w (fits 0) (start_words params words (λ k. fits (suc k)) x)

-- the word of a slot
word_of : Option (Option Name) → Valuation → ℤ
word_of None v = pos 0
word_of (Some None) v = pos 0
word_of (Some (Some x)) v = v x

word_is : (o : Option (Option Name)) (v : Valuation) (x : Name) → o ≡ Some (Some x) → word_of o v ≡ v x
unfolding word_of
word_is o v x e = rw e refl

word_fits_of : (o : Option (Option Name)) (v : Valuation) → ((x : Name) → IsWord (v x)) → IsWord (word_of o v)
unfolding word_of
word_fits_of None v words = refl
word_fits_of (Some None) v words = refl
word_fits_of (Some (Some x)) v words = words x

no_word : (o : Option (Option Name)) (v : Valuation) → o ≡ Some None → word_of o v ≡ pos 0
unfolding word_of
no_word o v e = rw e refl

shifted : (w : ℤ) (words : List ℤ) → ((i : ℕ) → i ≤ length (w ∷ words) → FitsSigned w64 (words_at (w ∷ words) i)) → (i : ℕ) → i ≤ length words → FitsSigned w64 (words_at words i)
shifted w words fits zero h = omega (arith, ints)
shifted w words fits (suc k) h = fits (suc (suc k)) (omega (arith, h))

slot_short : (params : List Name) (m : ℕ) (x : Name) → slice_get params m ≡ Some x → m < length params
slot_short params m x e = within params m x e

list_words : (words : List ℤ) (k : ℕ) → ((i : ℕ) → i ≤ length words → FitsSigned w64 (words_at words i)) → IsWord (get_or words k (pos 0))
list_words [] k fits = refl
list_words (w ∷ words) zero fits = fits_word w (fits 1 (omega arith))
list_words (w ∷ words) (suc k) fits = list_words words k (λ i hi. shifted w words fits i hi)

le_of : (i n : ℕ) → nat_le i n ≡ true → i ≤ n
le_of i n t = grind arith

above_of : (i n : ℕ) → nat_lt n i ≡ true → n < i
above_of i n t = grind arith

same_of : (i j : ℕ) → (i == j) ≡ true → i ≡ j
same_of i j t = grind arith

both : (x y : Bool) → (x && y) ≡ true → (x ≡ true) × (y ≡ true)
both true y h = (refl, h)
both false y h = absurd (cc)

either : (x y : Bool) → (x || y) ≡ true → (x ≡ true) ⊎ (y ≡ true)
either true y h = inl refl
either false y h = inr h

-- a number at most each of the bounds from which one is chosen
at_most_chosen : (b c : Bool) (e d t : ℤ) → (b ≡ true → e ≤ℤ d) → (c ≡ true → e ≤ℤ pos 0) → e ≤ℤ t → e ≤ℤ (if b then d else if c then pos 0 else t)
at_most_chosen true c e d t f g h = f refl
at_most_chosen false true e d t f g h = g refl
at_most_chosen false false e d t f g h = h

chosen_mono : (b c : Bool) (d d' t : ℤ) → (b ≡ true → d ≤ℤ d') → (if b then d else if c then pos 0 else t) ≤ℤ (if b then d' else if c then pos 0 else t)
chosen_mono true c d d' t f = f refl
chosen_mono false c d d' t f = omega (arith, ints)

kept_mark : (b m : Bool) → IsTrue (if b then m else false) → (b ≡ true) × IsTrue m
kept_mark true m h = (refl, h)
kept_mark false m h = absurd (cc)

keep_mark : (b m : Bool) → b ≡ true → IsTrue m → IsTrue (if b then m else false)
keep_mark true m e h = h
keep_mark false m e h = absurd (cc)

module _ (params : List Name) (body : Body) (words : List ℤ) (count : ℕ) (are : AreSlots count (slot_names params body)) (long : length words ≡ length params) where
  at : ℕ → ℤ
  at n = word_of (slice_get (slot_names params body) n) (start params words)

  at_zero : at 0 ≡ pos 0
  unfolding at
  at_zero = no_word _ (start params words) are.origin

  at_param : (i : ℕ) → i ≤ length params → at i ≡ words_at words i
  unfolding at
  at_param zero h = no_word _ (start params words) are.origin
  at_param (suc k) h =
      let x = item_at params k (omega (arith, h)) in
      word_is _ (start params words) x.0 (param_slot params body k x.0 x.1) ∙ param_word params words k x.0 (params_once params body count are) long x.1

  at_declared : (i : ℕ) → length params < i → i ≤ length params + length body.vars → at i ≡ pos 0
  unfolding at
  at_declared zero h g = absurd (omega arith)
  at_declared (suc n) h g =
      let k : ℕ = n - length params in
      let e : n ≡ length params + k = omega (arith, h) in
      let x = item_at body.vars k (omega (arith, h, g)) in
      let here : slice_get (slot_names params body) (suc n) ≡ Some (Some x.0) = declared_slot_at params body n k x.0 e x.1 in
      word_is _ (start params words) x.0 here
      ∙ other_word params words x.0 (λ m is. let twice = are.once (suc m) (suc n) x.0 (param_slot params body m x.0 is) here in let short = slot_short params m x.0 is in omega (arith, h))

  entered_start : (input z : Zone) → IsStart input (length params) (length body.vars) count z → input.vars ≡ length params → HasPoint input (words_at words) → HasPoint z at
  unfolding at
  entered_start input z is same point =
      let fits : (k : ℕ) → IsWord (get_or words k (pos 0)) = λ k. list_words words k (λ i hi. point.words i (omega (arith, hi))) in
      let all = start_words params words fits in
      let word : (n : ℕ) → FitsSigned w64 (at n) = λ n. word_fits (at n) (word_fits_of (slice_get (slot_names params body) n) (start params words) all) in
      record {
        not_bottom = is.not_bottom;
        zero = at_zero;
        words = λ i hi. word i;
        bounds = λ i j hi hj.
            let vars = is.vars in
            rw (is.bounds i j (omega arith) (omega arith))
            (at_most_chosen (nat_le i (length params) && nat_le j (length params)) _ (at i -ℤ at j) (bound_of input i j) (top_bound i j)
            (λ t. let b = both (nat_le i (length params)) (nat_le j (length params)) t in
            let pi = le_of i (length params) b.0 in let pj = le_of j (length params) b.1 in
            rw (at_param i pi, at_param j pj) (point.bounds i j (omega arith) (omega arith)))
            (λ t. ⊎_elim
            (λ u. let b = both (is_declared (length params) (length body.vars) i) (j == 0) u in
            let d = both (nat_lt (length params) i) (nat_le i (length params + length body.vars)) b.0 in
            let zi = at_declared i (above_of i (length params) d.0) (le_of i (length params + length body.vars) d.1) in
            let zj : at j ≡ pos 0 = rw (same_of j 0 b.1) at_zero in
            omega (arith, ints))
            (λ u. let b = both (i == 0) (is_declared (length params) (length body.vars) j) u in
            let d = both (nat_lt (length params) j) (nat_le j (length params + length body.vars)) b.1 in
            let zj = at_declared j (above_of j (length params) d.0) (le_of j (length params + length body.vars) d.1) in
            let zi : at i ≡ pos 0 = rw (same_of i 0 b.0) at_zero in
            omega (arith, ints))
            (either (is_declared (length params) (length body.vars) i && (j == 0)) ((i == 0) && is_declared (length params) (length body.vars) j) t))
            (under_top at i j at_zero (word i) (word j)));
        marks = λ i from hi marked.
            let vars = is.vars in
            let k = kept_mark (nat_le i (length params)) (mark_of input i) (true_along _ _ (is.marks i (omega arith)) marked) in
            let pi = le_of i (length params) k.0 in
            rw (at_param i pi) (point.marks i from (omega arith) k.1);
      }

  pub entered_point : (input r : Zone) → IsEntered input (length params) (length body.vars) count r → input.vars ≡ length params → HasPoint input (words_at words) → HasStart r (slot_names params body) (start params words)
  unfolding at
  entered_point input r is same point =
      let fits : (k : ℕ) → IsWord (get_or words k (pos 0)) = λ k. list_words words k (λ i hi. point.words i (omega (arith, hi))) in
      let e = is.entered point.not_bottom in
      record {
        at = at;
        point = norm_point e.0 r at e.2 (entered_start input e.0 e.1 same point);
        agrees = record { named = λ n x h. word_is _ (start params words) x h; words = start_words params words fits };
      }

pub enter_point : (params : List Name) (body : Body) (words : List ℤ) (count : ℕ) (input r : Zone) → AreSlots count (slot_names params body) → IsEntered input (length params) (length body.vars) count r → input.vars ≡ length params →
    length words ≡ length params → HasPoint input (words_at words) → HasStart r (slot_names params body) (start params words)
enter_point params body words count input r are is same long point = entered_point params body words count are long input r is same point

start_mono : (params declared count : ℕ) (a b z y : Zone) → a.vars ≡ params → b.vars ≡ params → params ≤ count → IsStart a params declared count z → IsStart b params declared count y → IsBelow a b → IsFalse a.bottom → IsBelow z y
start_mono params declared count a b z y va vb few one two below up' up =
    let here = below up' in
    let vz = one.vars in
    let vy = two.vars in
    record {
      not_bottom = two.not_bottom;
      bounds = λ i j hi hj. rw (one.bounds i j (omega arith) (omega arith), two.bounds i j (omega arith) (omega arith))
          (chosen_mono (nat_le i params && nat_le j params) _ (bound_of a i j) (bound_of b i j) (top_bound i j)
          (λ t. let c = both (nat_le i params) (nat_le j params) t in
          let pi = le_of i params c.0 in let pj = le_of j params c.1 in
          here.bounds i j (omega arith) (omega arith)));
      marks = λ i from hi marked.
          let k = kept_mark (nat_le i params) (mark_of b i) (true_along _ _ (two.marks i (omega arith)) marked) in
          let pi = le_of i params k.0 in
          true_along _ _ (sym (one.marks i (omega arith))) (keep_mark (nat_le i params) (mark_of a i) k.0 (here.marks i from (omega arith) k.1));
    }

pub enter_mono : (params declared count : ℕ) (a b r s : Zone) → a.vars ≡ params → b.vars ≡ params → params ≤ count → IsEntered a params declared count r → IsEntered b params declared count s → IsBelow a b → IsBelow r s
enter_mono params declared count a b r s va vb few one two below up =
    ⊎_elim
    (λ (none : IsTrue a.bottom). absurd (clash r.bottom (one.bottom none) up))
    (λ (some : IsFalse a.bottom).
    let e = one.entered some in
    let f = two.entered (below some).not_bottom in
    norm_mono e.0 f.0 r s (e.1.vars ∙ sym f.1.vars) e.2 f.2 (start_mono params declared count a b e.0 f.0 va vb few e.1 f.1 below some) up)
    (is_or_not a.bottom)

pub enter_normal : (params declared count : ℕ) (input r : Zone) → IsEntered input params declared count r → IsNormal r × (r.vars ≡ count)
enter_normal params declared count input r is = (
  λ up. ⊎_elim
      (λ (none : IsTrue input.bottom). absurd (clash r.bottom (is.bottom none) up))
      (λ (some : IsFalse input.bottom). (is.entered some).2.normal up)
      (is_or_not input.bottom),
  is.vars,
)
