-- What probes have names answer, and the words that they take.
use Rattle.std.proofs.Common.{◌≡◌, ◌≢◌, ⊎_elim, ℤ, ◌≤ℤ◌, Bool, true, false, Option, Some, None, if◌then◌else◌, List, [], ◌∷◌, length, refl, sym, subst, arith}
use Rattle.std.specs.List.{All, AllZip, Contains}
use Rattle.std.specs.Str.{bytes_eq}
use Rattle.std.proofs.lemmas.Int.{ints}
use Rattle.std.proofs.lemmas.List.Elements.{All-nil, All-cons}
use Rattle.vmv_tree.specs.declared.name.Name.{Name}
use Rattle.vmv_tree.specs.declared.tree.Param.{Param}
use Rattle.vmv_tree.specs.Words.{IsWord}
use Rattle.vmv_tree.specs.Safe.{FitParams}
use Rattle.vmv_cond.specs.declared.cond.Cond.{Cond}
use Rattle.vmv_cond.specs.Cond.{Holds}
use Rattle.vmv_assumption.specs.Assumed.{Assumed}
use Rattle.vmv_assumption.proofs.Names.{same_bytes, bytes_same}
use Rattle.vmv_cert.specs.Tables.{Box, IsBoxIn}
use Rattle.vmv_run.specs.Constant.{word_of}
use Rattle.vmv_demands.specs.declared.demand.Demand.{Demand}
use Rattle.vmv_enough.specs.declared.probe.Mode.{Mode}
use Rattle.vmv_enough.specs.declared.probe.Mode.TheVariants.{Nearest}
use Rattle.vmv_enough.specs.declared.probe.Probe.{Probe}
use Rattle.vmv_enough.specs.Picks.{IsPick}
use Rattle.vmv_enough.specs.Probes.{IsInRange, Misses, IsAnswer}
use Rattle.vmv_enough.specs.Tried.{AreAnswers}
use Rattle.vmv_enough.proofs.Lists.{none_in, first_or_further}
use Rattle.vmv_enough.proofs.Picked.{one_pick}

-- names are the same or not
pub by_same : {P : Type 0} (a b : Name) → (a ≡ b → P) → (a ≢ b → P) → P
by_same {P} a b same other = by (bytes_eq a b) refl
  where
    by : (t : Bool) → bytes_eq a b ≡ t → P
    by true e = same (same_bytes a b e)
    by false e = other (λ s. let t = bytes_same a b s in absurd (cc))

-- an answer meets what is assumed of its name
pub answer_holds : (assumed : Assumed) (mode : Mode) (missed : Option Demand) (name : Name) (w : ℤ) → IsAnswer assumed mode missed name w → Holds (assumed name) w
answer_holds assumed mode None name w h = h.among
answer_holds assumed mode (Some d) name w h = by_same name d.name (λ e. (h.0 e).among.0) (λ n. (h.1 n).among)

-- a name has one answer
pub one_answer : (assumed : Assumed) (mode : Mode) (missed : Option Demand) (name : Name) (v w : ℤ) → IsAnswer assumed mode missed name v → IsAnswer assumed mode missed name w → v ≡ w
one_answer assumed mode None name v w h g = one_pick mode (Holds (assumed name)) v w h g
one_answer assumed mode (Some d) name v w h g =
    by_same name d.name (λ e. one_pick Nearest (Misses (assumed name) d) v w (h.0 e) (g.0 e)) (λ n. one_pick mode (Holds (assumed name)) v w (h.1 n) (g.1 n))

-- the value of a name is what it answers
pub answers_of : (assumed : Assumed) (probe : Probe) (names : List Name) (values : List ℤ) → AreAnswers assumed probe names values → (name : Name) → Contains names name → IsAnswer assumed probe.mode probe.missed name (word_of names values name)
answers_of assumed probe [] values h name there = absurd (none_in name there)
answers_of assumed probe (x ∷ names) [] h name there = absurd h
answers_of assumed probe (x ∷ names) (w ∷ values) h name there = by (bytes_eq x name) refl (λ t. answers_of assumed probe names values h.1 name t)
  where
    by : (t : Bool) → bytes_eq x name ≡ t → (Contains names name → IsAnswer assumed probe.mode probe.missed name (word_of names values name)) → IsAnswer assumed probe.mode probe.missed name (if t then w else word_of names values name)
    by true e rest = subst (λ y. IsAnswer assumed probe.mode probe.missed y w) (same_bytes x name e) h.0.1
    by false e rest = ⊎_elim (λ (s : x ≡ name). let t = bytes_same x name s in absurd (cc)) (λ t. rest t) (first_or_further x names name there)

-- the value of every name is a word
pub values_are_words : (assumed : Assumed) (probe : Probe) (names : List Name) (values : List ℤ) → AreAnswers assumed probe names values → (name : Name) → IsWord (word_of names values name)
values_are_words assumed probe [] values h name = refl
values_are_words assumed probe (x ∷ names) [] h name = refl
values_are_words assumed probe (x ∷ names) (w ∷ values) h name = by (bytes_eq x name) (values_are_words assumed probe names values h.1 name)
  where
    by : (t : Bool) → IsWord (word_of names values name) → IsWord (if t then w else word_of names values name)
    by true rest = h.0.0
    by false rest = rest

-- a probe takes one list of words
pub one_words : (mode : Mode) (box : Box) (v w : List ℤ) → AllZip (λ range word. IsPick mode (IsInRange range) word) box v → AllZip (λ range word. IsPick mode (IsInRange range) word) box w → v ≡ w
one_words mode [] [] [] h g = refl
one_words mode [] [] (y ∷ w) h g = absurd g
one_words mode [] (x ∷ v) w h g = absurd h
one_words mode (r ∷ box) [] w h g = absurd h
one_words mode (r ∷ box) (x ∷ v) [] h g = absurd g
one_words mode (r ∷ box) (x ∷ v) (y ∷ w) h g =
    let head : x ≡ y = one_pick mode (IsInRange r) x y h.0 g.0 in
    let tail : v ≡ w = one_words mode box v w h.1 g.1 in
    cc

-- the picks alone
pub picks_of : (mode : Mode) (box : Box) (words : List ℤ) → AllZip (λ range word. IsWord word × IsPick mode (IsInRange range) word) box words → AllZip (λ range word. IsPick mode (IsInRange range) word) box words
picks_of mode [] [] h = tt
picks_of mode [] (w ∷ words) h = absurd h
picks_of mode (r ∷ box) [] h = absurd h
picks_of mode (r ∷ box) (w ∷ words) h = (h.0.1, picks_of mode box words h.1)

-- words of a box in the parameters' ranges fit them
pub words_fit : (mode : Mode) (params : List Param) (box : Box) (words : List ℤ) → IsBoxIn params box → AllZip (λ range word. IsWord word × IsPick mode (IsInRange range) word) box words → FitParams params words
words_fit mode [] [] [] inside h = tt
words_fit mode [] [] (w ∷ words) inside h = absurd h
words_fit mode [] (r ∷ box) words inside h = absurd inside
words_fit mode (p ∷ params) [] words inside h = absurd inside
words_fit mode (p ∷ params) (r ∷ box) [] inside h = absurd h
words_fit mode (p ∷ params) (r ∷ box) (w ∷ words) inside h =
    let low = inside.0.0 in
    let high = inside.0.2 in
    let at = h.0.1.among in
    (h.0.0, omega (arith, ints, low, at.0), omega (arith, ints, high, at.1), words_fit mode params box words inside.1 h.1)

pub words_count : (mode : Mode) (params : List Param) (box : Box) (words : List ℤ) → IsBoxIn params box → AllZip (λ range word. IsWord word × IsPick mode (IsInRange range) word) box words → length params ≡ length words
words_count mode [] [] [] inside h = refl
words_count mode [] [] (w ∷ words) inside h = absurd h
words_count mode [] (r ∷ box) words inside h = absurd inside
words_count mode (p ∷ params) [] words inside h = absurd inside
words_count mode (p ∷ params) (r ∷ box) [] inside h = absurd h
words_count mode (p ∷ params) (r ∷ box) (w ∷ words) inside h = let e = words_count mode params box words inside.1 h.1 in omega (arith, e)

pub ranges_full : (params : List Param) (box : Box) → IsBoxIn params box → All (λ (range : ℤ × ℤ). range.0 ≤ℤ range.1) box
ranges_full [] [] inside = All-nil (λ (range : ℤ × ℤ). range.0 ≤ℤ range.1)
ranges_full [] (r ∷ box) inside = absurd inside
ranges_full (p ∷ params) [] inside = absurd inside
ranges_full (p ∷ params) (r ∷ box) inside = All-cons (λ (range : ℤ × ℤ). range.0 ≤ℤ range.1) r box inside.0.1 (ranges_full params box inside.1)

pub missing_is : (assumed : Assumed) (mode : Mode) (missed : Option Demand) (name : Name) (d : Demand) (cond : Cond) (w : ℤ) → missed ≡ Some d → cond ≡ assumed name → (name ≡ d.name → IsPick Nearest (Misses cond d) w) → (name ≢ d.name → IsPick mode (Holds cond) w) →
    IsAnswer assumed mode missed name w
missing_is assumed mode missed name d cond w is e there elsewhere =
    subst (λ m. IsAnswer assumed mode m name w) (sym is)
    ((λ same. subst (λ c. IsPick Nearest (Misses c d) w) e (there same)), (λ other. subst (λ c. IsPick mode (Holds c) w) e (elsewhere other)))
