-- What each answer of a source changes.
use Rattle.std.proofs.Common.{◌≡◌, ◌⊎◌, ⊎_elim, ℕ, ◌+◌, ◌<◌, ◌≤◌, ℤ, pos, Bool, true, false, if◌then◌else◌, Some, None, List, [], ◌∷◌, ◌++◌, length, min, take, drop, get_or, slice_get, refl, sym, ap, subst, arith, ◌∙◌, append-nil, length-take, Bor}
use Rattle.std.specs.Str.{bytes_eq}
use Rattle.std.proofs.lemmas.List.{drop_more, drop_all, length-map, map-append}
use Rattle.std.proofs.lemmas.Option.{get_or_from_slice_get, slice_get_within}
use Rattle.std.proofs.lemmas.Slice.Eq.{bytes_eq-Decides}
use Rattle.vmv_tree.specs.declared.name.Name.{Name}
use Rattle.vmv_snapshot.proofs.Zips.{take_one_more}
use Rattle.vmv_run.specs.declared.answer.Answer.{Answer}
use Rattle.vmv_run.specs.declared.source.Source.{Source}
use Rattle.vmv_run.specs.declared.source.Source.TheVariants.{Given, Constant}
use Rattle.vmv_run.specs.Replay.{pairs}
use Rattle.vmv_run.specs.Constant.{AreFrom, word_of}
use Rattle.vmv_run.specs.Source.{setting_of, taken_of, IsSound, Stops, Went}
use Rattle.vmv_run.proofs.RunExists.{AreFrom-append}

first_of_both : (names : List Name) (values : List ℤ) (i : ℕ) (n name : Name) (b : Bool) → bytes_eq n name ≡ b → i < length names → i < length values → n ≡ get_or names i n →
    word_of (drop i names) (drop i values) name ≡ (if b then get_or values i (pos 0) else word_of (drop (i + 1) names) (drop (i + 1) values) name)
first_of_both names values i n name b e h k is =
    (λ j. word_of (drop_more names i n h j) (drop_more values i (pos 0) k j) name)
    ∙ ap (λ t. if t then get_or values i (pos 0) else word_of (drop (i + 1) names) (drop (i + 1) values) name) (ap (λ x. bytes_eq x name) (sym is) ∙ e)

pub value_here : (names : List Name) (values : List ℤ) (i : ℕ) (n name : Name) (w : ℤ) → bytes_eq n name ≡ true → i < length names → i < length values → n ≡ get_or names i n →
    w ≡ get_or values i (pos 0) → word_of names values name ≡ word_of (drop i names) (drop i values) name → w ≡ word_of names values name
value_here names values i n name w e h k is v before = v ∙ (sym (first_of_both names values i n name true e h k is) ∙ sym before)

pub value_past : (names : List Name) (values : List ℤ) (i : ℕ) (n name : Name) → bytes_eq n name ≡ false → i < length names → i < length values → n ≡ get_or names i n →
    word_of names values name ≡ word_of (drop i names) (drop i values) name → word_of names values name ≡ word_of (drop (i + 1) names) (drop (i + 1) values) name
value_past names values i n name e h k is before = before ∙ first_of_both names values i n name false e h k is

no_value : (names : List Name) (values : List ℤ) (name : Name) → values ≡ [] → word_of names values name ≡ pos 0
no_value [] values name e = refl
no_value (n ∷ names) [] name e = refl
no_value (n ∷ names) (v ∷ values) name e = absurd (cc)

one_ends : (a b i : ℕ) → min a b ≤ i → (a ≤ i) ⊎ (b ≤ i)
one_ends a b i h = grind arith

pub value_none : (names : List Name) (values : List ℤ) (i : ℕ) (name : Name) → min (length names) (length values) ≤ i →
    word_of names values name ≡ word_of (drop i names) (drop i values) name → pos 0 ≡ word_of names values name
value_none names values i name h before =
    sym (before ∙ ⊎_elim (λ (g : length names ≤ i). ap (λ xs. word_of xs (drop i values) name) (drop_all i names g))
    (λ (g : length values ≤ i). no_value (drop i names) (drop i values) name (drop_all i values g)) (one_ends (length names) (length values) i h))

-- names whose bytes differ
pub differing : (x y : Name) → bytes_eq x y ≡ false → x ≡ y → ⊥
differing x y e same = let t = (bytes_eq-Decides x y).1 same in cc

-- nothing was taken
pub went_nothing : (s : Source) → Went s s []
went_nothing s = record { setting = refl; taken = sym (append-nil (taken_of s)); sound = λ h. h }

pub given_over : (self : Source) (answers : Bor (List Answer)) (used : ℕ) (name : Name) → self ≡ Given answers used → slice_get answers.now used ≡ None →
    Went self (Given answers used) [] × Stops (Given answers used) name
unfolding Stops
given_over self answers used name e none =
    (subst (λ (s : Source). Went s (Given answers used) []) (sym e) (went_nothing (Given answers used)), λ answer some same. absurd (cc))

pub given_other : (self : Source) (answers : Bor (List Answer)) (used : ℕ) (name : Name) (a : Answer) → self ≡ Given answers used → slice_get answers.now used ≡ Some a → (a.name ≡ name → ⊥) →
    Went self (Given answers used) [] × Stops (Given answers used) name
unfolding Stops
given_other self answers used name a e some other = (
  subst (λ (s : Source). Went s (Given answers used) []) (sym e) (went_nothing (Given answers used)),
  λ answer there same. other (let is : a ≡ answer = cc in ap (λ (x : Answer). x.name) is ∙ same),
)

given_taken_from : (answers : Bor (List Answer)) (used : ℕ) (name : Name) (a : Answer) (w : ℤ) → slice_get answers.now used ≡ Some a → a.name ≡ name → w ≡ a.value →
    Went (Given answers used) (Given answers (used + 1)) ((name, w) ∷ [])
unfolding setting_of taken_of IsSound
given_taken_from answers used name a w some same v =
    let within : used < length answers.now = slice_get_within answers.now used a some in
    let at : a ≡ get_or answers.now used a = sym (get_or_from_slice_get answers.now used a a some) in
    let more = ap pairs (take_one_more answers.now used a within at) ∙ map-append (λ (x : Answer). (x.name, x.value)) (take used answers.now) (a ∷ []) in
    let pair : pairs (a ∷ []) ≡ (name, w) ∷ [] = λ i. (same i, sym v i) ∷ [] in
    record { setting = refl; taken = more ∙ ap (λ t. pairs (take used answers.now) ++ t) pair; sound = λ h. omega arith }

pub given_taken : (self : Source) (answers : Bor (List Answer)) (used : ℕ) (name : Name) (a : Answer) (w : ℤ) → self ≡ Given answers used → slice_get answers.now used ≡ Some a → a.name ≡ name → w ≡ a.value →
    Went self (Given answers (used + 1)) ((name, w) ∷ [])
given_taken self answers used name a w e some same v = subst (λ (s : Source). Went s (Given answers (used + 1)) ((name, w) ∷ [])) (sym e) (given_taken_from answers used name a w some same v)

constant_taken_from : (names : Bor (List Name)) (values : Bor (List ℤ)) (taken more : List Answer) (name : Name) (a : Answer) (w : ℤ) →
    more ≡ taken ++ a ∷ [] → a.name ≡ name → a.value ≡ w → w ≡ word_of names.now values.now name → Went (Constant names values taken) (Constant names values more) ((name, w) ∷ [])
unfolding setting_of taken_of IsSound
constant_taken_from names values taken more name a w put same v word =
    let all : pairs more ≡ pairs taken ++ pairs (a ∷ []) = ap pairs put ∙ map-append (λ (x : Answer). (x.name, x.value)) taken (a ∷ []) in
    let pair : pairs (a ∷ []) ≡ (name, w) ∷ [] = λ i. (same i, v i) ∷ [] in
    let is : pairs more ≡ pairs taken ++ (name, w) ∷ [] = all ∙ ap (λ t. pairs taken ++ t) pair in
    record {
      setting = refl;
      taken = is;
      sound = λ h. subst (AreFrom (word_of names.now values.now)) (sym is) (AreFrom-append (word_of names.now values.now) (pairs taken) ((name, w) ∷ []) h (word, tt));
    }

pub constant_taken : (self : Source) (names : Bor (List Name)) (values : Bor (List ℤ)) (taken more : List Answer) (name : Name) (a : Answer) (w : ℤ) → self ≡ Constant names values taken →
    more ≡ taken ++ a ∷ [] → a.name ≡ name → a.value ≡ w → w ≡ word_of names.now values.now name → Went self (Constant names values more) ((name, w) ∷ [])
constant_taken self names values taken more name a w e put same v word =
    subst (λ (s : Source). Went s (Constant names values more) ((name, w) ∷ [])) (sym e) (constant_taken_from names values taken more name a w put same v word)

pub constant_left : (self : Source) (names : Bor (List Name)) (values : Bor (List ℤ)) (taken more : List Answer) (name : Name) → self ≡ Constant names values taken →
    more ≡ taken → Went self (Constant names values more) [] × Stops (Constant names values more) name
unfolding Stops
constant_left self names values taken more name e put =
    (subst (λ (s : Source). Went s (Constant names values more) []) (sym e) (subst (λ (t : List Answer). Went (Constant names values taken) (Constant names values t) []) (sym put) (went_nothing (Constant names values taken))), tt)

used_given_own : (answers : Bor (List Answer)) (used : ℕ) → IsSound (Given answers used) → used ≡ length (taken_of (Given answers used))
unfolding taken_of IsSound
used_given_own answers used h =
    let a : length (pairs (take used answers.now)) ≡ length (take used answers.now) = length-map (take used answers.now) (λ (x : Answer). (x.name, x.value)) in
    let b : length (take used answers.now) ≡ min used (length answers.now) = length-take used answers.now in
    let c : used ≤ length answers.now = h in
    omega arith

pub used_given : (self : Source) (answers : Bor (List Answer)) (used : ℕ) → self ≡ Given answers used → IsSound self → used ≡ length (taken_of self)
used_given self answers used e = subst (λ (s : Source). IsSound s → used ≡ length (taken_of s)) (sym e) (used_given_own answers used)

used_constant_own : (names : Bor (List Name)) (values : Bor (List ℤ)) (taken : List Answer) → length taken ≡ length (taken_of (Constant names values taken))
unfolding taken_of
used_constant_own names values taken = sym (length-map taken (λ (x : Answer). (x.name, x.value)))

pub used_constant : (self : Source) (names : Bor (List Name)) (values : Bor (List ℤ)) (taken : List Answer) → self ≡ Constant names values taken → length taken ≡ length (taken_of self)
used_constant self names values taken e = subst (λ (s : Source). length taken ≡ length (taken_of s)) (sym e) (used_constant_own names values taken)

taken_constant_own : (names : Bor (List Name)) (values : Bor (List ℤ)) (taken : List Answer) → pairs taken ≡ taken_of (Constant names values taken)
unfolding taken_of
taken_constant_own names values taken = refl

pub taken_constant : (self : Source) (names : Bor (List Name)) (values : Bor (List ℤ)) (taken : List Answer) → self ≡ Constant names values taken → pairs taken ≡ taken_of self
taken_constant self names values taken e = subst (λ (s : Source). pairs taken ≡ taken_of s) (sym e) (taken_constant_own names values taken)
