-- A state with numbers of any size, from its line.
use Rattle.std.proofs.Common.{◌≡◌, ◌⊎◌, inl, inr, ◌↔◌, ℕ, ◌<◌, ◌≤◌, ◌^◌, Bool, List, [], ◌∷◌, ◌++◌, length, refl, sym, ap, ◌∙◌, subst, arith, IsTrue, length-append}
use Rattle.std.specs.Prelude.{codes}
use Rattle.std.specs.List.{All, flat_map}
use Rattle.std.specs.Fmt.{decimal}
use Rattle.std.proofs.lemmas.List.{append-nil}
use Rattle.std.proofs.lemmas.List.Elements.{All-nil, All-cons, All-head, All-tail}
use Rattle.vmv_witness.specs.Numbers.{IsNumber}
use Rattle.vmv_witness.specs.Reading.{lacks}
use Rattle.vmv_proof_words.specs.Words.{Word, words_of}
use Rattle.vmv_proof_words.specs.Taking.{IsOneNumber}
use Rattle.vmv_proof_words.proofs.Splitting.{Clean, spaced_words, words_of_line, line_of_words}
use Rattle.vmv_proof_text.specs.Text.{spaced}
use Rattle.vmv_proof_text.specs.Loose.{Digits, SpelledBound, AreNumbers, Precedes, AreSorted, IsLess, spelled_bound}
use Rattle.vmv_proof_line.specs.StateWords.{Climb, counted}
use Rattle.vmv_proof_line.specs.LooseWords.{IsVariable, NextBound, things_of, spelled_triple, spelled_mark, AreLooseBounds, AreLooseMarks, AreTakenLoosely, NoBoundsLoosely, AreLastMarks, IsToldLooselyBy, IsStateLooselyBy, IsStateLineLoosely}
use Rattle.vmv_proof_line.proofs.Fields.{tails, behind, number_clean}
use Rattle.vmv_proof_line.proofs.LooseLoops.{second_number, triple_once, triple_some, left_behind}
use Rattle.vmv_proof_line.proofs.StateTold.{append_clean, decimal_clean, other_first, spaced_list, told_spaced, bottom_bytes}

-- numbers that follow each other, as a list is sorted
chain : {P A : Type 0} (Good : A → Type 0) (Empty : P → Type 0) (Before : P → A → Type 0) (at : A → P) (x : A) (xs : List A) → All Good (x ∷ xs) → AreSorted (λ a b. Before (at a) b) (x ∷ xs)
    → Climb (λ p b. Good b × (Empty p ⊎ Before p b)) at (at x) xs
chain Good Empty Before at x [] g s = tt
chain Good Empty Before at x (y ∷ ys) g s =
    let rest = All-tail Good x (y ∷ ys) g in
    ((All-head Good y ys rest, inr s.0), chain Good Empty Before at y ys rest s.1)

whole_chain : {P A : Type 0} (Good : A → Type 0) (Empty : P → Type 0) (Before : P → A → Type 0) (at : A → P) (p : P) (xs : List A) → Empty p → All Good xs → AreSorted (λ a b. Before (at a) b) xs
    → Climb (λ p b. Good b × (Empty p ⊎ Before p b)) at p xs
whole_chain Good Empty Before at p [] e g s = tt
whole_chain Good Empty Before at p (x ∷ xs) e g s = ((All-head Good x xs g, inl e), chain Good Empty Before at x xs g s)

all_good : {P A : Type 0} (Good : A → Type 0) (Empty : P → Type 0) (Before : P → A → Type 0) (at : A → P) (p : P) (xs : List A) → Climb (λ p b. Good b × (Empty p ⊎ Before p b)) at p xs → All Good xs
all_good Good Empty Before at p [] c = All-nil Good
all_good Good Empty Before at p (x ∷ xs) c = All-cons Good x xs c.0.0 (all_good Good Empty Before at (at x) xs c.1)

not_empty : {P A : Type 0} (Empty : P → Type 0) (Before : P → A → Type 0) (p : P) (x : A) → (Empty p → ⊥) → Empty p ⊎ Before p x → Before p x
not_empty Empty Before p x never (inl e) = absurd (never e)
not_empty Empty Before p x never (inr b) = b

unchain : {P A : Type 0} (Good : A → Type 0) (Empty : P → Type 0) (Before : P → A → Type 0) (at : A → P) → ((x : A) → Good x → Empty (at x) → ⊥) → (x : A) (xs : List A) → Good x
    → Climb (λ p b. Good b × (Empty p ⊎ Before p b)) at (at x) xs → AreSorted (λ a b. Before (at a) b) (x ∷ xs)
unchain Good Empty Before at never x [] g c = tt
unchain Good Empty Before at never x (y ∷ ys) g c = (not_empty Empty Before (at x) y (never x g) c.0.1, unchain Good Empty Before at never y ys c.0.0 c.1)

sorted : {P A : Type 0} (Good : A → Type 0) (Empty : P → Type 0) (Before : P → A → Type 0) (at : A → P) → ((x : A) → Good x → Empty (at x) → ⊥) → (p : P) (xs : List A)
    → Climb (λ p b. Good b × (Empty p ⊎ Before p b)) at p xs → AreSorted (λ a b. Before (at a) b) xs
sorted Good Empty Before at never p [] c = tt
sorted Good Empty Before at never p (x ∷ xs) c = unchain Good Empty Before at never x xs c.0.0 c.1

some_digit : (w : Word) → IsNumber w → w ≡ [] → ⊥
some_digit w (inl natural) e = omega (arith, natural.1, ap length e)
some_digit w (inr (ds, f, natural, some)) e = let both : 45 ∷ ds ≡ [] = sym f ∙ e in cc

abbrev first_empty : Digits × Digits → Type 0
first_empty p = p.0 ≡ []

abbrev bound_before : Digits × Digits → SpelledBound → Type 0
bound_before p b = IsLess p.0 b.0 ⊎ ((p.0 ≡ b.0) × IsLess p.1 b.1)

bounds_climb : (bounds : List SpelledBound) → All AreNumbers bounds → AreSorted Precedes bounds → AreLooseBounds bounds
bounds_climb bounds g s = whole_chain AreNumbers first_empty bound_before things_of ([], []) bounds refl g s

bounds_numbers : (bounds : List SpelledBound) → AreLooseBounds bounds → All AreNumbers bounds
bounds_numbers bounds c = all_good AreNumbers first_empty bound_before things_of ([], []) bounds c

bounds_sorted : (bounds : List SpelledBound) → AreLooseBounds bounds → AreSorted Precedes bounds
bounds_sorted bounds c = sorted AreNumbers first_empty bound_before things_of (λ b h e. some_digit b.0 h.first e) ([], []) bounds c

abbrev none_yet : Digits → Type 0
none_yet p = p ≡ []

marks_climb : (marks : List Digits) → All IsVariable marks → AreSorted IsLess marks → AreLooseMarks marks
marks_climb marks g s = whole_chain IsVariable none_yet IsLess (λ m. m) [] marks refl g s

marks_good : (marks : List Digits) → AreLooseMarks marks → All IsVariable marks
marks_good marks c = all_good IsVariable none_yet IsLess (λ m. m) [] marks c

marks_sorted : (marks : List Digits) → AreLooseMarks marks → AreSorted IsLess marks
marks_sorted marks c = sorted IsVariable none_yet IsLess (λ m. m) (λ m h e. some_digit m h.0 e) [] marks c

-- the words behind `vars`
abbrev rest_words : List Digits → List Word
rest_words marks = codes "nonzero" ∷ counted spelled_mark marks

behind_number : (begin mid first : List Word) (w : Word) (h : IsToldLooselyBy begin) → begin ≡ w ∷ mid → mid ≡ codes "bounds" ∷ first → first ≡ counted spelled_triple h.bounds ++ rest_words h.marks
behind_number begin mid first w h e f =
    let s = second_number begin mid w e h.vars (codes "bounds" ∷ (counted spelled_triple h.bounds ++ rest_words h.marks)) h.same in
    tails (codes "bounds") (codes "bounds") first (counted spelled_triple h.bounds ++ rest_words h.marks) (sym f ∙ s.1)

pub no_number : (begin : List Word) → ((w : Word) (rest : List Word) → IsNumber w → begin ≡ w ∷ rest → ⊥) → IsToldLooselyBy begin → ⊥
no_number begin none h = none h.vars (codes "bounds" ∷ (counted spelled_triple h.bounds ++ rest_words h.marks)) h.number h.same

pub no_bounds_word : (begin mid : List Word) (w : Word) → begin ≡ w ∷ mid → ((rest : List Word) → mid ≡ codes "bounds" ∷ rest → ⊥) → IsToldLooselyBy begin → ⊥
no_bounds_word begin mid w e none h =
    let s = second_number begin mid w e h.vars (codes "bounds" ∷ (counted spelled_triple h.bounds ++ rest_words h.marks)) h.same in
    none (counted spelled_triple h.bounds ++ rest_words h.marks) s.1

pub no_bounds : (begin mid first : List Word) (w : Word) → begin ≡ w ∷ mid → mid ≡ codes "bounds" ∷ first → NoBoundsLoosely first → IsToldLooselyBy begin → ⊥
no_bounds begin mid first w e f none h = none h.bounds (rest_words h.marks) h.sorted_bounds (behind_number begin mid first w h e f)

behind_bounds : (begin mid first last : List Word) (w : Word) → length first < 2 ^ 64 → begin ≡ w ∷ mid → mid ≡ codes "bounds" ∷ first → AreTakenLoosely first last → (h : IsToldLooselyBy begin) → last ≡ rest_words h.marks
behind_bounds begin mid first last w small e f taken h =
    left_behind NextBound things_of spelled_triple triple_once triple_some ([], []) first last (rest_words h.marks) taken.bounds h.bounds small taken.sorted taken.words h.sorted_bounds (behind_number begin mid first w h e f)

pub no_marks_word : (begin mid first last : List Word) (w : Word) → length first < 2 ^ 64 → begin ≡ w ∷ mid → mid ≡ codes "bounds" ∷ first → AreTakenLoosely first last → ((rest : List Word) → last ≡ codes "nonzero" ∷ rest → ⊥) → IsToldLooselyBy begin → ⊥
no_marks_word begin mid first last w small e f taken none h = none (counted spelled_mark h.marks) (behind_bounds begin mid first last w small e f taken h)

pub all_loose : (begin mid first last end : List Word) (w : Word) (b : Bool) → length first < 2 ^ 64 → IsNumber w → begin ≡ w ∷ mid → mid ≡ codes "bounds" ∷ first → AreTakenLoosely first last → last ≡ codes "nonzero" ∷ end
    → (IsTrue b ↔ AreLastMarks end) → IsTrue b ↔ IsToldLooselyBy begin
all_loose begin mid first last end w b small n e f taken g k = (to, from)
  where
    to : IsTrue b → IsToldLooselyBy begin
    to t =
        let m = k.0 t in
        record {
          vars = w;
          bounds = taken.bounds;
          marks = m.0;
          number = n;
          sorted_bounds = taken.sorted;
          sorted_marks = m.1;
          same = e ∙ ap (λ l. w ∷ l) (f ∙ ap (λ l. codes "bounds" ∷ l) (taken.words ∙ ap (λ l. counted spelled_triple taken.bounds ++ l) (g ∙ ap (λ l. codes "nonzero" ∷ l) m.2)));
        }

    from : IsToldLooselyBy begin → IsTrue b
    from h =
        k.1 (h.marks, h.sorted_marks, tails (codes "nonzero") (codes "nonzero") end (counted spelled_mark h.marks) (sym g ∙ behind_bounds begin mid first last w small e f taken h))

pub bottom_loose : (old new : List Word) (word : Word) (b : Bool) → old ≡ word ∷ new → word ≡ codes "bottom" → (IsTrue b ↔ IsOneNumber new) → IsTrue b ↔ IsStateLooselyBy old
bottom_loose old new word b e f k = (to, from)
  where
    whole : old ≡ codes "bottom" ∷ new
    whole = e ∙ ap (λ w. w ∷ new) f

    to : IsTrue b → IsStateLooselyBy old
    to t = let one = k.0 t in inl (one.0, one.1, whole ∙ ap (λ l. codes "bottom" ∷ l) one.2)

    from : IsStateLooselyBy old → IsTrue b
    from (inl (v, n, g)) = k.1 (v, n, tails (codes "bottom") (codes "bottom") new (v ∷ []) (sym whole ∙ g))
    from (inr (rest, h, g)) = absurd (other_first (codes "bottom") (codes "vars") new rest (sym whole ∙ g) (λ s. omega arith))

pub vars_loose : (old new : List Word) (word : Word) (b : Bool) → old ≡ word ∷ new → word ≡ codes "vars" → (IsTrue b ↔ IsToldLooselyBy new) → IsTrue b ↔ IsStateLooselyBy old
vars_loose old new word b e f k = (to, from)
  where
    whole : old ≡ codes "vars" ∷ new
    whole = e ∙ ap (λ w. w ∷ new) f

    to : IsTrue b → IsStateLooselyBy old
    to t = inr (new, k.0 t, whole)

    from : IsStateLooselyBy old → IsTrue b
    from (inl (v, n, g)) = absurd (other_first (codes "vars") (codes "bottom") new (v ∷ []) (sym whole ∙ g) (λ s. omega arith))
    from (inr (rest, h, g)) = k.1 (subst IsToldLooselyBy (sym (tails (codes "vars") (codes "vars") new rest (sym whole ∙ g))) h)

-- by bytes and by words
triple_spaced : (b : SpelledBound) → spaced_words (spelled_triple b) ≡ spelled_bound b
triple_spaced b = ap (λ t. spaced b.0 ++ (spaced b.1 ++ t)) (append-nil (spaced b.2))

mark_spaced : (m : Digits) → spaced_words (spelled_mark m) ≡ spaced m
mark_spaced m = append-nil (spaced m)

abbrev loose_text : Digits → List SpelledBound → List Digits → List ℕ
loose_text vars bounds marks =
    codes " vars " ++ (vars ++ (codes " bounds " ++ (decimal (length bounds) ++ (flat_map spelled_bound bounds ++ (codes " nonzero " ++ (decimal (length marks) ++ flat_map spaced marks))))))

abbrev loose_words : Digits → List SpelledBound → List Digits → List Word
loose_words vars bounds marks = vars ∷ codes "bounds" ∷ (counted spelled_triple bounds ++ rest_words marks)

loose_bytes : (vars : Digits) (bounds : List SpelledBound) (marks : List Digits) → spaced_words (codes "vars" ∷ loose_words vars bounds marks) ≡ loose_text vars bounds marks
loose_bytes vars bounds marks =
    let bs = spaced_list spelled_triple spelled_bound triple_spaced bounds in
    let ms = spaced_list spelled_mark spaced mark_spaced marks in
    told_spaced vars (decimal (length bounds)) (decimal (length marks)) (flat_map spelled_triple bounds) (flat_map spelled_mark marks)
    ∙ (λ i. codes " vars " ++ (vars ++ (codes " bounds " ++ (decimal (length bounds) ++ (bs i ++ (codes " nonzero " ++ (decimal (length marks) ++ ms i)))))))

pub words_loose : (line word : List ℕ) (words : List Word) → words_of line ≡ word ∷ words → IsStateLooselyBy words → IsStateLineLoosely word line
words_loose line word words e (inl (v, n, k)) =
    (codes " bottom " ++ v, line_of_words line word words e ∙ ap (λ t. word ++ t) (ap spaced_words k ∙ bottom_bytes v), inl (v, n, refl))
words_loose line word words e (inr (rest, h, k)) =
    let good = marks_good h.marks h.sorted_marks in (
      loose_text h.vars h.bounds h.marks,
      line_of_words line word words e ∙ ap (λ t. word ++ t) (ap spaced_words k ∙ (ap (λ t. spaced_words (codes "vars" ∷ t)) h.same ∙ loose_bytes h.vars h.bounds h.marks)),
      inr (record {
        vars = h.vars;
        bounds = h.bounds;
        marks = h.marks;
        vars_number = h.number;
        bounds_numbers = bounds_numbers h.bounds h.sorted_bounds;
        bounds_sorted = bounds_sorted h.bounds h.sorted_bounds;
        marks_numbers = λ k d i. (good k d i).0;
        marks_sorted = marks_sorted h.marks h.sorted_marks;
        marks_variables = λ k d i. (good k d i).1;
        same = refl;
      }),
    )

list_clean : {A : Type 0} (Good : A → Type 0) (show : A → List Word) → ((x : A) → Good x → Clean (show x)) → (xs : List A) → All Good xs → Clean (flat_map show xs)
list_clean Good show h [] g = tt
list_clean Good show h (x ∷ xs) g = append_clean (show x) (flat_map show xs) (h x (All-head Good x xs g)) (list_clean Good show h xs (All-tail Good x xs g))

bytes_many : {A : Type 0} (text : A → List ℕ) → ((x : A) → 1 ≤ length (text x)) → (xs : List A) → length xs ≤ length (flat_map text xs)
bytes_many text h [] = omega arith
bytes_many text h (x ∷ xs) = omega (arith, h x, bytes_many text h xs, length-append (text x) (flat_map text xs))

spelled_some : (b : SpelledBound) → 1 ≤ length (spelled_bound b)
spelled_some b = omega arith

spaced_some : (m : Digits) → 1 ≤ length (spaced m)
spaced_some m = omega arith

text_long : (vars : Digits) (bounds : List SpelledBound) (marks : List Digits) → (length bounds ≤ length (loose_text vars bounds marks)) × (length marks ≤ length (loose_text vars bounds marks))
text_long vars bounds marks =
    let marks_text = codes " nonzero " ++ (decimal (length marks) ++ flat_map spaced marks) in
    let bounds_text = codes " bounds " ++ (decimal (length bounds) ++ (flat_map spelled_bound bounds ++ marks_text)) in
    let a = length-append vars bounds_text in
    let b = length-append (decimal (length bounds)) (flat_map spelled_bound bounds ++ marks_text) in
    let d = length-append (flat_map spelled_bound bounds) marks_text in
    let e = length-append (decimal (length marks)) (flat_map spaced marks) in
    let f = bytes_many spelled_bound spelled_some bounds in
    let g = bytes_many spaced spaced_some marks in
    (omega (arith, a, b, d, e, f, g), omega (arith, a, b, d, e, f, g))

line_long : (line word bytes : List ℕ) → line ≡ word ++ bytes → length bytes ≤ length line
line_long line word bytes e = omega (arith, ap length e, length-append word bytes)

loose_clean : (vars : Digits) (bounds : List SpelledBound) (marks : List Digits) → length bounds < 2 ^ 64 → length marks < 2 ^ 64 → IsNumber vars → All AreNumbers bounds → All IsVariable marks → Clean (codes "vars" ∷ loose_words vars bounds marks)
loose_clean vars bounds marks few_bounds few_marks n g k = (
  refl,
  (
    number_clean vars n,
    (
      refl,
      append_clean (counted spelled_triple bounds) (rest_words marks)
          (decimal_clean (length bounds) few_bounds, list_clean AreNumbers spelled_triple (λ b h. (number_clean b.0 h.first, (number_clean b.1 h.second, (number_clean b.2 h.bound, tt)))) bounds g)
          (refl, (decimal_clean (length marks) few_marks, list_clean IsVariable spelled_mark (λ m h. (number_clean m h.0, tt)) marks k)),
    ),
  ),
)

pub loose_line : (line word : List ℕ) → length line < 2 ^ 64 → IsTrue (lacks 32 word) → IsStateLineLoosely word line → (words : List Word) × (words_of line ≡ word ∷ words) × IsStateLooselyBy words
loose_line line word small clean (bytes, e, inl (v, n, k)) =
    let words : List Word = codes "bottom" ∷ v ∷ [] in
    (words, ap words_of (e ∙ ap (λ t. word ++ t) (k ∙ sym (bottom_bytes v))) ∙ words_of_line word words clean (refl, (number_clean v n, tt)), inl (v, n, refl))
loose_line line word small clean (bytes, e, inr h) =
    let good : All IsVariable h.marks = λ k d i. (h.marks_numbers k d i, h.marks_variables k d i) in
    let long = text_long h.vars h.bounds h.marks in
    let words : List Word = codes "vars" ∷ loose_words h.vars h.bounds h.marks in (
      words,
      ap words_of (e ∙ ap (λ t. word ++ t) (h.same ∙ sym (loose_bytes h.vars h.bounds h.marks)))
          ∙ words_of_line word words clean
          (loose_clean h.vars h.bounds h.marks (omega (arith, small, long.0, line_long line word bytes e, ap length h.same)) (omega (arith, small, long.1, line_long line word bytes e, ap length h.same)) h.vars_number h.bounds_numbers good),
      inr (
        loose_words h.vars h.bounds h.marks,
        record {
          vars = h.vars;
          bounds = h.bounds;
          marks = h.marks;
          number = h.vars_number;
          sorted_bounds = bounds_climb h.bounds h.bounds_numbers h.bounds_sorted;
          sorted_marks = marks_climb h.marks good h.marks_sorted;
          same = refl;
        },
        refl,
      ),
    )

pub no_loose_line : (line word : List ℕ) → length line < 2 ^ 64 → IsTrue (lacks 32 word) → ((words : List Word) → words_of line ≡ word ∷ words → ⊥) → IsStateLineLoosely word line → ⊥
no_loose_line line word small clean none h = let r = loose_line line word small clean h in none r.0 r.1

pub line_loosely : (line word : List ℕ) (words : List Word) (b : Bool) → length line < 2 ^ 64 → IsTrue (lacks 32 word) → words_of line ≡ word ∷ words → (IsTrue b ↔ IsStateLooselyBy words) → IsTrue b ↔ IsStateLineLoosely word line
line_loosely line word words b small clean e k =
    (λ t. words_loose line word words e (k.0 t), λ h. let r = loose_line line word small clean h in k.1 (subst IsStateLooselyBy (sym (behind line word words r.0 e r.1)) r.2))

many_words : (words : List Word) → length words ≤ length (spaced_words words)
many_words [] = omega arith
many_words (w ∷ ws) = omega (arith, many_words ws, length-append (32 ∷ w) (spaced_words ws))

-- a line has no more words than bytes
pub few_words : (line word : List ℕ) (words : List Word) → length line < 2 ^ 64 → words_of line ≡ word ∷ words → length words < 2 ^ 64
few_words line word words small e = omega (arith, small, many_words words, ap length (line_of_words line word words e), length-append word (spaced_words words))
