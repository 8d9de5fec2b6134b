-- A state, from what stands behind the first word of its line.
use Rattle.std.proofs.Common.{◌≡◌, ◌⊎◌, inl, inr, ℕ, zero, suc, ◌+◌, ◌<◌, ◌≤◌, ◌^◌, true, false, List, [], ◌∷◌, ◌++◌, get_or, length, refl, sym, ap, ◌∙◌, subst, arith, IsTrue, append_assoc}
use Rattle.std.specs.Prelude.{Option, Some, None, codes}
use Rattle.std.specs.List.{flat_map}
use Rattle.std.specs.Fmt.{decimal, signed_decimal}
use Rattle.std.proofs.lemmas.Bool.{cases_Bool}
use Rattle.std.proofs.lemmas.List.{append-nil}
use Rattle.std.proofs.lemmas.List.Concat.{flat_map-append}
use Rattle.vmv_zone.specs.declared.zone.Zone.{Zone}
use Rattle.vmv_zone.specs.Zone.{vars_of, bound_of, mark_of}
use Rattle.std.proofs.Common.{pos}
use Rattle.std.proofs.lemmas.Int.{ints}
use Rattle.vmv_zone.proofs.PointStates.{point_state}
use Rattle.vmv_witness.specs.Reading.{lacks}
use Rattle.vmv_proof_words.specs.Words.{Word, words_of}
use Rattle.vmv_proof_words.specs.Taking.{Tells}
use Rattle.vmv_proof_words.proofs.Splitting.{Clean, spaced_words, words_of_line, line_of_words}
use Rattle.vmv_proof_words.proofs.Digits.{natural_once, natural_number, bound_number}
use Rattle.vmv_proof_text.specs.States.{Bound, marked_things, marked_variables}
use Rattle.vmv_proof_text.specs.Naming.{IsNaming}
use Rattle.vmv_proof_text.specs.Lines.{IsStateLine}
use Rattle.vmv_proof_text.specs.Text.{spaced, bound_words, variable_word, told_state, marks_text}
use Rattle.vmv_proof_line.specs.StateWords.{Climb, IsThingWord, IsNext, IsNextMark, place_of, bound_triple, mark_word, AreBounds, AreMarks, AreTaken, NoBounds, LastMarks, NoMarks, counted, told_words, IsToldWords, TellsTold, IsStateWords, TellsState}
use Rattle.vmv_proof_line.proofs.Fields.{tails, behind, number_clean}
use Rattle.vmv_proof_line.proofs.Climbing.{last_of, climb_more, last_more, all_left}
use Rattle.vmv_proof_line.proofs.StateNaming.{naming_climbs, bounds_few, marks_few, bound_told_once, same_thing}
use Rattle.vmv_proof_line.proofs.StateLoops.{thing_marked, thing_unmarked}

marks_climb : (z : Zone) (n : ℕ) → n ≤ vars_of z → Climb (IsNextMark (vars_of z)) (λ m. m) 0 (marked_things z n) × (last_of (λ m. m) 0 (marked_things z n) ≤ n)
marks_climb z zero h = (tt, omega arith)
marks_climb z (suc n) h = by (marks_climb z n (omega (arith, h))) (cases_Bool (mark_of z (n + 1)))
  where
    by : Climb (IsNextMark (vars_of z)) (λ m. m) 0 (marked_things z n) × (last_of (λ m. m) 0 (marked_things z n) ≤ n) → (mark_of z (n + 1) ≡ true) ⊎ (mark_of z (n + 1) ≡ false)
        → Climb (IsNextMark (vars_of z)) (λ m. m) 0 (marked_things z (suc n)) × (last_of (λ m. m) 0 (marked_things z (suc n)) ≤ suc n)
    by r (inl t) =
        let ms = marked_things z n in
        subst (λ ms. Climb (IsNextMark (vars_of z)) (λ m. m) 0 ms × (last_of (λ m. m) 0 ms ≤ suc n)) (ap (λ t. ms ++ t) (sym (thing_marked z (n + 1) t)))
        (climb_more (IsNextMark (vars_of z)) (λ m. m) 0 ms (n + 1) r.0 (omega (arith, r.1), omega (arith, h)), omega (arith, last_more (λ m. m) 0 ms (n + 1)))
    by r (inr f) =
        let ms = marked_things z n in
        subst (λ ms. Climb (IsNextMark (vars_of z)) (λ m. m) 0 ms × (last_of (λ m. m) 0 ms ≤ suc n)) (sym (ap (λ t. ms ++ t) (thing_unmarked z (n + 1) f) ∙ append-nil ms))
        (r.0, omega (arith, r.1))

-- the marks of a state can be read
pub state_marks : (z : Zone) → AreMarks (vars_of z) (marked_variables z)
state_marks z = (marks_climb z (vars_of z) (omega arith)).0

abbrev marks_words : Zone → List Word
marks_words z = codes "nonzero" ∷ counted mark_word (marked_variables z)

behind_vars : (z : Zone) (begin mid first : List Word) (w : Word) (v : ℕ) (h : IsToldWords z begin) → IsThingWord 16 v w → begin ≡ w ∷ mid → mid ≡ codes "bounds" ∷ first
    → (vars_of z ≡ v) × (first ≡ counted bound_triple h.bounds ++ marks_words z)
behind_vars z begin mid first w v h t e f =
    let s = same_thing begin mid (codes "bounds" ∷ (counted bound_triple h.bounds ++ marks_words z)) w 16 v (vars_of z) (omega arith) t e h.few h.same in
    (s.0, tails (codes "bounds") (codes "bounds") first (counted bound_triple h.bounds ++ marks_words z) (sym f ∙ s.1))

state_bounds : (z : Zone) (words : List Word) (v : ℕ) (h : IsToldWords z words) → vars_of z ≡ v → AreBounds v h.bounds
state_bounds z words v h e = subst (λ k. AreBounds k h.bounds) e (naming_climbs z h.bounds h.few h.naming)

pub no_vars : (begin : List Word) → ((v : ℕ) (w : Word) (rest : List Word) → IsThingWord 16 v w → begin ≡ w ∷ rest → ⊥) → (z : Zone) → IsToldWords z begin → ⊥
no_vars begin none z h = none (vars_of z) (decimal (vars_of z)) _ (h.few, refl) h.same

pub no_bounds_word : (begin mid : List Word) (w : Word) (v : ℕ) → IsThingWord 16 v w → begin ≡ w ∷ mid → ((rest : List Word) → mid ≡ codes "bounds" ∷ rest → ⊥) → (z : Zone) → IsToldWords z begin → ⊥
no_bounds_word begin mid w v t e none z h =
    let s = same_thing begin mid (codes "bounds" ∷ (counted bound_triple h.bounds ++ marks_words z)) w 16 v (vars_of z) (omega arith) t e h.few h.same in
    none (counted bound_triple h.bounds ++ marks_words z) s.1

pub no_bounds : (top : Zone) (begin mid first : List Word) (w : Word) (v : ℕ) → IsThingWord 16 v w → begin ≡ w ∷ mid → mid ≡ codes "bounds" ∷ first → vars_of top ≡ v → NoBounds (vars_of top) first
    → (z : Zone) → IsToldWords z begin → ⊥
no_bounds top begin mid first w v t e f g none z h =
    let s = behind_vars z begin mid first w v h t e f in
    none h.bounds (marks_words z) (state_bounds z begin (vars_of top) h (s.0 ∙ sym g)) s.1

behind_bounds : (top zone : Zone) (begin mid first last : List Word) (w : Word) (v : ℕ) → IsThingWord 16 v w → begin ≡ w ∷ mid → mid ≡ codes "bounds" ∷ first → vars_of top ≡ v → AreTaken first last top zone
    → (z : Zone) → IsToldWords z begin → last ≡ marks_words z
behind_bounds top zone begin mid first last w v t e f g taken z h =
    let s = behind_vars z begin mid first w v h t e f in
    let mine : AreBounds v taken.bounds = subst (λ k. AreBounds k taken.bounds) (taken.vars ∙ g) (naming_climbs zone taken.bounds (omega (arith, taken.vars, g, t.0)) taken.naming) in
    let others : AreBounds v h.bounds = state_bounds z begin v h s.0 in
    let both : decimal (length taken.bounds) ∷ (flat_map bound_triple taken.bounds ++ last) ≡ decimal (length h.bounds) ∷ (flat_map bound_triple h.bounds ++ marks_words z) = sym taken.words ∙ s.1 in
    let number : decimal (length taken.bounds) ≡ decimal (length h.bounds) = cc in
    let few_mine = bounds_few v taken.bounds t.0 mine in
    let few_others = bounds_few v h.bounds t.0 others in
    let many = natural_once (length taken.bounds) (length h.bounds) (decimal (length h.bounds)) (omega (arith, few_mine), sym number) (omega (arith, few_others), refl) in
    all_left (IsNext v) place_of bound_triple (bound_told_once v t.0) 0 taken.bounds h.bounds last (marks_words z) mine others many
    (tails (decimal (length taken.bounds)) (decimal (length h.bounds)) (flat_map bound_triple taken.bounds ++ last) (flat_map bound_triple h.bounds ++ marks_words z) both)

pub no_marks_word : (top zone : Zone) (begin mid first last : List Word) (w : Word) (v : ℕ) → IsThingWord 16 v w → begin ≡ w ∷ mid → mid ≡ codes "bounds" ∷ first → vars_of top ≡ v → AreTaken first last top zone
    → ((rest : List Word) → last ≡ codes "nonzero" ∷ rest → ⊥) → (z : Zone) → IsToldWords z begin → ⊥
no_marks_word top zone begin mid first last w v t e f g taken none z h =
    none (counted mark_word (marked_variables z)) (behind_bounds top zone begin mid first last w v t e f g taken z h)

pub no_marks : (top zone : Zone) (begin mid first last end : List Word) (w : Word) (v : ℕ) → IsThingWord 16 v w → begin ≡ w ∷ mid → mid ≡ codes "bounds" ∷ first → vars_of top ≡ v → AreTaken first last top zone
    → last ≡ codes "nonzero" ∷ end → NoMarks (vars_of zone) end → (z : Zone) → IsToldWords z begin → ⊥
no_marks top zone begin mid first last end w v t e f g taken k none z h =
    let s = behind_vars z begin mid first w v h t e f in
    none (marked_variables z) (subst (λ n. AreMarks n (marked_variables z)) (s.0 ∙ (sym g ∙ sym taken.vars)) (state_marks z))
    (tails (codes "nonzero") (codes "nonzero") end (counted mark_word (marked_variables z)) (sym k ∙ behind_bounds top zone begin mid first last w v t e f g taken z h))

same_naming : (a b : Zone) (bounds : List Bound) → vars_of b ≡ vars_of a → ((i j : ℕ) → bound_of b i j ≡ bound_of a i j) → IsNaming a bounds → IsNaming b bounds
same_naming a b bounds e h n = record {
  sorted = n.sorted;
  each = λ x k. let was = n.each x k in record { first = omega (arith, was.first, e); second = omega (arith, was.second, e); other = was.other; same = was.same ∙ sym (h x.0 x.1) };
  others = λ i j p q none. h i j ∙ n.others i j (omega (arith, p, e)) (omega (arith, q, e)) none;
}

pub all_told : (top zone next : Zone) (begin mid first last end : List Word) (w : Word) (v : ℕ) → IsThingWord 16 v w → begin ≡ w ∷ mid → mid ≡ codes "bounds" ∷ first → vars_of top ≡ v → AreTaken first last top zone
    → last ≡ codes "nonzero" ∷ end → LastMarks end zone next → IsToldWords next begin
all_told top zone next begin mid first last end w v t e f g taken k marks =
    let vars : vars_of next ≡ v = marks.vars ∙ (taken.vars ∙ g) in
    record {
      few = omega (arith, vars, t.0);
      not_bottom = marks.bottom;
      bounds = taken.bounds;
      naming = same_naming zone next taken.bounds marks.vars marks.bounds taken.naming;
      same =
          e ∙ (ap (λ a. a ∷ mid) (t.1 ∙ ap decimal (sym vars)) ∙ ap (λ b. decimal (vars_of next) ∷ b)
          (f ∙ ap (λ b. codes "bounds" ∷ b) (taken.words ∙ ap (λ b. counted bound_triple taken.bounds ++ b) (k ∙ ap (λ b. codes "nonzero" ∷ b) marks.same))));
    }

pub other_first : (v w : Word) (vs ws : List Word) → v ∷ vs ≡ w ∷ ws → (get_or v 0 0 ≡ get_or w 0 0 → ⊥) → ⊥
other_first v w vs ws e h = h (ap (λ l. get_or (get_or l 0 []) 0 0) e)

-- the words behind `vars` tell the state
pub vars_tell : (old new : List Word) (word : Word) (r : Option Zone) → old ≡ word ∷ new → word ≡ codes "vars" → TellsTold new r → TellsState old r
vars_tell old new word (Some z) e f h = inr (new, h, e ∙ ap (λ w. w ∷ new) f)
vars_tell old new word None e f none = by
  where
    whole : codes "vars" ∷ new ≡ old
    whole = ap (λ w. w ∷ new) (sym f) ∙ sym e

    by : (z : Zone) → IsStateWords z old → ⊥
    by z (inl (w, h, k)) = other_first (codes "vars") (codes "bottom") new (w ∷ []) (whole ∙ k) (λ s. omega arith)
    by z (inr (rest, h, k)) = none z (subst (IsToldWords z) (sym (tails (codes "vars") (codes "vars") new rest (whole ∙ k))) h)

pub decimal_clean : (n : ℕ) → n < 2 ^ 64 → IsTrue (lacks 32 (decimal n))
decimal_clean n h = number_clean (decimal n) (natural_number n h)

pub append_clean : (xs ys : List Word) → Clean xs → Clean ys → Clean (xs ++ ys)
append_clean [] ys h k = k
append_clean (x ∷ xs) ys h k = (h.0, append_clean xs ys h.1 k)

list_clean : {A : Type 0} (Next : ℕ → A → Type 0) (at : A → ℕ) (show : A → List Word) → ((p : ℕ) (x : A) → Next p x → Clean (show x)) → (p : ℕ) (xs : List A) → Climb Next at p xs → Clean (flat_map show xs)
list_clean Next at show h p [] c = tt
list_clean Next at show h p (x ∷ xs) c = append_clean (show x) (flat_map show xs) (h p x c.0) (list_clean Next at show h (at x) xs c.1)

bounds_clean : (vars : ℕ) (bounds : List Bound) → vars ≤ 16 → AreBounds vars bounds → Clean (counted bound_triple bounds)
bounds_clean vars bounds small c = (
  decimal_clean (length bounds) (omega (arith, bounds_few vars bounds small c)),
  list_clean (IsNext vars) place_of bound_triple
      (λ p b h. (decimal_clean b.0 (omega (arith, small, h.first)), (decimal_clean b.1 (omega (arith, small, h.second)), (number_clean (signed_decimal b.2) (bound_number b.2 h.between), tt)))) 0 bounds c,
)

marks_clean : (vars : ℕ) (marks : List ℕ) → vars ≤ 16 → AreMarks vars marks → Clean (counted mark_word marks)
marks_clean vars marks small c = (
  decimal_clean (length marks) (omega (arith, marks_few vars marks small c)),
  list_clean (IsNextMark vars) (λ m. m) mark_word (λ p m h. (decimal_clean m (omega (arith, small, h.1)), tt)) 0 marks c,
)

told_clean : (z : Zone) (bounds : List Bound) → vars_of z ≤ 16 → IsNaming z bounds → Clean (codes "vars" ∷ told_words (vars_of z) bounds (marked_variables z))
told_clean z bounds small n = (
  refl,
  (
    decimal_clean (vars_of z) (omega (arith, small)),
    (
      refl,
      append_clean (counted bound_triple bounds) (marks_words z) (bounds_clean (vars_of z) bounds small (naming_climbs z bounds small n))
          (refl, marks_clean (vars_of z) (marked_variables z) small (state_marks z)),
    ),
  ),
)

pub spaced_list : {A : Type 0} (show : A → List Word) (text : A → List ℕ) → ((x : A) → spaced_words (show x) ≡ text x) → (xs : List A) → spaced_words (flat_map show xs) ≡ flat_map text xs
spaced_list show text h [] = refl
spaced_list show text h (x ∷ xs) =
    let more = spaced_list show text h xs in
    flat_map-append (λ word. 32 ∷ word) (show x) (flat_map show xs) ∙ (λ i. h x i ++ more i)

bound_spaced : (b : Bound) → spaced_words (bound_triple b) ≡ bound_words b
bound_spaced b = ap (λ t. spaced (decimal b.0) ++ (spaced (decimal b.1) ++ t)) (append-nil (spaced (signed_decimal b.2)))

mark_spaced : (m : ℕ) → spaced_words (mark_word m) ≡ variable_word m
mark_spaced m = append-nil (spaced (decimal m))

-- the words of a told state, with a space before each
pub told_spaced : (vars : Word) (n m : Word) (bs ms : List Word) → spaced_words (codes "vars" ∷ vars ∷ codes "bounds" ∷ n ∷ (bs ++ codes "nonzero" ∷ m ∷ ms))
    ≡ codes " vars " ++ (vars ++ (codes " bounds " ++ (n ++ (spaced_words bs ++ (codes " nonzero " ++ (m ++ spaced_words ms))))))
told_spaced vars n m bs ms = ap (λ t. codes " vars " ++ (vars ++ (codes " bounds " ++ (n ++ t)))) (flat_map-append (λ word. 32 ∷ word) bs (codes "nonzero" ∷ m ∷ ms))

told_bytes : (vars : ℕ) (bounds : List Bound) (marks : List ℕ) → spaced_words (codes "vars" ∷ told_words vars bounds marks) ≡ told_state vars bounds marks
told_bytes vars bounds marks =
    let bs = spaced_list bound_triple bound_words bound_spaced bounds in
    let ms = spaced_list mark_word variable_word mark_spaced marks in
    told_spaced (decimal vars) (decimal (length bounds)) (decimal (length marks)) (flat_map bound_triple bounds) (flat_map mark_word marks)
    ∙ ((λ i. codes " vars " ++ (decimal vars ++ (codes " bounds " ++ (decimal (length bounds) ++ (bs i ++ (codes " nonzero " ++ (decimal (length marks) ++ ms i)))))))
    ∙ ap (λ t. codes " vars " ++ (decimal vars ++ (codes " bounds " ++ t))) (sym (append_assoc (decimal (length bounds)) (flat_map bound_words bounds) (marks_text marks))))

pub bottom_bytes : (word : Word) → spaced_words (codes "bottom" ∷ word ∷ []) ≡ codes " bottom " ++ word
bottom_bytes word = ap (λ t. codes " bottom " ++ t) (append-nil word)

pub words_line : (line word : List ℕ) (words : List Word) (z : Zone) → words_of line ≡ word ∷ words → IsStateWords z words → IsStateLine word z line
words_line line word words z e (inl (w, h, k)) =
    (codes " bottom " ++ decimal (vars_of z), line_of_words line word words e ∙ ap (λ t. word ++ t) (ap spaced_words k ∙ (bottom_bytes w ∙ ap (λ t. codes " bottom " ++ t) h.2)), (h.0, inl (h.1, refl)))
words_line line word words z e (inr (rest, h, k)) = (
  told_state (vars_of z) h.bounds (marked_variables z),
  line_of_words line word words e
      ∙ ap (λ t. word ++ t) (ap spaced_words k ∙ (ap (λ t. spaced_words (codes "vars" ∷ t)) h.same ∙ told_bytes (vars_of z) h.bounds (marked_variables z))),
  (h.few, inr (record { not_bottom = h.not_bottom; bounds = h.bounds; naming = h.naming; same = refl })),
)

pub line_words : (line word : List ℕ) (z : Zone) → IsTrue (lacks 32 word) → IsStateLine word z line → (words : List Word) × (words_of line ≡ word ∷ words) × IsStateWords z words
line_words line word z clean (bytes, e, (small, inl (h, k))) =
    let words : List Word = codes "bottom" ∷ decimal (vars_of z) ∷ [] in (
      words,
      ap words_of (e ∙ ap (λ t. word ++ t) (k ∙ sym (bottom_bytes (decimal (vars_of z))))) ∙ words_of_line word words clean (refl, (decimal_clean (vars_of z) (omega (arith, small)), tt)),
      inl (decimal (vars_of z), (small, h, refl), refl),
    )
line_words line word z clean (bytes, e, (small, inr h)) =
    let rest = told_words (vars_of z) h.bounds (marked_variables z) in (
      codes "vars" ∷ rest,
      ap words_of (e ∙ ap (λ t. word ++ t) (h.same ∙ sym (told_bytes (vars_of z) h.bounds (marked_variables z))))
          ∙ words_of_line word (codes "vars" ∷ rest) clean (told_clean z h.bounds small h.naming),
      inr (rest, record { few = small; not_bottom = h.not_bottom; bounds = h.bounds; naming = h.naming; same = refl }, refl),
    )

pub no_line : (line word : List ℕ) → IsTrue (lacks 32 word) → ((words : List Word) → words_of line ≡ word ∷ words → ⊥) → (z : Zone) → IsStateLine word z line → ⊥
no_line line word clean none z h = let r = line_words line word z clean h in none r.0 r.1

pub state_tells : (line word : List ℕ) (words : List Word) (r : Option Zone) → IsTrue (lacks 32 word) → words_of line ≡ word ∷ words → TellsState words r → Tells (IsStateLine word) line r
state_tells line word words (Some z) clean e h = words_line line word words z e h
state_tells line word words None clean e none = λ z h. let r = line_words line word z clean h in none z (subst (IsStateWords z) (sym (behind line word words r.0 e r.1)) r.2)

-- a state
pub any_state : Zone
any_state = (point_state 0 (λ i. pos 0) (omega arith) refl (λ k h. grind (arith, ints))).state
