-- What is said of the whole text behind the line of the site.
use Rattle.std.proofs.Common.{◌≡◌, inl, inr, ℕ, ◌+◌, List, [], ◌∷◌, ◌++◌, length, refl, sym, ap, subst, ◌∙◌, IsTrue, arith, append_assoc, length-append}
use Rattle.std.specs.Prelude.{codes}
use Rattle.std.proofs.lemmas.List.{append-nil, map-append, length-map, append_cancel_left}
use Rattle.vmv_tree.specs.Names.{is_name}
use Rattle.vmv_tree.specs.declared.name.Name.{Name}
use Rattle.vmv_witness.specs.Numbers.{IsNumber, IsSiteNumber, IsValue}
use Rattle.vmv_witness.specs.Text.{Spelled, lines_of, text_of, pair_line, param_lines, answer_lines, entry_line, site_line, IsSpelled}
use Rattle.vmv_witness.specs.Faults.{Begins, BeginsLoosely, SyntaxAt, RangeAt}
use Rattle.vmv_witness.specs.Reading.{NoneLoosely, TooLarge, HasWord, NoWord, NoLine}
use Rattle.vmv_witness.proofs.Writing.{text_of-append}
use Rattle.vmv_witness.proofs.Bytes.{same_split}
use Rattle.vmv_witness.proofs.Clean.{name_lacks, loose}
use Rattle.vmv_witness.proofs.Follow.{Pairs, param_line, answer_line, end_line, params_to_end, MayFollow, params_left, left_follows, left_some, param_not_answer, param_not_end, answer_not_end}
use Rattle.vmv_witness.proofs.Places.{IsCut, syntax_at, range_at}
use Rattle.vmv_witness.proofs.Exits.{head_line, spelled, IsHead, spells}

-- what was read so far: the first three lines, parameters and answers
abbrev pub first_lines : (entry proc number : List ℕ) → List (List ℕ)
first_lines entry proc number = head_line ∷ entry_line entry ∷ site_line proc number ∷ []

abbrev pub so_far : (entry proc number : List ℕ) (ps bs : List (Name × List ℕ)) → List (List ℕ)
so_far entry proc number ps bs = head_line ∷ entry_line entry ∷ site_line proc number ∷ (param_lines ps ++ answer_lines bs)

pub record IsRead (text entry proc number : List ℕ) (ps bs : List (Name × List ℕ)) (rest : List ℕ) : Type 0 where
  pub head : IsHead entry proc number
  pub params : Pairs IsValue ps
  pub answers : Pairs IsValue bs
  pub place : text ≡ text_of (so_far entry proc number ps bs) ++ rest

count : (entry proc number : List ℕ) (ps bs : List (Name × List ℕ)) → 4 + length ps + length bs ≡ length (so_far entry proc number ps bs) + 1
count entry proc number ps bs = simp (length-append, length-map) (omega arith)

-- lines behind what was read, as they stand behind its parameters
behind : (ps bs : List (Name × List ℕ)) (line : List ℕ) (tail : List (List ℕ)) → ((param_lines ps ++ answer_lines bs) ++ line ∷ []) ++ tail ≡ param_lines ps ++ (answer_lines bs ++ line ∷ tail)
behind ps bs line tail = append_assoc (param_lines ps ++ answer_lines bs) (line ∷ []) tail ∙ append_assoc (param_lines ps) (answer_lines bs) (line ∷ tail)

module _ (text entry proc number : List ℕ) (ps bs : List (Name × List ℕ)) (rest : List ℕ) (read : IsRead text entry proc number ps bs rest) where
  begins : Begins (so_far entry proc number ps bs)
  begins = (
    spelled entry proc number ps bs,
    end_line ∷ [],
    spells entry proc number ps bs read.head read.params read.answers,
    ap (λ t. head_line ∷ entry_line entry ∷ site_line proc number ∷ t) (sym (append_assoc (param_lines ps) (answer_lines bs) (end_line ∷ []))),
  )

  follows : (K V : List ℕ → Type 0) (s : Spelled) (line : List ℕ) (tail : List (List ℕ)) → IsSpelled K V s → lines_of s ≡ (so_far entry proc number ps bs ++ line ∷ []) ++ tail → MayFollow V bs line tail
  follows K V s line tail h e =
      let inner : params_to_end s.params s.answers ≡ ((param_lines ps ++ answer_lines bs) ++ line ∷ []) ++ tail = cc in
      left_follows V bs line tail (params_left V s.params s.answers ps bs (line ∷ tail) h.params h.answers (inner ∙ behind ps bs line tail))

  cut : IsCut (so_far entry proc number ps bs)
  cut s h e =
      let inner : params_to_end s.params s.answers ≡ param_lines ps ++ answer_lines bs = cc in
      left_some IsValue bs
      (params_left IsValue s.params s.answers ps bs [] h.params h.answers (inner ∙ ap (λ t. param_lines ps ++ t) (sym (append-nil (answer_lines bs)))))

  -- a line stands first that may not
  pub syntax_here : ((line more : List ℕ) (tail : List (List ℕ)) → rest ≡ line ++ 10 ∷ more → MayFollow IsNumber bs line tail → ⊥) → SyntaxAt text (4 + length ps + length bs)
  syntax_here never =
      syntax_at text (4 + length ps + length bs) (so_far entry proc number ps bs) rest read.place (count entry proc number ps bs) begins (λ e. cut)
      (λ line more e b. never line more b.1 e (follows IsNumber IsNumber b.0 line b.1 b.2 b.3))

  -- a line stands first that may but for its number
  pub range_here : (line more : List ℕ) → rest ≡ line ++ 10 ∷ more → BeginsLoosely (so_far entry proc number ps bs ++ line ∷ []) → ((tail : List (List ℕ)) → MayFollow IsValue bs line tail → ⊥) → RangeAt text (4 + length ps + length bs)
  range_here line more e loosely never =
      range_at text (4 + length ps + length bs) (so_far entry proc number ps bs) line more (read.place ∙ ap (λ t. text_of (so_far entry proc number ps bs) ++ t) e) (count entry proc number ps bs) begins loosely
      (λ b. never b.1 (follows IsSiteNumber IsValue b.0 line b.1 b.2 b.3))

  -- behind the last line stands more
  pub syntax_behind : (b : ℕ) (more : List ℕ) → rest ≡ end_line ++ 10 ∷ b ∷ more → SyntaxAt text (4 + length ps + length bs + 1)
  syntax_behind b more e =
      let whole = so_far entry proc number ps bs in
      syntax_at text (4 + length ps + length bs + 1) (whole ++ end_line ∷ []) (b ∷ more)
      (read.place ∙ (ap (λ t. text_of whole ++ t) e ∙ (sym (append_assoc (text_of whole) (text_of (end_line ∷ [])) (b ∷ more)) ∙ ap (λ t. t ++ b ∷ more) (sym (text_of-append whole (end_line ∷ []))))))
      (omega (arith, count entry proc number ps bs, length-append whole (end_line ∷ []))) (
        spelled entry proc number ps bs,
        [],
        spells entry proc number ps bs read.head read.params read.answers,
        ap (λ t. head_line ∷ entry_line entry ∷ site_line proc number ∷ t) (sym (append_assoc (param_lines ps) (answer_lines bs) (end_line ∷ []))) ∙ sym (append-nil (whole ++ end_line ∷ [])),
      )
      (λ none. absurd (cc))
      (λ line next g l. ended line l.1 (follows IsNumber IsNumber l.0 end_line (line ∷ l.1) l.2 (l.3 ∙ append_assoc (whole ++ end_line ∷ []) (line ∷ []) l.1)))
    where
      ended : (line : List ℕ) (tail : List (List ℕ)) → MayFollow IsNumber bs end_line (line ∷ tail) → ⊥
      ended line tail (inl (n, (p, h, q))) = param_not_end (p.0 ++ 32 ∷ p.1) [] (sym q)
      ended line tail (inr (inl (p, h, q))) = answer_not_end (p.0 ++ 32 ∷ p.1) [] (sym q)
      ended line tail (inr (inr (q, n))) = cc

-- the first bytes of a text that begins with this line and this word

-- of parameters

pub syntax_param : (text entry proc number : List ℕ) (ps : List (Name × List ℕ)) (rest : List ℕ) → IsRead text entry proc number ps [] rest → HasWord (codes "param ") rest → NoneLoosely (codes "param ") 32 rest → SyntaxAt text (4 + length ps + 0)
syntax_param text entry proc number ps rest read has never = syntax_here text entry proc number ps [] rest read shut
  where
    shut : (line more : List ℕ) (tail : List (List ℕ)) → rest ≡ line ++ 10 ∷ more → MayFollow IsNumber [] line tail → ⊥
    shut line more tail e (inl (n, (p, h, q))) =
        never p.0 p.1 more (record { named = h.0; numbered = h.1; place = e ∙ ap (λ l. l ++ 10 ∷ more) q })
    shut line more tail e (inr (inl (p, h, q))) =
        param_not_answer (has.0 ++ 10 ∷ has.1) ((p.0 ++ 32 ∷ p.1) ++ 10 ∷ more) (sym has.2 ∙ (e ∙ ap (λ l. l ++ 10 ∷ more) q))
    shut line more tail e (inr (inr (q, n))) =
        param_not_end (has.0 ++ 10 ∷ has.1) (10 ∷ more) (sym has.2 ∙ (e ∙ ap (λ l. l ++ 10 ∷ more) q))

-- of answers

pub syntax_answer : (text entry proc number : List ℕ) (ps bs : List (Name × List ℕ)) (rest : List ℕ) → IsRead text entry proc number ps bs rest → HasWord (codes "answer ") rest → NoneLoosely (codes "answer ") 32 rest → SyntaxAt text (4 + length ps + length bs)
syntax_answer text entry proc number ps bs rest read has never = syntax_here text entry proc number ps bs rest read shut
  where
    shut : (line more : List ℕ) (tail : List (List ℕ)) → rest ≡ line ++ 10 ∷ more → MayFollow IsNumber bs line tail → ⊥
    shut line more tail e (inl (n, (p, h, q))) =
        param_not_answer ((p.0 ++ 32 ∷ p.1) ++ 10 ∷ more) (has.0 ++ 10 ∷ has.1) (sym (e ∙ ap (λ l. l ++ 10 ∷ more) q) ∙ has.2)
    shut line more tail e (inr (inl (p, h, q))) =
        never p.0 p.1 more (record { named = h.0; numbered = h.1; place = e ∙ ap (λ l. l ++ 10 ∷ more) q })
    shut line more tail e (inr (inr (q, n))) =
        answer_not_end (has.0 ++ 10 ∷ has.1) (10 ∷ more) (sym has.2 ∙ (e ∙ ap (λ l. l ++ 10 ∷ more) q))

-- pairs with one more, of which the number may be of any size
pairs_more : (ps : List (Name × List ℕ)) (name number : List ℕ) → Pairs IsNumber ps → IsTrue (is_name name) → IsNumber number → Pairs IsNumber (ps ++ (name, number) ∷ [])
pairs_more [] name number h n k = ((n, k), tt)
pairs_more (p ∷ ps) name number h n k = (h.0, pairs_more ps name number h.1 n k)

same_number : (word name number : List ℕ) (p : Name × List ℕ) → IsTrue (is_name name) → IsTrue (is_name p.0) → word ++ (name ++ 32 ∷ number) ≡ pair_line word p → number ≡ p.1
same_number word name number p n k e =
    (same_split 32 name number p.0 p.1 (name_lacks 32 refl name n) (name_lacks 32 refl p.0 k) (append_cancel_left word (name ++ 32 ∷ number) (p.0 ++ 32 ∷ p.1) e)).1

pub range_param : (text entry proc number : List ℕ) (ps : List (Name × List ℕ)) (rest : List ℕ) → IsRead text entry proc number ps [] rest → TooLarge (codes "param ") 32 IsValue rest → RangeAt text (4 + length ps + 0)
range_param text entry proc number ps rest read (name, digits, more, l, out) =
    let all = loose (spelled entry proc number ps []) (spells entry proc number ps [] read.head read.params tt) in
    range_here text entry proc number ps [] rest read (param_line (name, digits)) more l.place (
      spelled entry proc number (ps ++ (name, digits) ∷ []) [],
      end_line ∷ [],
      record { entry = all.entry; proc = all.proc; number = all.number; params = pairs_more ps name digits all.params l.named l.numbered; answers = tt },
      ap (λ t. head_line ∷ entry_line entry ∷ site_line proc number ∷ t) (ap (λ t. t ++ end_line ∷ []) (map-append (pair_line (codes "param ")) ps ((name, digits) ∷ []) ∙ ap (λ t. t ++ param_line (name, digits) ∷ []) (sym (append-nil (param_lines ps))))),
    )
    shut
  where
    shut : (tail : List (List ℕ)) → MayFollow IsValue [] (param_line (name, digits)) tail → ⊥
    shut tail (inl (n, (p, h, q))) = out (subst IsValue (sym (same_number (codes "param ") name digits p l.named h.0 q)) h.1)
    shut tail (inr (inl (p, h, q))) = param_not_answer (name ++ 32 ∷ digits) (p.0 ++ 32 ∷ p.1) q
    shut tail (inr (inr (q, n))) = param_not_end (name ++ 32 ∷ digits) [] q

pub range_answer : (text entry proc number : List ℕ) (ps bs : List (Name × List ℕ)) (rest : List ℕ) → IsRead text entry proc number ps bs rest → TooLarge (codes "answer ") 32 IsValue rest → RangeAt text (4 + length ps + length bs)
range_answer text entry proc number ps bs rest read (name, digits, more, l, out) =
    let all = loose (spelled entry proc number ps bs) (spells entry proc number ps bs read.head read.params read.answers) in
    range_here text entry proc number ps bs rest read (answer_line (name, digits)) more l.place (
      spelled entry proc number ps (bs ++ (name, digits) ∷ []),
      end_line ∷ [],
      record { entry = all.entry; proc = all.proc; number = all.number; params = all.params; answers = pairs_more bs name digits all.answers l.named l.numbered },
      ap (λ t. head_line ∷ entry_line entry ∷ site_line proc number ∷ t) (simp (map-append, append_assoc)),
    )
    shut
  where
    shut : (tail : List (List ℕ)) → MayFollow IsValue bs (answer_line (name, digits)) tail → ⊥
    shut tail (inl (n, (p, h, q))) = param_not_answer (p.0 ++ 32 ∷ p.1) (name ++ 32 ∷ digits) (sym q)
    shut tail (inr (inl (p, h, q))) = out (subst IsValue (sym (same_number (codes "answer ") name digits p l.named h.0 q)) h.1)
    shut tail (inr (inr (q, n))) = answer_not_end (name ++ 32 ∷ digits) [] q

-- of the last line

pub syntax_end : (text entry proc number : List ℕ) (ps bs : List (Name × List ℕ)) (rest : List ℕ) → IsRead text entry proc number ps bs rest → (bs ≡ [] → NoWord (codes "param ") rest) → NoWord (codes "answer ") rest → NoLine end_line rest → SyntaxAt text (4 + length ps + length bs)
syntax_end text entry proc number ps bs rest read no_param no_answer no_end = syntax_here text entry proc number ps bs rest read shut
  where
    shut : (line more : List ℕ) (tail : List (List ℕ)) → rest ≡ line ++ 10 ∷ more → MayFollow IsNumber bs line tail → ⊥
    shut line more tail e (inl (n, (p, h, q))) = no_param n (p.0 ++ 32 ∷ p.1) more (e ∙ ap (λ l. l ++ 10 ∷ more) q)
    shut line more tail e (inr (inl (p, h, q))) = no_answer (p.0 ++ 32 ∷ p.1) more (e ∙ ap (λ l. l ++ 10 ∷ more) q)
    shut line more tail e (inr (inr (q, n))) = no_end more (e ∙ ap (λ l. l ++ 10 ∷ more) q)
