-- The words of a result's line.
use Rattle.std.proofs.Common.{◌≡◌, ◌⊎◌, inl, inr, ℕ, ℤ, ◌<ℤ◌, Bool, true, false, List, [], ◌∷◌, ◌++◌, drop, refl, sym, ap, ◌∙◌, subst, IsTrue, arith, append_assoc}
use Rattle.std.specs.Prelude.{codes}
use Rattle.std.specs.Char.{is_ascii_digit}
use Rattle.std.specs.Fmt.{signed_decimal}
use Rattle.std.specs.List.{list_all}
use Rattle.std.proofs.lemmas.Bool.{and_parts, false≢true}
use Rattle.std.proofs.lemmas.Int.{ints}
use Rattle.std.proofs.lemmas.List.{append-nil}
use Rattle.vmv_tree.specs.Words.{IsWord}
use Rattle.vmv_cond.specs.declared.cond.Cond.{Cond}
use Rattle.vmv_cert.specs.declared.row.Reach.{Reach}
use Rattle.vmv_cert.specs.declared.row.Reach.TheVariants.{Bottom, Value}
use Rattle.vmv_witness.specs.Numbers.{IsNumber}
use Rattle.vmv_witness.specs.Reading.{lacks, SplitsAt}
use Rattle.vmv_witness.proofs.Bytes.{lacks-append, lacks-cons, lacks_none, same_split}
use Rattle.vmv_proof_words.specs.Words.{Word, words_of}
use Rattle.vmv_proof_words.specs.Taking.{IsEndWord}
use Rattle.vmv_proof_words.proofs.Splitting.{Clean, spaced_words, words_of_line, line_of_words}
use Rattle.vmv_proof_words.proofs.Digits.{end_number, end_once}
use Rattle.vmv_proof_text.specs.Parts.{result_part}
use Rattle.vmv_proof_text.specs.Text.{is_zero_left_out, zero_text, range_text, reach_text}
use Rattle.vmv_proof_text.specs.Lines.{IsLine, IsRange, IsReach}
use Rattle.vmv_proof_text.specs.Loose.{AreAround, IsReachLoosely}
use Rattle.vmv_proof_line.specs.Reaches.{range_word, zero_words, IsRangeWord, IsRangeLoosely, IsCondOf, IsResultLoosely}
use Rattle.vmv_proof_line.proofs.Fields.{number_clean, tails, behind}

no_dot : is_ascii_digit 46 ≡ false
no_dot = refl

natural_dot : (ds : List ℕ) → IsTrue (list_all is_ascii_digit ds) → IsTrue (lacks 46 ds)
natural_dot [] h = refl
natural_dot (c ∷ cs) h =
    let parts = and_parts (is_ascii_digit c) (list_all is_ascii_digit cs) h in
    lacks-cons 46 c cs (λ e. false≢true (sym no_dot ∙ (ap is_ascii_digit (sym e) ∙ parts.0))) (natural_dot cs parts.1)

-- no number has a dot
pub number_dot : (word : Word) → IsNumber word → IsTrue (lacks 46 word)
number_dot word (inl natural) = natural_dot word natural.0
number_dot word (inr (ds, e, natural, some)) = subst (λ w. IsTrue (lacks 46 w)) (sym e) (lacks-cons 46 45 ds (λ same. omega arith) (natural_dot ds natural.0))

pub end_dot : (z : ℤ) → IsWord z → IsTrue (lacks 46 (signed_decimal z))
end_dot z h = number_dot (signed_decimal z) (end_number z (signed_decimal z) (h, refl))

-- a word is a range in one way
pub range_once : (word low high lo hi : Word) → IsTrue (lacks 46 low) → word ≡ range_word low high → IsTrue (lacks 46 lo) → word ≡ range_word lo hi → (low ≡ lo) × (high ≡ hi)
range_once word low high lo hi h e k f = let s = same_split 46 low (46 ∷ high) lo (46 ∷ hi) h k (sym e ∙ f) in (s.0, ap (λ t. drop 1 t) s.1)

pub one_dot : (word low rest : Word) → SplitsAt 46 word low rest → ((more : List ℕ) → rest ≡ codes "." ++ more → ⊥) → (lo hi : Word) → IsTrue (lacks 46 lo) → word ≡ range_word lo hi → ⊥
one_dot word low rest s none lo hi h e = none hi (same_split 46 low rest lo (46 ∷ hi) s.0 h (sym s.1 ∙ e)).1

pub told_ends : (r : ℤ × ℤ) (word low high : Word) → IsTrue (lacks 46 low) → word ≡ range_word low high → IsRangeWord r word → IsEndWord r.0 low × IsEndWord r.1 high
told_ends r word low high h e k =
    let s = range_once word low high (signed_decimal r.0) (signed_decimal r.1) h e (end_dot r.0 k.0.low) k.1 in
    ((k.0.low, s.0), (k.0.high, s.1))

pub not_ordered : (r : ℤ × ℤ) (word low high : Word) (lo hi : ℤ) → IsTrue (lacks 46 low) → word ≡ range_word low high → IsEndWord lo low → IsEndWord hi high → hi <ℤ lo → IsRangeWord r word → ⊥
not_ordered r word low high lo hi h e f g less k =
    let ends = told_ends r word low high h e k in
    let first = end_once lo r.0 low f ends.0 in
    let second = end_once hi r.1 high g ends.1 in
    let order = k.0.order in
    grind (arith, ints)

pub loose_ends : (r : Word × Word) (word low high : Word) → IsTrue (lacks 46 low) → word ≡ range_word low high → IsRangeLoosely r word → IsNumber low × IsNumber high
loose_ends r word low high h e k =
    let s = range_once word low high r.0 r.1 h e (number_dot r.0 k.0) k.2 in
    (subst IsNumber (sym s.0) k.0, subst IsNumber (sym s.1) k.1)

-- a word tells one range
range_told_once : (r s : ℤ × ℤ) (word : Word) → IsRangeWord r word → IsRangeWord s word → (s.0 ≡ r.0) × (s.1 ≡ r.1)
range_told_once r s word h k =
    let ends = told_ends s word (signed_decimal r.0) (signed_decimal r.1) (end_dot r.0 h.0.low) h.1 k in
    (end_once s.0 r.0 (signed_decimal r.0) ends.0 (h.0.low, refl), end_once s.1 r.1 (signed_decimal r.1) ends.1 (h.0.high, refl))

pub bottom_no_range : (word lo hi : Word) → word ≡ codes "bottom" → word ≡ range_word lo hi → ⊥
bottom_no_range word lo hi e f = lacks_none 46 lo (46 ∷ hi) (subst (λ w. IsTrue (lacks 46 w)) (sym e ∙ f) refl)

-- the words of a result
abbrev pub reach_words : Reach → List Word
reach_words Bottom = codes "bottom" ∷ []
reach_words (Value c) = range_word (signed_decimal c.lo) (signed_decimal c.hi) ∷ zero_words (is_zero_left_out c)

zero_spaced : (out : Bool) → zero_text out ≡ spaced_words (zero_words out)
zero_spaced true = refl
zero_spaced false = refl

zero_clean : (out : Bool) → Clean (zero_words out)
zero_clean true = (refl, (refl, tt))
zero_clean false = tt

reach_spaced : (reach : Reach) → reach_text reach ≡ spaced_words (reach_words reach)
reach_spaced Bottom = refl
reach_spaced (Value c) = ap (λ t. range_text c.lo c.hi ++ t) (zero_spaced (is_zero_left_out c))

range_clean : (lo hi : Word) → IsNumber lo → IsNumber hi → IsTrue (lacks 32 (range_word lo hi))
range_clean lo hi h k = lacks-append 32 lo (codes ".." ++ hi) (number_clean lo h) (lacks-append 32 (codes "..") hi refl (number_clean hi k))

reach_clean : (reach : Reach) → IsReach reach → Clean (reach_words reach)
reach_clean Bottom h = (refl, tt)
reach_clean (Value c) h =
    (range_clean (signed_decimal c.lo) (signed_decimal c.hi) (end_number c.lo (signed_decimal c.lo) (h.low, refl)) (end_number c.hi (signed_decimal c.hi) (h.high, refl)), zero_clean (is_zero_left_out c))

pub to_reach : (line : List ℕ) (reach : Reach) → IsLine (result_part reach) line → words_of line ≡ codes "result" ∷ reach_words reach
to_reach line reach h = ap words_of (h.1 ∙ ap (λ t. codes "result" ++ t) (reach_spaced reach)) ∙ words_of_line (codes "result") (reach_words reach) refl (reach_clean reach h.0)

pub from_reach : (line : List ℕ) (reach : Reach) → IsReach reach → words_of line ≡ codes "result" ∷ reach_words reach → IsLine (result_part reach) line
from_reach line reach h e = (h, line_of_words line (codes "result") (reach_words reach) e ∙ ap (λ t. codes "result" ++ t) (sym (reach_spaced reach)))

pub behind_reach : (line : List ℕ) (words : List Word) (reach : Reach) → words_of line ≡ codes "result" ∷ words → IsLine (result_part reach) line → words ≡ reach_words reach
behind_reach line words reach e h = behind line (codes "result") words (reach_words reach) e (to_reach line reach h)

pub some_reach : (reach : Reach) → [] ≡ reach_words reach → ⊥
some_reach Bottom e = cc
some_reach (Value c) e = cc

first_words : (v w : Word) (vs ws : List Word) → v ∷ vs ≡ w ∷ ws → v ≡ w
first_words v w vs ws e = cc

-- nothing stands behind bottom
pub bottom_alone : (reach : Reach) (word : Word) (new : List Word) → word ≡ codes "bottom" → word ∷ new ≡ reach_words reach → new ≡ []
bottom_alone Bottom word new e f = tails word (codes "bottom") new [] f
bottom_alone (Value c) word new e f = absurd (bottom_no_range word (signed_decimal c.lo) (signed_decimal c.hi) e (first_words word _ new _ f))

pub no_reach : (reach : Reach) (word : Word) (new : List Word) → (word ≡ codes "bottom" → ⊥) → ((r : ℤ × ℤ) → IsRangeWord r word → ⊥) → IsReach reach → word ∷ new ≡ reach_words reach → ⊥
no_reach Bottom word new other none h f = other (first_words word _ new _ f)
no_reach (Value c) word new other none h f = none (c.lo, c.hi) (h, first_words word _ new _ f)

pub no_cond : (reach : Reach) (word : Word) (new : List Word) (r : ℤ × ℤ) → (word ≡ codes "bottom" → ⊥) → IsRangeWord r word → ((c : Cond) → IsCondOf r new c → ⊥) → IsReach reach → word ∷ new ≡ reach_words reach → ⊥
no_cond Bottom word new r other k none h f = other (first_words word _ new _ f)
no_cond (Value c) word new r other k none h f =
    let same = range_told_once r (c.lo, c.hi) word k (h, first_words word _ new _ f) in
    none c (same.0, same.1, tails word _ new (zero_words (is_zero_left_out c)) f)

pub reach_told : (line : List ℕ) (words new : List Word) (word : Word) (r : ℤ × ℤ) (c : Cond) → words_of line ≡ codes "result" ∷ words → words ≡ word ∷ new → IsRangeWord r word → IsCondOf r new c → IsLine (result_part (Value c)) line
reach_told line words new word r c e f h k =
    let lo = sym k.0 in
    let hi = sym k.1 in
    let ranged : IsRange (c.lo, c.hi) = subst IsRange {x = r} {y = (c.lo, c.hi)} (λ i. (lo i, hi i)) h.0 in
    from_reach line (Value c) ranged
    (e ∙ ap (λ t. codes "result" ∷ t) (f ∙ (λ i. (h.1 ∙ (λ j. range_word (signed_decimal (lo j)) (signed_decimal (hi j)))) i ∷ k.2 i)))

pub bottom_told : (line : List ℕ) (words new : List Word) (word : Word) → words_of line ≡ codes "result" ∷ words → words ≡ word ∷ new → word ≡ codes "bottom" → new ≡ [] → IsLine (result_part Bottom) line
bottom_told line words new word e f g h = from_reach line Bottom tt (e ∙ ap (λ t. codes "result" ∷ t) (f ∙ (λ i. g i ∷ h i)))

-- the words of a result, but for the size of its numbers
abbrev pub IsWordsLoosely : List Word → Type 0
IsWordsLoosely words =
    (words ≡ codes "bottom" ∷ [])
    ⊎ ((r : Word × Word) × IsRangeLoosely r (range_word r.0 r.1) × (words ≡ range_word r.0 r.1 ∷ []))
    ⊎ ((r : Word × Word) × IsRangeLoosely r (range_word r.0 r.1) × AreAround r.0 r.1 × (words ≡ range_word r.0 r.1 ∷ codes "not" ∷ codes "0" ∷ []))

pub loose_words : (line : List ℕ) → IsResultLoosely line → (words : List Word) × IsWordsLoosely words × (words_of line ≡ codes "result" ∷ words)
loose_words line (bytes, e, inl f) =
    (codes "bottom" ∷ [], inl refl, ap words_of (e ∙ ap (λ t. codes "result" ++ t) f) ∙ words_of_line (codes "result") (codes "bottom" ∷ []) refl (refl, tt))
loose_words line (bytes, e, inr (inl (lo, hi, n, m, f))) = (
  range_word lo hi ∷ [],
  inr (inl ((lo, hi), (n, m, refl), refl)),
  ap words_of (e ∙ ap (λ t. codes "result" ++ t) (f ∙ sym (append-nil (32 ∷ range_word lo hi))))
      ∙ words_of_line (codes "result") (range_word lo hi ∷ []) refl (range_clean lo hi n m, tt),
)
loose_words line (bytes, e, inr (inr (lo, hi, n, m, a, f))) = (
  range_word lo hi ∷ codes "not" ∷ codes "0" ∷ [],
  inr (inr ((lo, hi), (n, m, refl), a, refl)),
  ap words_of (e ∙ ap (λ t. codes "result" ++ t) (f ∙ ap (λ t. 32 ∷ t) (sym (append_assoc lo (codes ".." ++ hi) (codes " not 0")))))
      ∙ words_of_line (codes "result") (range_word lo hi ∷ codes "not" ∷ codes "0" ∷ []) refl (range_clean lo hi n m, (refl, (refl, tt))),
)

pub behind_loose : (line : List ℕ) (words : List Word) → words_of line ≡ codes "result" ∷ words → IsResultLoosely line → IsWordsLoosely words
behind_loose line words e h =
    let w = loose_words line h in
    subst IsWordsLoosely (sym (behind line (codes "result") words w.0 e w.2)) w.1

pub from_loose : (line : List ℕ) (words : List Word) → words_of line ≡ codes "result" ∷ words → IsWordsLoosely words → IsResultLoosely line
from_loose line words e h = (spaced_words words, line_of_words line (codes "result") words e, by h)
  where
    by : IsWordsLoosely words → IsReachLoosely (spaced_words words)
    by (inl f) = inl (ap spaced_words f)
    by (inr (inl (r, n, f))) = inr (inl (r.0, r.1, n.0, n.1, ap spaced_words f ∙ append-nil (32 ∷ range_word r.0 r.1)))
    by (inr (inr (r, n, a, f))) =
        inr (inr (r.0, r.1, n.0, n.1, a, ap spaced_words f ∙ ap (λ t. 32 ∷ t) (append_assoc r.0 (codes ".." ++ r.1) (codes " not 0"))))

pub none_loose : IsWordsLoosely [] → ⊥
none_loose (inl f) = cc
none_loose (inr (inl (r, n, f))) = cc
none_loose (inr (inr (r, n, a, f))) = cc

pub bottom_loose : (word : Word) (new : List Word) → word ≡ codes "bottom" → IsWordsLoosely (word ∷ new) → new ≡ []
bottom_loose word new e (inl f) = tails word _ new [] f
bottom_loose word new e (inr (inl (r, n, f))) = absurd (bottom_no_range word r.0 r.1 e (first_words word _ new _ f))
bottom_loose word new e (inr (inr (r, n, a, f))) = absurd (bottom_no_range word r.0 r.1 e (first_words word _ new _ f))

-- no range stands there
pub range_not_loose : (word : Word) (new : List Word) → (word ≡ codes "bottom" → ⊥) → ((r : Word × Word) → IsRangeLoosely r word → ⊥) → IsWordsLoosely (word ∷ new) → ⊥
range_not_loose word new other none (inl f) = other (first_words word _ new _ f)
range_not_loose word new other none (inr (inl (r, n, f))) = none r (n.0, n.1, first_words word _ new _ f)
range_not_loose word new other none (inr (inr (r, n, a, f))) = none r (n.0, n.1, first_words word _ new _ f)

-- what stands behind a range leaves out a 0 inside it
pub zero_loose : (word low high : Word) (new : List Word) → (word ≡ codes "bottom" → ⊥) → IsRangeLoosely (low, high) word → (new ≡ [] → ⊥) → IsWordsLoosely (word ∷ new) → AreAround low high × (new ≡ codes "not" ∷ codes "0" ∷ [])
zero_loose word low high new other k some (inl f) = absurd (other (first_words word _ new _ f))
zero_loose word low high new other k some (inr (inl (r, n, f))) = absurd (some (tails word _ new [] f))
zero_loose word low high new other k some (inr (inr (r, n, a, f))) =
    let same = range_once word r.0 r.1 low high (number_dot r.0 n.0) (first_words word _ new _ f) (number_dot low k.0) k.2 in
    (subst (λ p. AreAround p.0 p.1) {x = r} {y = (low, high)} (λ i. (same.0 i, same.1 i)) a, tails word _ new _ f)

pub range_loose : (word low high : Word) (new : List Word) → IsRangeLoosely (low, high) word → new ≡ [] → IsWordsLoosely (word ∷ new)
range_loose word low high new k e = inr (inl ((low, high), (k.0, k.1, refl), λ i. k.2 i ∷ e i))

pub left_out_loose : (word low high : Word) (new : List Word) → IsRangeLoosely (low, high) word → AreAround low high → new ≡ codes "not" ∷ codes "0" ∷ [] → IsWordsLoosely (word ∷ new)
left_out_loose word low high new k a e = inr (inr ((low, high), (k.0, k.1, refl), a, λ i. k.2 i ∷ e i))
