-- A text is of one witness at most.
use Rattle.std.proofs.Common.{◌≡◌, ℕ, List, [], ◌∷◌, ◌++◌, map, refl, sym, ap, ◌∙◌, IsTrue, arith}
use Rattle.std.specs.Prelude.{codes, ℤ}
use Rattle.std.specs.List.{AllByRecursion}
use Rattle.std.specs.Fmt.{signed_decimal}
use Rattle.std.proofs.lemmas.Fmt.{decimal_injective, signed_decimal_injective}
use Rattle.std.proofs.lemmas.List.{append-nil, append_cancel_left}
use Rattle.vmv_tree.specs.Names.{is_name}
use Rattle.vmv_tree.specs.Words.{IsWord}
use Rattle.vmv_tree.specs.declared.name.Name.{Name}
use Rattle.vmv_run.specs.declared.answer.Answer.{Answer}
use Rattle.vmv_witness.specs.declared.witness.ParamValue.{ParamValue}
use Rattle.vmv_witness.specs.declared.witness.Witness.{Witness}
use Rattle.vmv_witness.specs.Numbers.{IsSiteNumber, IsValue}
use Rattle.vmv_witness.specs.Text.{Spelled, lines_of, text_of, pair_line, entry_line, site_line, param_pair, answer_pair, spelling, IsSpelled, IsTextOf, AreWords}
use Rattle.vmv_witness.proofs.Bytes.{same_split}
use Rattle.vmv_witness.proofs.Digits.{word_mag}
use Rattle.vmv_witness.proofs.Follow.{Pairs, param_line, answer_line, end_line, answers_to_end, params_to_end, param_not_answer, param_not_end, answer_not_end}
use Rattle.vmv_witness.proofs.Clean.{name_lacks, lines_clean, loose, cancel}
use Rattle.vmv_witness.proofs.Places.{no_rest}

nothing : (more : List (List ℕ)) → [] ≡ text_of more → more ≡ []
nothing [] e = refl
nothing (x ∷ xs) e = absurd (no_rest x (text_of xs) (sym e))

lines_same : (s t : Spelled) → IsSpelled IsSiteNumber IsValue s → IsSpelled IsSiteNumber IsValue t → text_of (lines_of s) ≡ text_of (lines_of t) → lines_of s ≡ lines_of t
lines_same s t h k e =
    let c = cancel (lines_of s) (lines_of t) [] (lines_clean s (loose s h)) (lines_clean t (loose t k)) (e ∙ sym (append-nil (text_of (lines_of t)))) in
    c.1 ∙ (ap (λ m. lines_of t ++ m) (nothing c.0 c.2) ∙ append-nil (lines_of t))

pair_same : (word : List ℕ) (p q : Name × List ℕ) → IsTrue (is_name p.0) → IsTrue (is_name q.0) → pair_line word p ≡ pair_line word q → p ≡ q
pair_same word p q h k e =
    let s = same_split 32 p.0 p.1 q.0 q.1 (name_lacks 32 refl p.0 h) (name_lacks 32 refl q.0 k) (append_cancel_left word (p.0 ++ 32 ∷ p.1) (q.0 ++ 32 ∷ q.1) e) in
    λ i. (s.0 i, s.1 i)

answers_same : (xs ys : List (Name × List ℕ)) → Pairs IsValue xs → Pairs IsValue ys → answers_to_end xs ≡ answers_to_end ys → xs ≡ ys
answers_same [] [] h k e = refl
answers_same [] (y ∷ ys) h k e = let s : end_line ≡ answer_line y = cc in absurd (answer_not_end (y.0 ++ 32 ∷ y.1) [] (sym s))
answers_same (x ∷ xs) [] h k e = let s : answer_line x ≡ end_line = cc in absurd (answer_not_end (x.0 ++ 32 ∷ x.1) [] s)
answers_same (x ∷ xs) (y ∷ ys) h k e =
    let s : answer_line x ≡ answer_line y = cc in
    let t : answers_to_end xs ≡ answers_to_end ys = cc in
    let first = pair_same (codes "answer ") x y h.0.0 k.0.0 s in
    let rest = answers_same xs ys h.1 k.1 t in
    λ i. first i ∷ rest i

params_same : (xs ys bs cs : List (Name × List ℕ)) → Pairs IsValue xs → Pairs IsValue ys → Pairs IsValue bs → Pairs IsValue cs → params_to_end xs bs ≡ params_to_end ys cs → (xs ≡ ys) × (bs ≡ cs)
params_same [] [] bs cs h k l m e = (refl, answers_same bs cs l m e)
params_same [] (y ∷ ys) [] cs h k l m e = let s : end_line ≡ param_line y = cc in absurd (param_not_end (y.0 ++ 32 ∷ y.1) [] (sym s))
params_same [] (y ∷ ys) (b ∷ bs) cs h k l m e =
    let s : answer_line b ≡ param_line y = cc in
    absurd (param_not_answer (y.0 ++ 32 ∷ y.1) (b.0 ++ 32 ∷ b.1) (sym s))
params_same (x ∷ xs) [] bs [] h k l m e = let s : param_line x ≡ end_line = cc in absurd (param_not_end (x.0 ++ 32 ∷ x.1) [] s)
params_same (x ∷ xs) [] bs (c ∷ cs) h k l m e =
    let s : param_line x ≡ answer_line c = cc in
    absurd (param_not_answer (x.0 ++ 32 ∷ x.1) (c.0 ++ 32 ∷ c.1) s)
params_same (x ∷ xs) (y ∷ ys) bs cs h k l m e =
    let s : param_line x ≡ param_line y = cc in
    let t : params_to_end xs bs ≡ params_to_end ys cs = cc in
    let first = pair_same (codes "param ") x y h.0.0 k.0.0 s in
    let rest = params_same xs ys bs cs h.1 k.1 l m t in
    (λ i. first i ∷ rest.0 i, rest.1)

record SameParts (s t : Spelled) : Type 0 where
  entry : s.entry ≡ t.entry
  proc : s.proc ≡ t.proc
  number : s.number ≡ t.number
  params : s.params ≡ t.params
  answers : s.answers ≡ t.answers

parts_same : (s t : Spelled) → IsSpelled IsSiteNumber IsValue s → IsSpelled IsSiteNumber IsValue t → lines_of s ≡ lines_of t → SameParts s t
parts_same s t h k e =
    let entries : entry_line s.entry ≡ entry_line t.entry = cc in
    let sites : site_line s.proc s.number ≡ site_line t.proc t.number = cc in
    let tails : params_to_end s.params s.answers ≡ params_to_end t.params t.answers = cc in
    let site = same_split 35 s.proc s.number t.proc t.number (name_lacks 35 refl s.proc h.proc) (name_lacks 35 refl t.proc k.proc)
    (append_cancel_left (codes "site ") (s.proc ++ 35 ∷ s.number) (t.proc ++ 35 ∷ t.number) sites) in
    let pairs = params_same s.params t.params s.answers t.answers h.params k.params h.answers k.answers tails in
    record {
      entry = append_cancel_left (codes "entry ") s.entry t.entry entries;
      proc = site.0;
      number = site.1;
      params = pairs.0;
      answers = pairs.1;
    }

word_same : (y z : ℤ) → IsWord y → IsWord z → signed_decimal y ≡ signed_decimal z → y ≡ z
word_same y z h k e = signed_decimal_injective y z (word_mag y h) (word_mag z k) e

param_values : (ps qs : List ParamValue) → AllByRecursion (λ p. IsWord p.value) ps → AllByRecursion (λ p. IsWord p.value) qs → map param_pair ps ≡ map param_pair qs → ps ≡ qs
param_values [] [] h k e = refl
param_values [] (q ∷ qs) h k e = absurd (cc)
param_values (p ∷ ps) [] h k e = absurd (cc)
param_values (p ∷ ps) (q ∷ qs) h k e =
    let first : param_pair p ≡ param_pair q = cc in
    let tail : map param_pair ps ≡ map param_pair qs = cc in
    let name : p.name ≡ q.name = ap (λ x. x.0) first in
    let value = word_same p.value q.value h.0 k.0 (ap (λ x. x.1) first) in
    let rest = param_values ps qs h.1 k.1 tail in
    λ i. record { name = name i; value = value i } ∷ rest i

answer_values : (ps qs : List Answer) → AllByRecursion (λ p. IsWord p.value) ps → AllByRecursion (λ p. IsWord p.value) qs → map answer_pair ps ≡ map answer_pair qs → ps ≡ qs
answer_values [] [] h k e = refl
answer_values [] (q ∷ qs) h k e = absurd (cc)
answer_values (p ∷ ps) [] h k e = absurd (cc)
answer_values (p ∷ ps) (q ∷ qs) h k e =
    let first : answer_pair p ≡ answer_pair q = cc in
    let tail : map answer_pair ps ≡ map answer_pair qs = cc in
    let name : p.name ≡ q.name = ap (λ x. x.0) first in
    let value = word_same p.value q.value h.0 k.0 (ap (λ x. x.1) first) in
    let rest = answer_values ps qs h.1 k.1 tail in
    λ i. record { name = name i; value = value i } ∷ rest i

pub one_witness : (text : List ℕ) (w v : Witness) → AreWords w → AreWords v → IsTextOf text w → IsTextOf text v → w ≡ v
one_witness text w v a b h k =
    let lines = lines_same (spelling w) (spelling v) h.witness k.witness (sym h.same ∙ k.same) in
    let same = parts_same (spelling w) (spelling v) h.witness k.witness lines in
    let index = decimal_injective w.site.index v.site.index (omega (arith, a.index)) (omega (arith, b.index)) same.number in
    let params = param_values w.params v.params a.params b.params same.params in
    let answers = answer_values w.answers v.answers a.answers b.answers same.answers in
    λ i. record { entry = same.entry i; params = params i; answers = answers i; site = record { proc = same.proc i; index = index i } }
