-- The number of a line, and why no proof is read.
use Rattle.std.proofs.Common.{◌≡◌, ℕ, ◌+◌, ◌-◌, ◌≤◌, ◌==◌, cond, true, List, [], ◌∷◌, ◌++◌, length, take, refl, sym, ap, subst, ◌∙◌, arith, length-append}
use Rattle.std.specs.Prelude.{Ok, Err, count_by}
use Rattle.std.specs.List.{sum_by}
use Rattle.std.proofs.Math.Seq.{take-append_seam}
use Rattle.std.proofs.lemmas.Bool.{ne_eqb}
use Rattle.std.proofs.lemmas.List.Sums.{sum_by-cons, sum_by-append}
use Rattle.vmv_witness.specs.Text.{text_of}
use Rattle.vmv_witness.specs.Reading.{lacks}
use Rattle.vmv_witness.proofs.Bytes.{lacks_head, lacks_tail}
use Rattle.vmv_proof.specs.declared.proof.Proof.{Proof}
use Rattle.vmv_proof_text.specs.Parts.{parts_of_proof}
use Rattle.vmv_proof_text.specs.Faults.{Line, SyntaxAt, RangeAt}
use Rattle.vmv_proof_line.specs.declared.fault.LineFault.TheVariants.{Form, Size}
use Rattle.vmv_proof_read.specs.declared.fault.ProofFault.TheVariants.{Syntax, Range}
use Rattle.vmv_proof_read.specs.Reading.{Reads, Any}
use Rattle.vmv_proof_read.specs.Why.{IsWhy}
use Rattle.vmv_proof_read.proofs.Starts.{told_starts}
use Rattle.vmv_proof_read.proofs.Places.{Clean, start_clean, begun_clean, syntax_there, range_there, syntax_behind}
use Rattle.vmv_proof_read.proofs.LineLaws.{clean, loose}
use Rattle.vmv_proof_read.proofs.Once.{decides_proof}

tally : ℕ → ℕ
tally x = cond (x == 10) 1 0

line_none : (line : List ℕ) → lacks 10 line ≡ true → sum_by tally line ≡ 0
unfolding tally
line_none [] h = refl
line_none (x ∷ xs) h =
    let none : tally x ≡ 0 = ap (λ t. cond t 1 0) (ne_eqb x 10 (lacks_head 10 x xs h)) in
    omega (arith, sum_by-cons tally x xs, none, line_none xs (lacks_tail 10 x xs h))

lines_counted : (lines : List Line) → Clean lines → sum_by tally (text_of lines) ≡ length lines
unfolding tally
lines_counted [] h = refl
lines_counted (line ∷ lines) h =
    let one : tally 10 ≡ 1 = refl in
    omega (arith, sum_by-append tally line (10 ∷ text_of lines), sum_by-cons tally 10 (text_of lines), one, line_none line h.0, lines_counted lines h.1)

pub number_is : (text rest : List ℕ) (before : List Line) (n : ℕ) → text ≡ text_of before ++ rest → Clean before → n ≡ count_by (λ b. b == 10) (take (length text - length rest) text) + 1 → n ≡ length before + 1
unfolding tally
number_is text rest before n place h e =
    let long : length text - length rest ≡ length (text_of before) = omega (arith, ap length place, length-append (text_of before) rest) in
    let cut : take (length text - length rest) text ≡ text_of before =
    ap (λ k. take k text) long ∙ (ap (λ t. take (length (text_of before)) t) place ∙ take-append_seam (text_of before) rest) in
    e ∙ ap (λ k. k + 1) (ap (λ t. sum_by tally t) cut ∙ lines_counted before h)

pub within : (text rest : List ℕ) (before : List Line) → text ≡ text_of before ++ rest → length rest ≤ length text
within text rest before place = omega (arith, ap length place, length-append (text_of before) rest)

pub why_form : (text new : List ℕ) (n : ℕ) → length text ≤ 67108864 → Reads {A = Proof} Any parts_of_proof text new (Err Form) → n ≡ count_by (λ b. b == 10) (take (length text - length new) text) + 1 → IsWhy text (Syntax n)
why_form text new n small (before, s, i) e =
    let number = number_is text new before n s.place (begun_clean loose clean text new before s) e in
    (small, subst (SyntaxAt text) (sym number) (syntax_there loose clean text new before s i))

pub why_size : (text new : List ℕ) (n : ℕ) → length text ≤ 67108864 → Reads {A = Proof} Any parts_of_proof text new (Err Size) → n ≡ count_by (λ b. b == 10) (take (length text - length new) text) + 1 → IsWhy text (Range n)
why_size text new n small (before, s, i) e =
    let number = number_is text new before n s.place (begun_clean loose clean text new before s) e in
    (small, subst (RangeAt text) (sym number) (range_there loose clean text new before s i))

pub why_behind : (text new : List ℕ) (n : ℕ) (p : Proof) → length text ≤ 67108864 → Reads {A = Proof} Any parts_of_proof text new (Ok p) → (new ≡ [] → ⊥) → n ≡ count_by (λ b. b == 10) (take (length text - length new) text) + 1 → IsWhy text (Syntax n)
why_behind text new n p small (any, t) some e =
    let number = number_is text new t.lines n t.place (start_clean loose clean (parts_of_proof p) t.lines (told_starts (parts_of_proof p) t.lines t.told)) e in
    (small, subst (SyntaxAt text) (sym number) (syntax_behind loose clean decides_proof text new p t some))
