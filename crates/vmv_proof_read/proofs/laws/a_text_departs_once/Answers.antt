use Rattle.std.proofs.Common.{◌≡◌, ◌≢◌, ℕ, List, refl, ap, sym, ◌∙◌, arith}
use Rattle.vmv_proof_read.specs.declared.fault.ProofFault.{ProofFault}
use Rattle.vmv_proof_read.specs.declared.fault.ProofFault.TheVariants.{Syntax, Range, Limit, Memory}
use Rattle.vmv_proof_read.specs.Why.{IsWhy}
use Rattle.vmv_proof_read.proofs.LineLaws.{clean, loose}
use Rattle.vmv_proof_read.proofs.Places.{one_syntax, one_range, syntax_no_range}
use Rattle.vmv_proof_read.proofs.laws.a_text_departs_once.Goals as goal

one_fault : (text : List ℕ) (f g : ProofFault) → IsWhy text f → IsWhy text g → f ≢ Memory → g ≢ Memory → f ≡ g
one_fault text (Syntax m) (Syntax n) (a, h) (b, k) x y = ap Syntax (one_syntax loose clean text m n h k)
one_fault text (Syntax m) (Range n) (a, h) (b, k) x y = absurd (syntax_no_range loose clean text m n h k)
one_fault text (Syntax m) (Limit n) (a, h) (b, k) x y = absurd (omega arith)
one_fault text (Syntax m) Memory h k x y = absurd (y refl)
one_fault text (Range m) (Syntax n) (a, h) (b, k) x y = absurd (syntax_no_range loose clean text n m k h)
one_fault text (Range m) (Range n) (a, h) (b, k) x y = ap Range (one_range loose clean text m n h k)
one_fault text (Range m) (Limit n) (a, h) (b, k) x y = absurd (omega arith)
one_fault text (Range m) Memory h k x y = absurd (y refl)
one_fault text (Limit m) (Syntax n) (a, h) (b, k) x y = absurd (omega arith)
one_fault text (Limit m) (Range n) (a, h) (b, k) x y = absurd (omega arith)
one_fault text (Limit m) (Limit n) (a, h) (b, k) x y = ap Limit (h ∙ sym k)
one_fault text (Limit m) Memory h k x y = absurd (y refl)
one_fault text Memory g h k x y = absurd (x refl)

pub returns-clause-once : goal.returns-clause-once
returns-clause-once c = one_fault

pub returns-clause-syntax : goal.returns-clause-syntax
returns-clause-syntax c = λ text n p a t. a.departs.none p t

pub returns-clause-range : goal.returns-clause-range
returns-clause-range c = λ text n p a t. a.departs.none p t
