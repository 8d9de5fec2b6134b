-- A text is that of one witness, or is at fault in one way.
use Rattle.std.proofs.Common.{◌≡◌, ◌≢◌, ℕ, ◌≤◌, List, length, refl, sym, ap, arith, ◌∙◌}
use Rattle.vmv_witness.specs.declared.witness.Witness.{Witness}
use Rattle.vmv_witness.specs.declared.fault.WitnessFault.{WitnessFault}
use Rattle.vmv_witness.specs.declared.fault.WitnessFault.TheVariants.{Syntax, Range, Limit, Memory}
use Rattle.vmv_witness.specs.Text.{spelling, IsTextOf}
use Rattle.vmv_witness.specs.Faults.{IsWhy}
use Rattle.vmv_witness.proofs.OneText.{one_witness}
use Rattle.vmv_witness.proofs.OneFault.{one_syntax, one_range, syntax_no_range}
use Rattle.vmv_witness_laws.proofs.Digits.{witness_words}

pub witness_once : (text : List ℕ) (w v : Witness) → IsTextOf text w → IsTextOf text v → w ≡ v
witness_once text w v h g = one_witness text w v (witness_words w h.witness) (witness_words v g.witness) h g

pub why_once : (text : List ℕ) (one other : WitnessFault) → IsWhy text one → IsWhy text other → one ≢ Memory → other ≢ Memory → one ≡ other
why_once text Memory other h g told told' = absurd (told refl)
why_once text (Syntax n) Memory h g told told' = absurd (told' refl)
why_once text (Range n) Memory h g told told' = absurd (told' refl)
why_once text (Limit found) Memory h g told told' = absurd (told' refl)
why_once text (Syntax n) (Syntax m) h g told told' = ap Syntax (one_syntax text n m h.1 g.1)
why_once text (Syntax n) (Range m) h g told told' = absurd (syntax_no_range text n m h.1 g.1)
why_once text (Syntax n) (Limit found) h g told told' = absurd (let a = h.0 in let b = g.0 in omega (arith, a, b))
why_once text (Range n) (Syntax m) h g told told' = absurd (syntax_no_range text m n g.1 h.1)
why_once text (Range n) (Range m) h g told told' = ap Range (one_range text n m h.1 g.1)
why_once text (Range n) (Limit found) h g told told' = absurd (let a = h.0 in let b = g.0 in omega (arith, a, b))
why_once text (Limit found) (Syntax m) h g told told' = absurd (let a = h.0 in let b = g.0 in omega (arith, a, b))
why_once text (Limit found) (Range m) h g told told' = absurd (let a = h.0 in let b = g.0 in omega (arith, a, b))
why_once text (Limit found) (Limit found') h g told told' = ap Limit (h.1 ∙ sym g.1)

pub no_why : (text : List ℕ) (w : Witness) (why : WitnessFault) → length text ≤ 1048576 → IsTextOf text w → IsWhy text why → why ≡ Memory
no_why text w (Syntax n) short h g = absurd (g.1.departs.none (spelling w) h.witness h.same)
no_why text w (Range n) short h g = absurd (g.1.departs.none (spelling w) h.witness h.same)
no_why text w (Limit found) short h g = absurd (let b = g.0 in omega (arith, short, b))
no_why text w Memory short h g = refl
