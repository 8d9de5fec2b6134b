-- The text of what a procedure may return is of one such thing.
use Rattle.std.proofs.Common.{◌≡◌, true, false, Bool, ℤ, pos, negsuc, suc, [], ◌∷◌, ◌++◌, refl, sym, ap, subst, ◌∙◌, arith, append_assoc}
use Rattle.std.specs.Prelude.{codes, int_lt, ◌&&◌}
use Rattle.std.specs.Fmt.{decimal, signed_decimal}
use Rattle.std.proofs.lemmas.Fmt.{signed_decimal_injective, decimal_digit}
use Rattle.std.proofs.lemmas.Int.{ints}
use Rattle.std.proofs.lemmas.List.{append-nil, append_cancel_left}
use Rattle.vmv_cond.specs.declared.cond.Cond.{Cond}
use Rattle.vmv_cond.specs.Normal.{IsNormal}
use Rattle.vmv_cond.proofs.Same.{same_fields}
use Rattle.vmv_cert.specs.declared.row.Reach.{Reach}
use Rattle.vmv_cert.specs.declared.row.Reach.TheVariants.{Bottom, Value}
use Rattle.vmv_witness.specs.Reading.{lacks}
use Rattle.vmv_witness.proofs.Bytes.{lacks-cons, lacks_none, same_split}
use Rattle.vmv_witness.proofs.Digits.{word_mag}
use Rattle.vmv_proof_text.specs.Text.{spaced, zero_text, is_zero_left_out, cond_text, reach_text}
use Rattle.vmv_proof_text.specs.Lines.{IsReach, IsRange}
use Rattle.std.proofs.Common.{inl, inr}
use Rattle.std.proofs.lemmas.Bool.{and_parts, false≢true}
use Rattle.vmv_tree.specs.Words.{IsWord}
use Rattle.vmv_witness.proofs.Bytes.{lacks_head}
use Rattle.vmv_proof_text.specs.Text.{range_text}
use Rattle.vmv_proof_text.specs.Loose.{IsNegative, IsReachLoosely}
use Rattle.vmv_proof_read.proofs.WordLists.{decimal_lacks, signed_lacks}
use Rattle.vmv_proof_read.proofs.Loosely.{end_number}

no_dot : (z : ℤ) → lacks 46 (spaced (signed_decimal z)) ≡ true
no_dot (pos n) = lacks-cons 46 32 (decimal n) (λ e. omega arith) (decimal_lacks 46 (omega arith) n)
no_dot (negsuc n) = lacks-cons 46 32 (45 ∷ decimal (suc n)) (λ e. omega arith) (lacks-cons 46 45 (decimal (suc n)) (λ e. omega arith) (decimal_lacks 46 (omega arith) (suc n)))

-- the text of a range, split at its first dot
split_dot : (c : Cond) → cond_text c ≡ spaced (signed_decimal c.lo) ++ 46 ∷ ((46 ∷ signed_decimal c.hi) ++ zero_text (is_zero_left_out c))
split_dot c = append_assoc (spaced (signed_decimal c.lo)) (codes ".." ++ signed_decimal c.hi) (zero_text (is_zero_left_out c))

bottom_no_range : (c : Cond) → codes " bottom" ≡ cond_text c → ⊥
bottom_no_range c e =
    lacks_none 46 (spaced (signed_decimal c.lo)) ((46 ∷ signed_decimal c.hi) ++ zero_text (is_zero_left_out c)) (subst (λ t. lacks 46 t ≡ true) (e ∙ split_dot c) refl)

high_same : (a b : ℤ) (s t : Bool) → signed_decimal a ++ zero_text s ≡ signed_decimal b ++ zero_text t → (signed_decimal a ≡ signed_decimal b) × (s ≡ t)
high_same a b true true e = ((same_split 32 (signed_decimal a) (codes "not 0") (signed_decimal b) (codes "not 0") (signed_lacks 32 (omega arith) a) (signed_lacks 32 (omega arith) b) e).0, refl)
high_same a b true false e =
    absurd (lacks_none 32 (signed_decimal a) (codes "not 0") (subst (λ t. lacks 32 t ≡ true) (sym (e ∙ append-nil (signed_decimal b))) (signed_lacks 32 (omega arith) b)))
high_same a b false true e =
    absurd (lacks_none 32 (signed_decimal b) (codes "not 0") (subst (λ t. lacks 32 t ≡ true) (sym (append-nil (signed_decimal a)) ∙ e) (signed_lacks 32 (omega arith) a)))
high_same a b false false e = (sym (append-nil (signed_decimal a)) ∙ (e ∙ append-nil (signed_decimal b)), refl)

inside : (lo hi : ℤ) → IsNormal lo hi true → IsNormal lo hi false → (int_lt lo (pos 0) && int_lt (pos 0) hi) ≡ false → ⊥
inside lo hi m n e =
    let a = m.marked_lo refl in
    let b = m.marked_hi refl in
    let c = n.unmarked_lo refl in
    let d = n.unmarked_hi refl in
    grind (arith, ints)

mark_same : (lo hi : ℤ) (s t : Bool) → IsNormal lo hi s → IsNormal lo hi t → (s && int_lt lo (pos 0) && int_lt (pos 0) hi) ≡ (t && int_lt lo (pos 0) && int_lt (pos 0) hi) → s ≡ t
mark_same lo hi true true m n e = refl
mark_same lo hi true false m n e = absurd (inside lo hi m n e)
mark_same lo hi false true m n e = absurd (inside lo hi n m (sym e))
mark_same lo hi false false m n e = refl

conds_same : (c d : Cond) → IsRange (c.lo, c.hi) → IsRange (d.lo, d.hi) → cond_text c ≡ cond_text d → c ≡ d
conds_same c d h k e =
    let parts = same_split 46 (spaced (signed_decimal c.lo)) ((46 ∷ signed_decimal c.hi) ++ zero_text (is_zero_left_out c)) (spaced (signed_decimal d.lo)) ((46 ∷ signed_decimal d.hi) ++ zero_text (is_zero_left_out d))
    (no_dot c.lo) (no_dot d.lo) (sym (split_dot c) ∙ (e ∙ split_dot d)) in
    let highs = high_same c.hi d.hi (is_zero_left_out c) (is_zero_left_out d)
    (append_cancel_left (46 ∷ []) (signed_decimal c.hi ++ zero_text (is_zero_left_out c)) (signed_decimal d.hi ++ zero_text (is_zero_left_out d)) parts.1) in
    let lo = signed_decimal_injective c.lo d.lo (word_mag c.lo h.low) (word_mag d.lo k.low) (append_cancel_left (32 ∷ []) (signed_decimal c.lo) (signed_decimal d.lo) parts.0) in
    let hi = signed_decimal_injective c.hi d.hi (word_mag c.hi h.high) (word_mag d.hi k.high) highs.0 in
    let normal = subst (λ v. IsNormal v c.hi d.zero_out) (sym lo) (subst (λ v. IsNormal d.lo v d.zero_out) (sym hi) d.normal) in
    let left = highs.1 ∙ (ap (λ v. d.zero_out && int_lt v (pos 0) && int_lt (pos 0) d.hi) (sym lo) ∙ ap (λ v. d.zero_out && int_lt c.lo (pos 0) && int_lt (pos 0) v) (sym hi)) in
    same_fields c d lo hi (mark_same c.lo c.hi c.zero_out d.zero_out c.normal normal left)

-- what a procedure may return is told once
pub reach_told : (r s : Reach) → IsReach r → IsReach s → reach_text r ≡ reach_text s → r ≡ s
reach_told Bottom Bottom h k e = refl
reach_told Bottom (Value d) h k e = absurd (bottom_no_range d e)
reach_told (Value c) Bottom h k e = absurd (bottom_no_range c (sym e))
reach_told (Value c) (Value d) h k e = ap Value (conds_same c d h k e)

below_zero : (z : ℤ) → int_lt z (pos 0) ≡ true → IsNegative (signed_decimal z)
below_zero (pos n) e = absurd (let h : int_lt (pos n) (pos 0) ≡ true = e in grind (arith, ints))
below_zero (negsuc n) e = (decimal (suc n), refl)

above_zero : (z : ℤ) → int_lt (pos 0) z ≡ true → IsNegative (signed_decimal z) → ⊥
above_zero (pos n) e (digits, same) = lacks_head 45 45 digits (subst (λ t. lacks 45 t ≡ true) same (decimal_lacks 45 (omega arith) n)) refl
above_zero (negsuc n) e h = let k : int_lt (pos 0) (negsuc n) ≡ true = e in grind (arith, ints)

not_zero : (z : ℤ) → IsWord z → int_lt (pos 0) z ≡ true → signed_decimal z ≡ codes "0" → ⊥
not_zero z h e same =
    let zero : z ≡ pos 0 = signed_decimal_injective z (pos 0) (word_mag z h) (word_mag (pos 0) refl) (same ∙ sym (decimal_digit 0 (omega arith))) in
    false≢true (ap (λ v. int_lt (pos 0) v) (sym zero) ∙ e)

left_out : (c : Cond) → IsRange (c.lo, c.hi) → (t : Bool) → is_zero_left_out c ≡ t → IsReachLoosely (range_text c.lo c.hi ++ zero_text t)
left_out c h true e =
    let last = and_parts (c.zero_out && int_lt c.lo (pos 0)) (int_lt (pos 0) c.hi) e in
    let first = and_parts c.zero_out (int_lt c.lo (pos 0)) last.0 in
    inr (inr (
      signed_decimal c.lo,
      signed_decimal c.hi,
      end_number c.lo h.low,
      end_number c.hi h.high,
      record { below = below_zero c.lo first.1; above = above_zero c.hi last.1; other = not_zero c.hi h.high last.1 },
      append_assoc (spaced (signed_decimal c.lo)) (codes ".." ++ signed_decimal c.hi) (codes " not 0"),
    ))
left_out c h false e = inr (inl (signed_decimal c.lo, signed_decimal c.hi, end_number c.lo h.low, end_number c.hi h.high, append-nil (range_text c.lo c.hi)))

-- what a procedure may return is told loosely where it is told
pub reach_loosely : (r : Reach) → IsReach r → IsReachLoosely (reach_text r)
reach_loosely Bottom h = inl refl
reach_loosely (Value c) h = left_out c h (is_zero_left_out c) refl
