-- No text of a proof is shorter than its canonical one.
use Rattle.std.proofs.Common.{◌≡◌, ◌⊎◌, inl, inr, ℕ, zero, suc, ◌+◌, ◌/◌, ◌%◌, ◌≤◌, Bool, true, false, cond, List, [], ◌∷◌, ◌++◌, length, map, refl, sym, ap, subst, ◌∙◌, arith}
use Rattle.std.specs.Prelude.{codes, ◌==◌, not, int_lt, if◌then◌else◌}
use Rattle.std.specs.Fmt.{decimal, digits, digits_onto, digit_glyph}
use Rattle.std.specs.List.{AllZip, Contains, flat_map}
use Rattle.std.proofs.lemmas.Bool.{and_parts, eq-eqb, eqb-true, false≢true}
use Rattle.std.proofs.lemmas.Int.{ints}
use Rattle.std.proofs.lemmas.List.{length-append}
use Rattle.vmv_zone.specs.declared.zone.Zone.{Zone}
use Rattle.vmv_zone.specs.Bounds.{top_bound}
use Rattle.vmv_zone.specs.Zone.{vars_of, bound_of}
use Rattle.vmv_proof.specs.declared.proof.Proof.{Proof}
use Rattle.vmv_proof_text.specs.Parts.{Part, opening_part, exclusions_part, exclude_part, box_part, table_part, row_part, input_part, keep_part, result_part, left_part, entries_part, plain_part, given_part, end_part, parts_of_proof}
use Rattle.vmv_proof_text.specs.States.{Bound, bounds_below_top, marked_variables}
use Rattle.vmv_proof_text.specs.Naming.{Precedes, AreSorted, IsNaming}
use Rattle.vmv_proof_text.specs.Text.{bound_words, bounds_text, marks_text, told_state, state_text, line_of, proof_text}
use Rattle.vmv_proof_text.specs.Lines.{IsLine, IsState}
use Rattle.vmv_proof_text.specs.Faults.{Line, IsProofText}
use Rattle.vmv_witness.specs.Text.{text_of}
use Rattle.vmv_proof_read.proofs.OneState.{HasBoundOn, LacksBoundOn, either_bound}
use Rattle.vmv_proof_read.proofs.Namings.{things_named, things_sorted}

-- no longer than the other
abbrev IsShort : {A : Type 0} → List A → List A → Type 0
IsShort xs ys = length xs ≤ length ys

short_self : {A : Type 0} (xs : List A) → IsShort xs xs
short_self xs = omega arith

short_same : {A : Type 0} (xs ys : List A) → ys ≡ xs → IsShort xs ys
short_same xs ys e = omega (arith, ap length e)

short_append : (a b c d : List ℕ) → IsShort a c → IsShort b d → IsShort (a ++ b) (c ++ d)
short_append a b c d h k = omega (arith, h, k, length-append a b, length-append c d)

short_behind : (a b c : List ℕ) → IsShort b c → IsShort (a ++ b) (a ++ c)
short_behind a b c h = short_append a b a c (short_self a) h

onto_grows : (k n : ℕ) (xs : List ℕ) → IsShort xs (digits_onto k 10 false n xs)
onto_grows zero n xs = omega arith
onto_grows (suc k) n xs = either (n / 10 == 0) (digits_onto k 10 false (n / 10) (digit_glyph false (n % 10) ∷ xs)) (onto_grows k (n / 10) (digit_glyph false (n % 10) ∷ xs))
  where
    either : (t : Bool) (ys : List ℕ) → IsShort (digit_glyph false (n % 10) ∷ xs) ys → IsShort xs (cond t (digit_glyph false (n % 10) ∷ xs) ys)
    either true ys h = omega arith
    either false ys h = omega (arith, h)

onto_short : (k m n : ℕ) (xs ys : List ℕ) → m ≤ n → IsShort xs ys → IsShort (digits_onto k 10 false m xs) (digits_onto k 10 false n ys)
onto_short zero m n xs ys le h = h
onto_short (suc k) m n xs ys le h =
    let one : IsShort (digit_glyph false (m % 10) ∷ xs) (digit_glyph false (n % 10) ∷ ys) = omega (arith, h) in
    let few : n / 10 == 0 ≡ true → m / 10 == 0 ≡ true = λ e. let z = eqb-true (n / 10) 0 e in eq-eqb (m / 10) 0 (omega (arith, z, le)) in
    either (m / 10 == 0) (n / 10 == 0) (digits_onto k 10 false (m / 10) (digit_glyph false (m % 10) ∷ xs)) (digits_onto k 10 false (n / 10) (digit_glyph false (n % 10) ∷ ys))
    few one (onto_grows k (n / 10) (digit_glyph false (n % 10) ∷ ys)) (onto_short k (m / 10) (n / 10) (digit_glyph false (m % 10) ∷ xs) (digit_glyph false (n % 10) ∷ ys) (omega (arith, le)) one)
  where
    either : (t u : Bool) (a c : List ℕ) → (u ≡ true → t ≡ true) → IsShort (digit_glyph false (m % 10) ∷ xs) (digit_glyph false (n % 10) ∷ ys) → IsShort (digit_glyph false (n % 10) ∷ ys) c → IsShort a c
        → IsShort (cond t (digit_glyph false (m % 10) ∷ xs) a) (cond u (digit_glyph false (n % 10) ∷ ys) c)
    either true true a c few one grown both = one
    either true false a c few one grown both = omega (arith, one, grown)
    either false true a c few one grown both = absurd (false≢true (few refl))
    either false false a c few one grown both = both

-- the digits of the less number are no more
decimal_short : (m n : ℕ) → m ≤ n → IsShort (decimal m) (decimal n)
unfolding digits
decimal_short m n le = onto_short 64 m n [] [] le (omega arith)

never_both : (b c : Bound) → Precedes b c → Precedes c b → ⊥
never_both b c (inl p) (inl q) = omega arith
never_both b c (inl p) (inr q) = omega (arith, q.0)
never_both b c (inr p) (inl q) = omega (arith, p.0)
never_both b c (inr p) (inr q) = omega (arith, p.1, q.1)

-- fewer bounds, in a shorter text
record AreShort (xs ys : List Bound) : Type 0 where
  count : IsShort xs ys
  text : IsShort (flat_map bound_words xs) (flat_map bound_words ys)

abbrev Has : List Bound → List Bound → Type 0
Has ys xs = (b : Bound) → Contains xs b → Contains ys b

-- both begin with the same bound: the rest has the rest
has_rest : (x y : Bound) (xs ys : List Bound) → AreSorted (x ∷ xs) → y ≡ x → Has (y ∷ ys) (x ∷ xs) → Has ys xs
has_rest x y xs ys s e h b at = by (h b (suc at.0, omega (arith, at.1), at.2))
  where
    by : Contains (y ∷ ys) b → Contains ys b
    by (zero, few, same) = absurd (never_both b b (subst (λ c. Precedes c b) (sym e ∙ same) (s.0 b at)) (subst (λ c. Precedes c b) (sym e ∙ same) (s.0 b at)))
    by (suc k, few, same) = (k, omega arith, same)

-- the first stands behind another first: all stand behind that one
has_behind : (x y : Bound) (xs ys : List Bound) → AreSorted (x ∷ xs) → AreSorted (y ∷ ys) → Contains ys x → Has (y ∷ ys) (x ∷ xs) → Has ys (x ∷ xs)
has_behind x y xs ys s t member h b at = by at (h b at)
  where
    first : Precedes y x
    first = t.0 x member

    by : Contains (x ∷ xs) b → Contains (y ∷ ys) b → Contains ys b
    by p (suc k, few, same) = (k, omega arith, same)
    by (zero, less, e) (zero, few, same) = subst (Contains ys) e member
    by (suc j, less, e) (zero, few, same) = absurd (never_both y x first (subst (Precedes x) (sym same) (s.0 b (j, omega arith, e))))

are_short : (xs ys : List Bound) → AreSorted xs → AreSorted ys → Has ys xs → AreShort xs ys
are_short [] ys s t h = record { count = omega arith; text = omega arith }
are_short (x ∷ xs) [] s t h = absurd (let at = h x (0, omega arith, refl) in omega (arith, at.1))
are_short (x ∷ xs) (y ∷ ys) s t h =
    by (h x (0, omega arith, refl)) (λ e. are_short xs ys s.1 t.1 (has_rest x y xs ys s e h)) (λ at. are_short (x ∷ xs) ys s t.1 (has_behind x y xs ys s t at h))
  where
    by : Contains (y ∷ ys) x → (y ≡ x → AreShort xs ys) → (Contains ys x → AreShort (x ∷ xs) ys) → AreShort (x ∷ xs) (y ∷ ys)
    by (zero, few, same) f g =
        let r = f same in
        record {
          count = omega (arith, r.count);
          text = short_append (bound_words x) (flat_map bound_words xs) (bound_words y) (flat_map bound_words ys) (short_same (bound_words x) (bound_words y) (ap bound_words same)) r.text;
        }
    by (suc k, few, same) f g =
        let r = g (k, omega arith, same) in
        record { count = omega (arith, r.count); text = omega (arith, r.text, length-append (bound_words y) (flat_map bound_words ys)) }

-- each bound that is below top's is named
has_below : (z : Zone) (bs : List Bound) → IsNaming z bs → Has bs (bounds_below_top z)
has_below z bs h b at = by (either_bound bs b.0 b.1)
  where
    by : HasBoundOn bs b.0 b.1 ⊎ LacksBoundOn bs b.0 b.1 → Contains bs b
    by (inl r) =
        let named = (things_named z (vars_of z + 1) b at).1.bound in
        let bound : r.bound.2 ≡ b.2 = (h.each r.bound r.at).same ∙ ((λ i. bound_of z (r.first i) (r.second i)) ∙ sym named.same) in
        let same : r.bound ≡ b = λ i. (r.first i, r.second i, bound i) in
        subst (Contains bs) same r.at
    by (inr none) =
        let r = things_named z (vars_of z + 1) b at in
        let top = h.others b.0 b.1 (omega (arith, r.0)) (omega (arith, r.1.second)) none in
        let less = (and_parts (not (b.0 == b.1)) (int_lt (bound_of z b.0 b.1) (top_bound b.0 b.1)) r.1.bound.named).1 in
        absurd (grind (arith, ints, top, less))

told_short : (z : Zone) (bs : List Bound) → IsNaming z bs → IsShort (told_state (vars_of z) (bounds_below_top z) (marked_variables z)) (told_state (vars_of z) bs (marked_variables z))
told_short z bs h =
    let below : List Bound = bounds_below_top z in
    let marks : List ℕ = marks_text (marked_variables z) in
    let r = are_short below bs (things_sorted z (vars_of z + 1)) h.sorted (has_below z bs h) in
    let bounds = short_append (decimal (length below)) (flat_map bound_words below) (decimal (length bs)) (flat_map bound_words bs) (decimal_short (length below) (length bs) r.count) r.text in
    let named = short_behind (codes " bounds ") (decimal (length below) ++ flat_map bound_words below) (decimal (length bs) ++ flat_map bound_words bs) bounds in
    let all = short_append (bounds_text below) marks (bounds_text bs) marks named (short_self marks) in
    short_behind (codes " vars ") (decimal (vars_of z) ++ (bounds_text below ++ marks)) (decimal (vars_of z) ++ (bounds_text bs ++ marks)) (short_behind (decimal (vars_of z)) (bounds_text below ++ marks) (bounds_text bs ++ marks) all)

state_is : (z : Zone) (t : Bool) → z.bottom ≡ t → state_text z ≡ (if t then codes " bottom " ++ decimal (vars_of z) else told_state (vars_of z) (bounds_below_top z) (marked_variables z))
state_is z t e = ap (λ u. if u then codes " bottom " ++ decimal (vars_of z) else told_state (vars_of z) (bounds_below_top z) (marked_variables z)) e

state_short : (z : Zone) (bytes : List ℕ) → IsState z bytes → IsShort (state_text z) bytes
state_short z bytes (few, inl (b, e)) = short_same (state_text z) bytes (e ∙ sym (state_is z true b))
state_short z bytes (few, inr h) = omega (arith, ap length (state_is z false h.not_bottom), told_short z h.bounds h.naming, ap length h.same)

state_line_short : (word bytes line : List ℕ) (z : Zone) → line ≡ word ++ bytes → IsState z bytes → IsShort (word ++ state_text z) line
state_line_short word bytes line z e h = omega (arith, ap length e, short_behind word (state_text z) bytes (state_short z bytes h))

line_short : (part : Part) (line : Line) → IsLine part line → IsShort (line_of part) line
line_short opening_part line h = short_same (line_of opening_part) line h
line_short (exclusions_part n) line h = short_same (line_of (exclusions_part n)) line h.1
line_short (exclude_part e n p u) line h = short_same (line_of (exclude_part e n p u)) line h.4
line_short (box_part rs) line h = short_same (line_of (box_part rs)) line h.2
line_short (table_part n) line h = short_same (line_of (table_part n)) line h.1
line_short (row_part p n) line h = short_same (line_of (row_part p n)) line h.2
line_short (input_part z) line (bytes, e, h) = state_line_short (codes "input") bytes line z e h
line_short (keep_part z) line (bytes, e, h) = state_line_short (codes "keep") bytes line z e h
line_short (result_part r) line h = short_same (line_of (result_part r)) line h.1
line_short (left_part ss) line h = short_same (line_of (left_part ss)) line h.2
line_short (entries_part n) line h = short_same (line_of (entries_part n)) line h.1
line_short (plain_part e) line h = short_same (line_of (plain_part e)) line h.1
line_short (given_part e) line h = short_same (line_of (given_part e)) line h.1
line_short end_part line h = short_same (line_of end_part) line h

lines_short : (parts : List Part) (lines : List Line) → AllZip IsLine parts lines → IsShort (text_of (map line_of parts)) (text_of lines)
lines_short [] [] t = omega arith
lines_short [] (line ∷ lines) t = absurd t
lines_short (part ∷ parts) [] t = absurd t
lines_short (part ∷ parts) (line ∷ lines) t =
    short_append (line_of part) (10 ∷ text_of (map line_of parts)) line (10 ∷ text_of lines) (line_short part line t.0) (short_behind (10 ∷ []) (text_of (map line_of parts)) (text_of lines) (lines_short parts lines t.1))

pub proof_short : (text : List ℕ) (p : Proof) → IsProofText text p → length (proof_text p) ≤ length text
proof_short text p h = omega (arith, lines_short (parts_of_proof p) h.lines h.told, ap length h.same)
