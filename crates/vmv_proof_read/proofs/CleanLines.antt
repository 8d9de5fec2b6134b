-- No line that would tell a part but for the size of its numbers has LF in it.
use Rattle.std.proofs.Common.{◌≡◌, inl, inr, ℕ, zero, suc, ◌+◌, true, List, [], ◌∷◌, ◌++◌, length, refl, sym, subst, arith}
use Rattle.std.specs.Prelude.{codes, nat_lt, Bool, false, cond, ◌==◌, ◌/◌, ◌%◌}
use Rattle.std.specs.Fmt.{decimal, digits, digits_onto, digit_glyph}
use Rattle.std.specs.List.{All, flat_map}
use Rattle.vmv_witness.specs.Numbers.{IsNumber}
use Rattle.vmv_witness.specs.Reading.{lacks}
use Rattle.vmv_witness.proofs.Bytes.{lacks-append, lacks-cons}
use Rattle.vmv_witness.proofs.Digits.{number_lacks}
use Rattle.vmv_witness.proofs.Clean.{name_lacks}
use Rattle.vmv_proof_text.specs.Parts.{opening_part, exclusions_part, exclude_part, box_part, table_part, row_part, input_part, keep_part, result_part, left_part, entries_part, plain_part, given_part, end_part}
use Rattle.vmv_proof_text.specs.Text.{spaced}
use Rattle.vmv_proof_text.specs.Lines.{IsName}
use Rattle.vmv_proof_text.specs.Loose.{Digits, IsCountLoosely, IsPieceLoosely, IsStateLoosely, IsToldLoosely, IsReachLoosely, SpelledBound, AreNumbers, spelled_bound, SpelledSite, spelled_site, spelled_range}
use Rattle.vmv_proof_read.proofs.Singles.{AreClean}

abbrev IsClean : List ℕ → Type 0
IsClean bytes = lacks 10 bytes ≡ true

both : (xs ys : List ℕ) → IsClean xs → IsClean ys → IsClean (xs ++ ys)
both xs ys h k = lacks-append 10 xs ys h k

behind_space : (xs : List ℕ) → IsClean xs → IsClean (spaced xs)
behind_space xs h = lacks-cons 10 32 xs (λ e. omega arith) h

named : (name : List ℕ) → IsName name → IsClean name
named name h = name_lacks 10 refl name h

told : (line bytes : List ℕ) → line ≡ bytes → IsClean bytes → IsClean line
told line bytes e h = subst IsClean (sym e) h

glyph : (t : Bool) (d : ℕ) → cond t (48 + d) (87 + d) ≡ 10 → ⊥
glyph true d e = omega arith
glyph false d e = omega arith

onto_clean : (k n : ℕ) (acc : List ℕ) → IsClean acc → IsClean (digits_onto k 10 false n acc)
onto_clean zero n acc h = h
onto_clean (suc k) n acc h =
    let more : IsClean (digit_glyph false (n % 10) ∷ acc) = lacks-cons 10 (digit_glyph false (n % 10)) acc (glyph (nat_lt (n % 10) 10) (n % 10)) h in
    either (n / 10 == 0) (digit_glyph false (n % 10) ∷ acc) (digits_onto k 10 false (n / 10) (digit_glyph false (n % 10) ∷ acc)) more
    (onto_clean k (n / 10) (digit_glyph false (n % 10) ∷ acc) more)
  where
    either : (t : Bool) (xs ys : List ℕ) → IsClean xs → IsClean ys → IsClean (cond t xs ys)
    either true xs ys a b = a
    either false xs ys a b = b

counted : (n : ℕ) → IsClean (decimal n)
unfolding digits
counted n = onto_clean 64 n [] refl

number_clean : (number : List ℕ) → IsNumber number → IsClean number
number_clean number k = number_lacks number k

count_clean : (word line : List ℕ) → IsClean word → IsCountLoosely word line → IsClean line
count_clean word line h (number, k, e) = told line (word ++ number) e (both word number h (number_lacks number k))

piece_clean : (bytes : List ℕ) → IsPieceLoosely bytes → IsClean bytes
piece_clean bytes (inl (end, k, e)) = told bytes (codes " below " ++ end) e (both (codes " below ") end refl (number_lacks end k))
piece_clean bytes (inr (inl (end, k, e))) = told bytes (codes " above " ++ end) e (both (codes " above ") end refl (number_lacks end k))
piece_clean bytes (inr (inr e)) = told bytes (codes " zero") e refl

each_clean : {A : Type 0} (P : A → Type 0) (word : A → List ℕ) → ((x : A) → P x → IsClean (word x)) → (xs : List A) → All P xs → IsClean (flat_map word xs)
each_clean P word clean [] h = refl
each_clean P word clean (x ∷ xs) h = both (word x) (flat_map word xs) (clean x (h 0 x (omega arith))) (each_clean P word clean xs (λ k d few. h (suc k) d (omega arith)))

bound_clean : (b : SpelledBound) → AreNumbers b → IsClean (spelled_bound b)
bound_clean b n =
    both (spaced b.0) (spaced b.1 ++ spaced b.2) (behind_space b.0 (number_lacks b.0 n.first))
    (both (spaced b.1) (spaced b.2) (behind_space b.1 (number_lacks b.1 n.second)) (behind_space b.2 (number_lacks b.2 n.bound)))

mark_clean : (m : Digits) → IsNumber m → IsClean (spaced m)
mark_clean m n = behind_space m (number_lacks m n)

state_words : (vars count bounds number marks : List ℕ) → IsClean vars → IsClean count → IsClean bounds → IsClean number → IsClean marks
    → IsClean (codes " vars " ++ (vars ++ (codes " bounds " ++ (count ++ (bounds ++ (codes " nonzero " ++ (number ++ marks)))))))
state_words vars count bounds number marks a b c d e =
    let five = both (codes " nonzero ") (number ++ marks) refl (both number marks d e) in
    let four = both bounds (codes " nonzero " ++ (number ++ marks)) c five in
    let three = both count (bounds ++ (codes " nonzero " ++ (number ++ marks))) b four in
    let two = both (codes " bounds ") (count ++ (bounds ++ (codes " nonzero " ++ (number ++ marks)))) refl three in
    both (codes " vars ") (vars ++ (codes " bounds " ++ (count ++ (bounds ++ (codes " nonzero " ++ (number ++ marks)))))) refl
    (both vars (codes " bounds " ++ (count ++ (bounds ++ (codes " nonzero " ++ (number ++ marks))))) a two)

told_state_clean : (bytes : List ℕ) → IsToldLoosely bytes → IsClean bytes
told_state_clean bytes t =
    told bytes
    (codes " vars " ++ (t.vars ++ (codes " bounds " ++ (decimal (length t.bounds) ++ (flat_map spelled_bound t.bounds ++ (codes " nonzero " ++ (decimal (length t.marks) ++ flat_map spaced t.marks)))))))
    t.same
    (state_words t.vars (decimal (length t.bounds)) (flat_map spelled_bound t.bounds) (decimal (length t.marks)) (flat_map spaced t.marks)
    (number_lacks t.vars t.vars_number) (counted (length t.bounds)) (each_clean AreNumbers spelled_bound bound_clean t.bounds t.bounds_numbers)
    (counted (length t.marks)) (each_clean IsNumber spaced mark_clean t.marks t.marks_numbers))

state_clean : (bytes : List ℕ) → IsStateLoosely bytes → IsClean bytes
state_clean bytes (inl (vars, n, e)) = told bytes (codes " bottom " ++ vars) e (both (codes " bottom ") vars refl (number_lacks vars n))
state_clean bytes (inr t) = told_state_clean bytes t

reach_clean : (bytes : List ℕ) → IsReachLoosely bytes → IsClean bytes
reach_clean bytes (inl e) = told bytes (codes " bottom") e refl
reach_clean bytes (inr (inl (lo, hi, m, n, e))) =
    told bytes (spaced lo ++ (codes ".." ++ hi)) e (both (spaced lo) (codes ".." ++ hi) (mark_clean lo m) (both (codes "..") hi refl (number_lacks hi n)))
reach_clean bytes (inr (inr (lo, hi, m, n, around, e))) =
    told bytes (spaced lo ++ (codes ".." ++ (hi ++ codes " not 0"))) e
    (both (spaced lo) (codes ".." ++ (hi ++ codes " not 0")) (mark_clean lo m)
    (both (codes "..") (hi ++ codes " not 0") refl (both hi (codes " not 0") (number_lacks hi n) refl)))

site_clean : (s : SpelledSite) → IsName s.0 × IsNumber s.1 → IsClean (spelled_site s)
site_clean s (h, n) = both (spaced s.0) (35 ∷ s.1) (behind_space s.0 (named s.0 h)) (lacks-cons 10 35 s.1 (λ e. omega arith) (number_lacks s.1 n))

range_clean : (r : Digits × Digits) → IsNumber r.0 × IsNumber r.1 → IsClean (spelled_range r)
range_clean r (m, n) = both (spaced r.0) (spaced r.1) (mark_clean r.0 m) (mark_clean r.1 n)

word_clean : (word name line : List ℕ) → IsClean word → IsName name → line ≡ word ++ spaced name → IsClean line
word_clean word name line h n e = told line (word ++ spaced name) e (both word (spaced name) h (behind_space name (named name n)))

pub lines_clean : AreClean
lines_clean opening_part line e = told line (codes "vmv-proof 1") e refl
lines_clean (exclusions_part n) line h = count_clean (codes "exclusions ") line refl h
lines_clean (exclude_part e n p u) line (entry, name, piece, under, a, b, c, d, same) =
    let last = both (codes " under ") under refl (number_lacks under d) in
    let third = both piece (codes " under " ++ under) (piece_clean piece c) last in
    let second = both (spaced name) (piece ++ (codes " under " ++ under)) (behind_space name (named name b)) third in
    let first = both (spaced entry) (spaced name ++ (piece ++ (codes " under " ++ under))) (behind_space entry (named entry a)) second in
    told line (codes "exclude" ++ (spaced entry ++ (spaced name ++ (piece ++ (codes " under " ++ under))))) same (both (codes "exclude") (spaced entry ++ (spaced name ++ (piece ++ (codes " under " ++ under)))) refl first)
lines_clean (box_part rs) line (ranges, few, h, e) =
    told line (codes "box" ++ flat_map spelled_range ranges) e (both (codes "box") (flat_map spelled_range ranges) refl (each_clean (λ r. IsNumber r.0 × IsNumber r.1) spelled_range range_clean ranges h))
lines_clean (table_part n) line h = count_clean (codes "table ") line refl h
lines_clean (row_part p n) line (proc, loops, a, b, e) =
    told line (codes "row" ++ (spaced proc ++ spaced loops)) e
    (both (codes "row") (spaced proc ++ spaced loops) refl (both (spaced proc) (spaced loops) (behind_space proc (named proc a)) (mark_clean loops b)))
lines_clean (input_part z) line (bytes, e, h) = told line (codes "input" ++ bytes) e (both (codes "input") bytes refl (state_clean bytes h))
lines_clean (keep_part z) line (bytes, e, h) = told line (codes "keep" ++ bytes) e (both (codes "keep") bytes refl (state_clean bytes h))
lines_clean (result_part r) line (bytes, e, h) = told line (codes "result" ++ bytes) e (both (codes "result") bytes refl (reach_clean bytes h))
lines_clean (left_part ss) line (sites, h, e) =
    told line (codes "left " ++ (decimal (length sites) ++ flat_map spelled_site sites)) e
    (both (codes "left ") (decimal (length sites) ++ flat_map spelled_site sites) refl
    (both (decimal (length sites)) (flat_map spelled_site sites) (counted (length sites)) (each_clean (λ s. IsName s.0 × IsNumber s.1) spelled_site site_clean sites h)))
lines_clean (entries_part n) line h = count_clean (codes "entries ") line refl h
lines_clean (plain_part e) line (entry, n, same) = word_clean (codes "plain") entry line refl n same
lines_clean (given_part e) line (n, same) = word_clean (codes "given") e line refl n same
lines_clean end_part line e = told line (codes "end") e refl
