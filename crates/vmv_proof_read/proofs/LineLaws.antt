-- What the lines of proofs tell.
use Rattle.std.proofs.Common.{◌≡◌, ℕ, List, [], ◌∷◌, ◌++◌, refl, sym, ap, ◌∙◌, arith}
use Rattle.std.specs.Prelude.{codes}
use Rattle.std.specs.Fmt.{decimal, signed_decimal}
use Rattle.std.proofs.lemmas.Fmt.{decimal_injective, signed_decimal_injective}
use Rattle.std.specs.Prelude.{ℤ}
use Rattle.std.proofs.Common.{true}
use Rattle.vmv_tree.specs.Words.{IsWord}
use Rattle.vmv_cond.specs.declared.cond.Piece.{Piece}
use Rattle.vmv_cond.specs.declared.cond.Piece.TheVariants.{Below, Above, Zero}
use Rattle.vmv_witness.specs.Reading.{lacks}
use Rattle.vmv_witness.proofs.Digits.{word_mag}
use Rattle.std.proofs.lemmas.List.{append_cancel_left}
use Rattle.vmv_witness.proofs.Bytes.{same_split}
use Rattle.vmv_witness.proofs.Clean.{name_lacks}
use Rattle.vmv_proof_text.specs.Text.{spaced, piece_text, range_words, site_word, reach_text}
use Rattle.vmv_proof_read.proofs.Reaches.{reach_told, reach_loosely}
use Rattle.std.specs.List.{flat_map}
use Rattle.std.proofs.lemmas.List.{append-nil}
use Rattle.std.proofs.Common.{length, subst}
use Rattle.vmv_witness.proofs.Bytes.{lacks_none}
use Rattle.vmv_proof_read.proofs.WordLists.{decimal_lacks, signed_lacks, one_box_told, one_left_told}
use Rattle.vmv_tree.specs.declared.name.Name.{Name}
use Rattle.vmv_tree.specs.declared.site.NamedSite.{NamedSite}
use Rattle.vmv_cert.specs.Tables.{Box}
use Rattle.vmv_cert.specs.declared.row.Reach.{Reach}
use Rattle.vmv_zone.specs.declared.zone.Zone.{Zone}
use Rattle.vmv_proof_text.specs.Parts.{Part, opening_part, exclusions_part, exclude_part, box_part, table_part, row_part, input_part, keep_part, result_part, left_part, entries_part, plain_part, given_part, end_part}
use Rattle.vmv_proof_text.specs.Lines.{IsLine, IsCount, IsName, IsPiece, IsState}
use Rattle.vmv_proof_text.specs.Loose.{IsStateLoosely}
use Rattle.vmv_proof_read.proofs.Loosely.{count_number, count_loosely, piece_loosely, ranges_spelled, sites_spelled}
use Rattle.vmv_proof_line.specs.declared.exclude.ExcludeHead.{ExcludeHead}
use Rattle.vmv_proof_line.specs.declared.rows.RowHead.{RowHead}
use Rattle.vmv_proof_read.proofs.Singles.{AreClean}
use Rattle.vmv_proof_read.proofs.Places.{AreLoose}
use Rattle.vmv_proof_read.proofs.CleanLines.{lines_clean}
use Rattle.vmv_proof_read.proofs.OneState.{one_state_told}
use Rattle.vmv_proof_read.proofs.LooseStates.{state_told_loosely}

pub clean : AreClean
clean = lines_clean

-- a state that is told is told loosely
state_loosely : (z : Zone) (bytes : List ℕ) → IsState z bytes → IsStateLoosely bytes
state_loosely z bytes h = state_told_loosely z bytes h

pub loose : AreLoose
loose opening_part line e = e
loose (exclusions_part n) line h = count_loosely (codes "exclusions ") line n h.0 h.1
loose (exclude_part e n p u) line h = (e, n, piece_text p, decimal u, h.0, h.1, piece_loosely p h.2, count_number u h.3, h.4)
loose (box_part rs) line h =
    let s = ranges_spelled rs h.1 in
    (s.list, omega (arith, h.0, s.count), s.each, h.2 ∙ ap (λ t. codes "box" ++ t) s.same)
loose (table_part n) line h = count_loosely (codes "table ") line n h.0 h.1
loose (row_part p n) line h = (p, decimal n, h.0, count_number n h.1, h.2)
loose (input_part z) line (bytes, e, h) = (bytes, e, state_loosely z bytes h)
loose (keep_part z) line (bytes, e, h) = (bytes, e, state_loosely z bytes h)
loose (result_part r) line h = (reach_text r, h.1, reach_loosely r h.0)
loose (left_part ss) line h =
    let s = sites_spelled ss h.1 in
    (s.list, s.each, h.2 ∙ (ap (λ n. codes "left " ++ (decimal n ++ flat_map site_word ss)) (sym s.count) ∙ ap (λ t. codes "left " ++ (decimal (length s.list) ++ t)) s.same))
loose (entries_part n) line h = count_loosely (codes "entries ") line n h.0 h.1
loose (plain_part e) line h = (e, h.0, h.1)
loose (given_part e) line h = h
loose end_part line e = e

abbrev pub exclude : ExcludeHead → Part
exclude h = exclude_part h.entry h.name h.piece h.under

abbrev pub row : RowHead → Part
row h = row_part h.proc h.loops

-- a line tells one value of a kind
abbrev pub AreOne : {A : Type 0} → (A → Part) → Type 0
AreOne {A = A} k = (x y : A) (line : List ℕ) → IsLine (k x) line → IsLine (k y) line → x ≡ y

-- the word and a number of 32 bits
one_count : (word : List ℕ) (x y : ℕ) (line : List ℕ) → IsCount x × (line ≡ word ++ decimal x) → IsCount y × (line ≡ word ++ decimal y) → x ≡ y
one_count word x y line h k =
    decimal_injective x y (omega (arith, h.0)) (omega (arith, k.0)) (append_cancel_left word (decimal x) (decimal y) (sym h.1 ∙ k.1))

pub one_exclusions : AreOne {A = ℕ} exclusions_part
one_exclusions x y line h k = one_count (codes "exclusions ") x y line h k

under_same : (u v : ℕ) → IsCount u → IsCount v → decimal u ≡ decimal v → u ≡ v
under_same u v c d e = decimal_injective u v (omega (arith, c)) (omega (arith, d)) e

-- a byte that no number has
number_lacks_space : (z : ℤ) → IsWord z → lacks 32 (signed_decimal z) ≡ true
number_lacks_space z h = signed_lacks 32 (omega arith) z

end_same : (a b : ℤ) (u v : ℕ) → IsWord a → IsWord b → IsCount u → IsCount v → signed_decimal a ++ (codes " under " ++ decimal u) ≡ signed_decimal b ++ (codes " under " ++ decimal v) → (a ≡ b) × (u ≡ v)
end_same a b u v h k c d e =
    let s = same_split 32 (signed_decimal a) (codes "under " ++ decimal u) (signed_decimal b) (codes "under " ++ decimal v) (number_lacks_space a h) (number_lacks_space b k) e in
    (signed_decimal_injective a b (word_mag a h) (word_mag b k) s.0, under_same u v c d (append_cancel_left (codes "under ") (decimal u) (decimal v) s.1))

piece_word : (p : Piece) (u : ℕ) → (rest : List ℕ) × (piece_text p ++ (codes " under " ++ decimal u) ≡ 32 ∷ rest)
piece_word (Below a) u = (_, refl)
piece_word (Above a) u = (_, refl)
piece_word Zero u = (_, refl)

name_same : (n m : Name) (p q : Piece) (u v : ℕ) → IsName n → IsName m → n ++ (piece_text p ++ (codes " under " ++ decimal u)) ≡ m ++ (piece_text q ++ (codes " under " ++ decimal v))
    → (n ≡ m) × (piece_text p ++ (codes " under " ++ decimal u) ≡ piece_text q ++ (codes " under " ++ decimal v))
name_same n m p q u v h k e =
    let a = piece_word p u in
    let b = piece_word q v in
    let s = same_split 32 n a.0 m b.0 (name_lacks 32 refl n h) (name_lacks 32 refl m k) (ap (λ t. n ++ t) (sym a.1) ∙ (e ∙ ap (λ t. m ++ t) b.1)) in
    (s.0, a.1 ∙ (ap (λ t. 32 ∷ t) s.1 ∙ sym b.1))

-- a number behind a word, and the words `under` and a number behind it
piece_same : (p q : Piece) (u v : ℕ) → IsPiece p → IsPiece q → IsCount u → IsCount v → piece_text p ++ (codes " under " ++ decimal u) ≡ piece_text q ++ (codes " under " ++ decimal v) → (p ≡ q) × (u ≡ v)
piece_same (Below a) (Below b) u v h k c d e =
    let s = end_same a b u v h k c d (append_cancel_left (codes " below ") (signed_decimal a ++ (codes " under " ++ decimal u)) (signed_decimal b ++ (codes " under " ++ decimal v)) e) in
    (ap Below s.0, s.1)
piece_same (Below a) (Above b) u v h k c d e = let s : ◌≡◌ {A = ℕ} 98 97 = cc in absurd (omega arith)
piece_same (Below a) Zero u v h k c d e = let s : ◌≡◌ {A = ℕ} 98 122 = cc in absurd (omega arith)
piece_same (Above a) (Below b) u v h k c d e = let s : ◌≡◌ {A = ℕ} 97 98 = cc in absurd (omega arith)
piece_same (Above a) (Above b) u v h k c d e =
    let s = end_same a b u v h k c d (append_cancel_left (codes " above ") (signed_decimal a ++ (codes " under " ++ decimal u)) (signed_decimal b ++ (codes " under " ++ decimal v)) e) in
    (ap Above s.0, s.1)
piece_same (Above a) Zero u v h k c d e = let s : ◌≡◌ {A = ℕ} 97 122 = cc in absurd (omega arith)
piece_same Zero (Below b) u v h k c d e = let s : ◌≡◌ {A = ℕ} 122 98 = cc in absurd (omega arith)
piece_same Zero (Above b) u v h k c d e = let s : ◌≡◌ {A = ℕ} 122 97 = cc in absurd (omega arith)
piece_same Zero Zero u v h k c d e = (refl, under_same u v c d (append_cancel_left (codes " zero under ") (decimal u) (decimal v) e))

pub one_exclude : AreOne {A = ExcludeHead} exclude
one_exclude x y line h k =
    let entries = same_split 32 x.entry (x.name ++ (piece_text x.piece ++ (codes " under " ++ decimal x.under))) y.entry (y.name ++ (piece_text y.piece ++ (codes " under " ++ decimal y.under)))
    (name_lacks 32 refl x.entry h.0) (name_lacks 32 refl y.entry k.0)
    (append_cancel_left (codes "exclude ") (x.entry ++ (spaced x.name ++ (piece_text x.piece ++ (codes " under " ++ decimal x.under))))
    (y.entry ++ (spaced y.name ++ (piece_text y.piece ++ (codes " under " ++ decimal y.under)))) (sym h.4 ∙ k.4)) in
    let names = name_same x.name y.name x.piece y.piece x.under y.under h.1 k.1 entries.1 in
    let pieces = piece_same x.piece y.piece x.under y.under h.2 k.2 h.3 k.3 names.1 in
    λ i. record { entry = entries.0 i; name = names.0 i; piece = pieces.0 i; under = pieces.1 i }

pub one_box : AreOne {A = Box} box_part
one_box x y line h k = one_box_told x y h.1 k.1 (append_cancel_left (codes "box") (flat_map range_words x) (flat_map range_words y) (sym h.2 ∙ k.2))

pub one_table : AreOne {A = ℕ} table_part
one_table x y line h k = one_count (codes "table ") x y line h k

pub one_row : AreOne {A = RowHead} row
one_row x y line h k =
    let same = same_split 32 x.proc (decimal x.loops) y.proc (decimal y.loops) (name_lacks 32 refl x.proc h.0) (name_lacks 32 refl y.proc k.0)
    (append_cancel_left (codes "row ") (x.proc ++ spaced (decimal x.loops)) (y.proc ++ spaced (decimal y.loops)) (sym h.2 ∙ k.2)) in
    let loops = decimal_injective x.loops y.loops (omega (arith, h.1)) (omega (arith, k.1)) same.1 in
    λ i. record { proc = same.0 i; loops = loops i }

-- bytes tell one state
one_state : (x y : Zone) (bytes : List ℕ) → IsState x bytes → IsState y bytes → x ≡ y
one_state x y bytes h k = one_state_told x y bytes h k

pub one_input : AreOne {A = Zone} input_part
one_input x y line (a, e, h) (b, f, k) = one_state x y a h (subst (IsState y) (sym (append_cancel_left (codes "input") a b (sym e ∙ f))) k)

pub one_keep : AreOne {A = Zone} keep_part
one_keep x y line (a, e, h) (b, f, k) = one_state x y a h (subst (IsState y) (sym (append_cancel_left (codes "keep") a b (sym e ∙ f))) k)

pub one_result : AreOne {A = Reach} result_part
one_result x y line h k = reach_told x y h.0 k.0 (append_cancel_left (codes "result") (reach_text x) (reach_text y) (sym h.1 ∙ k.1))

behind_count : (x y : List NamedSite) → decimal (length x) ++ flat_map site_word x ≡ decimal (length y) ++ flat_map site_word y → flat_map site_word x ≡ flat_map site_word y
behind_count [] [] e = refl
behind_count [] (s ∷ y) e = absurd (lacks_none 32 (decimal (length (s ∷ y))) _ (subst (λ t. lacks 32 t ≡ true) (sym (append-nil (decimal 0)) ∙ e) (decimal_lacks 32 (omega arith) 0)))
behind_count (s ∷ x) [] e = absurd (lacks_none 32 (decimal (length (s ∷ x))) _ (subst (λ t. lacks 32 t ≡ true) (sym (append-nil (decimal 0)) ∙ sym e) (decimal_lacks 32 (omega arith) 0)))
behind_count (s ∷ x) (u ∷ y) e =
    let split = same_split 32 (decimal (length (s ∷ x))) ((s.proc ++ 35 ∷ decimal s.index) ++ flat_map site_word x) (decimal (length (u ∷ y))) ((u.proc ++ 35 ∷ decimal u.index) ++ flat_map site_word y)
    (decimal_lacks 32 (omega arith) (length (s ∷ x))) (decimal_lacks 32 (omega arith) (length (u ∷ y))) e in
    ap (λ t. 32 ∷ t) split.1

pub one_left : AreOne {A = List NamedSite} left_part
one_left x y line h k =
    let all = append_cancel_left (codes "left ") (decimal (length x) ++ flat_map site_word x) (decimal (length y) ++ flat_map site_word y) (sym h.2 ∙ k.2) in
    one_left_told x y h.1 k.1 (behind_count x y all)

pub one_entries : AreOne {A = ℕ} entries_part
one_entries x y line h k = one_count (codes "entries ") x y line h k

pub one_plain : AreOne {A = Name} plain_part
one_plain x y line h k = append_cancel_left (codes "plain ") x y (sym h.1 ∙ k.1)
