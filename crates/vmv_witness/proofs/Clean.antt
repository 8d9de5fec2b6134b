-- No line of a witness text has a line end in it, so that a text has its lines in one way.
use Rattle.std.proofs.Common.{◌≡◌, ℕ, true, false, List, [], ◌∷◌, ◌++◌, length, map, refl, sym, ap, ◌∙◌, arith, append_assoc}
use Rattle.std.specs.Prelude.{codes, nat_le}
use Rattle.std.specs.List.{list_all, AllByRecursion}
use Rattle.std.proofs.lemmas.Bool.{and_parts, false≢true}
use Rattle.vmv_tree.specs.Names.{is_name, is_name_byte, first_is_letter}
use Rattle.vmv_tree.specs.declared.name.Name.{Name}
use Rattle.vmv_witness.specs.Numbers.{IsNumber, IsSiteNumber, IsValue}
use Rattle.vmv_witness.specs.Text.{Spelled, lines_of, text_of, pair_line, IsSpelled}
use Rattle.vmv_witness.specs.Reading.{lacks}
use Rattle.vmv_witness.proofs.Bytes.{lacks-append, lacks-cons, same_split}
use Rattle.vmv_witness.proofs.Digits.{number_lacks, value_is_number, site_is_number}
use Rattle.vmv_witness.proofs.Follow.{Pairs}

name_all : (n : List ℕ) → is_name n ≡ true → list_all is_name_byte n ≡ true
name_all n h =
    let size = and_parts (nat_le (length n) 64) _ h in
    let first = and_parts (first_is_letter n) _ size.1 in
    (and_parts (list_all is_name_byte n) _ first.1).0

bytes_lack : (b : ℕ) → is_name_byte b ≡ false → (n : List ℕ) → list_all is_name_byte n ≡ true → lacks b n ≡ true
bytes_lack b out [] h = refl
bytes_lack b out (c ∷ cs) h =
    let parts = and_parts (is_name_byte c) (list_all is_name_byte cs) h in
    lacks-cons b c cs (λ e. false≢true (sym out ∙ (ap is_name_byte (sym e) ∙ parts.0))) (bytes_lack b out cs parts.1)

-- a byte that no name has
pub name_lacks : (b : ℕ) → is_name_byte b ≡ false → (n : List ℕ) → is_name n ≡ true → lacks b n ≡ true
name_lacks b out n h = bytes_lack b out n (name_all n h)

abbrev pub Clean : List (List ℕ) → Type 0
Clean lines = AllByRecursion (λ line. lacks 10 line ≡ true) lines

-- nor in a word, a name and a number with a byte between them
pub split_clean : (b : ℕ) (word name number : List ℕ) → (b ≡ 10 → ⊥) → lacks 10 word ≡ true → is_name name ≡ true → IsNumber number → lacks 10 (word ++ (name ++ b ∷ number)) ≡ true
split_clean b word name number other h n k =
    lacks-append 10 word (name ++ b ∷ number) h (lacks-append 10 name (b ∷ number) (name_lacks 10 refl name n) (lacks-cons 10 b number other (number_lacks number k)))

pairs_clean : (word : List ℕ) → lacks 10 word ≡ true → (ps : List (Name × List ℕ)) (rest : List (List ℕ)) → Pairs IsNumber ps → Clean rest → Clean (map (pair_line word) ps ++ rest)
pairs_clean word h [] rest k r = r
pairs_clean word h (p ∷ ps) rest k r = (split_clean 32 word p.0 p.1 (λ e. omega arith) h k.0.0 k.0.1, pairs_clean word h ps rest k.1 r)

pub lines_clean : (s : Spelled) → IsSpelled IsNumber IsNumber s → Clean (lines_of s)
lines_clean s h = (
  refl,
  (
    lacks-append 10 (codes "entry ") s.entry refl (name_lacks 10 refl s.entry h.entry),
    (
      split_clean 35 (codes "site ") s.proc s.number (λ e. omega arith) refl h.proc h.number,
      pairs_clean (codes "param ") refl s.params _ h.params (pairs_clean (codes "answer ") refl s.answers _ h.answers (refl, tt)),
    ),
  ),
)

pairs_loose : (ps : List (Name × List ℕ)) → Pairs IsValue ps → Pairs IsNumber ps
pairs_loose [] h = tt
pairs_loose (p ∷ ps) h = ((h.0.0, value_is_number p.1 h.0.1), pairs_loose ps h.1)

-- a witness text is one whose numbers may be of any size
pub loose : (s : Spelled) → IsSpelled IsSiteNumber IsValue s → IsSpelled IsNumber IsNumber s
loose s h =
    record {
      entry = h.entry;
      proc = h.proc;
      number = site_is_number s.number h.number;
      params = pairs_loose s.params h.params;
      answers = pairs_loose s.answers h.answers;
    }

no_empty : (y a rest : List ℕ) → [] ≡ (y ++ 10 ∷ a) ++ rest → ⊥
no_empty [] a rest e = cc
no_empty (c ∷ y) a rest e = cc

-- lines that begin the bytes of others begin these
pub cancel : (xs ys : List (List ℕ)) (rest : List ℕ) → Clean xs → Clean ys → text_of xs ≡ text_of ys ++ rest → (more : List (List ℕ)) × (xs ≡ ys ++ more) × (rest ≡ text_of more)
cancel xs [] rest h k e = (xs, refl, sym e)
cancel [] (y ∷ ys) rest h k e = absurd (no_empty y (text_of ys) rest e)
cancel (x ∷ xs) (y ∷ ys) rest h k e =
    let split = same_split 10 x (text_of xs) y (text_of ys ++ rest) h.0 k.0 (e ∙ append_assoc y (10 ∷ text_of ys) rest) in
    let r = cancel xs ys rest h.1 k.1 split.1 in
    (r.0, (λ i. split.0 i ∷ r.1 i), r.2)

pub front_clean : (xs ys : List (List ℕ)) → Clean (xs ++ ys) → Clean xs
front_clean [] ys h = tt
front_clean (x ∷ xs) ys h = (h.0, front_clean xs ys h.1)

pub next_clean : (xs : List (List ℕ)) (line : List ℕ) (ys : List (List ℕ)) → Clean (xs ++ line ∷ ys) → lacks 10 line ≡ true
next_clean [] line ys h = h.0
next_clean (x ∷ xs) line ys h = next_clean xs line ys h.1
