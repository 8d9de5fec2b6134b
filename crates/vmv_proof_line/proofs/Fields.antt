-- Lines of a few words.
use Rattle.std.proofs.Common.{◌≡◌, ◌↔◌, ℕ, Bool, true, false, List, [], ◌∷◌, ◌++◌, drop, refl, sym, ap, ◌∙◌, subst, IsTrue, arith, append_assoc}
use Rattle.std.specs.Prelude.{Option, Some, None, Err, codes}
use Rattle.std.specs.Fmt.{decimal}
use Rattle.std.proofs.lemmas.List.{append-nil}
use Rattle.vmv_tree.specs.Names.{is_name}
use Rattle.vmv_tree.specs.declared.name.Name.{Name}
use Rattle.vmv_witness.specs.Numbers.{IsNumber}
use Rattle.vmv_witness.specs.Reading.{lacks}
use Rattle.vmv_witness.proofs.Clean.{name_lacks}
use Rattle.vmv_proof_words.specs.Words.{Word, words_of}
use Rattle.vmv_proof_words.specs.Taking.{IsNameWord, IsNaturalWord, Tells, TakesLast, IsOneNumber}
use Rattle.vmv_proof_words.proofs.Splitting.{words_of_line, line_of_words}
use Rattle.vmv_proof_words.proofs.Digits.{number_lacks, natural_number}
use Rattle.vmv_proof_text.specs.Parts.{row_part}
use Rattle.vmv_proof_text.specs.Text.{spaced}
use Rattle.vmv_proof_text.specs.Lines.{IsCount, IsLine}
use Rattle.vmv_proof_text.specs.Loose.{IsCountLoosely}
use Rattle.vmv_proof_line.specs.declared.fault.LineFault.{LineFault}
use Rattle.vmv_proof_line.specs.Reading.{Reads, fault_at}
use Rattle.vmv_proof_line.specs.Shapes.{IsCountLine, IsNameLine, IsRowLoosely}

pub number_clean : (word : Word) → IsNumber word → IsTrue (lacks 32 word)
number_clean word h = number_lacks 32 (search (arith)) word h

pub name_clean : (name : List ℕ) → IsTrue (is_name name) → IsTrue (lacks 32 name)
name_clean name h = name_lacks 32 refl name h

pub count_clean : (n : ℕ) → IsCount n → IsTrue (lacks 32 (decimal n))
count_clean n h = number_clean (decimal n) (natural_number n (omega (arith, h)))

pub tails : (v w : Word) (vs ws : List Word) → v ∷ vs ≡ w ∷ ws → vs ≡ ws
tails v w vs ws e = ap (λ l. drop 1 l) e

-- the words of the line behind its first
pub behind : (line : List ℕ) (word : Word) (words others : List Word) → words_of line ≡ word ∷ words → words_of line ≡ word ∷ others → words ≡ others
behind line word words others e f = tails word word words others (sym e ∙ f)

pub two_words : (word v line : List ℕ) → IsTrue (lacks 32 word) → IsTrue (lacks 32 v) → line ≡ word ++ spaced v → words_of line ≡ word ∷ v ∷ []
two_words word v line h k e = ap words_of (e ∙ ap (λ t. word ++ 32 ∷ t) (sym (append-nil v))) ∙ words_of_line word (v ∷ []) h (k, tt)

pub from_two : (word v line : List ℕ) → words_of line ≡ word ∷ v ∷ [] → line ≡ word ++ spaced v
from_two word v line e = line_of_words line word (v ∷ []) e ∙ ap (λ t. word ++ 32 ∷ t) (append-nil v)

pub three_words : (word u v line : List ℕ) → IsTrue (lacks 32 word) → IsTrue (lacks 32 u) → IsTrue (lacks 32 v) → line ≡ word ++ (spaced u ++ spaced v) → words_of line ≡ word ∷ u ∷ v ∷ []
three_words word u v line h k l e =
    ap words_of (e ∙ ap (λ t. word ++ (spaced u ++ 32 ∷ t)) (sym (append-nil v))) ∙ words_of_line word (u ∷ v ∷ []) h (k, (l, tt))

pub from_three : (word u v line : List ℕ) → words_of line ≡ word ∷ u ∷ v ∷ [] → line ≡ word ++ (spaced u ++ spaced v)
from_three word u v line e = line_of_words line word (u ∷ v ∷ []) e ∙ ap (λ t. word ++ (spaced u ++ 32 ∷ t)) (append-nil v)

pub count_words : (word line : List ℕ) (n : ℕ) → IsTrue (lacks 32 word) → IsCountLine word n line → words_of line ≡ word ∷ decimal n ∷ []
count_words word line n h k = two_words word (decimal n) line h (count_clean n k.0) k.1

pub count_told : (word line : List ℕ) (words : List Word) (r : Option ℕ) → IsTrue (lacks 32 word) → words_of line ≡ word ∷ words → TakesLast (IsNaturalWord 32) words r → Tells (IsCountLine word) line r
count_told word line words (Some n) h e (v, (small, same), f) =
    (small, from_two word (decimal n) line (e ∙ ap (λ ws. word ∷ ws) (f ∙ ap (λ w. w ∷ []) same)))
count_told word line words None h e none = λ n k. none n (decimal n) (k.0, refl) (behind line word words (decimal n ∷ []) e (count_words word line n h k))

pub loose_words : (word line number : List ℕ) → IsTrue (lacks 32 word) → IsNumber number → line ≡ (word ++ 32 ∷ []) ++ number → words_of line ≡ word ∷ number ∷ []
loose_words word line number h k e = two_words word number line h (number_clean number k) (e ∙ append_assoc word (32 ∷ []) number)

pub count_loosely : (word line : List ℕ) (words : List Word) (b : Bool) → IsTrue (lacks 32 word) → words_of line ≡ word ∷ words → (IsTrue b ↔ IsOneNumber words) → IsTrue b ↔ IsCountLoosely (word ++ 32 ∷ []) line
count_loosely word line words b h e k = (to, from)
  where
    to : IsTrue b → IsCountLoosely (word ++ 32 ∷ []) line
    to t =
        let one = k.0 t in
        (one.0, one.1, from_two word one.0 line (e ∙ ap (λ ws. word ∷ ws) one.2) ∙ sym (append_assoc word (32 ∷ []) one.0))

    from : IsCountLoosely (word ++ 32 ∷ []) line → IsTrue b
    from (number, numbered, f) = k.1 (number, numbered, behind line word words (number ∷ []) e (loose_words word line number h numbered f))

pub name_words : (word line name : List ℕ) → IsTrue (lacks 32 word) → IsNameLine word name line → words_of line ≡ word ∷ name ∷ []
name_words word line name h k = two_words word name line h (name_clean name k.0) k.1

pub name_none : (word line : List ℕ) (words : List Word) → IsTrue (lacks 32 word) → words_of line ≡ word ∷ words
    → ((x : Name) (w : Word) (ws : List Word) → IsNameWord x w → words ≡ w ∷ ws → ⊥) → (name : Name) → IsNameLine word name line → ⊥
name_none word line words h e none name k = none name name [] (k.0, refl) (behind line word words (name ∷ []) e (name_words word line name h k))

pub name_more : (word line : List ℕ) (words more : List Word) (v : Word) → IsTrue (lacks 32 word) → words_of line ≡ word ∷ words → words ≡ v ∷ more → (more ≡ [] → ⊥) → (name : Name) → IsNameLine word name line → ⊥
name_more word line words more v h e f some name k =
    some (tails v name more [] (sym f ∙ behind line word words (name ∷ []) e (name_words word line name h k)))

pub name_told : (word line : List ℕ) (words more : List Word) (v : Word) (name : Name) → words_of line ≡ word ∷ words → IsNameWord name v → words ≡ v ∷ more → more ≡ [] → IsNameLine word name line
name_told word line words more v name e k f g =
    (k.0, from_two word name line (e ∙ ap (λ ws. word ∷ ws) (f ∙ (ap (λ ws. v ∷ ws) g ∙ ap (λ w. w ∷ []) k.1))))

-- the head of a row
pub row_words : (line : List ℕ) (proc : Name) (n : ℕ) → IsLine (row_part proc n) line → words_of line ≡ codes "row" ∷ proc ∷ decimal n ∷ []
row_words line proc n h = three_words (codes "row") proc (decimal n) line refl (name_clean proc h.0) (count_clean n h.1) h.2

pub row_loose_words : (line proc number : List ℕ) → IsTrue (is_name proc) → IsNumber number → line ≡ codes "row" ++ (spaced proc ++ spaced number) → words_of line ≡ codes "row" ∷ proc ∷ number ∷ []
row_loose_words line proc number h k e = three_words (codes "row") proc number line refl (name_clean proc h) (number_clean number k) e

-- the fault of a line that tells nothing
pub untold : {A : Type 0} (Is Loosely : A → List ℕ → Type 0) (line : List ℕ) (b : Bool) (fault : LineFault) → fault ≡ fault_at b → ((x : A) → Is x line → ⊥)
    → (IsTrue b → (x : A) × Loosely x line) → ((x : A) → Loosely x line → IsTrue b) → Reads Is Loosely line (Err fault)
untold {A} Is Loosely line b fault e none to from = subst (λ f. Reads {A = A} Is Loosely line (Err f)) (sym e) (by b to from)
  where
    by : (b : Bool) → (IsTrue b → (x : A) × Loosely x line) → ((x : A) → Loosely x line → IsTrue b) → Reads {A = A} Is Loosely line (Err (fault_at b))
    by true to from = (to refl, none)
    by false to from = λ x h. let k : IsTrue false = from x h in search (arith)

pub row_none : (line : List ℕ) (words : List Word) → words_of line ≡ codes "row" ∷ words
    → ((x : Name) (w : Word) (ws : List Word) → IsNameWord x w → words ≡ w ∷ ws → ⊥) → (proc : Name) (n : ℕ) → IsLine (row_part proc n) line → ⊥
row_none line words e none proc n h =
    none proc proc (decimal n ∷ []) (h.0, refl) (behind line (codes "row") words (proc ∷ decimal n ∷ []) e (row_words line proc n h))

-- what is behind the name of a row's line
pub behind_name : (line word : List ℕ) (words more others : List Word) (v u : Word) → words_of line ≡ word ∷ words → words ≡ v ∷ more → words_of line ≡ word ∷ u ∷ others → more ≡ others
behind_name line word words more others v u e f g = tails v u more others (sym f ∙ behind line word words (u ∷ others) e g)

pub row_no_count : (line : List ℕ) (words more : List Word) (v : Word) → words_of line ≡ codes "row" ∷ words → words ≡ v ∷ more
    → ((x : ℕ) (w : Word) → IsNaturalWord 32 x w → more ≡ w ∷ [] → ⊥) → (proc : Name) (n : ℕ) → IsLine (row_part proc n) line → ⊥
row_no_count line words more v e f none proc n h =
    none n (decimal n) (h.1, refl) (behind_name line (codes "row") words more (decimal n ∷ []) v proc e f (row_words line proc n h))

pub row_told : (line : List ℕ) (words more : List Word) (v w : Word) (proc : Name) (n : ℕ) → words_of line ≡ codes "row" ∷ words → IsNameWord proc v → words ≡ v ∷ more → IsNaturalWord 32 n w → more ≡ w ∷ [] → IsLine (row_part proc n) line
row_told line words more v w proc n e named f small g =
    let whole = e ∙ ap (λ ws. codes "row" ∷ ws) (f ∙ ap (λ ws. v ∷ ws) g) in
    (named.0, small.0, from_three (codes "row") v w line whole ∙ ap (λ a. codes "row" ++ (spaced a ++ spaced w)) named.1 ∙ ap (λ b. codes "row" ++ (spaced proc ++ spaced b)) small.1)

pub row_loosely : (line : List ℕ) (words more : List Word) (v : Word) (name : Name) (b : Bool) → words_of line ≡ codes "row" ∷ words → IsNameWord name v → words ≡ v ∷ more → (IsTrue b ↔ IsOneNumber more) → IsTrue b ↔ IsRowLoosely line
row_loosely line words more v name b e named f k = (to, from)
  where
    to : IsTrue b → IsRowLoosely line
    to t =
        let one = k.0 t in
        (v, one.0, subst (λ a. IsTrue (is_name a)) (sym named.1) named.0, one.1, from_three (codes "row") v one.0 line (e ∙ ap (λ ws. codes "row" ∷ ws) (f ∙ ap (λ ws. v ∷ ws) one.2)))

    from : IsRowLoosely line → IsTrue b
    from (proc, number, isname, numbered, g) =
        k.1 (number, numbered, behind_name line (codes "row") words more (number ∷ []) v proc e f (row_loose_words line proc number isname numbered g))
