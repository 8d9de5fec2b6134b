-- The number of workers as a word, and as a number.
use Rattle.std.proofs.Common.{refl, codes, true, false, Bool, List, Option, Some, None, [], ◌∷◌, ◌≡◌, ◌∙◌, sym, ap, subst, ℕ, arith}
use Rattle.std.specs.Prelude.{⊤, option_map, option_and_then, unwrap_or, slice_get}
use Rattle.std.proofs.lemmas.Str.Parse.{digit_from_value}
use Rattle.clap.specs.declared.builder.value_parser.Reading.{Reading}
use Rattle.clap.specs.Values.{read_as}
use Rattle.clap.specs.Walk.{Row, Text, all_of, first_of, one_of, row_text, reading_by}
use Rattle.vmv_words.proofs.App.{proof_built}
use Rattle.vmv_words.specs.Words.{Word, Given, IsPlain, other, IsCount, Gives, nothing, a_name, a_count, a_joined_count, a_flag, an_end}
use Rattle.vmv_words.proofs.Uses.{Raw, name_row, workers_row}
use Rattle.vmv_words.proofs.Whole.{none, name, next, attached, proved, ended}
use Rattle.vmv_words.proofs.Whole as raw
use Rattle.vmv_words.proofs.Parsed.{Answers, flag_text}

-- the word, where there is one, is this number
abbrev pub Counts : Option Word → Option ℕ → Type 0
Counts None None = ⊤
Counts (Some word) (Some n) = IsCount word n
Counts _ _ = ⊥

-- digits are no option
pub count_plain : (word : Word) (n : ℕ) → IsCount word n → IsPlain word
count_plain [] n c = absurd (omega (arith, c.numeral.0))
count_plain (x ∷ rest) n c = let digit = digit_from_value x c.numeral.1.0 in other x rest (λ e. omega (arith, digit.0, e))

-- the same names and options, with the number as a word
pub record Spelled (words : List Word) (g : Given) : Type 0 where
  pub raw_is : Raw
  pub gives : raw.Gives words raw_is
  pub names : raw_is.names ≡ g.names
  pub workers : Counts raw_is.workers g.workers
  pub proof : raw_is.proof ≡ g.proof

none_counts : (o : Option Word) (n : Option ℕ) → Counts o n → n ≡ None → o ≡ None
none_counts None n c e = refl
none_counts (Some word) None c e = elim c [ ]
none_counts (Some word) (Some n) c e = cc

pub spelled : (words : List Word) (g : Given) → Gives words g → Spelled words g
spelled [] g nothing = record { raw_is = _; gives = none; names = refl; workers = tt; proof = refl }
spelled (word ∷ rest) g (a_name word' rest' g' is_plain h) = let s = spelled rest g' h in
    record { raw_is = _; gives = name word rest s.raw_is is_plain s.gives; names = ap (λ (l : List Word). word ∷ l) s.names; workers = s.workers; proof = s.proof }
spelled (word ∷ number ∷ rest) g (a_count number' n rest' g' c once h) = let s = spelled rest g' h in
    record { raw_is = _; gives = next number rest s.raw_is (count_plain number n c) (none_counts s.raw_is.workers g'.workers s.workers once) s.gives; names = s.names; workers = c; proof = s.proof }
spelled (word ∷ rest) g (a_joined_count number n rest' g' c once h) = let s = spelled rest g' h in
    record { raw_is = _; gives = attached number rest s.raw_is (none_counts s.raw_is.workers g'.workers s.workers once) s.gives; names = s.names; workers = c; proof = s.proof }
spelled (word ∷ rest) g (a_flag rest' g' once h) = let s = spelled rest g' h in
    record { raw_is = _; gives = proved rest s.raw_is (s.proof ∙ once) s.gives; names = s.names; workers = s.workers; proof = refl }
spelled (word ∷ rest) g (an_end rest') = record { raw_is = _; gives = ended rest; names = refl; workers = tt; proof = refl }

no_count : (o : Option Word) (n : Option ℕ) → o ≡ None → Counts o n → n ≡ None
no_count None None e c = refl
no_count None (Some n) e c = elim c [ ]
no_count (Some word) n e c = cc

counts_none : (o : Option Word) → o ≡ None → Counts o None
counts_none None e = tt
counts_none (Some word) e = cc

-- and back
pub read_back : (words : List Word) (r : Raw) → raw.Gives words r → (o : Option ℕ) → Counts r.workers o → Gives words (record { names = r.names; workers = o; proof = r.proof })
read_back [] r none None c = nothing
read_back [] r none (Some n) c = elim c [ ]
read_back (word ∷ rest) r (name word' rest' r' is_plain h) o c = a_name word rest (record { names = r'.names; workers = o; proof = r'.proof }) is_plain (read_back rest r' h o c)
read_back (word ∷ number ∷ rest) r (next number' rest' r' is_plain once h) None c = elim c [ ]
read_back (word ∷ number ∷ rest) r (next number' rest' r' is_plain once h) (Some n) c =
    a_count number n rest (record { names = r'.names; workers = None; proof = r'.proof }) c refl (read_back rest r' h None (counts_none r'.workers once))
read_back (word ∷ rest) r (attached number rest' r' once h) None c = elim c [ ]
read_back (word ∷ rest) r (attached number rest' r' once h) (Some n) c =
    a_joined_count number n rest (record { names = r'.names; workers = None; proof = r'.proof }) c refl (read_back rest r' h None (counts_none r'.workers once))
read_back (word ∷ rest) r (proved rest' r' once h) o c = a_flag rest (record { names = r'.names; workers = o; proof = r'.proof }) once (read_back rest r' h o c)
read_back (word ∷ rest) r (ended rest') None c = an_end rest
read_back (word ∷ rest) r (ended rest') (Some n) c = elim c [ ]

-- one number for a word
pub count_once : (word : Word) (n m : ℕ) → IsCount word n → IsCount word m → n ≡ m
count_once word n m c d = sym c.value ∙ d.value

-- what the getters read of the rows
pub names_of : (rows : List Row) (r : Raw) → Answers rows r → unwrap_or (all_of (codes "name") rows) [] ≡ r.names
names_of rows r a = ap (λ (o : Option Row). unwrap_or (option_map (λ r. r.values) o) []) a.names ∙ of_row r.names
  where
    of_row : (names : List Word) → unwrap_or (option_map (λ r. r.values) (name_row names)) [] ≡ names
    of_row [] = refl
    of_row (n ∷ more) = refl

pub workers_of : (rows : List Row) (r : Raw) → Answers rows r → first_of (codes "workers") rows ≡ r.workers
workers_of rows r a = ap (λ (o : Option Row). option_and_then (λ r. slice_get r.values 0) o) a.workers ∙ of_row r.workers
  where
    of_row : (o : Option Word) → option_and_then (λ r. slice_get r.values 0) (workers_row o) ≡ o
    of_row None = refl
    of_row (Some word) = refl

-- the flag as its text
flag_read : (b : Bool) → option_map (read_as (reading_by proof_built)) (slice_get (flag_text b ∷ []) 0) ≡ Some (flag_text b)
flag_read true = refl
flag_read false = refl

pub proof_of : (rows : List Row) (r : Raw) → Answers rows r → one_of (codes "proof") rows ≡ Some (flag_text r.proof)
proof_of rows r a =
    ap (λ (o : Option Row). option_and_then row_text o) a.proof.1
    ∙ ap (λ (how : Reading). option_map (read_as how) (slice_get a.proof.0.values 0)) a.proof.3
    ∙ ap (λ (values : List Text). option_map (read_as (reading_by proof_built)) (slice_get values 0)) a.proof.2 ∙ flag_read r.proof

-- the same words read twice
same_flag : (a b : Bool) → flag_text a ≡ flag_text b → a ≡ b
same_flag true true e = refl
same_flag true false e = cc
same_flag false true e = cc
same_flag false false e = refl

some_flag : (a b : Bool) → Some (flag_text a) ≡ Some (flag_text b) → a ≡ b
some_flag a b e = same_flag a b (cc)

count_same : (o : Option Word) (n m : Option ℕ) → Counts o n → Counts o m → n ≡ m
count_same None None None c d = refl
count_same None (Some n) m c d = elim c [ ]
count_same None None (Some m) c d = elim d [ ]
count_same (Some word) None m c d = elim c [ ]
count_same (Some word) (Some n) None c d = elim d [ ]
count_same (Some word) (Some n) (Some m) c d = ap Some (count_once word n m c d)

-- two names and options that are read of the same rows are the same
pub given_once : (rows : List Row) (words : List Word) (g h : Given) (a : Spelled words g) (b : Spelled words h) → Answers rows a.raw_is → Answers rows b.raw_is → g ≡ h
given_once rows words g h a b in_a in_b =
    let names : g.names ≡ h.names = sym a.names ∙ sym (names_of rows a.raw_is in_a) ∙ names_of rows b.raw_is in_b ∙ b.names in
    let word : a.raw_is.workers ≡ b.raw_is.workers = sym (workers_of rows a.raw_is in_a) ∙ workers_of rows b.raw_is in_b in
    let workers : g.workers ≡ h.workers = count_same b.raw_is.workers g.workers h.workers (subst (λ (o : Option Word). Counts o g.workers) word a.workers) b.workers in
    let proof : g.proof ≡ h.proof = sym a.proof ∙ some_flag a.raw_is.proof b.raw_is.proof (sym (proof_of rows a.raw_is in_a) ∙ proof_of rows b.raw_is in_b) ∙ b.proof in
    rw (names, workers, proof) refl
