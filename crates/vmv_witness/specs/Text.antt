-- The text of a witness.
use Rattle.std.specs.Prelude.{◌≡◌, ◌<◌, ◌^◌, ℕ, List, [], ◌∷◌, ◌++◌, map, codes, IsTrue}
use Rattle.std.specs.List.{AllByRecursion}
use Rattle.std.specs.Fmt.{decimal, signed_decimal}
use Rattle.vmv_tree.specs.Names.{is_name}
use Rattle.vmv_tree.specs.Words.{IsWord}
use Rattle.vmv_tree.specs.declared.name.Name.{Name}
use Rattle.vmv_run.specs.declared.answer.Answer.{Answer}
use Rattle.vmv_witness.specs.declared.witness.ParamValue.{ParamValue}
use Rattle.vmv_witness.specs.declared.witness.Witness.{Witness}
use Rattle.vmv_witness.specs.Numbers.{IsSiteNumber, IsValue}

-- a witness with its numbers as they are spelled
pub record Spelled : Type 0 where
  pub entry : Name
  pub proc : Name
  pub number : List ℕ
  pub params : List (Name × List ℕ)
  pub answers : List (Name × List ℕ)

-- the word, a name, a space and a number
abbrev pub pair_line : List ℕ → Name × List ℕ → List ℕ
pair_line word p = word ++ (p.0 ++ 32 ∷ p.1)

abbrev pub param_lines : List (Name × List ℕ) → List (List ℕ)
param_lines params = map (pair_line (codes "param ")) params

abbrev pub answer_lines : List (Name × List ℕ) → List (List ℕ)
answer_lines answers = map (pair_line (codes "answer ")) answers

abbrev pub entry_line : Name → List ℕ
entry_line name = codes "entry " ++ name

-- a procedure's name, `#` and a number
abbrev pub site_line : Name → List ℕ → List ℕ
site_line proc number = codes "site " ++ (proc ++ 35 ∷ number)

-- the lines, without their line ends
abbrev pub lines_of : Spelled → List (List ℕ)
lines_of s =
    codes "vmv-witness 1" ∷ entry_line s.entry ∷ site_line s.proc s.number ∷ (param_lines s.params ++ (answer_lines s.answers ++ codes "end" ∷ []))

-- the bytes of lines: LF stands after each
abbrev pub text_of : List (List ℕ) → List ℕ
text_of [] = []
text_of (line ∷ lines) = line ++ 10 ∷ text_of lines

abbrev pub param_pair : ParamValue → Name × List ℕ
param_pair p = (p.name, signed_decimal p.value)

abbrev pub answer_pair : Answer → Name × List ℕ
answer_pair a = (a.name, signed_decimal a.value)

-- how a witness is spelled
abbrev pub spelling : Witness → Spelled
spelling w = record {
  entry = w.entry;
  proc = w.site.proc;
  number = decimal w.site.index;
  params = map param_pair w.params;
  answers = map answer_pair w.answers;
}

-- the canonical text of a witness
abbrev pub witness_text : Witness → List ℕ
witness_text w = text_of (lines_of (spelling w))

-- the names are names of the grammar, the number of the site is such, and each value is such
pub record IsSpelled (Number Value : List ℕ → Type 0) (s : Spelled) : Type 0 where
  pub entry : IsTrue (is_name s.entry)
  pub proc : IsTrue (is_name s.proc)
  pub number : Number s.number
  pub params : AllByRecursion (λ p. IsTrue (is_name p.0) × Value p.1) s.params
  pub answers : AllByRecursion (λ a. IsTrue (is_name a.0) × Value a.1) s.answers

-- a witness whose names are names of the grammar and whose numbers are in range
abbrev pub IsWitness : Witness → Type 0
IsWitness w = IsSpelled IsSiteNumber IsValue (spelling w)

-- the text of such a witness
pub record IsTextOf (text : List ℕ) (w : Witness) : Type 0 where
  pub witness : IsWitness w
  pub same : text ≡ witness_text w

-- the numbers of a witness are such as their types hold
pub record AreWords (w : Witness) : Type 0 where
  pub index : w.site.index < 2 ^ 32
  pub params : AllByRecursion (λ p. IsWord p.value) w.params
  pub answers : AllByRecursion (λ a. IsWord a.value) w.answers
