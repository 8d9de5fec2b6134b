-- The text of a witness is UTF-8.
use Rattle.std.proofs.Common.{◌≡◌, ℕ, List, [], ◌∷◌, ◌++◌, map, refl, ap}
use Rattle.std.specs.Prelude.{codes, IsTrue}
use Rattle.std.specs.List.{AllByRecursion}
use Rattle.std.specs.Str.{IsUtf8}
use Rattle.std.proofs.lemmas.Str.{IsUtf8-append, utf8_lossy-IsUtf8}
use Rattle.serde_json.specs.Data.{string}
use Rattle.vmv_tree.specs.Names.{is_name}
use Rattle.vmv_tree.specs.declared.name.Name.{Name}
use Rattle.vmv_witness.specs.declared.witness.Witness.{Witness}
use Rattle.vmv_witness.specs.Numbers.{IsNumber, IsSiteNumber, IsValue}
use Rattle.vmv_witness.specs.Text.{Spelled, pair_line, param_lines, answer_lines, entry_line, site_line, lines_of, text_of, spelling, witness_text, IsSpelled, IsWitness}
use Rattle.vmv_witness.proofs.Digits.{value_is_number, site_is_number, number_utf8}
use Rattle.vmv_report_json.specs.Json.{witness_data}
use Rattle.vmv_report_json.proofs.Naming.{name_utf8}

line_utf8 : (line : List ℕ) (lines : List (List ℕ)) → IsUtf8 line → IsUtf8 (text_of lines) → IsUtf8 (text_of (line ∷ lines))
unfolding lib.Utf8.encode
line_utf8 line lines one more = IsUtf8-append line (10 ∷ text_of lines) one (IsUtf8-append (10 ∷ []) (text_of lines) (10 ∷ [], (refl, refl)) more)

pair_utf8 : (word : List ℕ) (p : Name × List ℕ) → IsUtf8 word → IsTrue (is_name p.0) → IsNumber p.1 → IsUtf8 (pair_line word p)
unfolding lib.Utf8.encode
pair_utf8 word p w name number =
    IsUtf8-append word (p.0 ++ 32 ∷ p.1) w (IsUtf8-append p.0 (32 ∷ p.1) (name_utf8 p.0 name) (IsUtf8-append (32 ∷ []) p.1 (32 ∷ [], (refl, refl)) (number_utf8 p.1 number)))

pairs_utf8 : (word : List ℕ) → IsUtf8 word → (ps : List (Name × List ℕ)) (rest : List (List ℕ)) → AllByRecursion (λ p. IsTrue (is_name p.0) × IsValue p.1) ps → IsUtf8 (text_of rest) → IsUtf8 (text_of (map (pair_line word) ps ++ rest))
pairs_utf8 word w [] rest are more = more
pairs_utf8 word w (p ∷ ps) rest are more =
    line_utf8 (pair_line word p) (map (pair_line word) ps ++ rest) (pair_utf8 word p w are.0.0 (value_is_number p.1 are.0.1)) (pairs_utf8 word w ps rest are.1 more)

site_utf8 : (proc : Name) (number : List ℕ) → IsTrue (is_name proc) → IsSiteNumber number → IsUtf8 (site_line proc number)
unfolding lib.Utf8.encode
site_utf8 proc number name is =
    IsUtf8-append (codes "site ") (proc ++ 35 ∷ number) (codes "site ", (refl, refl))
    (IsUtf8-append proc (35 ∷ number) (name_utf8 proc name) (IsUtf8-append (35 ∷ []) number (35 ∷ [], (refl, refl)) (number_utf8 number (site_is_number number is))))

spelled_utf8 : (s : Spelled) → IsSpelled IsSiteNumber IsValue s → IsUtf8 (text_of (lines_of s))
unfolding lib.Utf8.encode
spelled_utf8 s is =
    let last = line_utf8 (codes "end") [] (codes "end", (refl, refl)) ([], (refl, refl)) in
    let answers = pairs_utf8 (codes "answer ") (codes "answer ", (refl, refl)) s.answers (codes "end" ∷ []) is.answers last in
    let params = pairs_utf8 (codes "param ") (codes "param ", (refl, refl)) s.params (answer_lines s.answers ++ codes "end" ∷ []) is.params answers in
    let behind = param_lines s.params ++ (answer_lines s.answers ++ codes "end" ∷ []) in
    let site = line_utf8 (site_line s.proc s.number) behind (site_utf8 s.proc s.number is.proc is.number) params in
    let entry = line_utf8 (entry_line s.entry) (site_line s.proc s.number ∷ behind) (IsUtf8-append (codes "entry ") s.entry (codes "entry ", (refl, refl)) (name_utf8 s.entry is.entry)) site in
    line_utf8 (codes "vmv-witness 1") (entry_line s.entry ∷ site_line s.proc s.number ∷ behind) (codes "vmv-witness 1", (refl, refl)) entry

pub witness_string : (w : Witness) → IsWitness w → witness_data w ≡ string (witness_text w)
witness_string w is = ap string (utf8_lossy-IsUtf8 (witness_text w) (spelled_utf8 (spelling w) is))
