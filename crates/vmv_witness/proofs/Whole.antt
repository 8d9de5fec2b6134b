-- What a reader answers of a whole text, by what its parts say.
use Rattle.std.proofs.Common.{◌≡◌, inl, inr, ℕ, ◌+◌, ◌≤◌, List, [], ◌∷◌, ◌++◌, length, map, sym, ap, subst, ◌∙◌, IsTrue, arith, append_assoc}
use Rattle.std.specs.Prelude.{codes, Err}
use Rattle.std.specs.Fmt.{decimal}
use Rattle.std.proofs.lemmas.List.{append-nil}
use Rattle.vmv_tree.specs.Names.{is_name}
use Rattle.vmv_tree.specs.declared.name.Name.{Name}
use Rattle.vmv_witness.specs.declared.fault.WitnessFault.{WitnessFault}
use Rattle.vmv_witness.specs.declared.fault.WitnessFault.TheVariants.{Syntax, Range, Limit, Memory}
use Rattle.vmv_witness.specs.declared.witness.Witness.{Witness}
use Rattle.vmv_witness.specs.Numbers.{IsSiteNumber}
use Rattle.vmv_witness.specs.Text.{text_of, param_lines, answer_lines, entry_line, site_line, param_pair, answer_pair, IsTextOf}
use Rattle.vmv_witness.specs.Faults.{SyntaxAt, RangeAt, IsWhy}
use Rattle.vmv_witness.specs.Reading.{NoWord, NoLine, TakesEntry, TakesSite, TakesPairs, IsFault, TakesEnd}
use Rattle.vmv_witness.proofs.Writing.{text_of-append}
use Rattle.vmv_witness.proofs.Follow.{end_line}
use Rattle.vmv_witness.proofs.Exits.{head_line, syntax_1, syntax_2, syntax_3, range_3}
use Rattle.vmv_witness.proofs.Tails.{first_lines, so_far, IsRead, syntax_param, range_param, syntax_answer, range_answer, syntax_end, syntax_behind}

-- further lines of a text
more_lines : (text : List ℕ) (xs ys : List (List ℕ)) (r s : List ℕ) → text ≡ text_of xs ++ r → r ≡ text_of ys ++ s → text ≡ text_of (xs ++ ys) ++ s
more_lines text xs ys r s e f =
    e ∙ (ap (λ t. text_of xs ++ t) f ∙ (sym (append_assoc (text_of xs) (text_of ys) s) ∙ ap (λ t. t ++ s) (sym (text_of-append xs ys))))

one_line : (line r : List ℕ) → line ++ 10 ∷ r ≡ text_of (line ∷ []) ++ r
one_line line r = sym (append_assoc line (10 ∷ []) r)

-- the first three lines are read
pub head_read : (text r s t entry proc number : List ℕ) → text ≡ head_line ++ 10 ∷ r → IsTrue (is_name entry) → r ≡ entry_line entry ++ 10 ∷ s
    → IsTrue (is_name proc) → IsSiteNumber number → s ≡ site_line proc number ++ 10 ∷ t → IsRead text entry proc number [] [] t
head_read text r s t entry proc number e h f k n g =
    let first = e ∙ one_line head_line r in
    let second = more_lines text (head_line ∷ []) (entry_line entry ∷ []) r s first (f ∙ one_line (entry_line entry) s) in
    record {
      head = record { entry_named = h; proc_named = k; numbered = n };
      params = tt;
      answers = tt;
      place = more_lines text (head_line ∷ entry_line entry ∷ []) (site_line proc number ∷ []) s t second (g ∙ one_line (site_line proc number) t);
    }

-- and the parameters behind them
pub params_read : (text entry proc number : List ℕ) (ps : List (Name × List ℕ)) (r s : List ℕ) → IsRead text entry proc number [] [] r → TakesPairs (codes "param ") r ps s → IsRead text entry proc number ps [] s
params_read text entry proc number ps r s h k =
    record {
      head = h.head;
      params = k.strict;
      answers = tt;
      place =
          more_lines text (first_lines entry proc number) (param_lines ps) r s h.place k.place
          ∙ ap (λ t. text_of (head_line ∷ entry_line entry ∷ site_line proc number ∷ t) ++ s) (sym (append-nil (param_lines ps)));
    }

-- and the answers behind these
pub answers_read : (text entry proc number : List ℕ) (ps bs : List (Name × List ℕ)) (r s : List ℕ) → IsRead text entry proc number ps [] r → TakesPairs (codes "answer ") r bs s → IsRead text entry proc number ps bs s
answers_read text entry proc number ps bs r s h k =
    record {
      head = h.head;
      params = h.params;
      answers = k.strict;
      place =
          more_lines text (so_far entry proc number ps []) (answer_lines bs) r s h.place k.place
          ∙ ap (λ t. text_of (head_line ∷ entry_line entry ∷ site_line proc number ∷ (t ++ answer_lines bs)) ++ s) (append-nil (param_lines ps));
    }

-- why nothing is read

pub why_head : (text : List ℕ) → length text ≤ 1048576 → NoLine head_line text → IsWhy text (Syntax 1)
why_head text small never = (small, syntax_1 text never)

pub why_entry : (text r s : List ℕ) (fault : WitnessFault) → length text ≤ 1048576 → text ≡ head_line ++ 10 ∷ r → TakesEntry r s (Err fault) → IsWhy text fault
why_entry text r s fault small e h = subst (IsWhy text) (sym h.0) (small, syntax_2 text r e h.1)

pub why_site : (text r s t entry : List ℕ) (fault : WitnessFault) → length text ≤ 1048576 → text ≡ head_line ++ 10 ∷ r → IsTrue (is_name entry) → r ≡ entry_line entry ++ 10 ∷ s → TakesSite s t (Err fault) → IsWhy text fault
why_site text r s t entry (Syntax line) small e h f (n, k) = (small, subst (SyntaxAt text) (sym n) (syntax_3 text r s entry h e f k))
why_site text r s t entry (Range line) small e h f (n, k) = (small, subst (RangeAt text) (sym n) (range_3 text r s entry h e f k))
why_site text r s t entry (Limit found) small e h f k = absurd k
why_site text r s t entry Memory small e h f k = tt

pub why_params : (text entry proc number : List ℕ) (ps : List (Name × List ℕ)) (r s : List ℕ) (fault : WitnessFault) → length text ≤ 1048576 → IsRead text entry proc number [] [] r → TakesPairs (codes "param ") r ps s → IsFault (codes "param ") (4 + length ps) s fault → IsWhy text fault
why_params text entry proc number ps r s (Syntax line) small h k (n, has, never) =
    let place : 4 + length ps + 0 ≡ line = omega arith in
    (small, subst (SyntaxAt text) place (syntax_param text entry proc number ps s (params_read text entry proc number ps r s h k) has never))
why_params text entry proc number ps r s (Range line) small h k (n, large) =
    let place : 4 + length ps + 0 ≡ line = omega arith in
    (small, subst (RangeAt text) place (range_param text entry proc number ps s (params_read text entry proc number ps r s h k) large))
why_params text entry proc number ps r s (Limit found) small h k l = absurd l
why_params text entry proc number ps r s Memory small h k l = tt

pub why_answers : (text entry proc number : List ℕ) (ps bs : List (Name × List ℕ)) (r s : List ℕ) (first : ℕ) (fault : WitnessFault) → length text ≤ 1048576 → first ≡ 4 + length ps → IsRead text entry proc number ps [] r → TakesPairs (codes "answer ") r bs s → IsFault (codes "answer ") (first + length bs) s fault → IsWhy text fault
why_answers text entry proc number ps bs r s first (Syntax line) small m h k (n, has, never) =
    let place : 4 + length ps + length bs ≡ line = omega arith in
    (small, subst (SyntaxAt text) place (syntax_answer text entry proc number ps bs s (answers_read text entry proc number ps bs r s h k) has never))
why_answers text entry proc number ps bs r s first (Range line) small m h k (n, large) =
    let place : 4 + length ps + length bs ≡ line = omega arith in
    (small, subst (RangeAt text) place (range_answer text entry proc number ps bs s (answers_read text entry proc number ps bs r s h k) large))
why_answers text entry proc number ps bs r s first (Limit found) small m h k l = absurd l
why_answers text entry proc number ps bs r s first Memory small m h k l = tt

-- behind no answers stands what stood behind the parameters
none_before : (bs : List (Name × List ℕ)) (r s : List ℕ) → NoWord (codes "param ") r → TakesPairs (codes "answer ") r bs s → bs ≡ [] → NoWord (codes "param ") s
none_before bs r s never k e =
    let same : r ≡ s = k.place ∙ ap (λ xs. text_of (answer_lines xs) ++ s) e in
    subst (NoWord (codes "param ")) same never

end_at : (text entry proc number : List ℕ) (ps bs : List (Name × List ℕ)) (r s : List ℕ) (line n : ℕ) → n ≡ 4 + length ps + length bs → IsRead text entry proc number ps [] r → NoWord (codes "param ") r → TakesPairs (codes "answer ") r bs s → NoWord (codes "answer ") s → TakesEnd n s (Err (Syntax line)) → SyntaxAt text line
end_at text entry proc number ps bs r s line n m h never k none (inl (e, out)) =
    let place : 4 + length ps + length bs ≡ line = omega arith in
    subst (SyntaxAt text) place
    (syntax_end text entry proc number ps bs s (answers_read text entry proc number ps bs r s h k) (none_before bs r s never k) none out)
end_at text entry proc number ps bs r s line n m h never k none (inr (b, more, e, f)) =
    let place : 4 + length ps + length bs + 1 ≡ line = omega arith in
    subst (SyntaxAt text) place (syntax_behind text entry proc number ps bs s (answers_read text entry proc number ps bs r s h k) b more f)

pub why_end : (text entry proc number : List ℕ) (ps bs : List (Name × List ℕ)) (r s : List ℕ) (n : ℕ) (fault : WitnessFault) → length text ≤ 1048576 → n ≡ 4 + length ps + length bs → IsRead text entry proc number ps [] r → NoWord (codes "param ") r → TakesPairs (codes "answer ") r bs s → NoWord (codes "answer ") s → TakesEnd n s (Err fault) → IsWhy text fault
why_end text entry proc number ps bs r s n (Syntax line) small m h never k none l = (small, end_at text entry proc number ps bs r s line n m h never k none l)
why_end text entry proc number ps bs r s n (Range line) small m h never k none l = absurd l
why_end text entry proc number ps bs r s n (Limit found) small m h never k none l = absurd l
why_end text entry proc number ps bs r s n Memory small m h never k none l = absurd l

-- the text of what is read
pub whole_read : (text : List ℕ) (w : Witness) (r s : List ℕ) → IsRead text w.entry w.site.proc (decimal w.site.index) (map param_pair w.params) [] r → TakesPairs (codes "answer ") r (map answer_pair w.answers) s → s ≡ end_line ++ 10 ∷ [] → IsTextOf text w
whole_read text w r s h k e =
    let ps = map param_pair w.params in
    let bs = map answer_pair w.answers in
    let number = decimal w.site.index in
    let all = answers_read text w.entry w.site.proc number ps bs r s h k in
    record {
      witness =
          record { entry = all.head.entry_named; proc = all.head.proc_named; number = all.head.numbered; params = all.params; answers = all.answers };
      same =
          more_lines text (so_far w.entry w.site.proc number ps bs) (end_line ∷ []) s [] all.place e
          ∙ (append-nil (text_of (so_far w.entry w.site.proc number ps bs ++ end_line ∷ []))
          ∙ ap (λ t. text_of (head_line ∷ entry_line w.entry ∷ site_line w.site.proc number ∷ t)) (append_assoc (param_lines ps) (answer_lines bs) (end_line ∷ [])));
    }
