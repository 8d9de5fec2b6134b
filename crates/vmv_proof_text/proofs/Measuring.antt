-- Lengths that are added up.
use Rattle.std.proofs.Common.{◌≡◌, ℕ, ◌+◌, ◌-◌, ◌^◌, ◌<◌, ◌≤◌, List, [], ◌∷◌, ◌++◌, length, drop, get_or, arith, sym, ap, ◌∙◌, append_assoc, length-append}
use Rattle.std.specs.List.{flat_map}
use Rattle.std.proofs.lemmas.List.{at_drop_all}
use Rattle.vmv_proof_text.specs.Lengths.{capped, Adds}
use Rattle.vmv_cert.specs.declared.table.Table.{Table}
use Rattle.vmv_proof.specs.declared.proof.Exclusion.{Exclusion}
use Rattle.vmv_proof.specs.declared.proof.Shown.{Shown}
use Rattle.vmv_proof.specs.declared.proof.Proof.{Proof}
use Rattle.vmv_proof_text.specs.Parts.{Part, opening_part, exclusions_part, exclude_part, box_part, table_part, entries_part, plain_part, given_part, end_part, parts_of_row, parts_of_table, parts_of_exclusion, parts_of_shown}
use Rattle.vmv_proof_text.specs.Text.{parts_text, proof_text}
use Rattle.vmv_proof_text.proofs.Writing.{parts_text-append, front}

pub capped-add : (a b : ℕ) → capped (capped a + b) ≡ capped (a + b)
unfolding capped
capped-add a b = omega arith

pub capped-capped : (a : ℕ) → capped (capped a) ≡ capped a
unfolding capped
capped-capped a = omega arith

-- what is added exactly is added
pub adds_exactly : (a b n : ℕ) → b ≡ capped (a + n) → Adds a b n
adds_exactly a b n e = ap capped e ∙ capped-capped (a + n)

-- one after the other
pub adds_both : (a b c m n : ℕ) → Adds a b m → Adds b c n → Adds a c (m + n)
adds_both a b c m n h k =
    k ∙ (sym (capped-add b n) ∙ (ap (λ x. capped (x + n)) h ∙ (capped-add (a + m) n ∙ ap capped (omega arith))))

pub adds_nothing : (a : ℕ) → Adds a a 0
adds_nothing a = ap capped (omega arith)

pub adds_same : (a b m n : ℕ) → m ≡ n → Adds a b m → Adds a b n
adds_same a b m n e h = h ∙ ap (λ x. capped (a + x)) e

-- the length of two texts
pub adds_texts : (a b c : ℕ) (xs ys zs : List ℕ) → zs ≡ xs ++ ys → Adds a b (length xs) → Adds b c (length ys) → Adds a c (length zs)
adds_texts a b c xs ys zs e h k = adds_same a c (length xs + length ys) (length zs) (sym (ap length e ∙ length-append xs ys)) (adds_both a b c (length xs) (length ys) h k)

-- the parts of one more member are added
pub add_parts : {A : Type 0} (f : A → List Part) (xs : List A) (i : ℕ) (x : A) (total new : ℕ) (whole : ℕ) → i < length xs → x ≡ get_or xs i x
    → Adds total new (length (parts_text (f x))) → capped (total + length (parts_text (flat_map f (drop i xs)))) ≡ whole
    → capped (new + length (parts_text (flat_map f (drop (i + 1) xs)))) ≡ whole
add_parts f xs i x total new whole small is e h =
    let rest = flat_map f (drop (i + 1) xs) in
    let step = front (λ ys. parts_text (flat_map f ys)) xs i x small is ∙ parts_text-append (f x) rest in
    sym (capped-add new (length (parts_text rest)))
    ∙ (ap (λ t. capped (t + length (parts_text rest))) e
    ∙ (capped-add (total + length (parts_text (f x))) (length (parts_text rest))
    ∙ (ap capped (omega (arith, ap length step, length-append (parts_text (f x)) (parts_text rest))) ∙ h)))

-- after the last member nothing is left to add
pub add_end : {A : Type 0} (f : A → List Part) (xs : List A) (i total whole : ℕ) → length xs ≤ i
    → capped (total + length (parts_text (flat_map f (drop i xs)))) ≡ whole → capped total ≡ whole
add_end f xs i total whole past h =
    ap capped (omega (arith, ap length (at_drop_all (λ ys. parts_text (flat_map f ys)) xs i past))) ∙ h

both_texts : (lines pushed : List ℕ) (ps qs : List Part) → pushed ≡ lines ++ parts_text ps → lines ++ parts_text (ps ++ qs) ≡ pushed ++ parts_text qs
both_texts lines pushed ps qs e =
    ap (λ t. lines ++ t) (parts_text-append ps qs) ∙ (sym (append_assoc lines (parts_text ps) (parts_text qs)) ∙ ap (λ t. t ++ parts_text qs) (sym e))

-- a table, behind lines that were written before
pub table_added : (t : Table) (n : ℕ) (lines pushed : List ℕ) (a b c : ℕ) → n ≡ length t.rows → pushed ≡ lines ++ parts_text (table_part n ∷ [])
    → b ≡ capped (a + length pushed) → Adds b c (length (parts_text (flat_map parts_of_row t.rows))) → Adds a c (length (lines ++ parts_text (parts_of_table t)))
table_added t n lines pushed a b c is e f h =
    let same : pushed ≡ lines ++ parts_text (table_part (length t.rows) ∷ []) = e ∙ ap (λ m. lines ++ parts_text (table_part m ∷ [])) is in
    adds_texts a b c pushed (parts_text (flat_map parts_of_row t.rows)) (lines ++ parts_text (parts_of_table t))
    (both_texts lines pushed (table_part (length t.rows) ∷ []) (flat_map parts_of_row t.rows) same) (adds_exactly a b (length pushed) f) h

-- an exclusion
pub exclusion_added : (e : Exclusion) (lines first second : List ℕ) (a b : ℕ) → lines ≡ []
    → first ≡ lines ++ parts_text (exclude_part e.entry e.name e.piece e.under ∷ []) → second ≡ first ++ parts_text (box_part e.within ∷ [])
    → Adds a b (length (second ++ parts_text (parts_of_table e.table))) → Adds a b (length (parts_text (parts_of_exclusion e)))
exclusion_added e lines first second a b none f g h =
    let head = exclude_part e.entry e.name e.piece e.under in
    let start : second ≡ parts_text (head ∷ box_part e.within ∷ []) =
    g ∙ (ap (λ t. t ++ parts_text (box_part e.within ∷ [])) (f ∙ ap (λ t. t ++ parts_text (head ∷ [])) none)
    ∙ sym (parts_text-append (head ∷ []) (box_part e.within ∷ []))) in
    adds_same a b (length (second ++ parts_text (parts_of_table e.table))) (length (parts_text (parts_of_exclusion e)))
    (ap length (ap (λ t. t ++ parts_text (parts_of_table e.table)) start ∙ sym (parts_text-append (head ∷ box_part e.within ∷ []) (parts_of_table e.table)))) h

-- what is shown of an entry
pub shown_added : (s : Shown) (none first middle second : List ℕ) (a b c : ℕ) → none ≡ [] → first ≡ none ++ parts_text (plain_part s.entry ∷ [])
    → Adds a b (length (first ++ parts_text (parts_of_table s.plain))) → middle ≡ [] → second ≡ middle ++ parts_text (given_part s.entry ∷ [])
    → Adds b c (length (second ++ parts_text (parts_of_table s.given))) → Adds a c (length (parts_text (parts_of_shown s)))
shown_added s none first middle second a b c empty f h bare g k =
    let one = plain_part s.entry ∷ parts_of_table s.plain in
    let two = given_part s.entry ∷ parts_of_table s.given in
    let left : first ++ parts_text (parts_of_table s.plain) ≡ parts_text one =
    ap (λ t. t ++ parts_text (parts_of_table s.plain)) (f ∙ ap (λ t. t ++ parts_text (plain_part s.entry ∷ [])) empty)
    ∙ sym (parts_text-append (plain_part s.entry ∷ []) (parts_of_table s.plain)) in
    let right : second ++ parts_text (parts_of_table s.given) ≡ parts_text two =
    ap (λ t. t ++ parts_text (parts_of_table s.given)) (g ∙ ap (λ t. t ++ parts_text (given_part s.entry ∷ [])) bare)
    ∙ sym (parts_text-append (given_part s.entry ∷ []) (parts_of_table s.given)) in
    adds_texts a b c (parts_text one) (parts_text two) (parts_text (parts_of_shown s)) (parts_text-append one two)
    (adds_same a b (length (first ++ parts_text (parts_of_table s.plain))) (length (parts_text one)) (ap length left) h)
    (adds_same b c (length (second ++ parts_text (parts_of_table s.given))) (length (parts_text two)) (ap length right) k)

pub adds_list : {A : Type 0} (f : A → List Part) (xs ys : List A) (a b : ℕ) → xs ≡ ys → Adds a b (length (parts_text (flat_map f xs))) → Adds a b (length (parts_text (flat_map f ys)))
adds_list f xs ys a b e h = adds_same a b (length (parts_text (flat_map f xs))) (length (parts_text (flat_map f ys))) (ap (λ zs. length (parts_text (flat_map f zs))) e) h

-- a line alone
pub line_alone : (lines pushed : List ℕ) (p q : Part) → lines ≡ [] → p ≡ q → pushed ≡ lines ++ parts_text (p ∷ []) → pushed ≡ [] ++ parts_text (q ∷ [])
line_alone lines pushed p q none same e = e ∙ (ap (λ t. t ++ parts_text (p ∷ [])) none ∙ ap (λ x. parts_text (x ∷ [])) same)

pub lines_alone : (lines first pushed : List ℕ) (n m : ℕ) → lines ≡ [] → n ≡ m → first ≡ lines ++ parts_text (opening_part ∷ []) → pushed ≡ first ++ parts_text (exclusions_part n ∷ [])
    → pushed ≡ parts_text (opening_part ∷ exclusions_part m ∷ [])
lines_alone lines first pushed n m none same e f =
    f ∙ (ap (λ t. t ++ parts_text (exclusions_part n ∷ [])) (e ∙ ap (λ t. t ++ parts_text (opening_part ∷ [])) none)
    ∙ (sym (parts_text-append (opening_part ∷ []) (exclusions_part n ∷ [])) ∙ ap (λ k. parts_text (opening_part ∷ exclusions_part k ∷ [])) same))

-- the whole length
pub proof_measured : (p : Proof) (t₀ t₁ t₂ t₃ t₄ t₅ : ℕ) (l₁ l₃ l₅ : List ℕ) → t₀ ≡ 0 → l₁ ≡ parts_text (opening_part ∷ exclusions_part (length p.exclusions) ∷ [])
    → t₁ ≡ capped (t₀ + length l₁) → Adds t₁ t₂ (length (parts_text (flat_map parts_of_exclusion p.exclusions)))
    → l₃ ≡ [] ++ parts_text (entries_part (length p.shown) ∷ []) → t₃ ≡ capped (t₂ + length l₃) → Adds t₃ t₄ (length (parts_text (flat_map parts_of_shown p.shown)))
    → l₅ ≡ [] ++ parts_text (end_part ∷ []) → t₅ ≡ capped (t₄ + length l₅) → t₅ ≡ capped (length (proof_text p))
proof_measured p t₀ t₁ t₂ t₃ t₄ t₅ l₁ l₃ l₅ start e₁ f₁ f₂ e₃ f₃ f₄ e₅ f₅ =
    let a = opening_part ∷ exclusions_part (length p.exclusions) ∷ [] in
    let b = flat_map parts_of_exclusion p.exclusions in
    let c = entries_part (length p.shown) ∷ [] in
    let d = flat_map parts_of_shown p.shown in
    let e = end_part ∷ [] in
    let first = adds_same t₀ t₁ (length l₁) (length (parts_text a)) (ap length e₁) (adds_exactly t₀ t₁ (length l₁) f₁) in
    let third = adds_same t₂ t₃ (length l₃) (length (parts_text c)) (ap length e₃) (adds_exactly t₂ t₃ (length l₃) f₃) in
    let all = adds_both t₀ t₃ t₄ (length (parts_text a) + length (parts_text b) + length (parts_text c)) (length (parts_text d))
    (adds_both t₀ t₂ t₃ (length (parts_text a) + length (parts_text b)) (length (parts_text c)) (adds_both t₀ t₁ t₂ (length (parts_text a)) (length (parts_text b)) first f₂) third) f₄ in
    let sizes : length (proof_text p) ≡ length (parts_text a) + length (parts_text b) + length (parts_text c) + length (parts_text d) + length (parts_text e) =
    omega (
      arith,
      ap length (parts_text-append a (b ++ (c ++ (d ++ e)))),
      length-append (parts_text a) (parts_text (b ++ (c ++ (d ++ e)))),
      ap length (parts_text-append b (c ++ (d ++ e))),
      length-append (parts_text b) (parts_text (c ++ (d ++ e))),
      ap length (parts_text-append c (d ++ e)),
      length-append (parts_text c) (parts_text (d ++ e)),
      ap length (parts_text-append d e),
      length-append (parts_text d) (parts_text e),
    ) in
    f₅ ∙ (sym (capped-add t₄ (length l₅)) ∙ (ap (λ t. capped (t + length l₅)) all
    ∙ (capped-add (t₀ + (length (parts_text a) + length (parts_text b) + length (parts_text c) + length (parts_text d))) (length l₅)
    ∙ ap capped (omega (arith, sizes, start, ap length e₅)))))

pub ruleset measuring = (capped-add, capped-capped, parts_text-append, length-append)
