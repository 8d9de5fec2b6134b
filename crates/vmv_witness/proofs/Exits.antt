-- What the parts of a reader say of the whole text, as it is left at each part.
use Rattle.std.proofs.Common.{◌≡◌, ℕ, List, [], ◌∷◌, ◌++◌, refl, sym, ap, subst, ◌∙◌, IsTrue, arith, append_assoc}
use Rattle.std.specs.Prelude.{codes}
use Rattle.std.specs.Fmt.{decimal}
use Rattle.std.proofs.lemmas.List.{append_cancel_left}
use Rattle.vmv_tree.specs.Names.{is_name}
use Rattle.vmv_tree.specs.declared.name.Name.{Name}
use Rattle.vmv_witness.specs.Numbers.{IsNumber, IsSiteNumber, IsValue}
use Rattle.vmv_witness.specs.Text.{Spelled, text_of, entry_line, site_line, IsSpelled}
use Rattle.vmv_witness.specs.Faults.{Begins, SyntaxAt, RangeAt}
use Rattle.vmv_witness.specs.Reading.{NoneLoosely, TooLarge, NoLine}
use Rattle.vmv_witness.proofs.Bytes.{same_split}
use Rattle.vmv_witness.proofs.Clean.{name_lacks}
use Rattle.vmv_witness.proofs.Follow.{Pairs}
use Rattle.vmv_witness.proofs.Places.{syntax_at, range_at}

abbrev pub head_line : List ℕ
head_line = codes "vmv-witness 1"

-- a witness with this entry and this site
abbrev pub spelled : Name → Name → List ℕ → List (Name × List ℕ) → List (Name × List ℕ) → Spelled
spelled entry proc number params answers = record { entry = entry; proc = proc; number = number; params = params; answers = answers }

-- the entry and the site that were read are such
pub record IsHead (entry proc number : List ℕ) : Type 0 where
  pub entry_named : IsTrue (is_name entry)
  pub proc_named : IsTrue (is_name proc)
  pub numbered : IsSiteNumber number

zero_number : IsSiteNumber (decimal 0)
zero_number = (0, omega arith, refl)

pub spells : (entry proc number : List ℕ) (params answers : List (Name × List ℕ)) → IsHead entry proc number → Pairs IsValue params → Pairs IsValue answers → IsSpelled IsSiteNumber IsValue (spelled entry proc number params answers)
spells entry proc number params answers h k l =
    record { entry = h.entry_named; proc = h.proc_named; number = h.numbered; params = k; answers = l }

only_entry : (entry : List ℕ) → IsTrue (is_name entry) → IsHead entry entry (decimal 0)
only_entry entry h = record { entry_named = h; proc_named = h; numbered = zero_number }

after_site : (x y : List ℕ) → codes "site " ++ x ≡ codes "site " ++ y → x ≡ y
after_site x y e = append_cancel_left (codes "site ") x y e

-- the first line

begins_0 : Begins []
begins_0 = (spelled (codes "e") (codes "e") (decimal 0) [] [], _, spells (codes "e") (codes "e") (decimal 0) [] [] (only_entry (codes "e") refl) tt tt, refl)

pub syntax_1 : (text : List ℕ) → NoLine head_line text → SyntaxAt text 1
syntax_1 text never =
    syntax_at text 1 [] text refl refl begins_0 (λ e s h q. cc)
    (λ line more e b. let same : line ≡ head_line = sym (let q = b.3 in cc) in never more (e ∙ ap (λ l. l ++ 10 ∷ more) same))

-- the line of the entry

begins_1 : Begins (head_line ∷ [])
begins_1 = (spelled (codes "e") (codes "e") (decimal 0) [] [], _, spells (codes "e") (codes "e") (decimal 0) [] [] (only_entry (codes "e") refl) tt tt, refl)

pub syntax_2 : (text rest : List ℕ) → text ≡ head_line ++ 10 ∷ rest → ((name more : List ℕ) → IsTrue (is_name name) → rest ≡ entry_line name ++ 10 ∷ more → ⊥) → SyntaxAt text 2
syntax_2 text rest place never =
    syntax_at text 2 (head_line ∷ []) rest place refl begins_1 (λ e s h q. cc)
    (λ line more e b.
    let same : line ≡ entry_line b.0.entry = sym (let q = b.3 in cc) in
    never b.0.entry more b.2.entry (e ∙ ap (λ l. l ++ 10 ∷ more) same))

-- the line of the site

begins_2 : (entry : List ℕ) → IsTrue (is_name entry) → Begins (head_line ∷ entry_line entry ∷ [])
begins_2 entry h = (spelled entry entry (decimal 0) [] [], _, spells entry entry (decimal 0) [] [] (only_entry entry h) tt tt, refl)

place_2 : (text r s entry : List ℕ) → text ≡ head_line ++ 10 ∷ r → r ≡ entry_line entry ++ 10 ∷ s → text ≡ text_of (head_line ∷ entry_line entry ∷ []) ++ s
place_2 text r s entry e f = e ∙ (ap (λ x. head_line ++ 10 ∷ x) f ∙ sym (simp append_assoc))

pub syntax_3 : (text r s entry : List ℕ) → IsTrue (is_name entry) → text ≡ head_line ++ 10 ∷ r → r ≡ entry_line entry ++ 10 ∷ s → NoneLoosely (codes "site ") 35 s → SyntaxAt text 3
syntax_3 text r s entry h e f never =
    syntax_at text 3 (head_line ∷ entry_line entry ∷ []) s (place_2 text r s entry e f) refl (begins_2 entry h) (λ e s h q. cc)
    (λ line more g b.
    let same : line ≡ site_line b.0.proc b.0.number = sym (let q = b.3 in cc) in
    never b.0.proc b.0.number more (record { named = b.2.proc; numbered = b.2.number; place = g ∙ ap (λ l. l ++ 10 ∷ more) same }))

pub range_3 : (text r s entry : List ℕ) → IsTrue (is_name entry) → text ≡ head_line ++ 10 ∷ r → r ≡ entry_line entry ++ 10 ∷ s → TooLarge (codes "site ") 35 IsSiteNumber s → RangeAt text 3
range_3 text r s entry h e f (name, number, more, l, out) =
    let loosely : IsSpelled IsNumber IsNumber (spelled entry name number [] []) =
    record { entry = h; proc = l.named; number = l.numbered; params = tt; answers = tt } in
    range_at text 3 (head_line ∷ entry_line entry ∷ []) (site_line name number) more
    (place_2 text r s entry e f ∙ ap (λ x. text_of (head_line ∷ entry_line entry ∷ []) ++ x) l.place)
    refl (begins_2 entry h)
    (spelled entry name number [] [], _, loosely, refl)
    (λ b.
    let same : site_line name number ≡ site_line b.0.proc b.0.number = sym (let q = b.3 in cc) in
    let split = same_split 35 name number b.0.proc b.0.number (name_lacks 35 refl name l.named) (name_lacks 35 refl b.0.proc b.2.proc) (after_site _ _ same) in
    out (subst IsSiteNumber (sym split.1) b.2.number))
