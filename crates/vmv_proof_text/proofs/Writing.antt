-- The text of parts that are put together.
use Rattle.std.proofs.Common.{◌≡◌, ℕ, ◌+◌, ◌<◌, List, [], ◌∷◌, ◌++◌, map, length, drop, get_or, refl, sym, ap, ◌∙◌, append_assoc}
use Rattle.std.specs.List.{flat_map}
use Rattle.std.proofs.lemmas.List.{append-nil, map-append, at_drop_more}
use Rattle.std.proofs.lemmas.List.Concat.{flat_map-append}
use Rattle.vmv_witness.specs.Text.{text_of}
use Rattle.vmv_witness.proofs.Writing.{text_of-append}
use Rattle.vmv_proof_text.specs.Parts.{Part}
use Rattle.vmv_proof_text.specs.Text.{line_of, parts_text}

pub parts_text-append : (xs ys : List Part) → parts_text (xs ++ ys) ≡ parts_text xs ++ parts_text ys
parts_text-append xs ys = ap text_of (map-append line_of xs ys) ∙ text_of-append (map line_of xs) (map line_of ys)

pub ruleset writing = (parts_text-append, flat_map-append, append-nil, append_assoc)

-- the front of what is left of a list
pub front : {A : Type 0} (F : List A → List ℕ) (xs : List A) (i : ℕ) (x : A) → i < length xs → x ≡ get_or xs i x → F (drop i xs) ≡ F (x ∷ drop (i + 1) xs)
front F xs i x small is = at_drop_more F xs i x small ∙ ap (λ y. F (y ∷ drop (i + 1) xs)) (sym is)

-- the parts of one more member are written
pub push_parts : {A : Type 0} (f : A → List Part) (xs : List A) (i : ℕ) (x : A) (out new whole : List ℕ) → i < length xs → x ≡ get_or xs i x
    → new ≡ out ++ parts_text (f x) → out ++ parts_text (flat_map f (drop i xs)) ≡ whole → new ++ parts_text (flat_map f (drop (i + 1) xs)) ≡ whole
push_parts f xs i x out new whole small is e h =
    let rest = flat_map f (drop (i + 1) xs) in
    let step = front (λ ys. parts_text (flat_map f ys)) xs i x small is ∙ parts_text-append (f x) rest in
    ap (λ n. n ++ parts_text rest) e ∙ (append_assoc out (parts_text (f x)) (parts_text rest) ∙ (ap (λ t. out ++ t) (sym step) ∙ h))

-- some parts are written, and then others
pub push_both : (ps qs : List Part) (out mid new : List ℕ) → mid ≡ out ++ parts_text ps → new ≡ mid ++ parts_text qs → new ≡ out ++ parts_text (ps ++ qs)
push_both ps qs out mid new e f =
    f ∙ (ap (λ t. t ++ parts_text qs) e ∙ (append_assoc out (parts_text ps) (parts_text qs) ∙ ap (λ t. out ++ t) (sym (parts_text-append ps qs))))
