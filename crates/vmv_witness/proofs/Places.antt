-- How a fault is told of a line.
use Rattle.std.proofs.Common.{◌≡◌, ℕ, ◌+◌, true, List, [], ◌∷◌, ◌++◌, length, sym, subst, ◌∙◌, append_assoc}
use Rattle.std.proofs.lemmas.List.{append-nil}
use Rattle.vmv_witness.specs.Numbers.{IsSiteNumber, IsValue}
use Rattle.vmv_witness.specs.Text.{Spelled, lines_of, text_of, IsSpelled}
use Rattle.vmv_witness.specs.Faults.{Begins, BeginsLoosely, SyntaxAt, RangeAt}
use Rattle.vmv_witness.specs.Reading.{lacks}
use Rattle.vmv_witness.proofs.Bytes.{same_split}
use Rattle.vmv_witness.proofs.Clean.{Clean, lines_clean, loose, cancel, front_clean, next_clean}

pub begins_loosely : (lines : List (List ℕ)) → Begins lines → BeginsLoosely lines
begins_loosely lines (s, more, h, e) = (s, more, loose s h, e)

pub begun_clean : (before : List (List ℕ)) → BeginsLoosely before → Clean before
begun_clean before (s, more, h, e) = front_clean before more (subst Clean e (lines_clean s h))

-- the whole of a witness text isn't these lines
abbrev pub IsCut : List (List ℕ) → Type 0
IsCut before = (s : Spelled) → IsSpelled IsSiteNumber IsValue s → lines_of s ≡ before → ⊥

-- no witness text goes on behind these lines with a line that stands first in the rest
abbrev pub IsShut : List (List ℕ) → List ℕ → Type 0
IsShut before rest = (line more : List ℕ) → rest ≡ line ++ 10 ∷ more → lacks 10 line ≡ true → Begins (before ++ line ∷ []) → ⊥

none_on : (before : List (List ℕ)) (rest : List ℕ) → (rest ≡ [] → IsCut before) → IsShut before rest
    → (s : Spelled) (more : List (List ℕ)) → IsSpelled IsSiteNumber IsValue s → lines_of s ≡ before ++ more → rest ≡ text_of more → ⊥
none_on before rest cut shut s [] h e r = cut r s h (e ∙ append-nil before)
none_on before rest cut shut s (line ∷ more) h e r =
    shut line (text_of more) r
    (next_clean before line more (subst Clean e (lines_clean s (loose s h))))
    (s, more, h, e ∙ sym (append_assoc before (line ∷ []) more))

none : (text : List ℕ) (before : List (List ℕ)) (rest : List ℕ) → text ≡ text_of before ++ rest → Begins before → (rest ≡ [] → IsCut before) → IsShut before rest
    → (s : Spelled) → IsSpelled IsSiteNumber IsValue s → text ≡ text_of (lines_of s) → ⊥
none text before rest place begun cut shut s h e =
    let c = cancel (lines_of s) before rest (lines_clean s (loose s h)) (begun_clean before (begins_loosely before begun)) (sym e ∙ place) in
    none_on before rest cut shut s c.0 h c.1 c.2

pub syntax_at : (text : List ℕ) (n : ℕ) (before : List (List ℕ)) (rest : List ℕ) → text ≡ text_of before ++ rest → n ≡ length before + 1 → Begins before
    → (rest ≡ [] → IsCut before) → ((line more : List ℕ) → rest ≡ line ++ 10 ∷ more → BeginsLoosely (before ++ line ∷ []) → ⊥) → SyntaxAt text n
syntax_at text n before rest place number begun cut shut =
    record {
      before = before;
      rest = rest;
      departs =
          record {
            place = place;
            number = number;
            begun = begun;
            none = none text before rest place begun cut (λ line more e l b. shut line more e (begins_loosely (before ++ line ∷ []) b));
          };
      shut = shut;
    }

pub no_rest : (line more : List ℕ) → line ++ 10 ∷ more ≡ [] → ⊥
no_rest [] more e = cc
no_rest (b ∷ line) more e = cc

pub line_clean : (before : List (List ℕ)) (line : List ℕ) → BeginsLoosely (before ++ line ∷ []) → lacks 10 line ≡ true
line_clean before line b = next_clean before line [] (begun_clean (before ++ line ∷ []) b)

pub range_at : (text : List ℕ) (n : ℕ) (before : List (List ℕ)) (line more : List ℕ) → text ≡ text_of before ++ (line ++ 10 ∷ more) → n ≡ length before + 1 → Begins before
    → BeginsLoosely (before ++ line ∷ []) → (Begins (before ++ line ∷ []) → ⊥) → RangeAt text n
range_at text n before line more place number begun loosely out =
    record {
      before = before;
      line = line;
      more = more;
      departs =
          record {
            place = place;
            number = number;
            begun = begun;
            none =
                none text before (line ++ 10 ∷ more) place begun (λ e. absurd (no_rest line more e))
                (λ x y e l b. let same = same_split 10 line more x y (line_clean before line loosely) l e in out (subst (λ z. Begins (before ++ z ∷ [])) (sym same.0) b));
          };
      loosely = loosely;
      out = out;
    }
