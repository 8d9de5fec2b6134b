-- What a walk's states tell of runs from their points.
use Rattle.std.proofs.Common.{◌∙◌, ◌≡◌, inl, inr, ℕ, ◌+◌, ℤ, Bool, true, false, MatchBool, Option, List, ◌++◌, length, get_or-append-add, subst, arith, length-append}
use Rattle.std.specs.List.{All, Contains}
use Rattle.std.proofs.lemmas.List.{get_or_append_left}
use Rattle.vmv_tree.specs.declared.name.Name.{Name}
use Rattle.vmv_tree.specs.Words.{IsWord}
use Rattle.vmv_tree.specs.Run.{Valuation, Answers, End, next, End.fail, Does, InARow, IsFail}
use Rattle.vmv_cond.specs.Cond.{Holds}
use Rattle.vmv_zone.specs.declared.zone.Zone.{Zone}
use Rattle.vmv_zone.specs.Zone.{HasPoint, IsBelow}
use Rattle.vmv_zone.proofs.MoreLaws.{below_point}
use Rattle.vmv_assumption.specs.Assumed.{Assumed}
use Rattle.vmv_assumption.specs.Within.{Meet}
use Rattle.vmv_step.specs.Agree.{Agrees, IsSameUnnamed, Follows}
use Rattle.vmv_cert.specs.declared.row.Row.{Row}
use Rattle.vmv_cert.specs.Walk.{goes, fails, GoesIf}
use Rattle.vmv_table_sound.specs.Told.{named}

-- the next valuation has a point of the state, with p's words in the slots without a name; a failing site is listed
abbrev pub IsShown : Row → Zone → List (Option Name) → (ℕ → ℤ) → End → Type 0
IsShown row e slots p (next v) = Follows e slots v p
IsShown row e slots p (fail site) = Contains row.unproved (named site)

-- what may happen from each point of the state z is shown by the state e
abbrev pub Leads : Assumed → Row → List (Option Name) → Does → Zone → Zone → Type 0
Leads assumed row slots does z e =
    (v : Valuation) (p : ℕ → ℤ) (answers : Answers) (end : End) → HasPoint z p → Agrees slots v p → Meet answers assumed → does v answers end → IsShown row e slots p end

-- from a point with the same words in the slots without a name
pub shown_on : (row : Row) (e : Zone) (slots : List (Option Name)) (p q : ℕ → ℤ) (end : End) → IsSameUnnamed slots p q → IsShown row e slots q end → IsShown row e slots p end
shown_on row e slots p q (next v) same f = record { after = f.after; point = f.point; agrees = f.agrees; unnamed = λ n at. f.unnamed n at ∙ same n at }
shown_on row e slots p q (fail site) same f = f

-- a failure doesn't depend on the state
pub failed_on : (row : Row) (y e : Zone) (slots : List (Option Name)) (p q : ℕ → ℤ) (end : End) → IsFail end → IsShown row y slots p end → IsShown row e slots q end
failed_on row y e slots p q (next v) failed f = absurd failed
failed_on row y e slots p q (fail site) failed f = f

-- in a state above
pub shown_above : (row : Row) (a b : Zone) (slots : List (Option Name)) (p : ℕ → ℤ) (end : End) → a.vars ≡ b.vars → IsBelow a b → IsShown row a slots p end → IsShown row b slots p end
shown_above row a b slots p (next v) same below f = record { after = f.after; point = below_point a b f.after same below f.point; agrees = f.agrees; unnamed = f.unnamed }
shown_above row a b slots p (fail site) same below f = f

all_left : {X : Type 0} (P : X → Type 0) (xs ys : List X) → All P (xs ++ ys) → All P xs
all_left P xs ys all k d h = let long = length-append xs ys in subst P (get_or_append_left xs ys d k h) (all k d (omega arith))

all_right : {X : Type 0} (P : X → Type 0) (xs ys : List X) → All P (xs ++ ys) → All P ys
all_right P xs ys all k d h = let long = length-append xs ys in subst P (get_or-append-add xs ys k d) (all (length xs + k) d (omega arith))

-- an answer that is a word meets what is assumed of its name
abbrev IsMet : Assumed → Name × ℤ → Type 0
IsMet assumed answer = IsWord answer.1 → Holds (assumed answer.0) answer.1

pub meets_left : (a b : Answers) (assumed : Assumed) → Meet (a ++ b) assumed → Meet a assumed
meets_left a b assumed h = all_left (IsMet assumed) a b h

pub meets_right : (a b : Answers) (assumed : Assumed) → Meet (a ++ b) assumed → Meet b assumed
meets_right a b assumed h = all_right (IsMet assumed) a b h

-- one part of an `if`
pub either_way : (b : Bool) (P Q R S T : Type 0) → MatchBool b P Q → MatchBool b R S → (P → R → T) → (Q → S → T) → T
either_way true P Q R S T h k f g = f h k
either_way false P Q R S T h k f g = g h k

pub row_leads : (assumed : Assumed) (row : Row) (slots : List (Option Name)) (first second : Does) (z y e : Zone) → Leads assumed row slots first z y → Leads assumed row slots second y e →
    Leads assumed row slots (InARow first second) z e
row_leads assumed row slots first second z y e f g v p answers end point agrees meet (inl (h, k)) = failed_on row y e slots p p end k (f v p answers end point agrees meet h)
row_leads assumed row slots first second z y e f g v p answers end point agrees meet (inr (mid, used, more, h, k, is)) =
    let meet' : Meet (used ++ more) assumed = subst (λ (xs : Answers). Meet xs assumed) is meet in
    let s : Follows y slots mid p = f v p used (next mid) point agrees (meets_left used more assumed meet') h in
    shown_on row e slots p s.after end s.unnamed (g mid s.after more end s.point s.agrees (meets_right used more assumed meet') k)

-- a test of the walk that didn't stop it
pub went : (P : Type 0) (n : ℕ) (z e : Zone) → GoesIf P n z (goes e) → P × (e ≡ z)
went P n z e (inl (p, is)) = (p, (cc))
went P n z e (inr (none, is)) = absurd (cc)

pub goes_or_fails : (z : Zone) (n : ℕ) → goes z ≡ fails n → ⊥
goes_or_fails z n e = absurd (cc)

pub same_zone : (a b : Zone) → goes a ≡ goes b → a ≡ b
same_zone a b e = cc
