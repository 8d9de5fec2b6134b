-- Lines that tell the first of some parts.
use Rattle.std.proofs.Common.{◌≡◌, ◌<◌, ◌≤◌, List, [], ◌∷◌, ◌++◌, length, refl, arith}
use Rattle.std.specs.List.{AllZip}
use Rattle.vmv_proof_text.specs.Parts.{Part}
use Rattle.vmv_proof_text.specs.Lines.{IsLine}
use Rattle.vmv_proof_text.specs.Loose.{IsLoosely}
use Rattle.vmv_proof_text.specs.Faults.{Line, Start, StartLoosely}

pub start_front : (ps : List Part) (xs ys : List Line) → Start ps (xs ++ ys) → Start ps xs
start_front ps [] ys h = tt
start_front [] (x ∷ xs) ys h = absurd h
start_front (p ∷ ps) (x ∷ xs) ys h = (h.0, start_front ps xs ys h.1)

pub start_more : (ps qs : List Part) (xs : List Line) → Start ps xs → Start (ps ++ qs) xs
start_more ps qs [] h = tt
start_more [] qs (x ∷ xs) h = absurd h
start_more (p ∷ ps) qs (x ∷ xs) h = (h.0, start_more ps qs xs h.1)

pub start_less : (ps qs : List Part) (xs : List Line) → length xs ≤ length ps → Start (ps ++ qs) xs → Start ps xs
start_less ps qs [] few h = tt
start_less [] qs (x ∷ xs) few h = absurd (omega arith)
start_less (p ∷ ps) qs (x ∷ xs) few h = (h.0, start_less ps qs xs (omega arith) h.1)

pub start_told : (ps qs : List Part) (xs ys : List Line) → AllZip IsLine ps xs → Start qs ys → Start (ps ++ qs) (xs ++ ys)
start_told [] qs [] ys t h = h
start_told [] qs (x ∷ xs) ys t h = absurd t
start_told (p ∷ ps) qs [] ys t h = absurd t
start_told (p ∷ ps) qs (x ∷ xs) ys t h = (t.0, start_told ps qs xs ys t.1 h)

pub start_behind : (ps qs : List Part) (xs ys : List Line) → AllZip IsLine ps xs → Start (ps ++ qs) (xs ++ ys) → Start qs ys
start_behind [] qs [] ys t h = h
start_behind [] qs (x ∷ xs) ys t h = absurd t
start_behind (p ∷ ps) qs [] ys t h = absurd t
start_behind (p ∷ ps) qs (x ∷ xs) ys t h = start_behind ps qs xs ys t.1 h.1

pub start_long : (ps : List Part) (xs : List Line) → Start ps xs → length xs ≤ length ps
start_long ps [] h = omega arith
start_long [] (x ∷ xs) h = absurd h
start_long (p ∷ ps) (x ∷ xs) h = omega (arith, start_long ps xs h.1)

pub told_starts : (ps : List Part) (xs : List Line) → AllZip IsLine ps xs → Start ps xs
told_starts [] [] t = tt
told_starts [] (x ∷ xs) t = absurd t
told_starts (p ∷ ps) [] t = absurd t
told_starts (p ∷ ps) (x ∷ xs) t = (t.0, told_starts ps xs t.1)

pub told_long : (ps : List Part) (xs : List Line) → AllZip IsLine ps xs → length xs ≡ length ps
told_long [] [] t = refl
told_long [] (x ∷ xs) t = absurd t
told_long (p ∷ ps) [] t = absurd t
told_long (p ∷ ps) (x ∷ xs) t = omega (arith, told_long ps xs t.1)

pub told_both : (ps qs : List Part) (xs ys : List Line) → AllZip IsLine ps xs → AllZip IsLine qs ys → AllZip IsLine (ps ++ qs) (xs ++ ys)
told_both [] qs [] ys t h = h
told_both [] qs (x ∷ xs) ys t h = absurd t
told_both (p ∷ ps) qs [] ys t h = absurd t
told_both (p ∷ ps) qs (x ∷ xs) ys t h = (t.0, told_both ps qs xs ys t.1 h)

-- lines that tell parts and then others
pub record Cut (ps qs : List Part) (lines : List Line) : Type 0 where
  pub front : List Line
  pub back : List Line
  pub same : lines ≡ front ++ back
  pub first : AllZip IsLine ps front
  pub second : AllZip IsLine qs back

pub told_cut : (ps qs : List Part) (lines : List Line) → AllZip IsLine (ps ++ qs) lines → Cut ps qs lines
told_cut [] qs lines t = record { front = []; back = lines; same = refl; first = tt; second = t }
told_cut (p ∷ ps) qs [] t = absurd t
told_cut (p ∷ ps) qs (x ∷ lines) t =
    let c = told_cut ps qs lines t.1 in
    record { front = x ∷ c.front; back = c.back; same = λ i. x ∷ c.same i; first = (t.0, c.first); second = c.second }

pub loosely_starts : (ps : List Part) (before : List Line) (line : Line) → StartLoosely ps before line → Start ps before
loosely_starts [] before line h = absurd h
loosely_starts (p ∷ ps) [] line h = tt
loosely_starts (p ∷ ps) (x ∷ before) line h = (h.0, loosely_starts ps before line h.1)

pub loosely_long : (ps : List Part) (before : List Line) (line : Line) → StartLoosely ps before line → length before < length ps
loosely_long [] before line h = absurd h
loosely_long (p ∷ ps) [] line h = omega arith
loosely_long (p ∷ ps) (x ∷ before) line h = omega (arith, loosely_long ps before line h.1)

pub loosely_more : (ps qs : List Part) (before : List Line) (line : Line) → StartLoosely ps before line → StartLoosely (ps ++ qs) before line
loosely_more [] qs before line h = absurd h
loosely_more (p ∷ ps) qs [] line h = h
loosely_more (p ∷ ps) qs (x ∷ before) line h = (h.0, loosely_more ps qs before line h.1)

pub loosely_less : (ps qs : List Part) (before : List Line) (line : Line) → length before < length ps → StartLoosely (ps ++ qs) before line → StartLoosely ps before line
loosely_less [] qs before line few h = absurd (omega arith)
loosely_less (p ∷ ps) qs [] line few h = h
loosely_less (p ∷ ps) qs (x ∷ before) line few h = (h.0, loosely_less ps qs before line (omega arith) h.1)

pub loosely_told : (ps qs : List Part) (xs before : List Line) (line : Line) → AllZip IsLine ps xs → StartLoosely qs before line → StartLoosely (ps ++ qs) (xs ++ before) line
loosely_told [] qs [] before line t h = h
loosely_told [] qs (x ∷ xs) before line t h = absurd t
loosely_told (p ∷ ps) qs [] before line t h = absurd t
loosely_told (p ∷ ps) qs (x ∷ xs) before line t h = (t.0, loosely_told ps qs xs before line t.1 h)

pub loosely_behind : (ps qs : List Part) (xs before : List Line) (line : Line) → AllZip IsLine ps xs → StartLoosely (ps ++ qs) (xs ++ before) line → StartLoosely qs before line
loosely_behind [] qs [] before line t h = h
loosely_behind [] qs (x ∷ xs) before line t h = absurd t
loosely_behind (p ∷ ps) qs [] before line t h = absurd t
loosely_behind (p ∷ ps) qs (x ∷ xs) before line t h = loosely_behind ps qs xs before line t.1 h.1

-- where a line that may tell a part may do so but for the size of its numbers
pub start_loosely : ((p : Part) (line : Line) → IsLine p line → IsLoosely p line) → (ps : List Part) (before : List Line) (line : Line) → Start ps (before ++ line ∷ []) → StartLoosely ps before line
start_loosely loose [] [] line h = absurd h
start_loosely loose [] (x ∷ before) line h = absurd h
start_loosely loose (p ∷ ps) [] line h = loose p line h.0
start_loosely loose (p ∷ ps) (x ∷ before) line h = (h.0, start_loosely loose ps before line h.1)
