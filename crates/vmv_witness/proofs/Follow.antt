-- What may stand behind the first lines of a witness text.
use Rattle.std.proofs.Common.{◌≡◌, ◌⊎◌, inl, inr, ℕ, List, [], ◌∷◌, ◌++◌, refl, sym, ap, IsTrue, arith}
use Rattle.std.specs.Prelude.{codes}
use Rattle.std.specs.List.{AllByRecursion}
use Rattle.vmv_tree.specs.Names.{is_name}
use Rattle.vmv_tree.specs.declared.name.Name.{Name}
use Rattle.vmv_witness.specs.Text.{pair_line, param_lines, answer_lines}

abbrev pub IsPairOf : (List ℕ → Type 0) → Name × List ℕ → Type 0
IsPairOf V p = IsTrue (is_name p.0) × V p.1

abbrev pub Pairs : (List ℕ → Type 0) → List (Name × List ℕ) → Type 0
Pairs V ps = AllByRecursion (IsPairOf V) ps

abbrev pub param_line : Name × List ℕ → List ℕ
param_line p = pair_line (codes "param ") p

abbrev pub answer_line : Name × List ℕ → List ℕ
answer_line p = pair_line (codes "answer ") p

abbrev pub end_line : List ℕ
end_line = codes "end"

first : List ℕ → ℕ
first [] = 0
first (b ∷ rest) = b

pub param_not_answer : (x y : List ℕ) → codes "param " ++ x ≡ codes "answer " ++ y → ⊥
unfolding first
param_not_answer x y e = let n : ◌≡◌ {A = ℕ} 112 97 = ap first e in omega arith

pub param_not_end : (x y : List ℕ) → codes "param " ++ x ≡ codes "end" ++ y → ⊥
unfolding first
param_not_end x y e = let n : ◌≡◌ {A = ℕ} 112 101 = ap first e in omega arith

pub answer_not_end : (x y : List ℕ) → codes "answer " ++ x ≡ codes "end" ++ y → ⊥
unfolding first
answer_not_end x y e = let n : ◌≡◌ {A = ℕ} 97 101 = ap first e in omega arith

-- the lines of answers, and the last line
abbrev pub answers_to_end : List (Name × List ℕ) → List (List ℕ)
answers_to_end ys = answer_lines ys ++ end_line ∷ []

abbrev pub params_to_end : (xs ys : List (Name × List ℕ)) → List (List ℕ)
params_to_end xs ys = param_lines xs ++ answers_to_end ys

-- These lines may stand behind answers: further answers and the last line. Where there are no answers yet, parameters may stand before them.
abbrev pub Left : (V : List ℕ → Type 0) → List (Name × List ℕ) → List (List ℕ) → Type 0
Left V bs tail =
    ((bs ≡ []) × ((xs : List (Name × List ℕ)) × (ys : List (Name × List ℕ)) × Pairs V xs × Pairs V ys × (tail ≡ params_to_end xs ys)))
    ⊎ ((ys : List (Name × List ℕ)) × Pairs V ys × (tail ≡ answers_to_end ys))

answers_left : (V : List ℕ → Type 0) (ys bs : List (Name × List ℕ)) (tail : List (List ℕ)) → Pairs V ys → answers_to_end ys ≡ answer_lines bs ++ tail
    → (zs : List (Name × List ℕ)) × Pairs V zs × (tail ≡ answers_to_end zs)
answers_left V ys [] tail h e = (ys, h, sym e)
answers_left V [] (a ∷ bs) tail h e =
    let s : end_line ≡ answer_line a = cc in
    absurd (answer_not_end (a.0 ++ 32 ∷ a.1) [] (sym s))
answers_left V (y ∷ ys) (a ∷ bs) tail h e =
    let s : answers_to_end ys ≡ answer_lines bs ++ tail = cc in
    answers_left V ys bs tail h.1 s

pub params_left : (V : List ℕ → Type 0) (xs ys ps bs : List (Name × List ℕ)) (tail : List (List ℕ)) → Pairs V xs → Pairs V ys
    → params_to_end xs ys ≡ param_lines ps ++ (answer_lines bs ++ tail) → Left V bs tail
params_left V [] ys [] bs tail h k e = inr (answers_left V ys bs tail k e)
params_left V (x ∷ xs) ys [] [] tail h k e = inl (refl, (x ∷ xs, ys, h, k, sym e))
params_left V (x ∷ xs) ys [] (a ∷ bs) tail h k e =
    let s : param_line x ≡ answer_line a = cc in
    absurd (param_not_answer (x.0 ++ 32 ∷ x.1) (a.0 ++ 32 ∷ a.1) s)
params_left V [] [] (p ∷ ps) bs tail h k e =
    let s : end_line ≡ param_line p = cc in
    absurd (param_not_end (p.0 ++ 32 ∷ p.1) [] (sym s))
params_left V [] (y ∷ ys) (p ∷ ps) bs tail h k e =
    let s : answer_line y ≡ param_line p = cc in
    absurd (param_not_answer (p.0 ++ 32 ∷ p.1) (y.0 ++ 32 ∷ y.1) (sym s))
params_left V (x ∷ xs) ys (p ∷ ps) bs tail h k e =
    let s : params_to_end xs ys ≡ param_lines ps ++ (answer_lines bs ++ tail) = cc in
    params_left V xs ys ps bs tail h.1 k s

-- the line that stands behind answers: a parameter's where there are none, an answer's, or the last
abbrev pub MayFollow : (V : List ℕ → Type 0) → List (Name × List ℕ) → List ℕ → List (List ℕ) → Type 0
MayFollow V bs line more =
    ((bs ≡ []) × ((p : Name × List ℕ) × IsPairOf V p × (line ≡ param_line p)))
    ⊎ (((p : Name × List ℕ) × IsPairOf V p × (line ≡ answer_line p)) ⊎ ((line ≡ end_line) × (more ≡ [])))

answers_follow : (V : List ℕ → Type 0) (bs ys : List (Name × List ℕ)) (line : List ℕ) (more : List (List ℕ)) → Pairs V ys → line ∷ more ≡ answers_to_end ys → MayFollow V bs line more
answers_follow V bs [] line more h e =
    let s : line ≡ end_line = cc in
    let t : more ≡ [] = cc in
    inr (inr (s, t))
answers_follow V bs (y ∷ ys) line more h e = let s : line ≡ answer_line y = cc in inr (inl (y, h.0, s))

params_follow : (V : List ℕ → Type 0) (bs xs ys : List (Name × List ℕ)) (line : List ℕ) (more : List (List ℕ)) → bs ≡ [] → Pairs V xs → Pairs V ys → line ∷ more ≡ params_to_end xs ys → MayFollow V bs line more
params_follow V bs [] ys line more n h k e = answers_follow V bs ys line more k e
params_follow V bs (x ∷ xs) ys line more n h k e = let s : line ≡ param_line x = cc in inl (n, (x, h.0, s))

pub left_follows : (V : List ℕ → Type 0) (bs : List (Name × List ℕ)) (line : List ℕ) (more : List (List ℕ)) → Left V bs (line ∷ more) → MayFollow V bs line more
left_follows V bs line more (inl (n, (xs, ys, h, k, e))) = params_follow V bs xs ys line more n h k e
left_follows V bs line more (inr (ys, h, e)) = answers_follow V bs ys line more h e

answers_end : (ys : List (Name × List ℕ)) → [] ≡ answers_to_end ys → ⊥
answers_end [] e = cc
answers_end (y ∷ ys) e = cc

params_end : (xs ys : List (Name × List ℕ)) → [] ≡ params_to_end xs ys → ⊥
params_end [] ys e = answers_end ys e
params_end (x ∷ xs) ys e = cc

-- something follows
pub left_some : (V : List ℕ → Type 0) (bs : List (Name × List ℕ)) → Left V bs [] → ⊥
left_some V bs (inl (n, (xs, ys, h, k, e))) = params_end xs ys e
left_some V bs (inr (ys, h, e)) = answers_end ys e
