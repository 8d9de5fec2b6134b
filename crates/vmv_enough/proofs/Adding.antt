-- Probes that are added.
use Rattle.std.proofs.Common.{◌≡◌, inl, inr, ⊎_elim, ℕ, zero, suc, ◌+◌, ◌-◌, ◌<◌, ◌≤◌, min, get_or, Option, Some, None, List, [], ◌∷◌, ◌++◌, length, take, map, refl, sym, ap, subst, ◌∙◌, arith, append_assoc, length-append}
use Rattle.std.proofs.lemmas.List.{append-nil, map-append, take_all}
use Rattle.vmv_snapshot.specs.Resolution.{Resolution}
use Rattle.vmv_snapshot.proofs.Zips.{take_one_more}
use Rattle.vmv_back.specs.Boxes.{AreBoxes}
use Rattle.vmv_demands.specs.Demands.{AreDemands}
use Rattle.std.proofs.lemmas.Grind.{flat_map-append}
use Rattle.vmv_assumption.specs.Assumed.{Assumed}
use Rattle.vmv_cert.specs.Tables.{Box}
use Rattle.vmv_demands.specs.declared.demand.Demand.{Demand}
use Rattle.vmv_enough.specs.declared.probe.Mode.{Mode}
use Rattle.vmv_enough.specs.declared.probe.Mode.TheVariants.{Least, Greatest, Nearest}
use Rattle.vmv_enough.specs.declared.probe.Probe.{Probe}
use Rattle.vmv_enough.specs.Probes.{CanMiss, AreThose, of_mode, of_box, tries, AreProbes}
use Rattle.vmv_enough.specs.Kept.{Adds}

those_then : {A : Type 0} (P : A → Type 0) (xs ys ks ls : List A) → AreThose P xs ks → AreThose P ys ls → AreThose P (xs ++ ys) (ks ++ ls)
those_then P [] ys ks ls h g = subst (λ zs. AreThose P ys (zs ++ ls)) (sym h) g
those_then P (x ∷ xs) ys ks ls h g =
    ⊎_elim
    (λ (p, (rest, e, more)). inl (p, (rest ++ ls, ap (λ zs. zs ++ ls) e, those_then P xs ys rest ls more g)))
    (λ (n, more). inr (n, those_then P xs ys ks ls more g))
    h

take_none : {A : Type 0} (xs : List A) → take 0 xs ≡ []
take_none [] = refl
take_none (x ∷ xs) = refl

take_more_of : {A : Type 0} (n : ℕ) (x : A) (xs : List A) → take (suc n) (x ∷ xs) ≡ x ∷ take n xs
take_more_of n x xs = refl

take_nil : {A : Type 0} (n : ℕ) → take {A = A} n [] ≡ []
take_nil zero = refl
take_nil (suc n) = refl

-- the first of two lists in a row are those of the first, and then those of the second
take_then : {A : Type 0} (n : ℕ) (xs ys : List A) → take n (xs ++ ys) ≡ take n xs ++ take (n - length xs) ys
take_then n [] ys = ap (λ k. take k ys) (sub_none n) ∙ ap (λ zs. zs ++ take (n - 0) ys) (sym (take_nil n))
  where
    sub_none : (n : ℕ) → n ≡ n - 0
    sub_none n = omega arith
take_then zero (x ∷ xs) ys = sym (ap (λ k. take k ys) (none_less (length xs)) ∙ take_none ys)
  where
    none_less : (k : ℕ) → 0 - suc k ≡ 0
    none_less k = omega arith
take_then (suc n) (x ∷ xs) ys = ap (λ zs. x ∷ zs) (take_then n xs ys) ∙ ap (λ k. x ∷ (take n xs ++ take k ys)) (one_less n (length xs))
  where
    one_less : (n k : ℕ) → n - k ≡ suc n - suc k
    one_less n k = omega arith

length_take : {A : Type 0} (n : ℕ) (xs : List A) → length (take n xs) ≡ min n (length xs)
length_take zero xs = ap length (take_none xs) ∙ omega arith
length_take (suc n) [] = omega arith
length_take (suc n) (x ∷ xs) = let e = length_take n xs in omega (arith, e)

-- what is left of 1,000 after some were added
left_over : (old n taken : ℕ) → taken ≡ min (1000 - old) n → 1000 - old - n ≡ 1000 - (old + taken)
left_over old n taken e = omega (arith, e)

nothing_added : (old : List Probe) → old ≡ old ++ take (1000 - length old) []
nothing_added old = sym (ap (λ xs. old ++ xs) (take_nil (1000 - length old)) ∙ append-nil old)

pub adds_none : (assumed : Assumed) (old : List Probe) → Adds assumed [] old old
adds_none assumed old = record { kept = []; kept_are = refl; added = nothing_added old }

pub adds_then : (assumed : Assumed) (xs ys : List Probe) (a b c : List Probe) → Adds assumed xs a b → Adds assumed ys b c → Adds assumed (xs ++ ys) a c
adds_then assumed xs ys a b c h g =
    let n = 1000 - length a in
    let size : length b ≡ length a + length (take (1000 - length a) h.kept) = ap length h.added ∙ length-append a (take (1000 - length a) h.kept) in
    let room : 1000 - length a - length h.kept ≡ 1000 - length b = left_over (length a) (length h.kept) (length (take (1000 - length a) h.kept)) (length_take (1000 - length a) h.kept) ∙ ap (λ k. 1000 - k) (sym size) in
    record {
      kept = h.kept ++ g.kept;
      kept_are = those_then (λ (probe : Probe). CanMiss assumed probe.missed) xs ys h.kept g.kept h.kept_are g.kept_are;
      added =
          g.added ∙ ap (λ zs. zs ++ take (1000 - length b) g.kept) h.added ∙ append_assoc a (take (1000 - length a) h.kept) (take (1000 - length b) g.kept)
          ∙ ap (λ zs. a ++ zs) (ap (λ k. take (1000 - length a) h.kept ++ take k g.kept) (sym room) ∙ sym (take_then (1000 - length a) h.kept g.kept));
    }

-- a probe that can't miss its demand is left out
pub adds_left_out : (assumed : Assumed) (probe : Probe) (old : List Probe) → ¬ CanMiss assumed probe.missed → Adds assumed (probe ∷ []) old old
adds_left_out assumed probe old cannot = record { kept = []; kept_are = inr (cannot, refl); added = nothing_added old }

pub adds_one : (assumed : Assumed) (probe : Probe) (old new : List Probe) → CanMiss assumed probe.missed → length old < 1000 → new ≡ old ++ probe ∷ [] → Adds assumed (probe ∷ []) old new
adds_one assumed probe old new can few e = record {
  kept = probe ∷ [];
  kept_are = inl (can, ([], refl, refl));
  added = e ∙ ap (λ xs. old ++ xs) (one (1000 - length old) (omega (arith, few)));
}
  where
    one : (n : ℕ) → 0 < n → probe ∷ [] ≡ take n (probe ∷ [])
    one zero h = absurd (omega (arith, h))
    one (suc n) h = ap (λ xs. probe ∷ xs) (sym (none n))
      where
        none : (n : ℕ) → take {A = Probe} n [] ≡ []
        none zero = refl
        none (suc n) = refl

pub adds_full : (assumed : Assumed) (probe : Probe) (old : List Probe) → CanMiss assumed probe.missed → 1000 ≤ length old → Adds assumed (probe ∷ []) old old
adds_full assumed probe old can full = record {
  kept = probe ∷ [];
  kept_are = inl (can, ([], refl, refl));
  added = sym (ap (λ n. old ++ take n (probe ∷ [])) (no_room (length old) full) ∙ append-nil old);
}
  where
    no_room : (n : ℕ) → 1000 ≤ n → 1000 - n ≡ 0
    no_room n h = omega (arith, h)

-- one demand more to miss
pub of_mode-push : (demands : List Demand) (d : Demand) (box : Box) (mode : Mode) → of_mode (demands ++ d ∷ []) box mode ≡ of_mode demands box mode ++ record { within = box; mode = mode; missed = Some d } ∷ []
of_mode-push demands d box mode =
    let F : Option Demand → Probe = λ choice. record { within = box; mode = mode; missed = choice } in
    let G : Demand → Option Demand = λ x. Some x in
    ap (λ xs. F None ∷ map F xs) (map-append G demands (d ∷ [])) ∙ ap (λ xs. F None ∷ xs) (map-append F (map G demands) (Some d ∷ []))

pub of_box_is : (demands : List Demand) (box : Box) → of_mode demands box Least ++ (of_mode demands box Greatest ++ of_mode demands box Nearest) ≡ of_box demands box
of_box_is demands box = ap (λ xs. of_mode demands box Least ++ (of_mode demands box Greatest ++ xs)) (sym (append-nil (of_mode demands box Nearest)))

pub tries-push : (boxes : List Box) (box : Box) (demands : List Demand) → tries (boxes ++ box ∷ []) demands ≡ tries boxes demands ++ of_box demands box
tries-push boxes box demands = flat_map-append (of_box demands) boxes (box ∷ []) ∙ ap (λ xs. tries boxes demands ++ xs) (append-nil (of_box demands box))

-- one demand more is missed
pub adds_mode_more : (assumed : Assumed) (demands : List Demand) (box : Box) (mode : Mode) (i : ℕ) (d : Demand) (first old new : List Probe) → i < length demands → d ≡ get_or demands i d → Adds assumed (of_mode (take i demands) box mode) first old →
    Adds assumed (record { within = box; mode = mode; missed = Some d } ∷ []) old new → Adds assumed (of_mode (take (i + 1) demands) box mode) first new
adds_mode_more assumed demands box mode i d first old new h is before one =
    subst (λ xs. Adds assumed xs first new) (sym (ap (λ ds. of_mode ds box mode) (take_one_more demands i d h is) ∙ of_mode-push (take i demands) d box mode))
    (adds_then assumed (of_mode (take i demands) box mode) (record { within = box; mode = mode; missed = Some d } ∷ []) first old new before one)

pub adds_mode_all : (assumed : Assumed) (demands : List Demand) (box : Box) (mode : Mode) (i : ℕ) (first new : List Probe) → length demands ≤ i → Adds assumed (of_mode (take i demands) box mode) first new → Adds assumed (of_mode demands box mode) first new
adds_mode_all assumed demands box mode i first new all h = subst (λ ds. Adds assumed (of_mode ds box mode) first new) (take_all i demands all) h

-- the three modes of a box
pub adds_box : (assumed : Assumed) (demands : List Demand) (box : Box) (a b c d : List Probe) → Adds assumed (of_mode demands box Least) a b → Adds assumed (of_mode demands box Greatest) b c → Adds assumed (of_mode demands box Nearest) c d → Adds assumed (of_box demands box) a d
adds_box assumed demands box a b c d one two three =
    subst (λ xs. Adds assumed xs a d) (of_box_is demands box)
    (adds_then assumed (of_mode demands box Least) (of_mode demands box Greatest ++ of_mode demands box Nearest) a b d one
    (adds_then assumed (of_mode demands box Greatest) (of_mode demands box Nearest) b c d two three))

-- one box more
pub adds_box_more : (assumed : Assumed) (boxes : List Box) (demands : List Demand) (i : ℕ) (box : Box) (first old new : List Probe) → i < length boxes → box ≡ get_or boxes i box → Adds assumed (tries (take i boxes) demands) first old → Adds assumed (of_box demands box) old new →
    Adds assumed (tries (take (i + 1) boxes) demands) first new
adds_box_more assumed boxes demands i box first old new h is before one =
    subst (λ xs. Adds assumed xs first new) (sym (ap (λ ys. tries ys demands) (take_one_more boxes i box h is) ∙ tries-push (take i boxes) box demands))
    (adds_then assumed (tries (take i boxes) demands) (of_box demands box) first old new before one)

pub no_boxes : (assumed : Assumed) (boxes : List Box) (demands : List Demand) (old : List Probe) → Adds assumed (tries (take 0 boxes) demands) old old
no_boxes assumed boxes demands old = subst (λ ys. Adds assumed (tries ys demands) old old) (sym (take_none boxes)) (adds_none assumed old)

pub adds_boxes_all : (assumed : Assumed) (boxes : List Box) (demands : List Demand) (i : ℕ) (old new : List Probe) → length boxes ≤ i → Adds assumed (tries (take i boxes) demands) old new → Adds assumed (tries boxes demands) old new
adds_boxes_all assumed boxes demands i old new all h = subst (λ ys. Adds assumed (tries ys demands) old new) (take_all i boxes all) h

pub probes_are : (program : Resolution) (n : ℕ) (assumed : Assumed) (boxes : List Box) (demands : List Demand) (old probes : List Probe) → AreBoxes program n boxes → AreDemands program n demands → old ≡ [] → Adds assumed (tries boxes demands) old probes →
    AreProbes program n assumed probes
probes_are program n assumed boxes demands old probes are_boxes are_demands none h =
    let whole = subst (λ xs. Adds assumed (tries boxes demands) xs probes) none h in
    record { boxes = boxes; boxes_are = are_boxes; demands = demands; demands_are = are_demands; kept = whole.kept; kept_are = whole.kept_are; first = whole.added }

pub adds_along : (assumed : Assumed) (boxes own : List Box) (demands wanted : List Demand) (old new : List Probe) → boxes ≡ own → demands ≡ wanted → Adds assumed (tries boxes demands) old new → Adds assumed (tries own wanted) old new
adds_along assumed boxes own demands wanted old new e f h = subst (λ ys. Adds assumed (tries ys wanted) old new) e (subst (λ ds. Adds assumed (tries boxes ds) old new) f h)
