-- Pieces that are printed one after another.
use Rattle.std.proofs.Common.{◌≡◌, ℕ, ◌+◌, List, ◌++◌, length, take, drop, Option, Some, None, Result, Ok, Err, OnErr, sym, ap, subst, ◌∙◌}
use Rattle.std.proofs.Math.Seq.{take-append_seam, take-append-add}
use Rattle.std.proofs.lemmas.List.{append_assoc, take-append-drop}
use Rattle.vmv_edge.specs.Outside.{Appended, AppendedFront}

-- a piece and then another are both
pub both : (a b c : Option (List ℕ)) (p q : List ℕ) → Appended a p b → Appended b q c → Appended a (p ++ q) c
both a b None p q h k = tt
both a None (Some z) p q h k = absurd k
both None (Some y) (Some z) p q h k = absurd h
both (Some x) (Some y) (Some z) p q h k = k ∙ ap (λ l. l ++ q) h ∙ append_assoc x p q

-- a piece and then a front of another are a front of both
pub front_behind : (a b c : Option (List ℕ)) (p q : List ℕ) → Appended a p b → AppendedFront b q c → AppendedFront a (p ++ q) c
front_behind a b c p q h k =
    let P : List ℕ → Type 0 = λ l. Appended a l c in
    (length p + k.0, subst P (sym (take-append-add p q k.0)) (both a b c p (take k.0 q) h k.1))

front_again : (p q : List ℕ) (n : ℕ) → take (length (take n p)) (p ++ q) ≡ take n p
front_again p q n =
    ap (λ l. take (length (take n p)) (l ++ q)) (sym (take-append-drop n p)) ∙ ap (take (length (take n p))) (append_assoc (take n p) (drop n p) q)
    ∙ take-append_seam (take n p) (drop n p ++ q)

-- a front of a piece is a front of what begins with it
pub front_of : (a b : Option (List ℕ)) (p q : List ℕ) → AppendedFront a p b → AppendedFront a (p ++ q) b
front_of a b p q h =
    let P : List ℕ → Type 0 = λ l. Appended a l b in
    (length (take h.0 p), subst P (sym (front_again p q h.0)) h.1)

-- what holds, holds of a refusal

pub on_refusal : {A E : Type 0} (result : Result A E) (P : Type 0) → P → OnErr result P
on_refusal (Ok value) P h = tt
on_refusal (Err fault) P h = h

pub refusal_as : {A E : Type 0} (result : Result A E) (P Q : Type 0) → (P → Q) → OnErr result P → OnErr result Q
refusal_as (Ok value) P Q by h = tt
refusal_as (Err fault) P Q by h = by h
