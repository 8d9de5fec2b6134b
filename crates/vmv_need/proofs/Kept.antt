-- What is assumed can be kept to a piece or cut by it, in one way.
use Rattle.std.proofs.Common.{◌≡◌, ◌≢◌, ℤ, Bool, true, false, if◌then◌else◌, refl, sym, subst, ◌∙◌}
use Rattle.std.specs.Str.{bytes_eq}
use Rattle.vmv_tree.specs.declared.name.Name.{Name}
use Rattle.vmv_cond.specs.declared.cond.Cond.{Cond}
use Rattle.vmv_cond.specs.declared.cond.Piece.{Piece}
use Rattle.vmv_cond.specs.Cond.{Holds, IsSubset}
use Rattle.vmv_cond.specs.Piece.{IsInside, IsOutside}
use Rattle.vmv_cond.proofs.Same.{same_words}
use Rattle.vmv_assumption.specs.Assumed.{Assumed}
use Rattle.vmv_assumption.specs.Change.{IsKept, IsCut}
use Rattle.vmv_assumption.proofs.Names.{bytes_same, other_bytes, by_name}
use Rattle.vmv_need.proofs.Made.{inside_exists, outside_exists}

-- with another condition for f
abbrev with_cond : Assumed → Name → Cond → Assumed
with_cond a f c = λ name. if bytes_eq name f then c else a name

pick_true : {A : Type 0} (b : Bool) (x y : A) → b ≡ true → (if b then x else y) ≡ x
pick_true true x y e = refl
pick_true false x y e = absurd (cc)

pick_false : {A : Type 0} (b : Bool) (x y : A) → b ≡ false → (if b then x else y) ≡ y
pick_false true x y e = absurd (cc)
pick_false false x y e = refl

with_there : (a : Assumed) (f : Name) (c : Cond) → with_cond a f c f ≡ c
with_there a f c = pick_true (bytes_eq f f) c (a f) (bytes_same f f refl)

with_elsewhere : (a : Assumed) (f : Name) (c : Cond) (name : Name) → name ≢ f → with_cond a f c name ≡ a name
with_elsewhere a f c name other = pick_false (bytes_eq name f) c (a name) (other_bytes name f other)

pub kept_exists : (a : Assumed) (f : Name) (piece : Piece) → (b : Assumed) × IsKept a f piece b
kept_exists a f piece =
    let made = inside_exists (a f) piece in
    let P : Cond → Type 0 = λ c. IsInside (a f) piece c in
    (with_cond a f made.0, record { there = subst P (sym (with_there a f made.0)) made.1; elsewhere = with_elsewhere a f made.0 })

pub cut_exists : (a : Assumed) (f : Name) (piece : Piece) → (b : Assumed) × IsCut a f piece b
cut_exists a f piece =
    let made = outside_exists (a f) piece in
    let P : Cond → Type 0 = λ c. IsOutside (a f) piece c in
    (with_cond a f made.0, record { there = subst P (sym (with_there a f made.0)) made.1; elsewhere = with_elsewhere a f made.0 })

pub moved : (a b : Cond) → a ≡ b → (w : ℤ) → Holds a w → Holds b w
moved a b e w h = subst (λ (c : Cond). Holds c w) e h

kept_within : (a b c : Assumed) (f : Name) (piece : Piece) → IsKept a f piece b → IsKept a f piece c → (name : Name) → IsSubset (b name) (c name)
kept_within a b c f piece k l =
    by_name {P = λ name. IsSubset (b name) (c name)} f (λ w h. (l.there w).1 ((k.there w).0 h))
    (λ name other w h. moved (b name) (c name) (k.elsewhere name other ∙ sym (l.elsewhere name other)) w h)

pub kept_once : (a b c : Assumed) (f : Name) (piece : Piece) → IsKept a f piece b → IsKept a f piece c → b ≡ c
kept_once a b c f piece k l = λ i name. same_words (b name) (c name) (kept_within a b c f piece k l name) (kept_within a c b f piece l k name) i
