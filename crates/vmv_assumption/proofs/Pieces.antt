-- What is kept to a piece or cut by it, at the name and elsewhere.
use Rattle.std.proofs.Common.{◌≡◌, ℤ, sym, subst}
use Rattle.std.specs.List.{Contains}
use Rattle.vmv_tree.specs.declared.name.Name.{Name}
use Rattle.vmv_tree.specs.Words.{IsWord}
use Rattle.vmv_tree.specs.Safe.{Environment, words_of}
use Rattle.vmv_cond.specs.declared.cond.Cond.{Cond}
use Rattle.vmv_cond.specs.declared.cond.Piece.{Piece}
use Rattle.vmv_cond.specs.Cond.{Holds, IsSubset}
use Rattle.vmv_cond.specs.Piece.{IsInside, IsOutside}
use Rattle.vmv_assumption.specs.Assumed.{Assumed}
use Rattle.vmv_assumption.specs.Change.{IsSet, IsKept, IsCut}
use Rattle.vmv_assumption.specs.Within.{IsBelow, IsWithin, AreInPiece, AreOffPiece}
use Rattle.vmv_assumption.proofs.Names.{by_name}

-- equal conditions hold the same words
moved : (a b : Cond) → a ≡ b → (w : ℤ) → Holds a w → Holds b w
moved a b e w h = subst (λ (c : Cond). Holds c w) e h

pub kept_below : (a b : Assumed) (f : Name) (piece : Piece) → IsKept a f piece b → IsBelow b a
kept_below a b f piece k =
    by_name {P = λ name. IsSubset (b name) (a name)} f (λ w h. ((k.there w).0 h).0) (λ name other w h. moved (b name) (a name) (k.elsewhere name other) w h)

pub cut_below : (a b : Assumed) (f : Name) (piece : Piece) → IsCut a f piece b → IsBelow b a
cut_below a b f piece k =
    by_name {P = λ name. IsSubset (b name) (a name)} f (λ w h. ((k.there w).0 h).0) (λ name other w h. moved (b name) (a name) (k.elsewhere name other) w h)

pub kept_ordered : (a b c d : Assumed) (f : Name) (piece : Piece) → IsBelow a b → IsKept a f piece c → IsKept b f piece d → IsBelow c d
kept_ordered a b c d f piece below k l =
    by_name {P = λ name. IsSubset (c name) (d name)} f
    (λ w h. let both = (k.there w).0 h in (l.there w).1 (below f w both.0, both.1))
    (λ name other w h. moved (b name) (d name) (sym (l.elsewhere name other)) w (below name w (moved (c name) (a name) (k.elsewhere name other) w h)))

pub cut_ordered : (a b c d : Assumed) (f : Name) (piece : Piece) → IsBelow a b → IsCut a f piece c → IsCut b f piece d → IsBelow c d
cut_ordered a b c d f piece below k l =
    by_name {P = λ name. IsSubset (c name) (d name)} f
    (λ w h. let both = (k.there w).0 h in (l.there w).1 (below f w both.0, both.1))
    (λ name other w h. moved (b name) (d name) (sym (l.elsewhere name other)) w (below name w (moved (c name) (a name) (k.elsewhere name other) w h)))

pub within_kept : (env : Environment) (a b : Assumed) (f : Name) (piece : Piece) → IsWithin env a → AreInPiece env f piece → IsKept a f piece b → IsWithin env b
within_kept env a b f piece within inside k =
    by_name {P = λ name. (w : ℤ) → IsWord w → Contains (words_of env name) w → Holds (b name) w} f
    (λ w word there. (k.there w).1 (within f w word there, inside w word there))
    (λ name other w word there. moved (a name) (b name) (sym (k.elsewhere name other)) w (within name w word there))

pub within_cut : (env : Environment) (a b : Assumed) (f : Name) (piece : Piece) → IsWithin env a → AreOffPiece env f piece → IsCut a f piece b → IsWithin env b
within_cut env a b f piece within off k =
    by_name {P = λ name. (w : ℤ) → IsWord w → Contains (words_of env name) w → Holds (b name) w} f
    (λ w word there. (k.there w).1 (within f w word there, off w word there))
    (λ name other w word there. moved (a name) (b name) (sym (k.elsewhere name other)) w (within name w word there))

pub kept_by_set : (a b : Assumed) (f : Name) (piece : Piece) (old kept : Cond) → old ≡ a f → IsInside old piece kept → IsSet a f kept b → IsKept a f piece b
kept_by_set a b f piece old kept e inside s =
    let P : Cond → Type 0 = λ c. IsInside c piece kept in
    let Q : Cond → Type 0 = λ c. IsInside (a f) piece c in
    record { there = subst Q (sym s.there) (subst P e inside); elsewhere = s.elsewhere }

pub cut_by_set : (a b : Assumed) (f : Name) (piece : Piece) (old left : Cond) → old ≡ a f → IsOutside old piece left → IsSet a f left b → IsCut a f piece b
cut_by_set a b f piece old left e outside s =
    let P : Cond → Type 0 = λ c. IsOutside c piece left in
    let Q : Cond → Type 0 = λ c. IsOutside (a f) piece c in
    record { there = subst Q (sym s.there) (subst P e outside); elsewhere = s.elsewhere }
