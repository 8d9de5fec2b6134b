-- Pieces: statements that have no block, and the fronts of those that have one.
use Rattle.std.proofs.Common.{◌≡◌, ℤ, pos, inl, List, [], ◌∷◌, ◌++◌, Some, refl, sym, ◌∙◌, ap, subst, drop}
use Rattle.vmv_tree.specs.declared.name.Name.{Name}
use Rattle.vmv_tree.specs.declared.tree.Operand.{Operand}
use Rattle.vmv_tree.specs.declared.tree.Operand.TheVariants.{Lit}
use Rattle.vmv_tree.specs.declared.tree.Test.{Test}
use Rattle.vmv_tree.specs.Tree.{Stmt, copy, compute, call, assert, choose, repeat}
use Rattle.vmv_text.specs.declared.token.Token.{Token}
use Rattle.vmv_text.specs.declared.token.Token.TheVariants.{Named, Number, Equals, Semicolon, AssertWord, IfWord, RepeatWord, OpenBrace}
use Rattle.vmv_text.specs.Tokens.{Placed, tokens_of}
use Rattle.vmv_text.specs.Grammar.{Takes, IsTest, IsStmt}
use Rattle.vmv_text.specs.Reading.{Meets, Any, Ends, Stops, IsToken, IsTurns, IsBehind, first_of}
use Rattle.vmv_text.specs.Pieces.{Piece, simple, choosing, repeating, IsSimple, IsPiece, IsPieceBehind}
use Rattle.vmv_text.proofs.Steps.{Then, Along, Open, same, token_taken, first_skipped}
use Rattle.vmv_text.proofs.Single.{meets_first, one_stops}

-- a piece by its first token
pub open_piece : Open IsPiece
unfolding IsStmt
open_piece = record {
  some = simple (copy (97 ∷ []) (Lit (pos 0)));
  more = Named (97 ∷ []) ∷ Equals ∷ Number 0 ∷ Semicolon ∷ [];
  goes_on = λ rest. (tt, (Number 0 ∷ Semicolon ∷ rest, refl, inl (0, refl, refl)));
}

pub piece-behind : (t : Token) (old new : List Placed) → first_of old ≡ Some t → new ≡ drop 1 old → Along IsPiece Any (λ (piece : Piece). piece) old (IsPieceBehind t) new
piece-behind t old new h e =
    let k = first_skipped t old new h e in
    token_taken IsPiece Any (λ (piece : Piece). piece) (IsPieceBehind t) t k.0 old new k.1 (λ piece us rest g. g) (λ piece us rest ok g. (piece, g))

no_piece_here : (now : List Placed) → ((x : Name) → first_of now ≡ Some (Named x) → ⊥) → (first_of now ≡ Some AssertWord → ⊥) → (first_of now ≡ Some IfWord → ⊥) → (first_of now ≡ Some RepeatWord → ⊥)
    → (piece : Piece) (us rest : List Token) → Meets now us → IsPiece piece us rest → ⊥
unfolding IsStmt
no_piece_here now f g h k (simple (copy x from)) us rest m (s, e) = f x (meets_first (Named x) now us _ m e.1)
no_piece_here now f g h k (simple (compute x op left right)) us rest m (s, e) = f x (meets_first (Named x) now us _ m e.2)
no_piece_here now f g h k (simple (call x callee args)) us rest m (s, e) = f x (meets_first (Named x) now us _ m e.1)
no_piece_here now f g h k (simple (assert test)) us rest m (s, e) = g (meets_first AssertWord now us _ m e.1)
no_piece_here now f g h k (simple (choose test first second)) us rest m (s, e) = absurd s
no_piece_here now f g h k (simple (repeat index bound most body)) us rest m (s, e) = absurd s
no_piece_here now f g h k (choosing test) us rest m e = h (meets_first IfWord now us _ m e.1)
no_piece_here now f g h k (repeating turns) us rest m e = k (meets_first RepeatWord now us _ m e.1)

pub piece_stops : (now : List Placed) → ((x : Name) → first_of now ≡ Some (Named x) → ⊥) → (first_of now ≡ Some AssertWord → ⊥) → (first_of now ≡ Some IfWord → ⊥) → (first_of now ≡ Some RepeatWord → ⊥)
    → Stops IsPiece Any now now
piece_stops now f g h k = one_stops IsPiece Any now open_piece (λ piece us rest m ok e. no_piece_here now f g h k piece us rest m e)

-- behind its first token, each piece is what it is
named_simple : (to : Name) (s : Stmt) (us rest : List Token) → IsStmt s (Named to ∷ us) rest → IsSimple s
unfolding IsStmt
named_simple to (copy x from) us rest h = tt
named_simple to (compute x op left right) us rest h = tt
named_simple to (call x callee args) us rest h = tt
named_simple to (assert test) us rest h = tt
named_simple to (choose test first second) us rest h = absurd (cc h.3)
named_simple to (repeat index bound most body) us rest h = absurd (cc h.3)

named_part : (to : Name) (piece : Piece) (us rest : List Token) → IsPieceBehind (Named to) piece us rest → (s : Stmt) × IsBehind (Named to) s us rest
named_part to (simple s) us rest h = (s, h.1)
named_part to (choosing test) us rest h = absurd (cc h.1)
named_part to (repeating turns) us rest h = absurd (cc h.1)

pub named-piece : (to : Name) (now : List Placed) → Along (IsPieceBehind (Named to)) Any simple now (IsBehind (Named to)) now
named-piece to now =
    same (IsPieceBehind (Named to)) Any simple now (IsBehind (Named to)) (λ s us rest k. (named_simple to s us rest k, k)) (λ piece us rest m ok k. named_part to piece us rest k)

assert_simple : (s : Stmt) (us rest : List Token) → IsStmt s (AssertWord ∷ us) rest → IsSimple s
unfolding IsStmt
assert_simple (copy x from) us rest h = tt
assert_simple (compute x op left right) us rest h = tt
assert_simple (call x callee args) us rest h = tt
assert_simple (assert test) us rest h = tt
assert_simple (choose test first second) us rest h = absurd (cc h.3)
assert_simple (repeat index bound most body) us rest h = absurd (cc h.3)

assert_part : (piece : Piece) (us rest : List Token) → IsPieceBehind AssertWord piece us rest → (s : Stmt) × IsBehind AssertWord s us rest
assert_part (simple s) us rest h = (s, h.1)
assert_part (choosing test) us rest h = absurd (cc h.1)
assert_part (repeating turns) us rest h = absurd (cc h.1)

pub assert-piece : (now : List Placed) → Along (IsPieceBehind AssertWord) Any simple now (IsBehind AssertWord) now
assert-piece now =
    same (IsPieceBehind AssertWord) Any simple now (IsBehind AssertWord) (λ s us rest k. (assert_simple s us rest k, k)) (λ piece us rest m ok k. assert_part piece us rest k)

abbrev pub choosing_from : Test × Unit {0} → Piece
choosing_from p = choosing p.0

choosing_made : (p : Test × Unit {0}) (us rest : List Token) → Then IsTest (IsToken OpenBrace) p us rest → IsPieceBehind IfWord (choosing_from p) us rest
choosing_made p us rest k = (us, refl, subst (λ t. IsTest p.0 us t) k.second k.first)

choosing_part : (piece : Piece) (us rest : List Token) → IsPieceBehind IfWord piece us rest → (p : Test × Unit {0}) × Then IsTest (IsToken OpenBrace) p us rest
unfolding IsStmt
choosing_part (simple (copy x from)) us rest h = absurd (cc h.1.1)
choosing_part (simple (compute x op left right)) us rest h = absurd (cc h.1.2)
choosing_part (simple (call x callee args)) us rest h = absurd (cc h.1.1)
choosing_part (simple (assert test)) us rest h = absurd (cc h.1.1)
choosing_part (simple (choose test first second)) us rest h = absurd h.0
choosing_part (simple (repeat index bound most body)) us rest h = absurd h.0
choosing_part (choosing test) us rest h =
    let here : h.0 ≡ us = cc h.1 in
    ((test, tt), record { mid = OpenBrace ∷ rest; first = subst (λ t. IsTest test t (OpenBrace ∷ rest)) here h.2; second = refl })
choosing_part (repeating turns) us rest h = absurd (cc h.1)

pub choosing-parts : (now : List Placed) → Along (IsPieceBehind IfWord) Any choosing_from now (Then IsTest (IsToken OpenBrace)) now
choosing-parts now =
    same (IsPieceBehind IfWord) Any choosing_from now (Then IsTest (IsToken OpenBrace)) choosing_made (λ piece us rest m ok k. choosing_part piece us rest k)

abbrev pub repeating_from : (Name × (Operand × ℤ)) × Unit {0} → Piece
repeating_from p = repeating p.0

repeating_made : (p : (Name × (Operand × ℤ)) × Unit {0}) (us rest : List Token) → Then IsTurns (IsToken OpenBrace) p us rest → IsPieceBehind RepeatWord (repeating_from p) us rest
repeating_made p us rest k = (us, refl, subst (λ t. IsTurns p.0 us t) k.second k.first)

repeating_part : (piece : Piece) (us rest : List Token) → IsPieceBehind RepeatWord piece us rest → (p : (Name × (Operand × ℤ)) × Unit {0}) × Then IsTurns (IsToken OpenBrace) p us rest
unfolding IsStmt
repeating_part (simple (copy x from)) us rest h = absurd (cc h.1.1)
repeating_part (simple (compute x op left right)) us rest h = absurd (cc h.1.2)
repeating_part (simple (call x callee args)) us rest h = absurd (cc h.1.1)
repeating_part (simple (assert test)) us rest h = absurd (cc h.1.1)
repeating_part (simple (choose test first second)) us rest h = absurd h.0
repeating_part (simple (repeat index bound most body)) us rest h = absurd h.0
repeating_part (choosing test) us rest h = absurd (cc h.1)
repeating_part (repeating turns) us rest h =
    let here : h.0 ≡ us = cc h.1 in
    ((turns, tt), record { mid = OpenBrace ∷ rest; first = subst (λ t. IsTurns turns t (OpenBrace ∷ rest)) here h.2; second = refl })

pub repeating-parts : (now : List Placed) → Along (IsPieceBehind RepeatWord) Any repeating_from now (Then IsTurns (IsToken OpenBrace)) now
repeating-parts now =
    same (IsPieceBehind RepeatWord) Any repeating_from now (Then IsTurns (IsToken OpenBrace)) repeating_made (λ piece us rest m ok k. repeating_part piece us rest k)
