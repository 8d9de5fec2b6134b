-- Parts of one token, literals and operands.
use Rattle.std.proofs.Common.{false, ◌≡◌, inl, inr, ℕ, ℤ, pos, neg_ℤ, List, [], ◌∷◌, Some, refl, sym, ap, subst, drop}
use Rattle.vmv_tree.specs.declared.name.Name.{Name}
use Rattle.vmv_tree.specs.declared.tree.Operand.{Operand}
use Rattle.vmv_tree.specs.declared.tree.Operand.TheVariants.{Lit, Var}
use Rattle.vmv_tree.specs.declared.tree.Op.{Op}
use Rattle.vmv_tree.specs.declared.tree.Op.TheVariants.{Add}
use Rattle.vmv_tree.specs.declared.tree.Rel.{Rel}
use Rattle.vmv_tree.specs.declared.tree.Rel.TheVariants.{Equal}
use Rattle.vmv_tree.specs.declared.tree.Test.{Test}
use Rattle.vmv_text.specs.declared.token.Token.{Token}
use Rattle.vmv_text.specs.declared.token.Token.TheVariants.{Named, Number, Edge, Minus}
use Rattle.vmv_text.specs.Tokens.{Placed, tokens_of}
use Rattle.vmv_text.specs.Grammar.{Takes, IsName, IsLit, IsOperand, IsTest, op_token, rel_token}
use Rattle.vmv_text.specs.Reading.{Meets, Any, Lacks, Ends, Stops, IsSmall, IsNegative, IsSizeOf, IsNoSize, IsOp, IsRel, Tests, first_of}
use Rattle.vmv_text.proofs.Steps.{Then, Along, Open, same, token_taken, first_skipped, meets_lacks}

-- what begins as what is left has its first token
pub meets_first : (t : Token) (now : List Placed) (us back : List Token) → Meets now us → us ≡ t ∷ back → first_of now ≡ Some t
meets_first t [] us back m e = absurd (cc (m, e))
meets_first t (p ∷ now) us back m e =
    let first : p.token ≡ t = cc (m.1, e) in
    ap Some first

-- a part of one token
pub one_ends : {X : Type 0} (f : X → Takes) (fits : List Token → Type 0) (x : X) (t : Token) (old new : List Placed)
    → first_of old ≡ Some t → new ≡ drop 1 old
    → ((us : List Token) → f x (t ∷ us) us) → ((y : X) (us rest : List Token) → fits rest → f y (t ∷ us) rest → rest ≡ us) → Ends f fits x old new
one_ends f fits x t old new h e made only =
    let k = first_skipped t old new h e in
    record { used = record { token = t; from = k.0 } ∷ []; place = k.1; made = made; only = λ y us rest m ok g. only y us rest ok g }

pub one_stops : {X : Type 0} (f : X → Takes) (fits : List Token → Type 0) (now : List Placed) → Open f
    → ((y : X) (us rest : List Token) → Meets now us → fits rest → f y us rest → ⊥) → Stops f fits now now
one_stops f fits now o shut = record { used = []; place = refl; some = o.some; more = o.more; goes_on = o.goes_on; shut = shut }

pub open_name : Open IsName
open_name = record { some = 97 ∷ []; more = Named (97 ∷ []) ∷ []; goes_on = λ rest. refl }

pub open_small : Open IsSmall
open_small = record { some = pos 0; more = Number 0 ∷ []; goes_on = λ rest. (0, refl, refl) }

pub open_negative : Open IsNegative
open_negative = record { some = neg_ℤ (pos 0); more = Number 0 ∷ []; goes_on = λ rest. inl (0, refl, refl) }

pub open_lit : Open IsLit
open_lit = record { some = pos 0; more = Number 0 ∷ []; goes_on = λ rest. inl (0, refl, refl) }

pub open_operand : Open IsOperand
open_operand = record { some = Lit (pos 0); more = Number 0 ∷ []; goes_on = λ rest. inl (0, refl, refl) }

pub open_op : Open IsOp
open_op = record { some = Add; more = op_token Add ∷ []; goes_on = λ rest. refl }

pub open_rel : Open IsRel
open_rel = record { some = Equal; more = rel_token Equal ∷ []; goes_on = λ rest. refl }

pub name_ends : (x : Name) (old new : List Placed) → first_of old ≡ Some (Named x) → new ≡ drop 1 old → Ends IsName Any x old new
name_ends x old new h e = one_ends IsName Any x (Named x) old new h e (λ us. refl) (λ y us rest ok k. cc k)

pub name_stops : (now : List Placed) → ((x : Name) → first_of now ≡ Some (Named x) → ⊥) → Stops IsName Any now now
name_stops now none = one_stops IsName Any now open_name (λ y us rest m ok k. none y (meets_first (Named y) now us rest m k))

small_only : (n : ℕ) (y : ℤ) (us rest : List Token) → IsSmall y (Number n ∷ us) rest → rest ≡ us
small_only n y us rest (m, a, b) = cc b

pub small_ends : (z : ℤ) (old new : List Placed) → (n : ℕ) × (z ≡ pos n) × (first_of old ≡ Some (Number n)) → new ≡ drop 1 old → Ends IsSmall Any z old new
small_ends z old new (n, a, b) e = one_ends IsSmall Any z (Number n) old new b e (λ us. (n, a, refl)) (λ y us rest ok k. small_only n y us rest k)

pub small_stops : (now : List Placed) → ((n : ℕ) → first_of now ≡ Some (Number n) → ⊥) → Stops IsSmall Any now now
small_stops now none = one_stops IsSmall Any now open_small (λ y us rest m ok k. none k.0 (meets_first (Number k.0) now us rest m k.2))

negative_only : (n : ℕ) (y : ℤ) (us rest : List Token) → IsNegative y (Number n ∷ us) rest → rest ≡ us
negative_only n y us rest (inl (m, a, b)) = cc b
negative_only n y us rest (inr (a, b)) = cc b

edge_only : (y : ℤ) (us rest : List Token) → IsNegative y (Edge ∷ us) rest → rest ≡ us
edge_only y us rest (inl (m, a, b)) = cc b
edge_only y us rest (inr (a, b)) = cc b

pub negative_ends : (z : ℤ) (old new : List Placed) → IsSizeOf z (first_of old) → new ≡ drop 1 old → Ends IsNegative Any z old new
negative_ends z old new (inl (n, a, b)) e = one_ends IsNegative Any z (Number n) old new b e (λ us. inl (n, a, refl)) (λ y us rest ok k. negative_only n y us rest k)
negative_ends z old new (inr (a, b)) e = one_ends IsNegative Any z Edge old new b e (λ us. inr (a, refl)) (λ y us rest ok k. edge_only y us rest k)

no_negative : (now : List Placed) → IsNoSize (first_of now) → (y : ℤ) (us rest : List Token) → Meets now us → IsNegative y us rest → ⊥
no_negative now none y us rest m (inl (n, a, b)) = none.0 n (meets_first (Number n) now us rest m b)
no_negative now none y us rest m (inr (a, b)) = none.1 (meets_first Edge now us rest m b)

pub negative_stops : (now : List Placed) → IsNoSize (first_of now) → Stops IsNegative Any now now
negative_stops now none = one_stops IsNegative Any now open_negative (λ y us rest m ok k. no_negative now none y us rest m k)

pub op_ends : (op : Op) (old new : List Placed) → first_of old ≡ Some (op_token op) → new ≡ drop 1 old → Ends IsOp Any op old new
op_ends op old new h e = one_ends IsOp Any op (op_token op) old new h e (λ us. refl) (λ y us rest ok k. cc k)

pub op_stops : (now : List Placed) → ((op : Op) → first_of now ≡ Some (op_token op) → ⊥) → Stops IsOp Any now now
op_stops now none = one_stops IsOp Any now open_op (λ y us rest m ok k. none y (meets_first (op_token y) now us rest m k))

pub rel_ends : (rel : Rel) (old new : List Placed) → first_of old ≡ Some (rel_token rel) → new ≡ drop 1 old → Ends IsRel Any rel old new
rel_ends rel old new h e = one_ends IsRel Any rel (rel_token rel) old new h e (λ us. refl) (λ y us rest ok k. cc k)

pub rel_stops : (now : List Placed) → ((rel : Rel) → first_of now ≡ Some (rel_token rel) → ⊥) → Stops IsRel Any now now
rel_stops now none = one_stops IsRel Any now open_rel (λ y us rest m ok k. none y (meets_first (rel_token y) now us rest m k))

-- a literal with its sign, and without
lit_signed : (z : ℤ) (us rest : List Token) → IsNegative z us rest → IsLit z (Minus ∷ us) rest
lit_signed z us rest (inl (n, a, b)) = inr (inl (n, a, ap (λ t. Minus ∷ t) b))
lit_signed z us rest (inr (a, b)) = inr (inr (a, ap (λ t. Minus ∷ t) b))

signed_lit : (z : ℤ) (us rest : List Token) → IsLit z (Minus ∷ us) rest → IsNegative z us rest
signed_lit z us rest (inl (n, a, b)) = absurd (cc b)
signed_lit z us rest (inr (inl (n, a, b))) = inl (n, a, cc b)
signed_lit z us rest (inr (inr (a, b))) = inr (a, cc b)

pub lit-signed : (from : List ℕ) (old new : List Placed) → old ≡ record { token = Minus; from = from } ∷ new → Along IsLit Any (λ (z : ℤ). z) old IsNegative new
lit-signed from old new e =
    token_taken IsLit Any (λ (z : ℤ). z) IsNegative Minus from old new e lit_signed (λ z us rest ok k. (z, signed_lit z us rest k))

unsigned_lit : (now : List Placed) → Lacks Minus (tokens_of now) → (z : ℤ) (us rest : List Token) → Meets now us → IsLit z us rest → IsSmall z us rest
unsigned_lit now none z us rest m (inl k) = k
unsigned_lit now none z us rest m (inr (inl (n, a, b))) = absurd (meets_lacks Minus now us none m (Number n ∷ rest) b)
unsigned_lit now none z us rest m (inr (inr (a, b))) = absurd (meets_lacks Minus now us none m (Edge ∷ rest) b)

pub lit-unsigned : (old now : List Placed) → Tests Minus false old now → Along IsLit Any (λ (z : ℤ). z) old IsSmall now
lit-unsigned old now e =
    subst (λ t. Along IsLit Any (λ (z : ℤ). z) old IsSmall t) (sym e.1)
    (same IsLit Any (λ (z : ℤ). z) old IsSmall (λ z us rest k. inl k) (λ z us rest m ok k. (z, unsigned_lit old e.0 z us rest m k)))

-- an operand that is a name, and one that isn't
pub operand_name : (x : Name) (y : Operand) (us rest : List Token) → IsOperand y (Named x ∷ us) rest → rest ≡ us
operand_name x (Var y) us rest k = cc k
operand_name x (Lit z) us rest (inl (n, a, b)) = absurd (cc b)
operand_name x (Lit z) us rest (inr (inl (n, a, b))) = absurd (cc b)
operand_name x (Lit z) us rest (inr (inr (a, b))) = absurd (cc b)

pub operand_ends : (x : Name) (old new : List Placed) → first_of old ≡ Some (Named x) → new ≡ drop 1 old → Ends IsOperand Any (Var x) old new
operand_ends x old new h e = one_ends IsOperand Any (Var x) (Named x) old new h e (λ us. refl) (λ y us rest ok k. operand_name x y us rest k)

operand_lit : (now : List Placed) → ((x : Name) → first_of now ≡ Some (Named x) → ⊥) → (y : Operand) (us rest : List Token) → Meets now us → IsOperand y us rest → (z : ℤ) × IsLit z us rest
operand_lit now none (Var x) us rest m k = absurd (none x (meets_first (Named x) now us rest m k))
operand_lit now none (Lit z) us rest m k = (z, k)

pub operand-lit : (now : List Placed) → ((x : Name) → first_of now ≡ Some (Named x) → ⊥) → Along IsOperand Any Lit now IsLit now
operand-lit now none =
    same IsOperand Any Lit now IsLit (λ z us rest k. k) (λ y us rest m ok k. operand_lit now none y us rest m k)

-- a test: an operand, a comparison, an operand
abbrev pub test_from : Operand × (Rel × Operand) → Test
test_from p = record { left = p.0; rel = p.1.0; right = p.1.1 }

pub test-parts : (now : List Placed) → Along IsTest Any test_from now (Then IsOperand (Then IsRel IsOperand)) now
test-parts now =
    same IsTest Any test_from now (Then IsOperand (Then IsRel IsOperand))
    (λ p us rest k. (k.second.mid, subst (λ t. IsOperand p.0 us t) k.second.first k.first, k.second.second))
    (λ test us rest m ok k. ((test.left, (test.rel, test.right)), record { mid = rel_token test.rel ∷ k.0; first = k.1; second = record { mid = k.0; first = refl; second = k.2 } }))

pub open_test : Open IsTest
open_test = record {
  some = record { left = Lit (pos 0); rel = Equal; right = Lit (pos 0) };
  more = Number 0 ∷ rel_token Equal ∷ Number 0 ∷ [];
  goes_on = λ rest. (Number 0 ∷ rest, inl (0, refl, refl), inl (0, refl, refl));
}
