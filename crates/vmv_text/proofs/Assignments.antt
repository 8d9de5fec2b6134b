-- Assignments and asserts.
use Rattle.std.proofs.Common.{true, false, ◌≡◌, inl, ℤ, pos, List, [], ◌∷◌, Option, Some, None, refl, sym, ap, subst, drop}
use Rattle.vmv_tree.specs.declared.name.Name.{Name}
use Rattle.vmv_tree.specs.declared.tree.Operand.{Operand}
use Rattle.vmv_tree.specs.declared.tree.Operand.TheVariants.{Lit, Var}
use Rattle.vmv_tree.specs.declared.tree.Op.{Op}
use Rattle.vmv_tree.specs.declared.tree.Test.{Test}
use Rattle.vmv_tree.specs.Tree.{Stmt, copy, compute, call, assert, choose, repeat}
use Rattle.vmv_text.specs.declared.token.Token.{Token}
use Rattle.vmv_text.specs.declared.token.Token.TheVariants.{Named, Number, Equals, AssertWord, OpenParen, CloseParen, Semicolon}
use Rattle.vmv_text.specs.Tokens.{Placed, tokens_of}
use Rattle.vmv_text.specs.Grammar.{IsOperand, IsLit, IsTest, IsStmt, AnyCommas, op_token}
use Rattle.vmv_text.specs.Reading.{Meets, Any, Lacks, Ends, IsToken, Tests, IsOp, Listed, IsTail, assigned, IsCall, IsNamedValue, IsValue, IsBehind, first_of}
use Rattle.vmv_text.proofs.OneBlock.{op_semi, op_paren, called}
use Rattle.vmv_text.proofs.Steps.{Then, Along, Open, same, token_taken, first_skipped, meets_lacks}
use Rattle.vmv_text.proofs.Single.{meets_first, operand_name}

-- what an assignment has behind its first operand
tail_end : (t : Option (Op × Operand)) (us rest : List Token) → IsTail t (Semicolon ∷ us) rest → rest ≡ us
tail_end None us rest k = cc k
tail_end (Some (op, right)) us rest k = absurd (op_semi op k.0 us (sym k.1))

pub tail-end : (old new : List Placed) → Tests Semicolon true old new → Ends IsTail Any None old new
tail-end old new e = record {
  used = record { token = Semicolon; from = e.0 } ∷ [];
  place = e.1;
  made = λ us. refl;
  only = λ t us rest m ok k. tail_end t us rest k;
}

abbrev pub tail_from : Op × (Operand × Unit {0}) → Option (Op × Operand)
tail_from p = Some (p.0, p.1.0)

tail_parts : (now : List Placed) → Lacks Semicolon (tokens_of now) → (t : Option (Op × Operand)) (us rest : List Token) → Meets now us → IsTail t us rest → (p : Op × (Operand × Unit {0})) × Then IsOp (Then IsOperand (IsToken Semicolon)) p us rest
tail_parts now none None us rest m k = absurd (meets_lacks Semicolon now us none m rest k)
tail_parts now none (Some (op, right)) us rest m k =
    ((op, (right, tt)), record { mid = k.0; first = k.1; second = record { mid = Semicolon ∷ rest; first = k.2; second = refl } })

pub tail-parts : (old now : List Placed) → Tests Semicolon false old now → Along IsTail Any tail_from old (Then IsOp (Then IsOperand (IsToken Semicolon))) now
tail-parts old now e =
    subst (λ t. Along IsTail Any tail_from old (Then IsOp (Then IsOperand (IsToken Semicolon))) t) (sym e.1)
    (same IsTail Any tail_from old (Then IsOp (Then IsOperand (IsToken Semicolon)))
    (λ p us rest k. (k.mid, k.first, subst (λ t. IsOperand p.1.0 k.mid t) k.second.second k.second.first))
    (λ t us rest m ok k. tail_parts old e.0 t us rest m k))

pub open_tail : Open IsTail
open_tail = record { some = None; more = Semicolon ∷ []; goes_on = λ rest. refl }

-- a call
abbrev pub call_from : Name → Name → List Operand × Unit {0} → Stmt
call_from to callee p = call to callee p.0

call_parts : (to callee : Name) (s : Stmt) (us rest : List Token) → IsCall to callee s us rest → (p : List Operand × Unit {0}) × Then (Listed IsOperand) (IsToken Semicolon) p us rest
unfolding IsStmt
call_parts to callee (copy x from) us rest h =
    let here : h.0 ≡ Named callee ∷ OpenParen ∷ us = cc h.1 in
    absurd (cc (called from callee h.0 us (Semicolon ∷ rest) here h.2))
call_parts to callee (compute x op left right) us rest h =
    let here : h.0 ≡ Named callee ∷ OpenParen ∷ us = cc h.2 in
    absurd (op_paren op h.1 us (called left callee h.0 us (op_token op ∷ h.1) here h.3))
call_parts to callee (call x f args) us rest h =
    let here : h.0 ≡ us = cc h.1 in
    ((args, tt), record { mid = Semicolon ∷ rest; first = subst (λ t. AnyCommas IsOperand args t (CloseParen ∷ Semicolon ∷ rest)) here h.2; second = refl })
call_parts to callee (assert test) us rest h = absurd (cc h.1)
call_parts to callee (choose test first second) us rest h = absurd (cc h.3)
call_parts to callee (repeat index bound most body) us rest h = absurd (cc h.3)

call_made : (to callee : Name) (p : List Operand × Unit {0}) (us rest : List Token) → Then (Listed IsOperand) (IsToken Semicolon) p us rest → IsCall to callee (call_from to callee p) us rest
unfolding IsStmt
call_made to callee p us rest k = (us, refl, subst (λ t. AnyCommas IsOperand p.0 us (CloseParen ∷ t)) k.second k.first)

pub call-parts : (to callee : Name) (now : List Placed) → Along (IsCall to callee) Any (call_from to callee) now (Then (Listed IsOperand) (IsToken Semicolon)) now
call-parts to callee now =
    same (IsCall to callee) Any (call_from to callee) now (Then (Listed IsOperand) (IsToken Semicolon)) (call_made to callee) (λ s us rest m ok k. call_parts to callee s us rest k)

-- a name at the head of a value, called or not
pub named-call : (to name : Name) (old new : List Placed) → Tests OpenParen true old new → Along (IsNamedValue to name) Any (λ (s : Stmt). s) old (IsCall to name) new
named-call to name old new e =
    token_taken (IsNamedValue to name) Any (λ (s : Stmt). s) (IsCall to name) OpenParen e.0 old new e.1 (λ s us rest k. k) (λ s us rest ok k. (s, k))

named_made : (to name : Name) (t : Option (Op × Operand)) (us rest : List Token) → IsTail t us rest → IsNamedValue to name (assigned to (Var name) t) us rest
unfolding IsStmt
named_made to name None us rest k = (Named name ∷ us, refl, ap (λ t. Named name ∷ t) k)
named_made to name (Some (op, right)) us rest k = (Named name ∷ us, k.0, refl, ap (λ t. Named name ∷ t) k.1, k.2)

named_tail : (to name : Name) (now : List Placed) → Lacks OpenParen (tokens_of now) → (s : Stmt) (us rest : List Token) → Meets now us → IsNamedValue to name s us rest → (t : Option (Op × Operand)) × IsTail t us rest
unfolding IsStmt
named_tail to name now none (copy x from) us rest m h =
    let here : h.0 ≡ Named name ∷ us = cc h.1 in
    (None, sym (operand_name name from us (Semicolon ∷ rest) (subst (λ t. IsOperand from t (Semicolon ∷ rest)) here h.2)))
named_tail to name now none (compute x op left right) us rest m h =
    let here : h.0 ≡ Named name ∷ us = cc h.2 in
    (Some (op, right), (h.1, sym (operand_name name left us (op_token op ∷ h.1) (subst (λ t. IsOperand left t (op_token op ∷ h.1)) here h.3)), h.4))
named_tail to name now none (call x f args) us rest m h =
    let here : us ≡ OpenParen ∷ h.0 = cc h.1 in
    absurd (meets_lacks OpenParen now us none m h.0 here)
named_tail to name now none (assert test) us rest m h = absurd (cc h.1)
named_tail to name now none (choose test first second) us rest m h = absurd (cc h.3)
named_tail to name now none (repeat index bound most body) us rest m h = absurd (cc h.3)

pub named-tail : (to name : Name) (old now : List Placed) → Tests OpenParen false old now → Along (IsNamedValue to name) Any (assigned to (Var name)) old IsTail now
named-tail to name old now e =
    subst (λ t. Along (IsNamedValue to name) Any (assigned to (Var name)) old IsTail t) (sym e.1)
    (same (IsNamedValue to name) Any (assigned to (Var name)) old IsTail (named_made to name) (λ s us rest m ok k. named_tail to name old e.0 s us rest m k))

-- a value that begins with a name, and one that doesn't
pub value-named : (to name : Name) (old new : List Placed) → first_of old ≡ Some (Named name) → new ≡ drop 1 old → Along (IsValue to) Any (λ (s : Stmt). s) old (IsNamedValue to name) new
value-named to name old new h e =
    let k = first_skipped (Named name) old new h e in
    token_taken (IsValue to) Any (λ (s : Stmt). s) (IsNamedValue to name) (Named name) k.0 old new k.1 (λ s us rest k. k) (λ s us rest ok k. (s, k))

abbrev pub value_from : Name → ℤ × Option (Op × Operand) → Stmt
value_from to p = assigned to (Lit p.0) p.1

value_made : (to : Name) (z : ℤ) (t : Option (Op × Operand)) (us rest : List Token) → Then IsLit IsTail (z, t) us rest → IsValue to (assigned to (Lit z) t) us rest
unfolding IsStmt
value_made to z None us rest k = (us, refl, subst (λ t. IsLit z us t) k.second k.first)
value_made to z (Some (op, right)) us rest k = (us, k.second.0, refl, subst (λ t. IsLit z us t) k.second.1 k.first, k.second.2)

copy_lit : (from : Operand) (now : List Placed) → ((x : Name) → first_of now ≡ Some (Named x) → ⊥) → (us rest : List Token) → Meets now us → IsOperand from us (Semicolon ∷ rest) → (p : ℤ × Option (Op × Operand)) × Then IsLit IsTail p us rest
copy_lit (Var x) now none us rest m h = absurd (none x (meets_first (Named x) now us (Semicolon ∷ rest) m h))
copy_lit (Lit z) now none us rest m h = ((z, None), record { mid = Semicolon ∷ rest; first = h; second = refl })

compute_lit : (op : Op) (left right : Operand) (now : List Placed) → ((x : Name) → first_of now ≡ Some (Named x) → ⊥) → (us more rest : List Token) → Meets now us → IsOperand left us (op_token op ∷ more) → IsOperand right more (Semicolon ∷ rest) → (p : ℤ × Option (Op × Operand)) × Then IsLit IsTail p us rest
compute_lit op (Var x) right now none us more rest m h k = absurd (none x (meets_first (Named x) now us (op_token op ∷ more) m h))
compute_lit op (Lit z) right now none us more rest m h k = ((z, Some (op, right)), record { mid = op_token op ∷ more; first = h; second = (more, refl, k) })

value_parts : (to : Name) (now : List Placed) → ((x : Name) → first_of now ≡ Some (Named x) → ⊥) → (s : Stmt) (us rest : List Token) → Meets now us → IsValue to s us rest → (p : ℤ × Option (Op × Operand)) × Then IsLit IsTail p us rest
unfolding IsStmt
value_parts to now none (copy x from) us rest m h =
    let here : h.0 ≡ us = cc h.1 in
    copy_lit from now none us rest m (subst (λ t. IsOperand from t (Semicolon ∷ rest)) here h.2)
value_parts to now none (compute x op left right) us rest m h =
    let here : h.0 ≡ us = cc h.2 in
    compute_lit op left right now none us h.1 rest m (subst (λ t. IsOperand left t (op_token op ∷ h.1)) here h.3) h.4
value_parts to now none (call x f args) us rest m h =
    let here : us ≡ Named f ∷ OpenParen ∷ h.0 = cc h.1 in
    absurd (none f (meets_first (Named f) now us (OpenParen ∷ h.0) m here))
value_parts to now none (assert test) us rest m h = absurd (cc h.1)
value_parts to now none (choose test first second) us rest m h = absurd (cc h.3)
value_parts to now none (repeat index bound most body) us rest m h = absurd (cc h.3)

pub value-parts : (to : Name) (now : List Placed) → ((x : Name) → first_of now ≡ Some (Named x) → ⊥) → Along (IsValue to) Any (value_from to) now (Then IsLit IsTail) now
value-parts to now none =
    same (IsValue to) Any (value_from to) now (Then IsLit IsTail) (λ p us rest k. value_made to p.0 p.1 us rest k) (λ s us rest m ok k. value_parts to now none s us rest m k)

pub open_value : (to : Name) → Open (IsValue to)
unfolding IsStmt
open_value to = record {
  some = copy to (Lit (pos 0));
  more = Number 0 ∷ Semicolon ∷ [];
  goes_on = λ rest. (Number 0 ∷ Semicolon ∷ rest, refl, inl (0, refl, refl));
}

-- an assignment
abbrev pub assignment_from : Unit {0} × Stmt → Stmt
assignment_from p = p.1

assignment_parts : (to : Name) (s : Stmt) (us rest : List Token) → IsBehind (Named to) s us rest → (p : Unit {0} × Stmt) × Then (IsToken Equals) (IsValue to) p us rest
unfolding IsStmt
assignment_parts to (copy x from) us rest h =
    let name : to ≡ x = cc h.1 in
    ((tt, copy x from), record { mid = h.0; first = cc h.1; second = (h.0, ap (λ n. Named n ∷ Equals ∷ h.0) name, h.2) })
assignment_parts to (compute x op left right) us rest h =
    let name : to ≡ x = cc h.2 in
    ((tt, compute x op left right), record { mid = h.0; first = cc h.2; second = (h.0, h.1, ap (λ n. Named n ∷ Equals ∷ h.0) name, h.3, h.4) })
assignment_parts to (call x f args) us rest h =
    let name : to ≡ x = cc h.1 in
    ((tt, call x f args), record { mid = Named f ∷ OpenParen ∷ h.0; first = cc h.1; second = (h.0, ap (λ n. Named n ∷ Equals ∷ Named f ∷ OpenParen ∷ h.0) name, h.2) })
assignment_parts to (assert test) us rest h = absurd (cc h.1)
assignment_parts to (choose test first second) us rest h = absurd (cc h.3)
assignment_parts to (repeat index bound most body) us rest h = absurd (cc h.3)

pub assignment-parts : (to : Name) (now : List Placed) → Along (IsBehind (Named to)) Any assignment_from now (Then (IsToken Equals) (IsValue to)) now
assignment-parts to now =
    same (IsBehind (Named to)) Any assignment_from now (Then (IsToken Equals) (IsValue to))
    (λ p us rest k. subst (λ t. IsStmt p.1 (Named to ∷ t) rest) (sym k.first) k.second)
    (λ s us rest m ok k. assignment_parts to s us rest k)

-- an assert
abbrev pub assertion_from : Test × Unit {0} → Stmt
assertion_from p = assert p.0

assertion_parts : (s : Stmt) (us rest : List Token) → IsBehind AssertWord s us rest → (p : Test × Unit {0}) × Then IsTest (IsToken Semicolon) p us rest
unfolding IsStmt
assertion_parts (copy x from) us rest h = absurd (cc h.1)
assertion_parts (compute x op left right) us rest h = absurd (cc h.2)
assertion_parts (call x f args) us rest h = absurd (cc h.1)
assertion_parts (assert test) us rest h =
    let here : h.0 ≡ us = cc h.1 in
    ((test, tt), record { mid = Semicolon ∷ rest; first = subst (λ t. IsTest test t (Semicolon ∷ rest)) here h.2; second = refl })
assertion_parts (choose test first second) us rest h = absurd (cc h.3)
assertion_parts (repeat index bound most body) us rest h = absurd (cc h.3)

assertion_made : (p : Test × Unit {0}) (us rest : List Token) → Then IsTest (IsToken Semicolon) p us rest → IsBehind AssertWord (assertion_from p) us rest
unfolding IsStmt
assertion_made p us rest k = (us, refl, subst (λ t. IsTest p.0 us t) k.second k.first)

pub assertion-parts : (now : List Placed) → Along (IsBehind AssertWord) Any assertion_from now (Then IsTest (IsToken Semicolon)) now
assertion-parts now =
    same (IsBehind AssertWord) Any assertion_from now (Then IsTest (IsToken Semicolon)) assertion_made (λ s us rest m ok k. assertion_parts s us rest k)
