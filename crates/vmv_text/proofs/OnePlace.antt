-- A text has its syntax fault at one place.
use Rattle.std.proofs.Common.{◌≡◌, ℕ, ◌+◌, ◌<◌, ◌≤◌, zero, suc, List, [], ◌∷◌, ◌++◌, take, drop, refl, sym, ◌∙◌, ap, subst, append_assoc, arith}
use Rattle.std.proofs.lemmas.List.{take-append-drop}
use Rattle.vmv_text.specs.declared.token.Token.{Token}
use Rattle.vmv_text.specs.Tokens.{tokens}
use Rattle.vmv_text.specs.Grammar.{IsProgram}
use Rattle.vmv_text.specs.Faults.{Begins, FaultAt, line_after, column_after, front_at, HasFault}

take_take : (j k : ℕ) (ts : List Token) → j ≤ k → take j (take k ts) ≡ take j ts
take_take zero k ts le = refl
take_take (suc j) zero ts le = absurd (omega arith)
take_take (suc j) (suc k) [] le = refl
take_take (suc j) (suc k) (t ∷ ts) le = ap (λ us. t ∷ us) (take_take j k ts (omega arith))

-- a front of tokens that begin a program begins one
begins_front : (ts : List Token) (j k : ℕ) → j ≤ k → Begins (take k ts) → Begins (take j ts)
begins_front ts j k le b =
    let cut : take j (take k ts) ≡ take j ts = take_take j k ts le in
    let whole = sym (take-append-drop j (take k ts)) ∙ ap (λ t. t ++ drop j (take k ts)) cut in
    let same = ap (λ t. t ++ b.1) whole ∙ append_assoc (take j ts) (drop j (take k ts)) b.1 in
    (b.0, drop j (take k ts) ++ b.1, subst (λ t. IsProgram b.0 t) same b.2)

not_before : (ts : List Token) (j k : ℕ) → FaultAt ts j → FaultAt ts k → j < k → ⊥
not_before ts j k f g less =
    f.here (omega (arith, g.within)) (begins_front ts (j + 1) k (omega arith) g.before)

fault_once : (ts : List Token) (j k : ℕ) → FaultAt ts j → FaultAt ts k → j ≡ k
fault_once ts j k f g =
    by_order (not_before ts j k f g) (not_before ts k j g f)
  where
    by_order : (j < k → ⊥) → (k < j → ⊥) → j ≡ k
    by_order h i = omega arith

pub has_fault_once : (bytes : List ℕ) (line column line' column' : ℕ) → HasFault bytes line column → HasFault bytes line' column' → (line ≡ line') × (column ≡ column')
has_fault_once bytes line column line' column' f g =
    let token = fault_once (tokens bytes) f.token g.token f.fault g.fault in (
      f.line_is ∙ (ap (λ k. line_after (front_at bytes k)) token ∙ sym g.line_is),
      f.column_is ∙ (ap (λ k. column_after (front_at bytes k)) token ∙ sym g.column_is),
    )
