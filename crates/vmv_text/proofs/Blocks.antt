-- Blocks, choices and repetitions.
use Rattle.std.proofs.Common.{true, false, ℕ, ◌≡◌, inl, inr, ℤ, pos, List, [], ◌∷◌, ◌++◌, Some, Result, Ok, Err, refl, sym, ◌∙◌, ap, subst, drop}
use Rattle.vmv_tree.specs.declared.name.Name.{Name}
use Rattle.vmv_tree.specs.declared.tree.Operand.{Operand}
use Rattle.vmv_tree.specs.declared.tree.Operand.TheVariants.{Lit}
use Rattle.vmv_tree.specs.declared.tree.Test.{Test}
use Rattle.vmv_tree.specs.declared.tree.Stmt.{Stmt as CodeStmt}
use Rattle.vmv_tree.specs.Tree.{Stmt, copy, compute, call, assert, choose, repeat, Block, [], ◌⨾◌}
use Rattle.vmv_tree.specs.View.{stmt_of, block_of}
use Rattle.vmv_text.specs.declared.token.Token.{Token}
use Rattle.vmv_text.specs.declared.token.Token.TheVariants.{Named, Number, Equals, Semicolon, AssertWord, IfWord, ElseWord, RepeatWord, ToWord, CapWord, OpenBrace, CloseBrace}
use Rattle.vmv_text.specs.declared.fault.Fault.{Fault}
use Rattle.vmv_text.specs.declared.fault.Fault.TheVariants.{Syntax, Memory}
use Rattle.vmv_text.specs.Tokens.{Placed, tokens_of}
use Rattle.vmv_text.specs.Grammar.{Takes, IsName, IsOperand, IsTest, IsStmt, AreStmts}
use Rattle.vmv_text.specs.Reading.{Meets, Any, Lacks, NoElse, Ends, Stops, Fails, ReadsWith, IsToken, Tests, IsSmall, IsTurns, IsBehind, StmtsTo, IsBlock, IsElse, before, first_of}
use Rattle.vmv_text.specs.declared.part.BlockPart.{BlockPart}
use Rattle.vmv_text.specs.declared.part.BlockPart.TheVariants as block
use Rattle.vmv_text.specs.declared.part.StmtPart.{StmtPart}
use Rattle.vmv_text.specs.Sizes.{IsBlockPart, IsStmtPart}
use Rattle.vmv_text.proofs.OneBlock.{Ends_at, no_stmt, block_no_else}
use Rattle.vmv_text.proofs.Steps.{Then, Along, Open, Follows, same, onward, step, done, failed, token_taken, first_skipped, meets_lacks}
use Rattle.vmv_text.proofs.Single.{meets_first, one_stops}

-- a block: an opening brace, and statements up to the closing one
abbrev pub block_from : Unit {0} × Block → Block
block_from p = p.1

pub block-parts : (now : List Placed) → Along IsBlock Any block_from now (Then (IsToken OpenBrace) (StmtsTo CloseBrace)) now
block-parts now =
    same IsBlock Any block_from now (Then (IsToken OpenBrace) (StmtsTo CloseBrace))
    (λ p us rest k. (k.mid, k.first, k.second))
    (λ b us rest m ok k. ((tt, b), record { mid = k.0; first = k.1; second = k.2 }))

pub open_block : Open IsBlock
unfolding AreStmts
open_block = record { some = []; more = OpenBrace ∷ CloseBrace ∷ []; goes_on = λ rest. (CloseBrace ∷ rest, refl, refl) }

pub open_stmts : (last : Token) → Open (StmtsTo last)
unfolding AreStmts
open_stmts last = record { some = []; more = last ∷ []; goes_on = λ rest. refl }

-- an else part that is there, and one that isn't
else_block : (b : Block) (us rest : List Token) → NoElse rest → IsElse b (ElseWord ∷ us) rest → (c : Block) × IsBlock c us rest
else_block b us rest ok (inl h) = absurd (ok us (sym h.1))
else_block b us rest ok (inr h) =
    let here : h.0 ≡ us = cc h.1 in
    (b, subst (λ t. IsBlock b t rest) here h.2)

pub else-block : (old new : List Placed) → Tests ElseWord true old new → Along IsElse NoElse (λ (b : Block). b) old IsBlock new
else-block old new e =
    token_taken IsElse NoElse (λ (b : Block). b) IsBlock ElseWord e.0 old new e.1 (λ b us rest k. inr (us, refl, k)) (λ b us rest ok k. else_block b us rest ok k)

else_absent : (now : List Placed) → NoElse (tokens_of now) → (b : Block) (us rest : List Token) → Meets now us → IsElse b us rest → rest ≡ us
else_absent now none b us rest m (inl h) = sym h.1
else_absent now none b us rest m (inr h) = absurd (meets_lacks ElseWord now us none m h.0 h.1)

pub else-absent : (old now : List Placed) → Tests ElseWord false old now → Ends IsElse NoElse [] old now
else-absent old now e =
    subst (λ t. Ends IsElse NoElse [] old t) (sym e.1)
    (record { used = []; place = refl; made = λ us. inl (refl, refl); only = λ b us rest m ok k. else_absent old e.0 b us rest m k })

pub open_else : Open IsElse
open_else = record { some = []; more = []; goes_on = λ rest. inl (refl, refl) }

-- what may follow anything may follow where no `else` does
widened_ends : {X : Type 0} (f : X → Takes) (x : X) (old new : List Placed) → Ends f Any x old new → Ends f NoElse x old new
widened_ends f x old new s = record { used = s.used; place = s.place; made = s.made; only = λ y us rest m ok k. s.only y us rest m tt k }

widened_fails : {X : Type 0} (f : X → Takes) (fault : Fault) (old new : List Placed) → Fails f Any fault old new → Fails f NoElse fault old new
widened_fails f Memory old new s = tt
widened_fails f Syntax old new s =
    record { used = s.used; place = s.place; some = s.some; more = s.more; goes_on = s.goes_on; shut = λ y us rest m ok k. s.shut y us rest m tt k }

pub widened : {V X : Type 0} (says : V → X → Type 0) (f : X → Takes) (result : Result V Fault) (old new : List Placed) → ReadsWith says f Any result old new → ReadsWith says f NoElse result old new
widened says f (Ok v) old new s = (s.0, s.1, widened_ends f s.0 old new s.2)
widened says f (Err fault) old new s = widened_fails f fault old new s

-- a choice
abbrev pub choice_from : Test × (Block × Block) → Stmt
choice_from p = choose p.0 p.1.0 p.1.1

choice_made : (p : Test × (Block × Block)) (us rest : List Token) → Then IsTest (Then IsBlock IsElse) p us rest → IsBehind IfWord (choice_from p) us rest
unfolding IsStmt
choice_made p us rest k = (us, k.mid, k.second.mid, refl, k.first, k.second.first, k.second.second)

choice_parts : (s : Stmt) (us rest : List Token) → IsBehind IfWord s us rest → (p : Test × (Block × Block)) × Then IsTest (Then IsBlock IsElse) p us rest
unfolding IsStmt
choice_parts (copy x from) us rest h = absurd (cc h.1)
choice_parts (compute x op left right) us rest h = absurd (cc h.2)
choice_parts (call x f args) us rest h = absurd (cc h.1)
choice_parts (assert test) us rest h = absurd (cc h.1)
choice_parts (choose test first second) us rest h =
    let here : h.0 ≡ us = cc h.3 in
    ((test, (first, second)), record { mid = h.1; first = subst (λ t. IsTest test t h.1) here h.4; second = record { mid = h.2; first = h.5; second = h.6 } })
choice_parts (repeat index bound most body) us rest h = absurd (cc h.3)

pub choice-parts : (now : List Placed) → Along (IsBehind IfWord) NoElse choice_from now (Then IsTest (Then IsBlock IsElse)) now
choice-parts now =
    same (IsBehind IfWord) NoElse choice_from now (Then IsTest (Then IsBlock IsElse)) choice_made (λ s us rest m ok k. choice_parts s us rest k)

-- what a loop has up to its body
abbrev pub turns_from : Name × (Unit {0} × (Operand × (Unit {0} × ℤ))) → Name × (Operand × ℤ)
turns_from p = (p.0, (p.1.1.0, p.1.1.1.1))

turns_made : (p : Name × (Unit {0} × (Operand × (Unit {0} × ℤ)))) (us rest : List Token) → Then IsName (Then (IsToken ToWord) (Then IsOperand (Then (IsToken CapWord) IsSmall))) p us rest → IsTurns (turns_from p) us rest
turns_made p us rest k =
    let to = k.second in
    let bound = to.second in
    let cap = bound.second in
    let small = cap.second in (
      to.mid,
      small.0,
      k.first ∙ ap (λ t. Named p.0 ∷ t) to.first,
      subst (λ t. IsOperand p.1.1.0 to.mid t) (cap.first ∙ ap (λ t. CapWord ∷ t) small.2) bound.first,
      small.1,
    )

turns_parts : (turns : Name × (Operand × ℤ)) (us rest : List Token) → IsTurns turns us rest → (p : Name × (Unit {0} × (Operand × (Unit {0} × ℤ)))) × Then IsName (Then (IsToken ToWord) (Then IsOperand (Then (IsToken CapWord) IsSmall))) p us rest
turns_parts turns us rest h = (
  (turns.0, (tt, (turns.1.0, (tt, turns.1.1)))),
  record {
    mid = ToWord ∷ h.0;
    first = h.2;
    second = record {
      mid = h.0;
      first = refl;
      second = record { mid = CapWord ∷ Number h.1 ∷ rest; first = h.3; second = record { mid = Number h.1 ∷ rest; first = refl; second = (h.1, h.4, refl) } };
    };
  },
)

pub turns-parts : (now : List Placed) → Along IsTurns Any turns_from now (Then IsName (Then (IsToken ToWord) (Then IsOperand (Then (IsToken CapWord) IsSmall)))) now
turns-parts now =
    same IsTurns Any turns_from now (Then IsName (Then (IsToken ToWord) (Then IsOperand (Then (IsToken CapWord) IsSmall)))) turns_made (λ turns us rest m ok k. turns_parts turns us rest k)

-- a repetition
abbrev pub repetition_from : (Name × (Operand × ℤ)) × Block → Stmt
repetition_from p = repeat p.0.0 p.0.1.0 p.0.1.1 p.1

repetition_made : (p : (Name × (Operand × ℤ)) × Block) (us rest : List Token) → Then IsTurns IsBlock p us rest → IsBehind RepeatWord (repetition_from p) us rest
unfolding IsStmt
repetition_made p us rest k =
    let t = k.first in
    (t.0, k.mid, t.1, ap (λ u. RepeatWord ∷ u) t.2, t.3, t.4, k.second)

repetition_parts : (s : Stmt) (us rest : List Token) → IsBehind RepeatWord s us rest → (p : (Name × (Operand × ℤ)) × Block) × Then IsTurns IsBlock p us rest
unfolding IsStmt
repetition_parts (copy x from) us rest h = absurd (cc h.1)
repetition_parts (compute x op left right) us rest h = absurd (cc h.2)
repetition_parts (call x f args) us rest h = absurd (cc h.1)
repetition_parts (assert test) us rest h = absurd (cc h.1)
repetition_parts (choose test first second) us rest h = absurd (cc h.3)
repetition_parts (repeat index bound most body) us rest h =
    (((index, (bound, most)), body), record { mid = h.1; first = (h.0, h.2, cc h.3, h.4, h.5); second = h.6 })

pub repetition-parts : (now : List Placed) → Along (IsBehind RepeatWord) Any repetition_from now (Then IsTurns IsBlock) now
repetition-parts now =
    same (IsBehind RepeatWord) Any repetition_from now (Then IsTurns IsBlock) repetition_made (λ s us rest m ok k. repetition_parts s us rest k)

-- a statement by its first token
pub stmt-behind : (fits : List Token → Type 0) (t : Token) (old new : List Placed) → first_of old ≡ Some t → new ≡ drop 1 old → Along IsStmt fits (λ (s : Stmt). s) old (IsBehind t) new
stmt-behind fits t old new h e =
    let k = first_skipped t old new h e in
    token_taken IsStmt fits (λ (s : Stmt). s) (IsBehind t) t k.0 old new k.1 (λ s us rest g. g) (λ s us rest ok g. (s, g))

pub open_stmt : Open IsStmt
unfolding IsStmt
open_stmt = record {
  some = copy (97 ∷ []) (Lit (pos 0));
  more = Named (97 ∷ []) ∷ Equals ∷ Number 0 ∷ Semicolon ∷ [];
  goes_on = λ rest. (Number 0 ∷ Semicolon ∷ rest, refl, inl (0, refl, refl));
}

no_stmt_here : (now : List Placed) → ((x : Name) → first_of now ≡ Some (Named x) → ⊥) → (first_of now ≡ Some AssertWord → ⊥) → (first_of now ≡ Some IfWord → ⊥) → (first_of now ≡ Some RepeatWord → ⊥)
    → (s : Stmt) (us rest : List Token) → Meets now us → IsStmt s us rest → ⊥
unfolding IsStmt
no_stmt_here now f g h k (copy x from) us rest m e = f x (meets_first (Named x) now us (Equals ∷ e.0) m e.1)
no_stmt_here now f g h k (compute x op left right) us rest m e = f x (meets_first (Named x) now us (Equals ∷ e.0) m e.2)
no_stmt_here now f g h k (call x callee args) us rest m e = f x (meets_first (Named x) now us _ m e.1)
no_stmt_here now f g h k (assert test) us rest m e = g (meets_first AssertWord now us e.0 m e.1)
no_stmt_here now f g h k (choose test first second) us rest m e = h (meets_first IfWord now us e.0 m e.3)
no_stmt_here now f g h k (repeat index bound most body) us rest m e = k (meets_first RepeatWord now us _ m e.3)

pub stmt_stops : (now : List Placed) → ((x : Name) → first_of now ≡ Some (Named x) → ⊥) → (first_of now ≡ Some AssertWord → ⊥) → (first_of now ≡ Some IfWord → ⊥) → (first_of now ≡ Some RepeatWord → ⊥)
    → Stops IsStmt NoElse now now
stmt_stops now f g h k = one_stops IsStmt NoElse now open_stmt (λ s us rest m ok e. no_stmt_here now f g h k s us rest m e)

before_nil : (b : Block) → before b [] ≡ b
before_nil [] = refl
before_nil (s ⨾ b) = ap (λ c. s ⨾ c) (before_nil b)

before_push : (b : Block) (s : Stmt) (c : Block) → before (before b (s ⨾ [])) c ≡ before b (s ⨾ c)
before_push [] s c = refl
before_push (x ⨾ b) s c = ap (λ d. x ⨾ d) (before_push b s c)

-- Statements in the reading: these stand before.
pub record Reached (last : Token) (start : List Placed) (block : Block) (now : List Placed) : Type 0 where
  pub along : Along (StmtsTo last) Any (before block) start (StmtsTo last) now

pub reached_start : (last : Token) (start : List Placed) → Reached last start [] start
reached_start last start = record { along = same (StmtsTo last) Any (λ (c : Block). c) start (StmtsTo last) (λ b us rest k. k) (λ b us rest m ok k. (b, k)) }

abbrev pub block_with : Stmt × Block → Block
block_with p = p.0 ⨾ p.1

stmts_made : (last : Token) (p : Stmt × Block) (us rest : List Token) → Then IsStmt (StmtsTo last) p us rest → StmtsTo last (block_with p) us rest
unfolding AreStmts
stmts_made last p us rest k = (k.mid, k.first, k.second)

stmts_parts : (last : Token) (now : List Placed) → Lacks last (tokens_of now) → (b : Block) (us rest : List Token) → Meets now us → StmtsTo last b us rest → (p : Stmt × Block) × Then IsStmt (StmtsTo last) p us rest
unfolding AreStmts
stmts_parts last now none [] us rest m k = absurd (meets_lacks last now us none m rest k)
stmts_parts last now none (s ⨾ b) us rest m k = ((s, b), record { mid = k.0; first = k.1; second = k.2 })

stmts-parts : (last : Token) (now : List Placed) → Lacks last (tokens_of now) → Along (StmtsTo last) Any block_with now (Then IsStmt (StmtsTo last)) now
stmts-parts last now none =
    same (StmtsTo last) Any block_with now (Then IsStmt (StmtsTo last)) (stmts_made last) (λ b us rest m ok k. stmts_parts last now none b us rest m k)

-- behind a statement stands no `else`
no_else_next : (last : Token) → Ends_at last → Follows Any NoElse (StmtsTo last)
no_else_next last e b q rest ok k = block_no_else b last q rest e k

reached_parts : (last : Token) (start : List Placed) (block : Block) (now back : List Placed) → Reached last start block now → Tests last false now back → Along (StmtsTo last) Any (λ (p : Stmt × Block). before block (p.0 ⨾ p.1)) start (Then IsStmt (StmtsTo last)) back
reached_parts last start block now back r e =
    subst (λ t. Along (StmtsTo last) Any (λ (p : Stmt × Block). before block (p.0 ⨾ p.1)) start (Then IsStmt (StmtsTo last)) t) (sym e.1)
    (onward (StmtsTo last) (StmtsTo last) (Then IsStmt (StmtsTo last)) Any (before block) block_with start now now r.along (stmts-parts last now e.0))

-- one more statement
pub reached_more : (last : Token) → Ends_at last → (start : List Placed) (block : Block) (s : Stmt) (now back new : List Placed) → Reached last start block now → Tests last false now back
    → Ends IsStmt NoElse s back new → Reached last start (before block (s ⨾ [])) new
reached_more last at start block s now back new r e h =
    let k = step (StmtsTo last) IsStmt (StmtsTo last) Any NoElse (λ (p : Stmt × Block). before block (p.0 ⨾ p.1)) s start back new (reached_parts last start block now back r e) h (no_else_next last at) in
    let pushed : (λ (c : Block). before block (s ⨾ c)) ≡ before (before block (s ⨾ [])) = λ i c. sym (before_push block s c) i in
    record { along = subst (λ (b : Block → Block). Along (StmtsTo last) Any b start (StmtsTo last) new) pushed k }

-- a statement that isn't one
pub reached_failed : (last : Token) → Ends_at last → (fault : Fault) (start : List Placed) (block : Block) (now back new : List Placed) → Reached last start block now → Tests last false now back
    → Fails IsStmt NoElse fault back new → Fails (StmtsTo last) Any fault start new
reached_failed last at fault start block now back new r e h =
    failed (StmtsTo last) IsStmt (StmtsTo last) Any NoElse (λ (p : Stmt × Block). before block (p.0 ⨾ p.1)) (λ (s : Stmt). s) (λ (b : Block). b) fault start back new (reached_parts last start block now back r e) h (no_else_next last at) (open_stmts last)

-- the last token
stmts_end : (last : Token) → Ends_at last → (b : Block) (us rest : List Token) → StmtsTo last b (last ∷ us) rest → rest ≡ us
unfolding AreStmts
stmts_end last at [] us rest k = cc k
stmts_end last at (s ⨾ b) us rest k = absurd (no_stmt s last (last ∷ us) k.0 us at k.1 refl)

pub none_left : (last : Token) → Ends_at last → (now new : List Placed) → Tests last true now new → Ends (StmtsTo last) Any [] now new
unfolding AreStmts
none_left last at now new e = record {
  used = record { token = last; from = e.0 } ∷ [];
  place = e.1;
  made = λ us. refl;
  only = λ b us rest m ok k. stmts_end last at b us rest k;
}

pub reached_end : (last : Token) → Ends_at last → (start : List Placed) (block : Block) (now new : List Placed) → Reached last start block now → Tests last true now new → Ends (StmtsTo last) Any block start new
reached_end last at start block now new r e =
    subst (λ b. Ends (StmtsTo last) Any b start new) (before_nil block)
    (done (StmtsTo last) (StmtsTo last) Any (before block) [] start now new r.along (none_left last at now new e))

-- the same for a block as it was read
pub record ReachedPart (least : ℕ) (last : Token) (start : List Placed) (part : BlockPart) (now : List Placed) : Type 0 where
  pub block : Block
  pub says : IsBlockPart least part block
  pub reached : Reached last start block now

pub part_start : (least : ℕ) (last : Token) (start : List Placed) (list : List CodeStmt) → list ≡ [] → ReachedPart least last start (block.Tree list) start
part_start least last start list e = record { block = []; says = ap block_of e; reached = reached_start last start }

pub part_end : (least : ℕ) (last : Token) → Ends_at last → (start : List Placed) (part : BlockPart) (now new : List Placed) → ReachedPart least last start part now → Tests last true now new
    → ReadsWith (IsBlockPart least) (StmtsTo last) Any (Ok part) start new
part_end least last at start part now new r e = (r.block, r.says, reached_end last at start r.block now new r.reached e)

pub part_more : (least : ℕ) (last : Token) → Ends_at last → (start : List Placed) (part all : BlockPart) (stmt : StmtPart) (now back new : List Placed) → ReachedPart least last start part now → Tests last false now back
    → ReadsWith (IsStmtPart least) IsStmt NoElse (Ok stmt) back new → ((least : ℕ) (x : Block) (s : Stmt) → IsBlockPart least part x → IsStmtPart least stmt s → IsBlockPart least all (before x (s ⨾ [])))
    → ReachedPart least last start all new
part_more least last at start part all stmt now back new r e h f = record {
  block = before r.block (h.0 ⨾ []);
  says = f least r.block h.0 r.says h.1;
  reached = reached_more last at start r.block h.0 now back new r.reached e h.2;
}
