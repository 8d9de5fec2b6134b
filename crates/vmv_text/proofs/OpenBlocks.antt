-- Blocks that are read without a tree: what is left to read while some are open, and how large the whole is.
use Rattle.std.proofs.Common.{true, false, ◌≡◌, ◌⊎◌, inl, inr, ℕ, suc, ◌+◌, ◌≤◌, min, max, ℤ, pos, List, [], ◌∷◌, ◌++◌, length, drop, reverse, Result, Ok, Err, Some, refl, sym, ◌∙◌, ap, subst, arith, append_assoc, length-append}
use Rattle.std.proofs.lemmas.List.{reverse-append, length-reverse}
use Rattle.vmv_tree.specs.declared.name.Name.{Name}
use Rattle.vmv_tree.specs.declared.tree.Operand.{Operand}
use Rattle.vmv_tree.specs.declared.tree.Operand.TheVariants.{Lit}
use Rattle.vmv_tree.specs.declared.tree.Test.{Test}
use Rattle.vmv_tree.specs.Tree.{Stmt, copy, compute, call, assert, choose, repeat, Block, [], ◌⨾◌}
use Rattle.vmv_tree.specs.Limits.{indexes_of, block_indexes, statements, block_statements, nesting, block_nesting}
use Rattle.vmv_text.specs.declared.token.Token.{Token}
use Rattle.vmv_text.specs.declared.token.Token.TheVariants.{Named, AssertWord, IfWord, RepeatWord, ElseWord, OpenBrace, CloseBrace, Number, ToWord, CapWord, Equals, Semicolon}
use Rattle.vmv_text.specs.declared.fault.Fault.{Fault}
use Rattle.vmv_text.specs.declared.fault.Fault.TheVariants.{Syntax, Memory}
use Rattle.vmv_text.specs.declared.sizes.Sizes.{Sizes}
use Rattle.vmv_text.specs.declared.flat.Opens.{Opens}
use Rattle.vmv_text.specs.declared.flat.Opens.TheVariants as opens
use Rattle.vmv_text.specs.declared.flat.OpenBlock.{OpenBlock}
use Rattle.vmv_text.specs.declared.flat.OpenBlock.TheVariants as kind
use Rattle.vmv_text.specs.Tokens.{Placed, tokens_of}
use Rattle.vmv_text.specs.Grammar.{Takes, IsTest, IsOperand, IsStmt, AreStmts, Braces}
use Rattle.vmv_text.specs.Reading.{Meets, Any, Lacks, NoElse, Ends, Stops, Fails, ReadsWith, IsToken, Tests, StmtsTo, IsBlock, IsElse, IsTurns, IsBehind, first_of}
use Rattle.vmv_text.specs.Pieces.{Piece, simple, choosing, repeating, IsSimple, IsPiece, IsPieceBehind, DoesOpen, opened, loops_with, nesting_with, ElseTaken, TakesElse, GoesBehind}
use Rattle.vmv_text.specs.Sizes.{AreSizes, HasSizes}
use Rattle.vmv_text.proofs.OneBlock.{Ends_at, NoElseAfter, no_else_after, stmt_once, operand_once, test_once, block_no_else}
use Rattle.vmv_text.proofs.Steps.{Then, Along, Open, Follows, any, same, onward, behind, done, stopped, stopped_first, open_then, token_taken, first_skipped, meets_from, meets_lacks}
use Rattle.vmv_text.proofs.Single.{one_stops, meets_first}
use Rattle.vmv_text.proofs.Blocks.{open_stmts, open_else, open_block, none_left, else-absent}

-- the parts that are still to come behind a block, over those that are open around it, the innermost first
abbrev pub Parts : List OpenBlock → Type 0
Parts [] = Unit {0}
Parts (kind.Other ∷ blocks) = Block × Parts blocks
Parts (kind.First ∷ blocks) = Block × (Block × Parts blocks)

abbrev pub After : (blocks : List OpenBlock) → Parts blocks → Takes
After [] = λ parts ts rest. ts ≡ rest
After (kind.Other ∷ blocks) = Then (StmtsTo CloseBrace) (After blocks)
After (kind.First ∷ blocks) = Then IsElse (Then (StmtsTo CloseBrace) (After blocks))

-- all that is left
abbrev pub Rest : (blocks : List OpenBlock) → Block × Parts blocks → Takes
Rest blocks = Then (StmtsTo CloseBrace) (After blocks)

-- how large they are
abbrev pub loops_of : (blocks : List OpenBlock) → Parts blocks → ℕ
loops_of [] parts = 0
loops_of (kind.Other ∷ blocks) parts = length (block_indexes parts.0) + loops_of blocks parts.1
loops_of (kind.First ∷ blocks) parts = length (block_indexes parts.0) + (length (block_indexes parts.1.0) + loops_of blocks parts.1.1)

abbrev pub statements_of : (blocks : List OpenBlock) → Parts blocks → ℕ
statements_of [] parts = 0
statements_of (kind.Other ∷ blocks) parts = block_statements parts.0 + statements_of blocks parts.1
statements_of (kind.First ∷ blocks) parts = block_statements parts.0 + (block_statements parts.1.0 + statements_of blocks parts.1.1)

abbrev pub nesting_of : (blocks : List OpenBlock) → Parts blocks → ℕ
nesting_of [] parts = 0
nesting_of (kind.Other ∷ blocks) parts = max (length blocks + block_nesting parts.0) (nesting_of blocks parts.1)
nesting_of (kind.First ∷ blocks) parts =
    max (1 + length blocks + block_nesting parts.0) (max (length blocks + block_nesting parts.1.0) (nesting_of blocks parts.1.1))

-- Statements in the reading: what is left, and how large the whole is with it.
pub record Walked (start : List Placed) (blocks : List OpenBlock) (loops stmts deep : ℕ) (now : List Placed) : Type 0 where
  -- no block is deeper than the deepest
  pub reach : length blocks ≤ deep
  pub build : Block × Parts blocks → Block
  pub along : Along (StmtsTo CloseBrace) Any build start (Rest blocks) now
  pub loops_are : (p : Block × Parts blocks) → length (block_indexes (build p)) ≡ loops + (length (block_indexes p.0) + loops_of blocks p.1)
  pub stmts_are : (p : Block × Parts blocks) → block_statements (build p) ≡ stmts + (block_statements p.0 + statements_of blocks p.1)
  pub nesting_is : (p : Block × Parts blocks) → block_nesting (build p) ≡ max deep (max (length blocks + block_nesting p.0) (nesting_of blocks p.1))

-- the same behind the end of the innermost block
pub record WalkedBehind (start : List Placed) (blocks : List OpenBlock) (loops stmts deep : ℕ) (now : List Placed) : Type 0 where
  pub reach : length blocks ≤ deep
  pub build : Parts blocks → Block
  pub along : Along (StmtsTo CloseBrace) Any build start (After blocks) now
  pub loops_are : (p : Parts blocks) → length (block_indexes (build p)) ≡ loops + loops_of blocks p
  pub stmts_are : (p : Parts blocks) → block_statements (build p) ≡ stmts + statements_of blocks p
  pub nesting_is : (p : Parts blocks) → block_nesting (build p) ≡ max deep (max (length blocks) (nesting_of blocks p))

-- with these sizes, over blocks whose innermost stands last
pub record Counted (start : List Placed) (blocks : List OpenBlock) (sizes : Sizes) (now : List Placed) : Type 0 where
  pub loops : ℕ
  pub stmts : ℕ
  pub deep : ℕ
  pub sizes_are : AreSizes sizes loops stmts deep
  pub walked : Walked start (reverse blocks) loops stmts deep now

-- nothing was read
nothing_behind : (p : Block × Unit {0}) (us rest : List Token) → Rest [] p us rest → StmtsTo CloseBrace p.0 us rest
nothing_behind p us rest k = subst (λ t. StmtsTo CloseBrace p.0 us t) k.second k.first

pub walked_start : (start : List Placed) → Walked start [] 0 0 0 start
walked_start start = record {
  reach = omega arith;
  build = λ (p : Block × Unit {0}). p.0;
  along = same (StmtsTo CloseBrace) Any (λ (p : Block × Unit {0}). p.0) start (Rest []) nothing_behind
      (λ b us rest m ok k. ((b, tt), record { mid = rest; first = k; second = refl }));
  loops_are = λ p. omega arith;
  stmts_are = λ p. omega arith;
  nesting_is = λ p. omega arith;
}

pub counted_start : (start : List Placed) (sizes : Sizes) → AreSizes sizes 0 0 0 → Counted start [] sizes start
counted_start start sizes h = record { loops = 0; stmts = 0; deep = 0; sizes_are = h; walked = walked_start start }

-- a piece in front of what is left of a block

-- with no closing brace first, a statement stands there
stmt_next : {Y : Type 0} (g : Y → Takes) (now : List Placed) → Lacks CloseBrace (tokens_of now) → (x : Block × Y) (us rest : List Token) → Meets now us → Then (StmtsTo CloseBrace) g x us rest
    → (s : Stmt) × ((b : Block) × (mid : List Token) × (x.0 ≡ s ⨾ b) × IsStmt s us mid × Then (StmtsTo CloseBrace) g (b, x.1) mid rest)
unfolding AreStmts
stmt_next g now none ([], y) us rest m k = absurd (meets_lacks CloseBrace now us none m k.mid k.first)
stmt_next g now none (s ⨾ b, y) us rest m k =
    (s, (b, k.first.0, refl, k.first.1, record { mid = k.mid; first = k.first.2; second = k.second }))

stmt_made : {Y : Type 0} (g : Y → Takes) (s : Stmt) (b : Block) (y : Y) (ts mid rest : List Token) → IsStmt s ts mid → Then (StmtsTo CloseBrace) g (b, y) mid rest → Then (StmtsTo CloseBrace) g (s ⨾ b, y) ts rest
unfolding AreStmts
stmt_made g s b y ts mid rest h k = record { mid = k.mid; first = (mid, h, k.first); second = k.second }

-- what is left begins with no `else`
rest_no_else : {Y : Type 0} (g : Y → Takes) → Follows Any NoElse (Then (StmtsTo CloseBrace) g)
rest_no_else g y q rest ok k = block_no_else y.0 CloseBrace q k.mid (inl refl) k.first

simple_free : (s : Stmt) (r : List Token) → IsSimple s → NoElseAfter s r
simple_free (copy to from) r h = tt
simple_free (compute to op left right) r h = tt
simple_free (call to callee args) r h = tt
simple_free (assert test) r h = tt
simple_free (choose test first second) r h = absurd h
simple_free (repeat index bound most body) r h = absurd h

piece_simple : {Y : Type 0} (g : Y → Takes) (s : Stmt) (now new : List Placed) → Lacks CloseBrace (tokens_of now) → Ends IsPiece Any (simple s) now new
    → Along (Then (StmtsTo CloseBrace) g) Any (λ (p : Block × Y). (s ⨾ p.0, p.1)) now (Then (StmtsTo CloseBrace) g) new
piece_simple {Y} g s now new none e = record {
  used = e.used;
  place = e.place;
  made = λ p us rest k. stmt_made g s p.0 p.1 (tokens_of e.used ++ us) us rest (e.made us).1 k;
  only = λ x us rest m ok k.
      let n = stmt_next g now none x (tokens_of e.used ++ us) rest (meets_from now e.used new us e.place m) k in
      let here = e.made us in
      let h = n.1.4 in
      let one = stmt_once s n.0 (tokens_of e.used ++ us) us n.1.1 here.1 n.1.3 (simple_free s us here.0) (no_else_after n.0 n.1.1 (rest_no_else g (n.1.0, x.1) n.1.1 rest tt h)) in
      ((n.1.0, x.1), subst (λ t. Then (StmtsTo CloseBrace) g (n.1.0, x.1) t rest) (sym one.1) h);
}

-- an `if` up to its first block
choice_made : {Y : Type 0} (g : Y → Takes) (test : Test) (ts us : List Token) → IsPiece (choosing test) ts us → (p : Block × (Block × (Block × Y))) (rest : List Token)
    → Then (StmtsTo CloseBrace) (Then IsElse (Then (StmtsTo CloseBrace) g)) p us rest → Then (StmtsTo CloseBrace) g (choose test p.0 p.1.0 ⨾ p.1.1.0, p.1.1.1) ts rest
unfolding IsStmt
choice_made g test ts us h p rest k =
    stmt_made g (choose test p.0 p.1.0) p.1.1.0 p.1.1.1 ts k.second.mid rest
    (h.0, OpenBrace ∷ us, k.mid, h.1, h.2, (us, refl, k.first), k.second.first) k.second.second

choice_parts : {Y : Type 0} (g : Y → Takes) (test : Test) (ts us : List Token) → IsPiece (choosing test) ts us → (s : Stmt) (b : Block) (y : Y) (mid rest : List Token) → IsStmt s ts mid → Then (StmtsTo CloseBrace) g (b, y) mid rest
    → (p : Block × (Block × (Block × Y))) × Then (StmtsTo CloseBrace) (Then IsElse (Then (StmtsTo CloseBrace) g)) p us rest
unfolding IsStmt
choice_parts g test ts us h (copy to from) b y mid rest k r = absurd (cc (h.1, k.1))
choice_parts g test ts us h (compute to op left right) b y mid rest k r = absurd (cc (h.1, k.2))
choice_parts g test ts us h (call to callee args) b y mid rest k r = absurd (cc (h.1, k.1))
choice_parts g test ts us h (assert t) b y mid rest k r = absurd (cc (h.1, k.1))
choice_parts g test ts us h (choose t first second) b y mid rest k r =
    let here : k.0 ≡ h.0 = cc (h.1, k.3) in
    let one = test_once t test h.0 k.1 (OpenBrace ∷ us) (subst (λ u. IsTest t u k.1) here k.4) h.2 in
    let in_first : k.5.0 ≡ us = cc (one.1, k.5.1) in
    ((first, (second, (b, y))), record { mid = k.2; first = subst (λ u. AreStmts first u (CloseBrace ∷ k.2)) in_first k.5.2; second = record { mid = mid; first = k.6; second = r } })
choice_parts g test ts us h (repeat index bound most body) b y mid rest k r = absurd (cc (h.1, k.3))

piece_choosing : {Y : Type 0} (g : Y → Takes) (test : Test) (now new : List Placed) → Lacks CloseBrace (tokens_of now) → Ends IsPiece Any (choosing test) now new
    → Along (Then (StmtsTo CloseBrace) g) Any (λ (p : Block × (Block × (Block × Y))). (choose test p.0 p.1.0 ⨾ p.1.1.0, p.1.1.1)) now (Then (StmtsTo CloseBrace) (Then IsElse (Then (StmtsTo CloseBrace) g))) new
piece_choosing {Y} g test now new none e = record {
  used = e.used;
  place = e.place;
  made = λ p us rest k. choice_made g test (tokens_of e.used ++ us) us (e.made us) p rest k;
  only = λ x us rest m ok k.
      let n = stmt_next g now none x (tokens_of e.used ++ us) rest (meets_from now e.used new us e.place m) k in
      choice_parts g test (tokens_of e.used ++ us) us (e.made us) n.0 n.1.0 x.1 n.1.1 rest n.1.3 n.1.4;
}

-- a loop up to its body
abbrev pub loop_of : Name × (Operand × ℤ) → Block → Stmt
loop_of turns body = repeat turns.0 turns.1.0 turns.1.1 body

loop_made : {Y : Type 0} (g : Y → Takes) (turns : Name × (Operand × ℤ)) (ts us : List Token) → IsPiece (repeating turns) ts us → (p : Block × (Block × Y)) (rest : List Token)
    → Then (StmtsTo CloseBrace) (Then (StmtsTo CloseBrace) g) p us rest → Then (StmtsTo CloseBrace) g (loop_of turns p.0 ⨾ p.1.0, p.1.1) ts rest
unfolding IsStmt
loop_made g turns ts us h p rest k =
    let t = h.2 in
    stmt_made g (loop_of turns p.0) p.1.0 p.1.1 ts k.mid rest
    (t.0, OpenBrace ∷ us, t.1, h.1 ∙ ap (λ u. RepeatWord ∷ u) t.2, t.3, t.4, (us, refl, k.first)) k.second

loop_parts : {Y : Type 0} (g : Y → Takes) (turns : Name × (Operand × ℤ)) (ts us : List Token) → IsPiece (repeating turns) ts us → (s : Stmt) (b : Block) (y : Y) (mid rest : List Token) → IsStmt s ts mid → Then (StmtsTo CloseBrace) g (b, y) mid rest
    → (p : Block × (Block × Y)) × Then (StmtsTo CloseBrace) (Then (StmtsTo CloseBrace) g) p us rest
unfolding IsStmt
loop_parts g turns ts us h (copy to from) b y mid rest k r = absurd (cc (h.1, k.1))
loop_parts g turns ts us h (compute to op left right) b y mid rest k r = absurd (cc (h.1, k.2))
loop_parts g turns ts us h (call to callee args) b y mid rest k r = absurd (cc (h.1, k.1))
loop_parts g turns ts us h (assert t) b y mid rest k r = absurd (cc (h.1, k.1))
loop_parts g turns ts us h (choose t first second) b y mid rest k r = absurd (cc (h.1, k.3))
loop_parts g turns ts us h (repeat index bound most body) b y mid rest k r =
    let t = h.2 in
    let here : k.0 ≡ t.0 = cc (h.1, t.2, k.3) in
    let one = operand_once bound turns.1.0 t.0 (CapWord ∷ Number k.2 ∷ k.1) (CapWord ∷ Number t.1 ∷ OpenBrace ∷ us) (subst (λ u. IsOperand bound u (CapWord ∷ Number k.2 ∷ k.1)) here k.4) t.3 in
    let in_body : k.6.0 ≡ us = cc (one.1, k.6.1) in
    ((body, (b, y)), record { mid = mid; first = subst (λ u. AreStmts body u (CloseBrace ∷ mid)) in_body k.6.2; second = r })

piece_repeating : {Y : Type 0} (g : Y → Takes) (turns : Name × (Operand × ℤ)) (now new : List Placed) → Lacks CloseBrace (tokens_of now) → Ends IsPiece Any (repeating turns) now new
    → Along (Then (StmtsTo CloseBrace) g) Any (λ (p : Block × (Block × Y)). (loop_of turns p.0 ⨾ p.1.0, p.1.1)) now (Then (StmtsTo CloseBrace) (Then (StmtsTo CloseBrace) g)) new
piece_repeating {Y} g turns now new none e = record {
  used = e.used;
  place = e.place;
  made = λ p us rest k. loop_made g turns (tokens_of e.used ++ us) us (e.made us) p rest k;
  only = λ x us rest m ok k.
      let n = stmt_next g now none x (tokens_of e.used ++ us) rest (meets_from now e.used new us e.place m) k in
      loop_parts g turns (tokens_of e.used ++ us) us (e.made us) n.0 n.1.0 x.1 n.1.1 rest n.1.3 n.1.4;
}

simple_sizes : (s : Stmt) → IsSimple s → (length (indexes_of s) ≡ 0) × (statements s ≡ 1) × (nesting s ≡ 0)
simple_sizes (copy to from) h = (refl, refl, refl)
simple_sizes (compute to op left right) h = (refl, refl, refl)
simple_sizes (call to callee args) h = (refl, refl, refl)
simple_sizes (assert test) h = (refl, refl, refl)
simple_sizes (choose test first second) h = absurd h
simple_sizes (repeat index bound most body) h = absurd h

with_simple : (start : List Placed) (s : Stmt) (blocks : List OpenBlock) (l k d : ℕ) (now new : List Placed) → Lacks CloseBrace (tokens_of now) → IsSimple s → Ends IsPiece Any (simple s) now new
    → Walked start blocks l k d now → Walked start blocks l (1 + k) d new
with_simple start s blocks l k d now new none h e w =
    let z = simple_sizes s h in
    record {
      reach = w.reach;
      build = λ (p : Block × Parts blocks). w.build (s ⨾ p.0, p.1);
      along = onward (StmtsTo CloseBrace) (Rest blocks) (Rest blocks) Any w.build (λ (p : Block × Parts blocks). (s ⨾ p.0, p.1)) start now new w.along (piece_simple (After blocks) s now new none e);
      loops_are = λ p. omega (arith, w.loops_are (s ⨾ p.0, p.1), length-append (indexes_of s) (block_indexes p.0), z.0);
      stmts_are = λ p. omega (arith, w.stmts_are (s ⨾ p.0, p.1), z.1);
      nesting_is = λ p. omega (arith, w.nesting_is (s ⨾ p.0, p.1), z.2);
    }

with_choice : (start : List Placed) (test : Test) (blocks : List OpenBlock) (l k d : ℕ) (now new : List Placed) → Lacks CloseBrace (tokens_of now) → Ends IsPiece Any (choosing test) now new
    → Walked start blocks l k d now → Walked start (kind.First ∷ blocks) l (1 + k) (max d (1 + length blocks)) new
with_choice start test blocks l k d now new none e w = record {
  reach = omega arith;
  build = λ (p : Block × (Block × (Block × Parts blocks))). w.build (choose test p.0 p.1.0 ⨾ p.1.1.0, p.1.1.1);
  along = onward (StmtsTo CloseBrace) (Rest blocks) (Rest (kind.First ∷ blocks)) Any w.build (λ (p : Block × (Block × (Block × Parts blocks))). (choose test p.0 p.1.0 ⨾ p.1.1.0, p.1.1.1)) start now new w.along (piece_choosing (After blocks) test now new none e);
  loops_are = λ p.
      omega (arith, w.loops_are (choose test p.0 p.1.0 ⨾ p.1.1.0, p.1.1.1), length-append (block_indexes p.0 ++ block_indexes p.1.0) (block_indexes p.1.1.0), length-append (block_indexes p.0) (block_indexes p.1.0));
  stmts_are = λ p. omega (arith, w.stmts_are (choose test p.0 p.1.0 ⨾ p.1.1.0, p.1.1.1));
  nesting_is = λ p. omega (arith, w.nesting_is (choose test p.0 p.1.0 ⨾ p.1.1.0, p.1.1.1));
}

with_loop : (start : List Placed) (turns : Name × (Operand × ℤ)) (blocks : List OpenBlock) (l k d : ℕ) (now new : List Placed) → Lacks CloseBrace (tokens_of now) → Ends IsPiece Any (repeating turns) now new
    → Walked start blocks l k d now → Walked start (kind.Other ∷ blocks) (1 + l) (1 + k) (max d (1 + length blocks)) new
with_loop start turns blocks l k d now new none e w = record {
  reach = omega arith;
  build = λ (p : Block × (Block × Parts blocks)). w.build (loop_of turns p.0 ⨾ p.1.0, p.1.1);
  along = onward (StmtsTo CloseBrace) (Rest blocks) (Rest (kind.Other ∷ blocks)) Any w.build (λ (p : Block × (Block × Parts blocks)). (loop_of turns p.0 ⨾ p.1.0, p.1.1)) start now new w.along (piece_repeating (After blocks) turns now new none e);
  loops_are = λ p.
      omega (arith, w.loops_are (loop_of turns p.0 ⨾ p.1.0, p.1.1), length-append (turns.0 ∷ block_indexes p.0) (block_indexes p.1.0));
  stmts_are = λ p. omega (arith, w.stmts_are (loop_of turns p.0 ⨾ p.1.0, p.1.1));
  nesting_is = λ p. omega (arith, w.nesting_is (loop_of turns p.0 ⨾ p.1.0, p.1.1));
}

-- one more statement, or the front of one
pub counted_more : (start : List Placed) (blocks blocks' : List OpenBlock) (sizes sizes' : Sizes) (what : Opens) (piece : Piece) (now new : List Placed) → Lacks CloseBrace (tokens_of now) → DoesOpen what piece → Ends IsPiece Any piece now new
    → blocks' ≡ opened what blocks → ((l s n : ℕ) → AreSizes sizes l s n → AreSizes sizes' (loops_with what l) (1 + s) (nesting_with what (length blocks + 1) n)) → Counted start blocks sizes now → Counted start blocks' sizes' new
counted_more start blocks blocks' sizes sizes' opens.Nothing (simple s) now new none d e b f c = record {
  loops = c.loops;
  stmts = 1 + c.stmts;
  deep = c.deep;
  sizes_are = f c.loops c.stmts c.deep c.sizes_are;
  walked =
      let w = with_simple start s (reverse blocks) c.loops c.stmts c.deep now new none (e.made []).0 e c.walked in
      subst (λ x. Walked start (reverse x) c.loops (1 + c.stmts) c.deep new) (sym b) w;
}
counted_more start blocks blocks' sizes sizes' opens.Choice (choosing test) now new none d e b f c = record {
  loops = c.loops;
  stmts = 1 + c.stmts;
  deep = max c.deep (length blocks + 1);
  sizes_are = f c.loops c.stmts c.deep c.sizes_are;
  walked =
      let w = with_choice start test (reverse blocks) c.loops c.stmts c.deep now new none e c.walked in
      let deep : max c.deep (1 + length (reverse blocks)) ≡ max c.deep (length blocks + 1) = omega (arith, length-reverse blocks) in
      let last : kind.First ∷ reverse blocks ≡ reverse blocks' = sym (ap reverse b ∙ reverse-append blocks (kind.First ∷ [])) in
      subst (λ x. Walked start x c.loops (1 + c.stmts) (max c.deep (length blocks + 1)) new) last (subst (λ n. Walked start (kind.First ∷ reverse blocks) c.loops (1 + c.stmts) n new) deep w);
}
counted_more start blocks blocks' sizes sizes' opens.Loop (repeating turns) now new none d e b f c = record {
  loops = 1 + c.loops;
  stmts = 1 + c.stmts;
  deep = max c.deep (length blocks + 1);
  sizes_are = f c.loops c.stmts c.deep c.sizes_are;
  walked =
      let w = with_loop start turns (reverse blocks) c.loops c.stmts c.deep now new none e c.walked in
      let deep : max c.deep (1 + length (reverse blocks)) ≡ max c.deep (length blocks + 1) = omega (arith, length-reverse blocks) in
      let last : kind.Other ∷ reverse blocks ≡ reverse blocks' = sym (ap reverse b ∙ reverse-append blocks (kind.Other ∷ [])) in
      subst (λ x. Walked start x (1 + c.loops) (1 + c.stmts) (max c.deep (length blocks + 1)) new) last (subst (λ n. Walked start (kind.Other ∷ reverse blocks) (1 + c.loops) (1 + c.stmts) n new) deep w);
}
counted_more start blocks blocks' sizes sizes' opens.Nothing (choosing test) now new none d e b f c = absurd d
counted_more start blocks blocks' sizes sizes' opens.Nothing (repeating turns) now new none d e b f c = absurd d
counted_more start blocks blocks' sizes sizes' opens.Choice (simple s) now new none d e b f c = absurd d
counted_more start blocks blocks' sizes sizes' opens.Choice (repeating turns) now new none d e b f c = absurd d
counted_more start blocks blocks' sizes sizes' opens.Loop (simple s) now new none d e b f c = absurd d
counted_more start blocks blocks' sizes sizes' opens.Loop (choosing test) now new none d e b f c = absurd d

-- the end of the innermost block
block_ended : (start : List Placed) (blocks : List OpenBlock) (l k d : ℕ) (now new : List Placed) → Tests CloseBrace true now new → Walked start blocks l k d now → WalkedBehind start blocks l k d new
block_ended start blocks l k d now new e w = record {
  reach = w.reach;
  build = λ (p : Parts blocks). w.build ([], p);
  along = onward (StmtsTo CloseBrace) (Rest blocks) (After blocks) Any w.build (λ (p : Parts blocks). ([], p)) start now new w.along
      (behind (StmtsTo CloseBrace) (After blocks) Any Any [] now new (none_left CloseBrace (inl refl) now new e) (any Any (After blocks)));
  loops_are = λ p. omega (arith, w.loops_are ([], p));
  stmts_are = λ p. omega (arith, w.stmts_are ([], p));
  nesting_is = λ p. omega (arith, w.nesting_is ([], p));
}

-- `else` and its brace
else_made : {Y : Type 0} (g : Y → Takes) (p : Block × (Block × Y)) (us rest : List Token) → Then (StmtsTo CloseBrace) (Then (StmtsTo CloseBrace) g) p us rest → Then IsElse (Then (StmtsTo CloseBrace) g) p (ElseWord ∷ OpenBrace ∷ us) rest
else_made g p us rest k = record { mid = k.mid; first = inr (OpenBrace ∷ us, refl, (us, refl, k.first)); second = k.second }

else_parts : {Y : Type 0} (g : Y → Takes) (x : Block × (Block × Y)) (us mid rest : List Token) → IsElse x.0 (ElseWord ∷ OpenBrace ∷ us) mid → Then (StmtsTo CloseBrace) g x.1 mid rest
    → (p : Block × (Block × Y)) × Then (StmtsTo CloseBrace) (Then (StmtsTo CloseBrace) g) p us rest
else_parts g x us mid rest (inl h) k = absurd (rest_no_else g x.1 mid rest tt k (OpenBrace ∷ us) (sym h.1))
else_parts g x us mid rest (inr h) k =
    let last : h.2.0 ≡ us = cc (h.1, h.2.1) in
    (x, record { mid = mid; first = subst (λ u. StmtsTo CloseBrace x.0 u mid) last h.2.2; second = k })

else-taken : {Y : Type 0} (g : Y → Takes) (now new : List Placed) → ElseTaken now new
    → Along (Then IsElse (Then (StmtsTo CloseBrace) g)) Any (λ (p : Block × (Block × Y)). p) now (Then (StmtsTo CloseBrace) (Then (StmtsTo CloseBrace) g)) new
else-taken {Y} g now new e = record {
  used = record { token = ElseWord; from = e.0 } ∷ record { token = OpenBrace; from = e.1 } ∷ [];
  place = e.2;
  made = λ p us rest k. else_made g p us rest k;
  only = λ x us rest m ok k. else_parts g x us k.mid rest k.first k.second;
}

-- behind a block that ended
behind_other : (start : List Placed) (blocks : List OpenBlock) (l k d : ℕ) (now : List Placed) → WalkedBehind start (kind.Other ∷ blocks) l k d now → Walked start blocks l k d now
behind_other start blocks l k d now w = record {
  reach = omega (arith, w.reach);
  build = λ (p : Block × Parts blocks). w.build p;
  along = w.along;
  loops_are = λ p. w.loops_are p;
  stmts_are = λ p. w.stmts_are p;
  nesting_is = λ p. omega (arith, w.reach, w.nesting_is p);
}

behind_first : (start : List Placed) (blocks : List OpenBlock) (l k d : ℕ) (now new : List Placed) → Tests ElseWord false now new → WalkedBehind start (kind.First ∷ blocks) l k d now → Walked start blocks l k d new
behind_first start blocks l k d now new e w = record {
  reach = omega (arith, w.reach);
  build = λ (p : Block × Parts blocks). w.build ([], p);
  along = onward (StmtsTo CloseBrace) (After (kind.First ∷ blocks)) (Rest blocks) Any w.build (λ (p : Block × Parts blocks). ([], p)) start now new w.along
      (behind IsElse (Rest blocks) Any NoElse [] now new (else-absent now new e) (rest_no_else (After blocks)));
  loops_are = λ p. omega (arith, w.loops_are ([], p));
  stmts_are = λ p. omega (arith, w.stmts_are ([], p));
  nesting_is = λ p. omega (arith, w.reach, w.nesting_is ([], p));
}

behind_else : (start : List Placed) (blocks : List OpenBlock) (l k d : ℕ) (now new : List Placed) → ElseTaken now new → WalkedBehind start (kind.First ∷ blocks) l k d now → Walked start (kind.Other ∷ blocks) l k d new
behind_else start blocks l k d now new e w = record {
  reach = w.reach;
  build = λ (p : Block × (Block × Parts blocks)). w.build p;
  along = onward (StmtsTo CloseBrace) (After (kind.First ∷ blocks)) (Rest (kind.Other ∷ blocks)) Any w.build (λ (p : Block × (Block × Parts blocks)). p) start now new w.along (else-taken (After blocks) now new e);
  loops_are = λ p. omega (arith, w.loops_are p);
  stmts_are = λ p. omega (arith, w.stmts_are p);
  nesting_is = λ p. omega (arith, w.reach, w.nesting_is p);
}

walked_on : (start : List Placed) (closed : OpenBlock) (blocks blocks' : List OpenBlock) (l k d : ℕ) (now new : List Placed) (done : Unit {0}) → GoesBehind closed (Ok done) blocks blocks' now new
    → WalkedBehind start (closed ∷ reverse blocks) l k d now → Walked start (reverse blocks') l k d new
walked_on start kind.Other blocks blocks' l k d now new done g w =
    let h = behind_other start (reverse blocks) l k d now w in
    subst (λ x. Walked start (reverse x) l k d new) (sym g.0) (subst (λ t. Walked start (reverse blocks) l k d t) (sym g.1) h)
walked_on start kind.First blocks blocks' l k d now new done (inl g) w =
    let last : kind.Other ∷ reverse blocks ≡ reverse blocks' = sym (ap reverse g.0 ∙ reverse-append blocks (kind.Other ∷ [])) in
    subst (λ x. Walked start x l k d new) last (behind_else start (reverse blocks) l k d now new g.1 w)
walked_on start kind.First blocks blocks' l k d now new done (inr g) w =
    subst (λ x. Walked start (reverse x) l k d new) (sym g.0) (behind_first start (reverse blocks) l k d now new (g.1, g.2) w)

-- a block ended, and reading goes on behind it
pub counted_behind : (start : List Placed) (whole blocks blocks' : List OpenBlock) (closed : OpenBlock) (sizes : Sizes) (now mid new : List Placed) (done : Unit {0}) → whole ≡ blocks ++ closed ∷ [] → Tests CloseBrace true now mid
    → GoesBehind closed (Ok done) blocks blocks' mid new → Counted start whole sizes now → Counted start blocks' sizes new
counted_behind start whole blocks blocks' closed sizes now mid new done is e g c =
    let last : reverse whole ≡ closed ∷ reverse blocks = ap reverse is ∙ reverse-append blocks (closed ∷ []) in
    let w = block_ended start (closed ∷ reverse blocks) c.loops c.stmts c.deep now mid e (subst (λ x. Walked start x c.loops c.stmts c.deep now) last c.walked) in
    record { loops = c.loops; stmts = c.stmts; deep = c.deep; sizes_are = c.sizes_are; walked = walked_on start closed blocks blocks' c.loops c.stmts c.deep mid new done g w }

-- the last block ended
nothing_left : (now : List Placed) → Ends (After []) Any tt now now
nothing_left now = record { used = []; place = refl; made = λ us. refl; only = λ y us rest m ok k. sym k }

pub counted_end : (start : List Placed) (whole : List OpenBlock) (sizes : Sizes) (now new : List Placed) → whole ≡ [] → Tests CloseBrace true now new → Counted start whole sizes now
    → (x : Block) × HasSizes sizes x × Ends (StmtsTo CloseBrace) Any x start new
counted_end start whole sizes now new is e c =
    let w = block_ended start [] c.loops c.stmts c.deep now new e (subst (λ x. Walked start (reverse x) c.loops c.stmts c.deep now) is c.walked) in
    let l = w.loops_are tt in
    let s = w.stmts_are tt in
    let n = w.nesting_is tt in
    let h = c.sizes_are in (
      w.build tt,
      record { loops_are = omega (arith, l, h.loops_are); statements_are = omega (arith, s, h.statements_are); nesting_is = omega (arith, n, h.nesting_is) },
      done (StmtsTo CloseBrace) (After []) Any w.build tt start new new w.along (nothing_left new),
    )

-- what can be made of all that is left
open_after : (blocks : List OpenBlock) → Open (After blocks)
open_after [] = record { some = tt; more = []; goes_on = λ rest. refl }
open_after (kind.Other ∷ blocks) = open_then (StmtsTo CloseBrace) (After blocks) (open_stmts CloseBrace) (open_after blocks)
open_after (kind.First ∷ blocks) =
    open_then IsElse (Rest blocks) open_else (open_then (StmtsTo CloseBrace) (After blocks) (open_stmts CloseBrace) (open_after blocks))

-- a statement that a piece is the front of
close_of : Piece → List Token
close_of (simple s) = []
close_of (choosing test) = CloseBrace ∷ []
close_of (repeating turns) = CloseBrace ∷ []

stmt_for : Piece → Stmt
stmt_for (simple s) = s
stmt_for (choosing test) = choose test [] []
stmt_for (repeating turns) = loop_of turns []

stmt_with : (piece : Piece) (ts rest : List Token) → IsPiece piece ts (close_of piece ++ rest) → IsStmt (stmt_for piece) ts rest
unfolding IsStmt AreStmts close_of stmt_for
stmt_with (simple s) ts rest h = h.1
stmt_with (choosing test) ts rest h =
    (h.0, OpenBrace ∷ CloseBrace ∷ rest, rest, h.1, h.2, (CloseBrace ∷ rest, refl, refl), inl (refl, refl))
stmt_with (repeating turns) ts rest h =
    let t = h.2 in
    (t.0, OpenBrace ∷ CloseBrace ∷ rest, t.1, h.1 ∙ ap (λ u. RepeatWord ∷ u) t.2, t.3, t.4, (CloseBrace ∷ rest, refl, refl))

piece_of : (s : Stmt) (ts rest : List Token) → IsStmt s ts rest → (piece : Piece) × (mid : List Token) × IsPiece piece ts mid
unfolding IsStmt
piece_of (copy to from) ts rest h = (simple (copy to from), rest, (tt, h))
piece_of (compute to op left right) ts rest h = (simple (compute to op left right), rest, (tt, h))
piece_of (call to callee args) ts rest h = (simple (call to callee args), rest, (tt, h))
piece_of (assert test) ts rest h = (simple (assert test), rest, (tt, h))
piece_of (choose test first second) ts rest h =
    (choosing test, h.5.0, (h.0, h.3, subst (λ u. IsTest test h.0 u) h.5.1 h.4))
piece_of (repeat index bound most body) ts rest h = (
  repeating (index, (bound, most)),
  h.6.0,
  (Named index ∷ ToWord ∷ h.0, h.3, (h.0, h.2, refl, subst (λ u. IsOperand bound h.0 (CapWord ∷ Number h.2 ∷ u)) h.6.1 h.4, h.5)),
)

-- reading stops where a piece does
rest_stops : {Y : Type 0} (g : Y → Takes) (now new : List Placed) → Open (Then (StmtsTo CloseBrace) g) → Lacks CloseBrace (tokens_of now) → Stops IsPiece Any now new → Stops (Then (StmtsTo CloseBrace) g) Any now new
rest_stops g now new o none s = record {
  used = s.used;
  place = s.place;
  some = (stmt_for s.some ⨾ o.some.0, o.some.1);
  more = s.more ++ (close_of s.some ++ o.more);
  goes_on = λ rest.
      let piece = s.goes_on (close_of s.some ++ (o.more ++ rest)) in
      let stmt = stmt_with s.some (tokens_of s.used ++ (s.more ++ (close_of s.some ++ (o.more ++ rest)))) (o.more ++ rest) piece in
      let front : s.more ++ (close_of s.some ++ (o.more ++ rest)) ≡ (s.more ++ (close_of s.some ++ o.more)) ++ rest =
      sym (append_assoc s.more (close_of s.some ++ o.more) rest ∙ ap (λ t. s.more ++ t) (append_assoc (close_of s.some) o.more rest)) in
      subst (λ t. Then (StmtsTo CloseBrace) g (stmt_for s.some ⨾ o.some.0, o.some.1) (tokens_of s.used ++ t) rest) front
      (stmt_made g (stmt_for s.some) o.some.0 o.some.1 (tokens_of s.used ++ (s.more ++ (close_of s.some ++ (o.more ++ rest)))) (o.more ++ rest) rest stmt (o.goes_on rest));
  shut = λ y us rest m ok k.
      let n = stmt_next g now none y (tokens_of s.used ++ us) rest (meets_from now s.used new us s.place m) k in
      let q = piece_of n.0 (tokens_of s.used ++ us) n.1.1 n.1.3 in
      s.shut q.0 us q.1 m tt q.2;
}

open_rest : (blocks : List OpenBlock) → Open (Rest blocks)
open_rest blocks = open_then (StmtsTo CloseBrace) (After blocks) (open_stmts CloseBrace) (open_after blocks)

pub counted_failed : (fault : Fault) (start : List Placed) (blocks : List OpenBlock) (sizes : Sizes) (now new : List Placed) → Lacks CloseBrace (tokens_of now) → Fails IsPiece Any fault now new → Counted start blocks sizes now
    → Fails (StmtsTo CloseBrace) Any fault start new
counted_failed Memory start blocks sizes now new none f c = tt
counted_failed Syntax start blocks sizes now new none f c =
    stopped (StmtsTo CloseBrace) (Rest (reverse blocks)) Any c.walked.build start now new c.walked.along (rest_stops (After (reverse blocks)) now new (open_rest (reverse blocks)) none f)

-- and where `else` has no brace
no_brace : (now : List Placed) → Lacks OpenBrace (tokens_of now) → Stops IsBlock Any now now
no_brace now none = one_stops IsBlock Any now open_block (λ y us rest m ok k. meets_lacks OpenBrace now us none m k.0 k.1)

braced_made : {Y : Type 0} (g : Y → Takes) (p : Block × Y) (us rest : List Token) → Then IsBlock g p us rest → Then IsElse g p (ElseWord ∷ us) rest
braced_made g p us rest k = record { mid = k.mid; first = inr (us, refl, k.first); second = k.second }

braced_parts : {Y : Type 0} (g : Y → Takes) → Follows Any NoElse g → (x : Block × Y) (us mid rest : List Token) → IsElse x.0 (ElseWord ∷ us) mid → g x.1 mid rest → (p : Block × Y) × Then IsBlock g p us rest
braced_parts g f x us mid rest (inl h) k = absurd (f x.1 mid rest tt k us (sym h.1))
braced_parts g f x us mid rest (inr h) k =
    let last : h.0 ≡ us = cc h.1 in
    (x, record { mid = mid; first = subst (λ u. IsBlock x.0 u mid) last h.2; second = k })

else-word : {Y : Type 0} (g : Y → Takes) → Follows Any NoElse g → (from : List ℕ) (now new : List Placed) → now ≡ record { token = ElseWord; from = from } ∷ new
    → Along (Then IsElse g) Any (λ (p : Block × Y). p) now (Then IsBlock g) new
else-word {Y} g f from now new e =
    token_taken (Then IsElse g) Any (λ (p : Block × Y). p) (Then IsBlock g) ElseWord from now new e (braced_made g) (λ x us rest ok k. braced_parts g f x us k.mid rest k.first k.second)

behind_stops : (start : List Placed) (blocks : List OpenBlock) (l k d : ℕ) (now new : List Placed) → TakesElse (Err Syntax) now new → WalkedBehind start (kind.First ∷ blocks) l k d now → Stops (StmtsTo CloseBrace) Any start new
behind_stops start blocks l k d now new e w =
    let a = onward (StmtsTo CloseBrace) (After (kind.First ∷ blocks)) (Then IsBlock (Rest blocks)) Any w.build (λ (p : Block × (Block × Parts blocks)). p) start now new w.along
    (else-word (Rest blocks) (rest_no_else (After blocks)) e.0 now new e.1) in
    stopped (StmtsTo CloseBrace) (Then IsBlock (Rest blocks)) Any w.build start new new a
    (stopped_first IsBlock (Rest blocks) Any Any new new (no_brace new e.2) (any Any (Rest blocks)) (open_rest blocks))

failed_behind : (fault : Fault) (start : List Placed) (closed : OpenBlock) (blocks blocks' : List OpenBlock) (l k d : ℕ) (now new : List Placed) → GoesBehind closed (Err fault) blocks blocks' now new
    → WalkedBehind start (closed ∷ reverse blocks) l k d now → Fails (StmtsTo CloseBrace) Any fault start new
failed_behind Memory start closed blocks blocks' l k d now new g w = tt
failed_behind Syntax start kind.Other blocks blocks' l k d now new g w = absurd g
failed_behind Syntax start kind.First blocks blocks' l k d now new g w = behind_stops start (reverse blocks) l k d now new g w

pub counted_behind_failed : (fault : Fault) (start : List Placed) (whole blocks blocks' : List OpenBlock) (closed : OpenBlock) (sizes : Sizes) (now mid new : List Placed) → whole ≡ blocks ++ closed ∷ [] → Tests CloseBrace true now mid
    → GoesBehind closed (Err fault) blocks blocks' mid new → Counted start whole sizes now → Fails (StmtsTo CloseBrace) Any fault start new
counted_behind_failed fault start whole blocks blocks' closed sizes now mid new is e g c =
    let last : reverse whole ≡ closed ∷ reverse blocks = ap reverse is ∙ reverse-append blocks (closed ∷ []) in
    let w = block_ended start (closed ∷ reverse blocks) c.loops c.stmts c.deep now mid e (subst (λ x. Walked start x c.loops c.stmts c.deep now) last c.walked) in
    failed_behind fault start closed blocks blocks' c.loops c.stmts c.deep mid new g w

-- the same where it was tested that no block ends
pub counted_more_at : (start : List Placed) (blocks blocks' : List OpenBlock) (sizes sizes' : Sizes) (what : Opens) (piece : Piece) (now back new : List Placed) → Tests CloseBrace false now back → DoesOpen what piece → Ends IsPiece Any piece back new
    → blocks' ≡ opened what blocks → ((l s n : ℕ) → AreSizes sizes l s n → AreSizes sizes' (loops_with what l) (1 + s) (nesting_with what (length blocks + 1) n)) → Counted start blocks sizes now → Counted start blocks' sizes' new
counted_more_at start blocks blocks' sizes sizes' what piece now back new e d p b f c =
    counted_more start blocks blocks' sizes sizes' what piece now new e.0 d (subst (λ t. Ends IsPiece Any piece t new) e.1 p) b f c

pub counted_failed_at : (fault : Fault) (start : List Placed) (blocks : List OpenBlock) (sizes : Sizes) (now back new : List Placed) → Tests CloseBrace false now back → Fails IsPiece Any fault back new → Counted start blocks sizes now
    → Fails (StmtsTo CloseBrace) Any fault start new
counted_failed_at fault start blocks sizes now back new e f c =
    counted_failed fault start blocks sizes now new e.0 (subst (λ t. Fails IsPiece Any fault t new) e.1 f) c
