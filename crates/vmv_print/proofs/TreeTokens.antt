-- The tokens of a canonical text are those of its tree's parts, in order.
use Rattle.std.proofs.Common.{◌≡◌, ℕ, false, List, [], ◌∷◌, ◌++◌, refl, sym, ap, ◌∙◌}
use Rattle.std.specs.Prelude.{ℤ, pos, negsuc, codes, All}
use Rattle.std.specs.Fmt.{signed_decimal}
use Rattle.std.specs.Str.{IsUtf8}
use Rattle.std.proofs.lemmas.List.Elements.{All-head, All-tail}
use Rattle.vmv_tree.specs.declared.name.Name.{Name}
use Rattle.vmv_tree.specs.declared.tree.Operand.{Operand}
use Rattle.vmv_tree.specs.declared.tree.Operand.TheVariants.{Lit, Var}
use Rattle.vmv_tree.specs.declared.tree.Op.{Op}
use Rattle.vmv_tree.specs.declared.tree.Op.TheVariants.{Add, Sub, Mul, Div, Rem}
use Rattle.vmv_tree.specs.declared.tree.Rel.{Rel}
use Rattle.vmv_tree.specs.declared.tree.Rel.TheVariants.{Equal, Unequal, Less, AtMost, Greater, AtLeast}
use Rattle.vmv_tree.specs.declared.tree.Test.{Test}
use Rattle.vmv_tree.specs.declared.tree.Param.{Param}
use Rattle.vmv_tree.specs.Tree.{Stmt, copy, compute, call, assert, choose, repeat, Block, [], ◌⨾◌, Body, Item, outside, helper, entry}
use Rattle.vmv_text.proofs.Spoken.{Token}
use Rattle.vmv_text.proofs.Spoken.{Named, OutsideWord, HelperWord, EntryWord, VarWord, ReturnWord, AssertWord, IfWord, ElseWord, RepeatWord, ToWord, CapWord, Dots, OpenParen, CloseParen, OpenBrace, CloseBrace, Comma, Semicolon, Colon, Equals}
use Rattle.vmv_text.specs.Tokens.{tokens, after_gap}
use Rattle.vmv_text.specs.Grammar.{op_token, rel_token}
use Rattle.vmv_print.specs.Canonical.{operand_text, op_text, rel_text, spaced, test_text, after_commas, listed, names_text, param_text, outermost, deeper, line, else_line, stmt_text, block_text, vars_text, body_text, item_text, canonical}
use Rattle.vmv_print.specs.Written.{IsName, IsCount, IsWrittenOperand, IsWrittenTest, IsWrittenParam, IsWrittenStmt, IsWrittenBlock, IsWrittenBody, IsWrittenItem, IsWritten}
use Rattle.vmv_print.proofs.Lexing.{tokens-step, first_and, Before, Ends, plain, Closed, Opened, and_closed, and_opened, closing, opening, nothing, no_list, lit_before, name_opened, count_opened, lit_opened}

-- the signs between names and numbers
blank : (rest : List ℕ) → tokens (32 ∷ rest) ≡ tokens rest
blank rest = tokens-step (32 ∷ rest) ∙ sym (tokens-step rest)

feed : (rest : List ℕ) → tokens (10 ∷ rest) ≡ tokens rest
feed rest = tokens-step (10 ∷ rest) ∙ sym (tokens-step rest)

sign : (a : List ℕ) (f : Before) → IsUtf8 a → ((rest : List ℕ) → tokens (a ++ rest) ≡ f (tokens rest)) → Closed a f
sign a f u h = record { utf8 = u; lexed = h }

space_sign : Closed (codes " ") (λ ts. ts)
space_sign = sign (codes " ") (λ ts. ts) (plain (codes " ") refl) blank

feed_sign : Closed (codes "\n") (λ ts. ts)
feed_sign = sign (codes "\n") (λ ts. ts) (plain (codes "\n") refl) feed

-- one token, and what is left
one_token : (a : List ℕ) (t : Token) → IsUtf8 a → ((rest : List ℕ) → first_and (after_gap false (a ++ rest)) ≡ t ∷ tokens rest) → Closed a (λ ts. t ∷ ts)
one_token a t u h = sign a (λ ts. t ∷ ts) u (λ rest. tokens-step (a ++ rest) ∙ h rest)

semicolon : Closed (codes ";") (λ ts. Semicolon ∷ ts)
semicolon = one_token (codes ";") Semicolon (plain (codes ";") refl) (λ rest. refl)

open_paren : Closed (codes "(") (λ ts. OpenParen ∷ ts)
open_paren = one_token (codes "(") OpenParen (plain (codes "(") refl) (λ rest. refl)

close_paren : Closed (codes ")") (λ ts. CloseParen ∷ ts)
close_paren = one_token (codes ")") CloseParen (plain (codes ")") refl) (λ rest. refl)

open_brace : Closed (codes " {") (λ ts. OpenBrace ∷ ts)
open_brace = one_token (codes " {") OpenBrace (plain (codes " {") refl) (λ rest. refl)

close_brace : Closed (codes "}") (λ ts. CloseBrace ∷ ts)
close_brace = one_token (codes "}") CloseBrace (plain (codes "}") refl) (λ rest. refl)

dots : Closed (codes "..") (λ ts. Dots ∷ ts)
dots = one_token (codes "..") Dots (plain (codes "..") refl) (λ rest. refl)

-- one token with a space behind it
spaced_token : (a : List ℕ) (t : Token) → IsUtf8 a → ((rest : List ℕ) → first_and (after_gap false (a ++ rest)) ≡ t ∷ tokens (32 ∷ rest)) → Closed a (λ ts. t ∷ ts)
spaced_token a t u h =
    sign a (λ ts. t ∷ ts) u (λ rest. tokens-step (a ++ rest) ∙ (h rest ∙ ap (λ ts. t ∷ ts) (blank rest)))

comma : Closed (codes ", ") (λ ts. Comma ∷ ts)
comma = spaced_token (codes ", ") Comma (plain (codes ", ") refl) (λ rest. refl)

colon : Closed (codes ": ") (λ ts. Colon ∷ ts)
colon = spaced_token (codes ": ") Colon (plain (codes ": ") refl) (λ rest. refl)

equals : Closed (codes " = ") (λ ts. Equals ∷ ts)
equals = spaced_token (codes " = ") Equals (plain (codes " = ") refl) (λ rest. refl)

outside_word : Closed (codes "outside ") (λ ts. OutsideWord ∷ ts)
outside_word = spaced_token (codes "outside ") OutsideWord (plain (codes "outside ") refl) (λ rest. refl)

helper_word : Closed (codes "helper ") (λ ts. HelperWord ∷ ts)
helper_word = spaced_token (codes "helper ") HelperWord (plain (codes "helper ") refl) (λ rest. refl)

entry_word : Closed (codes "entry ") (λ ts. EntryWord ∷ ts)
entry_word = spaced_token (codes "entry ") EntryWord (plain (codes "entry ") refl) (λ rest. refl)

var_word : Closed (codes "var ") (λ ts. VarWord ∷ ts)
var_word = spaced_token (codes "var ") VarWord (plain (codes "var ") refl) (λ rest. refl)

return_word : Closed (codes "return ") (λ ts. ReturnWord ∷ ts)
return_word = spaced_token (codes "return ") ReturnWord (plain (codes "return ") refl) (λ rest. refl)

assert_word : Closed (codes "assert ") (λ ts. AssertWord ∷ ts)
assert_word = spaced_token (codes "assert ") AssertWord (plain (codes "assert ") refl) (λ rest. refl)

if_word : Closed (codes "if ") (λ ts. IfWord ∷ ts)
if_word = spaced_token (codes "if ") IfWord (plain (codes "if ") refl) (λ rest. refl)

repeat_word : Closed (codes "repeat ") (λ ts. RepeatWord ∷ ts)
repeat_word = spaced_token (codes "repeat ") RepeatWord (plain (codes "repeat ") refl) (λ rest. refl)

to_word : Closed (codes " to ") (λ ts. ToWord ∷ ts)
to_word = spaced_token (codes " to ") ToWord (plain (codes " to ") refl) (λ rest. refl)

cap_word : Closed (codes " cap ") (λ ts. CapWord ∷ ts)
cap_word = spaced_token (codes " cap ") CapWord (plain (codes " cap ") refl) (λ rest. refl)

-- `} else {`
else_rest : (rest : List ℕ) → tokens (codes " else {" ++ rest) ≡ ElseWord ∷ OpenBrace ∷ tokens rest
else_rest rest = tokens-step (codes " else {" ++ rest) ∙ ap (λ ts. ElseWord ∷ ts) (open_brace.lexed rest)

else_sign : Closed (codes "} else {") (λ ts. CloseBrace ∷ ElseWord ∷ OpenBrace ∷ ts)
else_sign =
    sign (codes "} else {") (λ ts. CloseBrace ∷ ElseWord ∷ OpenBrace ∷ ts) (plain (codes "} else {") refl)
    (λ rest. tokens-step (codes "} else {" ++ rest) ∙ ap (λ ts. CloseBrace ∷ ts) (else_rest rest))

-- `);` and `) {`
close_call : Closed (codes ");") (λ ts. CloseParen ∷ Semicolon ∷ ts)
close_call = and_closed close_paren semicolon

close_params : Closed (codes ") {") (λ ts. CloseParen ∷ OpenBrace ∷ ts)
close_params = and_closed close_paren open_brace

op_sign : (op : Op) → Closed (spaced (op_text op)) (λ ts. op_token op ∷ ts)
op_sign Add = spaced_token (codes " + ") (op_token Add) (plain (codes " + ") refl) (λ rest. refl)
op_sign Sub = spaced_token (codes " - ") (op_token Sub) (plain (codes " - ") refl) (λ rest. refl)
op_sign Mul = spaced_token (codes " * ") (op_token Mul) (plain (codes " * ") refl) (λ rest. refl)
op_sign Div = spaced_token (codes " / ") (op_token Div) (plain (codes " / ") refl) (λ rest. refl)
op_sign Rem = spaced_token (codes " % ") (op_token Rem) (plain (codes " % ") refl) (λ rest. refl)

rel_sign : (rel : Rel) → Closed (spaced (rel_text rel)) (λ ts. rel_token rel ∷ ts)
rel_sign Equal = spaced_token (codes " == ") (rel_token Equal) (plain (codes " == ") refl) (λ rest. refl)
rel_sign Unequal = spaced_token (codes " != ") (rel_token Unequal) (plain (codes " != ") refl) (λ rest. refl)
rel_sign Less = spaced_token (codes " < ") (rel_token Less) (plain (codes " < ") refl) (λ rest. refl)
rel_sign AtMost = spaced_token (codes " <= ") (rel_token AtMost) (plain (codes " <= ") refl) (λ rest. refl)
rel_sign Greater = spaced_token (codes " > ") (rel_token Greater) (plain (codes " > ") refl) (λ rest. refl)
rel_sign AtLeast = spaced_token (codes " >= ") (rel_token AtLeast) (plain (codes " >= ") refl) (λ rest. refl)

-- the tokens of operands, tests and lists
abbrev pub operand_before : Operand → Before
operand_before (Lit z) ts = lit_before z ts
operand_before (Var x) ts = Named x ∷ ts

operand_opened : (o : Operand) → IsWrittenOperand o → Opened (operand_text o) (operand_before o)
operand_opened (Lit z) h = lit_opened z h
operand_opened (Var x) h = name_opened x h

abbrev pub test_before : Test → Before
test_before test ts = operand_before test.left (rel_token test.rel ∷ operand_before test.right ts)

rel_ends : (rel : Rel) (rest : List ℕ) → Ends (spaced (rel_text rel) ++ rest)
rel_ends Equal rest = refl
rel_ends Unequal rest = refl
rel_ends Less rest = refl
rel_ends AtMost rest = refl
rel_ends Greater rest = refl
rel_ends AtLeast rest = refl

op_ends : (op : Op) (rest : List ℕ) → Ends (spaced (op_text op) ++ rest)
op_ends Add rest = refl
op_ends Sub rest = refl
op_ends Mul rest = refl
op_ends Div rest = refl
op_ends Rem rest = refl

test_opened : (test : Test) → IsWrittenTest test → Opened (test_text test) (test_before test)
test_opened test h =
    and_opened (closing (operand_opened test.left h.0) (rel_sign test.rel) (rel_ends test.rel)) (operand_opened test.right h.1)

-- with commas between them
abbrev pub after_before : {A : Type 0} → (A → Before) → List A → Before
after_before one [] ts = ts
after_before one (x ∷ xs) ts = Comma ∷ one x (after_before one xs ts)

abbrev pub listed_before : {A : Type 0} → (A → Before) → List A → Before
listed_before one [] ts = ts
listed_before one (x ∷ xs) ts = one x (after_before one xs ts)

commas_end : {A : Type 0} (text : A → List ℕ) (xs : List A) (rest : List ℕ) → Ends rest → Ends (after_commas text xs ++ rest)
commas_end text [] rest e = e
commas_end text (x ∷ xs) rest e = refl

after_opened : {A : Type 0} (text : A → List ℕ) (before : A → Before) (P : A → Type 0) → ((x : A) → P x → Opened (text x) (before x)) → (xs : List A) → All P xs → Opened (after_commas text xs) (after_before before xs)
after_opened text before P one [] h = no_list
after_opened text before P one (x ∷ xs) h =
    opening (and_opened comma (one x (All-head P x xs h))) (after_opened text before P one xs (All-tail P x xs h)) (commas_end text xs)

listed_opened : {A : Type 0} (text : A → List ℕ) (before : A → Before) (P : A → Type 0) → ((x : A) → P x → Opened (text x) (before x)) → (xs : List A) → All P xs → Opened (listed text xs) (listed_before before xs)
listed_opened text before P one [] h = no_list
listed_opened text before P one (x ∷ xs) h =
    opening (one x (All-head P x xs h)) (after_opened text before P one xs (All-tail P x xs h)) (commas_end text xs)

abbrev pub name_before : Name → Before
name_before x ts = Named x ∷ ts

abbrev pub param_before : Param → Before
param_before p ts = Named p.name ∷ Colon ∷ lit_before p.lo (Dots ∷ lit_before p.hi ts)

param_opened : (p : Param) → IsWrittenParam p → Opened (param_text p) (param_before p)
param_opened p h =
    and_opened (closing (and_opened (closing (name_opened p.name h.0) colon (λ rest. refl)) (lit_opened p.lo h.1)) dots (λ rest. refl)) (lit_opened p.hi h.2)

names_opened : (names : List Name) → All IsName names → Opened (names_text names) (listed_before name_before names)
names_opened names h = listed_opened (λ x. x) name_before IsName name_opened names h

-- lines
line_closed : {indent text : List ℕ} {f : Before} → Closed indent (λ ts. ts) → Closed text f → Closed (line indent text) f
line_closed i x = and_closed (and_closed i x) feed_sign

deeper_closed : {indent : List ℕ} → Closed indent (λ ts. ts) → Closed (deeper indent) (λ ts. ts)
deeper_closed i = and_closed i (and_closed space_sign space_sign)

count_is_opened : (z : ℤ) → IsCount z → Opened (signed_decimal z) (lit_before z)
count_is_opened (pos n) h = count_opened n h
count_is_opened (negsuc n) h = absurd h

abbrev pub else_before : Block → Before
else_before [] ts = ts
else_before (s ⨾ block) ts = CloseBrace ∷ ElseWord ∷ OpenBrace ∷ ts

else_closed : {indent : List ℕ} → Closed indent (λ ts. ts) → (second : Block) → Closed (else_line indent second) (else_before second)
else_closed i [] = nothing
else_closed i (s ⨾ block) = line_closed i else_sign

-- the tokens of statements
abbrev mutual
  pub stmt_before : Stmt → Before
  stmt_before (copy to from) ts = Named to ∷ Equals ∷ operand_before from (Semicolon ∷ ts)
  stmt_before (compute to op left right) ts =
      Named to ∷ Equals ∷ operand_before left (op_token op ∷ operand_before right (Semicolon ∷ ts))
  stmt_before (call to callee args) ts =
      Named to ∷ Equals ∷ Named callee ∷ OpenParen ∷ listed_before operand_before args (CloseParen ∷ Semicolon ∷ ts)
  stmt_before (assert test) ts = AssertWord ∷ test_before test (Semicolon ∷ ts)
  stmt_before (choose test first second) ts =
      IfWord ∷ test_before test (OpenBrace ∷ block_before first (else_before second (block_before second (CloseBrace ∷ ts))))
  stmt_before (repeat index bound most body) ts =
      RepeatWord ∷ Named index ∷ ToWord ∷ operand_before bound (CapWord ∷ lit_before most (OpenBrace ∷ block_before body (CloseBrace ∷ ts)))

  pub block_before : Block → Before
  block_before [] ts = ts
  block_before (s ⨾ block) ts = stmt_before s (block_before block ts)

copy_closed : {indent : List ℕ} → Closed indent (λ ts. ts) → (to : Name) (from : Operand) → IsWrittenStmt (copy to from) → Closed (stmt_text indent (copy to from)) (stmt_before (copy to from))
unfolding IsWrittenStmt
copy_closed i to from h =
    line_closed i (closing (and_opened (closing (name_opened to h.0) equals (λ rest. refl)) (operand_opened from h.1)) semicolon (λ rest. refl))

compute_closed : {indent : List ℕ} → Closed indent (λ ts. ts) → (to : Name) (op : Op) (left right : Operand) → IsWrittenStmt (compute to op left right) → Closed (stmt_text indent (compute to op left right)) (stmt_before (compute to op left right))
unfolding IsWrittenStmt
compute_closed i to op left right h =
    line_closed i (closing (and_opened (closing (and_opened (closing (name_opened to h.0) equals (λ rest. refl)) (operand_opened left h.1)) (op_sign op) (op_ends op)) (operand_opened right h.2)) semicolon (λ rest. refl))

call_closed : {indent : List ℕ} → Closed indent (λ ts. ts) → (to callee : Name) (args : List Operand) → IsWrittenStmt (call to callee args) → Closed (stmt_text indent (call to callee args)) (stmt_before (call to callee args))
unfolding IsWrittenStmt
call_closed i to callee args h =
    line_closed i (closing (and_opened (closing (and_opened (closing (name_opened to h.0) equals (λ rest. refl)) (name_opened callee h.1)) open_paren (λ rest. refl)) (listed_opened operand_text operand_before IsWrittenOperand operand_opened args h.2)) close_call (λ rest. refl))

assert_closed : {indent : List ℕ} → Closed indent (λ ts. ts) → (test : Test) → IsWrittenStmt (assert test) → Closed (stmt_text indent (assert test)) (stmt_before (assert test))
unfolding IsWrittenStmt
assert_closed i test h =
    line_closed i (closing (and_opened assert_word (test_opened test h)) semicolon (λ rest. refl))

if_closed : {indent : List ℕ} → Closed indent (λ ts. ts) → (test : Test) → IsWrittenTest test → Closed (line indent (codes "if " ++ test_text test ++ codes " {")) (λ ts. IfWord ∷ test_before test (OpenBrace ∷ ts))
if_closed i test h =
    line_closed i (closing (and_opened if_word (test_opened test h)) open_brace (λ rest. refl))

repeat_closed : {indent : List ℕ} → Closed indent (λ ts. ts) → (index : Name) (bound : Operand) (most : ℤ) → IsName index → IsWrittenOperand bound → IsCount most → Closed (line indent (codes "repeat " ++ index ++ codes " to " ++ operand_text bound ++ codes " cap " ++ signed_decimal most ++ codes " {")) (λ ts. RepeatWord ∷ Named index ∷ ToWord ∷ operand_before bound (CapWord ∷ lit_before most (OpenBrace ∷ ts)))
repeat_closed i index bound most h k l =
    line_closed i (closing (and_opened (closing (and_opened (closing (and_opened repeat_word (name_opened index h)) to_word (λ rest. refl)) (operand_opened bound k)) cap_word (λ rest. refl)) (count_is_opened most l)) open_brace (λ rest. refl))

mutual
  unfolding IsWrittenStmt

  pub stmt_closed : (indent : List ℕ) → Closed indent (λ ts. ts) → (s : Stmt) → IsWrittenStmt s → Closed (stmt_text indent s) (stmt_before s)
  stmt_closed indent i (copy to from) h = copy_closed i to from h
  stmt_closed indent i (compute to op left right) h = compute_closed i to op left right h
  stmt_closed indent i (call to callee args) h = call_closed i to callee args h
  stmt_closed indent i (assert test) h = assert_closed i test h
  stmt_closed indent i (choose test first second) h =
      and_closed (and_closed (and_closed (and_closed (if_closed i test h.0) (block_closed (deeper indent) (deeper_closed i) first h.1)) (else_closed i second)) (block_closed (deeper indent) (deeper_closed i) second h.2)) (line_closed i close_brace)
  stmt_closed indent i (repeat index bound most body) h =
      and_closed (and_closed (repeat_closed i index bound most h.0 h.1 h.2) (block_closed (deeper indent) (deeper_closed i) body h.3)) (line_closed i close_brace)

  pub block_closed : (indent : List ℕ) → Closed indent (λ ts. ts) → (block : Block) → IsWrittenBlock block → Closed (block_text indent block) (block_before block)
  block_closed indent i [] h = nothing
  block_closed indent i (s ⨾ block) h = and_closed (stmt_closed indent i s h.0) (block_closed indent i block h.1)

-- the tokens of bodies and items
abbrev pub vars_before : List Name → Before
vars_before [] ts = ts
vars_before (x ∷ xs) ts = VarWord ∷ listed_before name_before (x ∷ xs) (Semicolon ∷ ts)

indent_closed : Closed (deeper outermost) (λ ts. ts)
indent_closed = deeper_closed nothing

vars_closed : (names : List Name) → All IsName names → Closed (vars_text names) (vars_before names)
vars_closed [] h = nothing
vars_closed (x ∷ xs) h =
    line_closed indent_closed (closing (and_opened var_word (names_opened (x ∷ xs) h)) semicolon (λ rest. refl))

abbrev pub body_before : Body → Before
body_before body ts =
    vars_before body.vars (block_before body.block (ReturnWord ∷ operand_before body.output (Semicolon ∷ CloseBrace ∷ ts)))

return_closed : (o : Operand) → IsWrittenOperand o → Closed (line (deeper outermost) (codes "return " ++ operand_text o ++ codes ";")) (λ ts. ReturnWord ∷ operand_before o (Semicolon ∷ ts))
return_closed o h =
    line_closed indent_closed (closing (and_opened return_word (operand_opened o h)) semicolon (λ rest. refl))

body_closed : (body : Body) → IsWrittenBody body → Closed (body_text body) (body_before body)
body_closed body h =
    and_closed (and_closed (and_closed (vars_closed body.vars h.0) (block_closed (deeper outermost) indent_closed body.block h.1)) (return_closed body.output h.2)) (line_closed nothing close_brace)

abbrev pub item_before : Item → Before
item_before (outside f arity) ts = OutsideWord ∷ Named f ∷ OpenParen ∷ lit_before arity (CloseParen ∷ Semicolon ∷ ts)
item_before (helper f params body) ts =
    HelperWord ∷ Named f ∷ OpenParen ∷ listed_before name_before params (CloseParen ∷ OpenBrace ∷ body_before body ts)
item_before (entry f params body) ts =
    EntryWord ∷ Named f ∷ OpenParen ∷ listed_before param_before params (CloseParen ∷ OpenBrace ∷ body_before body ts)

pub item_closed : (item : Item) → IsWrittenItem item → Closed (item_text item) (item_before item)
item_closed (outside f arity) h =
    line_closed nothing (closing (and_opened (closing (and_opened outside_word (name_opened f h.0)) open_paren (λ rest. refl)) (count_is_opened arity h.1)) close_call (λ rest. refl))
item_closed (helper f params body) h =
    and_closed (line_closed nothing (closing (and_opened (closing (and_opened helper_word (name_opened f h.0)) open_paren (λ rest. refl)) (names_opened params h.1)) close_params (λ rest. refl))) (body_closed body h.2)
item_closed (entry f params body) h =
    and_closed (line_closed nothing (closing (and_opened (closing (and_opened entry_word (name_opened f h.0)) open_paren (λ rest. refl)) (listed_opened param_text param_before IsWrittenParam param_opened params h.1)) close_params (λ rest. refl))) (body_closed body h.2)

abbrev pub program_before : List Item → Before
program_before [] ts = ts
program_before (item ∷ items) ts = item_before item (program_before items ts)

pub program_closed : (items : List Item) → IsWritten items → Closed (canonical items) (program_before items)
program_closed [] h = nothing
program_closed (item ∷ items) h =
    and_closed (item_closed item (All-head IsWrittenItem item items h)) (program_closed items (All-tail IsWrittenItem item items h))
