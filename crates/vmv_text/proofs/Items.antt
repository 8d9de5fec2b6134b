-- Bodies, items and programs.
use Rattle.std.proofs.Common.{true, false, ◌≡◌, inl, ℤ, pos, List, [], ◌∷◌, ◌++◌, Some, None, Result, Ok, Err, refl, sym, ◌∙◌, ap, subst, drop, append-nil, append_assoc}
use Rattle.std.proofs.lemmas.List.{map-append}
use Rattle.vmv_tree.specs.declared.name.Name.{Name}
use Rattle.vmv_tree.specs.declared.tree.Operand.{Operand}
use Rattle.vmv_tree.specs.declared.tree.Operand.TheVariants.{Lit}
use Rattle.vmv_tree.specs.declared.tree.Param.{Param}
use Rattle.vmv_tree.specs.declared.tree.Item.{Item as CodeItem}
use Rattle.vmv_tree.specs.declared.deep.ItemCounts.{ItemCounts}
use Rattle.vmv_tree.specs.declared.deep.DeepProcedure.{DeepProcedure}
use Rattle.vmv_tree.specs.declared.deep.DeepProgram.{DeepProgram}
use Rattle.vmv_tree.specs.Deep.{HasCounts, IsDeepProgram}
use Rattle.vmv_tree.specs.Tree.{Block, [], Body, Item, outside, helper, entry}
use Rattle.vmv_tree.specs.View.{item_of, items_of}
use Rattle.vmv_text.specs.declared.token.Token.{Token}
use Rattle.vmv_text.specs.declared.token.Token.TheVariants.{Named, Number, VarWord, ReturnWord, OutsideWord, HelperWord, EntryWord, OpenParen, CloseParen, OpenBrace, CloseBrace, Semicolon}
use Rattle.vmv_text.specs.declared.fault.Fault.{Fault}
use Rattle.vmv_text.specs.declared.fault.Fault.TheVariants.{Syntax, Memory}
use Rattle.vmv_text.specs.Tokens.{Placed, tokens_of}
use Rattle.vmv_text.specs.Grammar.{Takes, IsName, IsOperand, IsParam, IsVars, AreStmts, IsInBody, IsBody, IsItem, IsProgram, Commas}
use Rattle.vmv_text.specs.Reading.{Meets, Any, NoVar, Ends, Stops, Fails, ReadsAs, ReadsWith, ReadsProgram, IsToken, Tests, IsSmall, CommasTo, Listed as Commaed, StmtsTo, IsItemBehind, first_of}
use Rattle.vmv_text.specs.declared.item_part.ItemPart.{ItemPart}
use Rattle.vmv_text.specs.declared.item_part.ItemPart.TheVariants as part
use Rattle.vmv_text.specs.declared.item_part.Parsed.TheVariants as parsed
use Rattle.vmv_text.specs.Parts.{IsItemPart, IsParsed}
use Rattle.vmv_text.proofs.OneTree.{stmts_no_var}
use Rattle.vmv_text.proofs.Steps.{Then, Along, Open, Follows, any, same, onward, step, token_taken, first_skipped, meets_lacks, meets_from, joined, split}
use Rattle.vmv_text.proofs.Single.{meets_first, one_stops}
use Rattle.vmv_text.proofs.Faulty.{tokens_of-append}

-- variables that are declared, and none
vars_made : (xs : List Name) (us rest : List Token) → CommasTo Semicolon IsName xs us rest → IsVars xs (VarWord ∷ us) rest
vars_made [] us rest k = absurd k
vars_made (x ∷ xs) us rest k = (us, refl, k)

vars_parts : (xs : List Name) (us rest : List Token) → NoVar rest → IsVars xs (VarWord ∷ us) rest → (ys : List Name) × CommasTo Semicolon IsName ys us rest
vars_parts [] us rest ok k = absurd (ok us (sym k))
vars_parts (x ∷ xs) us rest ok k =
    let here : k.0 ≡ us = cc k.1 in
    (x ∷ xs, subst (λ t. Commas IsName (x ∷ xs) t (Semicolon ∷ rest)) here k.2)

pub vars-declared : (old new : List Placed) → Tests VarWord true old new → Along IsVars NoVar (λ (xs : List Name). xs) old (CommasTo Semicolon IsName) new
vars-declared old new e =
    token_taken IsVars NoVar (λ (xs : List Name). xs) (CommasTo Semicolon IsName) VarWord e.0 old new e.1 vars_made vars_parts

vars_absent : (now : List Placed) → NoVar (tokens_of now) → (xs : List Name) (us rest : List Token) → Meets now us → IsVars xs us rest → rest ≡ us
vars_absent now none [] us rest m k = sym k
vars_absent now none (x ∷ xs) us rest m k = absurd (meets_lacks VarWord now us none m k.0 k.1)

pub vars-absent : (old now : List Placed) → Tests VarWord false old now → Ends IsVars NoVar [] old now
vars-absent old now e =
    subst (λ t. Ends IsVars NoVar [] old t) (sym e.1)
    (record { used = []; place = refl; made = λ us. refl; only = λ xs us rest m ok k. vars_absent old e.0 xs us rest m k })

-- what may follow anything may follow where no `var` does
pub unvaried : (result : Result (List Name) Fault) (old new : List Placed) → ReadsAs (λ (x : List Name). x) (CommasTo Semicolon IsName) Any result old new → ReadsAs (λ (x : List Name). x) (CommasTo Semicolon IsName) NoVar result old new
unvaried (Ok x) old new s = record { used = s.used; place = s.place; made = s.made; only = λ y us rest m ok k. s.only y us rest m tt k }
unvaried (Err Memory) old new s = tt
unvaried (Err Syntax) old new s =
    record { used = s.used; place = s.place; some = s.some; more = s.more; goes_on = s.goes_on; shut = λ y us rest m ok k. s.shut y us rest m tt k }

pub open_vars : Open IsVars
open_vars = record { some = []; more = []; goes_on = λ rest. refl }

-- a body
abbrev pub body_from : Unit {0} × (List Name × (Block × (Operand × (Unit {0} × Unit {0})))) → Body
body_from p = record { vars = p.1.0; block = p.1.1.0; output = p.1.1.1.0 }

body_made : (p : Unit {0} × (List Name × (Block × (Operand × (Unit {0} × Unit {0}))))) (us rest : List Token)
    → Then (IsToken OpenBrace) (Then IsVars (Then (StmtsTo ReturnWord) (Then IsOperand (Then (IsToken Semicolon) (IsToken CloseBrace))))) p us rest → IsBody (body_from p) us rest
unfolding IsInBody
body_made p us rest k =
    let vars = k.second in
    let stmts = vars.second in
    let out = stmts.second in
    let end = out.second in
    (k.mid, k.first, (vars.mid, stmts.mid, vars.first, stmts.first, subst (λ t. IsOperand p.1.1.1.0 stmts.mid t) (end.first ∙ ap (λ t. Semicolon ∷ t) end.second) out.first))

body_parts : (b : Body) (us rest : List Token) → IsBody b us rest
    → (p : Unit {0} × (List Name × (Block × (Operand × (Unit {0} × Unit {0}))))) × Then (IsToken OpenBrace) (Then IsVars (Then (StmtsTo ReturnWord) (Then IsOperand (Then (IsToken Semicolon) (IsToken CloseBrace))))) p us rest
unfolding IsInBody
body_parts b us rest h = (
  (tt, (b.vars, (b.block, (b.output, (tt, tt))))),
  record {
    mid = h.0;
    first = h.1;
    second = record {
      mid = h.2.0;
      first = h.2.2;
      second = record {
        mid = h.2.1;
        first = h.2.3;
        second = record { mid = Semicolon ∷ CloseBrace ∷ rest; first = h.2.4; second = record { mid = CloseBrace ∷ rest; first = refl; second = refl } };
      };
    };
  },
)

pub body-parts : (now : List Placed) → Along IsBody Any body_from now (Then (IsToken OpenBrace) (Then IsVars (Then (StmtsTo ReturnWord) (Then IsOperand (Then (IsToken Semicolon) (IsToken CloseBrace)))))) now
body-parts now =
    same IsBody Any body_from now (Then (IsToken OpenBrace) (Then IsVars (Then (StmtsTo ReturnWord) (Then IsOperand (Then (IsToken Semicolon) (IsToken CloseBrace)))))) body_made (λ b us rest m ok k. body_parts b us rest k)

-- behind the variables stands no `var`
pub no_var_next : {Y : Type 0} (g : Y → Takes) → Follows Any NoVar (Then (StmtsTo ReturnWord) g)
no_var_next g p q rest ok k x e = stmts_no_var p.0 q k.mid x k.first e

pub open_body : Open IsBody
unfolding IsInBody AreStmts
open_body = record {
  some = record { vars = []; block = []; output = Lit (pos 0) };
  more = OpenBrace ∷ ReturnWord ∷ Number 0 ∷ Semicolon ∷ CloseBrace ∷ [];
  goes_on = λ rest. (ReturnWord ∷ Number 0 ∷ Semicolon ∷ CloseBrace ∷ rest, refl, (ReturnWord ∷ Number 0 ∷ Semicolon ∷ CloseBrace ∷ rest, Number 0 ∷ Semicolon ∷ CloseBrace ∷ rest, refl, refl, inl (0, refl, refl)));
}

-- an outside function
abbrev pub outside_from : Name × (Unit {0} × (ℤ × (Unit {0} × Unit {0}))) → Item
outside_from p = outside p.0 p.1.1.0

outside_made : (p : Name × (Unit {0} × (ℤ × (Unit {0} × Unit {0})))) (us rest : List Token) → Then IsName (Then (IsToken OpenParen) (Then IsSmall (Then (IsToken CloseParen) (IsToken Semicolon)))) p us rest → IsItemBehind OutsideWord (outside_from p) us rest
unfolding IsItem
outside_made p us rest k =
    let paren = k.second in
    let small = paren.second in
    let close = small.second in
    (small.first.0, small.first.1, ap (λ t. OutsideWord ∷ t) (k.first ∙ ap (λ t. Named p.0 ∷ t) (paren.first ∙ ap (λ t. OpenParen ∷ t) (small.first.2 ∙ ap (λ t. Number small.first.0 ∷ t) (close.first ∙ ap (λ t. CloseParen ∷ t) close.second)))))

outside_parts : (item : Item) (us rest : List Token) → IsItemBehind OutsideWord item us rest → (p : Name × (Unit {0} × (ℤ × (Unit {0} × Unit {0})))) × Then IsName (Then (IsToken OpenParen) (Then IsSmall (Then (IsToken CloseParen) (IsToken Semicolon)))) p us rest
unfolding IsItem
outside_parts (outside f arity) us rest h = (
  (f, (tt, (arity, (tt, tt)))),
  record {
    mid = OpenParen ∷ Number h.0 ∷ CloseParen ∷ Semicolon ∷ rest;
    first = cc h.2;
    second = record {
      mid = Number h.0 ∷ CloseParen ∷ Semicolon ∷ rest;
      first = refl;
      second = record { mid = CloseParen ∷ Semicolon ∷ rest; first = (h.0, h.1, refl); second = record { mid = Semicolon ∷ rest; first = refl; second = refl } };
    };
  },
)
outside_parts (helper f params body) us rest h = absurd (cc h.2)
outside_parts (entry f params body) us rest h = absurd (cc h.2)

pub outside-parts : (now : List Placed) → Along (IsItemBehind OutsideWord) Any outside_from now (Then IsName (Then (IsToken OpenParen) (Then IsSmall (Then (IsToken CloseParen) (IsToken Semicolon))))) now
outside-parts now =
    same (IsItemBehind OutsideWord) Any outside_from now (Then IsName (Then (IsToken OpenParen) (Then IsSmall (Then (IsToken CloseParen) (IsToken Semicolon))))) outside_made (λ item us rest m ok k. outside_parts item us rest k)

-- a helper
abbrev pub helper_from : Name × (Unit {0} × (List Name × Body)) → Item
helper_from p = helper p.0 p.1.1.0 p.1.1.1

helper_made : (p : Name × (Unit {0} × (List Name × Body))) (us rest : List Token) → Then IsName (Then (IsToken OpenParen) (Then (Commaed IsName) IsBody)) p us rest → IsItemBehind HelperWord (helper_from p) us rest
unfolding IsItem
helper_made p us rest k =
    (k.second.mid, k.second.second.mid, ap (λ t. HelperWord ∷ t) (k.first ∙ ap (λ t. Named p.0 ∷ t) k.second.first), k.second.second.first, k.second.second.second)

helper_parts : (item : Item) (us rest : List Token) → IsItemBehind HelperWord item us rest → (p : Name × (Unit {0} × (List Name × Body))) × Then IsName (Then (IsToken OpenParen) (Then (Commaed IsName) IsBody)) p us rest
unfolding IsItem
helper_parts (outside f arity) us rest h = absurd (cc h.2)
helper_parts (helper f params body) us rest h =
    ((f, (tt, (params, body))), record { mid = OpenParen ∷ h.0; first = cc h.2; second = record { mid = h.0; first = refl; second = record { mid = h.1; first = h.3; second = h.4 } } })
helper_parts (entry f params body) us rest h = absurd (cc h.2)

pub helper-parts : (now : List Placed) → Along (IsItemBehind HelperWord) Any helper_from now (Then IsName (Then (IsToken OpenParen) (Then (Commaed IsName) IsBody))) now
helper-parts now =
    same (IsItemBehind HelperWord) Any helper_from now (Then IsName (Then (IsToken OpenParen) (Then (Commaed IsName) IsBody))) helper_made (λ item us rest m ok k. helper_parts item us rest k)

-- an entry
abbrev pub entry_from : Name × (Unit {0} × (List Param × Body)) → Item
entry_from p = entry p.0 p.1.1.0 p.1.1.1

entry_made : (p : Name × (Unit {0} × (List Param × Body))) (us rest : List Token) → Then IsName (Then (IsToken OpenParen) (Then (Commaed IsParam) IsBody)) p us rest → IsItemBehind EntryWord (entry_from p) us rest
unfolding IsItem
entry_made p us rest k =
    (k.second.mid, k.second.second.mid, ap (λ t. EntryWord ∷ t) (k.first ∙ ap (λ t. Named p.0 ∷ t) k.second.first), k.second.second.first, k.second.second.second)

entry_parts : (item : Item) (us rest : List Token) → IsItemBehind EntryWord item us rest → (p : Name × (Unit {0} × (List Param × Body))) × Then IsName (Then (IsToken OpenParen) (Then (Commaed IsParam) IsBody)) p us rest
unfolding IsItem
entry_parts (outside f arity) us rest h = absurd (cc h.2)
entry_parts (helper f params body) us rest h = absurd (cc h.2)
entry_parts (entry f params body) us rest h =
    ((f, (tt, (params, body))), record { mid = OpenParen ∷ h.0; first = cc h.2; second = record { mid = h.0; first = refl; second = record { mid = h.1; first = h.3; second = h.4 } } })

pub entry-parts : (now : List Placed) → Along (IsItemBehind EntryWord) Any entry_from now (Then IsName (Then (IsToken OpenParen) (Then (Commaed IsParam) IsBody))) now
entry-parts now =
    same (IsItemBehind EntryWord) Any entry_from now (Then IsName (Then (IsToken OpenParen) (Then (Commaed IsParam) IsBody))) entry_made (λ item us rest m ok k. entry_parts item us rest k)

-- an item by its word
pub item-behind : (t : Token) (old new : List Placed) → first_of old ≡ Some t → new ≡ drop 1 old → Along IsItem Any (λ (item : Item). item) old (IsItemBehind t) new
item-behind t old new h e =
    let k = first_skipped t old new h e in
    token_taken IsItem Any (λ (item : Item). item) (IsItemBehind t) t k.0 old new k.1 (λ item us rest g. g) (λ item us rest ok g. (item, g))

open_item : Open IsItem
unfolding IsItem
open_item = record {
  some = outside (97 ∷ []) (pos 0);
  more = OutsideWord ∷ Named (97 ∷ []) ∷ OpenParen ∷ Number 0 ∷ CloseParen ∷ Semicolon ∷ [];
  goes_on = λ rest. (0, refl, refl);
}

no_item_here : (now : List Placed) → (first_of now ≡ Some OutsideWord → ⊥) → (first_of now ≡ Some HelperWord → ⊥) → (first_of now ≡ Some EntryWord → ⊥) → (item : Item) (us rest : List Token) → Meets now us → IsItem item us rest → ⊥
unfolding IsItem
no_item_here now f g h (outside x arity) us rest m e = f (meets_first OutsideWord now us _ m e.2)
no_item_here now f g h (helper x params body) us rest m e = g (meets_first HelperWord now us _ m e.2)
no_item_here now f g h (entry x params body) us rest m e = h (meets_first EntryWord now us _ m e.2)

pub item_stops : (now : List Placed) → (first_of now ≡ Some OutsideWord → ⊥) → (first_of now ≡ Some HelperWord → ⊥) → (first_of now ≡ Some EntryWord → ⊥) → Stops IsItem Any now now
item_stops now f g h = one_stops IsItem Any now open_item (λ item us rest m ok e. no_item_here now f g h item us rest m e)

-- items to the end of the text
abbrev pub AreItems : List Item → Takes
AreItems items ts rest = IsProgram items ts

-- Items in the reading: these stand before.
pub record Listing (start : List Placed) (items : List Item) (now : List Placed) : Type 0 where
  pub along : Along AreItems Any (λ (more : List Item). items ++ more) start AreItems now

pub listing_start : (start : List Placed) → Listing start [] start
listing_start start = record { along = same AreItems Any (λ (more : List Item). more) start AreItems (λ b us rest k. k) (λ b us rest m ok k. (b, k)) }

items_made : (p : Item × List Item) (us rest : List Token) → Then IsItem AreItems p us rest → AreItems (p.0 ∷ p.1) us rest
unfolding IsProgram
items_made p us rest k = (k.mid, k.first, k.second)

items_parts : (p : Placed) (now : List Placed) (items : List Item) (us rest : List Token) → Meets (p ∷ now) us → AreItems items us rest → (p : Item × List Item) × Then IsItem AreItems p us rest
unfolding IsProgram
items_parts p now [] us rest m k = absurd (cc (m.1, k))
items_parts p now (item ∷ items) us rest m k = ((item, items), record { mid = k.0; first = k.1; second = k.2 })

pub items_first : (now : List Placed) → (first_of now ≡ None → ⊥) → (items : List Item) (us rest : List Token) → Meets now us → AreItems items us rest → (p : Item × List Item) × Then IsItem AreItems p us rest
items_first [] some items us rest m k = absurd (some refl)
items_first (p ∷ now) some items us rest m k = items_parts p now items us rest m k

items-parts : (now : List Placed) → (first_of now ≡ None → ⊥) → Along AreItems Any (λ (p : Item × List Item). p.0 ∷ p.1) now (Then IsItem AreItems) now
items-parts now some =
    same AreItems Any (λ (p : Item × List Item). p.0 ∷ p.1) now (Then IsItem AreItems) items_made (λ items us rest m ok k. items_first now some items us rest m k)

pub listing_more : (start : List Placed) (xs : List Item) (item : Item) (now new : List Placed) → Listing start xs now → (first_of now ≡ None → ⊥) → Ends IsItem Any item now new → Listing start (xs ++ item ∷ []) new
listing_more start xs item now new r some e =
    let k = onward AreItems AreItems (Then IsItem AreItems) Any (λ (more : List Item). xs ++ more) (λ (p : Item × List Item). p.0 ∷ p.1) start now now r.along (items-parts now some) in
    let h = step AreItems IsItem AreItems Any Any (λ (p : Item × List Item). xs ++ (p.0 ∷ p.1)) item start now new k e (any Any AreItems) in
    let pushed : (λ (more : List Item). xs ++ (item ∷ more)) ≡ (λ (more : List Item). (xs ++ item ∷ []) ++ more) = λ i more. shifted xs item more i in
    record { along = subst (λ (b : List Item → List Item). Along AreItems Any b start AreItems new) pushed h }
  where
    shifted : (xs : List Item) (item : Item) (more : List Item) → xs ++ (item ∷ more) ≡ (xs ++ item ∷ []) ++ more
    shifted [] item more = refl
    shifted (x ∷ xs) item more = ap (λ ys. x ∷ ys) (shifted xs item more)

-- the end of the text
pub listing_end : (start : List Placed) (items : List Item) (now : List Placed) → Listing start items now → first_of now ≡ None → IsProgram items (tokens_of start)
unfolding IsProgram
listing_end start items [] r e =
    let whole = r.along.made [] [] [] refl in
    let all : tokens_of r.along.used ++ [] ≡ tokens_of start = append-nil (tokens_of r.along.used) ∙ ap tokens_of (sym (append-nil r.along.used) ∙ sym r.along.place) in
    subst (λ t. IsProgram items t) all (subst (λ p. IsProgram p (tokens_of r.along.used ++ [])) (append-nil items) whole)
listing_end start items (p ∷ now) r e = absurd (cc e)

-- an item that isn't one
pub listing_failed : {A : Type 0} (says : A → List Item → Type 0) (fault : Fault) (start : List Placed) (items : List Item) (now new : List Placed) → Listing start items now → (first_of now ≡ None → ⊥)
    → Fails IsItem Any fault now new → ReadsProgram says (Err fault) start new
unfolding IsProgram
listing_failed says Memory start items now new r some s = tt
listing_failed says Syntax start items now new r some s = record {
  used = r.along.used ++ s.used;
  place = split start r.along.used now s.used new r.along.place s.place;
  program = items ++ (s.some ∷ []);
  more = s.more;
  goes_on =
      let one : IsProgram (s.some ∷ []) (tokens_of s.used ++ s.more) = ([], subst (λ t. IsItem s.some (tokens_of s.used ++ t) []) (append-nil s.more) (s.goes_on []), refl) in
      subst (λ t. IsProgram (items ++ (s.some ∷ [])) t) (sym (joined r.along.used s.used s.more)) (r.along.made (s.some ∷ []) (tokens_of s.used ++ s.more) [] one);
  shut = λ ys us m k.
      let here = meets_from now s.used new us s.place m in
      let z = r.along.only ys (tokens_of s.used ++ us) [] here tt (subst (λ t. IsProgram ys t) (joined r.along.used s.used us) k) in
      let h = items_first now some z.0 (tokens_of s.used ++ us) [] here z.1 in
      s.shut h.0.0 us h.1.mid m tt h.1.first;
}

-- items that are left, behind these
pub listing_below : (start : List Placed) (items below : List Item) (now : List Placed) → Listing start items now → IsProgram below (tokens_of now) → IsProgram (items ++ below) (tokens_of start)
listing_below start items below now r h =
    let whole = r.along.made below (tokens_of now) [] h in
    subst (λ t. IsProgram (items ++ below) t) (sym (ap tokens_of r.along.place ∙ tokens_of-append r.along.used now)) whole

-- and where reading them stops
pub listing_stopped : {A B : Type 0} (says : A → List Item → Type 0) (says' : B → List Item → Type 0) (fault : Fault) (start : List Placed) (items : List Item) (now new : List Placed) → Listing start items now
    → ReadsProgram says (Err fault) now new → ReadsProgram says' (Err fault) start new
listing_stopped says says' Memory start items now new r s = tt
listing_stopped says says' Syntax start items now new r s = record {
  used = r.along.used ++ s.used;
  place = split start r.along.used now s.used new r.along.place s.place;
  program = items ++ s.program;
  more = s.more;
  goes_on = subst (λ t. IsProgram (items ++ s.program) t) (sym (joined r.along.used s.used s.more)) (r.along.made s.program (tokens_of s.used ++ s.more) [] s.goes_on);
  shut = λ ys us m k.
      let here = meets_from now s.used new us s.place m in
      let z = r.along.only ys (tokens_of s.used ++ us) [] here tt (subst (λ t. IsProgram ys t) (joined r.along.used s.used us) k) in
      s.shut z.0 us m z.1;
}

-- Items in the reading, with what the last says of itself, and how many there are of each kind.
pub record Listed (start : List Placed) (trees : List CodeItem) (counts : ItemCounts) (now : List Placed) : Type 0 where
  pub listing : Listing start (items_of trees) now
  pub counts_are : HasCounts counts (items_of trees)

pub listed_start : (start : List Placed) (trees : List CodeItem) (counts : ItemCounts) → trees ≡ [] → HasCounts counts [] → Listed start trees counts start
listed_start start trees counts e h = record {
  listing = subst (λ t. Listing start (items_of t) start) (sym e) (listing_start start);
  counts_are = subst (λ t. HasCounts counts (items_of t)) (sym e) h;
}

-- one more with a tree
pub listed_more : (start : List Placed) (trees : List CodeItem) (item : CodeItem) (counts all : ItemCounts) (now new : List Placed) → Listed start trees counts now → (first_of now ≡ None → ⊥)
    → ReadsWith IsItemPart IsItem Any (Ok (part.Tree item)) now new → ((items : List Item) (x : Item) → HasCounts counts items → IsItemPart (part.Tree item) x → HasCounts all (items ++ x ∷ []))
    → Listed start (trees ++ item ∷ []) all new
listed_more start trees item counts all now new r some h f =
    let e = subst (λ x. Ends IsItem Any x now new) (sym h.1) h.2 in
    let joined : items_of trees ++ (item_of item ∷ []) ≡ items_of (trees ++ item ∷ []) = sym (map-append item_of trees (item ∷ [])) in
    record {
      listing = subst (λ xs. Listing start xs new) joined (listing_more start (items_of trees) (item_of item) now new r.listing some e);
      counts_are = subst (λ xs. HasCounts all xs) joined (f (items_of trees) (item_of item) r.counts_are refl);
    }

-- one without, and those below it
pub listed_deep : (start : List Placed) (trees : List CodeItem) (deep : DeepProcedure) (counts all whole : ItemCounts) (now mid new : List Placed) (told : DeepProgram) → told ≡ record { above = trees; deep = deep; counts = whole } → Listed start trees counts now
    → (first_of now ≡ None → ⊥)
    → ReadsWith IsItemPart IsItem Any (Ok (part.Deep deep)) now mid → ((items : List Item) (x : Item) → HasCounts counts items → IsItemPart (part.Deep deep) x → HasCounts all (items ++ x ∷ []))
    → ReadsProgram (λ (w : ItemCounts) (items : List Item). (above : List Item) → HasCounts all above → HasCounts w (above ++ items)) (Ok whole) mid new
    → ReadsProgram IsParsed (Ok (parsed.Deep told)) start new
listed_deep start trees deep counts all whole now mid new told is r some h f k =
    let items = items_of trees in
    let item = h.0 in
    let below = k.0 in
    let grown = listing_more start items item now mid r.listing some h.2 in
    let program = listing_below start (items ++ item ∷ []) below mid grown k.2 in
    let same : (items ++ item ∷ []) ++ below ≡ items ++ (item ∷ below) = append_assoc items (item ∷ []) below in
    let counted = k.1 (items ++ item ∷ []) (f items item r.counts_are h.1) in (
      (items ++ item ∷ []) ++ below,
      subst (λ t. IsDeepProgram t ((items ++ item ∷ []) ++ below)) (sym is)
          (record { item = item; below = below; whole = same; deep = h.1; counts = counted }),
      program,
    )

pub deep_stopped : (start : List Placed) (trees : List CodeItem) (deep : DeepProcedure) (counts all : ItemCounts) (fault : Fault) (now mid new : List Placed) → Listed start trees counts now → (first_of now ≡ None → ⊥)
    → ReadsWith IsItemPart IsItem Any (Ok (part.Deep deep)) now mid
    → ReadsProgram (λ (w : ItemCounts) (items : List Item). (above : List Item) → HasCounts all above → HasCounts w (above ++ items)) (Err fault) mid new
    → ReadsProgram IsParsed (Err fault) start new
deep_stopped start trees deep counts all fault now mid new r some h k =
    listing_stopped (λ (w : ItemCounts) (items : List Item). (above : List Item) → HasCounts all above → HasCounts w (above ++ items)) IsParsed fault start (items_of trees ++ h.0 ∷ []) mid new (listing_more start (items_of trees) h.0 now mid r.listing some h.2) k

-- items that are only counted, behind those that were counted before
pub record Below (start : List Placed) (before after : ItemCounts) (now : List Placed) : Type 0 where
  pub items : List Item
  pub listing : Listing start items now
  pub counts_are : (above : List Item) → HasCounts before above → HasCounts after (above ++ items)

pub below_start : (start : List Placed) (counts : ItemCounts) → Below start counts counts start
below_start start counts = record { items = []; listing = listing_start start; counts_are = λ above h. subst (λ xs. HasCounts counts xs) (sym (append-nil above)) h }

pub below_more : (start : List Placed) (before after all : ItemCounts) (item : ItemPart) (now new : List Placed) → Below start before after now → (first_of now ≡ None → ⊥)
    → ReadsWith IsItemPart IsItem Any (Ok item) now new → ((items : List Item) (x : Item) → HasCounts after items → IsItemPart item x → HasCounts all (items ++ x ∷ []))
    → Below start before all new
below_more start before after all item now new r some h f = record {
  items = r.items ++ h.0 ∷ [];
  listing = listing_more start r.items h.0 now new r.listing some h.2;
  counts_are = λ above k.
      subst (λ xs. HasCounts all xs) (append_assoc above r.items (h.0 ∷ [])) (f (above ++ r.items) h.0 (r.counts_are above k) h.1);
}

pub below_end : (start : List Placed) (before after : ItemCounts) (now : List Placed) → Below start before after now → first_of now ≡ None
    → ReadsProgram (λ (w : ItemCounts) (items : List Item). (above : List Item) → HasCounts before above → HasCounts w (above ++ items)) (Ok after) start now
below_end start before after now r e = (r.items, r.counts_are, listing_end start r.items now r.listing e)

-- the same of an item as it was read
pub listed_tree : (start : List Placed) (trees : List CodeItem) (item : CodeItem) (counts all : ItemCounts) (now new : List Placed) (whole : ItemPart) → whole ≡ part.Tree item → Listed start trees counts now → (first_of now ≡ None → ⊥)
    → ReadsWith IsItemPart IsItem Any (Ok whole) now new → ((items : List Item) (x : Item) → HasCounts counts items → IsItemPart whole x → HasCounts all (items ++ x ∷ [])) → Listed start (trees ++ item ∷ []) all new
listed_tree start trees item counts all now new whole is r some h f =
    listed_more start trees item counts all now new r some (subst (λ (p : ItemPart). ReadsWith IsItemPart IsItem Any (Ok p) now new) is h)
    (subst (λ (p : ItemPart). (items : List Item) (x : Item) → HasCounts counts items → IsItemPart p x → HasCounts all (items ++ x ∷ [])) is f)

pub listed_told : (start : List Placed) (trees : List CodeItem) (deep : DeepProcedure) (counts all whole : ItemCounts) (now mid new : List Placed) (told : DeepProgram) (read : ItemPart) → read ≡ part.Deep deep → told ≡ record { above = trees; deep = deep; counts = whole }
    → Listed start trees counts now → (first_of now ≡ None → ⊥)
    → ReadsWith IsItemPart IsItem Any (Ok read) now mid → ((items : List Item) (x : Item) → HasCounts counts items → IsItemPart read x → HasCounts all (items ++ x ∷ []))
    → ReadsProgram (λ (w : ItemCounts) (items : List Item). (above : List Item) → HasCounts all above → HasCounts w (above ++ items)) (Ok whole) mid new
    → ReadsProgram IsParsed (Ok (parsed.Deep told)) start new
listed_told start trees deep counts all whole now mid new told read is same r some h f k =
    listed_deep start trees deep counts all whole now mid new told same r some (subst (λ (p : ItemPart). ReadsWith IsItemPart IsItem Any (Ok p) now mid) is h)
    (subst (λ (p : ItemPart). (items : List Item) (x : Item) → HasCounts counts items → IsItemPart p x → HasCounts all (items ++ x ∷ [])) is f) k

pub told_stopped : (start : List Placed) (trees : List CodeItem) (deep : DeepProcedure) (counts all : ItemCounts) (fault : Fault) (now mid new : List Placed) (read : ItemPart) → read ≡ part.Deep deep → Listed start trees counts now → (first_of now ≡ None → ⊥)
    → ReadsWith IsItemPart IsItem Any (Ok read) now mid
    → ReadsProgram (λ (w : ItemCounts) (items : List Item). (above : List Item) → HasCounts all above → HasCounts w (above ++ items)) (Err fault) mid new
    → ReadsProgram IsParsed (Err fault) start new
told_stopped start trees deep counts all fault now mid new read is r some h k =
    deep_stopped start trees deep counts all fault now mid new r some (subst (λ (p : ItemPart). ReadsWith IsItemPart IsItem Any (Ok p) now mid) is h) k
