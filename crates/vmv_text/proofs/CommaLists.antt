-- Lists with commas, and a parameter.
use Rattle.std.proofs.Common.{true, false, ◌≡◌, ℕ, ℤ, List, [], ◌∷◌, ◌++◌, Err, refl, sym, ◌∙◌, ap, subst, append_assoc}
use Rattle.vmv_tree.specs.declared.name.Name.{Name}
use Rattle.vmv_tree.specs.declared.tree.Param.{Param}
use Rattle.vmv_text.specs.declared.token.Token.{Token}
use Rattle.vmv_text.specs.declared.token.Token.TheVariants.{Named, Comma, CloseParen, Colon, Dots}
use Rattle.vmv_text.specs.declared.fault.Fault.{Fault}
use Rattle.vmv_text.specs.Tokens.{Placed, tokens_of}
use Rattle.vmv_text.specs.Grammar.{Takes, IsName, IsLit, IsParam, Commas}
use Rattle.vmv_text.specs.Reading.{Meets, Any, Lacks, Ends, ReadsAs, Reads, IsToken, Tests, CommasTo, Listed}
use Rattle.vmv_text.proofs.OneBlock.{NeverCloses, commas_close}
use Rattle.vmv_text.proofs.Steps.{Then, Along, Open, any, same, onward, step, done, failed, failed_last, token_taken, meets_lacks}

-- what a list has behind one of it: the last token, or a comma and more
abbrev pub More : {A : Type 0} → Token → (A → Takes) → List A → Takes
More last one [] ts rest = ts ≡ last ∷ rest
More last one (x ∷ xs) ts rest = (mid : List Token) × (ts ≡ Comma ∷ mid) × Commas one (x ∷ xs) mid (last ∷ rest)

commas_of : {A : Type 0} (last : Token) (one : A → Takes) (x : A) (xs : List A) (us rest : List Token) → Then one (More last one) (x, xs) us rest → CommasTo last one (x ∷ xs) us rest
commas_of last one x [] us rest k = subst (λ t. one x us t) k.second k.first
commas_of last one x (y ∷ xs) us rest k = (k.second.0, subst (λ t. one x us t) k.second.1 k.first, k.second.2)

of_commas : {A : Type 0} (last : Token) (one : A → Takes) (xs : List A) (us rest : List Token) → CommasTo last one xs us rest → (p : A × List A) × Then one (More last one) p us rest
of_commas last one [] us rest k = absurd k
of_commas last one (x ∷ []) us rest k = ((x, []), record { mid = last ∷ rest; first = k; second = refl })
of_commas last one (x ∷ y ∷ xs) us rest k = ((x, y ∷ xs), record { mid = Comma ∷ k.0; first = k.1; second = (k.0, refl, k.2) })

pub commas-parts : {A : Type 0} (last : Token) (one : A → Takes) (now : List Placed) → Along (CommasTo last one) Any (λ (p : A × List A). p.0 ∷ p.1) now (Then one (More last one)) now
commas-parts {A} last one now =
    same (CommasTo last one) Any (λ (p : A × List A). p.0 ∷ p.1) now (Then one (More last one))
    (λ p us rest k. commas_of last one p.0 p.1 us rest k) (λ xs us rest m ok k. of_commas last one xs us rest k)

pub open_more : {A : Type 0} (last : Token) (one : A → Takes) → Open (More last one)
open_more last one = record { some = []; more = last ∷ []; goes_on = λ rest. refl }

-- behind a comma
more_comma : {A : Type 0} (last : Token) (one : A → Takes) (xs : List A) (us rest : List Token) → CommasTo last one xs us rest → More last one xs (Comma ∷ us) rest
more_comma last one [] us rest k = absurd k
more_comma last one (x ∷ xs) us rest k = (us, refl, k)

comma_more : {A : Type 0} (last : Token) (one : A → Takes) → (last ≡ Comma → ⊥) → (xs : List A) (us rest : List Token) → More last one xs (Comma ∷ us) rest → (ys : List A) × CommasTo last one ys us rest
comma_more last one other [] us rest k = absurd (other (cc k))
comma_more last one other (x ∷ xs) us rest k =
    let here : k.0 ≡ us = cc k.1 in
    (x ∷ xs, subst (λ t. Commas one (x ∷ xs) t (last ∷ rest)) here k.2)

more-comma : {A : Type 0} (last : Token) (one : A → Takes) → (last ≡ Comma → ⊥) → (from : List ℕ) (old new : List Placed) → old ≡ record { token = Comma; from = from } ∷ new
    → Along (More last one) Any (λ (xs : List A). xs) old (CommasTo last one) new
more-comma {A} last one other from old new e =
    token_taken (More last one) Any (λ (xs : List A). xs) (CommasTo last one) Comma from old new e (more_comma last one) (λ xs us rest ok k. comma_more last one other xs us rest k)

-- behind no comma
more_last : {A : Type 0} (last : Token) (one : A → Takes) (now : List Placed) → Lacks Comma (tokens_of now) → (xs : List A) (us rest : List Token) → Meets now us → More last one xs us rest → (u : Unit {0}) × IsToken last u us rest
more_last last one now none [] us rest m k = (tt, k)
more_last last one now none (x ∷ xs) us rest m k = absurd (meets_lacks Comma now us none m k.0 k.1)

more-last : {A : Type 0} (last : Token) (one : A → Takes) (now : List Placed) → Lacks Comma (tokens_of now) → Along (More last one) Any (λ (u : Unit {0}). []) now (IsToken last) now
more-last {A} last one now none =
    same (More last one) Any (λ (u : Unit {0}). []) now (IsToken last) (λ u us rest k. k) (λ xs us rest m ok k. more_last last one now none xs us rest m k)

-- A list in the reading: these were taken, each with its comma.
pub record Reading {A : Type 0} (last : Token) (one : A → Takes) (start : List Placed) (xs : List A) (now : List Placed) : Type 0 where
  pub along : Along (CommasTo last one) Any (λ (ys : List A). xs ++ ys) start (CommasTo last one) now

pub reading_start : {A : Type 0} (last : Token) (one : A → Takes) (start : List Placed) → Reading last one start [] start
reading_start {A} last one start = record { along = same (CommasTo last one) Any (λ (ys : List A). ys) start (CommasTo last one) (λ ys us rest k. k) (λ ys us rest m ok k. (ys, k)) }

pub reading_parts : {A : Type 0} (last : Token) (one : A → Takes) (start : List Placed) (xs : List A) (now : List Placed) → Reading last one start xs now
    → Along (CommasTo last one) Any (λ (p : A × List A). xs ++ (p.0 ∷ p.1)) start (Then one (More last one)) now
reading_parts {A} last one start xs now r =
    onward (CommasTo last one) (CommasTo last one) (Then one (More last one)) Any (λ (ys : List A). xs ++ ys) (λ (p : A × List A). p.0 ∷ p.1) start now now r.along (commas-parts last one now)

-- one isn't there
pub reading_failed : {A V W : Type 0} (last : Token) (one : A → Takes) (view : V → A) (view' : W → List A) (fault : Fault) (start : List Placed) (xs : List A) (now new : List Placed) → Reading last one start xs now
    → ReadsAs view one Any (Err fault) now new → ReadsAs view' (CommasTo last one) Any (Err fault) start new
reading_failed {A} last one view view' fault start xs now new r e =
    failed (CommasTo last one) one (More last one) Any Any (λ (p : A × List A). xs ++ (p.0 ∷ p.1)) view view' fault start now new
    (reading_parts last one start xs now r) e (any Any (More last one)) (open_more last one)

behind_one : {A : Type 0} (last : Token) (one : A → Takes) (start : List Placed) (xs : List A) (x : A) (now mid : List Placed) → Reading last one start xs now → Ends one Any x now mid
    → Along (CommasTo last one) Any (λ (ys : List A). xs ++ (x ∷ ys)) start (More last one) mid
behind_one {A} last one start xs x now mid r e =
    step (CommasTo last one) one (More last one) Any Any (λ (p : A × List A). xs ++ (p.0 ∷ p.1)) x start now mid (reading_parts last one start xs now r) e (any Any (More last one))

-- one and a comma
pub reading_more : {A : Type 0} (last : Token) (one : A → Takes) → (last ≡ Comma → ⊥) → (start : List Placed) (xs : List A) (x : A) (now mid new : List Placed)
    → Reading last one start xs now → Ends one Any x now mid → Tests Comma true mid new → Reading last one start (xs ++ x ∷ []) new
reading_more {A} last one other start xs x now mid new r e c =
    let h = onward (CommasTo last one) (More last one) (CommasTo last one) Any (λ (ys : List A). xs ++ (x ∷ ys)) (λ (ys : List A). ys) start mid new (behind_one last one start xs x now mid r e) (more-comma last one other c.0 mid new c.1) in
    let reordered : (λ (ys : List A). xs ++ (x ∷ ys)) ≡ (λ (ys : List A). (xs ++ x ∷ []) ++ ys) = λ i ys. sym (append_assoc xs (x ∷ []) ys) i in
    record { along = subst (λ (b : List A → List A). Along (CommasTo last one) Any b start (CommasTo last one) new) reordered h }

reading_last : {A : Type 0} (last : Token) (one : A → Takes) (start : List Placed) (xs : List A) (x : A) (now mid back : List Placed) → Reading last one start xs now → Ends one Any x now mid → Tests Comma false mid back
    → Along (CommasTo last one) Any (λ (u : Unit {0}). xs ++ x ∷ []) start (IsToken last) back
reading_last {A} last one start xs x now mid back r e c =
    subst (λ t. Along (CommasTo last one) Any (λ (u : Unit {0}). xs ++ x ∷ []) start (IsToken last) t) (sym c.1)
    (onward (CommasTo last one) (More last one) (IsToken last) Any (λ (ys : List A). xs ++ (x ∷ ys)) (λ (u : Unit {0}). []) start mid mid (behind_one last one start xs x now mid r e) (more-last last one mid c.0))

-- the last one, and what stands behind it or doesn't
pub reading_done : {A : Type 0} (last : Token) (one : A → Takes) (start : List Placed) (xs : List A) (x : A) (now mid back new : List Placed) → Reading last one start xs now → Ends one Any x now mid → Tests Comma false mid back
    → Ends (IsToken last) Any tt back new → Ends (CommasTo last one) Any (xs ++ x ∷ []) start new
reading_done last one start xs x now mid back new r e c k =
    done (CommasTo last one) (IsToken last) Any (λ (u : Unit {0}). xs ++ x ∷ []) tt start back new (reading_last last one start xs x now mid back r e c) k

pub reading_open : {A W : Type 0} (last : Token) (one : A → Takes) (view' : W → List A) (fault : Fault) (start : List Placed) (xs : List A) (x : A) (now mid back new : List Placed) → Reading last one start xs now → Ends one Any x now mid → Tests Comma false mid back
    → Reads (IsToken last) (Err fault) back new → ReadsAs view' (CommasTo last one) Any (Err fault) start new
reading_open last one view' fault start xs x now mid back new r e c k =
    failed_last (CommasTo last one) (IsToken last) Any (λ (u : Unit {0}). xs ++ x ∷ []) (λ (u : Unit {0}). u) view' fault start back new (reading_last last one start xs x now mid back r e c) k

-- a list in parentheses, which may be empty
listed_empty : {A : Type 0} (one : A → Takes) → NeverCloses one → (xs : List A) (us rest : List Token) → Listed one xs (CloseParen ∷ us) rest → rest ≡ us
listed_empty one never [] us rest k = cc k
listed_empty one never (x ∷ xs) us rest k = absurd (commas_close one never (x ∷ xs) (CloseParen ∷ us) (CloseParen ∷ rest) us k refl)

pub listed-none : {A : Type 0} (one : A → Takes) → NeverCloses one → (old new : List Placed) → Tests CloseParen true old new → Ends (Listed one) Any [] old new
listed-none one never old new e = record {
  used = record { token = CloseParen; from = e.0 } ∷ [];
  place = e.1;
  made = λ us. refl;
  only = λ xs us rest m ok k. listed_empty one never xs us rest k;
}

listed_some : {A : Type 0} (one : A → Takes) (xs : List A) (us rest : List Token) → CommasTo CloseParen one xs us rest → Listed one xs us rest
listed_some one [] us rest k = absurd k
listed_some one (x ∷ xs) us rest k = k

some_listed : {A : Type 0} (one : A → Takes) (now : List Placed) → Lacks CloseParen (tokens_of now) → (xs : List A) (us rest : List Token) → Meets now us → Listed one xs us rest → (ys : List A) × CommasTo CloseParen one ys us rest
some_listed one now none [] us rest m k = absurd (meets_lacks CloseParen now us none m rest k)
some_listed one now none (x ∷ xs) us rest m k = (x ∷ xs, k)

pub listed-some : {A : Type 0} (one : A → Takes) (old now : List Placed) → Tests CloseParen false old now → Along (Listed one) Any (λ (xs : List A). xs) old (CommasTo CloseParen one) now
listed-some {A} one old now e =
    subst (λ t. Along (Listed one) Any (λ (xs : List A). xs) old (CommasTo CloseParen one) t) (sym e.1)
    (same (Listed one) Any (λ (xs : List A). xs) old (CommasTo CloseParen one) (listed_some one) (λ xs us rest m ok k. some_listed one old e.0 xs us rest m k))

pub open_listed : {A : Type 0} (one : A → Takes) → Open (Listed one)
open_listed one = record { some = []; more = CloseParen ∷ []; goes_on = λ rest. refl }

-- a parameter: a name, a colon, an end, dots, an end
abbrev pub param_from : Name × (Unit {0} × (ℤ × (Unit {0} × ℤ))) → Param
param_from p = record { name = p.0; lo = p.1.1.0; hi = p.1.1.1.1 }

pub param-parts : (now : List Placed) → Along IsParam Any param_from now (Then IsName (Then (IsToken Colon) (Then IsLit (Then (IsToken Dots) IsLit)))) now
param-parts now =
    same IsParam Any param_from now (Then IsName (Then (IsToken Colon) (Then IsLit (Then (IsToken Dots) IsLit))))
    (λ p us rest k. (
      k.second.mid,
      k.second.second.second.mid,
      k.first ∙ ap (λ t. Named p.0 ∷ t) k.second.first,
      subst (λ t. IsLit p.1.1.0 k.second.mid t) k.second.second.second.first k.second.second.first,
      k.second.second.second.second,
    ))
    (λ p us rest m ok k. (
      (p.name, (tt, (p.lo, (tt, p.hi)))),
      record {
        mid = Colon ∷ k.0;
        first = k.2;
        second = record {
          mid = k.0;
          first = refl;
          second = record { mid = Dots ∷ k.1; first = k.3; second = record { mid = k.1; first = refl; second = k.4 } };
        };
      },
    ))
