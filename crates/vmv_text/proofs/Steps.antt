-- Parts in turn: what is left to read of a part behind its first ones, and how that carries an answer back to the whole.
use Rattle.std.proofs.Common.{OnOk, ◌<◌, false, ◌≡◌, List, [], ◌∷◌, ◌++◌, ℕ, length, Some, Result, Ok, Err, refl, sym, ◌∙◌, ap, subst, append_assoc, arith, ◌≤◌, length-append, drop}
use Rattle.vmv_text.specs.declared.token.Token.{Token}
use Rattle.vmv_text.specs.declared.fault.Fault.{Fault}
use Rattle.vmv_text.specs.declared.fault.Fault.TheVariants.{Syntax, Memory}
use Rattle.vmv_text.specs.Tokens.{Placed, tokens_of}
use Rattle.vmv_text.specs.Grammar.{Takes}
use Rattle.vmv_text.specs.Reading.{Meets, Any, Lacks, Ends, Stops, Fails, ReadsAs, ReadsWith, IsToken, Tests, first_of}

-- a part, and then another
pub record Then {A B : Type 0} (f : A → Takes) (g : B → Takes) (both : A × B) (ts rest : List Token) : Type 0 where
  pub mid : List Token
  pub first : f both.0 ts mid
  pub second : g both.1 mid rest

-- What is left to read: these tokens were taken, and whatever follows that begins as what is left, the whole is read
-- exactly where the rest of it is.
pub record Along {X Y : Type 0} (f : X → Takes) (fits : List Token → Type 0) (build : Y → X) (old : List Placed) (g : Y → Takes) (now : List Placed) : Type 0 where
  pub used : List Placed
  pub place : old ≡ used ++ now
  pub made : (y : Y) (us rest : List Token) → g y us rest → f (build y) (tokens_of used ++ us) rest
  pub only : (x : X) (us rest : List Token) → Meets now us → fits rest → f x (tokens_of used ++ us) rest → (y : Y) × g y us rest

-- some part can be made from nothing
pub record Open {X : Type 0} (f : X → Takes) : Type 0 where
  pub some : X
  pub more : List Token
  pub goes_on : (rest : List Token) → f some (more ++ rest) rest

-- what may stand behind a part, before another
abbrev pub Follows : {Y : Type 0} → (fits near : List Token → Type 0) → (Y → Takes) → Type 0
Follows {Y} fits near g = (y : Y) (q rest : List Token) → fits rest → g y q rest → near q

pub any : {Y : Type 0} (fits : List Token → Type 0) (g : Y → Takes) → Follows fits Any g
any fits g y q rest h k = tt

pub joined : (a b : List Placed) (us : List Token) → tokens_of (a ++ b) ++ us ≡ tokens_of a ++ (tokens_of b ++ us)
joined [] b us = refl
joined (p ∷ a) b us = ap (λ ts. p.token ∷ ts) (joined a b us)

pub split : (a b c d e : List Placed) → a ≡ b ++ c → c ≡ d ++ e → a ≡ (b ++ d) ++ e
split a b c d e h k = h ∙ (ap (λ t. b ++ t) k ∙ sym (append_assoc b d e))

-- what begins as what is left still does with more in front of both
meets_more : (used new : List Placed) (us : List Token) → Meets new us → Meets (used ++ new) (tokens_of used ++ us)
meets_more [] new us h = h
meets_more (p ∷ used) new us h = (tokens_of used ++ us, refl)

pub meets_from : (now used new : List Placed) (us : List Token) → now ≡ used ++ new → Meets new us → Meets now (tokens_of used ++ us)
meets_from now used new us e h = subst (λ t. Meets t (tokens_of used ++ us)) (sym e) (meets_more used new us h)

pub meets_same : (now : List Placed) → Meets now (tokens_of now)
meets_same [] = refl
meets_same (p ∷ now) = (tokens_of now, refl)

-- nothing was taken yet
pub same : {X Y : Type 0} (f : X → Takes) (fits : List Token → Type 0) (build : Y → X) (now : List Placed) (g : Y → Takes)
    → ((y : Y) (us rest : List Token) → g y us rest → f (build y) us rest)
    → ((x : X) (us rest : List Token) → Meets now us → fits rest → f x us rest → (y : Y) × g y us rest)
    → Along f fits build now g now
same f fits build now g made only = record { used = []; place = refl; made = made; only = only }

-- one thing after another
pub onward : {X Y Z : Type 0} (f : X → Takes) (g : Y → Takes) (h : Z → Takes) (fits : List Token → Type 0) (build : Y → X) (more : Z → Y) (old now new : List Placed)
    → Along f fits build old g now → Along g fits more now h new → Along f fits (λ z. build (more z)) old h new
onward f g h fits build more old now new a b = record {
  used = a.used ++ b.used;
  place = split old a.used now b.used new a.place b.place;
  made = λ z us rest k. subst (λ t. f (build (more z)) t rest) (sym (joined a.used b.used us)) (a.made (more z) (tokens_of b.used ++ us) rest (b.made z us rest k));
  only = λ x us rest m ok k.
      let y = a.only x (tokens_of b.used ++ us) rest (meets_from now b.used new us b.place m) ok (subst (λ t. f x t rest) (joined a.used b.used us) k) in
      b.only y.0 us rest m ok y.1;
}

-- a first part was taken
pub behind : {A Y : Type 0} (a : A → Takes) (g : Y → Takes) (fits near : List Token → Type 0) (x : A) (now mid : List Placed)
    → Ends a near x now mid → Follows fits near g → Along (Then a g) fits (λ y. (x, y)) now g mid
behind a g fits near x now mid e f = record {
  used = e.used;
  place = e.place;
  made = λ y us rest k. record { mid = us; first = e.made us; second = k };
  only = λ both us rest m ok k.
      let end = e.only both.0 us k.mid m (f both.1 k.mid rest ok k.second) k.first in
      (both.1, subst (λ t. g both.1 t rest) end k.second);
}

-- the whole, where the part that is left was taken
pub done : {X A : Type 0} (f : X → Takes) (a : A → Takes) (fits : List Token → Type 0) (build : A → X) (x : A) (old now new : List Placed)
    → Along f fits build old a now → Ends a fits x now new → Ends f fits (build x) old new
done f a fits build x old now new h e = record {
  used = h.used ++ e.used;
  place = split old h.used now e.used new h.place e.place;
  made = λ us. subst (λ t. f (build x) t us) (sym (joined h.used e.used us)) (h.made x (tokens_of e.used ++ us) us (e.made us));
  only = λ y us rest m ok k.
      let z = h.only y (tokens_of e.used ++ us) rest (meets_from now e.used new us e.place m) ok (subst (λ t. f y t rest) (joined h.used e.used us) k) in
      e.only z.0 us rest m ok z.1;
}

-- the whole stops where what is left of it does
pub stopped : {X A : Type 0} (f : X → Takes) (a : A → Takes) (fits : List Token → Type 0) (build : A → X) (old now new : List Placed)
    → Along f fits build old a now → Stops a fits now new → Stops f fits old new
stopped f a fits build old now new h s = record {
  used = h.used ++ s.used;
  place = split old h.used now s.used new h.place s.place;
  some = build s.some;
  more = s.more;
  goes_on = λ rest. subst (λ t. f (build s.some) t rest) (sym (joined h.used s.used (s.more ++ rest))) (h.made s.some (tokens_of s.used ++ (s.more ++ rest)) rest (s.goes_on rest));
  shut = λ y us rest m ok k.
      let z = h.only y (tokens_of s.used ++ us) rest (meets_from now s.used new us s.place m) ok (subst (λ t. f y t rest) (joined h.used s.used us) k) in
      s.shut z.0 us rest m ok z.1;
}

-- a first part stops, and the other can be made
pub stopped_first : {A Y : Type 0} (a : A → Takes) (g : Y → Takes) (fits near : List Token → Type 0) (now new : List Placed)
    → Stops a near now new → Follows fits near g → Open g → Stops (Then a g) fits now new
stopped_first a g fits near now new s f o = record {
  used = s.used;
  place = s.place;
  some = (s.some, o.some);
  more = s.more ++ o.more;
  goes_on = λ rest. record {
    mid = o.more ++ rest;
    first = subst (λ t. a s.some (tokens_of s.used ++ t) (o.more ++ rest)) (sym (append_assoc s.more o.more rest)) (s.goes_on (o.more ++ rest));
    second = o.goes_on rest;
  };
  shut = λ both us rest m ok k. s.shut both.0 us k.mid m (f both.1 k.mid rest ok k.second) k.first;
}

-- the same of answers: a step on, and the two ways in which an answer carries back
pub step : {X A Y : Type 0} (f : X → Takes) (a : A → Takes) (g : Y → Takes) (fits near : List Token → Type 0) (build : A × Y → X) (x : A) (old now mid : List Placed)
    → Along f fits build old (Then a g) now → Ends a near x now mid → Follows fits near g → Along f fits (λ y. build (x, y)) old g mid
step f a g fits near build x old now mid h e k = onward f (Then a g) g fits build (λ y. (x, y)) old now mid h (behind a g fits near x now mid e k)

pub failed : {X A Y V W : Type 0} (f : X → Takes) (a : A → Takes) (g : Y → Takes) (fits near : List Token → Type 0) (build : A × Y → X) (view : V → A) (view' : W → X) (fault : Fault) (old now new : List Placed)
    → Along f fits build old (Then a g) now → ReadsAs view a near (Err fault) now new → Follows fits near g → Open g → ReadsAs view' f fits (Err fault) old new
failed f a g fits near build view view' Memory old now new h e k o = tt
failed f a g fits near build view view' Syntax old now new h e k o =
    stopped f (Then a g) fits build old now new h (stopped_first a g fits near now new e k o)

pub failed_last : {X A V W : Type 0} (f : X → Takes) (a : A → Takes) (fits : List Token → Type 0) (build : A → X) (view : V → A) (view' : W → X) (fault : Fault) (old now new : List Placed)
    → Along f fits build old a now → ReadsAs view a fits (Err fault) now new → ReadsAs view' f fits (Err fault) old new
failed_last f a fits build view view' Memory old now new h e = tt
failed_last f a fits build view view' Syntax old now new h e = stopped f a fits build old now new h e

-- a part is never longer than the text
pub ends_within : {X : Type 0} (f : X → Takes) (fits : List Token → Type 0) (x : X) (old new : List Placed) → Ends f fits x old new → length new ≤ length old
ends_within f fits x old new e = omega (arith, ap length e.place, length-append e.used new)

-- one token was taken
pub token_taken : {X Y : Type 0} (f : X → Takes) (fits : List Token → Type 0) (build : Y → X) (g : Y → Takes) (t : Token) (from : List ℕ) (old new : List Placed)
    → old ≡ record { token = t; from = from } ∷ new
    → ((y : Y) (us rest : List Token) → g y us rest → f (build y) (t ∷ us) rest)
    → ((x : X) (us rest : List Token) → fits rest → f x (t ∷ us) rest → (y : Y) × g y us rest)
    → Along f fits build old g new
token_taken f fits build g t from old new e made only = record {
  used = record { token = t; from = from } ∷ [];
  place = e;
  made = made;
  only = λ x us rest m ok k. only x us rest ok k;
}

-- what begins as what is left lacks what that lacks
pub meets_lacks : (t : Token) (now : List Placed) (us : List Token) → Lacks t (tokens_of now) → Meets now us → Lacks t us
meets_lacks t [] us h m rest e = cc (m, e)
meets_lacks t (p ∷ now) us h m rest e =
    let first : p.token ≡ t = cc (m.1, e) in
    h (tokens_of now) (ap (λ u. u ∷ tokens_of now) first)

-- the first token, skipped
pub first_skipped : (t : Token) (old new : List Placed) → first_of old ≡ Some t → new ≡ drop 1 old → (from : List ℕ) × (old ≡ record { token = t; from = from } ∷ new)
first_skipped t [] new h e = absurd (cc h)
first_skipped t (p ∷ old) new h e = (p.from, λ i. record { token = unsome i; from = p.from } ∷ sym e i)
  where
    unsome : p.token ≡ t
    unsome = cc h

-- one token as a part
pub token_ends : (t : Token) (from : List ℕ) (old new : List Placed) → old ≡ record { token = t; from = from } ∷ new → Ends (IsToken t) Any tt old new
token_ends t from old new e = record {
  used = record { token = t; from = from } ∷ [];
  place = e;
  made = λ us. refl;
  only = λ y us rest m ok k. cc k;
}

pub token_stops : (t : Token) (now : List Placed) → Lacks t (tokens_of now) → Stops (IsToken t) Any now now
token_stops t now h = record {
  used = [];
  place = refl;
  some = tt;
  more = t ∷ [];
  goes_on = λ rest. refl;
  shut = λ y us rest m ok k. meets_lacks t now us h m rest k;
}

pub open_token : (t : Token) → Open (IsToken t)
open_token t = record { some = tt; more = t ∷ []; goes_on = λ rest. refl }

pub open_then : {A B : Type 0} (f : A → Takes) (g : B → Takes) → Open f → Open g → Open (Then f g)
open_then f g o p = record {
  some = (o.some, p.some);
  more = o.more ++ p.more;
  goes_on = λ rest. record {
    mid = p.more ++ rest;
    first = subst (λ t. f o.some t (p.more ++ rest)) (sym (append_assoc o.more p.more rest)) (o.goes_on (p.more ++ rest));
    second = p.goes_on rest;
  };
}

-- the token that isn't first
pub not_first : (t : Token) (now : List Placed) → (first_of now ≡ Some t → ⊥) → Lacks t (tokens_of now)
not_first t [] h rest e = cc e
not_first t (p ∷ now) h rest e =
    let first : p.token ≡ t = cc e in
    h (ap Some first)

pub token_refused : (t : Token) (old new : List Placed) → Tests t false old new → Stops (IsToken t) Any old new
token_refused t old new e = subst (λ now. Stops (IsToken t) Any old now) (sym e.1) (token_stops t old e.0)

-- an answer of what is left is one of the whole
pub carried : {X A : Type 0} (f : X → Takes) (a : A → Takes) (fits : List Token → Type 0) (build : A → X) (result : Result A Fault) (old now new : List Placed)
    → Along f fits build old a now → ReadsAs (λ (x : A). x) a fits result now new → ReadsAs build f fits result old new
carried f a fits build (Ok x) old now new h e = done f a fits build x old now new h e
carried f a fits build (Err Syntax) old now new h e = stopped f a fits build old now new h e
carried f a fits build (Err Memory) old now new h e = tt

-- the same for a part that view shows
pub carried_as : {X V : Type 0} (view : V → X) (f a : X → Takes) (fits : List Token → Type 0) (result : Result V Fault) (old now new : List Placed)
    → Along f fits (λ (x : X). x) old a now → ReadsAs view a fits result now new → ReadsAs view f fits result old new
carried_as {X} view f a fits (Ok x) old now new h e = done f a fits (λ (x : X). x) (view x) old now new h e
carried_as {X} view f a fits (Err Syntax) old now new h e = stopped f a fits (λ (x : X). x) old now new h e
carried_as view f a fits (Err Memory) old now new h e = tt

-- a part behind a first token leaves fewer
pub shorter_behind : {V X : Type 0} (view : V → X) (f : X → Takes) (fits : List Token → Type 0) (result : Result V Fault) (t : Token) (old mid new : List Placed)
    → first_of old ≡ Some t → mid ≡ drop 1 old → ReadsAs view f fits result mid new → OnOk result (length new < length old)
shorter_behind view f fits (Ok x) t [] mid new h e r = absurd (cc h)
shorter_behind view f fits (Ok x) t (p ∷ old) mid new h e r = omega (arith, ap length e, ends_within f fits (view x) mid new r)
shorter_behind view f fits (Err fault) t old mid new h e r = tt

-- the same for a part of which an answer says something
pub carried_with : {X V : Type 0} (says : V → X → Type 0) (f a : X → Takes) (fits : List Token → Type 0) (result : Result V Fault) (old now new : List Placed)
    → Along f fits (λ (x : X). x) old a now → ReadsWith says a fits result now new → ReadsWith says f fits result old new
carried_with {X} says f a fits (Ok v) old now new h e = (e.0, e.1, done f a fits (λ (x : X). x) e.0 old now new h e.2)
carried_with {X} says f a fits (Err Syntax) old now new h e = stopped f a fits (λ (x : X). x) old now new h e
carried_with says f a fits (Err Memory) old now new h e = tt

pub shorter_with : {V X : Type 0} (says : V → X → Type 0) (f : X → Takes) (fits : List Token → Type 0) (result : Result V Fault) (t : Token) (old mid new : List Placed)
    → first_of old ≡ Some t → mid ≡ drop 1 old → ReadsWith says f fits result mid new → OnOk result (length new < length old)
shorter_with says f fits (Ok v) t [] mid new h e r = absurd (cc h)
shorter_with says f fits (Ok v) t (p ∷ old) mid new h e r = omega (arith, ap length e, ends_within f fits r.0 mid new r.2)
shorter_with says f fits (Err fault) t old mid new h e r = tt

-- an answer of the last part that is left
pub closed_with : {X A V W : Type 0} (f : X → Takes) (a : A → Takes) (fits : List Token → Type 0) (build : A → X) (says : V → A → Type 0) (says' : W → X → Type 0) (v : V) (w : W) (old now new : List Placed)
    → Along f fits build old a now → ReadsWith says a fits (Ok v) now new → ((x : A) → says v x → says' w (build x)) → ReadsWith says' f fits (Ok w) old new
closed_with f a fits build says says' v w old now new h e s = (build e.0, s e.0 e.1, done f a fits build e.0 old now new h e.2)
