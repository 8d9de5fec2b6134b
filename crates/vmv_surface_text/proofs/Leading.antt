-- What is left of a part, token by token.
use Rattle.std.proofs.Common.{◌≡◌, List, [], ◌∷◌, ◌++◌, drop, Some, refl, sym, subst}
use Rattle.vmv_text.specs.declared.token.Token.{Token}
use Rattle.vmv_text.specs.Tokens.{Placed}
use Rattle.vmv_text.specs.Grammar.{Takes}
use Rattle.vmv_text.specs.Reading.{Meets, Ends, Stops, first_of}
use Rattle.vmv_text.proofs.Steps as steps
use Rattle.vmv_text.proofs.Steps.{Open, first_skipped, meets_from, split}
use Rattle.vmv_surface_text.specs.Opening.{Leading}

pub leads_start : {X : Type 0} (part : X → Takes) (fits : List Token → Type 0) (start : List Placed) → Leading part fits start part start
leads_start part fits start = record { used = []; place = refl; made = λ x us rest k. k; only = λ x us rest m ok k. (x, k) }

-- what is left is read in another way
pub leads_as : {X : Type 0} {part : X → Takes} {fits : List Token → Type 0} (start : List Placed) (g h : X → Takes) (now : List Placed) → Leading part fits start g now
    → ((x : X) (us rest : List Token) → h x us rest → g x us rest)
    → ((x : X) (us rest : List Token) → Meets now us → fits rest → g x us rest → (whole : X) × h whole us rest) → Leading part fits start h now
leads_as start g h now l made only = record {
  used = l.used;
  place = l.place;
  made = λ x us rest k. l.made x us rest (made x us rest k);
  only = λ x us rest m ok k.
      let y = l.only x us rest m ok k in
      only y.0 us rest m ok y.1;
}

-- one token was taken
pub leads_on : {X : Type 0} {part : X → Takes} {fits : List Token → Type 0} (t : Token) (start : List Placed) (g : X → Takes) (now new : List Placed) → first_of now ≡ Some t → new ≡ drop 1 now → Leading part fits start g now
    → Leading part fits start (λ x us rest. g x (t ∷ us) rest) new
leads_on {part = part} t start g now new first e l =
    let k = first_skipped t now new first e in
    let p : Placed = record { token = t; from = k.0 } in
    record {
      used = l.used ++ p ∷ [];
      place = split start l.used now (p ∷ []) new l.place k.1;
      made = λ x us rest h. subst (λ ts. part x ts rest) (sym (steps.joined l.used (p ∷ []) us)) (l.made x (t ∷ us) rest h);
      only = λ x us rest m ok h.
          l.only x (t ∷ us) rest (meets_from now (p ∷ []) new us k.1 m) ok (subst (λ ts. part x ts rest) (steps.joined l.used (p ∷ []) us) h);
    }

-- nothing goes on
pub leads_stops : {X : Type 0} {part : X → Takes} {fits : List Token → Type 0} (start : List Placed) (g : X → Takes) (now : List Placed) → Leading part fits start g now → Open g
    → ((x : X) (us rest : List Token) → Meets now us → fits rest → g x us rest → ⊥) → Stops part fits start now
leads_stops start g now l o shut = record {
  used = l.used;
  place = l.place;
  some = o.some;
  more = o.more;
  goes_on = λ rest. l.made o.some (o.more ++ rest) rest (o.goes_on rest);
  shut = λ y us rest m ok k.
      let z = l.only y us rest m ok k in
      shut z.0 us rest m ok z.1;
}

-- nothing is left
pub leads_done : {X : Type 0} {part : X → Takes} {fits : List Token → Type 0} (start : List Placed) (x : X) (now : List Placed) → Leading part fits start (λ y us rest. (y ≡ x) × (us ≡ rest)) now → Ends part fits x start now
leads_done start x now l = record {
  used = l.used;
  place = l.place;
  made = λ us. l.made x us us (refl, refl);
  only = λ y us rest m ok k.
      let z = l.only y us rest m ok k in
      sym z.1.1;
}
