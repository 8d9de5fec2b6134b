-- Values that are read part by part.
use Rattle.std.proofs.Common.{◌≡◌, List, ◌++◌, refl, sym, ap, ◌∙◌}
use Rattle.vmv_proof_text.specs.Parts.{Part}
use Rattle.vmv_proof_read.proofs.Along.{Follows}

-- such values, each with the parts that are left of it
abbrev pub By : {A : Type 0} → (A → Type 0) → (A → List Part) → A → List Part → Type 0
By Q tail x rest = Q x × (rest ≡ tail x)

-- one thing more is known of them
abbrev pub And : {A B : Type 0} → (A → Type 0) → (A → B) → B → A → Type 0
And Q pick b x = Q x × (pick x ≡ b)

-- what comes next is one thing of each
pub follows_by : {A B : Type 0} (Own : B → Type 0) (next : B → List Part) (Q : A → Type 0) (tail tail' : A → List Part) (pick : A → B)
    → ((x : A) → Q x → tail x ≡ next (pick x) ++ tail' x) → ((x : A) → Q x → Own (pick x)) → ((b : B) → Own b → (x : A) × Q x × (pick x ≡ b))
    → Follows {A = A} {B = B} Own next (By Q tail) (λ b. By (And Q pick b) tail')
follows_by Own next Q tail tail' pick split own some =
    record {
      splits = λ x rest h. (pick x, own x h.0, (tail' x, h.1 ∙ split x h.0, ((h.0, refl), refl)));
      joins =
          λ b x more has h.
          (h.0.0, ap (λ t. next b ++ t) h.1 ∙ (ap (λ c. next c ++ tail' x) (sym h.0.1) ∙ sym (split x h.0.0)));
      some = λ b has. let s = some b has in (s.0, (tail' s.0, ((s.1, s.2), refl)));
    }
