-- A proof is accepted, or refused at one part, row and step.
use Rattle.std.proofs.Common.{◌≡◌, ◌⊎◌, inl, inr, ℕ, ◌+◌, List, length, Result, Ok, Err, refl, sym, ap, subst, ◌∙◌}
use Rattle.vmv_tree.specs.Valid.{Valid}
use Rattle.vmv_snapshot.specs.Resolution.{Resolution, IsResolution, tree_of}
use Rattle.vmv_proof.specs.declared.proof.Exclusion.{Exclusion}
use Rattle.vmv_proof.specs.declared.proof.Shown.{Shown}
use Rattle.vmv_proof.specs.declared.proof.Proof.{Proof}
use Rattle.vmv_proof_check.specs.declared.claims.Claims.{Claims}
use Rattle.vmv_proof_check.specs.declared.claims.Part.{Part}
use Rattle.vmv_proof_check.specs.declared.claims.Part.TheVariants.{Exclusion as Excluding, Plain, Given, Shape}
use Rattle.vmv_proof_check.specs.declared.claims.ProofRefused.{ProofRefused}
use Rattle.vmv_proof_check.specs.declared.claims.ProofRefused.TheVariants.{At, Memory}
use Rattle.vmv_proof_check.specs.Parts.{passes, fails, ExclusionTurns, AllPass, PlainTurns, GivenTurns, IsShownWell}
use Rattle.vmv_proof_check.specs.Proofs.{IsProofAccepted, IsExclusionRefused, IsShownBehind, IsProofRefused}
use Rattle.vmv_proof_check_laws.specs.Answers.{IsAnswer}
use Rattle.vmv_proof_check_laws.proofs.Lists.{by_place, part_in}
use Rattle.vmv_proof_check_laws.proofs.Counted.{claims_once}
use Rattle.vmv_proof_check_laws.proofs.Turned.{TablesHaveOneAnswer, exclusion_once, plain_once, given_once}

passes_or_fails : (row step : ℕ) → passes ≡ fails row step → ⊥
passes_or_fails row step e = absurd (cc)

same_row : (m n s t : ℕ) → fails m s ≡ fails n t → m ≡ n
same_row m n s t e = cc

same_step : (m n s t : ℕ) → fails m s ≡ fails n t → s ≡ t
same_step m n s t e = cc

-- the same place in a proof
abbrev IsSame : (p q : Part) (m n s t : ℕ) → Type 0
IsSame p q m n s t = (p ≡ q) × (m ≡ n) × (s ≡ t)

module _ (law : TablesHaveOneAnswer) where
  -- an exclusion that fails behind others doesn't pass behind them
  not_both : (base : Resolution) (before : List Exclusion) (x : Exclusion) (row step : ℕ) → Valid (tree_of base) → ExclusionTurns base before x passes → ExclusionTurns base before x (fails row step) → ⊥
  not_both base before x row step valid p f = passes_or_fails row step (exclusion_once law base before x passes (fails row step) valid p f)

  -- where an exclusion fails, not all pass
  not_all : (base : Resolution) (xs : List Exclusion) (number row step : ℕ) → Valid (tree_of base) → IsExclusionRefused base xs number row step → AllPass base xs → ⊥
  not_all base xs number row step valid r pass = not_both base r.before r.x row step valid (pass r.before r.after r.x r.parts) r.failed

  -- one exclusion is the first to fail
  excluded_once : (base : Resolution) (xs : List Exclusion) (a b m n s t : ℕ) → Valid (tree_of base) → IsExclusionRefused base xs a m s → IsExclusionRefused base xs b n t → IsSame (Excluding a) (Excluding b) m n s t
  excluded_once base xs a b m n s t valid h g =
      by_place h.before g.before h.after g.after h.x g.x (sym h.parts ∙ g.parts)
      (λ before same.
      let moved = subst (λ (x : Exclusion). ExclusionTurns base g.before x (fails m s)) same (subst (λ (ys : List Exclusion). ExclusionTurns base ys h.x (fails m s)) before h.failed) in
      let turn = exclusion_once law base g.before g.x (fails m s) (fails n t) valid moved g.failed in
      let number : a ≡ b = h.place ∙ (ap (λ (ys : List Exclusion). length ys + 1) before ∙ sym g.place) in
      (ap (λ k. Excluding k) number, same_row m n s t turn, same_step m n s t turn))
      (λ rest e. absurd (not_both base h.before h.x m s valid (g.passed h.before rest h.x e) h.failed))
      (λ rest e. absurd (not_both base g.before g.x n t valid (h.passed g.before rest g.x e) g.failed))

  module _ (base revision : Resolution) (proof : Proof) (is : IsResolution revision) where
    -- how what is shown of an entry fails
    abbrev Fails : Shown → Part → ℕ → ℕ → Type 0
    Fails s part row step =
        ((part ≡ Plain s.entry) × PlainTurns revision s (fails row step))
        ⊎ ((part ≡ Given s.entry) × PlainTurns revision s passes × GivenTurns revision proof.exclusions s (fails row step))

    abbrev FailsBehind : Part → ℕ → ℕ → Type 0
    FailsBehind part row step = (s : Shown) × IsShownBehind base revision proof s × Fails s part row step

    of_plain : (name : _) (row step : ℕ) → IsProofRefused base revision proof (Plain name) row step → FailsBehind (Plain name) row step
    of_plain name row step h = (h.0, h.2, inl (ap (λ n. Plain n) (sym h.1), h.3))

    of_given : (name : _) (row step : ℕ) → IsProofRefused base revision proof (Given name) row step → FailsBehind (Given name) row step
    of_given name row step h = (h.0, h.2, inr (ap (λ n. Given n) (sym h.1), h.3, h.4))

    -- what fails isn't well
    not_well : (s : Shown) (part : Part) (row step : ℕ) → Fails s part row step → IsShownWell revision proof.exclusions s → ⊥
    not_well s part row step (inl (e, f)) well = passes_or_fails row step (plain_once law revision s passes (fails row step) is.valid well.0 f)
    not_well s part row step (inr (e, p, f)) well = passes_or_fails row step (given_once law revision proof.exclusions s passes (fails row step) is.valid well.1 f)

    fails_once : (s : Shown) (p q : Part) (m n a b : ℕ) → Fails s p m a → Fails s q n b → IsSame p q m n a b
    fails_once s p q m n a b (inl (e, f)) (inl (e', f')) = let turn = plain_once law revision s (fails m a) (fails n b) is.valid f f' in (e ∙ sym e', same_row m n a b turn, same_step m n a b turn)
    fails_once s p q m n a b (inl (e, f)) (inr (e', pass, f')) = absurd (passes_or_fails m a (plain_once law revision s passes (fails m a) is.valid pass f))
    fails_once s p q m n a b (inr (e, pass, f)) (inl (e', f')) = absurd (passes_or_fails n b (plain_once law revision s passes (fails n b) is.valid pass f'))
    fails_once s p q m n a b (inr (e, pass, f)) (inr (e', pass', f')) =
        let turn = given_once law revision proof.exclusions s (fails m a) (fails n b) is.valid f f' in (e ∙ sym e', same_row m n a b turn, same_step m n a b turn)

    -- one entry is the first to fail
    shown_once : (p q : Part) (m n a b : ℕ) → FailsBehind p m a → FailsBehind q n b → IsSame p q m n a b
    shown_once p q m n a b (s, h, f) (r, g, f') =
        by_place h.before g.before h.after g.after s r (sym h.parts ∙ g.parts)
        (λ before same. fails_once r p q m n a b (subst (λ (x : Shown). Fails x p m a) same f) f')
        (λ rest e. absurd (not_well s p m a f (g.passed s (part_in g.before h.before rest s e))))
        (λ rest e. absurd (not_well r q n b f' (h.passed r (part_in h.before g.before rest r e))))

    module _ (is_base : IsResolution base) where
      not_refused : (claims : Claims) (part : Part) (row step : ℕ) → IsProofAccepted base revision proof claims → IsProofRefused base revision proof part row step → ⊥
      not_refused claims (Excluding number) row step ok h = not_all base proof.exclusions number row step is_base.valid h ok.exclusions
      not_refused claims Shape row step ok h = h.1 ok.shape
      not_refused claims (Plain name) row step ok h =
          let f = of_plain name row step h in not_well f.0 (Plain name) row step f.2 (ok.shown f.0 (part_in proof.shown (f.1).before (f.1).after f.0 (f.1).parts))
      not_refused claims (Given name) row step ok h =
          let f = of_given name row step h in not_well f.0 (Given name) row step f.2 (ok.shown f.0 (part_in proof.shown (f.1).before (f.1).after f.0 (f.1).parts))

      refused_once : (p q : Part) (m n s t : ℕ) → IsProofRefused base revision proof p m s → IsProofRefused base revision proof q n t → IsSame p q m n s t
      refused_once (Excluding a) (Excluding b) m n s t h g = excluded_once base proof.exclusions a b m n s t is_base.valid h g
      refused_once (Excluding a) Shape m n s t h g = absurd (not_all base proof.exclusions a m s is_base.valid h g.0)
      refused_once (Excluding a) (Plain name) m n s t h g = absurd (not_all base proof.exclusions a m s is_base.valid h (g.2).exclusions)
      refused_once (Excluding a) (Given name) m n s t h g = absurd (not_all base proof.exclusions a m s is_base.valid h (g.2).exclusions)
      refused_once Shape (Excluding b) m n s t h g = absurd (not_all base proof.exclusions b n t is_base.valid g h.0)
      refused_once Shape Shape m n s t h g = (refl, h.2 ∙ sym g.2, h.3 ∙ sym g.3)
      refused_once Shape (Plain name) m n s t h g = absurd (h.1 (g.2).shape)
      refused_once Shape (Given name) m n s t h g = absurd (h.1 (g.2).shape)
      refused_once (Plain name) (Excluding b) m n s t h g = absurd (not_all base proof.exclusions b n t is_base.valid g (h.2).exclusions)
      refused_once (Plain name) Shape m n s t h g = absurd (g.1 (h.2).shape)
      refused_once (Plain name) (Plain name') m n s t h g = shown_once (Plain name) (Plain name') m n s t (of_plain name m s h) (of_plain name' n t g)
      refused_once (Plain name) (Given name') m n s t h g = shown_once (Plain name) (Given name') m n s t (of_plain name m s h) (of_given name' n t g)
      refused_once (Given name) (Excluding b) m n s t h g = absurd (not_all base proof.exclusions b n t is_base.valid g (h.2).exclusions)
      refused_once (Given name) Shape m n s t h g = absurd (g.1 (h.2).shape)
      refused_once (Given name) (Plain name') m n s t h g = shown_once (Given name) (Plain name') m n s t (of_given name m s h) (of_plain name' n t g)
      refused_once (Given name) (Given name') m n s t h g = shown_once (Given name) (Given name') m n s t (of_given name m s h) (of_given name' n t g)

      pub answer_once : (one other : Result Claims ProofRefused) → IsAnswer base revision proof one → IsAnswer base revision proof other → one ≡ other
      answer_once (Ok c) (Ok d) h g = ap (λ (x : Claims). Ok x) (claims_once revision proof.shown c d h.counts g.counts)
      answer_once (Ok c) (Err (At p m s)) h g = absurd (not_refused c p m s h g)
      answer_once (Ok c) (Err Memory) h g = absurd g
      answer_once (Err (At p m s)) (Ok d) h g = absurd (not_refused d p m s g h)
      answer_once (Err (At p m s)) (Err (At q n t)) h g = let e = refused_once p q m n s t h g in (λ i. Err (At (e.0 i) (e.1 i) (e.2 i)))
      answer_once (Err (At p m s)) (Err Memory) h g = absurd g
      answer_once (Err Memory) other h g = absurd h
