-- The replay of two texts has one output.
use Rattle.std.proofs.Common.{◌≡◌, ◌≢◌, ◌⊎◌, inl, inr, ⊎_elim, ℕ, ◌≤◌, Bool, true, false, eqb, List, ◌++◌, length, codes, refl, sym, ap, subst, ◌∙◌}
use Rattle.std.specs.Prelude.{Result, Ok, Err}
use Rattle.std.specs.Fmt.{decimal, signed_decimal}
use Rattle.std.specs.Str.{bytes_eq}
use Rattle.std.proofs.lemmas.Bool.{eqb-true}
use Rattle.std.proofs.lemmas.Bool.Decides.{Decides-eqb}
use Rattle.std.proofs.lemmas.Slice.Eq.{bytes_eq-Decides}
use Rattle.std.proofs.lemmas.Option.{same_Some}
use Rattle.vmv_tree.specs.declared.site.NamedSite.{NamedSite}
use Rattle.vmv_tree.specs.Tree.{Item}
use Rattle.vmv_tree.specs.Valid.{Valid}
use Rattle.vmv_snapshot.specs.declared.code.ProcId.{ProcId}
use Rattle.vmv_snapshot.specs.declared.code.SiteId.{SiteId}
use Rattle.vmv_run.specs.declared.outcome.Outcome.{Outcome}
use Rattle.vmv_run.specs.declared.outcome.Outcome.TheVariants.{Done, Fail, Short, Stranger, Extra}
use Rattle.vmv_run.specs.Replay.{pairs}
use Rattle.vmv_witness.specs.declared.witness.Witness.{Witness}
use Rattle.vmv_witness.specs.declared.fault.WitnessFault.{WitnessFault}
use Rattle.vmv_witness.specs.declared.fitting.Unfit.{Unfit}
use Rattle.vmv_witness.specs.Fit.{words_of}
use Rattle.vmv_command.specs.Command.{text_most}
use Rattle.vmv_command.specs.Replays.{SaysWitnessFault, unfit_number, SaysUnfit, IsCalled, SaysFails, SaysOutcome, ReplaysEntry, ReplaysWitness, ReplaysText, ReplaysTexts}
use Rattle.vmv_command_laws.proofs.Determined.{OfTexts, OfWitnesses}
use Rattle.vmv_command_laws.proofs.Files.{IsOne, line_once, program_once}

witness_fault_once : (why : WitnessFault) → IsOne (SaysWitnessFault why)
witness_fault_once why p q s t h g = (h.0 ∙ sym g.0, h.1 ∙ sym g.1)

unfit_once : (why : Unfit) → IsOne (SaysUnfit why)
unfit_once why = line_once (codes "unfit " ++ decimal (unfit_number why)) 1

-- a site has one name and number
called_once : (program : List Item) (site : SiteId) (at other : NamedSite) → IsCalled program site at → IsCalled program site other → at ≡ other
called_once program site at other h g =
    let name : at.proc ≡ other.proc = same_Some at.proc other.proc (sym h.0 ∙ g.0) in
    let index : at.index ≡ other.index = h.1 ∙ sym g.1 in
    λ i. record { proc = name i; index = index i }

-- two sites are the same or they aren't
same_or_not : (at named : NamedSite) → (at ≡ named) ⊎ (at ≢ named)
same_or_not at named = either (bytes_eq at.proc named.proc) (eqb at.index named.index) refl refl
  where
    either : (b c : Bool) → bytes_eq at.proc named.proc ≡ b → eqb at.index named.index ≡ c → (at ≡ named) ⊎ (at ≢ named)
    either true true e f =
        let name : at.proc ≡ named.proc = (bytes_eq-Decides at.proc named.proc).0 e in
        let index : at.index ≡ named.index = eqb-true at.index named.index f in
        inl (λ i. record { proc = name i; index = index i })
    either false c e f = inr (λ same. let on : bytes_eq at.proc named.proc ≡ true = (bytes_eq-Decides at.proc named.proc).1 (ap (λ (x : NamedSite). x.proc) same) in absurd (cc))
    either true false e f = inr (λ same. let on : eqb at.index named.index ≡ true = (Decides-eqb at.index named.index).1 (ap (λ (x : NamedSite). x.index) same) in absurd (cc))

fails_once : (at named : NamedSite) → IsOne (SaysFails at named)
fails_once at named p q s t h g = (
  h.0 ∙ sym g.0,
  ⊎_elim (λ (same : at ≡ named). h.1 same ∙ sym (g.1 same)) (λ (other : at ≢ named). h.2 other ∙ sym (g.2 other)) (same_or_not at named),
)

outcome_once : (program : List Item) (named : NamedSite) (outcome : Outcome) → IsOne (SaysOutcome program named outcome)
outcome_once program named (Done word) = line_once (codes "done " ++ signed_decimal word) 1
outcome_once program named (Fail site) = λ p q s t h g.
    let same : h.0 ≡ g.0 = called_once program site h.0 g.0 h.1 g.1 in
    fails_once g.0 named p q s t (subst (λ (at : NamedSite). SaysFails at named p s) same h.2) g.2
outcome_once program named (Short at) = line_once (codes "short at " ++ decimal at) 1
outcome_once program named (Stranger at) = line_once (codes "stranger at " ++ decimal at) 1
outcome_once program named (Extra used) = line_once (codes "extra after " ++ decimal used) 1

err_once : (why other : Unfit) → ◌≡◌ {A = Result ProcId Unfit} (Err why) (Err other) → why ≡ other
err_once why other e = cc

module _ (laws : OfWitnesses) where
  entry_once : (program : List Item) (w : Witness) → Valid program → IsOne (ReplaysEntry program w)
  entry_once program w valid p q s t (one, h, says) (other, g, says') =
      let same : one ≡ other = laws.findings program w.entry (words_of w) (pairs w.answers) one other valid h g in
      outcome_once program w.site other p q s t (subst (λ (o : Outcome). SaysOutcome program w.site o p s) same says) says'

  witness_replayed_once : (program : List Item) (w : Witness) → Valid program → IsOne (ReplaysWitness program w)
  witness_replayed_once program w valid p q s t (inl (why, fits, says)) (inl (why', fits', says')) =
      let same : Err why ≡ Err why' = laws.fits program w (Err why) (Err why') valid fits fits' in
      unfit_once why' p q s t (subst (λ (u : Unfit). SaysUnfit u p s) (err_once why why' same) says) says'
  witness_replayed_once program w valid p q s t (inl (why, fits, says)) (inr (entry, fits', done)) =
      absurd (let e = laws.fits program w (Err why) (Ok entry) valid fits fits' in cc)
  witness_replayed_once program w valid p q s t (inr (entry, fits', done)) (inl (why, fits, says)) =
      absurd (let e = laws.fits program w (Err why) (Ok entry) valid fits fits' in cc)
  witness_replayed_once program w valid p q s t (inr (entry, fits, done)) (inr (entry', fits', done')) = entry_once program w valid p q s t done done'

  text_replayed_once : (witness : List ℕ) (program : List Item) → length witness ≤ text_most → Valid program → IsOne (ReplaysText witness program)
  text_replayed_once witness program short valid p q s t (inl (why, has, says)) (inl (why', has', says')) =
      let same = laws.faults witness why why' has.0 has'.0 has.1 has'.1 in
      witness_fault_once why' p q s t (subst (λ (u : WitnessFault). SaysWitnessFault u p s) same says) says'
  text_replayed_once witness program short valid p q s t (inl (why, has, says)) (inr (w, is_text, done)) = absurd (has.1 (laws.no_fault witness w why short is_text has.0))
  text_replayed_once witness program short valid p q s t (inr (w, is_text, done)) (inl (why, has, says)) = absurd (has.1 (laws.no_fault witness w why short is_text has.0))
  text_replayed_once witness program short valid p q s t (inr (w, is_text, done)) (inr (w', is_text', done')) =
      let same = laws.witnesses witness w w' is_text is_text' in
      witness_replayed_once program w' valid p q s t (subst (λ (v : Witness). ReplaysWitness program v p s) same done) done'

  pub texts_replayed_once : OfTexts → (revision witness : List ℕ) → length revision ≤ text_most → length witness ≤ text_most → IsOne (ReplaysTexts revision witness)
  texts_replayed_once of_texts revision witness short short' =
      program_once of_texts (codes "revision") revision (ReplaysText witness) short (λ program source. text_replayed_once witness program short' source.1)
