-- Words and told texts have one output.
use Rattle.std.proofs.Common.{◌≡◌, inl, inr, ℕ, ◌≤◌, Bool, Option, List, length, codes, subst}
use Rattle.vmv_words.specs.Words.{Word, Request, review, baseline, recheck, replay, sample}
use Rattle.vmv_command.specs.Faults.{OnProgram}
use Rattle.vmv_command.specs.Reviews.{ReviewsPrograms}
use Rattle.vmv_command.specs.Baselines.{BaselinesProgram}
use Rattle.vmv_command.specs.Replays.{ReplaysTexts}
use Rattle.vmv_command.specs.Rechecks.{RechecksTexts}
use Rattle.vmv_command.specs.Command.{text_most, proof_most, usage, OnFile, ReviewsTexts, Does, Outputs}
use Rattle.vmv_command_laws.specs.Alike.{TellsTexts, TellsAsked, by_workers, AskAlike}
use Rattle.vmv_command_laws.proofs.Determined.{AreOne}
use Rattle.vmv_command_laws.proofs.Files.{IsOne, line_once, file_once, program_once}
use Rattle.vmv_command_laws.proofs.Replaying.{texts_replayed_once}
use Rattle.vmv_command_laws.proofs.Rechecking.{texts_rechecked_once}
use Rattle.vmv_command_laws.proofs.Sampling.{sampled_once}
use Rattle.vmv_command_laws.proofs.Reviewing.{programs_reviewed_once, base_found_once}

module _ (laws : AreOne) where
  texts_reviewed_once : (proved : Bool) (base revision : List ℕ) → length base ≤ text_most → length revision ≤ text_most → IsOne (ReviewsTexts proved base revision)
  texts_reviewed_once proved base revision short short' =
      program_once laws.of_texts (codes "base") base (λ B. OnProgram (codes "revision") revision (ReviewsPrograms proved B)) short
      (λ B source. program_once laws.of_texts (codes "revision") revision (ReviewsPrograms proved B) short' (λ R source'. programs_reviewed_once laws.of_reviews proved B R))

  does_once : (told : Word → Option (List ℕ)) (request : Request) → TellsTexts told request → IsOne (Does told request)
  does_once told (review base revision count proved) (b, r) =
      file_once told base (codes "base") text_most (λ x. OnFile told revision (codes "revision") text_most (ReviewsTexts proved x)) b.0 b.1
      (λ short. file_once told revision (codes "revision") text_most (ReviewsTexts proved b.0) r.0 r.1 (λ short'. texts_reviewed_once proved b.0 r.0 short short'))
  does_once told (baseline base count) b =
      file_once told base (codes "base") text_most (λ x. OnProgram (codes "base") x BaselinesProgram) b.0 b.1
      (λ short. program_once laws.of_texts (codes "base") b.0 BaselinesProgram short (λ B source. base_found_once laws.of_reviews B))
  does_once told (recheck base revision proof) (b, r, f) =
      file_once told base (codes "base") text_most (λ x. OnFile told revision (codes "revision") text_most (λ y. OnFile told proof (codes "proof") proof_most (RechecksTexts x y))) b.0 b.1
      (λ short. file_once told revision (codes "revision") text_most (λ y. OnFile told proof (codes "proof") proof_most (RechecksTexts b.0 y)) r.0 r.1
      (λ short'. file_once told proof (codes "proof") proof_most (RechecksTexts b.0 r.0) f.0 f.1
      (λ short''. texts_rechecked_once laws.of_proofs laws.of_reviews laws.of_texts b.0 r.0 f.0 short short' short'')))
  does_once told (replay revision witness) (r, w) =
      file_once told revision (codes "revision") text_most (λ x. OnFile told witness (codes "witness") text_most (ReplaysTexts x)) r.0 r.1
      (λ short. file_once told witness (codes "witness") text_most (ReplaysTexts r.0) w.0 w.1 (λ short'. texts_replayed_once laws.of_witnesses laws.of_texts r.0 w.0 short short'))
  does_once told (sample number count) tells = sampled_once laws.of_reviews laws.of_texts laws.of_samples number

  pub outputs_once : (words : List Word) (told : Word → Option (List ℕ)) (p q : List ℕ) (s t : ℕ) → TellsAsked told words → Outputs words told p s → Outputs words told q t → (p ≡ q) × (s ≡ t)
  outputs_once words told p q s t tells (inl (nothing, says)) (inl (nothing', says')) = line_once usage 9 p q s t says says'
  outputs_once words told p q s t tells (inl (nothing, says)) (inr (request, asks, does)) = absurd (nothing request asks)
  outputs_once words told p q s t tells (inr (request, asks, does)) (inl (nothing, says)) = absurd (nothing request asks)
  outputs_once words told p q s t tells (inr (request, asks, does)) (inr (request', asks', does')) =
      let same : request ≡ request' = laws.asked words request request' asks asks' in
      does_once told request' (tells request' asks') p q s t (subst (λ (r : Request). Does told r p s) same does) does'

-- what is done is the same by any number of workers
does_by : (told : Word → Option (List ℕ)) (n : ℕ) (request : Request) (p : List ℕ) (s : ℕ) → Does told request p s → Does told (by_workers n request) p s
does_by told n (review base revision count proved) p s h = h
does_by told n (baseline base count) p s h = h
does_by told n (recheck base revision proof) p s h = h
does_by told n (replay revision witness) p s h = h
does_by told n (sample number count) p s h = h

outputs_alike : (words others : List Word) (told : Word → Option (List ℕ)) (p : List ℕ) (s : ℕ) → AskAlike words others → Outputs words told p s → Outputs others told p s
outputs_alike words others told p s alike (inl (nothing, says)) = inl (λ request asks. let back = alike.1 request asks in nothing (by_workers back.0 request) back.1, says)
outputs_alike words others told p s alike (inr (request, asks, does)) =
    let forth = alike.0 request asks in
    inr (by_workers forth.0 request, forth.1, does_by told forth.0 request p s does)

-- words have one output
abbrev OneOutput : Type 0
OneOutput = (words : List Word) (told : Word → Option (List ℕ)) (p q : List ℕ) (s t : ℕ) → TellsAsked told words → Outputs words told p s → Outputs words told q t → (p ≡ q) × (s ≡ t)

pub alike_once : OneOutput → (words others : List Word) (told : Word → Option (List ℕ)) (p q : List ℕ) (s t : ℕ) → AskAlike words others → TellsAsked told words → Outputs words told p s → Outputs others told q t → (p ≡ q) × (s ≡ t)
alike_once one words others told p q s t alike tells h g = one words told p q s t tells h (outputs_alike others words told q t (alike.1, alike.0) g)
