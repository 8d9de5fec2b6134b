-- A command is handled by its step, or a fault leaves the rows as they were.
use Rattle.std.proofs.Common.{IsTrue, IsUtf8, ◌∙◌, ◌≡◌, ◌≤◌, ℕ, zero, suc, List, [], ◌∷◌, ◌++◌, length, take, arith, ap, inl, inr, Option, Some, None, Result, Ok, Err, IfOk, OnErr, refl, sym, subst}
use Rattle.vmv_keeper.specs.declared.act.Command.{Command}
use Rattle.vmv_keeper.specs.declared.reply.Reply.{Reply}
use Rattle.vmv_keeper.specs.declared.reply.Reply.TheVariants.{StoreFault, Memory as NoMemory}
use Rattle.vmv_keeper.specs.declared.fault.KeepFault.{KeepFault}
use Rattle.vmv_keeper.specs.declared.fault.KeepFault.TheVariants.{Failed, Memory}
use Rattle.vmv_keeper.specs.declared.judge.Inspected.{Inspected}
use Rattle.vmv_keeper.specs.declared.judge.Compared.{Compared}
use Rattle.vmv_keeper.specs.Judging.{parses, HasVerdict}
use Rattle.vmv_keeper.specs.Tables.{Tables, no_rows}
use Rattle.vmv_keeper.specs.Outside.{OfTold}
use Rattle.vmv_keeper.specs.Formed.{AreFormed}
use Rattle.vmv_desk_rules.specs.Causes.{Meaning}
use Rattle.vmv_desk_rules.specs.Step.{Step, Handled}
use Rattle.vmv_desk_rules.specs.Well.{Well}
use Rattle.vmv_desk_rules.specs.Keeping.{ReadsUtf8}
use Rattle.vmv_desk_rules.specs.Runs.{Turn, Runs, RanTo}
use Rattle.vmv_desk_rules.specs.Chain.{KeepsChains}
use Rattle.vmv_desk_rules.specs.Heard.{BySaid, HandledBy, WellBy, RanToBy}
use Rattle.vmv_desk_rules.proofs.ChainLemmas.{chains_kept}
use Rattle.vmv_desk_rules.proofs.HeardLemmas.{by_any, by_map, by_two, meant}
use Rattle.vmv_desk_rules.proofs.WellLemmas.{Well-step}
use Rattle.vmv_desk_rules.proofs.BegunLemmas.{Well-none}
use Rattle.vmv_desk.specs.AtHand.{IsStepped}

pub handled_of : (told then : Option Tables) (J : Meaning) (command : Command) (result : Result Reply KeepFault) (reply : Reply)
    → IfOk result (λ r. OfTold told AreFormed → IsStepped J told command then r) → OnErr result (then ≡ told) → IfOk result (λ r. reply ≡ r)
    → (result ≡ Err Failed → reply ≡ StoreFault) → (result ≡ Err Memory → reply ≡ NoMemory)
    → OfTold told (λ tables. AreFormed tables → Handled J tables command then reply)
handled_of None then J command result reply stepped kept ok failed memory = tt
handled_of (Some tables) then J command (Ok r) reply stepped kept ok failed memory = λ formed.
    let h = stepped formed in
    let P : Reply → Type 0 = λ x. Step J tables command h.0 x in inl (h.0, h.1, subst P (sym ok) h.2)
handled_of (Some tables) then J command (Err Failed) reply stepped kept ok failed memory = λ formed. inr (kept, inl (failed refl))
handled_of (Some tables) then J command (Err Memory) reply stepped kept ok failed memory = λ formed. inr (kept, inr (memory refl))

-- rows that are well stay so
handled_well : (tables : Tables) (then : Option Tables) (J : Meaning) (command : Command) (reply : Reply) → ReadsUtf8 J → Well J tables
    → Handled J tables command then reply → OfTold then (Well J)
handled_well tables then J command reply utf8 well (inl step) =
    let P : Option Tables → Type 0 = λ t. OfTold t (Well J) in subst P (sym step.1) (Well-step J tables step.0 command reply utf8 well step.2)
handled_well tables then J command reply utf8 well (inr kept) = let P : Option Tables → Type 0 = λ t. OfTold t (Well J) in subst P (sym kept.0) well

-- what is handled in one way by a meaning is handled by a judge
pub handled_by : (I : List ℕ → Inspected → Type 0) (C : List ℕ → List ℕ → Compared → Type 0) (told then : Option Tables) (command : Command) (result : Result Reply KeepFault) (reply : Reply)
    → IfOk result (λ r. BySaid I C (λ J. OfTold told AreFormed → IsStepped J told command then r)) → OnErr result (then ≡ told) → IfOk result (λ r. reply ≡ r)
    → (result ≡ Err Failed → reply ≡ StoreFault) → (result ≡ Err Memory → reply ≡ NoMemory)
    → OfTold told (λ tables. AreFormed tables → HandledBy I C tables command then reply)
handled_by I C None then command result reply stepped kept ok failed memory = tt
handled_by I C (Some tables) then command (Ok r) reply stepped kept ok failed memory = λ formed.
    by_map I C (λ J. AreFormed tables → IsStepped J (Some tables) command then r) (λ J. Handled J tables command then reply)
    (λ J h. handled_of (Some tables) then J command (Ok r) reply h kept ok failed memory formed) stepped
handled_by I C (Some tables) then command (Err e) reply stepped kept ok failed memory = λ formed.
    by_any I C (λ J. Handled J tables command then reply) (λ J. handled_of (Some tables) then J command (Err e) reply tt kept ok failed memory formed)

of_each : (I : List ℕ → Inspected → Type 0) (C : List ℕ → List ℕ → Compared → Type 0) (P : Meaning → Tables → Type 0) (then : Option Tables)
    → BySaid I C (λ J. OfTold then (P J)) → OfTold then (λ t. BySaid I C (λ J. P J t))
of_each I C P None by = tt
of_each I C P (Some t) by = by

pub chains_of : (told then : Option Tables) (W Keeps : Tables → Type 0) → ((tables : Tables) → W tables → Keeps tables)
    → OfTold told (λ tables. W tables → OfTold then W) → OfTold told (λ tables. W tables → OfTold then Keeps)
chains_of None then W Keeps keep wells = tt
chains_of (Some tables) None W Keeps keep wells = λ well. tt
chains_of (Some tables) (Some new) W Keeps keep wells = λ well. keep new (wells well)

-- one more command

runs_more : (J : Meaning) (tables mid new : Tables) (commands : List Command) (replies : List Reply) (command : Command) (reply : Reply)
    → Runs J tables commands mid replies → Turn J mid command new reply → Runs J tables (commands ++ command ∷ []) new (replies ++ reply ∷ [])
runs_more J tables mid new [] replies command reply runs turn =
    let P : Tables → Type 0 = λ t. Turn J t command new reply in
    (new, reply, [], subst P runs.0 turn, (refl, refl), ap (λ l. l ++ reply ∷ []) runs.1)
runs_more J tables mid new (first ∷ commands) replies command reply runs turn =
    (runs.0, runs.1, runs.2 ++ reply ∷ [], runs.3, runs_more J runs.0 mid new commands runs.2 command reply runs.4 turn, ap (λ l. l ++ reply ∷ []) runs.5)

ran_step : (J : Meaning) (tables mid : Tables) (then : Option Tables) (commands : List Command) (replies : List Reply) (command : Command) (reply : Reply) → ReadsUtf8 J
    → Well J mid → Runs J tables commands mid replies → Handled J mid command then reply → RanTo J tables (commands ++ command ∷ []) then (replies ++ reply ∷ [])
ran_step J tables mid then commands replies command reply utf8 well runs (inl step) =
    (step.0, step.1, Well-step J mid step.0 command reply utf8 well step.2, runs_more J tables mid step.0 commands replies command reply runs (inl step.2))
ran_step J tables mid then commands replies command reply utf8 well runs (inr kept) =
    (mid, kept.0, well, runs_more J tables mid mid commands replies command reply runs (inr (refl, kept.1)))

take-nil : {X : Type 0} (n : ℕ) → ◌≡◌ {A = List X} (take n []) []
take-nil zero = refl
take-nil (suc n) = refl

pub take_past : {X : Type 0} (n : ℕ) (xs : List X) → length xs ≤ n → take n xs ≡ xs
take_past n [] le = take-nil n
take_past zero (x ∷ xs) le = absurd (omega arith)
take_past (suc n) (x ∷ xs) le = ap (λ l. x ∷ l) (take_past n xs (omega arith))

same_some : (told : Option Tables) (a b : Tables) → told ≡ Some a → told ≡ Some b → a ≡ b
same_some told a b h k = let both : Some a ≡ Some b = sym h ∙ k in cc both

module _ (I : List ℕ → Inspected → Type 0) (C : List ℕ → List ℕ → Compared → Type 0)
    (one_inspected : (text : List ℕ) (a b : Inspected) → I text a → I text b → a ≡ b)
    (one_compared : (base revision : List ℕ) (a b : Compared) → C base revision a → C base revision b → a ≡ b)
    (utf8 : (text : List ℕ) (said : Inspected) → I text said → IsTrue (parses said) → IsUtf8 text) where
  formed_by : (tables : Tables) → WellBy I C tables → AreFormed tables
  formed_by tables well = (meant I C one_inspected one_compared utf8 (λ J. Well J tables) well).2.formed

  pub well_by : (told then : Option Tables) (command : Command) (reply : Reply) → OfTold told (λ tables. AreFormed tables → HandledBy I C tables command then reply)
      → OfTold told (λ tables. WellBy I C tables → OfTold then (WellBy I C))
  well_by None then command reply handled = tt
  well_by (Some tables) then command reply handled = λ well.
      of_each I C Well then
      (by_two I C (λ J. Well J tables) (λ J. Handled J tables command then reply) (λ J. OfTold then (Well J))
      (λ J reads w h. handled_well tables then J command reply reads w h) well (handled (formed_by tables well)))

  -- rows that are well keep their chains
  pub chains_by : (Keeps : List ℕ → List ℕ → Type 0) → ((text : List ℕ) (said : Inspected) → I text said → IsTrue (parses said) → Keeps text text)
      → ((a b c : List ℕ) → Keeps a b → Keeps b c → Keeps a c) → ((a b : List ℕ) (said : Compared) → C a b said → HasVerdict 1 said → Keeps a b)
      → (tables : Tables) → WellBy I C tables → KeepsChains Keeps tables
  chains_by Keeps same chained sound tables well =
      let it = meant I C one_inspected one_compared utf8 (λ J. Well J tables) well in
      let J = it.0 in
      chains_kept J Keeps (λ text h. same text (J.inspected text) (it.1.inspected text h) h) chained (λ a b h. sound a b (J.compared a b) (it.1.compared a b h) h) tables it.2

  handled_at : (now then : Option Tables) (new : Tables) (command : Command) (reply : Reply) → now ≡ Some new → AreFormed new
      → OfTold now (λ tables. AreFormed tables → HandledBy I C tables command then reply) → BySaid I C (λ J. Handled J new command then reply)
  handled_at now then new command reply is formed handled =
      let P : Option Tables → Type 0 = λ t. OfTold t (λ tables. AreFormed tables → HandledBy I C tables command then reply) in subst P is handled formed

  pub ran_more_by : (told now then : Option Tables) (commands : List Command) (replies : List Reply) (command : Command) (reply : Reply)
      → OfTold told (λ tables. WellBy I C tables → RanToBy I C tables commands now replies) → OfTold now (λ tables. AreFormed tables → HandledBy I C tables command then reply)
      → OfTold told (λ tables. WellBy I C tables → RanToBy I C tables (commands ++ command ∷ []) then (replies ++ reply ∷ []))
  ran_more_by None now then commands replies command reply ran handled = tt
  ran_more_by (Some tables) now then commands replies command reply ran handled = λ well.
      let it = (meant I C one_inspected one_compared utf8 (λ J. RanTo J tables commands now replies) (ran well)).2 in
      by_two I C (λ J. RanTo J tables commands now replies) (λ J. Handled J it.0 command then reply) (λ J. RanTo J tables (commands ++ command ∷ []) then (replies ++ reply ∷ []))
      (λ J reads so_far h.
      let P : Tables → Type 0 = λ t. Handled J t command then reply in
      ran_step J tables so_far.0 then commands replies command reply reads so_far.2 so_far.3 (subst P (same_some now it.0 so_far.0 it.1 so_far.1) h))
      (ran well) (handled_at now then it.0 command reply it.1 it.2.formed handled)

  pub ran_none_by : (told : Option Tables) → OfTold told (λ tables. WellBy I C tables → RanToBy I C tables [] told [])
  ran_none_by None = tt
  ran_none_by (Some tables) = λ well. by_map I C (λ J. Well J tables) (λ J. RanTo J tables [] (Some tables) []) (λ J w. (tables, refl, w, (refl, refl))) well

  -- a history that begins without rows
  pub ran_begun_by : (told now : Option Tables) (commands : List Command) (replies : List Reply) → OfTold told (λ tables. WellBy I C tables → RanToBy I C tables commands now replies)
      → told ≡ Some no_rows → RanToBy I C no_rows commands now replies
  ran_begun_by told now commands replies ran none =
      let P : Option Tables → Type 0 = λ t. OfTold t (λ tables. WellBy I C tables → RanToBy I C tables commands now replies) in
      subst P none ran (by_any I C (λ J. Well J no_rows) Well-none)
