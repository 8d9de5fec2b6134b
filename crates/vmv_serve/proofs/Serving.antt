-- One exchange after another makes a service.
use Rattle.std.proofs.Common.{◌≡◌, ◌≢◌, inl, inr, ℕ, ◌+◌, List, [], ◌∷◌, ◌++◌, length, map, Option, Some, None, Ok, Err, OnErr, refl, sym, ap, subst, ◌∙◌, arith}
use Rattle.std.specs.Option.{option_map}
use Rattle.std.proofs.lemmas.List.{append_assoc, append-nil, length_push, map-append}
use Rattle.vmv_edge.specs.Outside.{Rose, Appended, AppendedFront}
use Rattle.vmv_keeper.specs.declared.judge.Inspected.{Inspected}
use Rattle.vmv_keeper.specs.declared.judge.Compared.{Compared}
use Rattle.vmv_keeper.specs.Tables.{Tables}
use Rattle.vmv_desk.specs.declared.desk.StartFault.{StartFault}
use Rattle.vmv_desk.specs.declared.desk.StartFault.TheVariants.{Failed as StartFailed, Memory as NoMemory}
use Rattle.vmv_door.specs.Links.{Links, IsGiven, with_back}
use Rattle.vmv_vault.specs.Given.{IsGivenAs}
use Rattle.vmv_request_reading.specs.Inputs.{OfInput}
use Rattle.vmv_http.specs.declared.served.Served.{Served}
use Rattle.vmv_http.specs.declared.served.Served.TheVariants.{Answered, CutOff, Memory}
use Rattle.vmv_http.specs.declared.served.LinkEnd.TheVariants.{Ended, ReadFailed, WriteFailed}
use Rattle.vmv_http.specs.Requests.{EndsEarly}
use Rattle.vmv_http.specs.Exchanges.{Answer, status_of, text_of, IsCounted}
use Rattle.vmv_http.specs.Serving.{IfAnswered, IsAnswerBy, IsUnansweredBy}
use Rattle.vmv_serve.specs.Serves.{Seen, Stored, StaysWell, IsAnswer, Leaves, answered, cut, unhandled, without_memory, Serves, none, one_more}
use Rattle.vmv_serve.specs.Services.{ServesLinks, ServesNext}

never : (before now : ℕ) → before ≡ 0 → now ≡ 0 → Rose before now → ⊥
never before now b n (inl less) = omega arith
never before now b n (inr last) = omega arith

risen : (before now : ℕ) → Rose before now → now ≢ 0
risen before now (inl less) at_zero = omega arith
risen before now (inr last) at_zero = omega arith

-- a count that stands at 0 tells no 503
pub no_fault : (status before now : ℕ) → before ≡ 0 → now ≡ 0 → IsCounted status before now → status ≢ 503
no_fault status before now b n counted is =
    let P : ℕ → Type 0 = λ s. IsCounted s before now in
    let rose : Rose before now = subst P is counted in
    never before now b n rose

stored : {K : Type 0} (st : K → Stored) (old new : K) (answer : Answer) → OnErr answer (new ≡ old) → OnErr answer (st new ≡ st old)
stored st old new (Ok reply) h = tt
stored st old new (Err refusal) h = ap st h

-- a count that isn't 0 isn't 0 either where a desk couldn't start over its store
pub kept_count : (fault : StartFault) (before now : ℕ) → (fault ≡ StartFailed → Rose before now) → (fault ≡ NoMemory → now ≡ before) → before ≢ 0 → now ≢ 0
kept_count StartFailed before now failed memory some at_zero = risen before now (failed refl) at_zero
kept_count NoMemory before now failed memory some at_zero = some (sym (memory refl) ∙ at_zero)

-- rows are given as they are told
pub given_self : (told : Option Tables) → IsGivenAs told told
given_self None = tt
given_self (Some tables) = refl

-- what is told of a store, part by part
pub stored_as : (rows other : Option Tables) (faults count : ℕ) → rows ≡ other → faults ≡ count
    → ◌≡◌ {A = Stored} (record { rows = rows; faults = faults }) (record { rows = other; faults = count })
stored_as rows other faults count same stands =
    let of_rows : Option Tables → Stored = λ r. record { rows = r; faults = faults } in
    let of_count : ℕ → Stored = λ n. record { rows = other; faults = n } in
    ap of_rows same ∙ ap of_count stands

-- the link and the store that a served link leaves, by how it was served
pub leaves_of : (I : List ℕ → Inspected → Type 0) (C : List ℕ → List ℕ → Compared → Type 0) {K : Type 0} (st : K → Stored) (old new : K) (link left : Seen) (served : Served)
    → IfAnswered served (λ status. (answer : Answer) × (status ≡ status_of answer) × Appended link.written (text_of answer) left.written
    × IsAnswerBy I C link.input (st old).rows (st new).rows answer × OnErr answer (new ≡ old))
    → IfAnswered served (λ status. IsCounted status (st old).faults (st new).faults)
    → (served ≡ CutOff Ended → OfInput link.input EndsEarly)
    → (served ≡ CutOff Ended → (new ≡ old) × (left.written ≡ link.written))
    → (served ≡ CutOff ReadFailed → Rose link.faults left.faults)
    → (served ≡ CutOff ReadFailed → (new ≡ old) × (left.written ≡ link.written))
    → (served ≡ CutOff WriteFailed → Rose link.faults left.faults)
    → (served ≡ CutOff WriteFailed → (answer : Answer) × AppendedFront link.written (text_of answer) left.written
    × IsAnswerBy I C link.input (st old).rows (st new).rows answer × OnErr answer (new ≡ old) × IsCounted (status_of answer) (st old).faults (st new).faults)
    → (served ≡ Memory → left.written ≡ link.written)
    → (served ≡ Memory → IsUnansweredBy I C link.input (st old).rows (st new).rows)
    → Leaves I C ((keeper : K) → (st keeper).faults ≡ 0) link left (st old) (st new)
leaves_of I C st old new link left (Answered status) whole counted ended e2 rf rf2 wf wf2 m m2 =
    let P : ℕ → Type 0 = λ s. IsCounted s (st old).faults (st new).faults in
    let by = subst P whole.1 counted in
    answered whole.0 whole.2 (record { asked = whole.3; refused = stored st old new whole.0 whole.4; counted = by; steady = λ steady. no_fault (status_of whole.0) _ _ (steady old) (steady new) by })
leaves_of I C st old new link left (CutOff Ended) whole counted ended e2 rf rf2 wf wf2 m m2 =
    unhandled (inl (ended refl)) (e2 refl).1 (ap st (e2 refl).0)
leaves_of I C st old new link left (CutOff ReadFailed) whole counted ended e2 rf rf2 wf wf2 m m2 =
    unhandled (inr (rf refl)) (rf2 refl).1 (ap st (rf2 refl).0)
leaves_of I C st old new link left (CutOff WriteFailed) whole counted ended e2 rf rf2 wf wf2 m m2 =
    let w = wf2 refl in
    cut w.0 (wf refl) w.1 (record { asked = w.2; refused = stored st old new w.0 w.3; counted = w.4; steady = λ steady. no_fault (status_of w.0) _ _ (steady old) (steady new) w.4 })
leaves_of I C st old new link left Memory whole counted ended e2 rf rf2 wf wf2 m m2 = without_memory (m refl) (m2 refl)

module _ {L : Type 0} (I : List ℕ → Inspected → Type 0) (C : List ℕ → List ℕ → Compared → Type 0) (Steady : Type 0) (seen : L → Seen) where
  -- a link that was given, served and given back is the next of those told
  pub next_of : (E : Type 0) (link left : L) (before now : Stored) (start mid end : Option (Links L)) → IsGiven {L = L} {E = E} (Ok (Some link)) start mid → end ≡ option_map (with_back left) mid
      → Leaves I C Steady (seen link) (seen left) before now → StaysWell I C before now → ServesNext I C Steady seen before now start end
  next_of E link left before now None mid end given back leaves well = back ∙ ap (option_map (with_back left)) given
  next_of E link left before now (Some links) mid end given back leaves well =
      let P : Option (Links L) → Type 0 = λ t. ServesNext I C Steady seen before now (Some links) t in
      subst P (sym (back ∙ ap (option_map (with_back left)) given.2)) (link, left, given.1, refl, leaves, well)

  -- no link was served
  pub none_of : (start : Stored) (told : Option (Links L)) → ServesLinks I C Steady seen 0 start start told told
  none_of start None = tt
  none_of start (Some links) = ([], [], refl, sym (append-nil links.back), refl, none)

  -- nothing more was served
  pub same_of : (n : ℕ) (start before now : Stored) (first mid end : Option (Links L)) → end ≡ mid → now ≡ before → ServesLinks I C Steady seen n start before first mid
      → ServesLinks I C Steady seen n start now first end
  same_of n start before now first mid end told kept h =
      let P : Stored → Type 0 = λ s. ServesLinks I C Steady seen n start s first end in
      let Q : Option (Links L) → Type 0 = λ t. ServesLinks I C Steady seen n start before first t in
      subst P (sym kept) (subst Q (sym told) h)

  -- the rows and the count of the store at the start, told in another way
  pub start_of : (n : ℕ) (start other now : Stored) (first end : Option (Links L)) → start ≡ other → ServesLinks I C Steady seen n start now first end
      → ServesLinks I C Steady seen n other now first end
  start_of n start other now first end is h =
      let P : Stored → Type 0 = λ s. ServesLinks I C Steady seen n s now first end in
      subst P is h

  -- one more link was served
  pub more_of : (n : ℕ) (start before now : Stored) (first mid end : Option (Links L)) → ServesLinks I C Steady seen n start before first mid
      → ServesNext I C Steady seen before now mid end → ServesLinks I C Steady seen (n + 1) start now first end
  more_of n start before now None mid end h k = tt
  more_of n start before now (Some links) None end h k = absurd h
  more_of n start before now (Some links) (Some told) None h k = absurd k
  more_of n start before now (Some links) (Some told) (Some later) h k =
      let taken = h.0 in let back = h.1 in
      let P : List Seen → Type 0 = λ xs. Serves I C Steady start xs (map seen (back ++ k.1 ∷ [])) now in
      let Q : List Seen → Type 0 = λ xs. Serves I C Steady start (map seen taken ++ seen k.0 ∷ []) xs now in
      let given : links.left ≡ (taken ++ k.0 ∷ []) ++ later.left = h.2 ∙ ap (λ l. taken ++ l) k.2 ∙ sym (append_assoc taken (k.0 ∷ []) later.left) in
      let kept : later.back ≡ links.back ++ (back ++ k.1 ∷ []) = k.3 ∙ ap (λ l. l ++ k.1 ∷ []) h.3 ∙ append_assoc links.back back (k.1 ∷ []) in
      let size : length (taken ++ k.0 ∷ []) ≡ n + 1 = length_push taken k.0 ∙ ap (λ m. m + 1) h.4 in (
        taken ++ k.0 ∷ [],
        back ++ k.1 ∷ [],
        given,
        kept,
        size,
        subst P (sym (map-append seen taken (k.0 ∷ []))) (subst Q (sym (map-append seen back (k.1 ∷ []))) (one_more (map seen taken) (map seen back) (seen k.0) (seen k.1) before now h.5 k.4 k.5)),
      )

-- what holds over a store that is steady holds where steadiness is told in a stronger way

module _ (I : List ℕ → Inspected → Type 0) (C : List ℕ → List ℕ → Compared → Type 0) (Steady Told : Type 0) (by : Told → Steady) where
  answer_as : (link : Seen) (before now : Stored) (answer : Answer) → IsAnswer I C Steady link before now answer → IsAnswer I C Told link before now answer
  answer_as link before now answer h = record { asked = h.asked; refused = h.refused; counted = h.counted; steady = λ told. h.steady (by told) }

  leaves_as : (link left : Seen) (before now : Stored) → Leaves I C Steady link left before now → Leaves I C Told link left before now
  leaves_as link left before now (answered answer whole is) = answered answer whole (answer_as link before now answer is)
  leaves_as link left before now (cut answer rose front is) = cut answer rose front (answer_as link before now answer is)
  leaves_as link left before now (unhandled why same kept) = unhandled why same kept
  leaves_as link left before now (without_memory same un) = without_memory same un

  serves_as : (start : Stored) (links back : List Seen) (now : Stored) → Serves I C Steady start links back now → Serves I C Told start links back now
  serves_as start _ _ _ none = none
  serves_as start _ _ _ (one_more links back link left before now h leaves well) =
      one_more links back link left before now (serves_as start links back before h) (leaves_as link left before now leaves) well

  pub links_as : {L : Type 0} (seen : L → Seen) (n : ℕ) (before now : Stored) (first end : Option (Links L)) → ServesLinks I C Steady seen n before now first end
      → ServesLinks I C Told seen n before now first end
  links_as seen n before now None end h = tt
  links_as seen n before now (Some links) None h = absurd h
  links_as seen n before now (Some links) (Some told) h = (h.0, h.1, h.2, h.3, h.4, serves_as before (map seen h.0) (map seen h.1) now h.5)
