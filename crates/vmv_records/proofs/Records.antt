-- An act or a reply that is read is that whose bytes these are, and what was written is read.
use Rattle.std.proofs.Common.{◌≡◌, ℕ, suc, ◌^◌, ◌<◌, Bool, true, false, cond, eqb, List, [], ◌∷◌, ◌++◌, length, Option, Some, None, refl, sym, ap, subst, ◌∙◌, arith, inl, inr, ◌⊎◌}
use Rattle.std.specs.Prelude.{IsTrue, IfSome, IfNone, IfOk, Result, Ok, Err}
use Rattle.std.proofs.lemmas.Bool.{eqb-true}
use Rattle.vmv_keeper.specs.declared.act.Act.{Act}
use Rattle.vmv_keeper.specs.declared.act.Act.TheVariants.{OpenProject, AddMember, Submit, Withdraw, Accept, Waive}
use Rattle.vmv_keeper.specs.declared.reply.Reply.{Reply}
use Rattle.vmv_keeper.specs.declared.reply.Reply.TheVariants.{Opened, Members, Submitted, Withdrawn, Accepted, Waived}
use Rattle.vmv_records.specs.Spelling.{label_bytes, number_bytes, named_bytes, act_bytes, reply_bytes, IsAct, IsReply}
use Rattle.vmv_records.specs.Reading.{◌>>=◌, label_at, named_at, label_in, number_in, numbered_in, opening_in, adding_in, submitting_in, withdrawing_in, accepting_in, waiving_in, act_in, reply_of, reply_in}
use Rattle.vmv_records.proofs.Parts.{IsBytes, IsBytes-behind, found_by, some_is, label_takes, label_again, label_in_takes, label_in_again, TakesNamed, named_takes, named_again, number_takes, number_again}

-- what a choice between two gave
chosen : {A : Type 0} (b : Bool) (x y z : A) → cond b x y ≡ z → ((b ≡ true) × (x ≡ z)) ⊎ ((b ≡ false) × (y ≡ z))
chosen true x y z e = inl (refl, e)
chosen false x y z e = inr (refl, e)

-- ---- acts on a submission

record TakesNumbered (bytes owner project : List ℕ) (n : ℕ) : Type 0 where
  whole : bytes ≡ named_bytes owner project (number_bytes n)

numbered_takes : (bytes : List ℕ) (x : List ℕ × List ℕ × ℕ) → IsBytes bytes → numbered_in bytes ≡ Some x → TakesNumbered bytes x.0 x.1 x.2
unfolding numbered_in
numbered_takes bytes x fits e =
    let a = found_by (named_at bytes) (λ named. number_in named.2 >>= λ number. Some (named.0, named.1, number)) x e in
    let b = found_by (number_in a.0.2) (λ number. Some (a.0.0, a.0.1, number)) x a.2 in
    let t = named_takes bytes a.0 a.1 in
    let within : IsBytes a.0.2 = IsBytes-behind (label_bytes a.0.1) a.0.2 (IsBytes-behind (label_bytes a.0.0) (label_bytes a.0.1 ++ a.0.2) (subst IsBytes t.whole fits)) in
    let n = number_takes a.0.2 b.0 within b.1 in
    let made : List ℕ × List ℕ × ℕ = (a.0.0, a.0.1, b.0) in
    let whole : bytes ≡ named_bytes a.0.0 a.0.1 (number_bytes b.0) = t.whole ∙ ap (λ (r : List ℕ). named_bytes a.0.0 a.0.1 r) n in
    subst (λ (y : List ℕ × List ℕ × ℕ). TakesNumbered bytes y.0 y.1 y.2) (some_is made x b.2) (record { whole = whole })

numbered_again : (owner project : List ℕ) (n : ℕ) → IsAct (Withdraw owner project n) → numbered_in (named_bytes owner project (number_bytes n)) ≡ Some (owner, project, n)
unfolding numbered_in
numbered_again owner project n is = rw (named_again owner project (number_bytes n) is.0 is.1, number_again n is.2) refl

-- ---- each act

opening_takes : (bytes : List ℕ) (act : Act) → opening_in bytes ≡ Some act → act_bytes act ≡ 111 ∷ bytes
unfolding opening_in
opening_takes bytes act e =
    let a = found_by (label_at bytes) (λ name. Some (OpenProject name.0 name.1)) act e in
    subst (λ (y : Act). act_bytes y ≡ 111 ∷ bytes) (some_is (OpenProject a.0.0 a.0.1) act a.2) (ap (λ (r : List ℕ). 111 ∷ r) (sym (label_takes bytes a.0 a.1).0))

adding_takes : (bytes : List ℕ) (act : Act) → adding_in bytes ≡ Some act → act_bytes act ≡ 109 ∷ bytes
unfolding adding_in
adding_takes bytes act e =
    let a = found_by (named_at bytes) (λ named. label_in named.2 >>= λ member. Some (AddMember named.0 named.1 member)) act e in
    let b = found_by (label_in a.0.2) (λ member. Some (AddMember a.0.0 a.0.1 member)) act a.2 in
    let whole : bytes ≡ named_bytes a.0.0 a.0.1 (label_bytes b.0) = (named_takes bytes a.0 a.1).whole ∙ ap (λ (r : List ℕ). named_bytes a.0.0 a.0.1 r) (label_in_takes a.0.2 b.0 b.1).0 in
    subst (λ (y : Act). act_bytes y ≡ 109 ∷ bytes) (some_is (AddMember a.0.0 a.0.1 b.0) act b.2) (ap (λ (r : List ℕ). 109 ∷ r) (sym whole))

submitting_takes : (bytes : List ℕ) (act : Act) → submitting_in bytes ≡ Some act → act_bytes act ≡ 115 ∷ bytes
unfolding submitting_in
submitting_takes bytes act e =
    let a = found_by (named_at bytes) (λ named. Some (Submit named.0 named.1 named.2)) act e in
    subst (λ (y : Act). act_bytes y ≡ 115 ∷ bytes) (some_is (Submit a.0.0 a.0.1 a.0.2) act a.2) (ap (λ (r : List ℕ). 115 ∷ r) (sym (named_takes bytes a.0 a.1).whole))

withdrawing_takes : (bytes : List ℕ) (act : Act) → IsBytes bytes → withdrawing_in bytes ≡ Some act → act_bytes act ≡ 119 ∷ bytes
unfolding withdrawing_in
withdrawing_takes bytes act fits e =
    let a = found_by (numbered_in bytes) (λ about. Some (Withdraw about.0 about.1 about.2)) act e in
    subst (λ (y : Act). act_bytes y ≡ 119 ∷ bytes) (some_is (Withdraw a.0.0 a.0.1 a.0.2) act a.2) (ap (λ (r : List ℕ). 119 ∷ r) (sym (numbered_takes bytes a.0 fits a.1).whole))

accepting_takes : (bytes : List ℕ) (act : Act) → IsBytes bytes → accepting_in bytes ≡ Some act → act_bytes act ≡ 97 ∷ bytes
unfolding accepting_in
accepting_takes bytes act fits e =
    let a = found_by (numbered_in bytes) (λ about. Some (Accept about.0 about.1 about.2)) act e in
    subst (λ (y : Act). act_bytes y ≡ 97 ∷ bytes) (some_is (Accept a.0.0 a.0.1 a.0.2) act a.2) (ap (λ (r : List ℕ). 97 ∷ r) (sym (numbered_takes bytes a.0 fits a.1).whole))

waiving_takes : (bytes : List ℕ) (act : Act) → IsBytes bytes → waiving_in bytes ≡ Some act → act_bytes act ≡ 118 ∷ bytes
unfolding waiving_in
waiving_takes bytes act fits e =
    let a = found_by (numbered_in bytes) (λ about. Some (Waive about.0 about.1 about.2)) act e in
    subst (λ (y : Act). act_bytes y ≡ 118 ∷ bytes) (some_is (Waive a.0.0 a.0.1 a.0.2) act a.2) (ap (λ (r : List ℕ). 118 ∷ r) (sym (numbered_takes bytes a.0 fits a.1).whole))

-- the first byte is the letter that was tested, so what was read behind it is the act of the whole
lettered : (letter of : ℕ) (rest : List ℕ) (act : Act) → eqb letter of ≡ true → act_bytes act ≡ of ∷ rest → act_bytes act ≡ letter ∷ rest
lettered letter of rest act is e = rw (eqb-true letter of is) e

pub act_takes : (bytes : List ℕ) (act : Act) → IsBytes bytes → act_in bytes ≡ Some act → act_bytes act ≡ bytes
unfolding act_in
act_takes [] act fits e = absurd cc
act_takes (letter ∷ rest) act fits e =
    let behind : IsBytes rest = λ i. fits (suc i) in
    elim (chosen (eqb letter 111) _ _ (Some act) e) [
      | inl o ↦ lettered letter 111 rest act o.0 (opening_takes rest act o.1)
      | inr not_o ↦ elim (chosen (eqb letter 109) _ _ (Some act) not_o.1) [
        | inl m ↦ lettered letter 109 rest act m.0 (adding_takes rest act m.1)
        | inr not_m ↦ elim (chosen (eqb letter 115) _ _ (Some act) not_m.1) [
          | inl s ↦ lettered letter 115 rest act s.0 (submitting_takes rest act s.1)
          | inr not_s ↦ elim (chosen (eqb letter 119) _ _ (Some act) not_s.1) [
            | inl w ↦ lettered letter 119 rest act w.0 (withdrawing_takes rest act behind w.1)
            | inr not_w ↦ elim (chosen (eqb letter 97) _ _ (Some act) not_w.1) [
              | inl a ↦ lettered letter 97 rest act a.0 (accepting_takes rest act behind a.1)
              | inr not_a ↦ elim (chosen (eqb letter 118) _ _ (Some act) not_a.1) [
                | inl v ↦ lettered letter 118 rest act v.0 (waiving_takes rest act behind v.1)
                | inr not_v ↦ absurd (cc not_v.1)
              ]
            ]
          ]
        ]
      ]
    ]

pub act_again : (act : Act) → IsAct act → act_in (act_bytes act) ≡ Some act
unfolding act_in opening_in adding_in submitting_in withdrawing_in accepting_in waiving_in
act_again (OpenProject name text) is = rw (label_again name text is) refl
act_again (AddMember owner project member) is = rw (named_again owner project (label_bytes member) is.0 is.1, label_in_again member is.2) refl
act_again (Submit owner project text) is = rw (named_again owner project text is.0 is.1) refl
act_again (Withdraw owner project n) is = rw (numbered_again owner project n is) refl
act_again (Accept owner project n) is = rw (numbered_again owner project n is) refl
act_again (Waive owner project n) is = rw (numbered_again owner project n is) refl

-- what an attempt that read the act in some bytes found
pub act_found : {E : Type 0} (bytes : List ℕ) (r : Result (Option Act) E) → IsBytes bytes → IfOk r (λ found. found ≡ act_in bytes) → IfOk r (λ found. IfSome found (λ act. act_bytes act ≡ bytes))
act_found bytes (Err e) fits read = tt
act_found bytes (Ok None) fits read = tt
act_found bytes (Ok (Some act)) fits read = act_takes bytes act fits (sym read)

pub act_only : {E : Type 0} (bytes : List ℕ) (r : Result (Option Act) E) → IfOk r (λ found. found ≡ act_in bytes) → (act : Act) → IsAct act → act_bytes act ≡ bytes → IfOk r (λ found. found ≡ Some act)
act_only bytes (Err e) read act is of = tt
act_only bytes (Ok found) read act is of = read ∙ ap act_in (sym of) ∙ act_again act is

-- ---- replies

of_letter : (letter of n : ℕ) (rest : List ℕ) (reply made : Reply) → eqb letter of ≡ true → ◌≡◌ {A = Option Reply} (Some made) (Some reply) → reply_bytes made ≡ Some (of ∷ number_bytes n) → rest ≡ number_bytes n → reply_bytes reply ≡ Some (letter ∷ rest)
of_letter letter of n rest reply made is e bytes-is rest-is =
    subst (λ (y : Reply). reply_bytes y ≡ Some (letter ∷ rest)) (some_is made reply e) (rw (eqb-true letter of is, rest-is) bytes-is)

pub reply_takes : (bytes : List ℕ) (reply : Reply) → IsBytes bytes → reply_in bytes ≡ Some reply → reply_bytes reply ≡ Some bytes
unfolding reply_in
reply_takes [] reply fits e = absurd cc
reply_takes (letter ∷ rest) reply fits e =
    let a = found_by (number_in rest) (reply_of letter) reply e in
    let t = number_takes rest a.0 (λ i. fits (suc i)) a.1 in
    elim (chosen (eqb letter 111) _ _ (Some reply) a.2) [
      | inl o ↦ of_letter letter 111 a.0 rest reply (Opened a.0) o.0 o.1 refl t
      | inr not_o ↦ elim (chosen (eqb letter 109) _ _ (Some reply) not_o.1) [
        | inl m ↦ of_letter letter 109 a.0 rest reply (Members a.0) m.0 m.1 refl t
        | inr not_m ↦ elim (chosen (eqb letter 115) _ _ (Some reply) not_m.1) [
          | inl s ↦ of_letter letter 115 a.0 rest reply (Submitted a.0) s.0 s.1 refl t
          | inr not_s ↦ elim (chosen (eqb letter 119) _ _ (Some reply) not_s.1) [
            | inl w ↦ of_letter letter 119 a.0 rest reply (Withdrawn a.0) w.0 w.1 refl t
            | inr not_w ↦ elim (chosen (eqb letter 97) _ _ (Some reply) not_w.1) [
              | inl c ↦ of_letter letter 97 a.0 rest reply (Accepted a.0) c.0 c.1 refl t
              | inr not_c ↦ elim (chosen (eqb letter 118) _ _ (Some reply) not_c.1) [
                | inl v ↦ of_letter letter 118 a.0 rest reply (Waived a.0) v.0 v.1 refl t
                | inr not_v ↦ absurd (cc not_v.1)
              ]
            ]
          ]
        ]
      ]
    ]

again_of : (reply : Reply) → IsReply reply → (reply_bytes reply >>= reply_in) ≡ Some reply
unfolding reply_in
again_of (Opened n) is = rw (number_again n is) refl
again_of (Members n) is = rw (number_again n is) refl
again_of (Submitted n) is = rw (number_again n is) refl
again_of (Withdrawn n) is = rw (number_again n is) refl
again_of (Accepted n) is = rw (number_again n is) refl
again_of (Waived n) is = rw (number_again n is) refl
again_of _ is = absurd is

pub reply_again : (reply : Reply) (bytes : List ℕ) → IsReply reply → reply_bytes reply ≡ Some bytes → reply_in bytes ≡ Some reply
reply_again reply bytes is e = sym (ap (λ (o : Option (List ℕ)). o >>= reply_in) e) ∙ again_of reply is

pub reply_found : (bytes : List ℕ) (r : Option Reply) → IsBytes bytes → r ≡ reply_in bytes → IfSome r (λ reply. reply_bytes reply ≡ Some bytes)
reply_found bytes None fits read = tt
reply_found bytes (Some reply) fits read = reply_takes bytes reply fits (sym read)
