use Rattle.std.proofs.Common.{◌≡◌, Some, None, sym, ◌∙◌, ap}
use Rattle.vmv_text.specs.declared.token.Token.TheVariants.{Named, AssertWord, IfWord, RepeatWord}
use Rattle.vmv_text.specs.Reading.{Any, first_of}
use Rattle.vmv_text.specs.Pieces.{IsPiece, IsPieceBehind, DoesOpen}
use Rattle.vmv_text.proofs.Steps.{carried_with, shorter_with}
use Rattle.vmv_text.proofs.Pieces.{piece-behind, piece_stops}
use Rattle.vmv_text.proofs.cursor.Cursor.piece.Goals as goal

pub returns-in_default-clause-reads : goal.returns-in_default-clause-reads
returns-in_default-clause-reads c =
    let none : first_of c.args.self.now ≡ None = sym c.peek.ensures ∙ c.in_default.is in
    piece_stops _ (λ x h. cc (none, h)) (λ h. cc (none, h)) (λ h. cc (none, h)) (λ h. cc (none, h))

pub returns-in_default-first : goal.returns-in_default-first
returns-in_default-first c =
    let some : first_of c.args.self.now ≡ Some c.in-Some.first = sym c.peek.ensures ∙ c.in-Some.is in
    record {
      reads = piece_stops _ (λ x h. c.in_default-first.not-Named x (cc (some, h))) (λ h. c.in_default-first.not-AssertWord (cc (some, h))) (λ h. c.in_default-first.not-IfWord (cc (some, h))) (λ h. c.in_default-first.not-RepeatWord (cc (some, h)));
      shorter = tt;
    }

pub returns-in-Named-clause-reads : goal.returns-in-Named-clause-reads
returns-in-Named-clause-reads c =
    carried_with DoesOpen IsPiece (IsPieceBehind (Named c.in-Named.to)) Any c.flat_assignment.result _ _ c.flat_assignment.new.self
    (piece-behind (Named c.in-Named.to) _ _ (sym c.peek.ensures ∙ (c.in-Some.is ∙ ap Some c.in-Named.is)) c.skip.ensures.exact) c.flat_assignment.ensures

pub returns-in-Named-clause-shorter : goal.returns-in-Named-clause-shorter
returns-in-Named-clause-shorter c =
    shorter_with DoesOpen (IsPieceBehind (Named c.in-Named.to)) Any c.flat_assignment.result (Named c.in-Named.to) c.args.self.now c.skip.new.self c.flat_assignment.new.self (sym c.peek.ensures ∙ (c.in-Some.is ∙ ap Some c.in-Named.is)) c.skip.ensures.exact c.flat_assignment.ensures

pub returns-in-AssertWord-clause-reads : goal.returns-in-AssertWord-clause-reads
returns-in-AssertWord-clause-reads c =
    carried_with DoesOpen IsPiece (IsPieceBehind AssertWord) Any c.flat_assertion.result _ _ c.flat_assertion.new.self
    (piece-behind AssertWord _ _ (sym c.peek.ensures ∙ (c.in-Some.is ∙ ap Some c.in-AssertWord.is)) c.skip-in-AssertWord.ensures.exact) c.flat_assertion.ensures

pub returns-in-AssertWord-clause-shorter : goal.returns-in-AssertWord-clause-shorter
returns-in-AssertWord-clause-shorter c =
    shorter_with DoesOpen (IsPieceBehind AssertWord) Any c.flat_assertion.result AssertWord c.args.self.now c.skip-in-AssertWord.new.self c.flat_assertion.new.self (sym c.peek.ensures ∙ (c.in-Some.is ∙ ap Some c.in-AssertWord.is)) c.skip-in-AssertWord.ensures.exact c.flat_assertion.ensures

pub returns-in-IfWord-clause-reads : goal.returns-in-IfWord-clause-reads
returns-in-IfWord-clause-reads c =
    carried_with DoesOpen IsPiece (IsPieceBehind IfWord) Any c.choice_front.result _ _ c.choice_front.new.self
    (piece-behind IfWord _ _ (sym c.peek.ensures ∙ (c.in-Some.is ∙ ap Some c.in-IfWord.is)) c.skip-in-IfWord.ensures.exact) c.choice_front.ensures

pub returns-in-IfWord-clause-shorter : goal.returns-in-IfWord-clause-shorter
returns-in-IfWord-clause-shorter c =
    shorter_with DoesOpen (IsPieceBehind IfWord) Any c.choice_front.result IfWord c.args.self.now c.skip-in-IfWord.new.self c.choice_front.new.self (sym c.peek.ensures ∙ (c.in-Some.is ∙ ap Some c.in-IfWord.is)) c.skip-in-IfWord.ensures.exact c.choice_front.ensures

pub returns-in-RepeatWord-clause-reads : goal.returns-in-RepeatWord-clause-reads
returns-in-RepeatWord-clause-reads c =
    carried_with DoesOpen IsPiece (IsPieceBehind RepeatWord) Any c.loop_front.result _ _ c.loop_front.new.self
    (piece-behind RepeatWord _ _ (sym c.peek.ensures ∙ (c.in-Some.is ∙ ap Some c.in-RepeatWord.is)) c.skip-in-RepeatWord.ensures.exact) c.loop_front.ensures

pub returns-in-RepeatWord-clause-shorter : goal.returns-in-RepeatWord-clause-shorter
returns-in-RepeatWord-clause-shorter c =
    shorter_with DoesOpen (IsPieceBehind RepeatWord) Any c.loop_front.result RepeatWord c.args.self.now c.skip-in-RepeatWord.new.self c.loop_front.new.self (sym c.peek.ensures ∙ (c.in-Some.is ∙ ap Some c.in-RepeatWord.is)) c.skip-in-RepeatWord.ensures.exact c.loop_front.ensures
