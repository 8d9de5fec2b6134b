use Rattle.std.proofs.Common.{◌≡◌, Some, None, sym, ◌∙◌, ap}
use Rattle.vmv_text.specs.Parts.{IsItemPart}
use Rattle.vmv_text.specs.declared.token.Token.TheVariants.{OutsideWord, HelperWord, EntryWord}
use Rattle.vmv_text.specs.Grammar.{IsItem}
use Rattle.vmv_text.specs.Reading.{Any, IsItemBehind, first_of}
use Rattle.vmv_text.proofs.Steps.{carried_with, shorter_with}
use Rattle.vmv_text.proofs.Items.{item-behind, item_stops}
use Rattle.vmv_text.proofs.cursor.Cursor.item.Goals as goal

pub returns-in_default-clause-reads : goal.returns-in_default-clause-reads
returns-in_default-clause-reads c =
    let none : first_of c.args.self.now ≡ None = sym c.peek.ensures ∙ c.in_default.is in
    item_stops _ (λ h. cc (none, h)) (λ h. cc (none, h)) (λ h. cc (none, h))

pub returns-in_default-word : goal.returns-in_default-word
returns-in_default-word c =
    let some : first_of c.args.self.now ≡ Some c.in-Some.word = sym c.peek.ensures ∙ c.in-Some.is in
    record {
      reads = item_stops _ (λ h. c.in_default-word.not-OutsideWord (cc (some, h))) (λ h. c.in_default-word.not-HelperWord (cc (some, h))) (λ h. c.in_default-word.not-EntryWord (cc (some, h)));
      shorter = tt;
    }

pub returns-in-OutsideWord-clause-reads : goal.returns-in-OutsideWord-clause-reads
returns-in-OutsideWord-clause-reads c =
    carried_with IsItemPart IsItem (IsItemBehind OutsideWord) Any c.outside_part.result _ _ c.outside_part.new.self
    (item-behind OutsideWord _ _ (sym c.peek.ensures ∙ (c.in-Some.is ∙ ap Some c.in-OutsideWord.is)) c.skip.ensures.exact) c.outside_part.ensures

pub returns-in-OutsideWord-clause-shorter : goal.returns-in-OutsideWord-clause-shorter
returns-in-OutsideWord-clause-shorter c =
    shorter_with IsItemPart (IsItemBehind OutsideWord) Any c.outside_part.result OutsideWord c.args.self.now c.skip.new.self c.outside_part.new.self (sym c.peek.ensures ∙ (c.in-Some.is ∙ ap Some c.in-OutsideWord.is)) c.skip.ensures.exact c.outside_part.ensures

pub returns-in-HelperWord-clause-reads : goal.returns-in-HelperWord-clause-reads
returns-in-HelperWord-clause-reads c =
    carried_with IsItemPart IsItem (IsItemBehind HelperWord) Any c.helper.result _ _ c.helper.new.self
    (item-behind HelperWord _ _ (sym c.peek.ensures ∙ (c.in-Some.is ∙ ap Some c.in-HelperWord.is)) c.skip-in-HelperWord.ensures.exact) c.helper.ensures

pub returns-in-HelperWord-clause-shorter : goal.returns-in-HelperWord-clause-shorter
returns-in-HelperWord-clause-shorter c =
    shorter_with IsItemPart (IsItemBehind HelperWord) Any c.helper.result HelperWord c.args.self.now c.skip-in-HelperWord.new.self c.helper.new.self (sym c.peek.ensures ∙ (c.in-Some.is ∙ ap Some c.in-HelperWord.is)) c.skip-in-HelperWord.ensures.exact c.helper.ensures

pub returns-in-EntryWord-clause-reads : goal.returns-in-EntryWord-clause-reads
returns-in-EntryWord-clause-reads c =
    carried_with IsItemPart IsItem (IsItemBehind EntryWord) Any c.entry.result _ _ c.entry.new.self
    (item-behind EntryWord _ _ (sym c.peek.ensures ∙ (c.in-Some.is ∙ ap Some c.in-EntryWord.is)) c.skip-in-EntryWord.ensures.exact) c.entry.ensures

pub returns-in-EntryWord-clause-shorter : goal.returns-in-EntryWord-clause-shorter
returns-in-EntryWord-clause-shorter c =
    shorter_with IsItemPart (IsItemBehind EntryWord) Any c.entry.result EntryWord c.args.self.now c.skip-in-EntryWord.new.self c.entry.new.self (sym c.peek.ensures ∙ (c.in-Some.is ∙ ap Some c.in-EntryWord.is)) c.skip-in-EntryWord.ensures.exact c.entry.ensures
