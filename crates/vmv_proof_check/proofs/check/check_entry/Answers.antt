use Rattle.std.proofs.Common.{◌+◌, ◌<◌, ◌^◌, length, sym, refl, subst}
use Rattle.vmv_check.proofs.Lists.{item_in}
use Rattle.vmv_proof.specs.declared.proof.Shown.{Shown}
use Rattle.vmv_proof_check.specs.Work.{AreTablesListed, IsEntryRefused}
use Rattle.vmv_proof_check.proofs.Showing.{lists_for, well_here, refused_entry, shown_at}
use Rattle.vmv_proof_check.proofs.Finishing.{tallied_other, tallied_more, shown_more, entry_found}
use Rattle.vmv_proof_check.proofs.check.check_entry.Goals as goal

pub returns-then-not-is_entry-clause-tallied : goal.returns-then-not-is_entry-clause-tallied
returns-then-not-is_entry-clause-tallied c = tallied_other c.args.checking.now c.args.number c.args.tally.now c.requires.number c.if-not-is_entry.ensures c.requires.before

pub bounds-checking-tally : goal.bounds-checking-tally
bounds-checking-tally c = shown_more c.args.checking.now c.args.number c.args.tally.now c.requires.ready c.requires.before c.if-not-is_entry.ensures

pub lists_of-requires-clause-plain : goal.lists_of-requires-clause-plain
lists_of-requires-clause-plain c =
    let s = c.index-checking-tally.result in
    let more = shown_more c.args.checking.now c.args.number c.args.tally.now c.requires.ready c.requires.before c.if-not-is_entry.ensures in
    let P : Shown → Type 0 = λ t. length t.plain.rows < 2 ^ 32 in
    subst P c.index-checking-tally.is (c.requires.ready.plain s (item_in c.args.checking.now.shown.now c.args.tally.now.next s more c.index-checking-tally.is))

pub lists_of-requires-clause-given : goal.lists_of-requires-clause-given
lists_of-requires-clause-given c =
    let s = c.index-checking-tally.result in
    let more = shown_more c.args.checking.now c.args.number c.args.tally.now c.requires.ready c.requires.before c.if-not-is_entry.ensures in
    let P : Shown → Type 0 = λ t. length t.given.rows < 2 ^ 32 in
    subst P c.index-checking-tally.is (c.requires.ready.given s (item_in c.args.checking.now.shown.now c.args.tally.now.next s more c.index-checking-tally.is))

pub count_entry-requires-clause-lists : goal.count_entry-requires-clause-lists
count_entry-requires-clause-lists c =
    let s = c.index-checking-tally.result in
    let is = c.index-checking-tally.is in
    let ready = c.requires.ready in
    let more = shown_more c.args.checking.now c.args.number c.args.tally.now c.requires.ready c.requires.before c.if-not-is_entry.ensures in
    let e = entry_found c.args.checking.now c.args.number c.args.tally.now c.requires.ready c.requires.before c.if-not-is_entry.ensures s is in
    let there = item_in c.args.checking.now.shown.now c.args.tally.now.next s more is in
    let L : Shown → Type 0 = λ t. AreTablesListed c.args.checking.now c.args.number t c.in-Ok.lists in
    lists_for c.args.checking.now c.args.number s e.0 e.1 ready.resolution ready.shaped e.2 there ready.whole_is c.in-Ok.lists (subst L (sym is) c.in-Ok.ensures.lists)

pub returns-in-Ok-clause-tallied : goal.returns-in-Ok-clause-tallied
returns-in-Ok-clause-tallied c =
    let s = c.index-checking-tally.result in
    let is = c.index-checking-tally.is in
    let ready = c.requires.ready in
    let more = shown_more c.args.checking.now c.args.number c.args.tally.now c.requires.ready c.requires.before c.if-not-is_entry.ensures in
    let e = entry_found c.args.checking.now c.args.number c.args.tally.now c.requires.ready c.requires.before c.if-not-is_entry.ensures s is in
    let there = item_in c.args.checking.now.shown.now c.args.tally.now.next s more is in
    let L : Shown → Type 0 = λ t. AreTablesListed c.args.checking.now c.args.number t c.in-Ok.lists in
    tallied_more c.args.checking.now c.args.number c.args.tally.now ready c.requires.before c.if-not-is_entry.ensures s (record { claims = c.count_entry.new.claims; next = c.args.tally.now.next + 1 }) is
    (well_here c.args.checking.now c.args.number s e.0 e.1 ready.resolution ready.shaped e.2 there ready.whole_is c.in-Ok.lists (subst L (sym is) c.in-Ok.ensures.lists)) c.count_entry.ensures refl

pub returns-in-Err-clause-refused : goal.returns-in-Err-clause-refused
returns-in-Err-clause-refused c =
    let s = c.index-checking-tally.result in
    let is = c.index-checking-tally.is in
    let ready = c.requires.ready in
    let more = shown_more c.args.checking.now c.args.number c.args.tally.now c.requires.ready c.requires.before c.if-not-is_entry.ensures in
    let e = entry_found c.args.checking.now c.args.number c.args.tally.now c.requires.ready c.requires.before c.if-not-is_entry.ensures s is in
    let there = item_in c.args.checking.now.shown.now c.args.tally.now.next s more is in
    let L : Shown → Type 0 = λ t. IsEntryRefused c.args.checking.now c.args.number t c.in-Err.why in
    refused_entry c.args.checking.now c.args.number s e.0 e.1 ready.resolution ready.shaped e.2 there ready.whole_is c.in-Err.why (shown_at c.args.checking.now c.args.tally.now.next s more is c.requires.before.well) (subst L (sym is) c.in-Err.ensures.refused)
