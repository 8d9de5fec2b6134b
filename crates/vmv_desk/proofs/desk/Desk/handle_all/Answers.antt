-- One more command is handled.
use Rattle.std.proofs.Common.{◌≡◌, ◌+◌, ◌++◌, ◌∷◌, [], List, take, sym, ap, ◌∙◌, subst, rules}
use Rattle.std.proofs.lemmas.List.{take_more}
use Rattle.vmv_keeper.specs.declared.act.Command.{Command}
use Rattle.vmv_keeper.specs.declared.reply.Reply.{Reply}
use Rattle.vmv_keeper.specs.Outside.{OfTold}
use Rattle.vmv_desk_rules.specs.Heard.{WellBy, RanToBy}
use Rattle.vmv_desk.proofs.HandledLemmas.{ran_more_by, ran_none_by, ran_begun_by, take_past}
use Rattle.vmv_desk.proofs.desk.Desk.handle_all.Goals as goal

pub loop-command-preserved : goal.loop-command-preserved
loop-command-preserved g c =
    let judge = c.args.judge.now in
    let I = g.J.Judge.inspected judge in
    let C = g.J.Judge.compared judge in
    let told = g.K.Keeper.told c.args.self.now in
    let then = g.K.Keeper.told c.handle-reply.new.self in
    let i = c.loop-command.command-index in
    let commands = c.args.commands.now in
    let command = c.command-item.result in
    let last : take i commands ++ command ∷ [] ≡ take (i + 1) commands =
    ap (λ (x : Command). take i commands ++ x ∷ []) c.command-item.is ∙ sym (take_more commands i command c.loop-command-test.true) in
    let P : List Command → Type 0 = λ l. OfTold told (λ tables. WellBy I C tables → RanToBy I C tables l then (c.loop-command.replies.items ++ c.handle-reply.result ∷ [])) in
    let Q : List Reply → Type 0 = λ l. OfTold told (λ tables. WellBy I C tables → RanToBy I C tables (take (i + 1) commands) then l) in
    record {
      room = search rules;
      count = search rules;
      ran = subst Q (sym c.push_reserved.ensures.items) (subst P last
          (ran_more_by I C (λ text a b h k. g.met.J.Judge.one_inspected judge text a b h k) (λ base revision a b h k. g.met.J.Judge.one_compared judge base revision a b h k) (λ text said is h. g.met.J.Judge.utf8 judge text said is h)
          told (g.K.Keeper.told c.loop-command.self) then (take i commands) c.loop-command.replies.items command c.handle-reply.result
          c.loop-command.invariant.ran c.handle-reply.ensures.handled));
    }

pub returns-clause-ran : goal.returns-clause-ran
returns-clause-ran g c =
    let judge = c.args.judge.now in
    let I = g.J.Judge.inspected judge in
    let C = g.J.Judge.compared judge in
    let P : List Command → Type 0 = λ l. OfTold (g.K.Keeper.told c.args.self.now) (λ tables. WellBy I C tables → RanToBy I C tables l (g.K.Keeper.told c.loop-command.self) c.loop-command.replies.items) in
    subst P (take_past c.loop-command.command-index c.args.commands.now c.loop-command-test.false) c.loop-command.invariant.ran

pub returns-clause-begun : goal.returns-clause-begun
returns-clause-begun g c =
    let judge = c.args.judge.now in
    let I = g.J.Judge.inspected judge in
    let C = g.J.Judge.compared judge in
    let told = g.K.Keeper.told c.args.self.now in
    let now = g.K.Keeper.told c.loop-command.self in
    let P : List Command → Type 0 = λ l. OfTold told (λ tables. WellBy I C tables → RanToBy I C tables l now c.loop-command.replies.items) in
    ran_begun_by I C (λ text a b h k. g.met.J.Judge.one_inspected judge text a b h k) (λ base revision a b h k. g.met.J.Judge.one_compared judge base revision a b h k) (λ text said is h. g.met.J.Judge.utf8 judge text said is h)
    told now c.args.commands.now c.loop-command.replies.items (subst P (take_past c.loop-command.command-index c.args.commands.now c.loop-command-test.false) c.loop-command.invariant.ran)

pub loop-command-init : goal.loop-command-init
loop-command-init g c =
    let judge = c.args.judge.now in
    let I = g.J.Judge.inspected judge in
    let C = g.J.Judge.compared judge in
    let told = g.K.Keeper.told c.args.self.now in
    let P : List Reply → Type 0 = λ l. OfTold told (λ tables. WellBy I C tables → RanToBy I C tables [] told l) in
    record {
      room = search rules;
      count = search rules;
      ran = subst P (sym c.in_ok-replies.ensures.items) (ran_none_by I C (λ text a b h k. g.met.J.Judge.one_inspected judge text a b h k) (λ base revision a b h k. g.met.J.Judge.one_compared judge base revision a b h k) (λ text said is h. g.met.J.Judge.utf8 judge text said is h) told);
    }
