-- The commands so far were handled.
use Rattle.std.proofs.Common.{◌≡◌, ◌≤◌, length, take, vec_len}
use Rattle.std.specs.Vec.{vec_capacity}
use Rattle.vmv_keeper.specs.Outside.{OfTold}
use Rattle.vmv_desk_rules.specs.Heard.{WellBy, RanToBy}
use Rattle.vmv_desk.proofs.desk.Desk.handle_all.Given as goal

abbrev pub invariant-loop-command : goal.invariant-loop-command
invariant-loop-command g l = record {
  room : length l.commands ≤ vec_capacity l.replies;
  count : vec_len l.replies ≡ l.command-index;
  ran : OfTold (g.K.Keeper.told l.initial.self) (λ tables. WellBy (g.J.Judge.inspected l.judge) (g.J.Judge.compared l.judge) tables
      → RanToBy (g.J.Judge.inspected l.judge) (g.J.Judge.compared l.judge) tables (take l.command-index l.commands) (g.K.Keeper.told l.self) l.replies.items);
}
