use Rattle.std.proofs.Common.{◌≡◌, ◌+◌, ◌<◌, ◌∷◌, [], length, arith, sym, subst, ap, List}
use Rattle.std.proofs.lemmas.List.{length-append}
use Rattle.vmv_keeper.specs.declared.reply.VersionRow.{VersionRow}
use Rattle.vmv_keeper.specs.Formed.{AreNumbered, BeginOpened}
use Rattle.vmv_sql.proofs.Pushed.{AreNumbered-push, BeginOpened-push}
use Rattle.vmv_sql.proofs.held.versions_of.Goals as goal

pub loop-row-preserved : goal.loop-row-preserved
loop-row-preserved c =
    let new = c.in_ok-push.ensures.ok in
    let v = c.in_ok-version_of.field-0 in
    let inv = c.loop-row.invariant in
    let is = c.in_ok-version_of.ensures in
    let at : v.number ≡ 1 + length c.loop-row.versions = omega (arith, is.0, inv.count, inv.next) in
    record {
      count = omega (arith, ap length new, length-append c.loop-row.versions (v ∷ []), inv.count);
      next = omega (arith, inv.next);
      numbered = subst (λ (x : List VersionRow). AreNumbered 1 x) (sym new) (AreNumbered-push 1 c.loop-row.versions v inv.numbered at);
      opened = λ _. subst (λ (x : List VersionRow). BeginOpened x) (sym new) (BeginOpened-push c.loop-row.versions v inv.opened (λ e. is.1 (omega (arith, e, inv.count, inv.next))));
    }
