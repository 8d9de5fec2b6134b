use Rattle.std.proofs.Common.{◌≡◌, ℕ, List, subst}
use Rattle.std.specs.Prelude.{OnOk}
use Rattle.matchit.specs.Route.{parse_route}
use Rattle.vmv_routes.specs.Routes.{put, put_read}
use Rattle.vmv_routes.proofs.Inserting.{read_put}
use Rattle.vmv_routes.proofs.route.add.Goals as goal

pub returns : goal.returns
unfolding put
returns c =
    let P : List ℕ → Type 0 = λ text. OnOk c.insert.result (c.insert.new.self ≡ put_read (parse_route text) c.args.route c.args.router.now) in
    subst P c.pattern.ensures (read_put _ _ _ _ _ c.insert.ensures)
