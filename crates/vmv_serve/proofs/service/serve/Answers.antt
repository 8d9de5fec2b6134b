-- Links are served over the rows that the vault told, and none where no store was given.
use Rattle.std.proofs.Common.{◌≡◌, ℕ, Option, refl, subst, arith}
use Rattle.vmv_edge.specs.Outside.{Rose}
use Rattle.vmv_door.specs.Links.{Links}
use Rattle.vmv_serve.specs.Serves.{Seen, Stored}
use Rattle.vmv_serve.specs.Services.{ServesLinks}
use Rattle.vmv_serve.proofs.Serving.{none_of, same_of, links_as, given_self}
use Rattle.vmv_serve.proofs.service.serve.Goals as goal

pub returns-in_default-clause-served : goal.returns-in_default-clause-served
returns-in_default-clause-served g c =
    let judge = c.args.judge.now in
    let I = g.J.Judge.inspected judge in
    let C = g.J.Judge.compared judge in
    let Steady = g.V.Vault.IsSteady c.args.vault.now in
    let seen : g.row.D-Link.Denot → Seen = λ link. record { input = g.D.Link.Link.input link; written = g.D.Link.Link.written link; faults = g.D.Link.Link.fault_count link } in
    let told = g.V.Vault.told c.args.vault.now c.args.store.now in
    let start : Stored = record { rows = told; faults = 0 } in
    let door = g.D.Door.told c.args.door.now in (
      0,
      start,
      start,
      omega (arith, c.listen.ensures.given),
      given_self told,
      refl,
      same_of I C Steady seen 0 start start start door door (g.D.Door.told c.listen.new.self) c.listen.ensures.told refl (none_of I C Steady seen start door),
      λ some. absurd (some refl),
    )

pub returns-in-Err-Failed-clause-served : goal.returns-in-Err-Failed-clause-served
returns-in-Err-Failed-clause-served g c =
    let judge = c.args.judge.now in
    let I = g.J.Judge.inspected judge in
    let C = g.J.Judge.compared judge in
    let Steady = g.V.Vault.IsSteady c.args.vault.now in
    let seen : g.row.D-Link.Denot → Seen = λ link. record { input = g.D.Link.Link.input link; written = g.D.Link.Link.written link; faults = g.D.Link.Link.fault_count link } in
    let told = g.V.Vault.told c.args.vault.now c.args.store.now in
    let start : Stored = record { rows = told; faults = 0 } in
    let door = g.D.Door.told c.args.door.now in (
      0,
      start,
      start,
      omega (arith, c.listen.ensures.given),
      given_self told,
      refl,
      same_of I C Steady seen 0 start start start door door (g.D.Door.told c.listen.new.self) c.listen.ensures.told refl (none_of I C Steady seen start door),
      λ some. absurd (some refl),
    )

pub returns-in-Err-Memory-clause-served : goal.returns-in-Err-Memory-clause-served
returns-in-Err-Memory-clause-served g c =
    let judge = c.args.judge.now in
    let I = g.J.Judge.inspected judge in
    let C = g.J.Judge.compared judge in
    let Steady = g.V.Vault.IsSteady c.args.vault.now in
    let seen : g.row.D-Link.Denot → Seen = λ link. record { input = g.D.Link.Link.input link; written = g.D.Link.Link.written link; faults = g.D.Link.Link.fault_count link } in
    let told = g.V.Vault.told c.args.vault.now c.args.store.now in
    let start : Stored = record { rows = told; faults = 0 } in
    let door = g.D.Door.told c.args.door.now in (
      0,
      start,
      start,
      omega (arith, c.listen.ensures.given),
      given_self told,
      refl,
      same_of I C Steady seen 0 start start start door door (g.D.Door.told c.listen.new.self) c.listen.ensures.told refl (none_of I C Steady seen start door),
      λ some. absurd (some refl),
    )

pub returns-in-Ok-keeper-clause-served : goal.returns-in-Ok-keeper-clause-served
returns-in-Ok-keeper-clause-served g c =
    let judge = c.args.judge.now in
    let I = g.J.Judge.inspected judge in
    let C = g.J.Judge.compared judge in
    let K = g.V.Keeper.Keeper in
    let vault = c.args.vault.now in
    let Steady = g.V.Vault.IsSteady vault in
    let Never : Type 0 = (keeper : g.row.V-Keeper.Denot) → K.fault_count keeper ≡ 0 in
    let seen : g.row.D-Link.Denot → Seen = λ link. record { input = g.D.Link.Link.input link; written = g.D.Link.Link.written link; faults = g.D.Link.Link.fault_count link } in
    let keeper = c.in-Ok-keeper.keeper in
    let start : Stored = record { rows = K.told keeper; faults = K.fault_count keeper } in
    let s = c.serve_store.ensures.served in
    let end = g.D.Door.told c.serve_store.new.door in
    let P : Option (Links g.row.D-Link.Denot) → Type 0 = λ t. ServesLinks I C Steady seen s.0 start s.1 t end in
    let Q : ℕ → Type 0 = λ n. Rose n (g.V.Vault.fault_count c.serve_store.new.vault) in (
      s.0,
      start,
      s.1,
      omega (arith, s.2, c.listen.ensures.given),
      c.in-Ok-keeper.ensures.told,
      c.in-Ok-keeper.ensures.fresh,
      subst P c.listen.ensures.told (links_as I C Never Steady (λ steady. g.met.V.Vault.steady_count vault steady) seen s.0 start s.1 (g.D.Door.told c.listen.new.self) end s.4),
      λ some. subst Q (c.in-Ok-keeper.ensures.stands (λ err. cc err)) (s.5 some),
    )
