use Rattle.std.proofs.Common.{arith, length, ◌∙◌, ap, drop, length-drop}
use Rattle.vmv_text.proofs.Unrolled.{front_rest}
use Rattle.vmv_text.proofs.cursor.Cursor.skip.Goals as goal

pub returns-clause-exact : goal.returns-clause-exact
returns-clause-exact c =
    c.lexed-self-inside.ensures.same ∙ (front_rest c.self.inside.language c.self.inside.front.token _ _ c.self.invariant ∙ ap (drop 1) c.self.view_is)

pub returns-clause-shorter : goal.returns-clause-shorter
returns-clause-shorter c =
    let exact = ap length (c.lexed-self-inside.ensures.same ∙ (front_rest c.self.inside.language c.self.inside.front.token _ _ c.self.invariant ∙ ap (drop 1) c.self.view_is)) in
    λ some. omega (arith, exact, length-drop 1 c.args.self.now)
