use Rattle.std.proofs.Common.{◌≡◌, subst, sym, to_z, of_z, w64, rules}
use Rattle.vmv_text.specs.Reading.{IsNoSize, IsSizeOf}
use Rattle.vmv_text.specs.Reading.{Any, Ends, IsNegative}
use Rattle.vmv_text.proofs.Single.{negative_ends, negative_stops}
use Rattle.vmv_text.proofs.cursor.Cursor.negative.Goals as goal

pub returns-in_default : goal.returns-in_default
returns-in_default c = negative_stops _ (subst IsNoSize c.peek.ensures c.in_default.ensures)

pub returns : goal.returns
returns c =
    let word : to_z w64 (of_z w64 c.in-Some.word) ≡ c.in-Some.word = search rules in
    subst (λ z. Ends IsNegative Any z c.args.self.now c.skip.new.self) (sym word)
    (negative_ends c.in-Some.word _ _ (subst (IsSizeOf c.in-Some.word) c.peek.ensures c.in-Some.ensures) c.skip.ensures.exact)
