use Rattle.std.proofs.Common.{◌≡◌, ◌+◌, ◌++◌, length, drop, IsTrue}
use Rattle.vmv_back.specs.Facts.{narrow_from, narrowed}
use Rattle.vmv_back.specs.Boxes.{is_nonempty}
use Rattle.vmv_back.proofs.fact.Fact.narrowed.Given as goal

abbrev pub invariant-loop-i : goal.invariant-loop-i
invariant-loop-i l =
    record {
      whole : l.part ++ narrow_from l.self (l.i + 1) (drop l.i l.within) ≡ narrowed l.self l.within;
      count : length l.part ≡ l.i;
      nonempty : IsTrue (is_nonempty l.part);
    }
