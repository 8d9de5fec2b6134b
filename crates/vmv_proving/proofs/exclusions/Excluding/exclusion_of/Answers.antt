use Rattle.std.proofs.Common.{refl, arith}
use Rattle.vmv_assumption.specs.Assumed.{cond_of}
use Rattle.vmv_need.proofs.Deaths.{entry_inside, thresholds_found}
use Rattle.vmv_proving.proofs.Frozen.{no_gap, cut_fits, judged_under}
use Rattle.vmv_proving.proofs.exclusions.Excluding.exclusion_of.Goals as goal

pub index-requires : goal.index-requires
index-requires c =
    let self = c.args.self.now in
    let fits = cut_fits self.base.now self.ends.now self.cuts.now c.requires.ready.recorded c.requires.ready.is_resolution c.args.cut.now c.requires.cut in
    omega (arith, entry_inside self.base.now c.args.cut.now.entry.0 c.args.cut.now.within fits.0, c.requires.ready.thresholds.count)

pub unreachable-requires : goal.unreachable-requires
unreachable-requires c =
    let self = c.args.self.now in
    let fits = cut_fits self.base.now self.ends.now self.cuts.now c.requires.ready.recorded c.requires.ready.is_resolution c.args.cut.now c.requires.cut in
    no_gap self.base.now c.args.cut.now.entry.0 c.args.cut.now.within self.ends.now _ _ c.requires.ready.thresholds fits.0 c.index.ensures c.in_default.is

pub least_table-requires-clause-entry : goal.least_table-requires-clause-entry
least_table-requires-clause-entry c =
    let self = c.args.self.now in
    (cut_fits self.base.now self.ends.now self.cuts.now c.requires.ready.recorded c.requires.ready.is_resolution c.args.cut.now c.requires.cut).0

pub least_table-requires-clause-thresholds : goal.least_table-requires-clause-thresholds
least_table-requires-clause-thresholds c =
    let self = c.args.self.now in
    let fits = cut_fits self.base.now self.ends.now self.cuts.now c.requires.ready.recorded c.requires.ready.is_resolution c.args.cut.now c.requires.cut in
    (self.ends.now, thresholds_found _ _ _ _ _ _ _ c.requires.ready.thresholds fits.0 c.index.ensures c.in-Some.is)

pub proc_name-requires : goal.proc_name-requires
proc_name-requires c =
    let self = c.args.self.now in
    let fits = cut_fits self.base.now self.ends.now self.cuts.now c.requires.ready.recorded c.requires.ready.is_resolution c.args.cut.now c.requires.cut in
    entry_inside self.base.now c.args.cut.now.entry.0 c.args.cut.now.within fits.0

pub returns : goal.returns
returns c =
    let self = c.args.self.now in
    let ready = c.requires.ready in
    let fits = cut_fits self.base.now self.ends.now self.cuts.now ready.recorded ready.is_resolution c.args.cut.now c.requires.cut in
    record {
      entry = c.proc_name.ensures;
      within = refl;
      name = refl;
      piece = refl;
      under = refl;
      assumed = cond_of c.keep_to-held.new.self;
      judged = judged_under self.base.now self.ends.now self.cuts.now ready.recorded ready.is_resolution c.args.cut.now c.args.frozen.now c.in_ok-kept.kept c.keep_to-held.new.self c.keep_to-held.result c.requires.cut
          c.requires.frozen c.in_ok-kept.ensures c.keep_to-held.ensures.held c.keep_to-held.ensures.conds;
      least = c.in_ok-table.ensures.least self.ends.now (thresholds_found _ _ _ _ _ _ _ ready.thresholds fits.0 c.index.ensures c.in-Some.is);
    }
