use Rattle.std.proofs.Common.{refl}
use Rattle.usage_totals.proofs.Edited.{kept_there, kept_fits, kept_before, kept_removed}
use Rattle.usage_totals.proofs.edits.remove_row.Goals as goal

pub mend_at-requires-clause-there : goal.mend_at-requires-clause-there
mend_at-requires-clause-there c =
    kept_there c.requires.kept c.args.sums.now.entries (λ q. refl) c.args.address c.args.place c.requires.place

pub mend_at-requires-clause-fitting : goal.mend_at-requires-clause-fitting
mend_at-requires-clause-fitting c = kept_fits c.requires.kept c.args.sums.now.entries (λ q. refl)

pub mend_at-requires-clause-totals : goal.mend_at-requires-clause-totals
mend_at-requires-clause-totals c = kept_before c.requires.kept c.args.sums.now.entries (λ q. refl) c.args.address

pub returns-clause-kept : goal.returns-clause-kept
returns-clause-kept c =
    kept_removed c.requires.kept c.mend_at.new.sums.entries c.args.address c.take.new.meters.entries c.args.place c.requires.place
    c.take.ensures c.mend_at.ensures.totals
