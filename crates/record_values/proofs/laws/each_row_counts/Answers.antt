use Rattle.std.proofs.Common.{refl}
use Rattle.record_values.specs.Units.{primary, after_fd, after_fb}
use Rattle.record_values.proofs.Rows.{each_row}
use Rattle.record_values.proofs.laws.each_row_counts.Goals as goal

pub returns-clause-primary : goal.returns-clause-primary
returns-clause-primary c = each_row primary refl

pub returns-clause-after_fd : goal.returns-clause-after_fd
returns-clause-after_fd c = each_row after_fd refl

pub returns-clause-after_fb : goal.returns-clause-after_fb
returns-clause-after_fb c = each_row after_fb refl
