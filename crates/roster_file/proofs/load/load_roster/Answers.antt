use Rattle.std.proofs.Common.{ap, Err}
use Rattle.roster_file.proofs.Enrolling.{read_is_enrolled, first_line}
use Rattle.roster_file.proofs.load.load_roster.Goals as goal

pub returns-in-Err-TooMany-clause-line : goal.returns-in-Err-TooMany-clause-line
returns-in-Err-TooMany-clause-line g c = λ line cause is tells.
    first_line (g.S.Source.left c.args.source.now) line cause (c.in-Err-TooMany.ensures.many (ap Err c.in-Err-TooMany.field-0-is) tells)
    (cc, cc)

pub returns-in-Ok-read_roster-clause-enrolled : goal.returns-in-Ok-read_roster-clause-enrolled
returns-in-Ok-read_roster-clause-enrolled g c = read_is_enrolled _ c.in-Ok-read_roster.roster c.in-Ok-read_roster.ensures.found
