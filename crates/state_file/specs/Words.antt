-- The words that are printed for what is wrong with a line.
use Rattle.std.specs.Prelude.{ℕ, List, codes}
use Rattle.roster_file.specs.declared.roster.LineCause.{LineCause}
use Rattle.roster_file.specs.declared.roster.LineCause.TheVariants as roster
use Rattle.state_file.specs.declared.cause.StateCause.{StateCause}
use Rattle.state_file.specs.declared.cause.StateCause.TheVariants as meters
use Rattle.state_file.specs.declared.fault.FileCause.{FileCause}
use Rattle.state_file.specs.declared.fault.FileCause.TheVariants as causes

-- of a roster's line
abbrev pub roster_word : LineCause → List ℕ
roster_word roster.TooLong = codes "toolong"
roster_word roster.Head = codes "head"
roster_word roster.Own = codes "own"
roster_word roster.Kind = codes "kind"
roster_word roster.Fields = codes "fields"
roster_word roster.Address = codes "address"
roster_word roster.Mode = codes "mode"
roster_word roster.Key = codes "key"
roster_word roster.Other = codes "other"
roster_word roster.Last = codes "last"
roster_word roster.Down = codes "down"
roster_word roster.Ids = codes "ids"
roster_word roster.Same = codes "same"
roster_word roster.TooMany = codes "toomany"
roster_word roster.Missing = codes "missing"

-- of a line below a meter's line
abbrev pub meter_word : StateCause → List ℕ
meter_word meters.Kind = codes "kind"
meter_word meters.Fields = codes "fields"
meter_word meters.Twice = codes "twice"
meter_word meters.At = codes "at"
meter_word meters.Counter = codes "counter"
meter_word meters.Payload = codes "payload"
meter_word meters.Part = codes "part"
meter_word meters.Id = codes "id"
meter_word meters.Tries = codes "tries"
meter_word meters.Command = codes "command"

-- of a state's line
abbrev pub state_word : FileCause → List ℕ
state_word (causes.Roster cause) = roster_word cause
state_word (causes.Meter cause) = meter_word cause
state_word causes.Place = codes "place"
state_word causes.Behind = codes "behind"
