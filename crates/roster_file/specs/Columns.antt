-- The columns of a meter's line, as the reader holds them.
use Rattle.roster_file.specs.Roster.{Columns}
use Rattle.roster_file.specs.declared.fields.Columns as held

-- the texts that are held
abbrev pub columns_in : held.Columns → Columns
columns_in c = record {
  address = c.address.now;
  mode = c.mode.now;
  key = c.key.now;
  other = c.other.now;
  last = c.last.now;
  down = c.down.now;
  ids = c.ids.now;
}
