-- A slot may go to another thread, and threads may look at one at the same time, since that holds of each of its parts.
use denote.Param.Send.{IsSend, IsSync, sendable}
use Rattle.std.proofs.Crossing.{crosses}
use Rattle.afl_fragments.specs.contracts.parts.Parts as Parts
use Rattle.meter_slots.specs.contracts.book.SlotBook as SlotBook
use Rattle.meter_slots.specs.contracts.commands.Commands as Commands
use Rattle.meter_slots.specs.contracts.entry.Entry as Entry
use Rattle.meter_slots.specs.contracts.judge.Judge as Judge
use Rattle.meter_slots.specs.contracts.past.PastEvent as PastEvent
use Rattle.message_check.specs.contracts.keys.MeterKeys as MeterKeys
use Rattle.meter_slots.specs.contracts.reading.Reading as Reading
use Rattle.meter_slots.specs.contracts.repeated.LastWhole as LastWhole
use Rattle.meter_slots.specs.contracts.standing.Standing as Standing

past_send : IsSend PastEvent.the_row
past_send = search (sendable, crosses) depth 40

entry_send : IsSend Entry.the_row
entry_send = search (sendable, crosses, past_send) depth 40 fits 10000

reading_send : IsSend Reading.the_row
reading_send = search (sendable, crosses) depth 40

keys_send : IsSend MeterKeys.the_row
keys_send = search (sendable, crosses) depth 40 fits 10000

judge_send : IsSend Judge.the_row
judge_send = search (sendable, crosses, keys_send) depth 40 fits 10000

parts_send : IsSend Parts.the_row
parts_send = search (sendable, crosses) depth 40

commands_send : IsSend Commands.the_row
commands_send = search (sendable, crosses) depth 40

heard_send : IsSend LastWhole.the_row
heard_send = search (sendable, crosses) depth 40

standing_send : IsSend Standing.the_row
standing_send = search (sendable, crosses, heard_send, judge_send, commands_send, parts_send) depth 40 fits 10000

pub slot_send : IsSend SlotBook.the_row
slot_send = search (sendable, crosses, entry_send, reading_send, standing_send) depth 40 fits 10000

-- ---- at the same time

past_sync : IsSync PastEvent.the_row
past_sync = search (sendable, crosses) depth 40

entry_sync : IsSync Entry.the_row
entry_sync = search (sendable, crosses, past_sync) depth 40 fits 10000

reading_sync : IsSync Reading.the_row
reading_sync = search (sendable, crosses) depth 40

keys_sync : IsSync MeterKeys.the_row
keys_sync = search (sendable, crosses) depth 40 fits 10000

judge_sync : IsSync Judge.the_row
judge_sync = search (sendable, crosses, keys_sync) depth 40 fits 10000

parts_sync : IsSync Parts.the_row
parts_sync = search (sendable, crosses) depth 40

commands_sync : IsSync Commands.the_row
commands_sync = search (sendable, crosses) depth 40

heard_sync : IsSync LastWhole.the_row
heard_sync = search (sendable, crosses) depth 40

standing_sync : IsSync Standing.the_row
standing_sync = search (sendable, crosses, heard_sync, judge_sync, commands_sync, parts_sync) depth 40 fits 10000

pub slot_sync : IsSync SlotBook.the_row
slot_sync = search (sendable, crosses, entry_sync, reading_sync, standing_sync) depth 40 fits 10000
