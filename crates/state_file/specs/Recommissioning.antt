-- What is known of a meter, under another commission.
use Rattle.meter_address.specs.Commission.{Commissioned}
use Rattle.meter_slots.specs.Journal.{Start}

-- the address, the mode, the keys and the numbers are those of the commission; the fragments that are held, the commands that wait with
-- their window, and the last reading stay
abbrev pub recommissioned : Start → Commissioned → Start
recommissioned m c = record {
  address = c.address;
  mode = c.mode;
  key = c.key;
  other = c.other;
  last = c.last;
  told = m.told;
  orders = record { queue = record { ids = c.ids; commands = m.orders.queue.commands }; window = m.orders.window; down = c.down };
  reading = m.reading;
}
