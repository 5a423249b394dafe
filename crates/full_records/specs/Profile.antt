-- The profile's quantity and unit of a code, by itself.
use Rattle.std.specs.Prelude.{ℕ, ◌%◌, ◌==◌, if◌then◌else◌}
use Rattle.record_values.specs.declared.units.Unit.{Unit}
use Rattle.record_values.specs.Units.{after_fb, after_fd, primary, unit_in}

-- by the VIF, or behind FB and FD by the code of the first VIFE
abbrev pub coded_unit : ℕ → ℕ → ℕ → ℕ → Unit
coded_unit vif code modifiers_at modifiers =
    if vif == 0xfb then unit_in after_fb code modifiers_at modifiers else
    (if vif == 0xfd then unit_in after_fd code modifiers_at modifiers else
    unit_in primary (vif % 128) modifiers_at modifiers)

-- a unit whose modifiers stand at another place
abbrev pub placed : Unit → ℕ → ℕ → Unit
placed u modifiers_at modifiers =
    record { quantity = u.quantity; name = u.name; exponent = u.exponent; modifiers_at = modifiers_at; modifiers = modifiers }
