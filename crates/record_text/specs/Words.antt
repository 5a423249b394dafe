-- The words of quantities, units and functions.
use Rattle.std.specs.Prelude.{ℕ, ◌==◌, List, codes, if◌then◌else◌}
use Rattle.record_values.specs.declared.units.Quantity.{Quantity}
use Rattle.record_values.specs.declared.units.Quantity.TheVariants as quantities
use Rattle.record_values.specs.declared.units.UnitName.{UnitName}
use Rattle.record_values.specs.declared.units.UnitName.TheVariants as units

-- which of the values in a time a record gives, by its number
abbrev pub function_text : ℕ → List ℕ
function_text function =
    if function == 0 then codes "instantaneous" else
    (if function == 1 then codes "maximum" else
    (if function == 2 then codes "minimum" else
    codes "error"))

abbrev pub quantity_text : Quantity → List ℕ
quantity_text quantities.Energy = codes "energy"
quantity_text quantities.Volume = codes "volume"
quantity_text quantities.Mass = codes "mass"
quantity_text quantities.OnTime = codes "ontime"
quantity_text quantities.OperatingTime = codes "operatingtime"
quantity_text quantities.Power = codes "power"
quantity_text quantities.Flow = codes "flow"
quantity_text quantities.MassFlow = codes "massflow"
quantity_text quantities.FlowTemperature = codes "flowtemperature"
quantity_text quantities.ReturnTemperature = codes "returntemperature"
quantity_text quantities.TemperatureDifference = codes "temperaturedifference"
quantity_text quantities.ExternalTemperature = codes "externaltemperature"
quantity_text quantities.Pressure = codes "pressure"
quantity_text quantities.Date = codes "date"
quantity_text quantities.DateTime = codes "datetime"
quantity_text quantities.Hca = codes "hca"
quantity_text quantities.AveragingDuration = codes "averagingduration"
quantity_text quantities.ActualityDuration = codes "actualityduration"
quantity_text quantities.Fabrication = codes "fabrication"
quantity_text quantities.Identification = codes "identification"
quantity_text quantities.Address = codes "address"
quantity_text quantities.Plain = codes "plain"
quantity_text quantities.Any = codes "any"
quantity_text quantities.Manufacturer = codes "manufacturer"
quantity_text quantities.AccessNumber = codes "accessnumber"
quantity_text quantities.ErrorFlags = codes "errorflags"
quantity_text quantities.Voltage = codes "voltage"
quantity_text quantities.Current = codes "current"
quantity_text quantities.Unknown = codes "unknown"

-- a unit, or a dash where the quantity has none
abbrev pub name_text : UnitName → List ℕ
name_text units.WattHour = codes "Wh"
name_text units.Joule = codes "J"
name_text units.CubicMetre = codes "m3"
name_text units.Kilogram = codes "kg"
name_text units.Second = codes "s"
name_text units.Minute = codes "min"
name_text units.Hour = codes "h"
name_text units.Day = codes "d"
name_text units.Watt = codes "W"
name_text units.JoulePerHour = codes "J/h"
name_text units.CubicMetrePerHour = codes "m3/h"
name_text units.CubicMetrePerMinute = codes "m3/min"
name_text units.CubicMetrePerSecond = codes "m3/s"
name_text units.KilogramPerHour = codes "kg/h"
name_text units.Celsius = codes "C"
name_text units.Kelvin = codes "K"
name_text units.Bar = codes "bar"
name_text units.Volt = codes "V"
name_text units.Ampere = codes "A"
name_text units.MegawattHour = codes "MWh"
name_text units.Gigajoule = codes "GJ"
name_text units.NoUnit = codes "-"
