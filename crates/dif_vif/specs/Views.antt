-- The parts that the code reads, without where they lie in memory.
use Rattle.dif_vif.specs.declared.parts.DataInformation.{DataInformation}
use Rattle.dif_vif.specs.declared.parts.ValueInformation.{ValueInformation}
use Rattle.dif_vif.specs.declared.parts.DataContents.{DataContents}
use Rattle.dif_vif.specs.declared.parts.RecordParts.{RecordParts}
use Rattle.dif_vif.specs.Spelling.{Dib, Vib, Contents, DataRecord}

abbrev pub dib : DataInformation → Dib
dib x = record { dif = x.dif; difes = x.difes.now }

abbrev pub vib : ValueInformation → Vib
vib x = record { vif = x.vif; text = x.text.now; vifes = x.vifes.now }

abbrev pub contents : DataContents → Contents
contents x = record { lvar = x.lvar; sent = x.sent.now }

abbrev pub data_record : RecordParts → DataRecord
data_record x = record { dib = dib x.dib; vib = vib x.vib; contents = contents x.contents }
