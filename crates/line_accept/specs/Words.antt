-- The words that are printed for what is wrong with a line of senders.
use Rattle.std.specs.Prelude.{ℕ, List, codes}
use Rattle.line_accept.specs.declared.fault.SendersCause.{SendersCause}
use Rattle.line_accept.specs.declared.fault.SendersCause.TheVariants as causes

abbrev pub cause_word : SendersCause → List ℕ
cause_word causes.TooLong = codes "toolong"
cause_word causes.Head = codes "head"
cause_word causes.Kind = codes "kind"
cause_word causes.Fields = codes "fields"
cause_word causes.Name = codes "name"
cause_word causes.Epoch = codes "epoch"
cause_word causes.Number = codes "number"
cause_word causes.Same = codes "same"
cause_word causes.Missing = codes "missing"
cause_word causes.Behind = codes "behind"
