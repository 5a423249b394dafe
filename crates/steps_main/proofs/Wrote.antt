-- What became of a text that was to be written.
use Rattle.std.proofs.Common.{◌≡◌, ℕ, Bool, List, ◌++◌, Result, Ok, Err, sym, ◌∙◌, subst}
use Rattle.std.specs.Prelude.{IsTrue, OnOk, OnErr}
use Rattle.outer_io.specs.Bytes.{AppendsFront}
use Rattle.outer_io.specs.declared.failures.Failed.{Failed}
use Rattle.outer_io.specs.Shown.{Change, SinkShown, WriteFailed}
use Rattle.steps_main.specs.Ending.{Wrote}

pub wrote_by : (tells : Bool) (text : List ℕ) (sink : Change SinkShown) (result : Result (Unit {0}) Failed)
    → OnOk result (IsTrue tells → sink.now.written ≡ sink.before.written ++ text)
    → OnErr result (IsTrue tells → AppendsFront text sink.before.written sink.now.written) → OnErr result (WriteFailed sink)
    → Wrote tells text sink result
wrote_by tells text sink (Ok done) ok err cause = ok
wrote_by tells text sink (Err failed) ok err cause = (cause, err)

pub unwritten : (tells : Bool) (text : List ℕ) (sink : Change SinkShown) (result : Result (Unit {0}) Failed) (failed : Failed)
    → result ≡ Err failed → Wrote tells text sink result → WriteFailed sink × (IsTrue tells → AppendsFront text sink.before.written sink.now.written)
unwritten tells text sink result failed is wrote = subst (Wrote tells text sink) is wrote
