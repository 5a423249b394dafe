-- A run of one receiver.
use Rattle.std.proofs.Common.{◌≡◌, ◌≢◌, ◌++◌, ◌<◌, ◌^◌, ℕ, List, [], ◌∷◌, Bool, true, false, Option, Some, None, Ok, Err, inl, inr, ⊎_elim, refl, sym, ap, subst, ◌∙◌, IsTrue, map, length, arith}
use Rattle.outer_io.specs.Shown.{Change, SourceShown, SinkShown, ReadFailed, WriteFailed, LosesNothing, IsReadOut, IsSilent, HasText}
use Rattle.line_reader.specs.Lines.{is_over}
use Rattle.meter_address.specs.declared.address.Address.{Address}
use Rattle.meter_slots.specs.declared.counts.Counts.{Counts}
use Rattle.meter_slots.specs.declared.counts.Ended.{Ended}
use Rattle.meter_slots.specs.declared.counts.Ended.TheVariants as ends
use Rattle.meter_slots.specs.World.{WorldView, world_of}
use Rattle.receivers.specs.Alone.{HasHeardAlone}
use Rattle.receivers.specs.Classes.{counts_of}
use Rattle.receivers.specs.Ending.{IsEnding}
use Rattle.receivers.specs.Run.{Hearing, ReceiverRun, lines_of}
use Rattle.receivers.specs.Session.{IsSession}
use Rattle.receivers.specs.declared.told.Told.{Told}
use Rattle.receivers.specs.Told.{told_of}
use Rattle.receivers.proofs.OneSession.{heard_alone}
use Rattle.report_text.specs.Report.{report_text}
use Rattle.state_file.specs.Whole.{Known}
use Rattle.state_file.specs.declared.fault.StateFault.{StateFault}
use Rattle.state_file.specs.declared.fault.StateFault.TheVariants as faults
use Rattle.collector_main.specs.declared.status.Status.{Status}
use Rattle.collector_main.specs.declared.status.Status.TheVariants as statuses
use Rattle.collector_main.specs.declared.form.Form.{Form}
use Rattle.collector_main.specs.Begin.{IsRefusal, known_of, status_of}
use Rattle.collector_main.specs.Heard.{Heard, report_of}
use Rattle.lists.specs.Each.{Each}
use Rattle.collector_main.specs.Run.{Run, Output, IsRun, EndIsCaused, IsCausedBy, IsFaultless, AreTold}
use Rattle.collector_main.specs.Showing.{report_output}
use Rattle.collector_main.specs.Statuses.{IsDone, IsRefused, IsFinished, was_heard}
use Rattle.collector_main.proofs.Orders.{order_is_told}

counted : (directory : List Address) (heard : List Told) (counts : Counts) → counts ≡ counts_of directory heard
    → counts.lines ≡ length heard
unfolding counts_of
counted directory heard counts is = ap (λ (n : Counts). n.lines) is

-- a run of one receiver, whose one output is the report
abbrev run_of : Form → Bool → Bool → Change SourceShown → ReceiverRun → Change SinkShown → Status → Run
run_of form st kt beginning r report status = record {
  sources_tell = st;
  sinks_tell = kt;
  form = form;
  beginning = beginning;
  receivers = r ∷ [];
  sends = false;
  outputs = report_output report ∷ [];
  status = status;
}

-- an end that a receiver heard alone can have, where there was memory
abbrev pub IsHeardEnd : Ended → Type 0
IsHeardEnd ended = (ended ≢ ends.TxFault) × (ended ≢ ends.Memory)

-- an end of a receiver that wasn't heard: it is fresh, or there was no memory
abbrev pub IsUnended : Option Ended → Type 0
IsUnended None = Unit {0}
IsUnended (Some ends.Memory) = Unit {0}
IsUnended _ = ⊥

-- the cause of an end
pub end_caused : (st : Bool) (r : ReceiverRun) (how : Ended) (lines : List (List ℕ)) → (how ≡ ends.ReadFault → ReadFailed r.source)
    → (how ≡ ends.TxFault → WriteFailed r.tx) → (IsTrue st → IsEnding how r.source.now.taken r.source.now.left lines)
    → EndIsCaused st r (Some how)
end_caused st r ends.End lines read tx ending = λ told. (ending told).nothing_left
end_caused st r ends.Cut lines read tx ending = λ told. (ending told).over
end_caused st r ends.ReadFault lines read tx ending = read refl
end_caused st r ends.TxFault lines read tx ending = tx refl
end_caused st r ends.Memory lines read tx ending = tt

-- a receiver ended at its source's end where nothing else ended it
pub whole_end : (how : Ended) (taken left text : List ℕ) (lines : List (List ℕ)) → IsEnding how taken left lines → taken ++ left ≡ text
    → is_over text ≡ false → how ≢ ends.Memory → how ≢ ends.ReadFault → how ≢ ends.TxFault → how ≡ ends.End
whole_end ends.End taken left text lines ending bytes within memory read tx = refl
whole_end ends.Cut taken left text lines ending bytes within memory read tx =
    absurd (let over = ap is_over (sym bytes) ∙ ending.source_over in cc)
whole_end ends.Memory taken left text lines ending bytes within memory read tx = absurd (memory refl)
whole_end ends.ReadFault taken left text lines ending bytes within memory read tx = absurd (read refl)
whole_end ends.TxFault taken left text lines ending bytes within memory read tx = absurd (tx refl)

-- ---- a run in which no receiver was heard to its end

pub unended_caused : (st : Bool) (r : ReceiverRun) (ended : Option Ended) → IsUnended ended → EndIsCaused st r ended
unended_caused st r None is = tt
unended_caused st r (Some ends.Memory) is = tt
unended_caused st r (Some _) is = absurd is

module _ (form : Form) (st kt : Bool) (beginning : Change SourceShown) (runs : List ReceiverRun) (sends : Bool) (outputs : List Output) where
  abbrev run_with : Status → Run
  run_with status = record {
    sources_tell = st;
    sinks_tell = kt;
    form = form;
    beginning = beginning;
    receivers = runs;
    sends = sends;
    outputs = outputs;
    status = status;
  }

  -- what is promised of a status by which nothing was heard
  record IsUnheard (status : Status) : Type 0 where
    caused : IsCausedBy (run_with status) status
    unheard : was_heard status ≡ false
    refused : IsTrue st → (fault : StateFault) → known_of form beginning.before.left ≡ Err fault → IsRefused fault status
    complete : IsTrue st → IsFaultless (run_with status) → IsDone status

  unheard_is : (status : Status) → IsRefusal form st beginning status → IsUnheard status
  unheard_is statuses.ReadRoster why = record {
    caused = why;
    unheard = refl;
    refused = λ told fault bad. inr (inl refl);
    complete = λ told f. absurd (f.beginning_steady why);
  }
  unheard_is (statuses.Roster line cause) why = record {
    caused = why;
    unheard = refl;
    refused = λ told fault bad. inl (let is = why told in let same : faults.Roster line cause ≡ fault = cc in ap status_of same);
    complete = λ told f. absurd (let bad = why told in let good = f.known_is in cc);
  }
  unheard_is (statuses.State line cause) why = record {
    caused = why;
    unheard = refl;
    refused = λ told fault bad. inl (let is = why told in let same : faults.Line line cause ≡ fault = cc in ap status_of same);
    complete = λ told f. absurd (let bad = why told in let good = f.known_is in cc);
  }
  unheard_is statuses.Memory why =
      record { caused = tt; unheard = refl; refused = λ told fault bad. inr (inr refl); complete = λ told f. inr refl }
  unheard_is _ why = absurd why

  pub unheard_run : (status : Status) → IsRefusal form st beginning status
      → (AreTold (run_with status) → Each (λ r. EndIsCaused st r r.ended) runs)
      → (IsTrue st → LosesNothing beginning) → (IsTrue st → AreTold (run_with status) → Each (λ r. LosesNothing r.source) runs)
      → Each (λ o. IsSilent o.sink) outputs → IsRun (run_with status)
  unheard_run status why caused kept lost silent =
      let is = unheard_is status why in
      record {
        headline = λ heard. absurd (let not = is.unheard in cc);
        status_caused = is.caused;
        ends_caused = caused;
        refused = is.refused;
        complete = is.complete;
        no_loss = λ told. (kept told, lost told);
        silent = λ not. silent;
      }

-- the same of one receiver that is heard alone
pub alone_unheard : (form : Form) (st kt : Bool) (beginning : Change SourceShown) (r : ReceiverRun) (report : Change SinkShown) (status : Status)
    (ended : Option Ended)
    → IsRefusal form st beginning status → r.ended ≡ ended → IsUnended ended → (IsTrue st → LosesNothing beginning)
    → (IsTrue st → LosesNothing r.source)
    → IsSilent report → IsRun (run_of form st kt beginning r report status)
alone_unheard form st kt beginning r report status ended why is none kept lost silent =
    unheard_run form st kt beginning (r ∷ []) false (report_output report ∷ []) status why
    (λ told. (subst (EndIsCaused st r) (sym is) (unended_caused st r ended none), tt)) kept (λ told shown. (lost told, tt)) (silent, tt)

-- ---- a run in which it was heard

module _ (form : Form) (st kt : Bool) (beginning : Change SourceShown) (r : ReceiverRun) (report : Change SinkShown) (result : Status) where
  abbrev this : Run
  this = run_of form st kt beginning r report result

  -- what is promised of a receiver's end, and of the status that it makes
  record ComesTo (ended : Ended) : Type 0 where
    caused : IsCausedBy this result
    was : was_heard result ≡ true
    complete : IsTrue st → IsFaultless this → IsDone result

  comes_to : (ended : Ended) (lines : List (List ℕ)) → r.ended ≡ Some ended → IsHeardEnd ended → IsFinished ended report result
      → (ended ≡ ends.ReadFault → ReadFailed r.source) → (IsTrue st → IsEnding ended r.source.now.taken r.source.now.left lines)
      → (IsTrue st → r.source.now.taken ++ r.source.now.left ≡ r.source.before.left) → ComesTo ended
  comes_to ends.End lines is never finished cause ending bytes = record {
    caused = ⊎_elim (λ same. subst (IsCausedBy this) (sym same) (is, tt))
        (λ failed. subst (IsCausedBy this) (sym failed.0) ((is, tt), inl (refl, failed.1))) finished;
    was = ⊎_elim (λ same. ap was_heard same) (λ failed. ap was_heard failed.0) finished;
    complete = λ told f. ⊎_elim (λ same. inl same) (λ failed. absurd (f.outputs_steady.0 failed.1)) finished;
  }
  comes_to ends.Cut lines is never finished cause ending bytes = let same : result ≡ statuses.Cut 1 = ⊎_elim (λ s. s) (λ f. f.0) finished in
      record {
        caused = subst (IsCausedBy this) (sym same) (inl (refl, is));
        was = ap was_heard same;
        complete = λ told f. absurd (let over = ap is_over (sym (bytes told)) ∙ (ending told).source_over in let within = f.within.0 in cc);
      }
  comes_to ends.ReadFault lines is never finished cause ending bytes =
      let same : result ≡ statuses.Read 1 = ⊎_elim (λ s. s) (λ f. f.0) finished in
      record {
        caused = subst (IsCausedBy this) (sym same) (inl (refl, is));
        was = ap was_heard same;
        complete = λ told f. absurd (f.receivers_steady.0 (cause refl));
      }
  comes_to ends.TxFault lines is never finished cause ending bytes = absurd (never.0 refl)
  comes_to ends.Memory lines is never finished cause ending bytes = absurd (never.1 refl)

  -- the receiver was heard
  pub heard_run : (e : Known) (ended : Ended) (counts counts' : Counts) (fresh world : WorldView) → counts ≡ counts'
      → (IsTrue st → known_of form beginning.before.left ≡ Ok e) → (IsTrue st → IsReadOut beginning) → (IsTrue st → LosesNothing beginning)
      → r.ended ≡ Some ended → r.counts ≡ counts' → fresh ≡ world_of e.own e.starts [] → counts.lines < 2 ^ 32
      → HasHeardAlone 1 (record { tells = st; source = r.source; counts = counts'; ended = ended }) fresh world
      → (IsTrue st → r.source.before.taken ≡ []) → IsHeardEnd ended → IsFinished ended report result
      → (IsTrue kt → HasText (report_text (record { counts = counts; ended = ended } ∷ []) world.slots world.strangers) report)
      → (result ≡ statuses.Done → IsTrue kt
      → report.now.written ≡ report_text (record { counts = counts; ended = ended } ∷ []) world.slots world.strangers)
      → IsRun this
  heard_run e ended counts counts' fresh world same_counts found read kept is counted_so before few hears' untaken never finished
      written done =
      let Hears : Counts → Type 0 =
      λ n. HasHeardAlone 1 (record { tells = st; source = r.source; counts = n; ended = ended }) fresh world in
      let hears : Hears counts = subst Hears (sym same_counts) hears' in
      let h : Hearing = record { tells = st; source = r.source; counts = counts; ended = ended } in
      let alone = heard_alone e.own e.starts h fresh world before hears in
      let lines = lines_of h in
      let bytes : IsTrue st → r.source.now.taken ++ r.source.now.left ≡ r.source.before.left =
      λ told. alone.has_heard.no_loss told ∙ ap (λ t. t ++ r.source.before.left) (untaken told) in
      let comes = comes_to ended lines is never finished alone.has_heard.read_fault alone.has_heard.ending bytes in
      record {
        headline = λ was_so told.
            let heard : Heard = record { known = e; receivers = record { lines = lines; ended = ended } ∷ []; world = world } in
            let tells = alone.has_heard.lines told in
            let same : report_text (record { counts = counts; ended = ended } ∷ []) world.slots world.strangers ≡ report_of heard =
            ap (λ n. report_text (record { counts = n; ended = ended } ∷ []) world.slots world.strangers)
            (alone.has_heard.counts ∙ ap (counts_of (map (λ c. c.address) e.starts)) tells) in
            let short : length (map told_of lines) < 2 ^ 32 =
            subst (λ (t : List Told). length t < 2 ^ 32) tells
            (subst (λ n. n < 2 ^ 32) (counted (map (λ c. c.address) e.starts) _ counts alone.has_heard.counts) few) in
            let session = subst (λ (t : List Told). IsSession e.own e.starts (t ∷ []) world) tells alone.session in
            record {
              heard = heard;
              begun = read told;
              known_is = found told;
              receivers = (
                record {
                  ended = is;
                  lines = alone.has_heard.ending told;
                  counts = counted_so ∙ sym same_counts ∙ alone.has_heard.counts ∙ ap (counts_of (map (λ c. c.address) e.starts)) tells;
                  first_bytes = bytes told;
                },
                tt,
              );
              session = session;
              sent = λ sends. absurd (let e = sends in cc);
              left = λ sends. absurd (let e = sends in cc);
              told = order_is_told e.own (map told_of lines ∷ []) (omega arith) (short, tt) e.starts world
                  (record { counts = counts_of (map (λ c. c.address) e.starts) (map told_of lines); ended = ended } ∷ []) session;
              written = λ writes. (subst (λ t. HasText t report) same (written writes), tt);
              whole = λ writes all. (done all writes ∙ same, tt);
              stopped = λ writes which stop.
                  ⊎_elim (λ at. inl at) (λ later. absurd later.1) (subst (IsCausedBy this) stop comes.caused).1;
            };
        status_caused = comes.caused;
        ends_caused = λ shown. (
          subst (EndIsCaused st r) (sym is) (end_caused st r ended lines alone.has_heard.read_fault (λ tx. absurd (never.0 tx))
              alone.has_heard.ending),
          tt,
        );
        refused = λ told fault bad. let yes = found told in absurd cc;
        complete = comes.complete;
        no_loss = λ told. (kept told, λ shown. (alone.has_heard.no_loss told, tt));
        silent = λ unheard. let heard = comes.was in absurd cc;
      }
