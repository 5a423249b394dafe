-- A read, and a whole stream.
use Rattle.std.proofs.Common.{◌≡◌, ◌≢◌, ℕ, ◌+◌, ◌-◌, ◌^◌, ◌<◌, ◌≤◌, Bool, List, [], ◌∷◌, ◌++◌, length, take, drop, refl, sym, ap, ◌∙◌, subst, arith}
use Rattle.std.specs.Prelude.{IsTrue}
use Rattle.std.proofs.lemmas.List.{append-nil, length-append, length-take-le, nil_from_length}
use Rattle.outer_io.specs.Bytes.{Moves}
use Rattle.outer_io.specs.Shown.{Change, SourceShown, SinkShown}
use Rattle.line_teller.specs.declared.ending.LinesEnd.{LinesEnd}
use Rattle.line_teller.specs.declared.ending.LinesEnd.TheVariants as ends
use Rattle.line_feed.specs.Opened.{Open, StandsAt}
use Rattle.line_feed.specs.Streams.{Goes, EndsRead, Stops}
use Rattle.line_feed.proofs.StreamReads.{stop_read, ends_unread, goes_none}

-- a count of bytes that isn't 0
pub some_taken : (buffer : List ℕ) (count : ℕ) → count ≤ length buffer → 0 < count → 0 < length (take count buffer)
some_taken buffer count within some = let all : length (take count buffer) ≡ count = length-take-le count buffer within in omega arith

pub more_taken : (taken taken' front : List ℕ) → taken' ≡ taken ++ front → 0 < length front → length taken < length taken'
more_taken taken taken' front back some = let all : length taken' ≡ length taken + length front = ap length back ∙ length-append taken front in omega arith

-- nothing is left where the source was at its end
pub nothing_left : {bytes taken left taken' left' : List ℕ} → Moves bytes taken left taken' left' → left ≡ [] → left' ≡ []
nothing_left {bytes} {left'} moves none =
    let all = length-append bytes left' in
    let closed = ap length (sym moves.front ∙ none) in
    nil_from_length left' (omega arith)

module _ {T : Type 0} (tells : T → ℕ → List ℕ → List ℕ → List ℕ → T → Type 0) where
  pub last_read : (buffer : List ℕ) {bytes left : List ℕ} {count : ℕ} {begun : Open} {t t' : T} {end : LinesEnd} {out_tells notes_tell : Bool}
      {out notes : Change SinkShown} → count ≡ 0 → left ≡ []
      → EndsRead tells bytes bytes [] begun t t' end out_tells out notes_tell notes
      → EndsRead tells bytes (bytes ++ take count buffer) left begun t t' end out_tells out notes_tell notes
  last_read buffer {bytes} none closed ended = rw (closed, none, append-nil bytes) ended

  pub goes_front : {bytes front read : List ℕ} {o0 o1 : Open} {t t' : T} {out_tells notes_tell : Bool} {out notes : Change SinkShown}
      → front ≡ read
      → Goes tells bytes (bytes ++ front) o0 o1 t t' out_tells out notes_tell notes
      → Goes tells bytes (bytes ++ read) o0 o1 t t' out_tells out notes_tell notes
  goes_front is g = rw (← is) g

  pub stops_front : {bytes front read left : List ℕ} {o0 : Open} {t t' : T} {end : LinesEnd} {out_tells notes_tell : Bool}
      {out notes : Change SinkShown} → front ≡ read
      → Stops tells bytes (bytes ++ front) o0 t t' end out_tells out notes_tell notes
      → EndsRead tells bytes (bytes ++ read) left o0 t t' end out_tells out notes_tell notes
  stops_front is stop = rw (← is) (stop_read tells stop)

  -- by what the source took
  pub goes_taken : (front : List ℕ) {bytes bytes' : List ℕ} {o0 o1 : Open} {t t' : T} {out_tells notes_tell : Bool} {out notes : Change SinkShown}
      → bytes' ≡ bytes ++ front
      → Goes tells bytes (bytes ++ front) o0 o1 t t' out_tells out notes_tell notes
      → Goes tells bytes bytes' o0 o1 t t' out_tells out notes_tell notes
  goes_taken front is g = rw is g

  pub ends_taken : (front : List ℕ) {bytes bytes' left : List ℕ} {o0 : Open} {t t' : T} {end : LinesEnd} {out_tells notes_tell : Bool}
      {out notes : Change SinkShown} → bytes' ≡ bytes ++ front
      → EndsRead tells bytes (bytes ++ front) left o0 t t' end out_tells out notes_tell notes
      → EndsRead tells bytes bytes' left o0 t t' end out_tells out notes_tell notes
  ends_taken front is ended = rw is ended

  pub ends_failed : {bytes bytes' left : List ℕ} {o0 : Open} {t : T} {out_tells notes_tell : Bool} {a x : SinkShown}
      → bytes' ≡ bytes ++ []
      → EndsRead tells bytes bytes' left o0 t t ends.Read out_tells (record { before = a; now = a }) notes_tell
      (record { before = x; now = x })
  ends_failed {bytes} is = rw (is, append-nil bytes) (ends_unread tells)

  -- before the first read
  pub goes_fresh : {bytes : List ℕ} {begun : Open} {t : T} {out_tells notes_tell : Bool} {a x : SinkShown} → bytes ≡ [] → StandsAt [] begun
      → Goes tells [] bytes begun begun t t out_tells (record { before = a; now = a }) notes_tell (record { before = x; now = x })
  goes_fresh none s = rw none (goes_none tells s)
