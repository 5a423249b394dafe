-- What a paper over a sink does with the text that is put on it.
use Rattle.std.specs.Prelude.{ℕ, ◌≡◌, ◌≤◌, Bool, true, false, List, ◌++◌, IsTrue}
use Rattle.outer_io.specs.Faults.{Rose}
use Rattle.paper.specs.declared.sink_paper.SinkPaper.{SinkPaper}

-- the bytes that the sink has, those of the page, whether a write failed, and the sink's faults so far
pub record Filed : Type 0 where
  pub written : List ℕ
  pub page : List ℕ
  pub failed : Bool
  pub faults : ℕ

-- what a paper has, where a sink is seen by its bytes and its faults
abbrev pub filed : {K : Type 0} → (K → List ℕ) → (K → ℕ) → SinkPaper K → Filed
filed written faults p = record { written = written p.sink.now; page = p.page; failed = p.failed; faults = faults p.sink.now }

-- the first bytes of a text
pub record IsFrontOf (front whole : List ℕ) : Type 0 where
  pub rest : List ℕ
  pub joined : whole ≡ front ++ rest

-- the text stands behind the page's bytes, or a write failed: then the sink has some first bytes of them all, and takes no more
pub record Files (tells : Bool) (old : Filed) (text : List ℕ) (new : Filed) : Type 0 where
  pub later : old.faults ≤ new.faults
  pub grows : IsTrue tells → IsFrontOf old.written new.written
  pub whole : new.failed ≡ false → (old.failed ≡ false) × (IsTrue tells → new.written ++ new.page ≡ old.written ++ old.page ++ text)
  pub front : old.failed ≡ false → new.failed ≡ true → IsTrue tells → IsFrontOf new.written (old.written ++ old.page ++ text)
  pub stuck : old.failed ≡ true → (new.failed ≡ true) × (IsTrue tells → new.written ≡ old.written)
  pub cause : old.failed ≡ false → new.failed ≡ true → Rose old.faults new.faults
