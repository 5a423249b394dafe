-- From the workers before and after their work to the receivers' runs and their passes.
use Rattle.std.proofs.Common.{◌≡◌, ℕ, zero, suc, ◌+◌, ◌<◌, List, [], ◌∷◌, ◌++◌, map, length, slice_index_or, None, All, refl, sym, ap, ◌∙◌, subst, arith, append-nil}
use Rattle.std.proofs.lemmas.List.{length-map}
use Rattle.meter_address.specs.declared.address.Address.{Address}
use Rattle.meter_slots.specs.declared.entry.Event.{Event}
use Rattle.meter_slots.specs.declared.entry.Outcome.{Outcome}
use Rattle.outer_io.specs.declared.sinks.Sink as sinks
use Rattle.outer_io.specs.declared.sources.Source as sources
use Rattle.lists.specs.Each.{Each}
use Rattle.book_cells.specs.Acts.{Shown, CellShown}
use Rattle.receivers.specs.Passes.{Crew}
use Rattle.receivers.specs.Receiver.{Receiving}
use Rattle.receivers.specs.Run.{receiver_run, receiver_runs}
use Rattle.receivers.specs.Workers.{CanWork, IsDone}
use Rattle.receivers.specs.Crews.{IsCrew, AreCrews, AreRoots, CanJoin, HaveAllJoined}
use Rattle.receivers.specs.Running.{AreDone, HaveRun}

module _ {W S K O P : Type 0} (receiver_of : W → Receiving S K) (crew_of : W
    → Crew O P) (cells : List (CellShown O)) (strangers : CellShown P) where
  pub can_work : (n : ℕ) (ws : List W) → AreCrews cells strangers n (map crew_of ws)
      → All (λ (r : Receiving S K). r.ended ≡ None) (map receiver_of ws)
      → All (λ (w : W). CanWork cells strangers (receiver_of w).ended (crew_of w)) ws
  can_work n [] crews fresh k d l = absurd (omega arith)
  can_work n (w ∷ ws) crews fresh zero d l = record { fresh = fresh 0 (receiver_of w) (omega arith); crew_of = crews.0.crew_of }
  can_work n (w ∷ ws) crews fresh (suc k) d l = can_work (n + 1) ws crews.1 (λ i e m. fresh (suc i) e (omega arith)) k d (omega arith)

  module _ (s : sources.Ghosts S) (t : sinks.Ghosts K) (directory : List Address) where
    abbrev Done : W → W → Type 0
    Done w w' = IsDone cells strangers directory (receiver_run s t (receiver_of w) (receiver_of w')) (crew_of w) (crew_of w')

    are_done : (ws ws' : List W) → length ws' ≡ length ws
        → ((i : ℕ) (d : W) → i < length ws → Done (slice_index_or ws i d) (slice_index_or ws' i d))
        → AreDone directory cells strangers (receiver_runs s t (map receiver_of ws) (map receiver_of ws')) (map crew_of ws)
        (map crew_of ws')
    are_done [] [] many each = tt
    are_done (w ∷ ws) (w' ∷ ws') many each = (each 0 w (omega arith), are_done ws ws' (omega arith) (λ i d l. each (suc i) d (omega arith)))
    are_done _ _ many each = absurd (omega arith)

    can_join_one : (n : ℕ) (w w' : W) → IsCrew cells strangers n (crew_of w) → Done w w' → CanJoin cells strangers (crew_of w')
    can_join_one n w w' fresh done = let works = done.worked.works in let many = works.answered.as_many in record {
      crew_of = done.crew_of;
      split = λ k d l. (works.answered.each k d (omega arith)).same.3 ∙ (fresh.fresh k d (omega arith)).not_first;
      stranger = works.noted.same.3 ∙ fresh.stranger.not_first;
    }

    pub can_join : (n : ℕ) (ws ws' : List W) → length ws' ≡ length ws
        → ((i : ℕ) (d : W) → i < length ws → Done (slice_index_or ws i d) (slice_index_or ws' i d))
        → AreCrews cells strangers n (map crew_of ws) → Each (CanJoin cells strangers) (map crew_of ws')
    can_join n [] [] many each crews = tt
    can_join n (w ∷ ws) (w' ∷ ws') many each crews = (
      can_join_one n w w' crews.0 (each 0 w (omega arith)),
      can_join (n + 1) ws ws' (omega arith) (λ i d l. each (suc i) d (omega arith)) crews.1,
    )
    can_join n _ _ many each crews = absurd (omega arith)

    runs_many : (olds news : List (Receiving S K)) → length news ≡ length olds → length (receiver_runs s t olds news) ≡ length olds
    runs_many [] news many = refl
    runs_many (r ∷ olds) [] many = absurd (omega arith)
    runs_many (r ∷ olds) (r' ∷ news) many = let n = runs_many olds news (omega arith) in omega arith

    module _ (ws ws' : List W) (olds news back : List (Receiving S K)) (many : length ws' ≡ length ws)
        (olds_are : map receiver_of ws ≡ olds) (news_are : news ≡ map receiver_of ws' ++ back) (none : back ≡ []) where
      workers_back : map receiver_of ws' ≡ news
      workers_back = sym (news_are ∙ (ap (λ l. map receiver_of ws' ++ l) none ∙ append-nil (map receiver_of ws')))

      pub all_back : length news ≡ length olds
      all_back = let a = ap length workers_back in let b = ap length olds_are in let c = length-map ws' receiver_of in
          let d = length-map ws receiver_of in omega arith

      pub have_run : (hired roots' : List (Shown O Event Outcome)) (p p' : Shown P Address Unit)
          → ((i : ℕ) (d : W) → i < length ws → Done (slice_index_or ws i d) (slice_index_or ws' i d))
          → AreRoots cells strangers 0 (length olds) hired p → AreCrews cells strangers 1 (map crew_of ws)
          → HaveAllJoined (map crew_of ws') hired roots' p p'
          → HaveRun directory cells strangers (receiver_runs s t olds news) roots' p'
      have_run hired roots' p p' each roots crews joined = record {
        fresh = map crew_of ws;
        worked = map crew_of ws';
        hired = hired;
        hired_stranger = p;
        are_roots = subst (λ (n : ℕ). AreRoots cells strangers 0 n hired p) (sym (runs_many olds news all_back)) roots;
        are_crews = crews;
        done = subst (λ (l : List (Receiving S K) × List (Receiving S K)). AreDone directory cells strangers (receiver_runs s t l.0 l.1)
            (map crew_of ws) (map crew_of ws')) (λ i. (olds_are i, workers_back i)) (are_done ws ws' many each);
        joined = joined;
      }
