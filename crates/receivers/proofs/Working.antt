-- What a receiver did on cells, by what each of its lines did.
use Rattle.std.proofs.Common.{◌≡◌, ◌≢◌, ℕ, ◌+◌, ◌≤◌, List, [], ◌∷◌, ◌++◌, map, length, Bool, Option, Some, None, Result, Err, IsTrue, refl, sym, ap, ◌∙◌, subst, arith, append-nil, append_assoc, length-append}
use Rattle.std.specs.Prelude.{option_to_list}
use Rattle.std.specs.List.{enumerate_from}
use Rattle.std.proofs.lemmas.Grind.{flat_map-append}
use Rattle.std.proofs.lemmas.List.{map-append}
use Rattle.std.proofs.lemmas.List.Elements.{filter_map-append}
use Rattle.outer_io.specs.Bytes.{AppendsFront}
use Rattle.outer_io.specs.declared.failures.Failed.{Failed}
use Rattle.outer_io.specs.Shown.{Change, SourceShown, SinkShown, WriteFailed}
use Rattle.meter_address.specs.declared.address.Address.{Address}
use Rattle.meter_slots.specs.declared.counts.Counts.{Counts}
use Rattle.meter_slots.specs.declared.counts.Ended.{Ended}
use Rattle.meter_slots.specs.declared.counts.Ended.TheVariants as ends
use Rattle.meter_slots.specs.declared.entry.Event.{Event}
use Rattle.receivers.specs.declared.told.Told.{Told}
use Rattle.receivers.specs.declared.told.Told.TheVariants as told
use Rattle.receivers.specs.Classes.{OwnLine, StrangeLine, place_of, own_at, own_by, own_of, strange_of, own_lines, strange_lines}
use Rattle.receivers.specs.Passes.{Answered, Crew, HasNoted}
use Rattle.receivers.specs.Run.{ReceiverRun}
use Rattle.receivers.specs.Slots.{Hears, HearsAll, HearsTo, HasHeardFor}
use Rattle.receivers.specs.Works.{sent_text, tx_text, Part, HasSent, Works, HasWorked, MakesShared}
use Rattle.receivers.proofs.Makings.{made_nothing, answered_nothing, answered_more, noted_more, one_own}
use Rattle.receivers.proofs.Numbers.{numbered, rose_since}

-- ---- lines

own_more : (directory : List Address) (xs ys : List (ℕ × Told))
    → own_lines directory (xs ++ ys) ≡ own_lines directory xs ++ own_lines directory ys
unfolding own_lines
own_more directory xs ys = filter_map-append (own_of directory) xs ys

strange_more : (directory : List Address) (xs ys : List (ℕ × Told))
    → strange_lines directory (xs ++ ys) ≡ strange_lines directory xs ++ strange_lines directory ys
unfolding strange_lines
strange_more directory xs ys = filter_map-append (strange_of directory) xs ys

works_more : {O P : Type 0} (directory : List Address) (xs ys : List (ℕ × Told)) (d e : List Answered) (a b c : Crew O P)
    → Works directory xs d a b → Works directory ys e b c → Works directory (xs ++ ys) (d ++ e) a c
works_more directory xs ys d e a b c p q = record {
  asked = map-append (λ (x : Answered). x.own) d e ∙ ((λ i. p.asked i ++ q.asked i) ∙ sym (own_more directory xs ys));
  answered = answered_more d e a.passes b.passes c.passes p.answered q.answered;
  noted = subst (λ (ls : List StrangeLine). HasNoted ls a.stranger_pass c.stranger_pass) (sym (strange_more directory xs ys))
      (noted_more _ _ a.stranger_pass b.stranger_pass c.stranger_pass p.noted q.noted);
}

works_none : {O P : Type 0} (directory : List Address) (a : Crew O P) → Works directory [] [] a a
unfolding own_lines strange_lines
works_none directory a = record { asked = refl; answered = answered_nothing a.passes; noted = made_nothing a.stranger_pass }

-- ---- downlinks

tx_more : (x : List ℕ) (d e : List Answered) → (x ++ tx_text d) ++ tx_text e ≡ x ++ tx_text (d ++ e)
tx_more x d e = append_assoc x (tx_text d) (tx_text e) ∙ ap (λ (l : List ℕ). x ++ l) (sym (flat_map-append sent_text d e))

-- the only step of a line has its number
its_line : (directory : List Address) (line : ℕ) (t : Told) (x : OwnLine) → x ∷ [] ≡ option_to_list (own_by directory line t)
    → x.line ≡ line
its_line directory line (told.Event address event) x e = at (place_of directory address) e
  where
    at : (o : Option ℕ) → x ∷ [] ≡ option_to_list (own_at line event o) → x.line ≡ line
    at None h = absurd cc
    at (Some place) h = let y : OwnLine = record { place = place; line = line; event = event } in
        let same : x ≡ y = cc in ap (λ (z : OwnLine). z.line) same
its_line directory line _ x e = absurd cc

-- all downlinks were written
sent_all : (how : Ended) (run : ReceiverRun) (p : Part) → how ≢ ends.TxFault
    → (IsTrue run.tx_tells → run.tx.now.written ≡ run.tx.before.written ++ tx_text p.did) → HasSent how run p
sent_all ends.TxFault run p not sent = absurd (not refl)
sent_all _ run p not sent = sent

-- no further step was made, and nothing written
works_still : {O P : Type 0} (directory : List Address) (heard : List Told) (did : List Answered) (a b c : Crew O P)
    → Works directory (enumerate_from 1 heard) did a b → Works directory [] [] b c → Works directory (enumerate_from 1 heard) did a c
works_still directory heard did a b c works nothing =
    subst (λ (ls : List (ℕ × Told)). Works directory ls did a c) (append-nil (enumerate_from 1 heard))
    (subst (λ (d : List Answered). Works directory (enumerate_from 1 heard ++ []) d a c) (append-nil did)
    (works_more directory (enumerate_from 1 heard) [] did [] a b c works nothing))

-- ---- lines one after another, on cells

module _ {A K O P : Type 0} (directory : List Address) (tells : Bool) (crew_in : A → Crew O P) (shown : K → SinkShown) where
  abbrev tx_between : A × K → A × K → Change SinkShown
  tx_between p q = record { before = shown p.1; now = shown q.1 }

  abbrev pub Makes : ℕ → Address → Event → Result Unit Failed → A × K → A × K → Type 0
  Makes line address event sent p q = MakesShared directory line address event sent (crew_in p.0) (crew_in q.0) tells (tx_between p q)

  abbrev pub Waits : A × K → A × K → Type 0
  Waits p q = Works directory [] [] (crew_in p.0) (crew_in q.0) × (q.1 ≡ p.1)

  -- what lines did whose downlinks were all written
  pub record HaveServed (lines : List (ℕ × Told)) (x z : A × K) : Type 0 where
    pub did : List Answered
    pub works : Works directory lines did (crew_in x.0) (crew_in z.0)
    pub sent : IsTrue tells → (shown z.1).written ≡ (shown x.1).written ++ tx_text did
    pub later : (shown x.1).faults ≤ (shown z.1).faults

  all_served : (lines : List (ℕ × Told)) (x z : A × K) → HearsAll Makes lines x z → HaveServed lines x z
  unfolding own_lines strange_lines
  all_served [] x z e = subst (λ (q : A × K). HaveServed [] x q) (sym e) (record {
    did = [];
    works = works_none directory (crew_in x.0);
    sent = λ _. sym (append-nil (shown x.1).written);
    later = omega arith;
  })
  all_served ((line, told.Event address event) ∷ lines) x z h = let s = h.1 in let r = all_served lines h.0 z h.2 in record {
    did = s.did ++ r.did;
    works = works_more directory ((line, told.Event address event) ∷ []) lines s.did r.did (crew_in x.0) (crew_in h.0.0) (crew_in z.0)
        s.works r.works;
    sent = λ t. r.sent t ∙ (ap (λ (l : List ℕ). l ++ tx_text r.did) (s.sent_so t) ∙ tx_more (shown x.1).written s.did r.did);
    later = omega (arith, s.tx_later, r.later);
  }
  all_served ((line, t) ∷ lines) x z h = let r = all_served lines h.0 z h.2 in
      subst (λ (p : A × K). HaveServed ((line, t) ∷ lines) p z) h.1.1 (record {
        did = r.did;
        works = record { asked = r.works.asked; answered = r.works.answered; noted = r.works.noted };
        sent = r.sent;
        later = r.later;
      })

  still_served : (heard : List Told) (x y z : A × K) → HaveServed (enumerate_from 1 heard) x y → Waits y z
      → HaveServed (enumerate_from 1 heard) x z
  still_served heard x y z r w = record {
    did = r.did;
    works = works_still directory heard r.did (crew_in x.0) (crew_in y.0) (crew_in z.0) r.works w.0;
    sent = λ t. ap (λ (k : K). (shown k).written) w.1 ∙ r.sent t;
    later = (let same = ap (λ (k : K). (shown k).faults) w.1 in omega (arith, same, r.later));
  }

  -- ---- up to an end

  module _ (source_tells : Bool) (source : Change SourceShown) (counts : Counts) (ended : Option Ended) where
    abbrev pub run_over : A × K → A × K → ReceiverRun
    run_over x z = record {
      source_tells = source_tells;
      source = source;
      tx_tells = tells;
      tx = tx_between x z;
      counts = counts;
      ended = ended;
    }

    record HaveServedTo (how : Ended) (heard : List Told) (x z : A × K) : Type 0 where
      pub did : List Answered
      pub works : Works directory (enumerate_from 1 heard) did (crew_in x.0) (crew_in z.0)
      pub has_sent : HasSent how (run_over x z) (record { heard = heard; did = did })
      pub tx_fault : how ≡ ends.TxFault → WriteFailed (tx_between x z)
      pub tx_later : (shown x.1).faults ≤ (shown z.1).faults

    all_sent : (how : Ended) (heard : List Told) (x z : A × K) → how ≢ ends.TxFault → HaveServed (enumerate_from 1 heard) x z
        → HaveServedTo how heard x z
    all_sent how heard x z never r = record {
      did = r.did;
      works = r.works;
      has_sent = sent_all how (run_over x z) (record { heard = heard; did = r.did }) never r.sent;
      tx_fault = λ is. absurd (never is);
      tx_later = r.later;
    }

    last_unsent : (sent : List Told) (last : Told) (fault : Failed) (x y z : A × K) → HaveServed (enumerate_from 1 sent) x y
        → Hears Makes (1 + length sent) last (Err fault) y z → HaveServedTo ends.TxFault (sent ++ last ∷ []) x z
    last_unsent sent (told.Event address event) fault x y z r s =
        let t : Told = told.Event address event in let line : ℕ = 1 + length sent in let last = s.sent_so.0 in
        let asked : last.own ∷ [] ≡ option_to_list (own_by directory line t) =
        ap (map (λ (d : Answered). d.own)) (sym s.sent_so.1) ∙ (s.works.asked ∙ one_own directory line t _ refl) in
        let number : line ≡ length (sent ++ t ∷ []) = (let m = length-append sent (t ∷ []) in omega arith) in record {
          did = r.did ++ s.did;
          works = subst (λ (ls : List (ℕ × Told)). Works directory ls (r.did ++ s.did) (crew_in x.0) (crew_in z.0)) (sym (numbered 1 sent t))
              (works_more directory (enumerate_from 1 sent) ((line, t) ∷ []) r.did s.did (crew_in x.0) (crew_in y.0) (crew_in z.0)
              r.works s.works);
          has_sent = record {
            sent = r.did;
            last = last;
            did_is = ap (λ (d : List Answered). r.did ++ d) s.sent_so.1;
            last_line = its_line directory line t last.own asked ∙ number;
            gives_one = s.sent_so.2;
            written = λ w. subst (λ (l : List ℕ). AppendsFront (sent_text last) l (shown z.1).written) (r.sent w) (s.sent_so.3 w);
          };
          tx_fault = λ _. rose_since (shown x.1).faults (shown y.1).faults (shown z.1).faults r.later s.tx_fault;
          tx_later = omega (arith, r.later, s.tx_later);
        }
    last_unsent sent _ fault x y z r s = let e = s.0 in absurd cc

    served_to : (how : Ended) (heard : List Told) (x z : A × K) → HearsTo Makes Waits how heard x z → HaveServedTo how heard x z
    served_to ends.Memory heard x z h = all_sent ends.Memory heard x z (λ is. absurd cc)
        (still_served heard x h.0 z (all_served (enumerate_from 1 heard) x h.0 h.1) h.2)
    served_to ends.TxFault heard x z h = subst (λ (l : List Told). HaveServedTo ends.TxFault l x z) (sym h.heard_is)
        (last_unsent h.sent h.last h.fault x h.between z (all_served (enumerate_from 1 h.sent) x h.between h.all_sent) h.unsent)
    served_to how heard x z h = all_sent how heard x z (λ is. absurd cc) (all_served (enumerate_from 1 heard) x z h)

    -- what a receiver did on cells, by what it heard for them
    pub has_worked : (how : Ended) (x z : A × K) → ended ≡ Some how
        → HasHeardFor Makes Waits directory (record { tells = source_tells; source = source; counts = counts; ended = how }) x z
        → HasWorked directory (run_over x z) (crew_in x.0) (crew_in z.0)
    has_worked how x z is h = let s = served_to how h.heard x z h.hears in record {
      part = record { heard = h.heard; did = s.did };
      ran = record {
        how = how;
        ended = is;
        has_heard = h.has_heard;
        has_sent = s.has_sent;
        tx_fault = s.tx_fault;
        tx_later = s.tx_later;
      };
      works = s.works;
    }
