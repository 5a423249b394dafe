-- What is decoded of bytes in either format.
use Rattle.std.proofs.Common.{◌≡◌, ℕ, List, [], ◌∷◌, ◌++◌, take, drop, Result, Ok, Err, refl, sym, ◌∙◌, ap, arith, append-nil, ◌⊎◌, inl, inr}
use Rattle.std.specs.Prelude.{MatchResult, OnErr}
use Rattle.std.specs.List.{concat}
use Rattle.std.proofs.lemmas.List.{take-append-drop}
use Rattle.frame_formats.specs.declared.fault.FrameFault.{FrameFault}
use Rattle.frame_formats.specs.declared.format.Format.{Format}
use Rattle.frame_formats.specs.declared.format.Format.TheVariants as formats
use Rattle.frame_formats.specs.Crc.{IsBytes}
use Rattle.frame_formats.specs.Frames.{IsTelegram, AreChecked, OneBlock, TwoBlocks, Frame}
use Rattle.frame_formats.specs.Decoding.{decoded}
use Rattle.frame_formats.specs.Decodes.{Decodes}
use Rattle.frame_formats.specs.Laws.{FramesAreDecoded, TelegramsAreBytes}
use Rattle.frame_formats.proofs.Checked.{bytes_same, checked_is, content_bytes}
use Rattle.frame_formats.proofs.FirstFault.{fault_found, fault_only}
use Rattle.frame_formats.proofs.RelationA.{found as found_a, only as only_a}
use Rattle.frame_formats.proofs.RelationB.{found as found_b, only as only_b}

pub frames_are_decoded : FramesAreDecoded
frames_are_decoded formats.A bytes t all = (found_a bytes t all, only_a bytes t all)
frames_are_decoded formats.B bytes t all = (found_b bytes t all, only_b bytes t all)

-- the code's answer is what the definition decodes, whose telegram is then in its hands
pub decodes : (format : Format) (bytes old new : List ℕ) (r : Result (Unit {0}) FrameFault) → IsBytes bytes
    → MatchResult r (λ _. decoded format bytes ≡ Ok new) (λ e. decoded format bytes ≡ Err e) → OnErr r (new ≡ old)
    → Decodes format bytes old new r
decodes format bytes old new (Ok u) all is kept = record {
  found = (frames_are_decoded format bytes new all).0 is;
  only = λ t frame. let both : Ok new ≡ Ok t = sym is ∙ (frames_are_decoded format bytes t all).1 frame in (refl, cc);
  fault = tt;
  each_fault = λ e fault. let both : Ok new ≡ Err e = sym is ∙ fault_only format bytes e all fault in cc;
  kept = kept;
}
decodes format bytes old new (Err f) all is kept = record {
  found = tt;
  only = λ t frame. let both : Err f ≡ Ok t = sym is ∙ (frames_are_decoded format bytes t all).1 frame in cc;
  fault = fault_found format bytes f all is;
  each_fault = λ e fault.
      let both : Err f ≡ Err e = sym is ∙ fault_only format bytes e all fault in let same : f ≡ e = cc in ap Err same;
  kept = kept;
}

-- bytes are a frame of one telegram
pub one_telegram : (format : Format) (bytes t u : List ℕ) → IsBytes bytes → Frame format bytes t → Frame format bytes u → t ≡ u
one_telegram format bytes t u all one two =
    let both : Ok t ≡ Ok u = sym ((frames_are_decoded format bytes t all).1 one) ∙ (frames_are_decoded format bytes u all).1 two
    in cc

-- the blocks of bytes are bytes
blocks_bytes : (blocks : List (List ℕ)) (bytes : List ℕ) → IsBytes bytes → AreChecked blocks bytes → IsBytes (concat blocks)
blocks_bytes blocks bytes all is = content_bytes blocks (bytes_same bytes _ (checked_is blocks bytes all is) all)

-- so is what is sent in one block or in two
sent_bytes : (l : ℕ) (sent bytes : List ℕ) → IsBytes bytes → OneBlock l sent bytes ⊎ TwoBlocks l sent bytes → IsBytes sent
sent_bytes l sent bytes all (inl one) = bytes_same (sent ++ []) sent (append-nil sent) (blocks_bytes (sent ∷ []) bytes all one.frame)
sent_bytes l sent bytes all (inr two) =
    bytes_same (take 126 sent ++ (drop 126 sent ++ [])) sent (ap (λ (x : List ℕ). take 126 sent ++ x) (append-nil (drop 126 sent))
    ∙ take-append-drop 126 sent)
    (blocks_bytes (take 126 sent ∷ drop 126 sent ∷ []) bytes all two.frame)

-- of a telegram, L is a byte where the others are
with_l : (t : List ℕ) (l : ℕ) → IsTelegram t → IsBytes (l ∷ drop 1 t) → IsBytes t
with_l [] l telegram all = tt
with_l (b ∷ t) l telegram all = (omega (arith, telegram.counted, telegram.most), all.1)

pub telegrams_are_bytes : TelegramsAreBytes
telegrams_are_bytes formats.A bytes t all frame =
    bytes_same (concat (frame.first ∷ frame.others)) t (sym frame.content) (blocks_bytes (frame.first ∷ frame.others) bytes all frame.frame)
telegrams_are_bytes formats.B bytes t all frame =
    with_l t frame.l frame.telegram (sent_bytes frame.l (frame.l ∷ drop 1 t) bytes all frame.blocks)
