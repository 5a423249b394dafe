-- The lines of a text of senders, one after another.
use Rattle.std.proofs.Common.{◌≡◌, ℕ, ◌<◌, List, [], ◌∷◌, true, false, length, codes, Ok, Err, refl}
use Rattle.std.specs.Prelude.{nat_lt}
use Rattle.std.proofs.lemmas.Bool.{cond-true, lt-ltb}
use Rattle.plain_text.specs.Parts.{is_word}
use Rattle.line_accept.specs.Senders.{Sender}
use Rattle.line_accept.specs.declared.fault.SendersCause.TheVariants as causes
use Rattle.line_accept.specs.declared.fault.SendersFault.{SendersFault}
use Rattle.line_accept.specs.declared.fault.SendersFault.TheVariants.{Line, Memory}
use Rattle.line_accept.specs.SendersFile.{ended, with_line, senders_from, senders_of}
use Rattle.line_accept.specs.Reading.{IsFaultOf}

-- a text with more bytes than senders may have
pub too_long : (bytes : List ℕ) → 16777216 < length bytes → senders_of bytes ≡ Err (Line 0 causes.TooLong)
unfolding senders_of
too_long bytes long =
    cond-true (nat_lt 16777216 (length bytes)) _ _ (lt-ltb 16777216 (length bytes) long)

pub senders_missing : (p : List Sender) (n end : ℕ) (entries : List (ℕ × List ℕ)) → entries ≡ [] → n ≡ end
    → senders_from p entries end ≡ Err (Line n causes.Missing)
unfolding senders_from
senders_missing p n end entries none same = rw (none, same) refl

pub senders_end : (p : List Sender) (e : ℕ × List ℕ) (entries all : List (ℕ × List ℕ)) (end : ℕ) → all ≡ e ∷ entries
    → is_word e.1 (codes "end") ≡ true → senders_from p all end ≡ ended p entries
unfolding senders_from
senders_end p e entries all end first is = rw (first, is) refl

pub senders_next : (p q : List Sender) (e : ℕ × List ℕ) (entries all : List (ℕ × List ℕ)) (end : ℕ) → all ≡ e ∷ entries
    → is_word e.1 (codes "end") ≡ false → with_line p e ≡ Ok q → senders_from p all end ≡ senders_from q entries end
unfolding senders_from
senders_next p q e entries all end first is more = rw (first, is, more) refl

pub senders_fault : (p : List Sender) (fault : SendersFault) (e : ℕ × List ℕ) (entries all : List (ℕ × List ℕ)) (end : ℕ)
    → all ≡ e ∷ entries → is_word e.1 (codes "end") ≡ false → IsFaultOf (with_line p e) fault → IsFaultOf (senders_from p all end) fault
unfolding senders_from
senders_fault p (Line line cause) e entries all end first is fails = rw (first, is, fails) refl
senders_fault p Memory e entries all end first is fails = tt
