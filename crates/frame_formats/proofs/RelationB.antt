-- Format B: reading its blocks; what is decoded is a frame of its telegram, and each frame is decoded.
use Rattle.std.proofs.Common.{◌≡◌, ℕ, ◌+◌, ◌-◌, ◌<◌, ◌≤◌, List, [], ◌∷◌, ◌++◌, length, take, drop, set, get_or, cond, Ok, Err, refl, sym, ◌∙◌, ap, subst, arith, length-append, length-drop, append-nil, append_assoc, ◌⊎◌, inl, inr}
use Rattle.std.proofs.lemmas.List.{take_all, take_at, drop_at, take-append-drop, length-take}
use Rattle.std.proofs.lemmas.Bool.{lt-ltb, le-ltb, cases_lt}
use Rattle.std.specs.List.{flat_map}
use Rattle.frame_formats.specs.declared.fault.FrameFault.{FrameFault}
use Rattle.frame_formats.specs.declared.format.Format.TheVariants as formats
use Rattle.frame_formats.specs.Crc.{IsBytes}
use Rattle.frame_formats.specs.Frames.{IsTelegram, OneBlock, TwoBlocks, FrameB}
use Rattle.lists.specs.Steps.{◌>>=◌}
use Rattle.lists.proofs.StepLaws.{bind_ok}
use Rattle.frame_formats.specs.Faults.{IsLengthB}
use Rattle.frame_formats.specs.Decoding.{with_crc, pieces_b, content_of, block_of, counted, telegram_b, decoded_b}
use Rattle.frame_formats.proofs.Tests.{IsWhole, decoded_ok, decoded_again, begins_with}
use Rattle.frame_formats.proofs.Pieces.{with_front, first_read, first_fault, nothing_read}
use Rattle.frame_formats.proofs.Checked.{bytes-take, bytes-drop, byte_at, checked_is, checked_by, block_found, block_again, length-with_crc, same_head}
use Rattle.frame_formats.proofs.RelationA.{read_ok, last_ok}

pub one_piece : (bytes : List ℕ) → length bytes ≤ 128 → pieces_b bytes ≡ bytes ∷ []
one_piece bytes short = ap (λ b. cond b (bytes ∷ []) (take 128 bytes ∷ drop 128 bytes ∷ [])) (lt-ltb (length bytes) 129 (omega arith))

pub two_pieces : (bytes : List ℕ) → 128 < length bytes → pieces_b bytes ≡ take 128 bytes ∷ drop 128 bytes ∷ []
two_pieces bytes long = ap (λ b. cond b (bytes ∷ []) (take 128 bytes ∷ drop 128 bytes ∷ [])) (le-ltb (length bytes) 129 (omega arith))

-- one block
last_read : (n : ℕ) (piece block : List ℕ) → block_of n piece ≡ Ok block → content_of n (piece ∷ []) ≡ Ok block
last_read n piece block is = first_read n piece block [] is ∙ ap (with_front block) (nothing_read (n + 1)) ∙ ap Ok (append-nil block)

pub one_read : (bytes block : List ℕ) → length bytes ≤ 128 → block_of 1 bytes ≡ Ok block → content_of 1 (pieces_b bytes) ≡ Ok block
one_read bytes block short is = ap (content_of 1) (one_piece bytes short) ∙ last_read 1 bytes block is

pub one_fault : (bytes : List ℕ) (e : FrameFault) → length bytes ≤ 128 → block_of 1 bytes ≡ Err e → content_of 1 (pieces_b bytes) ≡ Err e
one_fault bytes e short is = ap (content_of 1) (one_piece bytes short) ∙ first_fault 1 bytes [] e is

-- two blocks
pub two_read : (bytes front back first second : List ℕ) → 128 < length bytes → front ≡ take 128 bytes → back ≡ drop 128 bytes
    → block_of 1 front ≡ Ok first → block_of 2 back ≡ Ok second → content_of 1 (pieces_b bytes) ≡ Ok (first ++ second)
two_read bytes front back first second long ahead behind one two =
    ap (content_of 1) (two_pieces bytes long) ∙ first_read 1 (take 128 bytes) first (drop 128 bytes ∷ []) (ap (block_of 1) (sym ahead)
    ∙ one)
    ∙ ap (with_front first) (last_read 2 (drop 128 bytes) second (ap (block_of 2) (sym behind) ∙ two))

pub front_fault : (bytes front : List ℕ) (e : FrameFault) → 128 < length bytes → front ≡ take 128 bytes → block_of 1 front ≡ Err e
    → content_of 1 (pieces_b bytes) ≡ Err e
front_fault bytes front e long ahead one =
    ap (content_of 1) (two_pieces bytes long) ∙ first_fault 1 (take 128 bytes) (drop 128 bytes ∷ []) e (ap (block_of 1) (sym ahead) ∙ one)

pub back_fault : (bytes front back first : List ℕ) (e : FrameFault) → 128 < length bytes → front ≡ take 128 bytes → back ≡ drop 128 bytes
    → block_of 1 front ≡ Ok first → block_of 2 back ≡ Err e → content_of 1 (pieces_b bytes) ≡ Err e
back_fault bytes front back first e long ahead behind one two =
    ap (content_of 1) (two_pieces bytes long) ∙ first_read 1 (take 128 bytes) first (drop 128 bytes ∷ []) (ap (block_of 1) (sym ahead)
    ∙ one)
    ∙ ap (with_front first) (first_fault 2 (drop 128 bytes) [] e (ap (block_of 2) (sym behind) ∙ two))

-- what is written first and second is all
pub both_written : (into' into'' first second : List ℕ) (n : ℕ) → length into'' ≡ n → n ≡ 126 + length second → length first ≡ 126
    → take (0 + length first) into' ≡ first → take (126 + length second) into'' ≡ take 126 into' ++ second → into'' ≡ first ++ second
both_written into' into'' first second n len all ten one two =
    let front : take 126 into' ≡ first = let same : 0 + length first ≡ 126 = omega arith in ap (λ k. take k into') (sym same) ∙ one
    in let whole : length into'' ≤ 126 + length second = omega arith
    in sym (take_all (126 + length second) into'' whole) ∙ two ∙ ap (λ x. x ++ second) front

-- what was sent, with its own length less one as its first byte
pub counted_is : (bytes sent : List ℕ) → 0 < length sent → content_of 1 (pieces_b bytes) ≡ Ok sent
    → telegram_b bytes ≡ Ok (set sent 0 (length sent - 1))
unfolding telegram_b
counted_is bytes [] some is = absurd (omega arith)
counted_is bytes (b ∷ sent) some is = ap (λ r. r >>= λ sent. Ok (counted sent)) is

pub counted_fault : (bytes : List ℕ) (e : FrameFault) → content_of 1 (pieces_b bytes) ≡ Err e → telegram_b bytes ≡ Err e
unfolding telegram_b
counted_fault bytes e is = ap (λ r. r >>= λ sent. Ok (counted sent)) is

counted_again : (t : List ℕ) (l : ℕ) → IsTelegram t → counted (l ∷ drop 1 t) ≡ t
counted_again [] l is = absurd (omega (arith, is.least))
counted_again (b ∷ t) l is = let same : length (l ∷ t) - 1 ≡ b = omega (arith, is.counted) in ap (λ x. x ∷ t) same

-- what was sent in one block or two makes a frame
frame_of : (bytes sent : List ℕ) (l : ℕ) → get_or sent 0 0 ≡ l → 11 ≤ length sent → length sent ≤ 256 → l + 1 ≡ length bytes
    → OneBlock l sent bytes ⊎ TwoBlocks l sent bytes → FrameB bytes (counted sent)
frame_of bytes [] l head least most len blocks = absurd (omega arith)
frame_of bytes (b ∷ sent) l head least most len blocks =
    let P : ℕ → Type 0 = λ x. OneBlock l (x ∷ sent) bytes ⊎ TwoBlocks l (x ∷ sent) bytes
    in record {
      telegram = record { least = least; most = most; counted = omega arith };
      l = l;
      counted = len;
      blocks = subst P head blocks;
    }

one_found : (bytes sent : List ℕ) (l : ℕ) → IsBytes bytes → l ≡ get_or bytes 0 0 → 12 ≤ l → l ≤ 127 → length bytes ≡ l + 1
    → content_of 1 (pieces_b bytes) ≡ Ok sent → FrameB bytes (counted sent)
one_found bytes sent l all is least most len read =
    let piece =
    block_found 1 bytes sent all (omega arith) (last_ok 1 bytes sent (ap (content_of 1) (sym (one_piece bytes (omega arith))) ∙ read))
    in let size : length sent + 2 ≡ length bytes = piece.1
    in frame_of bytes sent l (same_head bytes sent _ piece.0 (omega arith) ∙ sym is) (omega arith) (omega arith) (omega arith)
    (inl (record {
      least = least;
      most = most;
      frame = checked_by (sent ∷ []) bytes all (piece.0 ∙ sym (append-nil (with_crc sent)));
    }))

two_found : (bytes sent : List ℕ) (l : ℕ) → IsBytes bytes → l ≡ get_or bytes 0 0 → 130 ≤ l → length bytes ≡ l + 1
    → content_of 1 (pieces_b bytes) ≡ Ok sent → FrameB bytes (counted sent)
two_found bytes sent l all is least len read =
    let one = read_ok 1 (take 128 bytes) (drop 128 bytes ∷ []) sent (ap (content_of 1) (sym (two_pieces bytes (omega arith))) ∙ read)
    in let ahead = block_found 1 (take 128 bytes) one.0 (bytes-take 128 bytes all) (omega (arith, length-take 128 bytes)) one.2
    in let behind =
    block_found 2 (drop 128 bytes) one.1 (bytes-drop 128 bytes all) (omega (arith, length-drop 128 bytes))
    (last_ok 2 (drop 128 bytes) one.1 one.3)
    in let size : length one.0 ≡ 126 = omega (arith, ahead.1, length-take 128 bytes)
    in let rest_size : length one.1 + 130 ≡ length bytes = omega (arith, behind.1, length-drop 128 bytes)
    in let sent_size : length sent ≡ length one.0 + length one.1 = ap length one.4 ∙ length-append one.0 one.1
    in let most : get_or bytes 0 0 < 256 = byte_at bytes 0 all
    in let front : take 126 sent ≡ one.0 = ap (take 126) one.4 ∙ take_at one.0 one.1 126 size
    in let back : drop 126 sent ≡ one.1 = ap (drop 126) one.4 ∙ drop_at one.0 one.1 126 size
    in let frame : bytes ≡ with_crc one.0 ++ with_crc one.1 =
    sym (take-append-drop 128 bytes) ∙ ap (λ x. x ++ drop 128 bytes) ahead.0 ∙ ap (λ x. with_crc one.0 ++ x) behind.0
    in let head : get_or sent 0 0 ≡ l =
    sym (same_head sent one.0 one.1 one.4 (omega arith))
    ∙ same_head bytes one.0 _ (frame ∙ append_assoc one.0 _ (with_crc one.1)) (omega arith) ∙ sym is
    in let whole : bytes ≡ flat_map with_crc (take 126 sent ∷ drop 126 sent ∷ []) =
    frame ∙ ap (λ x. with_crc one.0 ++ x) (sym (append-nil (with_crc one.1)))
    ∙ ap (λ x. flat_map with_crc (x ∷ one.1 ∷ [])) (sym front) ∙ ap (λ x. flat_map with_crc (take 126 sent ∷ x ∷ [])) (sym back)
    in frame_of bytes sent l head (omega arith) (omega arith) (omega arith)
    (inr (record { least = least; most = omega arith; frame = checked_by (take 126 sent ∷ drop 126 sent ∷ []) bytes all whole }))

-- what is decoded is a frame of its telegram
pub found : (bytes t : List ℕ) → IsBytes bytes → decoded_b bytes ≡ Ok t → FrameB bytes t
unfolding telegram_b
found bytes t all is =
    let l : ℕ = get_or bytes 0 0
    in let ok = decoded_ok formats.B bytes t is
    in let fits : IsLengthB l = ok.0.fits
    in let len : length bytes ≡ l + 1 = ok.0.whole
    in let sent = bind_ok (content_of 1 (pieces_b bytes)) (λ sent. Ok (counted sent)) t ok.1
    in let told : Ok (counted sent.0) ≡ Ok t = sent.2
    in let same : counted sent.0 ≡ t = cc
    in let P : List ℕ → Type 0 = λ x. FrameB bytes x
    in subst P same (elim (cases_lt l 128) [
      | inl low ↦ one_found bytes sent.0 l all refl fits.least (omega arith) len sent.1
      | inr high ↦ two_found bytes sent.0 l all refl (omega (arith, fits.not_128, fits.not_129)) len sent.1
    ])

-- what was sent is read again
read_again : (bytes t : List ℕ) (l : ℕ) → IsTelegram t → IsWhole formats.B bytes l → content_of 1 (pieces_b bytes) ≡ Ok (l ∷ drop 1 t)
    → decoded_b bytes ≡ Ok t
unfolding telegram_b
read_again bytes t l telegram is read =
    decoded_again formats.B bytes l is ∙ ap (λ r. r >>= λ sent. Ok (counted sent)) read ∙ ap Ok (counted_again t l telegram)

one_only : (bytes t : List ℕ) (l : ℕ) → IsBytes bytes → IsTelegram t → l + 1 ≡ length bytes → OneBlock l (l ∷ drop 1 t) bytes
    → decoded_b bytes ≡ Ok t
one_only bytes t l all telegram len is =
    let sent : List ℕ = l ∷ drop 1 t
    in let frame : bytes ≡ with_crc sent = checked_is (sent ∷ []) bytes all is.frame ∙ append-nil (with_crc sent)
    in read_again bytes t l telegram (record {
      begins = begins_with bytes sent _ l frame refl (omega arith);
      fits = record { least = is.least; not_128 = λ e. omega (arith, is.most); not_129 = λ e. omega (arith, is.most) };
      whole = sym len;
    }) (one_read bytes sent (omega (arith, is.most)) (ap (block_of 1) frame ∙ block_again 1 sent))

two_only : (bytes t : List ℕ) (l : ℕ) → IsBytes bytes → IsTelegram t → l + 1 ≡ length bytes → TwoBlocks l (l ∷ drop 1 t) bytes
    → decoded_b bytes ≡ Ok t
two_only bytes t l all telegram len is =
    let sent : List ℕ = l ∷ drop 1 t
    in let first : List ℕ = take 126 sent
    in let second : List ℕ = drop 126 sent
    in let frame : bytes ≡ with_crc first ++ with_crc second =
    checked_is (first ∷ second ∷ []) bytes all is.frame ∙ ap (λ x. with_crc first ++ x) (append-nil (with_crc second))
    in let sizes : length bytes ≡ length first + 2 + (length second + 2) =
    omega (arith, ap length frame, length-append (with_crc first) (with_crc second), length-with_crc first, length-with_crc second)
    in let size : length first ≡ 126 = omega (arith, sizes, is.least, length-take 126 sent, length-drop 126 sent)
    in let checked_size : length (with_crc first) ≡ 128 = omega (arith, length-with_crc first)
    in let front : take 128 bytes ≡ with_crc first = ap (take 128) frame ∙ take_at (with_crc first) (with_crc second) 128 checked_size
    in let back : drop 128 bytes ≡ with_crc second = ap (drop 128) frame ∙ drop_at (with_crc first) (with_crc second) 128 checked_size
    in read_again bytes t l telegram (record {
      begins = begins_with bytes first _ l (frame ∙ append_assoc first _ (with_crc second)) refl (omega arith);
      fits = record { least = omega (arith, is.least); not_128 = λ e. omega (arith, is.least); not_129 = λ e. omega (arith, is.least) };
      whole = sym len;
    }) (two_read bytes (with_crc first) (with_crc second) first second (omega (arith, is.least)) (sym front) (sym back)
    (block_again 1 first) (block_again 2 second) ∙ ap Ok (take-append-drop 126 sent))

-- each frame is decoded
pub only : (bytes t : List ℕ) → IsBytes bytes → FrameB bytes t → decoded_b bytes ≡ Ok t
only bytes t all is = elim is.blocks [
  | inl one ↦ one_only bytes t is.l all is.telegram is.counted one
  | inr two ↦ two_only bytes t is.l all is.telegram is.counted two
]
