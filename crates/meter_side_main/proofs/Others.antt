-- Downlinks to other meters change nothing.
use Rattle.std.proofs.Common.{◌≡◌, ℕ, ◌%◌, Bool, true, false, cond, IsTrue, refl, List, [], ◌∷◌, ◌++◌, length, take, drop, Result, Ok, sym, ap, ◌∙◌}
use Rattle.std.proofs.lemmas.List.{append_assoc, take_at}
use Rattle.std.proofs.lemmas.List.Elements.{All-head, All-tail}
use Rattle.std.specs.List.{All}
use Rattle.std.specs.Int.{w16, to_le_bytes}
use Rattle.aes_block.specs.Block.{IsBlock}
use Rattle.frame_formats.specs.Crc.{IsBytes}
use Rattle.frame_formats.specs.Decoding.{decoded_a}
use Rattle.frame_formats.specs.declared.fault.FrameFault.{FrameFault}
use Rattle.meter_address.specs.declared.address.Address.{Address}
use Rattle.meter_address.specs.Address.{bytes_of, header_order}
use Rattle.meter_address.specs.Commission.{Commissioned}
use Rattle.meter_address.proofs.HeaderOrder.{length-header_order}
use Rattle.meter_address.proofs.Texts.{one_address}
use Rattle.downlink_maker.specs.Downlink.{configuration, telegram_to}
use Rattle.downlink_maker.specs.Parts.{Parts, HasParts, parts_to}
use Rattle.downlink_maker.proofs.Parts.{part-message}
use Rattle.downlink_maker.proofs.ReadBack.{is_laid_out}
use Rattle.meter_side_main.specs.declared.delivery.Executed.{Executed}
use Rattle.meter_side_main.specs.Reading.{message_in, told, did_after, executed_in, last_after, executed_after}
use Rattle.meter_side_main.specs.Side.{AllBytes}
use Rattle.meter_side_main.specs.Laws.{left_without, IsForOther, OthersChangeNothing}
use Rattle.meter_side_main.proofs.Genuineness.{told_is_genuine}
use Rattle.meter_side_main.proofs.Executing.{Silent, Done, Old, move, executed_step}

-- the front of what stands before other bytes
take_order : (order x y z body : List ℕ) → length order ≡ 8 → take 8 (order ++ x ++ y ++ z ++ body) ≡ order
take_order order x y z body h =
    ap (take 8) (append_assoc (order ++ x ++ y) z body ∙ append_assoc (order ++ x) y (z ++ body) ∙ append_assoc order x (y ++ (z ++ body)))
    ∙ take_at order (x ++ (y ++ (z ++ body))) 8 h

-- the meter that a telegram is for
order_in : (own a : Address) (p : Parts) (t : List ℕ) → HasParts own a p t → take 8 (drop 1 (message_in t)) ≡ header_order a
unfolding bytes_of
order_in own a p t h =
    ap (λ (x : List ℕ). take 8 (drop 1 x)) (part-message own a p t h)
    ∙ take_order (header_order a) (p.down % 256 ∷ 0x00 ∷ []) (to_le_bytes w16 (configuration p.blocks)) (0x10 ∷ []) p.content
    (length-header_order a)

same_order : (a b : Address) → header_order a ≡ header_order b → bytes_of a ≡ bytes_of b
unfolding bytes_of
same_order a b e = ap (λ (x : List ℕ). take 2 (drop 4 x) ++ take 4 x ++ drop 6 x) e

abbrev decoded_as : List ℕ → Result (List ℕ) FrameFault
decoded_as t = Ok t

not_genuine : (own : Address) (c : Commissioned) (d : List ℕ) (e : Executed) → IsBlock c.key → IsBytes d → IsForOther own c d
    → told own c d ≡ Ok e → ⊥
not_genuine own c d e hk hb o is =
    let g = told_is_genuine own c d e hk hb is in
    let t : List ℕ = telegram_to own o.other o.down o.payload in
    let u : List ℕ = telegram_to own c e.down g.payload in
    let one = is_laid_out own o.other o.down o.payload o.key o.counter o.is_payload in
    let two = is_laid_out own c e.down g.payload hk g.counter g.is_payload in
    let both : decoded_as t ≡ decoded_as u = sym one.decoded ∙ ap decoded_a (sym o.frame ∙ g.frame) ∙ two.decoded in
    let first = order_in own o.other.address (parts_to o.other o.down o.payload) t one.parts in
    let second = order_in own c.address (parts_to c e.down g.payload) u two.parts in
    let same : t ≡ u = cc in
    let order : header_order o.other.address ≡ header_order c.address = sym first
    ∙ ap (λ (x : List ℕ). take 8 (drop 1 (message_in x))) same ∙ second in
    o.differs (one_address o.other.address c.address o.other_number o.number (same_order o.other.address c.address order))

module _ (own : Address) (c : Commissioned) (other : List ℕ → Bool) (hk : IsBlock c.key) where
  -- what tells nothing may be left out, and the rest stays
  one_left : (d : List ℕ) (ds : List (List ℕ)) → IsBytes d → (IsTrue (other d) → IsForOther own c d)
      → ((last : ℕ) → executed_after own c last ds ≡ executed_after own c last (left_without other ds)) → (b : Bool) → other d ≡ b
      → (last : ℕ)
      → executed_after own c last (d ∷ ds)
      ≡ executed_after own c last (cond (cond b false true) (d ∷ left_without other ds) (left_without other ds))
  unfolding executed_after
  one_left d ds hd ho more true is last = elim (move last (told own c d)) [
    | Silent none done next ↦ executed_step own c last d ds [] last done next ∙ more last
    | Done e is_told above done next ↦ absurd (not_genuine own c d e hk hd (ho is) is_told)
    | Old e is_told old done next ↦ absurd (not_genuine own c d e hk hd (ho is) is_told)
  ]
  one_left d ds hd ho more false is last =
      ap (λ (es : List Executed). executed_in (did_after own c last d) ++ es) (more (last_after last (did_after own c last d)))

  pub without_others : (ds : List (List ℕ)) → AllBytes ds → All (λ (d : List ℕ). IsTrue (other d) → IsForOther own c d) ds → (last : ℕ)
      → executed_after own c last ds ≡ executed_after own c last (left_without other ds)
  without_others [] hb ho last = refl
  without_others (d ∷ ds) hb ho last =
      one_left d ds hb.0 (All-head (λ (x : List ℕ). IsTrue (other x) → IsForOther own c x) d ds ho)
      (without_others ds hb.1 (All-tail (λ (x : List ℕ). IsTrue (other x) → IsForOther own c x) d ds ho)) (other d) refl last

pub others_change_nothing : OthersChangeNothing
others_change_nothing own c other ds hk hb ho = without_others own c other hk ds hb ho c.down
