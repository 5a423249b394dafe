-- The ring after one more stranger.
use Rattle.std.proofs.Common.{◌≡◌, ℕ, ◌+◌, ◌-◌, ◌≤◌, List, [], ◌∷◌, ◌++◌, length, drop, map, refl, ap, sym, ◌∙◌, arith}
use Rattle.std.proofs.Common.{length-append, length-drop}
use Rattle.std.proofs.lemmas.List.{drop-append-le, drop-drop, drop-map, length-map, map-append}
use Rattle.circular_buffer.specs.Buffer.{keep_last}
use Rattle.meter_address.specs.declared.address.Address.{Address}
use Rattle.stranger_ring.specs.declared.strangers.Heard.{Heard}
use Rattle.stranger_ring.specs.Ring.{ring_of}

-- the last n of what is kept and one more are the last n of all
kept_last : {X : Type 0} (n : ℕ) (xs : List X) (x : X) → keep_last n (keep_last n xs ++ x ∷ []) ≡ keep_last n (xs ++ x ∷ [])
kept_last n xs x =
    let b = length xs - n in
    let a = length (drop b xs ++ x ∷ []) - n in
    let fewer : b ≤ length xs = omega arith in
    let both : b + a ≡ length (xs ++ x ∷ []) - n =
    omega (arith, length-append (drop b xs) (x ∷ []), length-append xs (x ∷ []), length-drop b xs) in
    ap (drop a) (sym (drop-append-le b xs (x ∷ []) fewer)) ∙ drop-drop a b (xs ++ x ∷ []) ∙ ap (λ m. drop m (xs ++ x ∷ [])) both

-- the addresses of the last lines are the last addresses
ring_kept : (heard : List Heard) → ring_of heard ≡ keep_last 256 (map (λ h. h.address) heard)
unfolding ring_of
ring_kept heard =
    let address : Heard → Address = λ h. h.address in
    sym (drop-map address (length heard - 256) heard) ∙ ap (λ n. drop (n - 256) (map address heard)) (sym (length-map heard address))

pub no_ring : ring_of [] ≡ []
unfolding ring_of
no_ring = refl

pub next_ring : (before after : List Heard) (x : Heard) (ring new : List Address) → ring ≡ ring_of before
    → new ≡ keep_last 256 (ring ++ x.address ∷ []) → after ≡ before ++ x ∷ [] → new ≡ ring_of after
next_ring before after x ring new is made pushed =
    let address : Heard → Address = λ h. h.address in
    made ∙ ap (λ r. keep_last 256 (r ++ x.address ∷ [])) (is ∙ ring_kept before) ∙ kept_last 256 (map address before) x.address
    ∙ ap (keep_last 256) (sym (map-append address before (x ∷ [])) ∙ ap (map address) (sym pushed)) ∙ sym (ring_kept after)
