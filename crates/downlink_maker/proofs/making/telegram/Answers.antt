-- The authentication layer stands behind the link layer.
use Rattle.std.proofs.Common.{◌≡◌, ℕ, List, ◌++◌, drop, Ok, ap, ◌∙◌, append_assoc}
use Rattle.afl_layer.specs.Header.{afl_at}
use Rattle.downlink_maker.specs.Downlink.{message_bytes, authentication_of}
use Rattle.meter_address.specs.Address.{bytes_of}
use Rattle.downlink_maker.proofs.making.telegram.Goals as goal

pub returns-clause-authentication : goal.returns-clause-authentication
unfolding message_bytes bytes_of
returns-clause-authentication c =
    let message : List ℕ = c.transport_header-header.result ++ c.split_at.result.0.now in
    let rest : List ℕ = c.authentication_layer-authentication.result ++ message in
    let same : message ≡ message_bytes c.args.commission.now c.args.down c.args.payload.now = cc in
    let parts : c.joined.result ≡ c.link_layer.result ++ rest = c.joined.ensures ∙ simp append_assoc in
    ap (λ (bytes : List ℕ). afl_at (drop 10 bytes)) parts
    ∙ ap (λ (link : List ℕ). afl_at (drop 10 (link ++ rest))) c.link_layer.ensures
    ∙ c.authentication_layer-authentication.ensures.again message
    ∙ ap (λ (mac : List ℕ). Ok (authentication_of c.args.down mac)) (c.mac-mac.ensures c.args.payload.now same)
