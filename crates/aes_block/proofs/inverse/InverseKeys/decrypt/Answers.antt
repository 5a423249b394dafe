use Rattle.aes_block.specs.Block.{decrypt, inverse_state_after}
use Rattle.aes_block.proofs.inverse.InverseKeys.decrypt.Goals as goal

pub returns : goal.returns
unfolding decrypt inverse_state_after
returns c =
    let s0 = c.add_round_key-state.ensures c.args.block.now c.loaded.ensures in
    let s1 = c.round_back-state.ensures _ s0 in
    let s2 = c.round_back-state-2.ensures _ s1 in
    let s3 = c.round_back-state-3.ensures _ s2 in
    let s4 = c.round_back-state-4.ensures _ s3 in
    let s5 = c.round_back-state-5.ensures _ s4 in
    let s6 = c.round_back-state-6.ensures _ s5 in
    let s7 = c.round_back-state-7.ensures _ s6 in
    let s8 = c.round_back-state-8.ensures _ s7 in
    let s9 = c.round_back-state-9.ensures _ s8 in
    c.stored.ensures _ (c.add_round_key.ensures _ (c.inverse_round.ensures _ s9))
