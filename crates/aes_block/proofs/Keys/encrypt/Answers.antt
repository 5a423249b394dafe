use Rattle.aes_block.specs.Block.{encrypt, state_after}
use Rattle.aes_block.proofs.Keys.encrypt.Goals as goal

pub returns : goal.returns
unfolding encrypt state_after
returns c =
    let s0 = c.add_round_key-state.ensures c.args.block.now c.loaded.ensures in
    let s1 = c.round-state.ensures _ s0 in
    let s2 = c.round-state-2.ensures _ s1 in
    let s3 = c.round-state-3.ensures _ s2 in
    let s4 = c.round-state-4.ensures _ s3 in
    let s5 = c.round-state-5.ensures _ s4 in
    let s6 = c.round-state-6.ensures _ s5 in
    let s7 = c.round-state-7.ensures _ s6 in
    let s8 = c.round-state-8.ensures _ s7 in
    let s9 = c.round-state-9.ensures _ s8 in
    c.stored.ensures _ (c.add_round_key.ensures _ (c.last_round.ensures _ s9))
