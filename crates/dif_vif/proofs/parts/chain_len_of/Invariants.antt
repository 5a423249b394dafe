use Rattle.std.proofs.Common.{◌≡◌, ◌-◌, ◌≤◌, drop}
use Rattle.dif_vif.specs.Reading.{chain_len}
use Rattle.dif_vif.proofs.Chains.{plus}
use Rattle.dif_vif.proofs.parts.chain_len_of.Given as goal

abbrev pub invariant-loop-count : goal.invariant-loop-count
invariant-loop-count l =
    (l.count ≤ 10) × (plus l.count (chain_len l.start (10 - l.count) l.last (drop l.count l.bytes)) ≡ chain_len l.start 10 l.first l.bytes)
