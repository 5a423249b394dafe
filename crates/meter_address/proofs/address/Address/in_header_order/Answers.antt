use Rattle.meter_address.proofs.HeaderOrder.{in_order_is}
use Rattle.meter_address.proofs.address.Address.in_header_order.Goals as goal

pub returns-clause-order : goal.returns-clause-order
returns-clause-order c = in_order_is c.args.self c.to_bytes.result c.to_bytes.ensures.bytes
