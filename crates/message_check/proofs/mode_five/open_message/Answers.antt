use Rattle.std.proofs.Common.{arith, sym, ap₂, ◌∙◌}
use Rattle.std.proofs.lemmas.Result.{err_from_is_err_and}
use Rattle.ell_layer.specs.Access.{access_of}
use Rattle.message_check.proofs.Messages.{header_seen, refused_header, refused_blocks, refused_none, refused_bytes, refused_number, all_passed}
use Rattle.message_check.proofs.mode_five.open_message.Goals as goal

pub returns-in_err-tpl-clause-refused : goal.returns-in_err-tpl-clause-refused
returns-in_err-tpl-clause-refused c =
    let p = err_from_is_err_and c.from_residual.result c.from_residual.ensures.1
    in rw (p.1, p.2) (refused_header c.args.last c.args.commission.now _ _ (header_seen _ _ 5 c.args.message.now _ c.commission.view_is c.in_err-tpl.ensures.exact))

pub returns-in_err-check_blocks-clause-refused : goal.returns-in_err-check_blocks-clause-refused
returns-in_err-check_blocks-clause-refused c =
    let p = err_from_is_err_and c.from_residual-in_err-check_blocks.result c.from_residual-in_err-check_blocks.ensures.1
    in rw (p.1, p.2) (refused_blocks c.args.last c.args.commission.now _ _ _ (header_seen _ _ 5 c.args.message.now _ c.commission.view_is c.in_ok-tpl.ensures.exact) c.in_err-check_blocks.ensures.exact)

pub returns-in_err-check_some_block-clause-refused : goal.returns-in_err-check_some_block-clause-refused
returns-in_err-check_some_block-clause-refused c =
    let p = err_from_is_err_and c.from_residual-in_err-check_some_block.result c.from_residual-in_err-check_some_block.ensures.1
    in rw (p.1, p.2) (refused_none c.args.last c.args.commission.now _ _ _
    (record { header = header_seen _ _ 5 c.args.message.now _ c.commission.view_is c.in_ok-tpl.ensures.exact; blocks = c.in_ok-check_blocks.ensures.exact }) c.in_err-check_some_block.ensures.exact)

pub returns-in_err-check_bytes-clause-refused : goal.returns-in_err-check_bytes-clause-refused
returns-in_err-check_bytes-clause-refused c =
    let p = err_from_is_err_and c.from_residual-in_err-check_bytes.result c.from_residual-in_err-check_bytes.ensures.1
    in rw (p.1, p.2) (refused_bytes c.args.last c.args.commission.now _ _ _ _ (record {
      has = record { header = header_seen _ _ 5 c.args.message.now _ c.commission.view_is c.in_ok-tpl.ensures.exact; blocks = c.in_ok-check_blocks.ensures.exact };
      some = c.in_ok-check_some_block.ensures.exact;
      is = c.split_at.ensures.back ∙ c.decrypt_for.ensures.payload;
      long = omega (arith, c.in_ok-check_some_block.ensures.some);
    }) c.in_err-check_bytes.ensures)

pub returns-in_err-check_access_number-clause-refused : goal.returns-in_err-check_access_number-clause-refused
returns-in_err-check_access_number-clause-refused c =
    let p = err_from_is_err_and c.from_residual-in_err-check_access_number.result c.from_residual-in_err-check_access_number.ensures.1
    in rw (p.1, p.2) (refused_number c.args.last c.args.commission.now _ _ _ _ (record {
      has = record { header = header_seen _ _ 5 c.args.message.now _ c.commission.view_is c.in_ok-tpl.ensures.exact; blocks = c.in_ok-check_blocks.ensures.exact };
      some = c.in_ok-check_some_block.ensures.exact;
      is = c.split_at.ensures.back ∙ c.decrypt_for.ensures.payload;
      long = omega (arith, c.in_ok-check_some_block.ensures.some);
    }) c.in_ok-check_bytes.ensures c.in_err-check_access_number.ensures)

pub returns-clause-opened : goal.returns-clause-opened
returns-clause-opened c = all_passed c.args.last c.args.commission.now _ _ _ _ (record {
  has = record { header = header_seen _ _ 5 c.args.message.now _ c.commission.view_is c.in_ok-tpl.ensures.exact; blocks = c.in_ok-check_blocks.ensures.exact };
  some = c.in_ok-check_some_block.ensures.exact;
  is = c.split_at.ensures.back ∙ c.decrypt_for.ensures.payload;
  long = omega (arith, c.in_ok-check_some_block.ensures.some);
}) c.in_ok-check_bytes.ensures c.in_ok-check_access_number.ensures c.from.ensures
    (c.from_bits.ensures ∙ ap₂ access_of c.is_bidirectional.ensures c.is_accessible.ensures) (sym c.split_at.ensures.back)
