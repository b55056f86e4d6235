use native.Mathlib.Omega.{arith}
use Rattle.writer.proofs.Rows.{row_stands}
use Rattle.writer.proofs.row.read.Goals as goal

pub returns : goal.returns
returns c =
    row_stands _ _ _ _ _ _ _ _ (omega arith) (grind arith) c.in_ok-times_in.ensures c.in_ok-escr_in.ensures c.in_ok-rate_in.ensures
    c.in_ok-byte_in.ensures c.in_ok-byte_in-2.ensures c.in_ok-crc_in.ensures
