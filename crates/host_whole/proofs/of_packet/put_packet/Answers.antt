use mathlib.Core.Path.{◌≡◌}
use Rattle.std.proofs.Common.{rules}
use Rattle.packet.specs.Packet.{tried, start_flag}
use Rattle.packet.proofs.Laws.{packet-is}
use Rattle.host_whole.specs.Whole.{packet_fields}
use Rattle.host_whole.proofs.Laws.{left_whole}
use Rattle.host_whole.proofs.of_packet.put_packet.Goals as goal

-- what each part left, one after another
pub returns-clause-left : goal.returns-clause-left
unfolding packet_fields start_flag
returns-clause-left c =
    let p = c.in_ok-packet.packet in
    let kept : p.bytes.now ≡ c.args.packet.now = search rules in
    left_whole (tried c.args.packet.now) 15 _ _ _ (search rules) (search rules) (search rules)
    (rw (
      ← kept,
      c.put_row-2.ensures.told,
      c.put_row.ensures.told,
      c.put-7.ensures.told,
      c.put-6.ensures.told,
      c.put-5.ensures.told,
      c.put-4.ensures.told,
      c.put-3.ensures.told,
      c.put-2.ensures.told,
      c.put.ensures.told,
      c.transport_error_indicator.ensures,
      c.payload_unit_start_indicator.ensures,
      c.transport_priority.ensures,
      c.pid.ensures,
      c.continuity_counter.ensures,
      c.transport_scrambling_control.ensures,
      c.adaptation_control.ensures,
      c.adaptation_field_at.ensures,
      c.payload_at.ensures,
    ) (simp (packet-is p.bytes.now p.whole p.synced)))
