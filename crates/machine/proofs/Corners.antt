-- The corners hold.
-- Assumes nothing.
use mathlib.Core.Path.{refl}
use Rattle.bits.specs.Answer.{All}
use Rattle.bits.specs.Field.{bit, field}
use Rattle.control.specs.Control.{follows, compare}
use Rattle.packet.specs.Packet.{start_flag, counter_field, adaptation_flag, payload_flag, adaptation_length, adaptation_there, content_at, payload_there}
use Rattle.pes.specs.Head.{not_head}
use Rattle.machine.specs.Events.{head_accepted, begun, continued, discontinuity, continuity_by, announces, announcement, events_of, next}
use Rattle.machine.specs.History.{continuities}
use Rattle.machine.specs.Corners.{kinds_of, Holds, corners}

pub corners-hold : All Holds corners
unfolding bit field follows compare start_flag counter_field adaptation_flag payload_flag adaptation_length adaptation_there content_at payload_there not_head head_accepted begun continued discontinuity continuity_by announces announcement events_of next continuities kinds_of
corners-hold =
    ((refl, refl), ((refl, refl), ((refl, refl), ((refl, refl), ((refl, refl), ((refl, refl), ((refl, refl), ((refl, refl), ((refl, refl), ((refl, refl), ((refl, refl), ((refl, refl), ((refl, refl), ((refl, refl), ((refl, refl), ((refl, refl), ((refl, refl), ((refl, refl), ((refl, refl), ((refl, refl), ((refl, refl), ((refl, refl), ((refl, refl), ((refl, refl), ((refl, refl), ((refl, refl), ((refl, refl), ((refl, refl), ((refl, refl), ((refl, refl), ((refl, refl), ((refl, refl), ((refl, refl), tt)))))))))))))))))))))))))))))))))
