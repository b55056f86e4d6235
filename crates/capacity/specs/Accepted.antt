-- What every reader of packet and header gives of packets that the writer makes: nothing is set that the unit does not name.
use Rattle.std.specs.Prelude.{◌≡◌, Bool, false, List, [], ◌∷◌, ℕ, ◌+◌, ◌-◌, ◌%◌, ◌≤◌, min, length, get_or, ltb}
use Rattle.bits.specs.Answer.{answer, pick, truth}
use Rattle.bits.specs.Numbers.{done, field_not_present}
use Rattle.control.specs.Control.{scrambling}
use Rattle.packet.specs.Packet.{tried, read_flag, error_bit, start_bit, priority_bit, read_pid, read_counter, read_adaptation, read_payload}
use Rattle.pes.specs.Stream.{read_id}
use Rattle.pes.specs.Head.{read_stream_id, read_length, read_contents_part}
use Rattle.contents.specs.Contents.{scrambling_bit, data_length_bit, read_fixed, read_pes_extension}
use Rattle.contents.specs.Contents.{read_parsed_payload}
use Rattle.writer.specs.declared.Unit.{Unit}
use Rattle.writer.specs.Unit.{data_of}
use Rattle.capacity.specs.Reads.{contents, HasFields}

-- a packet with n bytes of payload, as each reader gives it
pub record PacketRead (start : Bool) (pid c n : ℕ) (p : List ℕ) : Type 0 where
  pub is-packet : tried p ≡ answer done []
  pub no_error : read_flag error_bit p ≡ answer done (0 ∷ [])
  pub starts : read_flag start_bit p ≡ answer done (truth start ∷ [])
  pub no-priority : read_flag priority_bit p ≡ answer done (0 ∷ [])
  pub has_pid : read_pid p ≡ answer done (pid ∷ [])
  pub not-scrambled : scrambling (get_or p 3 0) ≡ 0
  pub has_counter : read_counter p ≡ answer done (c ∷ [])
  pub has-field : read_adaptation p ≡ pick (ltb n 183) (answer done (5 ∷ (183 - n) ∷ [])) (answer field_not_present [])
  pub has-payload : read_payload p ≡ answer done ((188 - n) ∷ n ∷ [])

-- packets with m bytes of payload, 184 each and the last the rest: the start flag on the first alone, the counter running
abbrev pub PacketsRead : Bool → ℕ → ℕ → ℕ → List (List ℕ) → Type 0
PacketsRead start pid c m [] = 0 ≤ 0
PacketsRead start pid c m (p ∷ ps) = PacketRead start pid c (min 184 m) p × PacketsRead false pid ((c + 1) % 16) (m - 184) ps

-- a header of a unit with n bytes of payload, from its six bytes on
pub record HeaderRead (u : Unit) (n : ℕ) (xs : List ℕ) : Type 0 where
  pub fields : HasFields u xs
  pub stream-id : read_stream_id xs ≡ read_id u.id
  pub bounded : read_length xs ≡ pick u.bounded (answer done (1 ∷ (3 + data_of u + n) ∷ [])) (answer done (0 ∷ []))
  pub parsed : read_contents_part xs ≡ answer done (1 ∷ 6 ∷ (length xs - 6) ∷ [])
  pub not-scrambled : read_fixed scrambling_bit 2 (contents xs) ≡ answer done (0 ∷ [])
  pub no-stuffing : read_fixed data_length_bit 8 (contents xs) ≡ answer done (data_of u ∷ [])
  pub no_extension : read_pes_extension (contents xs) ≡ answer field_not_present []
  pub has-payload : read_parsed_payload (contents xs) ≡ answer done ((3 + data_of u) ∷ (length (contents xs) - (3 + data_of u)) ∷ [])
