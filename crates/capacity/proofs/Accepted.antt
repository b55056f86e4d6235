-- What the readers of packet and header give of packets that the writer makes: accepted, and nothing set that the unit does not name.
-- Assumes nothing.
use mathlib.Core.Path.{◌≡◌, refl, ap, ap₂, ◌∙◌}
use mathlib.Core.Bool.{Bool, true, false}
use mathlib.Core.List.{List, [], ◌∷◌, ◌++◌}
use Prim.Native.Nat.{ℕ, zero, suc, ◌+◌, ◌-◌, ◌%◌, ◌^◌, ◌≤◌, ◌<◌}
use native.Mathlib.Omega.{arith}
use lib.ListN.{length, take, drop, get_or, length-take, length-drop}
use lib.Dec.{eqb}
use borrow.Author.Tests.{ne_eqb}
use Rattle.bits.specs.Answer.{answer, pick, truth}
use Rattle.bits.specs.Numbers.{done}
use Rattle.bits.proofs.Fields.{in_byte}
use Rattle.control.specs.Control.{scrambling}
use Rattle.packet.specs.Packet.{start_flag, content_at}
use Rattle.packet.proofs.Laws.{packet-is}
use Rattle.pes.specs.Stream.{read_id}
use Rattle.writer.specs.declared.Unit.{Unit}
use Rattle.writer.specs.Unit.{data_of, stated_length}
use Rattle.writer.specs.Packets.{header_image, carrier, carried}
use Rattle.capacity.specs.Accepted.{PacketRead, PacketsRead, HeaderRead}
use Rattle.capacity.proofs.Permits.{UnitFits}
use Rattle.capacity.proofs.HeaderBack.{headed_back, id-back, length_back_lem, accepted-back, fields_back, payload-is, rest-given}
use Rattle.capacity.proofs.Carrier.{is-packet, rest-clear, start_back, pid-back, counter-back, content_back, field_back_lem}
use Rattle.capacity.proofs.Carrier.{payload-back}
use Rattle.capacity.proofs.Carried.{Takes, takes-rest, chunk-length}

-- ---- packets

module _ (b : Bool) (id c : ℕ) (xs : List ℕ) (low : 1 ≤ length xs) (high : length xs ≤ 184) (pid-fits : id < 2 ^ 13) (fits : c ≤ 15) where
  abbrev made : List ℕ
  made = carrier (truth b) id c xs

  read_made : PacketRead b id c (length xs) made
  unfolding start_flag scrambling
  read_made =
      let w = is-packet (truth b) id c xs high in
      let r = packet-is made w.0 w.1 in
      let z = rest-clear (truth b) id c xs in
      let q = content_back (truth b) id c xs high in
      let n : 188 - content_at made ≡ length xs = omega (arith, q) in
      record {
        is-packet = r _;
        no_error = r _ ∙ simp z.0;
        starts = r _ ∙ ap (λ (t : Bool). answer done (truth t ∷ [])) (start_back (truth b) id c xs b refl);
        no-priority = r _ ∙ simp z.1;
        has_pid = r _ ∙ ap (λ (v : ℕ). answer done (v ∷ [])) (pid-back (truth b) id c xs pid-fits);
        not-scrambled = omega (arith, z.2, in_byte made 3 0 2 6 refl, in_byte (get_or made 3 0 ∷ []) 0 0 2 6 refl);
        has_counter = r _ ∙ ap (λ (v : ℕ). answer done (v ∷ [])) (counter-back (truth b) id c xs fits);
        has-field = field_back_lem (truth b) id c xs high low;
        has-payload = r _ ∙ simp (payload-back (truth b) id c xs high low) (ap₂ (λ (p k : ℕ). answer done (p ∷ k ∷ [])) q n);
      }

pub read-carried : (k : ℕ) (b : Bool) (id c : ℕ) (xs : List ℕ) → id < 2 ^ 13 → c ≤ 15 → Takes k xs
    → PacketsRead b id c (length xs) (carried k (truth b) id c xs)
unfolding carried
read-carried zero b id c xs h f t = omega arith
read-carried (suc k) b id c xs h f t =
    let q = chunk-length k xs t in
    let a = read_made b id c (take 184 xs) q.0 q.1 h f in
    let ih = read-carried k false id ((c + 1) % 16) (drop 184 xs) h (omega arith) (takes-rest k xs t) in
    (rw (length-take 184 xs) at a, rw (length-drop 184 xs) at ih)

-- ---- the header, in the bytes of the begin

length-by : (b : Bool) (m : ℕ) → 0 < m
    → pick (eqb (pick b m 0) 0) (answer done (0 ∷ [])) (answer done (1 ∷ pick b m 0 ∷ []))
    ≡ pick b (answer done (1 ∷ m ∷ [])) (answer done (0 ∷ []))
length-by true m h = simp (ne_eqb m 0 (λ e. omega arith))
length-by false m h = refl

pub header_read : (u : Unit) (n : ℕ) (fit : UnitFits u n) (pay : List ℕ) → HeaderRead u n (header_image u n ++ pay)
unfolding stated_length
header_read u n fit pay =
    let h = headed_back u n fit pay in
    let i = id-back u n fit pay in
    let a = accepted-back u n fit pay in
    let r = rest-given u n fit pay in
    record {
      fields = fields_back u n fit pay;
      stream-id = h _ ∙ ap read_id i;
      bounded = h _ ∙ rw (length_back_lem u n fit pay) (length-by u.bounded (3 + data_of u + n) (omega arith));
      parsed = h _ ∙ rw (i, fit.id-parsed);
      not-scrambled = r.0;
      no-stuffing = r.1;
      no_extension = r.2;
      has-payload = a.is _ ∙ rw (payload-is u n fit pay);
    }
