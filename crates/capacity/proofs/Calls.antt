-- The events read out of a log, and the calls of the gathering store with packets cut out of bytes: the same as over a list of packets.
-- Assumes nothing.
use mathlib.Core.Path.{◌≡◌, refl, sym, ap, ap₂, ◌∙◌}
use mathlib.Core.Bool.{Bool, true, false}
use mathlib.Core.List.{List, [], ◌∷◌, ◌++◌, map}
use Prim.Native.Nat.{ℕ, suc, ◌+◌, ◌-◌, ◌*◌, ◌/◌, ◌<◌}
use native.Mathlib.Omega.{arith}
use lib.ListN.{length, get_or, take, drop}
use Rattle.bits.specs.Answer.{answer, pick, All}
use Rattle.bits.specs.Numbers.{done}
use Rattle.event_log.specs.declared.Event.{Event}
use Rattle.event_log.specs.Entry.{event_values, read_entry}
use Rattle.machine.specs.Run.{packets_in, shifted}
use Rattle.gather.specs.Belongs.{event_bytes}
use Rattle.gather.specs.Gather.{wrong_event, added, next_gathering, not_gathered, gather_number, gather_of, store_of}
use Rattle.units.specs.Units.{Standing, packet_of, answered, called, gather_all, answers, bytes_at, last_event, Inside}
use Rattle.capacity.specs.Reads.{begins, continues, up_to_begin, Segment, segment, segments}
use Rattle.capacity.specs.ReadBack.{none, event_read, events_read, packet_at, call, after_call, call_numbers, after_calls}
use Rattle.machine.proofs.Theorems.{chunk-at}

-- ---- the events read out of a log are those that its entries hold

pub events-read : (log : List ℕ) (at : ℕ) (es : List Event)
    → ((k : ℕ) → k < length es → read_entry log (at + 8 * k) ≡ answer done (event_values (get_or es k none)))
    → events_read log at (length es) ≡ es
unfolding events_read
events-read log at [] h = refl
events-read log at (e ∷ es) h =
    let z : at + 8 * 0 ≡ at = omega arith in
    let first : read_entry log at ≡ answer done (event_values e) = ap (read_entry log) (sym z) ∙ h 0 (omega arith) in
    ap₂ (λ (x : Event) (xs : List Event). x ∷ xs) (ap event_read first) (events-read log (at + 8) es rest)
  where
    rest : (k : ℕ) → k < length es → read_entry log (at + 8 + 8 * k) ≡ answer done (event_values (get_or es k none))
    rest k j = let y : at + 8 + 8 * k ≡ at + 8 * suc k = omega arith in ap (read_entry log) y ∙ h (suc k) (omega arith)

-- ---- packets cut out of bytes

module _ (d : ℕ) (bytes : List ℕ) (k : ℕ) (whole : length bytes ≡ 188 * k) where
  -- the packet of an event whose index has been shifted
  pub packet-at : (e : Event) → packet_at d bytes (shifted d e) ≡ packet_of (packets_in bytes) e
  unfolding packets_in
  packet-at e =
      let j : d + e.index - d ≡ e.index = omega arith in
      let n : length bytes / 188 ≡ k = omega arith in
      rw (j, n) (sym (chunk-at k e.index bytes whole))

  pub bytes_shifted : (e : Event) → event_bytes (packet_at d bytes (shifted d e)) (shifted d e) ≡ bytes_at (packets_in bytes) e
  unfolding event_bytes
  bytes_shifted e = ap (λ (p : List ℕ). take e.length (drop e.place p)) (packet-at e)

  -- the gathering store does not look at an event's index
  called-shifted : (t : Standing) (e : Event) → after_call d bytes t (shifted d e) ≡ called (packets_in bytes) t e
  unfolding gather_of store_of gather_number not_gathered wrong_event added next_gathering event_bytes
  called-shifted t e = rw (packet-at e)

  number-shifted : (t : Standing) (e : Event) → (call d bytes t (shifted d e)).number ≡ (answered (packets_in bytes) t e).number
  unfolding gather_of gather_number not_gathered wrong_event added next_gathering event_bytes
  number-shifted t e = rw (packet-at e)

  -- call by call
  pub numbers-shifted : (t : Standing) (es : List Event) → call_numbers d bytes t (map (shifted d) es) ≡ answers (packets_in bytes) t es
  unfolding call_numbers
  numbers-shifted t [] = refl
  numbers-shifted t (e ∷ es) =
      ap₂ (λ (n : ℕ) (ns : List ℕ). n ∷ ns) (number-shifted t e)
      (ap (λ (s : Standing). call_numbers d bytes s (map (shifted d) es)) (called-shifted t e)
      ∙ numbers-shifted (called (packets_in bytes) t e) es)

  pub calls-shifted : (t : Standing) (es : List Event) → after_calls d bytes t (map (shifted d) es) ≡ gather_all (packets_in bytes) t es
  unfolding after_calls
  calls-shifted t [] = refl
  calls-shifted t (e ∷ es) =
      ap (λ (s : Standing). after_calls d bytes s (map (shifted d) es)) (called-shifted t e)
      ∙ calls-shifted (called (packets_in bytes) t e) es

-- ---- the segments of shifted events, and the last event

abbrev pub shifted_segment : ℕ → Segment → Segment
shifted_segment d g = segment (shifted d g.first) (map (shifted d) g.later)

module _ (d : ℕ) where
  up-shifted : (es : List Event) → up_to_begin (map (shifted d) es) ≡ map (shifted d) (up_to_begin es)
  unfolding up_to_begin
  up-shifted [] = refl
  up-shifted (e ∷ es) = go (begins e) (continues e) (up_to_begin (map (shifted d) es)) (up_to_begin es) (up-shifted es)
    where
      go : (a b : Bool) (x y : List Event) → x ≡ map (shifted d) y
          → pick a [] (pick b (shifted d e ∷ x) x) ≡ map (shifted d) (pick a [] (pick b (e ∷ y) y))
      go true b x y h = refl
      go false true x y h = ap (λ (z : List Event). shifted d e ∷ z) h
      go false false x y h = h

  pub segments-shifted : (es : List Event) → segments (map (shifted d) es) ≡ map (shifted_segment d) (segments es)
  unfolding segments
  segments-shifted [] = refl
  segments-shifted (e ∷ es) =
      go (begins e) (up_to_begin (map (shifted d) es)) (up_to_begin es) (segments (map (shifted d) es)) (segments es)
      (up-shifted es) (segments-shifted es)
    where
      go : (a : Bool) (x y : List Event) (p q : List Segment) → x ≡ map (shifted d) y → p ≡ map (shifted_segment d) q
          → pick a (segment (shifted d e) x ∷ p) p ≡ map (shifted_segment d) (pick a (segment e y ∷ q) q)
      go true x y p q h k = ap₂ (λ (x : List Event) (p : List Segment). segment (shifted d e) x ∷ p) h k
      go false x y p q h k = k

  pub last-shifted : (b : Event) (cs : List Event) → last_event (shifted d b) (map (shifted d) cs) ≡ shifted d (last_event b cs)
  last-shifted b [] = refl
  last-shifted b (c ∷ cs) = last-shifted c cs

  pub last-past : (x : Event) (a : List Event) (b : Event) (cs : List Event) → last_event x (map (shifted d) (a ++ (b ∷ cs))) ≡ shifted d (last_event b cs)
  last-past x [] b cs = last-shifted b cs
  last-past x (y ∷ a) b cs = last-past (shifted d y) a b cs

-- it lies in its packet, as all do
pub last-inside : (ps : List (List ℕ)) (b : Event) (cs : List Event) → Inside ps b → All (Inside ps) cs → Inside ps (last_event b cs)
last-inside ps b [] h k = h
last-inside ps b (c ∷ cs) h k = last-inside ps c cs k.0 k.1
