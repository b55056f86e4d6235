-- What packets that carry some bytes give, read by the machine: one begin, continues, and the bytes back.
-- Assumes nothing.
use mathlib.Core.Path.{◌≡◌, refl, sym, ap, ap₂, ◌∙◌}
use mathlib.Core.Bool.{Bool, true, false, ◌||◌}
use mathlib.Core.List.{List, [], ◌∷◌, ◌++◌, append_assoc}
use Prim.Native.Nat.{ℕ, zero, suc, ◌+◌, ◌-◌, ◌*◌, ◌%◌, ◌^◌, ◌≤◌, ◌<◌, min}
use native.Mathlib.Omega.{arith}
use lib.ListN.{length, take, drop, length-append, length-take, length-drop, take-append-drop}
use lib.Seq.{append_snoc, get_or_at}
use Rattle.std.specs.Prelude.{Option, None, Some}
use Rattle.control.specs.declared.ContinuityCounter.{ContinuityCounter}
use Rattle.bits.specs.Answer.{All}
use Rattle.control.proofs.Laws.{compared-next}
use Rattle.packet.specs.Packet.{pid_field, counter_field, content_at, payload_there}
use Rattle.event_log.specs.declared.Event.{Event}
use Rattle.event_log.specs.Entry.{event, begin_packet, continue_packet}
use Rattle.machine.specs.declared.Mode.{Mode}
use Rattle.machine.specs.declared.Phase.{Phase}
use Rattle.machine.specs.declared.Phase.TheVariants.{Begin, Started, IgnoreRest}
use Rattle.machine.specs.declared.Repeat.{Repeat}
use Rattle.machine.specs.declared.Repeat.TheVariants.{Open}
use Rattle.machine.specs.declared.Continuity.TheVariants.{GoesOn}
use Rattle.machine.specs.Events.{as_counter, State, state, continuity_by, continuity, head_accepted, event_with_payload}
use Rattle.machine.specs.Events.{due, announces, announcement, ended, begun, continued}
use Rattle.machine.specs.Events.{events_of, next, run}
use Rattle.machine.proofs.Counters.{on-first, on-next}
use Rattle.machine.proofs.Laws.{due-plain, or_false}
use Rattle.gather.specs.Belongs.{event_bytes}
use Rattle.writer.specs.Packets.{carrier, carried}
use Rattle.machine.specs.Run.{IsPacket}
use Rattle.units.specs.Units.{bytes_at, bytes_at_all}
use Rattle.capacity.specs.Reads.{up_to_begin, segment, segments}
use Rattle.capacity.specs.Demand.{Before, at_start, end_of, continues_of, events_written, Counters}
use Rattle.capacity.proofs.Carrier.{start_back, pid-back, flag-back, counter-back, content_back, payload-back, rest_back, part-back}
use Rattle.capacity.proofs.Carrier.{is-packet}

-- ---- one packet

-- one with the counter that is due goes on, in both modes
due-on : (c : ℕ) (mo : Mode) (l : Option ContinuityCounter) (r : Repeat) (p : List ℕ) → Before c l → payload_there p ≡ true → counter_field p ≡ c → continuity_by mo l r p ≡ GoesOn
due-on c mo None r p h f e = on-first mo None r p refl
due-on c mo (Some l) r p h f e = on-next mo l r p f (sym (compared-next (counter_field p) l.val (omega (arith, h, e))))

module _ (id c : ℕ) (xs : List ℕ) (fits : c ≤ 15) (low : 1 ≤ length xs) (high : length xs ≤ 184) where
  held-made : (start k i : ℕ) → event_with_payload k i (carrier start id c xs) ≡ end_of k i (length xs)
  held-made start k i =
      let q = content_back start id c xs high in
      let r : 188 - content_at (carrier start id c xs) ≡ length xs = omega (arith, q) in
      ap₂ (λ (a b : ℕ). event k i a b) q r

  goes_on : (start : ℕ) (s : State) → Before c s.last → continuity s (carrier start id c xs) ≡ GoesOn
  goes_on start s h =
      due-on c s.mode s.last s.again (carrier start id c xs) h (payload-back start id c xs high low) (counter-back start id c xs fits)

  -- a later packet: one continue
  step-later : (i : ℕ) (mo : Mode) (l : Option ContinuityCounter) (r : Repeat) (a : Bool) → Before c l
      → events_of i (state mo Started l r a) (carrier 0 id c xs) ≡ end_of continue_packet i (length xs) ∷ []
  unfolding events_of announces announcement continued
  step-later i mo l r a h =
      simp (goes_on 0 (state mo Started l r a) h, start_back 0 id c xs false refl, due-plain mo Started a, payload-back 0 id c xs high low)
      (ap (λ (e : Event). e ∷ []) (held-made 0 continue_packet i))

  next-later : (mo : Mode) (l : Option ContinuityCounter) (r : Repeat) (a : Bool) → Before c l
      → next (state mo Started l r a) (carrier 0 id c xs) ≡ state mo Started (Some (as_counter c)) Open a
  unfolding next announces
  next-later mo l r a h =
      simp (goes_on 0 (state mo Started l r a) h, start_back 0 id c xs false refl, due-plain mo Started a, or_false a, counter-back 0 id c xs fits, flag-back 0 id c xs)

  -- the first packet: what the state gives, and a begin
  step-first : (i : ℕ) (s : State) → Before c s.last → head_accepted xs ≡ true
      → events_of i s (carrier 1 id c xs) ≡ at_start s i ++ (end_of begin_packet i (length xs) ∷ [])
  unfolding events_of announces begun at_start
  step-first i s h a =
      let d = announcement (due s.mode GoesOn s.phase s.announced true) i in
      let b = end_of begin_packet i (length xs) in
      simp (goes_on 1 s h, start_back 1 id c xs true refl, payload-back 1 id c xs high low, rest_back 1 id c xs high, a)
      (ap (λ (e : Event). d ++ (ended s.phase i ++ (e ∷ []))) (held-made 1 begin_packet i) ∙ sym (append_assoc d (ended s.phase i) (b ∷ [])))

  next-first : (s : State) → Before c s.last
      → next s (carrier 1 id c xs) ≡ state s.mode Started (Some (as_counter c)) Open (s.announced || due s.mode GoesOn s.phase s.announced true)
  unfolding next announces
  next-first s h = simp (goes_on 1 s h, start_back 1 id c xs true refl, counter-back 1 id c xs fits, flag-back 1 id c xs)

-- ---- the later packets

-- k packets are what these bytes take
abbrev pub Takes : ℕ → List ℕ → Type 0
Takes k xs = (length xs ≤ 184 * k) × (184 * k < length xs + 184)

pub takes-rest : (k : ℕ) (xs : List ℕ) → Takes (suc k) xs → Takes k (drop 184 xs)
takes-rest k xs h = omega (arith, length-drop 184 xs)

pub chunk-length : (k : ℕ) (xs : List ℕ) → Takes (suc k) xs → (1 ≤ length (take 184 xs)) × (length (take 184 xs) ≤ 184)
chunk-length k xs h = omega (arith, length-take 184 xs)

run-later : (k id c i : ℕ) (xs : List ℕ) (mo : Mode) (l : Option ContinuityCounter) (r : Repeat) (a : Bool) → c ≤ 15 → Before c l → Takes k xs
    → run i (state mo Started l r a) (carried k 0 id c xs) ≡ continues_of i k (length xs)
unfolding run carried continues_of
run-later zero id c i xs mo l r a h f t = refl
run-later (suc k) id c i xs mo l r a h f t =
    let q = chunk-length k xs t in
    rw (step-later id c (take 184 xs) h q.0 q.1 i mo l r a f, next-later id c (take 184 xs) h q.0 q.1 mo l r a f)
    (ap₂ (λ (m : ℕ) (es : List Event). end_of continue_packet i m ∷ es) (length-take 184 xs)
    (run-later k id ((c + 1) % 16) (suc i) (drop 184 xs) mo (Some (as_counter c)) Open a (omega arith) refl (takes-rest k xs t)
    ∙ ap (continues_of (suc i) k) (length-drop 184 xs)))

-- the bytes of a packet in a list, by its event
bytes-made : (k start id c : ℕ) (xs : List ℕ) (before after : List (List ℕ)) → length xs ≤ 184
    → bytes_at (before ++ carrier start id c xs ∷ after) (end_of k (length before) (length xs)) ≡ xs
unfolding event_bytes
bytes-made k start id c xs before after h =
    rw (get_or_at before (carrier start id c xs) after [] (length before) refl) (part-back start id c xs h)

-- the same with the length as the whole has it
bytes-chunk : (k start id c : ℕ) (xs : List ℕ) (before after : List (List ℕ))
    → bytes_at (before ++ carrier start id c (take 184 xs) ∷ after) (end_of k (length before) (min 184 (length xs))) ≡ take 184 xs
bytes-chunk k start id c xs before after =
    rw (← length-take 184 xs) (bytes-made k start id c (take 184 xs) before after (omega (arith, length-take 184 xs)))

-- the bytes of the continues are the bytes carried
bytes-later : (k id c : ℕ) (xs : List ℕ) (before : List (List ℕ)) → Takes k xs
    → bytes_at_all (before ++ carried k 0 id c xs) (continues_of (length before) k (length xs)) ≡ xs
unfolding carried continues_of
bytes-later zero id c [] before t = refl
bytes-later zero id c (x ∷ xs) before t = absurd (omega arith)
bytes-later (suc k) id c xs before t =
    let p = carrier 0 id c (take 184 xs) in
    let rest = carried k 0 id ((c + 1) % 16) (drop 184 xs) in
    let n : length (before ++ (p ∷ [])) ≡ suc (length before) = omega (arith, length-append before (p ∷ [])) in
    let ih = bytes-later k id ((c + 1) % 16) (drop 184 xs) (before ++ (p ∷ [])) (takes-rest k xs t) in
    ap₂ (λ (a b : List ℕ). a ++ b) (bytes-chunk continue_packet 0 id c xs before rest)
    (rw (append_snoc before p rest, n, length-drop 184 xs) at ih) ∙ take-append-drop 184 xs

-- ---- the segments of their events

up-continues : (k i m : ℕ) → up_to_begin (continues_of i k m) ≡ continues_of i k m
unfolding up_to_begin continues_of
up-continues zero i m = refl
up-continues (suc k) i m = ap (λ (x : List Event). end_of continue_packet i (min 184 m) ∷ x) (up-continues k (suc i) (m - 184))

none-begun : (k i m : ℕ) → segments (continues_of i k m) ≡ []
unfolding segments continues_of
none-begun zero i m = refl
none-begun (suc k) i m = none-begun k (suc i) (m - 184)

past-opened : (s : State) (i : ℕ) (es : List Event) → segments (at_start s i ++ es) ≡ segments es
unfolding segments announcement at_start
past-opened s i es = go (due s.mode GoesOn s.phase s.announced true) s.phase
  where
    go : (b : Bool) (f : Phase) → segments ((announcement b i ++ ended f i) ++ es) ≡ segments es
    go true Begin = refl
    go true Started = refl
    go true IgnoreRest = refl
    go false Begin = refl
    go false Started = refl
    go false IgnoreRest = refl

pub one-segment : (s : State) (k m : ℕ)
    → segments (events_written s k m) ≡ segment (end_of begin_packet 0 (min 184 m)) (continues_of 1 (k - 1) (m - 184)) ∷ []
unfolding events_written segments
one-segment s k m = rw (past-opened s 0, up-continues (k - 1) 1 (m - 184), none-begun (k - 1) 1 (m - 184))

-- ---- k packets

pub made-packets : (k start id c : ℕ) (xs : List ℕ) → All IsPacket (carried k start id c xs)
unfolding carried
made-packets zero start id c xs = tt
made-packets (suc k) start id c xs =
    (is-packet start id c (take 184 xs) (omega (arith, length-take 184 xs)), made-packets k 0 id ((c + 1) % 16) (drop 184 xs))

pub made-pids : (k start id c : ℕ) (xs : List ℕ) → id < 2 ^ 13 → All (λ (p : List ℕ). pid_field p ≡ id) (carried k start id c xs)
unfolding carried
made-pids zero start id c xs h = tt
made-pids (suc k) start id c xs h = (pid-back start id c (take 184 xs) h, made-pids k 0 id ((c + 1) % 16) (drop 184 xs) h)

pub made-counters : (k start id c : ℕ) (xs : List ℕ) → c ≤ 15 → Counters c (carried k start id c xs)
unfolding carried
made-counters zero start id c xs h = omega arith
made-counters (suc k) start id c xs h =
    (counter-back start id c (take 184 xs) h, made-counters k 0 id ((c + 1) % 16) (drop 184 xs) (omega arith))

pub carried-length : (k start id c : ℕ) (xs : List ℕ) → length (carried k start id c xs) ≡ k
unfolding carried
carried-length zero start id c xs = refl
carried-length (suc k) start id c xs = ap suc (carried-length k 0 id ((c + 1) % 16) (drop 184 xs))

-- the first with the start flag
module _ (k id c : ℕ) (xs : List ℕ) (takes : Takes (suc k) xs) where
  pub run-carried : (s : State) → c ≤ 15 → Before c s.last → head_accepted (take 184 xs) ≡ true
      → run 0 s (carried (suc k) 1 id c xs) ≡ events_written s (suc k) (length xs)
  unfolding run carried events_written
  run-carried s fits before headed =
      let q = chunk-length k xs takes in
      let e : suc k - 1 ≡ k = omega arith in
      rw (
        step-first id c (take 184 xs) fits q.0 q.1 0 s before headed,
        next-first id c (take 184 xs) fits q.0 q.1 s before,
        run-later k id ((c + 1) % 16) 1 (drop 184 xs) s.mode (Some (as_counter c)) Open _ (omega arith) refl (takes-rest k xs takes),
        append_assoc,
        length-take 184 xs,
        length-drop 184 xs,
        e,
      )

  pub first-bytes : bytes_at (carried (suc k) 1 id c xs) (end_of begin_packet 0 (min 184 (length xs))) ≡ take 184 xs
  unfolding carried
  first-bytes = bytes-chunk begin_packet 1 id c xs [] (carried k 0 id ((c + 1) % 16) (drop 184 xs))

  pub rest-bytes : bytes_at_all (carried (suc k) 1 id c xs) (continues_of 1 k (length xs - 184)) ≡ drop 184 xs
  unfolding carried
  rest-bytes =
      let b = bytes-later k id ((c + 1) % 16) (drop 184 xs) (carrier 1 id c (take 184 xs) ∷ []) (takes-rest k xs takes) in
      rw (length-drop 184 xs) at b
