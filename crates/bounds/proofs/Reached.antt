-- The bounds are reached, for every s of at least 1 and every p from s on; and a log that is one entry shorter is full.
-- Assumes nothing.
use mathlib.Core.Path.{◌≡◌, refl, sym, ap, ◌∙◌}
use mathlib.Core.Bool.{Bool, true, false}
use mathlib.Core.List.{List, [], ◌∷◌, ◌++◌}
use Prim.Native.Nat.{ℕ, zero, suc, ◌+◌, ◌-◌, ◌*◌, ◌/◌, ◌%◌, ◌≤◌, ◌<◌}
use native.Mathlib.Omega.{arith}
use lib.ListN.{length, get_or, drop, replicate, length-append}
use lib.Seq.{sets, length-sets}
use borrow.Author.Tests.{eq-eqb, ne_eqb}
use Rattle.std.specs.Prelude.{Option, None, Some}
use Rattle.control.specs.declared.ContinuityCounter.{ContinuityCounter}
use Rattle.bits.specs.Answer.{pick, truth, All}
use Rattle.bits.specs.Field.{bit, field}
use Rattle.bits.specs.Numbers.{done}
use Rattle.bits.specs.Pack.{Bytes, flat}
use Rattle.bits.proofs.Bools.{pick_same}
use Rattle.control.specs.declared.Compared.TheVariants.{Jump}
use Rattle.control.specs.Control.{compare}
use Rattle.control.proofs.Laws.{payload-bit, adaptation-bit, compared-next, compared_jump}
use Rattle.control.proofs.Laws.{counter-is as byte-counter}
use Rattle.packet.specs.Packet.{start_flag, counter_field, adaptation_flag, payload_flag, adaptation_there, content_at, payload_there}
use Rattle.packet.proofs.Laws.{counter-is, content_plain}
use Rattle.packet.proofs.Theorems.{control-payload, control-adaptation}
use Rattle.pes.specs.Head.{not_head}
use Rattle.event_log.specs.Entry.{entries_bytes}
use Rattle.machine.specs.declared.Mode.{Mode}
use Rattle.machine.specs.declared.Mode.TheVariants.{Crate, Standard}
use Rattle.machine.specs.declared.Phase.{Phase}
use Rattle.machine.specs.declared.Phase.TheVariants.{Begin, Started, IgnoreRest}
use Rattle.machine.specs.declared.Repeat.{Repeat}
use Rattle.machine.specs.declared.Continuity.{Continuity}
use Rattle.machine.specs.declared.Continuity.TheVariants.{GoesOn, Breaks}
use Rattle.machine.specs.declared.Machine.{Machine}
use Rattle.machine.specs.Events.{as_counter, State, state, head_accepted, discontinuity, continuity_by, continuity, calls, due, announces, announcement}
use Rattle.machine.specs.Events.{ended, begun, continued, events_of, next, run}
use Rattle.machine.specs.Step.{state_of, fresh, events_at, number_of, advanced, Outcome, outcome, step_of, log_of, Stands}
use Rattle.machine.specs.Run.{packets_in, run_of, taken_of, Reported, report_of, IsPacket, start_flags, Logged}
use Rattle.machine.specs.History.{first}
use Rattle.machine.proofs.Counters.{on-first, on-next}
use Rattle.machine.proofs.Laws.{refused-log, no-refusal, stands_good, run-count, run-over}
use Rattle.machine.proofs.History.{last-is}
use Rattle.machine.proofs.Slices.{flat-length, packets-flat}
use Rattle.machine.proofs.Theorems.{events-are, phase-then, left_in, none_left, started-next, stands-next, run-full, run-logged}
use Rattle.bounds.specs.Room.{log_bytes, more, more_in, Full}
use Rattle.bounds.specs.Reaching.{eventful, reaching, inputs, breaking, late, waiting, Speak, Reaches}
use Rattle.bounds.proofs.Theorems.{run_ends}

-- ---- the packets

start_of_lem : (b : Bool) (c : ℕ) → start_flag (eventful b c) ≡ b
unfolding start_flag bit eventful
start_of_lem true c = refl
start_of_lem false c = refl

all_same : (P : ℕ → Type 0) (n x : ℕ) → P x → All P (replicate n x)
all_same P zero x h = tt
all_same P (suc n) x h = (h, all_same P n x h)

module _ (b : Bool) (c : ℕ) where
  is-packet : IsPacket (eventful b c)
  unfolding eventful
  is-packet = (refl, refl)

  are-bytes : Bytes (eventful b c)
  unfolding eventful
  are-bytes =
      (omega arith, (flags b, (omega arith, (omega arith, (omega arith, (omega arith, (omega arith, (omega arith, (omega arith, (omega arith, (omega arith, (omega arith, (omega arith, all_same (λ (x : ℕ). x < 256) 175 0xFF (omega arith))))))))))))))
    where
      flags : (b : Bool) → 0x40 * truth b + 1 < 256
      flags true = omega arith
      flags false = omega arith

  -- by the fourth byte
  abbrev four : ℕ
  four = get_or (eventful b c) 3 0

  has-flag : payload_flag (eventful b c) ≡ true
  unfolding eventful
  has-flag = sym (control-payload (eventful b c)) ∙ (sym (payload-bit four) ∙ eq-eqb (four / 16 % 2) 1 (omega arith))

  no_field : adaptation_flag (eventful b c) ≡ false
  unfolding eventful
  no_field = sym (control-adaptation (eventful b c)) ∙ (sym (adaptation-bit four) ∙ ne_eqb (four / 32 % 2) 1 (λ e. omega arith))

  counter-of : counter_field (eventful b c) ≡ c % 16
  unfolding eventful
  counter-of = omega (arith, counter-is (eventful b c), byte-counter four)

  content_of : content_at (eventful b c) ≡ 4
  content_of = content_plain (eventful b c) no_field

  payload_of : payload_there (eventful b c) ≡ true
  unfolding payload_there
  payload_of = rw (has-flag, content_of) refl

  head_of : head_accepted (drop 4 (eventful b c)) ≡ true
  unfolding eventful head_accepted not_head bit field
  head_of = refl

  -- one event with the payload
  begun-of : (i : ℕ) → length (begun i (eventful b c)) ≡ 1
  unfolding begun
  begun-of i = rw (payload_of, content_of, head_of) refl

  continued-of : (i : ℕ) → length (continued Started i (eventful b c)) ≡ 1
  unfolding continued
  continued-of i = rw payload_of refl

-- ---- within a stream that was announced: two events with the start flag, one without it

-- a unit is open, no StartStream is left to be given, and the last counter was that of c
abbrev Going : ℕ → State → Type 0
Going c s = (s.phase ≡ Started) × (left_in s ≡ 0) × (s.last ≡ Some (as_counter (c % 16)))

last_of_lem : (b : Bool) (c : ℕ) (s : State) → (next s (eventful b c)).last ≡ Some (as_counter (c % 16))
last_of_lem b c s = last-is s (eventful b c) ∙ ap (λ (n : ℕ). Some (as_counter n)) (counter-of b c)

module _ (b : Bool) (c : ℕ) (s : State) (g : Going c s) where
  abbrev this : List ℕ
  this = eventful b (suc c)

  goes : continuity s this ≡ GoesOn
  goes =
      ap (λ (l : Option ContinuityCounter). continuity_by s.mode l s.again this) g.2
      ∙ on-next s.mode (as_counter (c % 16)) s.again this (payload_of b (suc c))
      (ap (λ (n : ℕ). compare n (c % 16)) (counter-of b (suc c)) ∙ sym (compared-next (suc c % 16) (c % 16) (omega arith)))

  events-on : (i : ℕ) → length (events_of i s this) ≡ pick b 2 1
  unfolding announcement
  events-on i = rw (events-are i s this, (none_left s this g.1).0, goes, start_of_lem b (suc c), g.0) (go b)
    where
      go : (t : Bool) → length (pick t (ended Started i ++ begun i this) (continued Started i this)) ≡ pick t 2 1
      go true = omega (arith, begun-of b (suc c) i)
      go false = continued-of b (suc c) i

  going_on : Going (suc c) (next s this)
  going_on = (phase-then s this ∙ rw (goes, start_of_lem b (suc c), g.0) (pick_same b Started), (none_left s this g.1).1, last_of_lem b (suc c) s)

going-run : (s n c i : ℕ) (t : State) → Going c t → length (run i t (reaching s n (suc c))) ≡ 2 * s + n
unfolding reaching run
going-run zero zero c i t g = refl
going-run zero (suc n) c i t g =
    simp length-append (omega (arith, events-on false c t g i, going-run zero n (suc c) (suc i) (next t (eventful false (suc c))) (going_on false c t g)))
going-run (suc s) n c i t g =
    simp length-append (omega (arith, events-on true c t g i, going-run s n (suc c) (suc i) (next t (eventful true (suc c))) (going_on true c t g)))

going-each : (s n c i : ℕ) (t : State) → Going c t → Speak i t (reaching s n (suc c))
unfolding reaching
going-each zero zero c i t g = tt
going-each zero (suc n) c i t g = (omega (arith, events-on false c t g i), going-each zero n (suc c) (suc i) (next t (eventful false (suc c))) (going_on false c t g))
going-each (suc s) n c i t g = (omega (arith, events-on true c t g i), going-each s n (suc c) (suc i) (next t (eventful true (suc c))) (going_on true c t g))

-- ---- how many they are

reaching-length : (s n c : ℕ) → length (reaching s n c) ≡ s + n
unfolding reaching
reaching-length zero zero c = refl
reaching-length zero (suc n) c = omega (arith, reaching-length zero n (suc c))
reaching-length (suc s) n c = omega (arith, reaching-length s n (suc c))

reaching-starts : (s n c : ℕ) → start_flags (reaching s n c) ≡ s
unfolding reaching
reaching-starts zero zero c = refl
reaching-starts zero (suc n) c = rw (start_of_lem false c) (omega (arith, reaching-starts zero n (suc c)))
reaching-starts (suc s) n c = rw (start_of_lem true c) (omega (arith, reaching-starts s n (suc c)))

reaching-all : (P : List ℕ → Type 0) → ((b : Bool) (c : ℕ) → P (eventful b c)) → (s n c : ℕ) → All P (reaching s n c)
unfolding reaching
reaching-all P h zero zero c = tt
reaching-all P h zero (suc n) c = (h false c, reaching-all P h zero n (suc c))
reaching-all P h (suc s) n c = (h true c, reaching-all P h s n (suc c))

-- ---- a first packet with the start flag, which has k events, and the others after it

module _ (c i k : ℕ) (t : State) (h : calls (continuity t (eventful true c)) true ≡ true) (e : length (events_of i t (eventful true c)) ≡ k) where
  started-going : Going c (next t (eventful true c))
  started-going = let q = started-next t (eventful true c) (start_of_lem true c) h in (q.0, q.1, last_of_lem true c t)

  started-run : (s n : ℕ) → length (run i t (reaching (suc s) n c)) ≡ k + (2 * s + n)
  unfolding reaching run
  started-run s n = simp length-append (omega (arith, e, going-run s n c (suc i) (next t (eventful true c)) started-going))

  started-each : 1 ≤ k → (s n : ℕ) → Speak i t (reaching (suc s) n c)
  unfolding reaching
  started-each f s n = (omega (arith, e), going-each s n c (suc i) (next t (eventful true c)) started-going)

  all_reach : (s p m : ℕ) → 1 ≤ s → s ≤ p → 1 ≤ k → m + 2 ≡ k + (p + s) → Reaches t i p s m (reaching s (p - s) c)
  all_reach zero p m u v f w = absurd (omega arith)
  all_reach (suc s) p m u v f w = record {
    packets = omega (arith, reaching-length (suc s) (p - suc s) c);
    flagged = reaching-starts (suc s) (p - suc s) c;
    domain = reaching-all IsPacket is-packet (suc s) (p - suc s) c;
    bytes = reaching-all Bytes are-bytes (suc s) (p - suc s) c;
    events = omega (arith, started-run s (p - suc s));
    each = started-each f s (p - suc s);
  }

-- ---- from a fresh state, in both modes: p + s

module _ (mo : Mode) where
  first_goes : continuity (first mo) (eventful true 0) ≡ GoesOn
  first_goes = on-first mo _ _ (eventful true 0) refl

  first-events : length (events_of 0 (first mo) (eventful true 0)) ≡ 2
  unfolding announcement announces
  first-events = rw (events-are 0 (first mo) (eventful true 0), first_goes, start_of_lem true 0) (go mo)
    where
      go : (mo : Mode) → length (announcement (due mo GoesOn Begin false true) 0 ++ begun 0 (eventful true 0)) ≡ 2
      go Crate = omega (arith, begun-of true 0 0)
      go Standard = omega (arith, begun-of true 0 0)

  -- THE BOUND IS REACHED
  pub reached : (s p : ℕ) → 1 ≤ s → s ≤ p → Reaches (first mo) 0 p s (p + s) (inputs s p)
  reached s p u v = all_reach 0 0 2 (first mo) (ap (λ (c : Continuity). calls c true) first_goes) first-events s p (p + s) u v (omega arith) (omega arith)

-- ---- from every state in which `more` allows one entry more: p + s + 1

-- a packet whose counter is the next but one is a break
module _ (b : Bool) (n : ℕ) (r : Repeat) where
  no-bit : discontinuity (eventful b (n + 2)) ≡ false
  unfolding discontinuity adaptation_there
  no-bit = rw (no_field b (n + 2)) refl

  jumps : compare (counter_field (eventful b (n + 2))) n ≡ Jump
  jumps =
      let e = counter-of b (n + 2) in
      sym (compared_jump (counter_field (eventful b (n + 2))) n (λ h. omega (arith, h, e)) (λ h. omega (arith, h, e)))

  breaks : continuity_by Standard (Some (as_counter n)) r (eventful b (n + 2)) ≡ Breaks
  unfolding continuity_by
  breaks = rw (no-bit, has-flag b (n + 2), jumps) refl

-- a start there calls for StartStream, and has three events
module _ (i : ℕ) (r : Repeat) where
  abbrev Three : Mode → Bool → Option ContinuityCounter → Phase → Type 0
  Three mo a la ph =
      (calls (continuity (state mo ph la r a) (eventful true (breaking la))) true ≡ true) × (length (events_of i (state mo ph la r a) (eventful true (breaking la))) ≡ 3)

  three : (mo : Mode) (a : Bool) (la : Option ContinuityCounter) (ph : Phase) → more mo a la ph ≡ 1 → Three mo a la ph
  unfolding announcement announces
  three Crate a la ph h = absurd (omega arith)
  three Standard true la ph h = absurd (omega arith)
  three Standard false None Begin h = absurd (omega arith)
  three Standard false None IgnoreRest h = absurd (omega arith)
  three Standard false None Started h =
      let e = on-first Standard None r (eventful true 0) refl in
      rw (events-are i (state Standard Started None r false) (eventful true 0), e, start_of_lem true 0) (refl, omega (arith, begun-of true 0 i))
  three Standard false (Some c) ph h =
      let n = c.val + 2 in
      rw (events-are i (state Standard ph (Some c) r false) (eventful true n), breaks true c.val r, start_of_lem true n) (refl, omega (arith, begun-of true n i))

-- SO `more` ALLOWS NO ENTRY TOO MANY
pub reached-late : (i : ℕ) (t : State) (s p : ℕ) → more_in t ≡ 1 → 1 ≤ s → s ≤ p → Reaches t i p s (p + s + 1) (late t.last s p)
reached-late i t s p h u v =
    let q = three i t.again t.mode t.announced t.last t.phase h in
    all_reach (breaking t.last) i 3 t q.0 q.1 s p (p + s + 1) u v (omega arith) (omega arith)

-- ---- one packet leaves such a state

-- the packet is taken with every log, and leaves that state
late-none : events_of 0 (first Standard) (eventful false 5) ≡ []
unfolding events_of announces announcement continuity_by discontinuity adaptation_there adaptation_flag start_flag continued bit eventful
late-none = refl

waiting-next : advanced (fresh Standard) (eventful false 5) ≡ waiting
unfolding advanced next events_of announces announcement continuity_by discontinuity adaptation_there adaptation_flag start_flag payload_flag counter_field continued bit field eventful
waiting-next = refl

pub waiting-more : more_in (state_of waiting) ≡ 1
waiting-more = refl

pub waiting-is : (l : List ℕ) → step_of (fresh Standard) (eventful false 5) l ≡ outcome done waiting
unfolding step_of
waiting-is l =
    let k = is-packet false 5 in
    let z : number_of (fresh Standard) (eventful false 5) l ≡ 0
    = no-refusal (fresh Standard) (eventful false 5) l k.0 k.1 (refl, omega arith, refl) (λ e. omega arith) [] (sym late-none) (omega arith) in
    rw z (ap (outcome done) waiting-next)

-- ---- with one entry less the last packet is refused

each-run : (ps : List (List ℕ)) (i : ℕ) (s : State) → Speak i s ps → length ps ≤ length (run i s ps)
unfolding run
each-run [] i s h = omega arith
each-run (p ∷ ps) i s h = simp length-append (omega (arith, h.0, each-run ps (suc i) (next s p) h.1))

all_but_last : (p : List ℕ) (ps : List (List ℕ)) (m : Machine) (l : List ℕ) → Stands m l → All IsPacket (p ∷ ps) → m.taken + suc (length ps) ≤ 4_294_967_295
    → Speak m.taken (state_of m) (p ∷ ps) → length l + 8 ≡ m.place + 8 * length (run m.taken (state_of m) (p ∷ ps)) → taken_of m (p ∷ ps) l ≡ length ps
unfolding step_of log_of advanced next run
all_but_last p [] m l s w t h e =
    let z = refused-log m p l w.0.0 w.0.1 s (λ y. omega arith) (events_at m p) refl (omega (arith, h.0, e, s.1, length-append (events_at m p) [])) in
    let n : number_of m p l ≡ 15 = sym (ap (λ (o : Outcome). o.number) z.0) in
    simp n
all_but_last p (q ∷ ps) m l s w t h e =
    let es = events_at m p in
    let k = length-append es (run (suc m.taken) (next (state_of m) p) (q ∷ ps)) in
    let f : 8 * length es ≤ length l - m.place = omega (arith, e, k, s.1, each-run (q ∷ ps) (suc m.taken) (next (state_of m) p) h.1) in
    let z = no-refusal m p l w.0.0 w.0.1 s (λ y. omega arith) es refl f in
    simp z
    (ap suc (all_but_last q ps (advanced m p) (sets l m.place (entries_bytes es)) (stands-next m p l s f) w.1 (omega arith) h.1
    (omega (arith, e, k, length-sets l m.place (entries_bytes es)))))

but_last : (ps : List (List ℕ)) (m : Machine) (l : List ℕ) → Stands m l → All IsPacket ps → m.taken + length ps ≤ 4_294_967_295
    → Speak m.taken (state_of m) ps → length l + 8 ≡ m.place + 8 * length (run m.taken (state_of m) ps) → taken_of m ps l + 1 ≡ length ps
unfolding run
but_last [] m l s w t h e = absurd (omega (arith, s.1))
but_last (p ∷ ps) m l s w t h e = omega (arith, all_but_last p ps m l s w t h e)

-- ---- over the promise of `run`: a log with room for these events is enough for such packets, and a shorter one is full

module _ (m : Machine) (l : List ℕ) (p s n : ℕ) (ps : List (List ℕ)) (g : Reaches (state_of m) m.taken p s n ps) (h : Stands m l) (t : m.taken + p ≤ 4_294_967_295) where
  whole : length (flat ps) % 188 ≡ 0
  whole = omega (arith, flat-length ps g.domain)

  pub log-enough : m.place + 8 * n ≤ length l → Logged m (flat ps) l p (run m.taken (state_of m) ps)
  log-enough r =
      let e = packets-flat ps g.domain in
      run-logged m (flat ps) l p (run m.taken (state_of m) ps) h whole (rw e g.domain) (ap length e ∙ g.packets)
      (ap (run m.taken (state_of m)) e) t (omega (arith, g.events))

  pub log-short : length l < m.place + 8 * n → Full m ps l
  log-short r =
      let f = run-full ps m l h g.domain (omega (arith, g.packets)) (omega (arith, g.events)) in
      let e : run_of m (packets_in (flat ps)) l ≡ run_of m ps l = ap (λ (qs : List (List ℕ)). run_of m qs l) (packets-flat ps g.domain) in
      let o = run_of m (packets_in (flat ps)) l in
      let k = (run-over m (flat ps) l whole (stands_good m l h) o.answer _ o.log refl refl refl).0 in
      record {
        accepted = sym (ap (λ (x : Reported). x.number) k);
        ended = sym (ap (λ (x : Reported). x.ended) k) ∙ rw e f;
        step = run_ends ps m l ∙ f;
      }

  -- one entry less, and all but the last are taken
  pub last-refused : length l + 8 ≡ m.place + 8 * n → (report_of m (flat ps) l).packets + 1 ≡ p
  last-refused r =
      let e : taken_of m (packets_in (flat ps)) l ≡ taken_of m ps l = ap (λ (qs : List (List ℕ)). taken_of m qs l) (packets-flat ps g.domain) in
      let o = run_of m (packets_in (flat ps)) l in
      let k = (run-over m (flat ps) l whole (stands_good m l h) o.answer _ o.log refl refl refl).0 in
      let q = but_last ps m l h g.domain (omega (arith, g.packets)) g.each (omega (arith, r, g.events)) in
      omega (arith, ap (λ (x : Reported). x.packets) k, run-count m (packets_in (flat ps)) l, e, q, g.packets)

-- from a fresh state
module _ (mo : Mode) (s p : ℕ) (l : List ℕ) (u : 1 ≤ s) (v : s ≤ p) (t : p ≤ 4_294_967_295) where
  -- 8 × (p + s) BYTES ARE ENOUGH ..
  pub reached_enough : log_bytes p s ≤ length l → Logged (fresh mo) (flat (inputs s p)) l p (run 0 (first mo) (inputs s p))
  reached_enough r = log-enough (fresh mo) l p s (p + s) (inputs s p) (reached mo s p u v) (refl, omega arith, refl) (omega arith) (omega arith)

  -- .. AND NO FEWER
  pub reached_short : length l < log_bytes p s → Full (fresh mo) (inputs s p) l
  reached_short r = log-short (fresh mo) l p s (p + s) (inputs s p) (reached mo s p u v) (refl, omega arith, refl) (omega arith) (omega arith)

  pub reached-last : length l + 8 ≡ log_bytes p s → (report_of (fresh mo) (flat (inputs s p)) l).packets + 1 ≡ p
  reached-last r = last-refused (fresh mo) l p s (p + s) (inputs s p) (reached mo s p u v) (refl, omega arith, refl) (omega arith) (omega arith)

-- from a state in which `more` allows one entry more
module _ (m : Machine) (s p : ℕ) (l : List ℕ) (e : more_in (state_of m) ≡ 1) (h : Stands m l) (u : 1 ≤ s) (v : s ≤ p) (t : m.taken + p ≤ 4_294_967_295) where
  pub late-enough : m.place + log_bytes p s + 8 ≤ length l → Logged m (flat (late m.last s p)) l p (run m.taken (state_of m) (late m.last s p))
  late-enough r = log-enough m l p s (p + s + 1) (late m.last s p) (reached-late m.taken (state_of m) s p e u v) h t (omega arith)

  pub late-short : length l < m.place + log_bytes p s + 8 → Full m (late m.last s p) l
  late-short r = log-short m l p s (p + s + 1) (late m.last s p) (reached-late m.taken (state_of m) s p e u v) h t (omega arith)

  pub late-last : length l ≡ m.place + log_bytes p s → (report_of m (flat (late m.last s p)) l).packets + 1 ≡ p
  late-last r = last-refused m l p s (p + s + 1) (late m.last s p) (reached-late m.taken (state_of m) s p e u v) h t (omega arith)
