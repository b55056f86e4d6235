-- What gathering is for: over the events of any run of the machine, a unit's bytes are those of its begin and its continues, and
-- none across a break.
-- Assumes nothing.
use mathlib.Core.Path.{◌≡◌, refl, ap, ◌∙◌}
use mathlib.Core.Bool.{Bool, true, false}
use mathlib.Core.List.{List, [], ◌∷◌, ◌++◌, append_assoc}
use mathlib.Core.Logic.{◌⊎◌, inl, inr, ⊎_elim}
use Prim.Native.Nat.{ℕ, suc, ◌+◌, ◌-◌, ◌≤◌, ◌<◌}
use native.Mathlib.Omega.{arith}
use lib.ListN.{length, drop}
use Rattle.bits.specs.Answer.{pick, All}
use Rattle.packet.specs.Packet.{start_flag, content_at, payload_there}
use Rattle.packet.proofs.Laws.{payload_below}
use Rattle.event_log.specs.declared.Event.{Event}
use Rattle.event_log.specs.Entry.{event}
use Rattle.machine.specs.declared.Phase.{Phase}
use Rattle.machine.specs.declared.Phase.TheVariants.{Begin, Started, IgnoreRest}
use Rattle.machine.specs.declared.Continuity.{Continuity}
use Rattle.machine.specs.declared.Continuity.TheVariants.{GoesOn, Repeats, Breaks}
use Rattle.machine.specs.Events.{State, head_accepted, continuity, calls, announces, announcement, ended, begun, continued, events_of, next, run}
use Rattle.machine.specs.Run.{IsPacket}
use Rattle.machine.proofs.Theorems.{happened, events-are, phase_then, phase-then, left_in, none_left, started-next}
use Rattle.gather.specs.declared.Lies.TheVariants.{Store}
use Rattle.gather.specs.Gather.{gathering, emptied}
use Rattle.units.specs.Units.{Standing, called, gather_all, answers, read_at, unit_bytes}
use Rattle.units.specs.Units.{Inside, GatheringStands, Kind, Known, NoBegin, Quiet, Some, Taken}
use Rattle.units.proofs.Theorems.{gather_append, gathered, break_cuts, none_read, stays-good, all-good}

-- ---- the events of a run: each of a known kind, of a packet that is there, with a part that lies in it

abbrev Sound : ℕ → Event → Type 0
Sound n e = Known e × ((e.index < n) × (e.place + e.length ≤ 188))

module _ (P : Event → Type 0) where
  all_append : (a b : List Event) → All P a → All P b → All P (a ++ b)
  all_append [] b h k = k
  all_append (e ∷ a) b h k = (h.0, all_append a b h.1 k)

  all_left : (a b : List Event) → All P (a ++ b) → All P a
  all_left [] b h = tt
  all_left (e ∷ a) b h = (h.0, all_left a b h.1)

  all_right : (a b : List Event) → All P (a ++ b) → All P b
  all_right [] b h = h
  all_right (e ∷ a) b h = all_right a b h.1

all_map : (P Q : Event → Type 0) → ((e : Event) → P e → Q e) → (es : List Event) → All P es → All Q es
all_map P Q f [] h = tt
all_map P Q f (e ∷ es) h = (f e h.0, all_map P Q f es h.1)

nested : (P : Event → Type 0) (a b : Bool) (e : Event) → (a ≡ true → P e) → All P (pick a (pick b (e ∷ []) []) [])
nested P true true e h = (h refl, tt)
nested P true false e h = tt
nested P false b e h = tt

module _ (n i : ℕ) (p : List ℕ) (b : i < n) where
  sound-begun : All (Sound n) (begun i p)
  unfolding begun
  sound-begun =
      let a = content_at p in
      nested (Sound n) (payload_there p) (head_accepted (drop a p)) (event 2 i a (188 - a)) (λ f. omega (arith, payload_below p f))

  sound-continued : (ph : Phase) → All (Sound n) (continued ph i p)
  unfolding continued
  sound-continued Begin = tt
  sound-continued Started =
      let a = content_at p in
      nested (Sound n) (payload_there p) true (event 3 i a (188 - a)) (λ f. omega (arith, payload_below p f))
  sound-continued IgnoreRest = tt

  sound-announced : (t : Bool) → All (Sound n) (announcement t i)
  unfolding announcement
  sound-announced true = (omega arith, tt)
  sound-announced false = tt

  sound-ended : (ph : Phase) → All (Sound n) (ended ph i)
  sound-ended Begin = tt
  sound-ended Started = (omega arith, tt)
  sound-ended IgnoreRest = tt

  sound_happened : (c : Continuity) (s : Bool) (ph : Phase) → All (Sound n) (happened c s ph i p)
  sound_happened GoesOn true ph = all_append (Sound n) (ended ph i) (begun i p) (sound-ended ph) sound-begun
  sound_happened GoesOn false ph = sound-continued ph
  sound_happened Repeats s ph = tt
  sound_happened Breaks true ph = (omega arith, sound-begun)
  sound_happened Breaks false ph = (omega arith, tt)

  sound-events : (s : State) → All (Sound n) (events_of i s p)
  sound-events s =
      rw (events-are i s p)
      (all_append (Sound n) (announcement (announces s p) i) (happened (continuity s p) (start_flag p) s.phase i p) (sound-announced (announces s p))
      (sound_happened (continuity s p) (start_flag p) s.phase))

sound-run : (n i : ℕ) (s : State) (ps : List (List ℕ)) → i + length ps ≤ n → All (Sound n) (run i s ps)
unfolding run
sound-run n i s [] h = tt
sound-run n i s (p ∷ ps) h =
    let r = sound-run n (suc i) (next s p) ps (omega arith) in
    all_append (Sound n) (events_of i s p) (run (suc i) (next s p) ps) (sound-events n i p (omega arith) s) r

-- ---- what can follow a begin

-- continues, up to an end or a break
abbrev Orderly : List Event → Type 0
Orderly [] = Unit {0}
Orderly (e ∷ es) = Kind 4 e ⊎ (Kind 5 e ⊎ (Kind 3 e × Orderly es))

abbrev Begun : List Event → Type 0
Begun [] = Unit {0}
Begun (e ∷ es) = (Kind 2 e → Orderly es) × Begun es

-- from the phase Started on: an end or a break, or else what comes after the packet in that phase; a repeat adds nothing
orderly_happened : (c : Continuity) (s : Bool) (ph : Phase) (i : ℕ) (p : List ℕ) (r : List Event) → ph ≡ Started
    → (phase_then c s ph ≡ Started → Orderly r) → Orderly (happened c s ph i p ++ r)
unfolding continued
orderly_happened GoesOn true ph i p r e h = rw e (inl refl)
orderly_happened GoesOn false ph i p r e h = rw e (go (payload_there p))
  where
    go : (t : Bool) → Orderly (pick t (event 3 i (content_at p) (188 - content_at p) ∷ []) [] ++ r)
    go true = inr (inr (refl, h e))
    go false = h e
orderly_happened Repeats s ph i p r e h = h e
orderly_happened Breaks s ph i p r e h = inr (inl refl)

-- .. where no StartStream is left to be given
orderly-run : (i : ℕ) (s : State) (ps : List (List ℕ)) → s.phase ≡ Started → left_in s ≡ 0 → Orderly (run i s ps)
unfolding run announcement
orderly-run i s [] e l = tt
orderly-run i s (p ∷ ps) e l =
    let n = none_left s p l in
    rw (events-are i s p, n.0) (orderly_happened (continuity s p) (start_flag p) s.phase i p (run (suc i) (next s p) ps) e
    (λ f. orderly-run (suc i) (next s p) ps (phase-then s p ∙ f) n.1))

-- a begin is its packet's last event, and leaves the phase Started and no StartStream
NotTwo : Event → Type 0
NotTwo e = e.kind ≡ 2 → ⊥

past : (a r : List Event) → All NotTwo a → Begun r → Begun (a ++ r)
unfolding NotTwo
past [] r h k = k
past (e ∷ a) r h k = (λ z. absurd (h.0 z), past a r h.1 k)

not-announced : (t : Bool) (i : ℕ) → All NotTwo (announcement t i)
unfolding NotTwo announcement
not-announced true i = (λ z. omega arith, tt)
not-announced false i = tt

not-ended : (ph : Phase) (i : ℕ) → All NotTwo (ended ph i)
unfolding NotTwo
not-ended Begin i = tt
not-ended Started i = (λ z. omega arith, tt)
not-ended IgnoreRest i = tt

not-continued : (ph : Phase) (i : ℕ) (p : List ℕ) → All NotTwo (continued ph i p)
unfolding continued NotTwo
not-continued Begin i p = tt
not-continued Started i p = nested NotTwo (payload_there p) true (event 3 i (content_at p) (188 - content_at p)) (λ f z. omega arith)
not-continued IgnoreRest i p = tt

begun-begins : (i : ℕ) (p : List ℕ) (r : List Event) → Orderly r → Begun r → Begun (begun i p ++ r)
unfolding begun
begun-begins i p r o k = go (payload_there p) (head_accepted (drop (content_at p) p))
  where
    go : (a b : Bool) → Begun (pick a (pick b (event 2 i (content_at p) (188 - content_at p) ∷ []) []) [] ++ r)
    go true true = (λ z. o, k)
    go true false = k
    go false b = k

begun-happened : (c : Continuity) (s : Bool) (ph : Phase) (i : ℕ) (p : List ℕ) (r : List Event) → (s ≡ true → calls c true ≡ true → Orderly r) → Begun r
    → Begun (happened c s ph i p ++ r)
begun-happened GoesOn true ph i p r h k =
    rw (append_assoc (ended ph i) (begun i p) r) (past (ended ph i) _ (not-ended ph i) (begun-begins i p r (h refl refl) k))
begun-happened GoesOn false ph i p r h k = past (continued ph i p) r (not-continued ph i p) k
begun-happened Repeats s ph i p r h k = k
begun-happened Breaks true ph i p r h k = (λ z. absurd (omega arith), begun-begins i p r (h refl refl) k)
begun-happened Breaks false ph i p r h k = (λ z. absurd (omega arith), k)

begun-run : (i : ℕ) (s : State) (ps : List (List ℕ)) → Begun (run i s ps)
unfolding run
begun-run i s [] = tt
begun-run i s (p ∷ ps) =
    let a = announcement (announces s p) i in
    let h = happened (continuity s p) (start_flag p) s.phase i p in
    let r = run (suc i) (next s p) ps in
    rw (events-are i s p, append_assoc a h r)
    (past a (h ++ r) (not-announced (announces s p) i)
    (begun-happened (continuity s p) (start_flag p) s.phase i p r
    (λ f g. let n = started-next s p f g in orderly-run (suc i) (next s p) ps n.0 n.1) (begun-run (suc i) (next s p) ps)))

follows-begin : (pre r : List Event) (b : Event) → Kind 2 b → Begun (pre ++ (b ∷ r)) → Orderly r
follows-begin [] r b k h = h.0 k
follows-begin (e ∷ pre) r b k h = follows-begin pre r b k h.1

quiet_orderly : (mid r : List Event) → All Quiet mid → Orderly (mid ++ r) → All (Kind 3) mid ⊎ Some (Kind 5) mid
quiet_orderly [] r q h = inl tt
quiet_orderly (e ∷ mid) r q h =
    ⊎_elim (λ k. absurd (q.0.1 k)) (λ h. ⊎_elim (λ k. inr (inl k)) (λ k. further k.0 (quiet_orderly mid r q.1 k.1)) h) h
  where
    further : Kind 3 e → All (Kind 3) mid ⊎ Some (Kind 5) mid → All (Kind 3) (e ∷ mid) ⊎ Some (Kind 5) (e ∷ mid)
    further k h = ⊎_elim (λ a. inl (k, a)) (λ x. inr (inr x)) h

-- BETWEEN A BEGIN AND THE NEXT BEGIN OR END of a run there are continues alone, or there is a break
pub between : (i : ℕ) (s : State) (ps : List (List ℕ)) (pre mid r : List Event) (b : Event) → run i s ps ≡ pre ++ (b ∷ (mid ++ r))
    → Kind 2 b → All Quiet mid → All (Kind 3) mid ⊎ Some (Kind 5) mid
between i s ps pre mid r b f k q = quiet_orderly mid r q (follows-begin pre (mid ++ r) b k (rw f at (begun-run i s ps)))

-- ---- the bytes of a unit

module _ (ps : List (List ℕ)) (all : All IsPacket ps) where
  -- a break among the events leaves nothing
  cut : (t : Standing) (mid : List Event) (e : Event) → GatheringStands t → Some (Kind 5) mid
      → All Quiet mid → All Known mid → All (Inside ps) mid → Kind 4 e → Inside ps e
      → (gather_all ps t (mid ++ (e ∷ []))).gathering ≡ emptied
  cut t [] e ok h q k i ke ie = absurd h
  cut t (x ∷ mid) e ok h q k i ke ie =
      let g = (stays-good ps all t x k.0 i.0 ok).0 in
      ⊎_elim here (λ z. cut (called ps t x) mid e g z q.1 k.1 i.1 ke ie) h
    where
      no-begins : (es : List Event) → All Quiet es → All Known es → All NoBegin es
      no-begins [] q k = tt
      no-begins (y ∷ es) q k = ((k.0, q.0.0), no-begins es q.1 k.1)

      here : Kind 5 x → (gather_all ps t (x ∷ (mid ++ (e ∷ [])))).gathering ≡ emptied
      here z =
          let ns = all_append NoBegin mid (e ∷ []) (no-begins mid q.1 k.1) ((omega arith, λ y. omega arith), tt) in
          let is = all_append (Inside ps) mid (e ∷ []) i.1 (ie, tt) in
          ap (λ (y : Standing). y.gathering) (break_cuts ps all t x (mid ++ (e ∷ [])) ok z i.0 ns is).1

  -- AFTER AN END the unit is closed and its bytes are exactly the header's payload followed by the continues since the begin, and none
  -- across a break: whatever the machine's state, whatever was gathered before, and whatever of it was refused by 20
  pub unit_of-run : (s : State) (t : Standing) → GatheringStands t → (pre mid r : List Event) (b e : Event)
      → run 0 s ps ≡ pre ++ (b ∷ (mid ++ (e ∷ r))) → Kind 2 b → All Quiet mid → Kind 4 e
      → (All (Kind 3) mid → length (unit_bytes ps b mid) ≤ length t.store)
      → (All (Kind 3) mid
      × All Taken (answers ps (gather_all ps t pre) (b ∷ (mid ++ (e ∷ []))))
      × ((gather_all ps t (pre ++ (b ∷ (mid ++ (e ∷ []))))).gathering ≡ gathering false (length (unit_bytes ps b mid)) Store)
      × (read_at ps (gather_all ps t (pre ++ (b ∷ (mid ++ (e ∷ []))))) e ≡ unit_bytes ps b mid))
      ⊎ (Some (Kind 5) mid
      × ((gather_all ps t (pre ++ (b ∷ (mid ++ (e ∷ []))))).gathering ≡ emptied)
      × (read_at ps (gather_all ps t (pre ++ (b ∷ (mid ++ (e ∷ []))))) e ≡ []))
  unit_of-run s t ok pre mid r b e f kb q ke room =
      ⊎_elim (λ k. let w = whole k in inl (k, w.0, w.1, w.2)) (λ x. let n = none x in inr (x, n.0, n.1))
      (between 0 s ps pre mid (e ∷ r) b f kb q)
    where
      sound : All (Sound (length ps)) (pre ++ (b ∷ (mid ++ (e ∷ r))))
      sound = rw f at (sound-run (length ps) 0 s ps (omega arith))

      known : (es : List Event) → All (Sound (length ps)) es → All Known es
      known = all_map (Sound (length ps)) Known (λ e h. h.0)

      inside : (es : List Event) → All (Sound (length ps)) es → All (Inside ps) es
      inside = all_map (Sound (length ps)) (Inside ps) (λ e h. h.1)

      before : All (Sound (length ps)) pre
      before = all_left (Sound (length ps)) pre _ sound

      from : All (Sound (length ps)) (b ∷ (mid ++ (e ∷ r)))
      from = all_right (Sound (length ps)) pre _ sound

      within : All (Sound (length ps)) mid
      within = all_left (Sound (length ps)) mid (e ∷ r) from.1

      last : All (Sound (length ps)) (e ∷ r)
      last = all_right (Sound (length ps)) mid (e ∷ r) from.1

      t₁ : Standing
      t₁ = gather_all ps t pre

      good : GatheringStands t₁ × (length t₁.store ≡ length t.store)
      good = all-good ps all t pre (known pre before) (inside pre before) ok

      joined : gather_all ps t (pre ++ (b ∷ (mid ++ (e ∷ [])))) ≡ gather_all ps t₁ (b ∷ (mid ++ (e ∷ [])))
      joined = gather_append ps t pre (b ∷ (mid ++ (e ∷ [])))

      whole : All (Kind 3) mid
          → All Taken (answers ps t₁ (b ∷ (mid ++ (e ∷ []))))
          × ((gather_all ps t (pre ++ (b ∷ (mid ++ (e ∷ []))))).gathering ≡ gathering false (length (unit_bytes ps b mid)) Store)
          × (read_at ps (gather_all ps t (pre ++ (b ∷ (mid ++ (e ∷ []))))) e ≡ unit_bytes ps b mid)
      whole k =
          let h : length (unit_bytes ps b mid) ≤ length t₁.store = omega (arith, room k, good.1) in
          let u = gathered ps all t₁ good.0 b mid kb from.0.1 k (inside mid within) h e ke last.0.1 in
          (u.0, ap (λ (z : Standing). z.gathering) joined ∙ u.1, ap (λ (z : Standing). read_at ps z e) joined ∙ u.2)

      none : Some (Kind 5) mid
          → ((gather_all ps t (pre ++ (b ∷ (mid ++ (e ∷ []))))).gathering ≡ emptied)
          × (read_at ps (gather_all ps t (pre ++ (b ∷ (mid ++ (e ∷ []))))) e ≡ [])
      none x =
          let t₂ = called ps t₁ b in
          let g = (stays-good ps all t₁ b from.0.0 from.0.1 good.0).0 in
          let c = cut t₂ mid e g x q (known mid within) (inside mid within) ke last.0.1 in (
            ap (λ (z : Standing). z.gathering) joined ∙ c,
            ap (λ (z : Standing). read_at ps z e) joined ∙ rw c (none_read ps all (gather_all ps t₂ (mid ++ (e ∷ []))).store e last.0.1),
          )
