-- The calls of the gathering store over the events of a list of packets, and the bytes of a unit.
-- Assumes nothing.
use mathlib.Core.Path.{◌≡◌, refl, sym, ap, ◌∙◌}
use mathlib.Core.Bool.{Bool, true, false}
use mathlib.Core.List.{List, [], ◌∷◌, ◌++◌, append_assoc, append-nil}
use Prim.Native.Nat.{ℕ, zero, suc, ◌+◌, ◌≤◌, ◌<◌}
use native.Mathlib.Omega.{arith}
use lib.Dec.{eqb, leb}
use lib.ListN.{length, get_or, take, length-append}
use borrow.Author.Tests.{le-ltb, leb-true, leb-false, ne_eqb, eqb-true, eqb-false}
use Rattle.bits.specs.Answer.{pick, part_at, placed_at, All}
use Rattle.bits.proofs.Parts.{part_in, part_length, part-of-part, length-placed, placed-take, placed-none}
use Rattle.event_log.specs.declared.Event.{Event}
use Rattle.machine.specs.Run.{IsPacket}
use Rattle.gather.specs.declared.Lies.TheVariants.{Packet, Store}
use Rattle.gather.specs.declared.Gathering.{Gathering}
use Rattle.gather.specs.Belongs.{event_bytes, own_place, own_bytes}
use Rattle.gather.specs.Gather.{gathering, emptied, wrong_event, wrong_gathering, kept, added, next_gathering, GatherOutcome, held_bytes, CallStands}
use Rattle.gather.proofs.Laws.{part-tested, stands-gathering, count-inside, read_done, bytes-are, event-part, added-begin, added-open}
use Rattle.gather.proofs.Laws.{added-closed, added_none, kept-begin, kept-other, next_start, next-begin, next-continue, next-end, next-break, number-done, full, taken}
use Rattle.gather.proofs.Theorems.{own-part}
use Rattle.units.specs.Units.{Standing, standing, packet_of, answered, called, gather_all, answers, read_at, bytes_at, bytes_at_all}
use Rattle.units.specs.Units.{unit_bytes, last_event, Inside, GatheringStands, Kind, Known, NoBegin, Taken, Open}

-- ---- the calls over events: what a call with each kind does

-- an event whose packet is there and whose part lies in it is refused for its state alone
pub packet_there : (ps : List (List ℕ)) (i : ℕ) → All IsPacket ps → i < length ps → IsPacket (get_or ps i [])
packet_there [] i a h = absurd (omega arith)
packet_there (p ∷ ps) zero a h = a.0
packet_there (p ∷ ps) (suc i) a h = packet_there ps i a.1 (omega arith)

event-good : (e : Event) → Known e → e.place + e.length ≤ 188 → wrong_event e ≡ false
event-good e k h = sym (part-tested e k) ∙ le-ltb 188 (e.place + e.length) h

module _ (ps : List (List ℕ)) (all : All IsPacket ps) (t : Standing) (e : Event) (k : Known e) (i : Inside ps e) (ok : GatheringStands t) where
  possible : CallStands t.gathering (packet_of ps e) e t.store
  possible = let q = packet_there ps e.index all i.0 in (q.0, q.1, event-good e k i.1, ok)

  -- where the store has room, it is taken
  accepted : kept t.gathering e + length (added t.gathering (packet_of ps e) e) ≤ length t.store
      → ((answered ps t e).number ≡ 0)
      × (called ps t e ≡ standing (next_gathering t.gathering (packet_of ps e) e)
      (placed_at t.store (kept t.gathering e) (added t.gathering (packet_of ps e) e)))
  accepted room =
      let z = number-done t.gathering (packet_of ps e) e t.store possible room in
      let q = taken t.gathering (packet_of ps e) e t.store _ _ z refl refl in
      (ap (λ (o : GatherOutcome). o.number) (sym q.0), rw (← q.0, ← q.1))

-- reading out of the store
read-store : (p s u : List ℕ) (o : Bool) → IsPacket p → length u ≤ length s → take (length u) s ≡ u
    → u ≡ held_bytes (gathering o (length u) Store) p s
read-store p s u o q h f =
    let g = gathering o (length u) Store in
    let z = read_done g p s q.0 q.1 (stands-gathering g (length s) h refl) in
    bytes-are g p s Store u (sym z) refl (sym f ∙ part_in 0 (length u) s (omega arith))

-- what belongs to a unit, as a part of its begin's packet
own_in_packet : (p : List ℕ) (e : Event) → length p ≡ 188 → e.place + e.length ≤ 188
    → (e.place + own_place (event_bytes p e) + length (own_bytes (event_bytes p e)) ≤ 188)
    × (own_bytes (event_bytes p e) ≡ part_at (e.place + own_place (event_bytes p e)) (length (own_bytes (event_bytes p e))) p)
own_in_packet p e l h =
    let x = event-part p e l h in
    let a = own_place (event_bytes p e) in
    let n = length (own_bytes (event_bytes p e)) in
    let q = own-part (event_bytes p e) in
    let m : length (event_bytes p e) ≡ e.length = rw x (part_length e.place e.length p (omega arith)) in
    let f = part-of-part e.place e.length a n p (omega arith) (omega (arith, q.0)) in
    (omega (arith, q.0), sym q.1 ∙ (ap (part_at a n) x ∙ f))

module _ (ps : List (List ℕ)) (all : All IsPacket ps) (t : Standing) (e : Event) (i : Inside ps e) where
  -- a begin opens a unit anew, whatever stood before; its bytes are read out of its packet
  pub begin_opens : Kind 2 e → GatheringStands t → length (own_bytes (bytes_at ps e)) ≤ length t.store
      → ((answered ps t e).number ≡ 0)
      × Open (own_bytes (bytes_at ps e)) (length t.store) (called ps t e)
      × ((called ps t e).gathering.lies ≡ Packet (e.place + own_place (bytes_at ps e)))
      × (read_at ps (called ps t e) e ≡ own_bytes (bytes_at ps e))
  begin_opens k ok h =
      let p = packet_of ps e in
      let q = packet_there ps e.index all i.0 in
      let u : List ℕ = own_bytes (bytes_at ps e) in
      let a : ℕ = e.place + own_place (bytes_at ps e) in
      let g : Gathering = gathering true (length u) (Packet a) in
      let s : List ℕ = placed_at t.store 0 u in
      let o = own_in_packet p e q.0 i.1 in
      let d = kept-begin t.gathering e k in
      let j = added-begin t.gathering p e k in
      let c = accepted ps all t e (omega arith) i ok (rw (d, ← j) (omega arith)) in
      let f : called ps t e ≡ standing g s = c.1 ∙ rw (next-begin t.gathering p e k, d, ← j) in
      let l : length s ≡ length t.store = length-placed t.store 0 u in
      let z : 0 + length u ≡ length u = omega arith in
      let v : take (length u) s ≡ u = rw z at (placed-take t.store 0 u (omega arith)) in
      let y : GatheringStands (standing g s) = stands-gathering g _ (omega arith) (le-ltb 188 (a + length u) o.0) in (
        c.0,
        rw f (record { opened = refl; count = refl; room = l; stored = v; good = y }),
        ap (λ (x : Standing). x.gathering.lies) f,
        ap (λ (x : Standing). read_at ps x e) f ∙ sym (bytes-are g p s (Packet a) u (sym (read_done g p s q.0 q.1 y)) refl o.1),
      )

  -- a continue appends all that it names; from then on the bytes are read out of the store
  pub continue_adds : (u : List ℕ) (n : ℕ) → Kind 3 e → Open u n t → length u + length (bytes_at ps e) ≤ n
      → ((answered ps t e).number ≡ 0)
      × Open (u ++ bytes_at ps e) n (called ps t e)
      × ((called ps t e).gathering.lies ≡ Store)
      × (read_at ps (called ps t e) e ≡ u ++ bytes_at ps e)
  continue_adds u n k w h =
      let p = packet_of ps e in
      let q = packet_there ps e.index all i.0 in
      let x : List ℕ = bytes_at ps e in
      let g : Gathering = gathering true (length (u ++ x)) Store in
      let s : List ℕ = placed_at t.store (length u) x in
      let d : kept t.gathering e ≡ length u = kept-other t.gathering e (λ z. omega arith) ∙ w.count in
      let j : added t.gathering p e ≡ x = sym (added-open t.gathering p e k w.opened) in
      let c = accepted ps all t e (omega arith) i w.good (rw (d, j) (omega (arith, w.room))) in
      let m : length u + length x ≡ length (u ++ x) = sym (length-append u x) in
      let f : called ps t e ≡ standing g s = c.1 ∙ rw (next-continue t.gathering p e k, d, j, w.opened, w.count, m) in
      let r : length u + length x ≤ length t.store = omega (arith, w.room) in
      let l : length s ≡ length t.store = length-placed t.store (length u) x in
      let b : take (length u + length x) s ≡ u ++ x = placed-take t.store (length u) x r ∙ ap (λ (z : List ℕ). z ++ x) w.stored in
      let v : take (length (u ++ x)) s ≡ u ++ x = rw (← m) b in
      let y : GatheringStands (standing g s) = stands-gathering g _ (omega arith) refl in (
        c.0,
        rw f (record { opened = refl; count = refl; room = l ∙ w.room; stored = v; good = y }),
        ap (λ (z : Standing). z.gathering.lies) f,
        ap (λ (z : Standing). read_at ps z e) f ∙ sym (read-store p s (u ++ x) true q (omega arith) v),
      )

  -- what adds nothing leaves the store
  nothing-added : Known e → GatheringStands t → (e.kind ≡ 2 → ⊥) → [] ≡ added t.gathering (packet_of ps e) e
      → ((answered ps t e).number ≡ 0) × (called ps t e ≡ standing (next_gathering t.gathering (packet_of ps e) e) t.store)
  nothing-added k ok b j =
      let d : kept t.gathering e ≡ t.gathering.count = kept-other t.gathering e b in
      let r : t.gathering.count ≤ length t.store = count-inside t.gathering (length t.store) ok in
      let c = accepted ps all t e k i ok (rw (d, ← j) (omega arith)) in
      (c.0, c.1 ∙ rw (d, ← j, ← placed-none t.store t.gathering.count))

  -- a start of the stream changes nothing
  pub start-leaves : Kind 1 e → GatheringStands t → ((answered ps t e).number ≡ 0) × (called ps t e ≡ t)
  start-leaves k ok =
      let p = packet_of ps e in
      let j = added_none t.gathering p e (λ z. omega arith) (λ z. omega arith) in
      let c = nothing-added (omega arith) ok (λ z. omega arith) j in
      (c.0, c.1 ∙ rw (next_start t.gathering p e k))

  -- an end closes the unit and keeps its bytes
  pub end_keeps : Kind 4 e → GatheringStands t
      → ((answered ps t e).number ≡ 0) × (called ps t e ≡ standing (gathering false t.gathering.count Store) t.store)
  end_keeps k ok =
      let p = packet_of ps e in
      let j = added_none t.gathering p e (λ z. omega arith) (λ z. omega arith) in
      let c = nothing-added (omega arith) ok (λ z. omega arith) j in
      (c.0, c.1 ∙ rw (next-end t.gathering p e k))

  -- a break empties and closes
  pub break_empties : Kind 5 e → GatheringStands t → ((answered ps t e).number ≡ 0) × (called ps t e ≡ standing emptied t.store)
  break_empties k ok =
      let p = packet_of ps e in
      let j = added_none t.gathering p e (λ z. omega arith) (λ z. omega arith) in
      let c = nothing-added (omega arith) ok (λ z. omega arith) j in
      (c.0, c.1 ∙ rw (next-break t.gathering p e k))

-- ---- a unit, from its begin to its end

pub gather_append : (ps : List (List ℕ)) (t : Standing) (a b : List Event) → gather_all ps t (a ++ b) ≡ gather_all ps (gather_all ps t a) b
gather_append ps t [] b = refl
gather_append ps t (e ∷ a) b = gather_append ps (called ps t e) a b

pub taken-append : (ps : List (List ℕ)) (t : Standing) (a b : List Event)
    → All Taken (answers ps t a) → All Taken (answers ps (gather_all ps t a) b) → All Taken (answers ps t (a ++ b))
taken-append ps t [] b h k = k
taken-append ps t (e ∷ a) b h k = (h.0, taken-append ps (called ps t e) a b h.1 k)

module _ (ps : List (List ℕ)) (all : All IsPacket ps) where
  continues : (t : Standing) (b : Event) (cs : List Event) (u : List ℕ) (n : ℕ) → All (Kind 3) cs → All (Inside ps) cs
      → Open u n t → read_at ps t b ≡ u → length u + length (bytes_at_all ps cs) ≤ n
      → All Taken (answers ps t cs)
      × Open (u ++ bytes_at_all ps cs) n (gather_all ps t cs)
      × (read_at ps (gather_all ps t cs) (last_event b cs) ≡ u ++ bytes_at_all ps cs)
  continues t b [] u n k i w r h = (tt, rw (append-nil u) w, r ∙ sym (append-nil u))
  continues t b (c ∷ cs) u n k i w r h =
      let x = bytes_at ps c in
      let m : length (x ++ bytes_at_all ps cs) ≡ length x + length (bytes_at_all ps cs) = length-append x (bytes_at_all ps cs) in
      let a = continue_adds ps all t c i.0 u n k.0 w (omega arith) in
      let d = continues (called ps t c) c cs (u ++ x) n k.1 i.1 a.1 a.3 (omega (arith, length-append u x)) in
      let f = append_assoc u x (bytes_at_all ps cs) in
      ((a.0, d.0), rw (← f) d.1, d.2 ∙ f)

  module _ (t : Standing) (ok : GatheringStands t) (b : Event) (cs : List Event) (kb : Kind 2 b) (ib : Inside ps b) (kc : All (Kind 3) cs)
      (ic : All (Inside ps) cs) (room : length (unit_bytes ps b cs) ≤ length t.store) where
    -- before its end it is open; its bytes so far stand in the store, and are what is read out with the packet of the last event
    pub gathering-open : All Taken (answers ps t (b ∷ cs))
        × Open (unit_bytes ps b cs) (length t.store) (gather_all ps t (b ∷ cs))
        × (read_at ps (gather_all ps t (b ∷ cs)) (last_event b cs) ≡ unit_bytes ps b cs)
    unfolding unit_bytes
    gathering-open =
        let u = own_bytes (bytes_at ps b) in
        let m : length (u ++ bytes_at_all ps cs) ≡ length u + length (bytes_at_all ps cs) = length-append u (bytes_at_all ps cs) in
        let a = begin_opens ps all t b ib kb ok (omega arith) in
        let d = continues (called ps t b) b cs u (length t.store) kc ic a.1 a.3 (omega arith) in
        ((a.0, d.0), d.1, d.2)

    -- AFTER ITS END every call was answered by 0, the unit is closed, and the bytes read out are exactly its own
    pub gathered : (e : Event) → Kind 4 e → Inside ps e
        → All Taken (answers ps t (b ∷ (cs ++ (e ∷ []))))
        × ((gather_all ps t (b ∷ (cs ++ (e ∷ [])))).gathering ≡ gathering false (length (unit_bytes ps b cs)) Store)
        × (read_at ps (gather_all ps t (b ∷ (cs ++ (e ∷ [])))) e ≡ unit_bytes ps b cs)
    gathered e ke ie =
        let u = unit_bytes ps b cs in
        let d = gathering-open in
        let t₁ = gather_all ps t (b ∷ cs) in
        let x = end_keeps ps all t₁ e ie ke d.1.good in
        let g = gathering false (length u) Store in
        let h : called ps t₁ e ≡ standing g t₁.store = x.1 ∙ rw d.1.count in
        let f : gather_all ps t (b ∷ (cs ++ (e ∷ []))) ≡ standing g t₁.store = gather_append ps t (b ∷ cs) (e ∷ []) ∙ h in
        let q = packet_there ps e.index all ie.0 in (
          taken-append ps t (b ∷ cs) (e ∷ []) d.0 (x.0, tt),
          ap (λ (z : Standing). z.gathering) f,
          ap (λ (z : Standing). read_at ps z e) f
              ∙ sym (read-store (packet_of ps e) t₁.store u false q (omega (arith, d.1.room)) d.1.stored),
        )

-- ---- after a break nothing is added until a begin

module _ (p : List ℕ) (e : Event) where
  added-fresh : (e.kind ≡ 2 → ⊥) → [] ≡ added emptied p e
  added-fresh b = go (eqb e.kind 3) refl
    where
      go : (t : Bool) → eqb e.kind 3 ≡ t → [] ≡ added emptied p e
      go true f = added-closed emptied p e (eqb-true e.kind 3 f) refl
      go false f = added_none emptied p e b (eqb-false e.kind 3 f)

  next-fresh : (e.kind ≡ 2 → ⊥) → next_gathering emptied p e ≡ emptied
  unfolding next_gathering
  next-fresh b = rw (ne_eqb e.kind 2 b, ← added-fresh b) (go (eqb e.kind 1) (eqb e.kind 3) (eqb e.kind 4))
    where
      go : (t₁ t₃ t₄ : Bool) → pick t₁ emptied (pick t₃ (gathering false (0 + 0) Store) (pick t₄ (gathering false 0 Store) emptied)) ≡ emptied
      go true t₃ t₄ = refl
      go false true t₄ = refl
      go false false true = refl
      go false false false = refl

fresh-good : (s : List ℕ) → GatheringStands (standing emptied s)
fresh-good s = stands-gathering emptied (length s) (omega arith) refl

module _ (ps : List (List ℕ)) (all : All IsPacket ps) where
  pub closed-stays : (s : List ℕ) (es : List Event) → All NoBegin es → All (Inside ps) es
      → All Taken (answers ps (standing emptied s) es) × (gather_all ps (standing emptied s) es ≡ standing emptied s)
  closed-stays s [] k i = (tt, refl)
  closed-stays s (e ∷ es) k i =
      let j = added-fresh (packet_of ps e) e k.0.1 in
      let a = nothing-added ps all (standing emptied s) e i.0 k.0.0 (fresh-good s) k.0.1 j in
      let f : called ps (standing emptied s) e ≡ standing emptied s = a.1 ∙ rw (next-fresh (packet_of ps e) e k.0.1) in
      let b = closed-stays s es k.1 i.1 in
      ((a.0, rw f b.0), ap (λ (t : Standing). gather_all ps t es) f ∙ b.1)

  -- so the bytes read out after a break are none, whatever came before it
  pub break_cuts : (t : Standing) (x : Event) (es : List Event) → GatheringStands t → Kind 5 x → Inside ps x → All NoBegin es → All (Inside ps) es
      → All Taken (answers ps t (x ∷ es)) × (gather_all ps t (x ∷ es) ≡ standing emptied t.store)
  break_cuts t x es ok k i kn is =
      let a = break_empties ps all t x i k ok in
      let b = closed-stays t.store es kn is in
      ((a.0, rw a.1 b.0), ap (λ (t : Standing). gather_all ps t es) a.1 ∙ b.1)

  pub none_read : (s : List ℕ) (e : Event) → Inside ps e → read_at ps (standing emptied s) e ≡ []
  none_read s e i = sym (read-store (packet_of ps e) s [] false (packet_there ps e.index all i.0) (omega arith) refl)

-- ---- whatever was refused by 20, a state that lies in its store and packet stays such

next-good : (g : Gathering) (p : List ℕ) (e : Event) (n : ℕ) → Known e → length p ≡ 188 → e.place + e.length ≤ 188 → wrong_gathering g n ≡ false
    → kept g e + length (added g p e) ≤ n → wrong_gathering (next_gathering g p e) n ≡ false
next-good g p e n k l h ok r = go (eqb e.kind 1) refl (eqb e.kind 2) refl (eqb e.kind 3) refl (eqb e.kind 4) refl
  where
    o : g.count ≤ n
    o = count-inside g n ok

    go : (t₁ : Bool) → eqb e.kind 1 ≡ t₁ → (t₂ : Bool) → eqb e.kind 2 ≡ t₂
        → (t₃ : Bool) → eqb e.kind 3 ≡ t₃ → (t₄ : Bool) → eqb e.kind 4 ≡ t₄ → wrong_gathering (next_gathering g p e) n ≡ false
    go true f₁ t₂ f₂ t₃ f₃ t₄ f₄ = rw (next_start g p e (eqb-true e.kind 1 f₁)) ok
    go false f₁ true f₂ t₃ f₃ t₄ f₄ =
        let q : e.kind ≡ 2 = eqb-true e.kind 2 f₂ in
        let i = own_in_packet p e l h in
        let m : length (own_bytes (event_bytes p e)) ≤ n = rw (added-begin g p e q) (omega arith) in
        let a = e.place + own_place (event_bytes p e) in
        rw (next-begin g p e q) (stands-gathering _ n m (le-ltb 188 (a + length (own_bytes (event_bytes p e))) i.0))
    go false f₁ false f₂ true f₃ t₄ f₄ =
        let q : e.kind ≡ 3 = eqb-true e.kind 3 f₃ in
        let b : kept g e ≡ g.count = kept-other g e (λ z. omega arith) in
        rw (next-continue g p e q) (stands-gathering _ n (omega arith) refl)
    go false f₁ false f₂ false f₃ true f₄ = rw (next-end g p e (eqb-true e.kind 4 f₄)) (stands-gathering _ n o refl)
    go false f₁ false f₂ false f₃ false f₄ =
        let no = eqb-false e.kind in
        let q : e.kind ≡ 5 = omega (arith, no 1 f₁, no 2 f₂, no 3 f₃, no 4 f₄) in
        rw (next-break g p e q) (stands-gathering emptied n (omega arith) refl)

module _ (ps : List (List ℕ)) (all : All IsPacket ps) where
  pub stays-good : (t : Standing) (e : Event) → Known e → Inside ps e → GatheringStands t
      → GatheringStands (called ps t e) × (length (called ps t e).store ≡ length t.store)
  stays-good t e k i ok = go (leb (kept t.gathering e + length (added t.gathering (packet_of ps e) e)) (length t.store)) refl
    where
      q : IsPacket (packet_of ps e)
      q = packet_there ps e.index all i.0

      same : (s : Standing) → called ps t e ≡ s → GatheringStands s × (length s.store ≡ length t.store)
          → GatheringStands (called ps t e) × (length (called ps t e).store ≡ length t.store)
      same s f h =
          let room : Standing → ℕ = λ z. length z.store in
          (ap (λ (z : Standing). wrong_gathering z.gathering (room z)) f ∙ h.0, ap room f ∙ h.1)

      go : (b : Bool) → leb (kept t.gathering e + length (added t.gathering (packet_of ps e) e)) (length t.store) ≡ b
          → GatheringStands (called ps t e) × (length (called ps t e).store ≡ length t.store)
      go true f =
          let r = leb-true _ _ f in
          let l = length-placed t.store (kept t.gathering e) (added t.gathering (packet_of ps e) e) in
          same _ (accepted ps all t e k i ok r).1 (rw l (next-good t.gathering (packet_of ps e) e _ k q.0 i.1 ok r), l)
      go false f =
          let r = full t.gathering (packet_of ps e) e t.store (possible ps all t e k i ok) (leb-false _ _ f) in
          same (standing emptied t.store) (rw (← r.0, ← r.1)) (fresh-good t.store, refl)

  pub all-good : (t : Standing) (es : List Event) → All Known es → All (Inside ps) es → GatheringStands t
      → GatheringStands (gather_all ps t es) × (length (gather_all ps t es).store ≡ length t.store)
  all-good t [] k i ok = (ok, refl)
  all-good t (e ∷ es) k i ok =
      let a = stays-good t e k.0 i.0 ok in
      let b = all-good (called ps t e) es k.1 i.1 a.0 in
      (b.0, b.1 ∙ a.1)
