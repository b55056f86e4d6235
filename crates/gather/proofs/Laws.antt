-- What the definitions of `specs/` come to, in each case. Callers' proofs cite these; what the functions' proofs are given stands at the end.
-- Assumes nothing.
use mathlib.Core.Path.{◌≡◌, refl, sym, ap, ◌∙◌}
use mathlib.Core.Bool.{true, false}
use mathlib.Core.List.{List, []}
use Prim.Native.Nat.{ℕ, zero, suc, ◌+◌, ◌-◌, ◌≤◌, ◌<◌}
use native.Mathlib.Omega.{arith}
use lib.ListN.{length, get_or, take, drop, length-take, length-drop}
use lib.Dec.{eqb, ltb}
use borrow.Author.Tests.{lt-ltb, le-ltb, ltb-false, eq-eqb, ne_eqb}
use borrow.Rule.Slice.PartMut.{put_mid}
use Rattle.std.specs.Prelude.{Result, Ok, Err}
use Rattle.std.specs.Result.{result_unwrap_or}
use Rattle.std.proofs.lemmas.Slice.{put_mid-paste, overwrites}
use Rattle.bits.specs.Answer.{answer, pick, and_then, part_at, placed_at}
use Rattle.bits.specs.Refused.{refused, given, extent_values}
use Rattle.bits.specs.declared.Extent.{Extent}
use Rattle.bits.specs.declared.refusal.Refusal.{Refusal}
use Rattle.bits.proofs.Bools.{neither-holds}
use Rattle.bits.proofs.Checks.{Off, first_of-off, other-false}
use Rattle.bits.proofs.Refusals.{refused-not_done, refused_above}
use Rattle.bits.proofs.Parts.{part_cut, part_in, placed-none, placed_in, placed_out}
use Rattle.packet.specs.Packet.{not_packet, tried}
use Rattle.packet.proofs.Laws.{first-after}
use Rattle.pes_header.specs.Payload.{header_payload}
use Rattle.pes_header.proofs.Laws.{payload-within, no_payload, payload-part}
use Rattle.event_log.specs.declared.Event.{Event}
use Rattle.gather.specs.declared.Lies.{Lies}
use Rattle.gather.specs.declared.Lies.TheVariants.{Packet, Store}
use Rattle.gather.specs.declared.Gathering.{Gathering}
use Rattle.gather.specs.Belongs.{event_bytes, own_place, own_bytes}
use Rattle.gather.specs.Gather.{gathering, emptied, wrong_event, leaves_packet, wrong_gathering, kept, added, next_gathering, not_gathered, gather_number, GatherOutcome}
use Rattle.gather.specs.Gather.{gather_outcome, gather_of, store_of, not_read, read_of, lying, held_bytes, CallStands, standing}

-- ---- what is refused

module _ (e : Event) where
  pub part-tested : (1 ≤ e.kind) × (e.kind ≤ 5) → ltb 188 (e.place + e.length) ≡ wrong_event e
  unfolding wrong_event
  part-tested h = simp (le-ltb e.kind 1 h.0, le-ltb 5 e.kind h.1)

  -- what is known of an event that is not refused
  pub event-stands : wrong_event e ≡ false → (1 ≤ e.kind) × (e.kind ≤ 5) × (e.place + e.length ≤ 188)
  unfolding wrong_event
  event-stands h = grind arith

  pub part-inside : wrong_event e ≡ false → e.place + e.length ≤ 188
  part-inside h = (event-stands h).2

module _ (g : Gathering) (room : ℕ) where
  -- what is known of a state that is not refused, and the other way
  pub count-inside : wrong_gathering g room ≡ false → g.count ≤ room
  unfolding wrong_gathering
  count-inside h = ltb-false room g.count (neither-holds (ltb room g.count) (leaves_packet g.lies g.count) h).0

  pub stands-gathering : g.count ≤ room → leaves_packet g.lies g.count ≡ false → wrong_gathering g room ≡ false
  unfolding wrong_gathering
  stands-gathering h k = simp (le-ltb room g.count h) k

-- ---- the bytes so far

module _ (g : Gathering) (p s : List ℕ) where
  pub read_done : length p ≡ 188 → get_or p 0 0 ≡ 71 → wrong_gathering g (length s) ≡ false → 0 ≡ read_of g p s
  unfolding read_of not_read
  read_done l h e = sym (first-after p _ l h ∙ rw e)

  pub bytes-are : (l : Lies) (r : List ℕ) → read_of g p s ≡ 0 → g.lies ≡ l → r ≡ lying l g.count p s → r ≡ held_bytes g p s
  unfolding held_bytes
  bytes-are l r z e h = simp (eq-eqb (read_of g p s) 0 z, e) h

-- ---- the bytes that an event adds

module _ (g : Gathering) (e : Event) where
  pub kept-begin : e.kind ≡ 2 → kept g e ≡ 0
  kept-begin k = simp (eq-eqb e.kind 2 k)

  pub kept-other : (e.kind ≡ 2 → ⊥) → kept g e ≡ g.count
  kept-other k = simp (ne_eqb e.kind 2 k)

-- the bytes that an event names are a part of its packet
pub event-part : (p : List ℕ) (e : Event) → length p ≡ 188 → e.place + e.length ≤ 188 → event_bytes p e ≡ part_at e.place e.length p
unfolding event_bytes
event-part p e l h = part_in e.place e.length p (omega arith)

module _ (g : Gathering) (p : List ℕ) (e : Event) where
  pub added-begin : e.kind ≡ 2 → own_bytes (event_bytes p e) ≡ added g p e
  unfolding added
  added-begin h = simp (eq-eqb e.kind 2 h)

  pub added-open : e.kind ≡ 3 → g.opened ≡ true → event_bytes p e ≡ added g p e
  unfolding added
  added-open h o = simp (h, o)

  pub added-closed : e.kind ≡ 3 → g.opened ≡ false → [] ≡ added g p e
  unfolding added
  added-closed h o = simp (h, o)

  pub added_none : (e.kind ≡ 2 → ⊥) → (e.kind ≡ 3 → ⊥) → [] ≡ added g p e
  unfolding added
  added_none h k = simp (ne_eqb e.kind 2 h, ne_eqb e.kind 3 k)

  -- the state after it
  pub next_start : e.kind ≡ 1 → next_gathering g p e ≡ g
  unfolding next_gathering
  next_start k = simp k

  pub next-begin : e.kind ≡ 2 → next_gathering g p e ≡ gathering true (length (own_bytes (event_bytes p e))) (Packet (e.place + own_place (event_bytes p e)))
  unfolding next_gathering
  next-begin k = simp (k, ← added-begin k)

  pub next-continue : e.kind ≡ 3 → next_gathering g p e ≡ gathering g.opened (g.count + length (added g p e)) Store
  unfolding next_gathering
  next-continue k = simp k

  pub next-end : e.kind ≡ 4 → next_gathering g p e ≡ gathering false g.count Store
  unfolding next_gathering
  next-end k = simp k

  pub next-break : e.kind ≡ 5 → next_gathering g p e ≡ emptied
  unfolding next_gathering
  next-break k = simp k

-- ---- a call

-- an outcome and a store's bytes are those of a call
abbrev Meets : Gathering → List ℕ → Event → List ℕ → GatherOutcome → List ℕ → Type 0
Meets g p e s o s' = (o ≡ gather_of g p e s) × (s' ≡ store_of g p e s)

module _ (g : Gathering) (p : List ℕ) (e : Event) (s : List ℕ) where
  module _ (h : CallStands g p e s) where
    number-full : length s < kept g e + length (added g p e) → gather_number g p e s ≡ 20
    unfolding gather_number not_gathered
    number-full k = first-after p _ h.0 h.1 ∙ rw (h.2, h.3, lt-ltb (length s) (kept g e + length (added g p e)) k)

    pub number-done : kept g e + length (added g p e) ≤ length s → gather_number g p e s ≡ 0
    unfolding gather_number not_gathered
    number-done k = first-after p _ h.0 h.1 ∙ rw (h.2, h.3, le-ltb (length s) (kept g e + length (added g p e)) k)

    pub full : length s < kept g e + length (added g p e) → Meets g p e s (gather_outcome 20 emptied) s
    unfolding gather_of store_of
    full k = simp (number-full k) (refl, refl)

  pub taken : (g' : Gathering) (s' : List ℕ) → gather_number g p e s ≡ 0 → g' ≡ next_gathering g p e → s' ≡ placed_at s (kept g e) (added g p e)
      → Meets g p e s (gather_outcome 0 g') s'
  unfolding gather_of store_of
  taken g' s' z f k = simp z (ap (gather_outcome 0) f, k)

-- ---- what the functions' proofs are given

-- the bytes that an event names, as the borrow checker has them
pub named : (p : List ℕ) (e : Event) → take (e.place + e.length - e.place) (drop e.place p) ≡ event_bytes p e
unfolding event_bytes
named p e = ap (λ (n : ℕ). take n (drop e.place p)) (omega arith)

-- a part is no longer than what it is a part of
pub part_short : (a n : ℕ) (xs : List ℕ) → length (part_at a n xs) ≤ length xs
unfolding part_at
part_short a n xs = grind (arith, length-drop {A = ℕ}, length-take {A = ℕ})

-- a part of a slice that is overwritten
pub overwritten : (k n : ℕ) (d ys xs : List ℕ) → ys ≡ xs → n ≡ length xs → k + length xs ≤ length d → put_mid k n d ys ≡ placed_at d k xs
overwritten k n d ys xs e f h = put_mid-paste k n d ys xs (length xs) e (sym f) refl ∙ placed_in d k xs h

-- the payload of a begin, or the empty part at its start
pub own-or : (xs : List ℕ) (r : Result Extent Refusal) → given extent_values r ≡ header_payload xs
    → (x : Extent) → x ≡ result_unwrap_or r (record { place = 0; length = 0 })
    → (x.place ≡ own_place xs) × (part_at x.place x.length xs ≡ own_bytes xs) × (x.place + x.length ≤ length xs)
unfolding own_place own_bytes
own-or xs (Ok e) h x y = rw (y, ← h) (refl, payload-part xs e.place e.length h, (rw (← h) at (payload-within xs)) refl)
own-or xs (Err q) h x y =
    rw (y, ← h) (sym (refused-not_done q (get_or (refused q).values 0 0) 0), sym (part_in 0 0 xs (omega arith)) ∙ no_payload xs q h, omega arith)

-- the bytes so far are asked for as they are read out: of a packet, by a state that stands
pub read-steps : (g : Gathering) (p s : List ℕ) → answer (read_of g p s) [] ≡ and_then (tried p) (standing g (length s))
unfolding read_of not_read not_packet
read-steps g p s = grind arith

-- what is known where they can be
module _ (g : Gathering) (p s : List ℕ) (z : read_of g p s ≡ 0) where
  read_off : Off (not_read g p s)
  unfolding read_of not_read not_packet
  read_off = first_of-off (not_read g p s) (omega arith) z

  pub read-long : length p ≡ 188
  unfolding not_read not_packet
  read-long = other-false (length p) 188 read_off.0

  pub read-count : g.count ≤ length s
  unfolding not_read not_packet
  read-count = count-inside g (length s) read_off.1.1.0

-- an event is refused as their reading is, then by itself, then for room
pub number-steps : (g : Gathering) (p : List ℕ) (e : Event) (s : List ℕ)
    → gather_number g p e s
    ≡ pick (eqb (read_of g p s) 0) (pick (wrong_event e) 14 (pick (ltb (length s) (kept g e + length (added g p e))) 20 0)) (read_of g p s)
unfolding gather_number not_gathered read_of not_read not_packet
number-steps g p e s = grind arith

pub ruleset append_laws = (overwritten, overwrites, placed_out)

pub ruleset apply_laws = (named, part_cut, part_short, placed-none)

pub ruleset held_laws = (read-steps, refused_above)

pub ruleset next_laws = (number-steps, read-long, read-count, part-inside, refused_above, placed_out)
