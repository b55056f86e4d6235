-- No run with fewer packets gives a unit: a packet carries at most 184 bytes of it, and the first carries its header.
-- Assumes nothing.
use Rattle.std.specs.Prelude.{Option, None, Some}
use mathlib.Core.Path.{◌≡◌, refl, sym, ap, ◌∙◌}
use mathlib.Core.Bool.{Bool, true, false, not}
use mathlib.Core.List.{List, [], ◌∷◌, ◌++◌}
use Prim.Native.Nat.{ℕ, suc, ◌+◌, ◌-◌, ◌*◌, ◌≤◌}
use native.Mathlib.Omega.{arith}
use lib.ListN.{length, drop, get_or, length-append, length-take, length-drop}
use lib.Dec.{eqb}
use borrow.Author.Tests.{eqb-true}
use Rattle.bits.specs.Answer.{Answer, answer, pick, part_of, All}
use Rattle.bits.specs.Field.{bit, flag}
use Rattle.packet.specs.Packet.{start_flag, adaptation_flag, adaptation_length, content_at, payload_there}
use Rattle.pes.specs.Stream.{parsed_id}
use Rattle.pes.specs.Head.{id_of}
use Rattle.pes.proofs.Laws.{headed-done}
use Rattle.contents.specs.Contents.{times_size, escr_at, es_rate_at, trick_at, copy_info_at, crc_at, fields_end, payload_at, flagged, read_pts_dts}
use Rattle.contents.proofs.Laws.{Accepted, accepted}
use Rattle.event_log.specs.declared.Event.{Event}
use Rattle.event_log.specs.Entry.{begin_packet, continue_packet}
use Rattle.machine.specs.declared.Phase.{Phase}
use Rattle.machine.specs.declared.Phase.TheVariants.{Begin, Started, IgnoreRest}
use Rattle.machine.specs.declared.Continuity.{Continuity}
use Rattle.machine.specs.declared.Continuity.TheVariants.{GoesOn, Repeats, Breaks}
use Rattle.machine.specs.Events.{State, continuity, head_accepted, event_with_payload, announces, announcement, ended, begun, continued, events_of, next, run}
use Rattle.machine.proofs.Theorems.{happened, events-are}
use Rattle.pes_header.specs.Payload.{header_payload, payload_bytes}
use Rattle.gather.specs.Belongs.{event_bytes}
use Rattle.writer.specs.declared.Times.{Times}
use Rattle.writer.specs.declared.Times.TheVariants.{Untimed, Pts, Both}
use Rattle.writer.specs.declared.Unit.{Unit}
use Rattle.writer.specs.Unit.{field_flag, times_bytes, data_of, count_of}
use Rattle.units.specs.Units.{bytes_at, bytes_at_all}
use Rattle.capacity.specs.Reads.{begins, continues, up_to_begin, Segment, segment, segments, written_times, written_escr, written_field}
use Rattle.capacity.specs.Reads.{contents, HasFields, Gives}

-- ---- a packet gives at most one part, of at most 184 bytes

-- how many events of a list have bytes
abbrev parts : List Event → ℕ
parts [] = 0
parts (e ∷ es) = pick (begins e) 1 (pick (continues e) 1 0) + parts es

parts-append : (xs ys : List Event) → parts (xs ++ ys) ≡ parts xs + parts ys
parts-append [] ys = omega arith
parts-append (x ∷ xs) ys = omega (arith, parts-append xs ys)

abbrev Short : Event → Type 0
Short e = e.length ≤ 184

short-append : (xs ys : List Event) → All Short xs → All Short ys → All Short (xs ++ ys)
short-append [] ys h k = k
short-append (x ∷ xs) ys h k = (h.0, short-append xs ys h.1 k)

content_low : (p : List ℕ) → 4 ≤ content_at p
unfolding content_at
content_low p = elim (adaptation_flag p) as (λ b. 4 ≤ pick b (5 + adaptation_length p) 4) [ true ↦ omega arith | false ↦ omega arith ]

-- at most k parts, each short
abbrev Within : ℕ → List Event → Type 0
Within k es = (parts es ≤ k) × All Short es

within-append : (k m : ℕ) (xs ys : List Event) → Within k xs → Within m ys → Within (k + m) (xs ++ ys)
within-append k m xs ys h g = (omega (arith, parts-append xs ys), short-append xs ys h.1 g.1)

within-pick : (k : ℕ) (b : Bool) (xs ys : List Event) → Within k xs → Within k ys → Within k (pick b xs ys)
within-pick k true xs ys h g = h
within-pick k false xs ys h g = g

within_none : (k : ℕ) → Within k []
within_none k = (omega arith, tt)

module _ (i : ℕ) (p : List ℕ) where
  within_held : Within 1 (event_with_payload begin_packet i p ∷ []) × Within 1 (event_with_payload continue_packet i p ∷ [])
  within_held = let h = content_low p in ((omega arith, (omega arith, tt)), (omega arith, (omega arith, tt)))

  within-announced : (b : Bool) → Within 0 (announcement b i)
  unfolding announcement
  within-announced true = (omega arith, (omega arith, tt))
  within-announced false = within_none 0

  within-ended : (f : Phase) → Within 0 (ended f i)
  within-ended Begin = within_none 0
  within-ended Started = (omega arith, (omega arith, tt))
  within-ended IgnoreRest = within_none 0

  within-begun : Within 1 (begun i p)
  unfolding begun
  within-begun =
      let w = within-pick 1 (head_accepted (drop (content_at p) p)) _ _ within_held.0 (within_none 1) in
      within-pick 1 (payload_there p) _ _ w (within_none 1)

  within-continued : (f : Phase) → Within 1 (continued f i p)
  unfolding continued
  within-continued Begin = within_none 1
  within-continued Started = within-pick 1 (payload_there p) _ _ within_held.1 (within_none 1)
  within-continued IgnoreRest = within_none 1

  -- in both modes: a repeat that is dropped gives none
  within-happened : (c : Continuity) (s : Bool) (f : Phase) → Within 1 (happened c s f i p)
  within-happened GoesOn true f = within-append 0 1 (ended f i) (begun i p) (within-ended f) within-begun
  within-happened GoesOn false f = within-continued f
  within-happened Repeats s f = within_none 1
  within-happened Breaks true f = (omega (arith, within-begun.0), (omega arith, within-begun.1))
  within-happened Breaks false f = (omega arith, (omega arith, tt))

  one-part : (s : State) → Within 1 (events_of i s p)
  one-part s =
      rw (events-are i s p)
      (within-append 0 1 (announcement (announces s p) i) (happened (continuity s p) (start_flag p) s.phase i p) (within-announced (announces s p))
      (within-happened (continuity s p) (start_flag p) s.phase))

-- a run has at most as many parts as packets
run-within : (ps : List (List ℕ)) (i : ℕ) (s : State) → Within (length ps) (run i s ps)
unfolding run
run-within [] i s = within_none 0
run-within (p ∷ ps) i s =
    let w = within-append 1 (length ps) (events_of i s p) (run (suc i) (next s p) ps) (one-part i p s) (run-within ps (suc i) (next s p)) in
    (omega (arith, w.0), w.1)

-- ---- the segments of a list have no more parts than the list

abbrev weight : List Segment → ℕ
weight [] = 0
weight (g ∷ gs) = suc (length g.later) + weight gs

heavy-step : (b c : Bool) (e : Event) (es : List Event) → weight (segments es) + length (up_to_begin es) ≤ parts es
    → weight (pick b (segment e (up_to_begin es) ∷ segments es) (segments es)) + length (pick b [] (pick c (e ∷ up_to_begin es) (up_to_begin es)))
    ≤ pick b 1 (pick c 1 0) + parts es
heavy-step true c e es h = omega arith
heavy-step false true e es h = omega arith
heavy-step false false e es h = omega arith

heavy : (es : List Event) → weight (segments es) + length (up_to_begin es) ≤ parts es
unfolding segments up_to_begin
heavy [] = omega arith
heavy (e ∷ es) = heavy-step (begins e) (continues e) e es (heavy es)

abbrev ShortSegment : Segment → Type 0
ShortSegment g = Short g.first × All Short g.later

short-pick : (b : Bool) (xs ys : List Event) → All Short xs → All Short ys → All Short (pick b xs ys)
short-pick true xs ys h g = h
short-pick false xs ys h g = g

short_up : (es : List Event) → All Short es → All Short (up_to_begin es)
unfolding up_to_begin
short_up [] h = tt
short_up (e ∷ es) h =
    let ih = short_up es h.1 in
    short-pick (begins e) [] _ tt (short-pick (continues e) (e ∷ up_to_begin es) (up_to_begin es) (h.0, ih) ih)

segments-pick : (b : Bool) (g : Segment) (gs : List Segment) → ShortSegment g → All ShortSegment gs → All ShortSegment (pick b (g ∷ gs) gs)
segments-pick true g gs h k = (h, k)
segments-pick false g gs h k = k

short-segments : (es : List Event) → All Short es → All ShortSegment (segments es)
unfolding segments
short-segments [] h = tt
short-segments (e ∷ es) h =
    segments-pick (begins e) (segment e (up_to_begin es)) (segments es) (h.0, short_up es h.1) (short-segments es h.1)

part_length : (ps : List (List ℕ)) (e : Event) → Short e → length (bytes_at ps e) ≤ 184
unfolding event_bytes
part_length ps e h = omega (arith, length-take e.length (drop e.place (get_or ps e.index [])))

parts-length : (ps : List (List ℕ)) (es : List Event) → All Short es → length (bytes_at_all ps es) ≤ 184 * length es
parts-length ps [] h = omega arith
parts-length ps (e ∷ es) h =
    omega (arith, length-append (bytes_at ps e) (bytes_at_all ps es), part_length ps e h.0, parts-length ps es h.1)

-- ---- a header with a unit's fields is at least as long as the unit's

abbrev number_of_lem : Answer → ℕ
number_of_lem a = a.number

abbrev kind-of : Answer → ℕ
kind-of a = get_or a.values 0 0

module _ (c : List ℕ) (h : Accepted c) where
  -- a field that is read has its flag
  flag-on : (i : ℕ) (a : Answer) → (flagged i c a).number ≡ 0 → bit c i ≡ 1
  unfolding flagged
  flag-on i a e = eqb-true (bit c i) 1 (go (flag c i) (ap number_of_lem (sym (h.is _)) ∙ e))
    where
      go : (b : Bool) → (pick (not b) (answer 9 []) a).number ≡ 0 → b ≡ true
      go true z = refl
      go false z = absurd (omega arith)

  field-takes : (i : ℕ) (a : Answer) (f : Option ℕ) → flagged i c a ≡ written_field f → field_flag f ≤ bit c i
  field-takes i a None e = omega arith
  field-takes i a (Some v) e = omega (arith, flag-on i a (ap number_of_lem e))

  escr-takes : (a : Answer) (f : Option (ℕ × ℕ)) → flagged 10 c a ≡ written_escr f → field_flag f ≤ bit c 10
  escr-takes a None e = omega arith
  escr-takes a (Some b) e = omega (arith, flag-on 10 a (ap number_of_lem e))

  -- PTS_DTS_flags by the kind that is read
  times-by : (p d : Bool) (v w : List ℕ) (k : ℕ)
      → let a = pick p (pick d (answer 0 (2 ∷ v)) (answer 0 (1 ∷ w))) (pick d (answer 10 []) (answer 9 [])) in
      a.number ≡ 0 → kind-of a ≡ k → (p ≡ true) × (k ≤ pick d 2 1)
  times-by true true v w k e f = (refl, omega arith)
  times-by true false v w k e f = (refl, omega arith)
  times-by false true v w k e f = absurd (omega arith)
  times-by false false v w k e f = absurd (omega arith)

  pick-bit : (n : ℕ) → pick (eqb n 1) 2 1 ≤ 1 + n
  pick-bit n = go (eqb n 1) refl
    where
      go : (b : Bool) → eqb n 1 ≡ b → pick b 2 1 ≤ 1 + n
      go true e = omega (arith, eqb-true n 1 e)
      go false e = omega arith

  times-takes : (t : Times) → read_pts_dts c ≡ written_times t → times_bytes t ≤ times_size c
  unfolding read_pts_dts times_size
  times-takes Untimed e = omega arith
  times-takes (Pts p) e =
      let f = sym (h.is _) ∙ e in
      let g = times-by (flag c 8) (flag c 9) _ _ 1 (ap number_of_lem f) (ap kind-of f) in
      rw g.0 (omega arith)
  times-takes (Both p d) e =
      let f = sym (h.is _) ∙ e in
      let g = times-by (flag c 8) (flag c 9) _ _ 2 (ap number_of_lem f) (ap kind-of f) in
      rw g.0 (omega (arith, g.1, pick-bit (bit c 9)))

module _ (u : Unit) (xs : List ℕ) (h : HasFields u xs) where
  abbrev c : List ℕ
  c = contents xs

  taken : Accepted c
  taken = accepted c (sym h.accepted)

  fields-room : 3 + data_of u ≤ fields_end c
  unfolding data_of fields_end crc_at copy_info_at trick_at es_rate_at escr_at
  fields-room =
      omega (
        arith,
        times-takes c taken u.times h.times,
        escr-takes c taken _ u.escr h.escr,
        field-takes c taken 11 _ u.rate h.rate,
        field-takes c taken 12 _ u.trick h.trick,
        field-takes c taken 13 _ u.copy h.copy,
        field-takes c taken 14 _ u.crc h.crc,
      )

  -- the first packet's part has the header's nine bytes, its data bytes and what it carries of the payload
  header-room : parsed_id u.id ≡ true → 9 + data_of u + length (payload_bytes xs) ≤ length xs
  unfolding payload_bytes header_payload part_of
  header-room p =
      let q : parsed_id (id_of xs) ≡ true = ap parsed_id h.id ∙ p in
      let d = headed-done xs (answer 0 []) (ap number_of_lem h.head) in
      let own = length-take (length c - payload_at c) (drop (6 + payload_at c) xs) in
      simp (d.is, q, taken.is) (omega (arith, d.long, fields-room, taken.fields, taken.header, length-drop 6 xs, own))

-- ---- together

pub least-segment : (ps : List (List ℕ)) (u : Unit) (payload : List ℕ) (g : Segment) → parsed_id u.id ≡ true → ShortSegment g
    → Gives ps u payload g → count_of u (length payload) ≤ suc (length g.later)
unfolding count_of
least-segment ps u payload g p s h =
    let xs = bytes_at ps g.first in
    omega (
      arith,
      header-room u xs h.header p,
      part_length ps g.first s.0,
      parts-length ps g.later s.1,
      length-append (payload_bytes xs) (bytes_at_all ps g.later),
      ap length h.payload-joined,
    )

-- one segment, whatever it is, has no more parts than there are packets
pub segment-within : (i : ℕ) (s : State) (ps : List (List ℕ)) (g : Segment) → segments (run i s ps) ≡ g ∷ []
    → (suc (length g.later) ≤ length ps) × ShortSegment g
segment-within i s ps g e =
    let w = run-within ps i s in
    let k : weight (segments (run i s ps)) ≡ suc (length g.later) + 0 = ap weight e in
    let a : All ShortSegment (g ∷ []) = rw e at (short-segments (run i s ps) w.1) in
    (omega (arith, w.0, heavy (run i s ps), k), a.0)
