-- The crate's theorems that belong to no one function.
-- Assumes nothing.
use mathlib.Core.Path.{◌≡◌, refl, sym, ap, ◌∙◌}
use mathlib.Core.Bool.{Bool, true, false, ◌||◌}
use mathlib.Core.List.{List, []}
use Prim.Native.Nat.{ℕ, ◌+◌, ◌≤◌, ◌<◌}
use native.Mathlib.Omega.{arith}
use lib.Dec.{eqb}
use lib.ListN.{length, get_or, take, drop, length-drop}
use lib.Seq.{length-take-le}
use borrow.Author.Tests.{ltb-false, eqb-true}
use Rattle.std.specs.Prelude.{Result, Ok, Err}
use Rattle.bits.specs.Answer.{answer, pick, part_at, placed_at, part_of}
use Rattle.bits.specs.Refused.{refused, given, no_values}
use Rattle.bits.specs.declared.refusal.Refusal.{Refusal}
use Rattle.bits.proofs.Bools.{neither-holds}
use Rattle.bits.proofs.Checks.{first_of-off}
use Rattle.bits.proofs.Parts.{part_in, length-placed, placed_before, placed-after}
use Rattle.bits.proofs.Refusals.{back_refusal, back_refusal-refused, given_one}
use Rattle.packet.specs.Packet.{not_packet}
use Rattle.pes_header.specs.Payload.{header_payload, payload_bytes}
use Rattle.pes_header.proofs.Theorems.{payload-within}
use Rattle.event_log.specs.declared.Event.{Event}
use Rattle.gather.specs.declared.Gathering.{Gathering}
use Rattle.gather.specs.declared.Gathered.{Gathered}
use Rattle.gather.specs.Belongs.{own_place, own_bytes}
use Rattle.gather.specs.Gather.{emptied, kept, added, not_gathered, gather_number, GatherOutcome}
use Rattle.gather.specs.Gather.{store_number, given_gathered, gather_of, store_of, held_bytes}
use Rattle.bits.proofs.Refusals.{refused_above}

-- ---- one answer only: any two answers that meet a function's promise are equal

-- a verdict is known by its number where that is neither 12 nor 13: no other is told with values
module _ (n : ℕ) (h : eqb n 12 ≡ false) (k : eqb n 13 ≡ false) where
  refusal-known : (q r : Refusal) → (refused q).number ≡ n → (refused r).number ≡ n → q ≡ r
  unfolding back_refusal
  refusal-known q r e f =
      let m : back_refusal (refused q) ≡ back_refusal (refused r) = simp (e, f, h, k) in
      sym (back_refusal-refused q) ∙ (m ∙ back_refusal-refused r)

  verdict-known : (v w : Result Unit Refusal) → store_number v ≡ n → store_number w ≡ n → v ≡ w
  verdict-known (Ok x) (Ok y) e f = refl
  verdict-known (Ok x) (Err r) e f = absurd (omega (arith, refused_above r))
  verdict-known (Err q) (Ok y) e f = absurd (omega (arith, refused_above q))
  verdict-known (Err q) (Err r) e f = ap Err (refusal-known q r e f)

-- a call is answered by neither
plain : ℕ → Bool
plain n = eqb n 12 || eqb n 13

number-plain : (g : Gathering) (p : List ℕ) (e : Event) (s : List ℕ) → plain (gather_number g p e s) ≡ false
unfolding plain gather_number not_gathered not_packet
number-plain g p e s = grind arith

-- a call: verdict and state, and the store's bytes after it
pub one-gathered : (g : Gathering) (p : List ℕ) (e : Event) (s : List ℕ) (a b : Gathered) (x y : List ℕ)
    → (given_gathered a ≡ gather_of g p e s) × (x ≡ store_of g p e s) → (given_gathered b ≡ gather_of g p e s) × (y ≡ store_of g p e s) → (a ≡ b) × (x ≡ y)
unfolding plain gather_of
one-gathered g p e s a b x y h k =
    let n = gather_number g p e s in
    let d = neither-holds (eqb n 12) (eqb n 13) (number-plain g p e s) in
    let v : a.verdict ≡ b.verdict
    = verdict-known n d.0 d.1 a.verdict b.verdict (ap (λ (o : GatherOutcome). o.number) h.0) (ap (λ (o : GatherOutcome). o.number) k.0) in
    let t : a.gathering ≡ b.gathering = ap (λ (o : GatherOutcome). o.gathering) (h.0 ∙ sym k.0) in
    (λ i. record { verdict = v i; gathering = t i }, h.1 ∙ sym k.1)

pub one-held : (n : ℕ) (a b : Result Unit Refusal) → given no_values a ≡ answer n [] → given no_values b ≡ answer n [] → a ≡ b
one-held n = given_one no_values (λ (vs : List ℕ). tt) (λ (x : Unit). refl) (answer n [])

-- the bytes so far are determined as a list; their address is not, where a part is empty or both slices hold the same bytes
pub one-bytes : (g : Gathering) (p s a b : List ℕ) → a ≡ held_bytes g p s → b ≡ held_bytes g p s → a ≡ b
one-bytes g p s a b h k = h ∙ sym k

pub one-new : (a b : Gathering) → a ≡ emptied → b ≡ emptied → a ≡ b
one-new a b h k = h ∙ sym k

-- ---- in the store only added bytes change, and its length never does

module _ (g : Gathering) (p : List ℕ) (e : Event) (s : List ℕ) where
  -- a call that is answered by 0 has room for what it adds
  room-there : gather_number g p e s ≡ 0 → kept g e + length (added g p e) ≤ length s
  unfolding gather_number not_gathered not_packet
  room-there z =
      let h = first_of-off (not_gathered g p e s) (omega arith) z in
      ltb-false (length s) (kept g e + length (added g p e)) h.1.1.1.1.0

  pub only-added : (length (store_of g p e s) ≡ length s)
      × ((i : ℕ) → i < kept g e → get_or (store_of g p e s) i 0 ≡ get_or s i 0)
      × ((i : ℕ) → kept g e + length (added g p e) ≤ i → get_or (store_of g p e s) i 0 ≡ get_or s i 0)
  unfolding store_of
  only-added = go (eqb (gather_number g p e s) 0) refl
    where
      x : List ℕ
      x = placed_at s (kept g e) (added g p e)

      go : (t : Bool) → eqb (gather_number g p e s) 0 ≡ t
          → (length (pick t x s) ≡ length s)
          × ((i : ℕ) → i < kept g e → get_or (pick t x s) i 0 ≡ get_or s i 0)
          × ((i : ℕ) → kept g e + length (added g p e) ≤ i → get_or (pick t x s) i 0 ≡ get_or s i 0)
      go true f =
          let h = room-there (eqb-true (gather_number g p e s) 0 f) in
          let k = kept g e in
          let a = added g p e in
          (length-placed s k a, placed_before s k a h, placed-after s k a h)
      go false f = (refl, λ i h. refl, λ i h. refl)

-- ---- what belongs to a unit, and that it lies within the bytes of its begin

module _ (xs : List ℕ) where
  -- they are the payload of the header that the begin names
  pub own_payload : own_bytes xs ≡ payload_bytes xs
  unfolding own_bytes
  own_payload = refl

  -- by place and length
  pub own-part : (own_place xs + length (own_bytes xs) ≤ length xs) × (part_at (own_place xs) (length (own_bytes xs)) xs ≡ own_bytes xs)
  unfolding own_place own_bytes payload_bytes part_of
  own-part = go (eqb (header_payload xs).number 0) refl
    where
      p : ℕ
      p = get_or (header_payload xs).values 0 0

      n : ℕ
      n = get_or (header_payload xs).values 1 0

      go : (t : Bool) → eqb (header_payload xs).number 0 ≡ t
          → (pick t p 0 + length (pick t (take n (drop p xs)) []) ≤ length xs)
          × (part_at (pick t p 0) (length (pick t (take n (drop p xs)) [])) xs ≡ pick t (take n (drop p xs)) [])
      go true e =
          let w : p + n ≤ length xs = payload-within xs (eqb-true (header_payload xs).number 0 e) in
          let l : length (take n (drop p xs)) ≡ n = length-take-le n (drop p xs) (simp length-drop (omega arith)) in
          (omega arith, rw l (sym (part_in p n xs w)))
      go false e = (omega arith, sym (part_in 0 0 xs (omega arith)))
