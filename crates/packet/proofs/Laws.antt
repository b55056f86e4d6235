-- What the definitions of `specs/` come to on the bytes, in each case. The functions' proofs find these by `packet_laws`,
-- and callers' cite them. A premise is a test of the code, or a promise of what it calls.
-- Assumes nothing.
use mathlib.Core.Path.{◌≡◌, refl, sym, ap, ◌∙◌}
use mathlib.Core.Bool.{Bool, true, false}
use mathlib.Core.List.{List, [], ◌∷◌, ◌++◌}
use Prim.Native.Nat.{ℕ, ◌+◌, ◌-◌, ◌/◌, ◌%◌, ◌≤◌, ◌<◌}
use native.Mathlib.Omega.{arith}
use lib.ListN.{length, get_or}
use lib.Dec.{eqb, leb, ltb}
use borrow.Author.Tests.{lt-ltb, le-ltb, le-leb, lt-leb, eq-eqb, ne_eqb, ltb-true, leb-true, eqb-true}
use Rattle.std.specs.Prelude.{Result}
use Rattle.bits.specs.Answer.{Answer, answer, pick, truth, Check, unless, first_of, other, Within, part_at, part_of}
use Rattle.bits.specs.Field.{bit, flag}
use Rattle.bits.specs.Refused.{refused, given, no_values}
use Rattle.bits.specs.declared.refusal.Refusal.{Refusal}
use Rattle.bits.proofs.Bools.{false_true, both}
use Rattle.bits.proofs.Checks.{Off, none-holds, passed, refused_by, unless-within, first_of-first, first_of-past, ne-other, eq-other, other-false}
use Rattle.bits.proofs.Fields.{in_byte, field-split, field_below, byte-field, Known}
use Rattle.bits.proofs.Parts.{part_none, part-done}
use Rattle.bits.proofs.Refusals.{refused_above}
use Rattle.control.specs.Control.{has_adaptation_field, has_payload, counter_of, pid_of}
use Rattle.packet.specs.Packet.{not_packet, pid_field, counter_field, adaptation_flag, payload_flag, adaptation_length}
use Rattle.packet.specs.Packet.{error_bit, start_bit, priority_bit, start_flag, start_of, after_field, adaptation_there, content_at, payload_there}
use Rattle.packet.proofs.Theorems.{control-payload, control-adaptation}
use Rattle.packet.specs.Packet.{tried, read_flag, read_pid, read_byte_four, read_counter, read_adaptation, read_payload}

-- ---- a slice that is no packet

module _ (xs : List ℕ) (a : Answer) where
  pub wrong-length : (length xs ≡ 188 → ⊥) → answer 1 [] ≡ unless (not_packet xs) a
  unfolding not_packet
  wrong-length h = simp (ne_eqb (length xs) 188 h)

  pub no-sync : length xs ≡ 188 → (get_or xs 0 0 ≡ 0x47 → ⊥) → answer 2 [] ≡ unless (not_packet xs) a
  unfolding not_packet
  no-sync l h = simp (eq-eqb (length xs) 188 l, ne_eqb (get_or xs 0 0) 0x47 h)

pub packet_off : (xs : List ℕ) → length xs ≡ 188 → get_or xs 0 0 ≡ 0x47 → Off (not_packet xs)
unfolding not_packet
packet_off xs l s = (eq-other (length xs) 188 l, (eq-other (get_or xs 0 0) 0x47 s, tt))

-- .. before other refusals
module _ (xs : List ℕ) (cs : List Check) where
  pub first-length : (length xs ≡ 188 → ⊥) → 1 ≡ first_of (not_packet xs ++ cs)
  unfolding not_packet
  first-length h = sym (first_of-first (not_packet xs ++ cs) 0 tt (ne-other (length xs) 188 h))

  module _ (l : length xs ≡ 188) where
    pub first-sync : (get_or xs 0 0 ≡ 0x47 → ⊥) → 2 ≡ first_of (not_packet xs ++ cs)
    unfolding not_packet
    first-sync h = sym (first_of-first (not_packet xs ++ cs) 1 (eq-other (length xs) 188 l, tt) (ne-other (get_or xs 0 0) 0x47 h))

    pub first-after : get_or xs 0 0 ≡ 0x47 → first_of (not_packet xs ++ cs) ≡ first_of cs
    first-after s = first_of-past (not_packet xs) cs (packet_off xs l s)

  -- .. by the answer of `try_new`
  pub tried-first : (t : Result Unit Refusal) → given no_values t ≡ tried xs
      → pick (eqb (given no_values t).number 0) (first_of cs) (given no_values t).number ≡ first_of (not_packet xs ++ cs)
  unfolding not_packet
  tried-first t e = go (other (length xs) 188) (other (get_or xs 0 0) 0x47) _ (ap (λ (a : Answer). a.number) e)
    where
      go : (a b : Bool) (n : ℕ) → n ≡ (pick a (answer 1 []) (pick b (answer 2 []) (answer 0 []))).number
          → pick (eqb n 0) (first_of cs) n ≡ pick a 1 (pick b 2 (first_of cs))
      go true b n h = rw h
      go false true n h = rw h
      go false false n h = rw h

-- ---- what is read, by what `try_new` or another reader answered: a refusal is every reader's

pub refused_too : (xs : List ℕ) (r : Refusal) (b : Answer) → b.number ≡ 0 → refused r ≡ unless (not_packet xs) b
    → (a : Answer) → refused r ≡ unless (not_packet xs) a
refused_too xs r b z e = refused_by (not_packet xs) b z (refused r) (refused_above r) e

-- what is known where a reader accepts
pub record Packet (xs : List ℕ) : Type 0 where
  pub long : length xs ≡ 188
  pub is : (a : Answer) → unless (not_packet xs) a ≡ a

packet-done : (xs : List ℕ) (a : Answer) → (unless (not_packet xs) a).number ≡ 0 → Packet xs
unfolding not_packet
packet-done xs a z =
    let o = passed (not_packet xs) a (omega arith) z in
    record { long = other-false (length xs) 188 o.0; is = none-holds (not_packet xs) o }

-- where `try_new` does
module _ (xs : List ℕ) (e : answer 0 [] ≡ tried xs) where
  accepted : Packet xs
  accepted = packet-done xs (answer 0 []) (ap (λ (a : Answer). a.number) (sym e))

  pub long-tried : length xs ≡ 188
  long-tried = accepted.long

-- where `adaptation_control` does
module _ (xs : List ℕ) (k : ℕ) (e : answer 0 (k ∷ []) ≡ read_byte_four xs) where
  named : Packet xs
  named = packet-done xs (answer 0 (get_or xs 3 0 ∷ [])) (ap (λ (a : Answer). a.number) (sym e))

  pub long-four : length xs ≡ 188
  long-four = named.long

  fourth : k ≡ get_or xs 3 0
  fourth = ap (λ (a : Answer). get_or a.values 0 0) (e ∙ named.is _)

-- ---- the header's fields, from the bytes

module _ (xs : List ℕ) where
  pid-is : pid_of (get_or xs 1 0) (get_or xs 2 0) ≡ pid_field xs
  unfolding pid_of pid_field
  pid-is =
      let ys : List ℕ = get_or xs 1 0 ∷ get_or xs 2 0 ∷ [] in
      omega (
        arith,
        field-split ys 3 5 8,
        in_byte ys 0 3 5 0 refl,
        in_byte ys 1 0 8 0 refl,
        field-split xs 11 5 8,
        in_byte xs 1 3 5 0 refl,
        in_byte xs 2 0 8 0 refl,
      )

  -- payload_unit_start_indicator, of the second byte
  pub start_is : start_of (get_or xs 1 0) ≡ start_flag xs
  unfolding start_of start_flag bit
  start_is = refl

  pub counter-is : counter_of (get_or xs 3 0) ≡ counter_field xs
  unfolding counter_of counter_field
  counter-is = omega (arith, in_byte (get_or xs 3 0 ∷ []) 0 4 4 0 refl, in_byte xs 3 4 4 0 refl)

  pub counter_below : counter_field xs ≤ 15
  unfolding counter_field
  counter_below = omega (arith, field_below xs 28 4)

  -- the bits of the fourth byte, by what the crate control reads there
  module _ (k : ℕ) (b : Bool) (e : k ≡ get_or xs 3 0) where
    pub adaptation-is : b ≡ has_adaptation_field k → b ≡ adaptation_flag xs
    adaptation-is f = f ∙ (ap has_adaptation_field e ∙ control-adaptation xs)

    pub payload-flag-is : b ≡ has_payload k → b ≡ payload_flag xs
    payload-flag-is f = f ∙ (ap has_payload e ∙ control-payload xs)

  length-is : Known xs → adaptation_length xs ≡ get_or xs 4 0
  unfolding adaptation_length
  length-is k = byte-field xs 4 (k 4).fits

  pub content_plain : adaptation_flag xs ≡ false → content_at xs ≡ 4
  unfolding content_at
  content_plain h = simp h

  pub content-after : Known xs → adaptation_flag xs ≡ true → content_at xs ≡ after_field (get_or xs 4 0)
  unfolding content_at
  content-after k h = simp (h, length-is k)

  -- a payload begins within the packet
  pub payload_below : payload_there xs ≡ true → content_at xs < 188
  unfolding payload_there
  payload_below h = ltb-true (content_at xs) 188 (both (payload_flag xs) (ltb (content_at xs) 188) h).1

-- ---- what is read of a byte

pub start-bit : (b : ℕ) → eqb (b / 64 % 2) 1 ≡ start_of b
unfolding start_of bit
start-bit b = refl

-- the flags of the second byte, PID and counter
module _ (xs : List ℕ) where
  pub error-bit : eqb (get_or xs 1 0 / 128 % 2) 1 ≡ flag xs error_bit
  unfolding bit
  error-bit = refl

  pub priority-bit : eqb (get_or xs 1 0 / 32 % 2) 1 ≡ flag xs priority_bit
  unfolding bit
  priority-bit = refl

  pub start-byte : (b : Bool) → b ≡ start_of (get_or xs 1 0) → b ≡ start_flag xs
  start-byte b f = f ∙ start_is xs

  pub pid-bytes : (n : ℕ) → n ≡ pid_of (get_or xs 1 0) (get_or xs 2 0) → n ≡ pid_field xs
  pid-bytes n f = f ∙ pid-is xs

  pub counter-byte : (n : ℕ) → n ≡ counter_of (get_or xs 3 0) → n ≡ counter_field xs
  counter-byte n f = f ∙ counter-is xs

-- ---- what is read of a packet

pub packet-is : (xs : List ℕ) → length xs ≡ 188 → get_or xs 0 0 ≡ 0x47 → (a : Answer) → unless (not_packet xs) a ≡ a
packet-is xs l s a = none-holds (not_packet xs) (packet_off xs l s) a

pub tried-done : (xs : List ℕ) → length xs ≡ 188 → get_or xs 0 0 ≡ 0x47 → answer 0 [] ≡ tried xs
tried-done xs l s = sym (packet-is xs l s _)

module _ (xs : List ℕ) (e : answer 0 [] ≡ tried xs) where
  value-done : (n m : ℕ) → n ≡ m → answer 0 (n ∷ []) ≡ unless (not_packet xs) (answer 0 (m ∷ []))
  value-done n m f = ap (λ (v : ℕ). answer 0 (v ∷ [])) f ∙ sym ((accepted xs e).is _)

  pub flag-done : (i : ℕ) (b : Bool) → b ≡ flag xs i → answer 0 (truth b ∷ []) ≡ read_flag i xs
  flag-done i b f = value-done _ _ (ap truth f)

  pub start-done : (b : Bool) → b ≡ start_flag xs → answer 0 (truth b ∷ []) ≡ read_flag start_bit xs
  unfolding start_flag
  start-done b f = value-done _ _ (ap truth f)

  pub pid-done : (n : ℕ) → n ≡ pid_field xs → answer 0 (n ∷ []) ≡ read_pid xs
  pid-done n f = value-done n _ f

  pub four-done : (n : ℕ) → n ≡ get_or xs 3 0 → answer 0 (n ∷ []) ≡ read_byte_four xs
  four-done n f = value-done n _ f

  pub counter-done : (n : ℕ) → n ≡ counter_field xs → answer 0 (n ∷ []) ≡ read_counter xs
  counter-done n f = value-done n _ f

module _ (xs : List ℕ) (k : ℕ) (e : answer 0 (k ∷ []) ≡ read_byte_four xs) (a p : Bool) where
  module _ (f : a ≡ has_adaptation_field k) where
    there-is : a ≡ adaptation_flag xs
    there-is = adaptation-is xs k a (fourth xs k e) f

    pub field_off : a ≡ false → answer 9 [] ≡ read_adaptation xs
    unfolding adaptation_there
    field_off h = sym ((named xs k e).is _ ∙ simp (sym there-is ∙ h))

    -- the lengths that an adaptation field may have
    module _ (h : a ≡ true) (g : p ≡ has_payload k) (b : Known xs) where
      abbrev fits : Bool
      fits = pick p (pick (leb 1 (get_or xs 4 0)) (leb (get_or xs 4 0) 182) false) (eqb (get_or xs 4 0) 183)

      field-is : (t : Bool) → fits ≡ t → pick t (answer 0 (5 ∷ get_or xs 4 0 ∷ [])) (answer 9 []) ≡ read_adaptation xs
      unfolding adaptation_there
      field-is t q =
          sym ((named xs k e).is _ ∙ simp (sym there-is ∙ h, sym (payload-flag-is xs k p (fourth xs k e) g), length-is xs b, q))

      pub field_beside : p ≡ true → (1 ≤ get_or xs 4 0) × (get_or xs 4 0 ≤ 182) → answer 0 (5 ∷ get_or xs 4 0 ∷ []) ≡ read_adaptation xs
      field_beside q l = field-is true (simp (q, le-leb 1 (get_or xs 4 0) l.0, le-leb (get_or xs 4 0) 182 l.1))

      pub field_alone : p ≡ false → get_or xs 4 0 ≡ 183 → answer 0 (5 ∷ get_or xs 4 0 ∷ []) ≡ read_adaptation xs
      field_alone q l = field-is true (simp (q, eq-eqb (get_or xs 4 0) 183 l))

      pub field_empty : p ≡ true → get_or xs 4 0 < 1 → answer 9 [] ≡ read_adaptation xs
      field_empty q l = field-is false (simp (q, lt-leb 1 (get_or xs 4 0) l))

      pub field_long : p ≡ true → 182 < get_or xs 4 0 → answer 9 [] ≡ read_adaptation xs
      field_long q l = field-is false (simp (q, le-leb 1 (get_or xs 4 0) (omega arith), lt-leb (get_or xs 4 0) 182 l))

      pub field_other : p ≡ false → (get_or xs 4 0 ≡ 183 → ⊥) → answer 9 [] ≡ read_adaptation xs
      field_other q l = field-is false (simp (q, ne_eqb (get_or xs 4 0) 183 l))

  module _ (g : p ≡ has_payload k) where
    pub payload_off : p ≡ false → answer 9 [] ≡ read_payload xs
    unfolding payload_there
    payload_off h = sym ((named xs k e).is _ ∙ simp (sym (payload-flag-is xs k p (fourth xs k e) g) ∙ h))

    module _ (h : p ≡ true) (n : ℕ) (q : content_at xs ≡ n) where
      payload-is : (t : Bool) → ltb n 188 ≡ t → pick t (answer 0 (n ∷ (188 - n) ∷ [])) (answer 9 []) ≡ read_payload xs
      unfolding payload_there
      payload-is t r = sym ((named xs k e).is _ ∙ simp (sym (payload-flag-is xs k p (fourth xs k e) g) ∙ h, q, r))

      pub payload_past : 188 ≤ n → answer 9 [] ≡ read_payload xs
      payload_past r = payload-is false (le-ltb n 188 r)

      pub payload_in : n < 188 → answer 0 (n ∷ (188 - n) ∷ []) ≡ read_payload xs
      payload_in r = payload-is true (lt-ltb n 188 r)

  module _ (f : a ≡ has_adaptation_field k) where
    pub content_four : a ≡ false → content_at xs ≡ 4
    content_four h = content_plain xs (sym (there-is f) ∙ h)

    pub content_field : Known xs → a ≡ true → content_at xs ≡ after_field (get_or xs 4 0)
    content_field b h = content-after xs b (sym (there-is f) ∙ h)

-- ---- both parts lie within the packet

part-within : (xs : List ℕ) (p n : ℕ) (there : Bool) → (there ≡ true → p + n ≤ 188) → Within (unless (not_packet xs) (pick there (answer 0 (p ∷ n ∷ [])) (answer 9 []))) xs
unfolding not_packet
part-within xs p n there h = unless-within (not_packet xs) _ xs (omega arith) (λ o. go (other-false (length xs) 188 o.0) there h)
  where
    go : length xs ≡ 188 → (t : Bool) → (t ≡ true → p + n ≤ 188) → Within (pick t (answer 0 (p ∷ n ∷ [])) (answer 9 [])) xs
    go e true h z = let g : p + n ≤ 188 = h refl in omega arith
    go e false h z = absurd (omega arith)

field_fits : (n : ℕ) (a p s : Bool) → pick a (pick p (pick s (leb n 182) false) (eqb n 183)) false ≡ true → 5 + n ≤ 188
field_fits n true true true e = omega (arith, leb-true n 182 e)
field_fits n true true false e = false_true e
field_fits n true false s e = omega (arith, eqb-true n 183 e)
field_fits n false p s e = false_true e

adaptation-within : (xs : List ℕ) → Within (read_adaptation xs) xs
unfolding adaptation_there
adaptation-within xs =
    part-within xs 5 (adaptation_length xs) (adaptation_there xs)
    (field_fits (adaptation_length xs) (adaptation_flag xs) (payload_flag xs) (leb 1 (adaptation_length xs)))

payload-within : (xs : List ℕ) → Within (read_payload xs) xs
payload-within xs = part-within xs (content_at xs) (188 - content_at xs) (payload_there xs) (λ h. omega (arith, payload_below xs h))

-- the bytes of a part, by where it is said to lie
module _ (xs : List ℕ) where
  pub no_part : (r : Refusal) (a : Answer) → refused r ≡ a → [] ≡ part_of a xs
  no_part r a e = part_none (refused r) a xs (refused_above r) e

  module _ (p n : ℕ) where
    pub adaptation-part : answer 0 (p ∷ n ∷ []) ≡ read_adaptation xs → part_at p n xs ≡ part_of (read_adaptation xs) xs
    adaptation-part e = part-done _ xs p n e (adaptation-within xs)

    pub payload-part : answer 0 (p ∷ n ∷ []) ≡ read_payload xs → part_at p n xs ≡ part_of (read_payload xs) xs
    payload-part e = part-done _ xs p n e (payload-within xs)

-- of the readers of a packet that was made
pub ruleset reader_laws = (refused_too, tried-done, flag-done, start-done, pid-done, four-done, counter-done)

-- of what is read of its bytes
pub ruleset byte_laws = (wrong-length, no-sync, start-bit, error-bit, priority-bit, start-byte, pid-bytes, counter-byte)

pub ruleset part_laws = (long-four, field_off, field_beside, field_alone, field_empty, field_long, field_other, payload_off, payload_past, payload_in)

pub ruleset packet_laws = (reader_laws, byte_laws, part_laws, long-tried, content_four, content_field, adaptation-part, payload-part)
