-- What is read from a packet that the writer makes: its flags, its PID, its counter, its payload.
-- Assumes nothing.
use mathlib.Core.Path.{◌≡◌, refl, sym, ap, ◌∙◌}
use mathlib.Core.Bool.{Bool, true, false}
use mathlib.Core.List.{List, [], ◌∷◌, ◌++◌, append_assoc}
use Prim.Native.Nat.{ℕ, ◌+◌, ◌-◌, ◌*◌, ◌%◌, ◌^◌, ◌≤◌, ◌<◌}
use native.Mathlib.Omega.{arith}
use lib.ListN.{length, take, drop, get_or, length-append}
use lib.Seq.{drop_at, take_all}
use lib.Dec.{eqb, ltb}
use borrow.Author.Tests.{lt-ltb, le-leb, eq-eqb, ltb-true, ltb-false}
use Rattle.bits.specs.Answer.{answer, pick, truth}
use Rattle.bits.specs.Field.{bit, field}
use Rattle.bits.specs.Pack.{Part, joined, bytes_of}
use Rattle.bits.proofs.Bools.{truth-mod}
use Rattle.bits.proofs.Fields.{field-one, field-right, byte-field, truth-bit}
use Rattle.bits.proofs.Packs.{length-bytes_of, RowIn, RowFits, row-front}
use Rattle.packet.specs.Packet.{pid_field, counter_field, adaptation_flag, payload_flag, adaptation_length, adaptation_there, read_adaptation}
use Rattle.packet.specs.Packet.{start_flag, content_at, payload_there}
use Rattle.packet.proofs.Laws.{packet-is}
use Rattle.writer.specs.Packets.{packet_table, stuffing, carrier}
use Rattle.writer.proofs.Laws.{stuffing-length}
use Rattle.machine.specs.Run.{IsPacket}

stuffing-first : (r : ℕ) (xs : List ℕ) → r < 184 → get_or (stuffing r ++ xs) 0 0 ≡ 183 - r
unfolding stuffing
stuffing-first r xs h = simp (lt-ltb r 184 h)

module _ (start id c : ℕ) (xs : List ℕ) where
  abbrev table : List Part
  table = packet_table start id (truth (ltb (length xs) 184)) c

  abbrev made : List ℕ
  made = carrier start id c xs

  four-length : length (bytes_of 4 (joined table)) ≡ 4
  four-length = length-bytes_of 4 (joined table)

  -- row i of the packet's table, read out of the packet
  row_back : (i : ℕ) → i < 9 → RowFits table i 32 → RowIn table i made
  unfolding carrier
  row_back i h k = row-front table 4 i (stuffing (length xs) ++ xs) refl h k

  sync_byte : get_or made 0 0 ≡ 0x47
  unfolding carrier bytes_of
  sync_byte = let b : get_or made 0 0 < 256 = omega arith in sym (byte-field made 0 b) ∙ row_back 0 (omega arith) (omega arith)

  -- no error, no transport priority, no scrambling
  pub rest-clear : (bit made 8 ≡ 0) × (bit made 10 ≡ 0) × (field made 24 2 ≡ 0)
  rest-clear =
      let e = row_back 1 (omega arith) (omega arith) in
      let f = row_back 3 (omega arith) (omega arith) in
      (sym (field-one made 8) ∙ e, sym (field-one made 10) ∙ f, row_back 5 (omega arith) (omega arith))

  pub start_back : (b : Bool) → start ≡ truth b → start_flag made ≡ b
  unfolding start_flag
  start_back b h =
      let e = row_back 2 (omega arith) (omega arith) in
      ap (λ (n : ℕ). eqb n 1) (sym (field-one made 9) ∙ (e ∙ (ap (λ (n : ℕ). n % 2) h ∙ truth-mod b))) ∙ truth-bit b

  pub pid-back : id < 2 ^ 13 → pid_field made ≡ id
  unfolding pid_field
  pid-back h = omega (arith, row_back 4 (omega arith) (omega arith))

  pub flag-back : payload_flag made ≡ true
  unfolding payload_flag
  flag-back = eq-eqb (bit made 27) 1 (sym (field-one made 27) ∙ row_back 7 (omega arith) (omega arith))

  pub counter-back : c ≤ 15 → counter_field made ≡ c
  unfolding counter_field
  counter-back h = omega (arith, row_back 8 (omega arith) (omega arith))

  adaptation_back : adaptation_flag made ≡ ltb (length xs) 184
  unfolding adaptation_flag
  adaptation_back =
      let b = ltb (length xs) 184 in
      ap (λ (n : ℕ). eqb n 1) (sym (field-one made 26) ∙ (row_back 6 (omega arith) (omega arith) ∙ truth-mod b)) ∙ truth-bit b

  module _ (high : length xs ≤ 184) where
    pub is-packet : IsPacket made
    unfolding carrier
    is-packet =
        let s = stuffing (length xs) in
        let n = length-append (bytes_of 4 (joined table)) (s ++ xs) in
        (omega (arith, four-length, stuffing-length (length xs) high, length-append s xs, n), sync_byte)

    length-byte : length xs < 184 → adaptation_length made ≡ 183 - length xs
    unfolding carrier adaptation_length
    length-byte h =
        let rest = stuffing (length xs) ++ xs in
        let e : 32 ≡ 8 * length (bytes_of 4 (joined table)) + 0 = omega (arith, four-length) in
        ap (λ (o : ℕ). field made o 8) e ∙ (field-right (bytes_of 4 (joined table)) rest 0 8
        ∙ (byte-field rest 0 (omega (arith, stuffing-first (length xs) xs h)) ∙ stuffing-first (length xs) xs h))

    pub content_back : content_at made ≡ 188 - length xs
    unfolding content_at
    content_back = go (ltb (length xs) 184) refl
      where
        go : (b : Bool) → ltb (length xs) 184 ≡ b → pick (adaptation_flag made) (5 + adaptation_length made) 4 ≡ 188 - length xs
        go true e = rw (adaptation_back, e) (omega (arith, length-byte (ltb-true (length xs) 184 e), ltb-true (length xs) 184 e))
        go false e = rw (adaptation_back, e) (omega (arith, ltb-false (length xs) 184 e))

    pub payload-back : 1 ≤ length xs → payload_there made ≡ true
    unfolding payload_there
    payload-back low = rw flag-back (lt-ltb (content_at made) 188 (omega (arith, content_back)))

    pub rest_back : drop (content_at made) made ≡ xs
    unfolding carrier
    rest_back =
        let four = bytes_of 4 (joined table) in
        let s = stuffing (length xs) in
        let n : length (four ++ s) ≡ content_at made
        = omega (arith, four-length, stuffing-length (length xs) high, length-append four s, content_back) in
        ap (drop (content_at made)) (sym (append_assoc four s xs)) ∙ drop_at (four ++ s) xs (content_at made) n

    -- with n bytes of payload the adaptation field has a length byte, and bytes where n is below 183
    pub field_back_lem : 1 ≤ length xs → read_adaptation made ≡ pick (ltb (length xs) 183) (answer 0 (5 ∷ (183 - length xs) ∷ [])) (answer 9 [])
    unfolding adaptation_there
    field_back_lem low = packet-is made is-packet.0 is-packet.1 _ ∙ go (ltb (length xs) 184) (ltb (length xs) 183) refl refl
      where
        go : (a b : Bool) → ltb (length xs) 184 ≡ a → ltb (length xs) 183 ≡ b
            → pick (adaptation_there made) (answer 0 (5 ∷ adaptation_length made ∷ [])) (answer 9 [])
            ≡ pick (ltb (length xs) 183) (answer 0 (5 ∷ (183 - length xs) ∷ [])) (answer 9 [])
        go true true e f =
            let l = length-byte (ltb-true (length xs) 184 e) in
            let h = ltb-true (length xs) 183 f in
            simp (adaptation_back, e, f, flag-back, l, le-leb 1 (183 - length xs) (omega arith), le-leb (183 - length xs) 182 (omega arith))
        go true false e f =
            let l : adaptation_length made ≡ 0 = omega (arith, length-byte (ltb-true (length xs) 184 e), ltb-false (length xs) 183 f) in
            simp (adaptation_back, e, f, flag-back, l)
        go false true e f = absurd (omega (arith, ltb-false (length xs) 184 e, ltb-true (length xs) 183 f))
        go false false e f = simp (adaptation_back, e, f)

    -- by place and length, as an event has them
    pub part-back : take (length xs) (drop (188 - length xs) made) ≡ xs
    part-back = rw (← content_back, rest_back) (take_all (length xs) xs (omega arith))
