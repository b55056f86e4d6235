-- What the definitions of `specs/` come to, in each case, by the promises that a need is handed. Crates above cite some of it.
-- Assumes nothing.
use mathlib.Core.Path.{◌≡◌, refl, sym, ap, ◌∙◌}
use mathlib.Core.Bool.{Bool, true, false}
use mathlib.Core.List.{List, [], ◌∷◌, ◌++◌, append_assoc, append-nil}
use Prim.Native.Nat.{ℕ, zero, suc, ◌+◌, ◌-◌, ◌*◌, ◌/◌, ◌%◌, ◌^◌, ◌≤◌, ◌<◌, min}
use native.Mathlib.Nat.{not-suc-le-zero}
use native.Mathlib.Omega.{arith}
use lib.Dec.{ltb}
use lib.ListN.{length, get_or, take, drop, set, replicate, length-append, length-drop, length-take, length-replicate, drop_of_length-le}
use lib.ListN.{take-append-drop, replicate-append-replicate}
use lib.Seq.{take_all, drop-drop, take-append-add, drop-append-add, take_at, drop_at, length-take-le}
use mir.Val.{bool_byte}
use borrow.Author.Rules.{rules}
use borrow.Author.Tests.{lt-ltb}
use borrow.Rule.Slice.PartMut.{put_mid}
use Rattle.std.specs.Prelude.{Option, None, Some, MatchOption, unwrap_or}
use Rattle.std.specs.Option.{IsSomeAnd}
use Rattle.std.specs.Simd.{first_chunks}
use Rattle.std.proofs.lemmas.Bool.Decides.{nat_tests}
use Rattle.std.proofs.lemmas.Grind.{common_steps}
use Rattle.std.proofs.lemmas.List.{take_min, drop_min}
use Rattle.bits.specs.Answer.{truth}
use Rattle.bits.specs.Pack.{joined, bytes_of, flat}
use Rattle.bits.proofs.Packs.{written, length-bytes_of}
use Rattle.bits.proofs.Parts.{part-rest}
use Rattle.timestamp.specs.Stamp.{stamp_bytes}
use Rattle.timestamp.proofs.Theorems.{stamp-length}
use Rattle.contents.specs.Layout.{escr_table, escr_bytes, rate_table, es_rate_bytes, trick_table, trick_bytes, copy_table, copy_info_bytes}
use Rattle.contents.specs.Layout.{crc_table, crc_bytes}
use Rattle.writer.specs.declared.Times.{Times}
use Rattle.writer.specs.declared.Times.TheVariants.{Untimed, Pts, Both}
use Rattle.writer.specs.declared.Unit.{Unit}
use Rattle.writer.specs.Unit.{field_flag, times_bytes, data_of, count_for, count_of}
use Rattle.writer.specs.Packets.{times_image, image, escr_image, fields_image, header_image, packet_table, stuffing, carrier, carried, packets_of}
use Rattle.writer.specs.Row.{route}

-- a truth value as a number, as the code and as the definitions have it
pub bool-bit : (b : Bool) → (truth b ≡ bool_byte b) × (bool_byte b ≤ 1)
bool-bit true = (refl, omega arith)
bool-bit false = (refl, omega arith)

-- ---- the fields one after another

-- the bytes of a field, by what `map` answers of it
pub mapped : {A : Type 0} (t : A → List ℕ) (o : Option A) (r : Option (List ℕ)) → MatchOption o (r ≡ None) (λ x. IsSomeAnd r (λ y. y ≡ t x))
    → unwrap_or r [] ≡ image t o
unfolding image
mapped t None r h = rw h refl
mapped t (Some x) None h = absurd h
mapped t (Some x) (Some y) h = h

-- their lengths

pub times-length : (t : Times) → length (times_image t) ≡ times_bytes t
unfolding times_image
times-length Untimed = refl
times-length (Pts p) = stamp-length 2 p
times-length (Both p d) = omega (arith, length-append (stamp_bytes 3 p) (stamp_bytes 1 d), stamp-length 3 p, stamp-length 1 d)

image-length : {A : Type 0} (k : ℕ) (t : A → List ℕ) → ((v : A) → length (t v) ≡ k) → (f : Option A) → length (image t f) ≡ k * field_flag f
unfolding image
image-length k t l None = omega arith
image-length k t l (Some v) = omega (arith, l v)

pub escr-length : (e : Option (ℕ × ℕ)) → length (escr_image e) ≡ 6 * field_flag e
unfolding escr_image
escr-length = image-length 6 (λ v. escr_bytes v.0 v.1) (λ v. length-bytes_of 6 (joined (escr_table v.0 v.1)))

pub rate-length : (f : Option ℕ) → length (image es_rate_bytes f) ≡ 3 * field_flag f
rate-length = image-length 3 es_rate_bytes (λ v. length-bytes_of 3 (joined (rate_table v)))

pub trick-length : (f : Option ℕ) → length (image trick_bytes f) ≡ 1 * field_flag f
trick-length = image-length 1 trick_bytes (λ v. length-bytes_of 1 (joined (trick_table v)))

pub copy-length : (f : Option ℕ) → length (image copy_info_bytes f) ≡ 1 * field_flag f
copy-length = image-length 1 copy_info_bytes (λ v. length-bytes_of 1 (joined (copy_table v)))

pub crc-length : (f : Option ℕ) → length (image crc_bytes f) ≡ 2 * field_flag f
crc-length = image-length 2 crc_bytes (λ v. length-bytes_of 2 (joined (crc_table v)))

fields-length : (u : Unit) → length (fields_image u) ≡ data_of u
unfolding fields_image data_of
fields-length u = simp (length-append, times-length, escr-length, rate-length, trick-length, copy-length, crc-length) (omega arith)

pub header-length : (u : Unit) (n : ℕ) → length (header_image u n) ≡ 9 + data_of u
unfolding header_image
header-length u n = simp (length-append, length-bytes_of, fields-length)

pub ruleset header_laws = (stamp-length, length-append)

-- ---- a packet

-- the four bytes, as the code computes them
four_written : (b : Bool) (start id af c : ℕ) → start ≡ bool_byte b → id < 2 ^ 13 → af ≤ 1 → c ≤ 15
    → 71 ∷ (64 * start + id / 256 % 256) ∷ (id % 256) ∷ (af * 32 + 16 + c) ∷ [] ≡ bytes_of 4 (joined (packet_table (truth b) id af c))
four_written b start id af c a l d e =
    written _ (joined (packet_table (truth b) id af c)) (omega (arith, bool-bit)) (omega (arith, bool-bit))

-- the adaptation field and the payload are 184 bytes
pub stuffing-length : (r : ℕ) → r ≤ 184 → length (stuffing r) + r ≡ 184
unfolding stuffing
stuffing-length r h = grind (arith, nat_tests, length-replicate {A = ℕ})

-- h₁ and b₁ put over the last bytes of an image, as long as h and b
abbrev pub two_put : (x h b h₁ b₁ : List ℕ) → List ℕ
two_put x h b h₁ b₁ =
    put_mid (188 - length b) (188 - (188 - length b)) (put_mid (188 - (length h + length b)) (188 - length b - (188 - (length h + length b))) x h₁) b₁

two_parts : (f g h b : List ℕ) → length f + (length h + length b) ≡ 188 → length g ≡ length h + length b → two_put (f ++ g) h b h b ≡ f ++ (h ++ b)
two_parts f g h b l k =
    let m : 188 - (length h + length b) ≡ length f = omega arith in
    let n : 188 - length b ≡ length (f ++ h) = omega (arith, length-append f h) in
    let i : 188 - length b - length f ≡ length h = omega arith in
    let j : 188 - length (f ++ h) ≡ length b = omega (arith, length-append f h) in
    let t = drop (length h) g in
    let z : drop (length b) t ≡ [] = drop_of_length-le t (simp length-drop (omega arith)) in
    rw (m, i, take_at f g _ refl, drop_at f g _ refl, ← append_assoc f h t, n, j, take_at (f ++ h) t _ refl, drop_at (f ++ h) t _ refl, z, append-nil)
    (append_assoc f h b)

-- out of an image into the output: what follows the first four bytes, then these
into_output : (out x : List ℕ) → 188 ≤ length out → take 4 x ++ drop 4 (put_mid 4 184 out (drop 4 x)) ≡ x ++ drop 188 out
into_output out x h = grind (arith, common_steps)

-- the four bytes of a packet, stored in an image
abbrev pub four-set : List ℕ → ℕ → ℕ → ℕ → List ℕ
four-set p b1 b2 b3 = set (set (set (set p 0 71) 1 b1) 2 b2) 3 b3

-- the four bytes of a packet with so many bytes of payload
abbrev pub four : ℕ → ℕ → ℕ → ℕ → List ℕ
four start id c r = bytes_of 4 (joined (packet_table start id (truth (ltb r 184)) c))

module _ (b : Bool) (start id c r : ℕ) (p : List ℕ) (ff : p ≡ replicate 188 255) (hs : start ≡ bool_byte b) (hi : id < 2 ^ 13) (hc : c ≤ 15) where
  abbrev blank : List ℕ
  blank = four (truth b) id c r ++ (stuffing r ++ replicate r 255)

  pub blank-full : r ≡ 184 → four-set p (64 * start + id / 256 % 256) (id % 256) (16 + c) ≡ blank
  unfolding stuffing
  blank-full h = rw (ff, h) (ap (λ (t : List ℕ). t ++ replicate 184 255) (four_written b start id 0 c hs hi (omega arith) hc))

  pub blank_zero : r ≡ 183 → set (set (four-set p (64 * start + id / 256 % 256) (id % 256) (16 + c)) 3 (48 + c)) 4 (183 - r) ≡ blank
  unfolding stuffing
  blank_zero h = rw (ff, h) (ap (λ (t : List ℕ). t ++ (0 ∷ replicate 183 255)) (four_written b start id 1 c hs hi (omega arith) hc))

  pub blank_short : r ≤ 184 → (r ≡ 184 → ⊥) → (r ≡ 183 → ⊥)
      → set (set (set (four-set p (64 * start + id / 256 % 256) (id % 256) (16 + c)) 3 (48 + c)) 4 (183 - r)) 5 0 ≡ blank
  unfolding stuffing
  blank_short h k l =
      let n : 182 - r + r ≡ 182 = omega arith in
      let f = four_written b start id 1 c hs hi (omega arith) hc in
      rw (ff, lt-ltb r 184 (omega arith), lt-ltb r 183 (omega arith), ← f, replicate-append-replicate {A = ℕ} (182 - r) r 255, n)

module _ (start id c : ℕ) where
  -- the payload h and b over the last bytes of the image x, and both parts of the image into the output
  pub packet-put : (out h b x h₁ b₁ front back front₁ back₁ : List ℕ) → length h + length b ≤ 184 → 188 ≤ length out
      → x ≡ four start id c (length h + length b) ++ (stuffing (length h + length b) ++ replicate (length h + length b) 255) → h₁ ≡ h → b₁ ≡ b
      → front ≡ take 4 (two_put x h b h₁ b₁) → back ≡ drop 4 (two_put x h b h₁ b₁) → back₁ ≡ back → front₁ ≡ front
      → front₁ ++ drop 4 (put_mid 4 184 out back₁) ≡ carrier start id c (h ++ b) ++ drop 188 out
  unfolding carrier
  packet-put out h b x h₁ b₁ front back front₁ back₁ k l e eh eb ef ek ek₁ ef₁ =
      let r = length h + length b in
      let f = four start id c r in
      let n : length (f ++ stuffing r) + r ≡ 188 = simp (length-append, length-bytes_of) (omega (arith, stuffing-length r k)) in
      let made : two_put x h b h₁ b₁ ≡ (f ++ stuffing r) ++ (h ++ b)
      = rw (e, eh, eb, ← append_assoc f (stuffing r) (replicate {A = ℕ} r 255)) (two_parts _ _ h b n (length-replicate r 255)) in
      rw (ef₁, ef, ek₁, ek, made, length-append)
      (into_output out _ l ∙ ap (λ (y : List ℕ). y ++ drop 188 out) (append_assoc f (stuffing r) (h ++ b)))

  pub carrier-length : (xs : List ℕ) → length xs ≤ 184 → length (carrier start id c xs) ≡ 188
  unfolding carrier
  carrier-length xs h = simp (length-append, length-bytes_of) (omega (arith, stuffing-length (length xs) h))

pub ruleset packet_laws = (blank-full, blank_zero, blank_short, packet-put, rules)

-- ---- packets one after another

-- one packet more
carried-one : (k start id c : ℕ) (xs : List ℕ) → 0 < k
    → carried k start id c xs ≡ carrier start id c (take 184 xs) ∷ carried (k - 1) 0 id ((c + 1) % 16) (drop 184 xs)
unfolding carried
carried-one zero start id c xs h = absurd (not-suc-le-zero h)
carried-one (suc k) start id c xs h = let e : suc k - 1 ≡ k = omega arith in rw e

-- what the output comes to, with the bytes before a place written and so many packets of the bytes left
abbrev pub rest : ℕ → ℕ → ℕ → List ℕ → ℕ → List ℕ → List ℕ
rest left id c xs p out = take p out ++ (flat (carried left 0 id c xs) ++ drop (188 * left) (drop p out))

rest-none : (left id c p : ℕ) (xs out : List ℕ) → left ≡ 0 → rest left id c xs p out ≡ out
unfolding carried flat
rest-none left id c p xs out e = rw e (take-append-drop p out)

-- by what `put_packet` leaves in its part of the output
abbrev pub packet_in : ℕ → ℕ → ℕ → List ℕ → List ℕ → List ℕ
packet_in id c p xs out = carrier 0 id c xs ++ drop 188 (take (p + 188 - p) (drop p out))

rest-turn : (left id c p : ℕ) (xs out y : List ℕ) → 0 < left → p + 188 ≤ length out → y ≡ packet_in id c p (take 184 xs) out
    → rest left id c xs p out ≡ rest (left - 1) id ((c + 1) % 16) (drop 184 xs) (p + 188) (put_mid p (p + 188 - p) out y)
unfolding flat
rest-turn left id c p xs out y h k e =
    let x = carrier 0 id c (take 184 xs) in
    let b = drop p out in
    let m : p + 188 - p ≡ 188 = omega arith in
    let l : length (take p out) ≡ p = length-take-le p out (omega arith) in
    let t : length (take 184 xs) ≤ 184 = simp length-take (omega arith) in
    let few : length (take 188 b) ≤ 188 = simp length-take (omega arith) in
    let z : drop 188 (take 188 b) ≡ [] = drop_of_length-le (take 188 b) few in
    let w : length (take p out ++ x) ≡ p + 188 = length-append (take p out) x ∙ omega (arith, carrier-length 0 id c (take 184 xs) t) in
    let n : 188 + 188 * (left - 1) ≡ 188 * left = omega arith in
    rw (
      e,
      m,
      z,
      append-nil,
      ← append_assoc (take p out) x (drop 188 b),
      take_at (take p out ++ x) (drop 188 b) _ w,
      drop_at (take p out ++ x) (drop 188 b) _ w,
      drop-drop (188 * (left - 1)) 188 b,
      n,
      carried-one left 0 id c xs h,
    )
    (simp append_assoc)

chunk_at : (k i : ℕ) (xs d : List ℕ) → i < k → get_or (first_chunks 184 k xs) i d ≡ take 184 (drop (184 * i) xs)
chunk_at zero i xs d h = absurd (not-suc-le-zero h)
chunk_at (suc k) zero xs d h = refl
chunk_at (suc k) (suc i) xs d h =
    let e : 184 + 184 * i ≡ 184 * suc i = omega arith in
    chunk_at k i (drop 184 xs) d (omega arith) ∙ ap (take 184) (drop-drop (184 * i) 184 xs ∙ ap (λ (n : ℕ). drop n xs) e)

-- a packet of the rest, and the last of it
module _ (id c p i : ℕ) (body out z : List ℕ) (pe : p ≡ 188 * i) (room : 188 * count_for (length body) ≤ length out)
    (ze : z ≡ rest (count_for (length body) - i) id c (drop (184 * i) body) p out) where
  pub rest-more : (id₁ c₁ : ℕ) (y : List ℕ) (full : List (List ℕ)) → full ≡ first_chunks 184 (length body / 184) body
      → length full ≡ length body / 184 → i < length full → y ≡ packet_in id c p (get_or full i []) out → (id₁ ≡ id) × (c₁ ≡ (c + 1) % 16)
      → z ≡ rest (count_for (length body) - (i + 1)) id₁ c₁ (drop (184 * (i + 1)) body) (p + 188) (put_mid p (p + 188 - p) out y)
  rest-more id₁ c₁ y full fe l h e t =
      let k : i < length body / 184 = omega arith in
      let n : count_for (length body) - i - 1 ≡ count_for (length body) - (i + 1) = omega arith in
      let m : 184 * i + 184 ≡ 184 * (i + 1) = omega arith in
      let f : y ≡ packet_in id c p (take 184 (drop (184 * i) body)) out = rw (fe, chunk_at (length body / 184) i body [] k) at e in
      ze ∙ (rw (t.0, t.1, ← n, ← m, ← drop-drop 184 (184 * i) body) (rest-turn _ id c p (drop (184 * i) body) out y (omega arith) (omega arith) f))

  module _ (last : List ℕ) (l : last ≡ drop (length body / 184 * 184) body) (h : i ≡ length body / 184) where
    left_over : last ≡ drop (184 * i) body
    left_over = let m : length body / 184 * 184 ≡ 184 * i = omega arith in l ∙ ap (λ (n : ℕ). drop n body) m

    pub rest-last : (y : List ℕ) → 0 < length last → y ≡ packet_in id c p last out → put_mid p (p + 188 - p) out y ≡ z
    rest-last y k e =
        let n : length last ≡ length body - 184 * i = ap length left_over ∙ length-drop (184 * i) body in
        let t : take 184 (drop (184 * i) body) ≡ last = ap (take 184) (sym left_over) ∙ take_all 184 last (omega arith) in
        let f : y ≡ packet_in id c p (take 184 (drop (184 * i) body)) out = rw t e in
        sym (ze ∙ (rest-turn _ id c p (drop (184 * i) body) out y (omega arith) (omega arith) f ∙ rest-none _ id _ _ _ _ (omega arith)))

    pub rest_done : length last ≡ 0 → out ≡ z
    rest_done k =
        let n : length last ≡ length body - 184 * i = ap length left_over ∙ length-drop (184 * i) body in
        sym (ze ∙ rest-none _ id c p _ out (omega arith))

-- ---- the packets of a unit

-- what a packet takes of its bytes, in two parts
cut : (h xs : List ℕ) (k : ℕ) → length h ≤ 184 → k ≡ min (184 - length h) (length xs)
    → (h ++ take k xs ≡ take 184 (h ++ xs)) × (drop k xs ≡ drop 184 (h ++ xs))
cut h xs k l e =
    let m = 184 - length h in
    let w : 184 ≡ length h + m = omega arith in
    let t : take 184 (h ++ xs) ≡ h ++ take m xs = ap (λ (n : ℕ). take n (h ++ xs)) w ∙ take-append-add h xs m in
    let d : drop 184 (h ++ xs) ≡ drop m xs = ap (λ (n : ℕ). drop n (h ++ xs)) w ∙ drop-append-add h xs m in
    (rw (e, take_min, t), rw (e, drop_min, d))

-- the first packet in the output, and then the rest
pub packets-made : (u : Unit) (n k : ℕ) (payload made head first rest₁ out after tail : List ℕ) (id c id₁ c₁ : ℕ) → n ≡ length payload
    → made ≡ header_image u n → head ≡ made → length head ≤ 184 → k ≡ min (184 - length head) (length payload) → first ≡ take k payload
    → rest₁ ≡ drop k payload → after ≡ carrier 1 id c (head ++ first) ++ drop 188 out → (id₁ ≡ id) × (c₁ ≡ (c + 1) % 16)
    → tail ≡ flat (carried (count_for (length rest₁)) 0 id₁ c₁ rest₁) ++ drop (188 * count_for (length rest₁))
    (take (length after - 188) (drop 188 after))
    → put_mid 188 (length after - 188) after tail ≡ flat (packets_of (route id c) u payload) ++ drop (188 * count_of u n) out
unfolding packets_of flat count_of
packets-made u n k payload made head first rest₁ out after tail id c id₁ c₁ ne em es lh ek ef er ea t et =
    let h = header_image u n in
    let left = count_for (length rest₁) in
    let x = carrier 1 id c (take 184 (h ++ payload)) in
    let le : length head ≡ 9 + data_of u = ap length (es ∙ em) ∙ header-length u n in
    let lr : length rest₁ ≡ length payload - k = ap length er ∙ length-drop k payload in
    let count : count_of u n ≡ left + 1 = omega arith in
    let parts = cut head payload k lh ek in
    let p₁ : head ++ first ≡ take 184 (h ++ payload) = rw (ef, parts.0, es, em) in
    let p₂ : rest₁ ≡ drop 184 (h ++ payload) = rw (er, parts.1, es, em) in
    let lx : length x ≡ 188 = carrier-length 1 id c (take 184 (h ++ payload)) (simp length-take (omega arith)) in
    let one : 188 + 188 * left ≡ 188 * (left + 1) = omega arith in
    let less : left + 1 - 1 ≡ left = omega arith in
    let fa : after ≡ x ++ drop 188 out = rw (ea, p₁) in
    let few : length (drop 188 after) ≤ length after - 188 = simp length-drop (omega arith) in
    let z : drop (length after - 188) (drop 188 after) ≡ [] = drop_of_length-le (drop 188 after) few in
    rw (
      z,
      append-nil,
      et,
      part-rest 188 after,
      fa,
      take_at x (drop 188 out) 188 lx,
      drop_at x (drop 188 out) 188 lx,
      drop-drop (188 * left) 188 out,
      ← ne,
      count,
      one,
      carried-one (left + 1) 1 id c (h ++ payload) (omega arith),
      less,
      ← p₂,
      t.0,
      t.1,
    )
    (simp append_assoc)
