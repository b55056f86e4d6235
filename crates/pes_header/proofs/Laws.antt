-- Where the payload of a header lies, by what `pes::contents` and `contents::payload_at` answered. The functions' proofs find these by
-- `header_laws`: a premise is a promise of what they call, or which of its answers it was.
-- Assumes nothing.
use mathlib.Core.Path.{◌≡◌, refl, sym, ap, ◌∙◌}
use mathlib.Core.Bool.{Bool, true, false}
use mathlib.Core.List.{List, [], ◌∷◌}
use Prim.Native.Nat.{ℕ, ◌+◌, ◌-◌, ◌≤◌}
use native.Mathlib.Omega.{arith}
use lib.Dec.{eqb}
use lib.ListN.{length, get_or, drop, length-drop}
use lib.Seq.{drop-drop}
use borrow.Author.Tests.{eqb-true, eqb-false}
use Rattle.bits.specs.Answer.{Answer, answer, pick, unless, part_at, part_of, Within}
use Rattle.bits.specs.Refused.{refused}
use Rattle.bits.specs.declared.refusal.Refusal.{Refusal}
use Rattle.bits.proofs.Bools.{is_true, is_false}
use Rattle.bits.proofs.Checks.{unless-number, unless-most}
use Rattle.bits.proofs.Parts.{part-rest, part_in, part_none, part-done}
use Rattle.bits.proofs.Refusals.{refused-not_done, refused_above}
use Rattle.pes.specs.Stream.{parsed_id}
use Rattle.pes.specs.Head.{not_head, id_of, read_contents_part, contents_part}
use Rattle.pes.proofs.Laws.{Headed, headed-done, contents-within, contents-known, refused_too}
use Rattle.contents.specs.Contents.{not_contents, read_parsed_payload, read_contents}
use Rattle.contents.proofs.Laws.{payload-within as contents-payload-within}
use Rattle.pes_header.specs.Payload.{later, header_payload, payload_bytes}

-- a refusal names no place that could be moved
later-refused : (r : Refusal) → refused r ≡ later 6 (refused r)
later-refused r = sym (refused-not_done r _ _)

-- a part of the bytes from k on, as a part of the whole: it has the same number, lies within the whole, and is the same bytes
module _ (k : ℕ) (a : Answer) where
  pub later-number : (later k a).number ≡ a.number
  later-number = go (eqb a.number 0) refl
    where
      go : (t : Bool) → eqb a.number 0 ≡ t
          → (pick t (answer 0 ((k + get_or a.values 0 0) ∷ get_or a.values 1 0 ∷ [])) a).number ≡ a.number
      go true e = sym (eqb-true a.number 0 e)
      go false e = refl

  pub later-within : (xs : List ℕ) → k ≤ length xs → Within a (drop k xs) → Within (later k a) xs
  later-within xs h w = go (eqb a.number 0) refl
    where
      go : (t : Bool) → eqb a.number 0 ≡ t
          → Within (pick t (answer 0 ((k + get_or a.values 0 0) ∷ get_or a.values 1 0 ∷ [])) a) xs
      go true e z = omega (arith, w (eqb-true a.number 0 e), length-drop k xs)
      go false e z = absurd (eqb-false a.number 0 e z)

  pub later-part : (xs : List ℕ) → part_of (later k a) xs ≡ part_of a (drop k xs)
  unfolding part_of
  later-part xs = go (eqb a.number 0) refl
    where
      go : (t : Bool) → eqb a.number 0 ≡ t
          → part_of (pick t (answer 0 ((k + get_or a.values 0 0) ∷ get_or a.values 1 0 ∷ [])) a) xs ≡ part_of a (drop k xs)
      go true e = rw (e, drop-drop (get_or a.values 0 0) k xs)
      go false e = rw e

-- what is read of contents is refused by their number, which is at most 8
pub contents-number : (c : List ℕ) (a : Answer) → a.number ≡ 0
    → ((unless (not_contents c) a).number ≡ (read_contents c).number) × ((unless (not_contents c) a).number ≤ 8)
unfolding not_contents
contents-number c a z = (unless-number (not_contents c) a (answer 0 []) z, unless-most (not_contents c) 8 (omega arith) a (omega arith))

module _ (xs : List ℕ) where
  pub head-refused : (r : Refusal) → refused r ≡ read_contents_part xs → refused r ≡ header_payload xs
  unfolding header_payload
  head-refused r e = refused_too xs r _ refl e _

  pub bare : (p n : ℕ) → answer 0 (0 ∷ p ∷ n ∷ []) ≡ read_contents_part xs → answer 0 (p ∷ n ∷ []) ≡ header_payload xs
  unfolding header_payload
  bare p n e =
      let k = contents-known xs 0 p n e in
      rw (k.2, k.3) (sym (k.0.is _ ∙ rw (is_false (parsed_id (id_of xs)) k.1) (k.0.is _)))

  -- parsed contents: `contents::payload_at` was asked of the bytes ys
  module _ (p n : ℕ) (e : answer 0 (1 ∷ p ∷ n ∷ []) ≡ read_contents_part xs) (ys : List ℕ) (f : ys ≡ part_at p n xs) where
    parsed-there : (p ≡ 6) × (n ≡ length xs - 6) × (6 ≤ length xs)
    parsed-there = let k = contents-known xs 1 p n e in (k.2, k.3, k.0.long)

    rest-is : ys ≡ drop 6 xs
    rest-is =
        f ∙ rw (parsed-there.0, parsed-there.1) (sym (part_in 6 (length xs - 6) xs (omega (arith, parsed-there))) ∙ part-rest 6 xs)

    parsed-is : later 6 (read_parsed_payload ys) ≡ header_payload xs
    unfolding header_payload
    parsed-is = let k = contents-known xs 1 p n e in rw rest-is (sym (k.0.is _ ∙ rw (is_true (parsed_id (id_of xs)) k.1)))

    pub contents-refused : (r : Refusal) → refused r ≡ read_parsed_payload ys → refused r ≡ header_payload xs
    contents-refused r g = later-refused r ∙ (ap (later 6) g ∙ parsed-is)

    module _ (a m : ℕ) (g : answer 0 (a ∷ m ∷ []) ≡ read_parsed_payload ys) where
      pub contents-accepted : answer 0 ((p + a) ∷ m ∷ []) ≡ header_payload xs
      contents-accepted = ap (λ (i : ℕ). answer 0 ((i + a) ∷ m ∷ [])) parsed-there.0 ∙ (ap (later 6) g ∙ parsed-is)

      pub accepted-fits : p + a + m ≤ length xs
      accepted-fits =
          let w : a + m ≤ length ys = (rw (← g) at (contents-payload-within ys)) refl in
          omega (arith, length-drop 6 xs, parsed-there, ap length rest-is)

  -- the payload lies within the bytes
  pub payload-within : Within (header_payload xs) xs
  unfolding header_payload
  payload-within z = let h = headed-done xs _ z in go (parsed_id (id_of xs)) h z
    where
      go : (t : Bool) → Headed xs → Within (unless (not_head xs) (pick t (later 6 (read_parsed_payload (drop 6 xs))) (contents_part xs))) xs
      go true h = rw (h.is (later 6 (read_parsed_payload (drop 6 xs)))) (later-within 6 (read_parsed_payload (drop 6 xs)) xs h.long (contents-payload-within (drop 6 xs)))
      go false h = rw (h.is (contents_part xs)) (contents-within xs)

  -- its bytes, by where it is said to lie
  pub no_payload : (r : Refusal) → refused r ≡ header_payload xs → [] ≡ payload_bytes xs
  unfolding payload_bytes
  no_payload r e = part_none (refused r) _ xs (refused_above r) e

  pub payload-part : (p n : ℕ) → answer 0 (p ∷ n ∷ []) ≡ header_payload xs → part_at p n xs ≡ payload_bytes xs
  unfolding payload_bytes
  payload-part p n e = part-done _ xs p n e payload-within

pub ruleset header_laws = (head-refused, bare, contents-refused, contents-accepted, accepted-fits, no_payload, payload-part)
