-- The crate's theorems that belong to no one function: one answer only, a `PesHeader` made of bytes answers of them, and where its
-- payload lies and by which number it is refused.
-- Assumes nothing.
use mathlib.Core.Path.{◌≡◌, refl, sym, ap, ◌∙◌}
use mathlib.Core.Bool.{Bool, true, false}
use mathlib.Core.List.{List, []}
use Prim.Native.Nat.{ℕ, ◌-◌}
use native.Mathlib.Omega.{arith}
use borrow.Author.Tests.{eqb-true, eqb-false}
use lib.Dec.{eqb}
use lib.ListN.{length, get_or, drop}
use Rattle.std.specs.Prelude.{Result}
use Rattle.bits.specs.Answer.{Answer, answer, pick, and_then, part_of}
use Rattle.bits.specs.Refused.{given, no_values, extent_values}
use Rattle.bits.specs.declared.Extent.{Extent}
use Rattle.bits.specs.declared.refusal.Refusal.{Refusal}
use Rattle.bits.proofs.Checks.{refused_by}
use Rattle.bits.proofs.Refusals.{given_one}
use Rattle.bits.proofs.Parts.{part-refused, part-rest, part_in, part-done}
use Rattle.pes.specs.declared.StreamId.{StreamId}
use Rattle.pes.specs.declared.PesLength.{PesLength}
use Rattle.pes.specs.declared.PesContents.{PesContents}
use Rattle.pes.specs.Stream.{stream_values, parsed_id}
use Rattle.pes.specs.Head.{length_values, contents_values}
use Rattle.pes.specs.Head.{not_head, id_of, read_head, read_stream_id, read_length, read_contents_part, contents_part}
use Rattle.pes.proofs.Laws.{headed-done, contents-within}
use Rattle.pes.proofs.Theorems.{one-head, one-stream-id, one-length, one-contents}
use Rattle.contents.specs.Contents.{read_parsed_payload, read_contents}
use Rattle.pes_header.specs.declared.PesHeader.{PesHeader}
use Rattle.pes_header.specs.Payload.{later, header_payload, payload_bytes}
use Rattle.pes_header.proofs.Laws.{later-number, later-part, contents-number}
pub use Rattle.pes_header.proofs.Laws.{payload-within}

-- ---- one answer only: any two answers that meet the promise of `payload_at` are equal

pub one-payload : (s : Answer) (a b : Result Extent Refusal) → given extent_values a ≡ s → given extent_values b ≡ s → a ≡ b
one-payload = given_one extent_values (λ vs. record { place = get_or vs 0 0; length = get_or vs 1 0 }) (λ e. refl)

-- ---- a header made of bytes answers as the functions on these bytes do: the reader's answer and the function's are one

module _ (h : PesHeader) (xs : List ℕ) (e : h.buf.now ≡ xs) where
  pub kept-head : (a b : Result Unit Refusal) → given no_values a ≡ read_head h.buf.now → given no_values b ≡ read_head xs → a ≡ b
  kept-head a b p q = one-head (read_head xs) a b (p ∙ ap read_head e) q

  pub kept-stream-id : (a b : Result StreamId Refusal) → given stream_values a ≡ read_stream_id h.buf.now
      → given stream_values b ≡ read_stream_id xs → a ≡ b
  kept-stream-id a b p q = one-stream-id (read_stream_id xs) a b (p ∙ ap read_stream_id e) q

  pub kept-length : (a b : Result PesLength Refusal) → given length_values a ≡ read_length h.buf.now → given length_values b ≡ read_length xs → a ≡ b
  kept-length a b p q = one-length (read_length xs) a b (p ∙ ap read_length e) q

  pub kept-contents : (a b : Result PesContents Refusal) → given contents_values a ≡ read_contents_part h.buf.now
      → given contents_values b ≡ read_contents_part xs → a ≡ b
  kept-contents a b p q = one-contents (read_contents_part xs) a b (p ∙ ap read_contents_part e) q

  pub kept-payload_at : (a b : Result Extent Refusal) → given extent_values a ≡ header_payload h.buf.now
      → given extent_values b ≡ header_payload xs → a ≡ b
  kept-payload_at a b p q = one-payload (header_payload xs) a b (p ∙ ap header_payload e) q

  -- every part that is handed out, as the bytes' function f of the promise
  pub kept-part : (f : List ℕ → List ℕ) (r s : List ℕ) → r ≡ f h.buf.now → s ≡ f xs → r ≡ s
  kept-part f r s p q = p ∙ (ap f e ∙ sym q)

-- ---- what the payload is, by case; that it lies within the bytes is in `Laws`, where the functions cite it

module _ (xs : List ℕ) where
  -- a head that is refused: its own number, and no bytes
  pub refused_payload : ((read_head xs).number ≡ 0 → ⊥) → (header_payload xs ≡ read_head xs) × (payload_bytes xs ≡ [])
  unfolding header_payload payload_bytes
  refused_payload h =
      let e = sym (refused_by (not_head xs) (answer 0 []) refl (read_head xs) (omega (arith, h)) refl _) in
      (e, sym (part-refused (header_payload xs) xs (λ z. h (ap (λ (a : Answer). a.number) (sym e) ∙ z))))

  module _ (h : (read_head xs).number ≡ 0) where
    -- an id that carries bare payload: all bytes after the six
    pub bare_payload : parsed_id (id_of xs) ≡ false → (header_payload xs ≡ contents_part xs) × (payload_bytes xs ≡ drop 6 xs)
    unfolding header_payload payload_bytes
    bare_payload t =
        let d = headed-done xs (answer 0 []) h in
        let e : header_payload xs ≡ contents_part xs = d.is _ ∙ rw t in
        let p = part-done (contents_part xs) xs 6 (length xs - 6) (sym (d.is _)) (contents-within xs) in
        (e, ap (λ (a : Answer). part_of a xs) e ∙ (sym p ∙ (sym (part_in 6 (length xs - 6) xs (omega (arith, d.long))) ∙ part-rest 6 xs)))

    -- an id that carries parsed contents: what `contents::payload` gives of the bytes after the six, refused by the number of the contents
    pub parsed-payload : parsed_id (id_of xs) ≡ true
        → (header_payload xs ≡ later 6 (read_parsed_payload (drop 6 xs))) × (payload_bytes xs ≡ part_of (read_parsed_payload (drop 6 xs)) (drop 6 xs))
    unfolding header_payload payload_bytes
    parsed-payload t =
        let e : header_payload xs ≡ later 6 (read_parsed_payload (drop 6 xs)) = (headed-done xs (answer 0 []) h).is _ ∙ rw t in
        (e, ap (λ (a : Answer). part_of a xs) e ∙ later-part 6 (read_parsed_payload (drop 6 xs)) xs)

  -- THE NUMBER is the head's where that is refused, else that of the contents where the id carries such, and 0 after a bare id
  pub payload-number : (header_payload xs).number
      ≡ (and_then (read_head xs) (pick (parsed_id (id_of xs)) (read_contents (drop 6 xs)) (answer 0 []))).number
  payload-number = go (eqb (read_head xs).number 0) refl (parsed_id (id_of xs)) refl
    where
      go : (t : Bool) → eqb (read_head xs).number 0 ≡ t → (k : Bool) → parsed_id (id_of xs) ≡ k
          → (header_payload xs).number ≡ (pick t (pick k (read_contents (drop 6 xs)) (answer 0 [])) (read_head xs)).number
      go true e true k =
          ap (λ (a : Answer). a.number) (parsed-payload (eqb-true _ _ e) k).0
          ∙ (later-number 6 (read_parsed_payload (drop 6 xs)) ∙ (contents-number (drop 6 xs) _ refl).0)
      go true e false k =
          ap (λ (a : Answer). a.number) ((bare_payload (eqb-true _ _ e) k).0 ∙ (headed-done xs (answer 0 []) (eqb-true _ _ e)).is _)
      go false e b k = ap (λ (a : Answer). a.number) (refused_payload (eqb-false _ _ e)).0
