-- The crate's theorems that belong to no one function: one answer only. Which ids carry parsed contents, and where these lie, is in
-- Laws.antt (`parsed-agrees`, `contents-within`).
-- Assumes nothing.
use mathlib.Core.Path.{◌≡◌, refl}
use mathlib.Core.List.{List}
use Prim.Native.Nat.{ℕ}
use lib.ListN.{get_or}
use lib.Dec.{eqb}
use Rattle.std.specs.Prelude.{Result}
use Rattle.bits.specs.Answer.{Answer, pick}
use Rattle.bits.proofs.Tests.{one_answer}
use Rattle.bits.proofs.Refusals.{given_one}
use Rattle.bits.specs.Refused.{given, no_values}
use Rattle.bits.specs.declared.Extent.{Extent}
use Rattle.bits.specs.declared.refusal.Refusal.{Refusal}
use Rattle.pes.specs.declared.StreamId.{StreamId}
use Rattle.pes.specs.declared.StreamId.TheVariants.{ProgramStreamMap, PrivateStream1, PaddingStream, PrivateStream2, Audio, Video}
use Rattle.pes.specs.declared.StreamId.TheVariants.{EcmStream, EmmStream, DsmCc, Iso13522Stream}
use Rattle.pes.specs.declared.StreamId.TheVariants.{H2221TypeA, H2221TypeB, H2221TypeC, H2221TypeD, H2221TypeE, AncillaryStream}
use Rattle.pes.specs.declared.StreamId.TheVariants.{SlPacketizedStream, FlexMuxStream, MetadataStream, ExtendedStreamId}
use Rattle.pes.specs.declared.StreamId.TheVariants.{ReservedDataStream, ProgramStreamDirectory, Unknown}
use Rattle.pes.specs.declared.PesLength.{PesLength}
use Rattle.pes.specs.declared.PesContents.{PesContents}
use Rattle.pes.specs.Stream.{stream_values, given_id, read_id}
use Rattle.pes.specs.Head.{length_values, contents_values}

-- ---- one answer only: any two answers that meet a reader's promise are equal

abbrev value : List ℕ → ℕ → ℕ
value vs i = get_or vs i 0

pub one-head : (s : Answer) (a b : Result Unit Refusal) → given no_values a ≡ s → given no_values b ≡ s → a ≡ b
one-head = given_one no_values (λ vs. tt) (λ u. refl)

-- what an id stands for, got back from its kind and what is kept beside it
id_back : ℕ → ℕ → StreamId
id_back k n =
    pick (eqb k 0xBC) ProgramStreamMap
    (pick (eqb k 0xBD) PrivateStream1
    (pick (eqb k 0xBE) PaddingStream
    (pick (eqb k 0xBF) PrivateStream2
    (pick (eqb k 0xC0) (Audio n)
    (pick (eqb k 0xE0) (Video n)
    (pick (eqb k 0xF0) EcmStream
    (pick (eqb k 0xF1) EmmStream
    (pick (eqb k 0xF2) DsmCc
    (pick (eqb k 0xF3) Iso13522Stream
    (pick (eqb k 0xF4) H2221TypeA
    (pick (eqb k 0xF5) H2221TypeB
    (pick (eqb k 0xF6) H2221TypeC
    (pick (eqb k 0xF7) H2221TypeD
    (pick (eqb k 0xF8) H2221TypeE
    (pick (eqb k 0xF9) AncillaryStream
    (pick (eqb k 0xFA) SlPacketizedStream
    (pick (eqb k 0xFB) FlexMuxStream
    (pick (eqb k 0xFC) MetadataStream
    (pick (eqb k 0xFD) ExtendedStreamId
    (pick (eqb k 0xFE) ReservedDataStream
    (pick (eqb k 0xFF) ProgramStreamDirectory
    (Unknown n))))))))))))))))))))))

id_back-values : (s : StreamId) → id_back (get_or (stream_values s) 0 0) (get_or (stream_values s) 1 0) ≡ s
unfolding id_back
id_back-values ProgramStreamMap = refl
id_back-values PrivateStream1 = refl
id_back-values PaddingStream = refl
id_back-values PrivateStream2 = refl
id_back-values (Audio n) = refl
id_back-values (Video n) = refl
id_back-values EcmStream = refl
id_back-values EmmStream = refl
id_back-values DsmCc = refl
id_back-values Iso13522Stream = refl
id_back-values H2221TypeA = refl
id_back-values H2221TypeB = refl
id_back-values H2221TypeC = refl
id_back-values H2221TypeD = refl
id_back-values H2221TypeE = refl
id_back-values AncillaryStream = refl
id_back-values SlPacketizedStream = refl
id_back-values FlexMuxStream = refl
id_back-values MetadataStream = refl
id_back-values ExtendedStreamId = refl
id_back-values ReservedDataStream = refl
id_back-values ProgramStreamDirectory = refl
id_back-values (Unknown n) = refl

abbrev id_from : List ℕ → StreamId
id_from vs = id_back (value vs 0) (value vs 1)

pub one-id : (n : ℕ) (a b : StreamId) → given_id a ≡ read_id n → given_id b ≡ read_id n → a ≡ b
one-id n = one_answer given_id (λ s. id_from s.values) id_back-values (read_id n)

pub one-stream-id : (s : Answer) (a b : Result StreamId Refusal) → given stream_values a ≡ s → given stream_values b ≡ s → a ≡ b
one-stream-id = given_one stream_values id_from id_back-values

length_back : List ℕ → PesLength
length_back vs = pick (eqb (value vs 0) 0) PesLength.Unbounded (PesLength.Bounded (value vs 1))

length_back-values : (l : PesLength) → length_back (length_values l) ≡ l
unfolding length_back
length_back-values PesLength.Unbounded = refl
length_back-values (PesLength.Bounded n) = refl

pub one-length : (s : Answer) (a b : Result PesLength Refusal) → given length_values a ≡ s → given length_values b ≡ s → a ≡ b
one-length = given_one length_values length_back length_back-values

contents_back : List ℕ → PesContents
contents_back vs =
    let e : Extent = record { place = value vs 1; length = value vs 2 } in
    pick (eqb (value vs 0) 0) (PesContents.Payload e) (PesContents.Parsed e)

contents_back-values : (p : PesContents) → contents_back (contents_values p) ≡ p
unfolding contents_back
contents_back-values (PesContents.Payload e) = refl
contents_back-values (PesContents.Parsed e) = refl

pub one-contents : (s : Answer) (a b : Result PesContents Refusal) → given contents_values a ≡ s → given contents_values b ≡ s → a ≡ b
one-contents = given_one contents_values contents_back contents_back-values
