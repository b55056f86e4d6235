-- What a result tells: its number and the values named with it.
use Rattle.std.specs.Prelude.{Bool, List, [], ◌∷◌, ℕ, Result, Ok, Err}
use Rattle.bits.specs.Answer.{Answer, answer, truth}
use Rattle.bits.specs.Numbers.{done, wrong_length, no_sync, short_header, bad_start_code, short_contents, bad_check_bits, header_past_buffer}
use Rattle.bits.specs.Numbers.{fields_past_header, field_not_present, pts_dts_flags_invalid, not_enough_data, marker_bit_not_set}
use Rattle.bits.specs.Numbers.{incorrect_prefix_bits, out_of_range, log_full, index_full, bad_field, too_long, no_room, store_full}
use Rattle.bits.specs.declared.Extent.{Extent}
use Rattle.bits.specs.declared.refusal.Refusal.{Refusal}
use Rattle.bits.specs.declared.refusal.Refusal.TheVariants.{WrongLength, NoSync, ShortHeader, BadStartCode, ShortContents, BadCheckBits}
use Rattle.bits.specs.declared.refusal.Refusal.TheVariants.{HeaderPastBuffer, FieldsPastHeader, FieldNotPresent, PtsDtsFlagsInvalid, NotEnoughData}
use Rattle.bits.specs.declared.refusal.Refusal.TheVariants.{MarkerBitNotSet, IncorrectPrefixBits, OutOfRange, LogFull, IndexFull, BadField, TooLong}
use Rattle.bits.specs.declared.refusal.Refusal.TheVariants.{NoRoom, StoreFull}

abbrev pub refused : Refusal → Answer
refused WrongLength = answer wrong_length []
refused NoSync = answer no_sync []
refused ShortHeader = answer short_header []
refused BadStartCode = answer bad_start_code []
refused ShortContents = answer short_contents []
refused BadCheckBits = answer bad_check_bits []
refused HeaderPastBuffer = answer header_past_buffer []
refused FieldsPastHeader = answer fields_past_header []
refused FieldNotPresent = answer field_not_present []
refused PtsDtsFlagsInvalid = answer pts_dts_flags_invalid []
refused NotEnoughData = answer not_enough_data []
refused (MarkerBitNotSet b) = answer marker_bit_not_set (b ∷ [])
refused (IncorrectPrefixBits e a) = answer incorrect_prefix_bits (e ∷ a ∷ [])
refused OutOfRange = answer out_of_range []
refused LogFull = answer log_full []
refused IndexFull = answer index_full []
refused BadField = answer bad_field []
refused TooLong = answer too_long []
refused NoRoom = answer no_room []
refused StoreFull = answer store_full []

-- the values of what was accepted are read by f
abbrev pub given : {A : Type 0} → (A → List ℕ) → Result A Refusal → Answer
given f (Ok x) = answer done (f x)
given f (Err r) = refused r

-- nothing, a number, a truth value, and a part by place and length
abbrev pub no_values : {A : Type 0} → A → List ℕ
no_values x = []

abbrev pub number_values : ℕ → List ℕ
number_values n = n ∷ []

abbrev pub flag_values : Bool → List ℕ
flag_values b = truth b ∷ []

abbrev pub extent_values : Extent → List ℕ
extent_values e = e.place ∷ e.length ∷ []
