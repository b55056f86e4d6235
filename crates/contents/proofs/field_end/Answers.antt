use Rattle.bits.specs.Field.{bit}
use Rattle.contents.specs.Contents.{times_size, escr_at, es_rate_at, trick_at, copy_info_at, crc_at, fields_end}
use Rattle.contents.proofs.Ends.{table_of_ends}
use Rattle.contents.proofs.field_end.Goals as goal

pub entry-requires : goal.entry-requires
unfolding fields_end crc_at copy_info_at trick_at es_rate_at escr_at times_size bit
entry-requires c = table_of_ends _ tt
