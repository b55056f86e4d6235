use mathlib.Core.Path.{◌≡◌, refl, ap, ◌∙◌}
use mathlib.Core.List.{List, ◌++◌}
use Prim.Native.Nat.{ℕ}
use Rattle.std.proofs.Common.{rules}
use Rattle.contents.specs.Contents.{read_contents, read_pts_dts, read_escr, read_es_rate, read_copy_info, read_crc, read_pes_extension, read_parsed_payload}
use Rattle.contents.specs.Trick.{read_trick, read_raw_trick}
use Rattle.host_whole.specs.Whole.{numbers, row, fixed_fields, contents_fields}
use Rattle.host_whole.proofs.Laws.{from-the-front, left_whole}
use Rattle.host_whole.proofs.of_contents.put_contents.Goals as goal

-- what each part left, one after another
pub returns-clause-left : goal.returns-clause-left
unfolding contents_fields
returns-clause-left c =
    let b : List ℕ = c.in_ok-c.c.fixed.buf.now in
    let kept : b ≡ c.args.buf.now = search rules in
    let payload = ap (numbers 2) c.payload_at.ensures in
    rw (← kept)
    (left_whole (read_contents b) 34 _ _ _ c.in_ok-c.c.accepted (search rules) (search rules)
    ((rw (
      c.put.ensures.told,
      c.put_row-8.ensures.told,
      c.put_row-7.ensures.told,
      c.put_row-6.ensures.told,
      c.put_row-5.ensures.told,
      c.put_row-4.ensures.told,
      c.put_row-3.ensures.told,
      c.put_row-2.ensures.told,
      c.put_row.ensures.told,
      c.put_fixed.ensures,
      c.pts_dts.ensures,
      c.escr.ensures,
      c.es_rate.ensures,
      c.dsm_trick_mode.ensures,
      c.raw_trick_mode.ensures,
      c.additional_copy_info.ensures,
      c.previous_pes_packet_crc.ensures,
      c.pes_extension_at.ensures,
      c.located-located.ensures,
      payload,
    ) refl)
    ∙ from-the-front (fixed_fields b ++ row 5 (read_pts_dts b)) (row 2 (read_escr b)) (row 1 (read_es_rate b)) (row 4 (read_trick b))
    (row 1 (read_raw_trick b)) (row 1 (read_copy_info b)) (row 1 (read_crc b)) (row 2 (read_pes_extension b)) (numbers 2 (read_parsed_payload b))))
