-- The bytes of each field follow those before it.
use mathlib.Core.Path.{◌≡◌, sym, ap, ◌∙◌}
use mathlib.Core.List.{append_assoc}
use lib.ListN.{length}
use Prim.Native.Nat.{ℕ, ◌+◌}
use Rattle.contents.specs.Layout.{escr_bytes, es_rate_bytes, trick_bytes, copy_info_bytes, crc_bytes}
use Rattle.writer.specs.Packets.{fields_image, header_image, escr_image}
use Rattle.writer.proofs.Laws.{mapped, header-length}
use Rattle.writer.proofs.Plan.header.Goals as goal

pub returns : goal.returns
unfolding header_image fields_image escr_image
returns c =
    let plan = c.args.self in
    let escr = mapped (λ e. escr_bytes e.0 e.1) plan.unit.escr _ c.map.ensures.cases in
    let rate = mapped es_rate_bytes plan.unit.rate _ c.map-2.ensures.cases in
    let trick = mapped trick_bytes plan.unit.trick _ c.map-3.ensures.cases in
    let copy = mapped copy_info_bytes plan.unit.copy _ c.map-4.ensures.cases in
    let crc = mapped crc_bytes plan.unit.crc _ c.map-5.ensures.cases in
    let image : c.put_field-5.new.self ≡ header_image plan.unit plan.size = simp (
      c.put_field-5.ensures.after,
      crc,
      c.put_field-4.ensures.after,
      copy,
      c.put_field-3.ensures.after,
      trick,
      c.put_field-2.ensures.after,
      rate,
      c.put_field.ensures.after,
      escr,
      c.put_times.ensures.after,
      c.put.ensures,
      c.head_bytes.ensures,
      c.new-head.ensures,
      append_assoc,
    ) in
    record { image = image; len = ap length image ∙ (header-length plan.unit plan.size ∙ ap (λ (d : ℕ). 9 + d) (sym plan.data.0)) }
