use mathlib.Core.Path.{◌≡◌, ap}
use mathlib.Core.List.{List, [], ◌∷◌}
use lib.ListN.{length, get_or}
use Prim.Native.Nat.{ℕ, ◌-◌}
use Rattle.std.proofs.Common.{rules}
use Rattle.bits.specs.Answer.{answer, truth}
use Rattle.bits.proofs.Fields.{byte-field}
use Rattle.pes.specs.Stream.{read_id, parsed_id}
use Rattle.pes.specs.Head.{read_head, id_of}
use Rattle.host_whole.specs.Whole.{numbers, header_fields}
use Rattle.host_whole.proofs.Laws.{head_laws, headed, head-done, left_whole}
use Rattle.host_whole.proofs.of_pes.put_header.Goals as goal

pub bounds-buf-3 : goal.bounds-buf-3
bounds-buf-3 c = search head_laws

pub overflow_sub-left : goal.overflow_sub-left
overflow_sub-left c = search head_laws

pub returns-clause-told : goal.returns-clause-told
returns-clause-told c = head-done _ c.in_ok-length.length c.in_ok-length.ensures

pub returns-clause-left : goal.returns-clause-left
unfolding header_fields id_of
returns-clause-left c =
    let b : List ℕ = c.args.buf.now in
    let of_head = headed b c.in_ok-length.length c.in_ok-length.ensures in
    let id : id_of b ≡ get_or b 3 0 = byte-field b 3 (c.type_inv.buf 3).fits in
    left_whole (read_head b) 7 _ _ _ (head-done b c.in_ok-length.length c.in_ok-length.ensures) (search rules) (search rules)
    (rw (
      c.told.ensures,
      ← ap (numbers 2) c.in_ok-length.ensures,
      of_head.is (read_id (id_of b)),
      of_head.is (answer 0 (truth (parsed_id (id_of b)) ∷ 6 ∷ (length b - 6) ∷ [])),
      id,
      ← c.id_values-kind.ensures.0,
      ← c.id_values-kind.ensures.1,
    ))
