-- From turn to turn, the page with the bytes that are left is the page that is promised; those before reach an output with no error.
use Rattle.std.proofs.Common.{◌≡◌, take, drop, IsNone, IsSome}
use Rattle.page.specs.Page.{page_of, with_bytes, Delivers}
use Rattle.page.proofs.Page.text.Given as goal

abbrev pub invariant-loop-b : goal.invariant-loop-b
invariant-loop-b g l = record {
  page : with_bytes (page_of l.fn.self.bytes l.fn.self.used) l.bytes ≡ with_bytes (page_of l.self.bytes l.self.used) (drop l.b-index l.bytes);
  delivers : IsNone l.self.out.error
      → Delivers (g.W.Write.contents l.fn.self.out.to) (g.W.Write.contents l.self.out.to) (take l.fn.self.used l.fn.self.bytes) (take l.self.used l.self.bytes)
      (take l.b-index l.bytes);
  failed : IsSome l.fn.self.out.error → l.self.out ≡ l.fn.self.out;
}
