use Rattle.std.proofs.Common.{◌≡◌, ◌+◌, ◌≤◌, arith, length, subst, take}
use Rattle.std.proofs.BufReadLemmas.{Consumes_shown}
use Rattle.std.specs.Io.BufRead.{FillKeeps}
use Rattle.mg_joined.proofs.LineLemmas.{last_whole}
use Rattle.mg_joined.proofs.source.take_buffered.Goals as goal

pub returns : goal.returns
returns g c =
    let shown = c.in-Ok.buffer.now in
    let last = c.in-Some.last in
    let rested = c.fill_buf.follows.lender-at-none in
    let filled = subst (FillKeeps _ (g.B.Read.remaining rested) (g.B.BufRead.consumable_len rested)) c.in-Ok.is c.fill_buf.follows.holds-at-none in
    let within : last + 1 ≤ length shown = omega (arith, c.in-Some.ensures.0.high) in
    let taken = Consumes_shown _ _ _ _ shown (last + 1) within c.in-Ok.ensures.front c.in-Ok.ensures.end filled.0 filled.1 c.consume.ensures.bytes in
    record {
      value = record {
        lines = take (last + 1) shown;
        appended = c.in_ok-extend_from_slice.ensures.items;
        whole = last_whole shown last c.in-Some.ensures;
        consumed = taken.0;
      };
    }
