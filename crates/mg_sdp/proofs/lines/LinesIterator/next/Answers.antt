use Rattle.std.proofs.Common.{◌≡◌, ◌<◌, ◌∷◌, length, ap, ◌∙◌, rules}
use Rattle.std.proofs.lemmas.List.{nil_from_length}
use Rattle.mg_sdp.specs.Lines.{content_lines}
use Rattle.mg_sdp.proofs.LineLemmas.{no_line, line_step, lines_none}
use Rattle.mg_sdp.proofs.lines.LinesIterator.next.Goals as goal

pub returns-then-is_empty-clause-steps : goal.returns-then-is_empty-clause-steps
returns-then-is_empty-clause-steps c =
    let empty : length c.split_at.result.1.now ≡ 0 = search rules in (
      no_line c.args.self.now.rest.now _ c.white_len.result c.white_len.ensures.value c.split_at.ensures.back empty,
      ap content_lines (nil_from_length _ empty) ∙ lines_none,
    )

pub returns : goal.returns
returns c =
    let some : 0 < length c.split_at.result.1.now = search rules in
    let step : content_lines c.args.self.now.rest.now ≡ c.split_at-3.result.0.now ∷
    content_lines c.split_at-2.result.1.now =
    rw c.split_at-3.ensures.front (line_step c.args.self.now.rest.now c.split_at.result.1.now
    c.split_at-2.result.0.now c.split_at-2.result.1.now c.white_len.result c.line_len.result
    c.blanks_at_end.result c.white_len.ensures.value c.split_at.ensures.back some c.line_len.ensures.value
    c.split_at-2.ensures.front c.split_at-2.ensures.back c.blanks_at_end.ensures.value) in
    let shorter = ap length step in
    record { steps = step; goes = search rules }
