use Rattle.std.proofs.Common.{◌++◌, codes, decimal}
use Rattle.mg_reply.specs.Media.{statistics_text}
use Rattle.mg_reply.proofs.DraftLemmas.{then}
use Rattle.mg_reply.proofs.parts_writing.put_statistics.Goals as goal

pub returns : goal.returns
unfolding statistics_text
returns c =
    let s = c.args.statistics in
    let end = c.put-5.new.self in
    let close = codes "}" in
    let h = then c.put-4.new.self c.put_number-4.new.draft end (decimal s.or_) close c.put_number-4.ensures.value
    c.put-5.ensures.value in
    let h-text = decimal s.or_ ++ close in
    let g = then c.put_number-3.new.draft c.put-4.new.self end (codes ",nt/or=") h-text c.put-4.ensures.value h in
    let g-text = codes ",nt/or=" ++ h-text in
    let f = then c.put-3.new.self c.put_number-3.new.draft end (decimal s.os) g-text c.put_number-3.ensures.value g in
    let f-text = decimal s.os ++ g-text in
    let e = then c.put_number-2.new.draft c.put-3.new.self end (codes ",nt/os=") f-text c.put-3.ensures.value f in
    let e-text = codes ",nt/os=" ++ f-text in
    let d = then c.put-2.new.self c.put_number-2.new.draft end (decimal s.pr) e-text c.put_number-2.ensures.value e in
    let d-text = decimal s.pr ++ e-text in
    let b = then c.put_number.new.draft c.put-2.new.self end (codes ",rtp/pr=") d-text c.put-2.ensures.value d in
    let b-text = codes ",rtp/pr=" ++ d-text in
    let a = then c.put.new.self c.put_number.new.draft end (decimal s.ps) b-text c.put_number.ensures.value b in
    record {
      value = then c.args.draft.now c.put.new.self end (codes "Statistics{rtp/ps=") (decimal s.ps ++ b-text)
          c.put.ensures.value a;
    }
