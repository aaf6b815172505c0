use Rattle.std.specs.Prelude.{◌∷◌, map, take}
use Rattle.std.specs.Io.Buffered.{reader_remaining}
use Rattle.mg_hearing.specs.aids.Opening.{OpensAll}
use Rattle.mg_hearing.proofs.opening.open_all.Given as goal

-- The files so far were opened.
abbrev pub invariant-loop-other : goal.invariant-loop-other
invariant-loop-other g l = OpensAll (l.path ∷ take l.other-index l.later) (g.H.Tells.calls l.fn.host)
    (g.H.Tells.calls l.host) (map (reader_remaining g.H.Text.Read.remaining) l.files.items)
