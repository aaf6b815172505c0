use Rattle.std.specs.Prelude.{◌≡◌, ◌++◌}
use Rattle.std.specs.List.{AllZip}
use Rattle.mg_joined.specs.aids.Joining.{Opens}
use Rattle.mg_joined.proofs.joined.open_rest.Given as goal

-- The files so far were opened.
abbrev pub invariant-loop-file : goal.invariant-loop-file
invariant-loop-file g l = (l.fn.files.items ≡ l.yielded ++ l.file-iterator.rest.items)
    × AllZip (Opens g.B.Read.remaining l.title) l.yielded l.later.items
