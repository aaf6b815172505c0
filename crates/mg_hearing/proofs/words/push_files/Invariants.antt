use Rattle.std.proofs.Common.{◌≡◌, ◌++◌, codes, drop}
use Rattle.std.specs.List.{flat_map}
use Rattle.mg_hearing.specs.Page.{quoted}
use Rattle.mg_hearing.proofs.words.push_files.Given as goal

-- The words, followed by those for the files that are left, are the result.
abbrev pub invariant-loop-file : goal.invariant-loop-file
invariant-loop-file l =
    l.words.items ++ flat_map (λ file. codes " " ++ quoted file) (drop l.file-index l.files)
    ≡ l.fn.words.items ++ flat_map (λ file. codes " " ++ quoted file) l.files
