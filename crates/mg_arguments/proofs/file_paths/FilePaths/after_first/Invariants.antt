use Rattle.std.proofs.Common.{◌≡◌, drop, map}
use Rattle.mg_service.specs.FilePath.{file_path}
use Rattle.mg_service.specs.Read.{all_read}
use Rattle.mg_service.proofs.ReadLemmas.{then_read}
use Rattle.mg_arguments.proofs.file_paths.FilePaths.after_first.Given as goal

abbrev pub invariant-loop-place : goal.invariant-loop-place
invariant-loop-place l =
    then_read l.paths.items (all_read file_path (map (λ t. t.now) (drop l.place l.texts)))
    ≡ all_read file_path (map (λ t. t.now) (drop 1 l.texts))
