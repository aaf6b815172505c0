use Rattle.std.proofs.Common.{rules, ◌≡◌, ◌++◌, length, take, ap, ◌∙◌, arith, List, ℕ}
use Rattle.mg_bytes.proofs.StorageLemmas.{part_seen}
use Rattle.mg_bytes.proofs.bytes.write_at.Goals as goal

pub returns-clause-value : goal.returns-clause-value
returns-clause-value g c =
    let written = c.copy_from_slice.new.self in
    let is : written ≡ c.args.storage.now = c.copy_from_slice.ensures.after in
    let whole : length written ≡ g.row.N = search rules in
    part_seen c.args.at c.args.len c.args.bytes.now written _ (omega (arith, c.requires.fits))
    (omega (arith, whole, c.requires.within))
    ∙ ap (λ (l : List ℕ). take c.args.at c.args.bytes.now ++ take c.args.len l) is
