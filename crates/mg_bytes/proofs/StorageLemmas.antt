-- Writing a text's whole storage: the text and the unused bytes after it.
use Rattle.std.proofs.Common.{◌≡◌, ℕ, ◌+◌, ◌≤◌, List, ◌++◌, length, take, sym, ap, ◌∙◌}
use Rattle.std.proofs.lemmas.List.{length-take-le, take-append-le}
use Rattle.std.proofs.Math.Seq.{take-append-add}

-- The bytes up to the end of the text don't depend on the rest of its storage.
pub part_seen : (at len : ℕ) (bytes storage rest : List ℕ) → at ≤ length bytes → len ≤ length storage →
    take (at + len) (take at bytes ++ (storage ++ rest)) ≡ take at bytes ++ take len storage
part_seen at len bytes storage rest within short =
    let xs = take at bytes in
    ap (λ (n : ℕ). take (n + len) (xs ++ (storage ++ rest))) (sym (length-take-le at bytes within))
    ∙ take-append-add xs (storage ++ rest) len
    ∙ ap (λ (ys : List ℕ). xs ++ ys) (take-append-le len storage rest short)
