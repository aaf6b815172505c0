-- A title that wasn't written completely.
use Rattle.std.proofs.Common.{◌≡◌, ℕ, ◌+◌, true, List, [], length, take, drop, Option, Some, None, IfSome, ap, sym, ◌∙◌, subst, arith}
use Rattle.std.proofs.lemmas.List.{take_all}
use Rattle.std.specs.Io.{StartsWith}
use Rattle.mg_journal.specs.Text.{whole_lines}
use Rattle.mg_start.specs.aids.Starting.{may_be_title}

-- If all bytes after the last complete line were peeked at, and they may be a title, a file without a complete line may
-- be a title.
pub partial_title : (known : Option (List ℕ)) (n : ℕ) (part : List ℕ) → length part ≡ n →
    IfSome known (λ bytes. StartsWith (drop (length (whole_lines bytes)) bytes) part) →
    IfSome known (λ bytes. length (whole_lines bytes) + n ≡ length bytes) → may_be_title part ≡ true →
    IfSome known (λ bytes. whole_lines bytes ≡ [] → may_be_title bytes ≡ true)
partial_title None n part len front size is = tt
partial_title (Some bytes) n part len front size is = λ none.
    let no : length (whole_lines bytes) ≡ 0 = ap length none in
    let starts : StartsWith bytes part = subst (λ (k : ℕ). StartsWith (drop k bytes) part) no front in
    let all : take (length part) bytes ≡ bytes = take_all (length part) bytes (omega (arith, len, no, size)) in
    subst (λ (l : List ℕ). may_be_title l ≡ true) (sym starts ∙ all) is
