-- The table `WORD_BYTES` agrees with the definition `is_word_byte`.
use Rattle.std.proofs.Common.{◌≡◌, ℕ, ◌<◌, Bool, List, map, get_or, refl, ◌∙◌, ap, arith}
use Rattle.std.proofs.lemmas.List.FromFn.{get_or-map-range_with_len}
use Rattle.std.specs.List.{range_with_len}
use Rattle.mg_words.specs.WordByte.{is_word_byte}
use Rattle.mg_words.specs.declared.word_byte.TheConstants.{WORD_BYTES}

table_is : WORD_BYTES ≡ map is_word_byte (range_with_len 0 256)
table_is = refl

pub table_at : (b : ℕ) (d : Bool) → b < 256 → get_or WORD_BYTES b d ≡ is_word_byte b
table_at b d h = ap (λ (xs : List Bool). get_or xs b d) table_is ∙
    get_or-map-range_with_len is_word_byte 0 256 b b d h (omega arith)
