-- If the first byte belongs to a word, the first token is that word.
use Rattle.std.proofs.Common.{◌≡◌, ℕ, ◌<◌, true, List, [], ◌∷◌, length, get_or, ◌-◌, arith}
use Rattle.std.specs.List.{prefix_len}
use Rattle.std.proofs.lemmas.List.Sums.{prefix_len-le-length}
use Rattle.std.proofs.lemmas.Bool.{cond-true}
use Rattle.mg_scan.specs.declared.kind.TokenKind.TheVariants.{Word}
use Rattle.mg_words.specs.WordByte.{is_word_byte}
use Rattle.mg_scan.specs.Tokens.{token_at}
use Rattle.mg_scan.specs.aids.Places.{Places}

pub word_token : (bytes : List ℕ) (n : ℕ) → 0 < length bytes → is_word_byte (get_or bytes 0 0) ≡ true →
    n ≡ prefix_len is_word_byte bytes → Places bytes (token_at bytes)
    (record { kind = Word; start = 0; end = n; next = n })
unfolding token_at
word_token [] n nonempty e is = absurd (omega arith)
word_token (b ∷ bs) n nonempty e is = record {
  start = omega arith;
  end = omega arith;
  some = rw (is, e) (omega arith);
  next = rw is (prefix_len-le-length is_word_byte (b ∷ bs));
  is = let sub : n - 0 ≡ n = omega arith in rw (sub, is) (cond-true _ _ _ e);
}
