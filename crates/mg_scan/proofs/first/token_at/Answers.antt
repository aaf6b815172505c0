use Rattle.std.proofs.Common.{sym, arith}
use Rattle.mg_scan.proofs.WordLemmas.{word_token}
use Rattle.mg_scan.proofs.first.token_at.Goals as goal

pub returns-in-len1-up : goal.returns-in-len1-up
returns-in-len1-up c = word_token c.args.bytes.now c.word_len-end.result (omega arith)
    (sym c.if-is_word_byte.ensures.value) c.word_len-end.ensures.value
