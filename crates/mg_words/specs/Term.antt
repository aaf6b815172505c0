-- Names of terminations (RFC 3525, Annex B.2, TerminationID), of up to 64 bytes in this profile.
use Rattle.std.specs.Prelude.{ℕ, Bool, ◌&&◌, ◌==◌, not, nat_le, List, ◌++◌, length, codes, decimal}
use Rattle.std.specs.List.{list_all}
use Rattle.mg_words.specs.Limits.{name_limit}
use Rattle.mg_words.specs.WordByte.{is_word_byte}

-- Whether a string is a word of 1 to 64 bytes.
abbrev pub is_term : List ℕ → Bool
is_term text =
    not (length text == 0) && nat_le (length text) name_limit && list_all is_word_byte text

-- The name of the termination with this number.
abbrev pub rtp_name : ℕ → List ℕ
rtp_name n = codes "RTP/" ++ decimal n
