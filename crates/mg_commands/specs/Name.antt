-- Names of terminations (RFC 3525, section 6.2). This gateway names them RTP/1, RTP/2 and so on.
use Rattle.std.specs.Prelude.{ℕ, nat_eq, List, codes, if◌then◌else◌}
use Rattle.std.specs.List.{starts_with}
use Rattle.std.specs.Option.{option_map_or}
use Rattle.std.specs.Str.{bytes_eq, str_eq_ignore_ascii_case}
use Rattle.mg_words.specs.Cut.{after_prefix}
use Rattle.mg_words.specs.Numbers.{number_of}
use Rattle.mg_words.specs.Term.{rtp_name}
use Rattle.mg_commands.specs.declared.name.Name.{Name}
use Rattle.mg_commands.specs.declared.name.Name.TheVariants.{Root, Choose, All, Number, Other}

-- The meaning of the text after `RTP/`: `$`, `*`, or a number without a leading zero.
unfoldable pub name_in_rtp : List ℕ → Name
name_in_rtp text =
    if bytes_eq text (codes "$") then Choose
    else (if bytes_eq text (codes "*") then All
    else (if starts_with nat_eq text (codes "0") then Other
    else option_map_or Number (number_of text) Other))

unfoldable pub name_of : List ℕ → Name
name_of text =
    if str_eq_ignore_ascii_case text (codes "ROOT") then Root
    else (if bytes_eq text (codes "$") then Choose
    else (if bytes_eq text (codes "*") then All
    else option_map_or name_in_rtp (after_prefix (codes "RTP/") text) Other))

-- The spelling of a name in a reply: the gateway's own spelling if the name has a meaning, otherwise the name as
-- received.
abbrev pub written_as : List ℕ → Name → List ℕ
written_as text Root = codes "ROOT"
written_as text Choose = codes "$"
written_as text All = codes "*"
written_as text (Number n) = rtp_name n
written_as text Other = text

unfoldable pub written_name : List ℕ → List ℕ
written_name text = written_as text (name_of text)
