-- A test of whether two open flows are the same: everything that is printed about them is equal.
use Rattle.std.specs.Prelude.{◌==◌, ◌&&◌, Bool, List}
use Rattle.std.specs.List.{list_any}
use Rattle.std.specs.Option.{option_eq}
use Rattle.std.specs.Str.{bytes_eq}
use Rattle.mg_words.specs.declared.peer.Peer.{Peer}
use Rattle.mg_heard.specs.declared.open_flow.OpenFlow.{OpenFlow}

abbrev pub is_same_peer : Peer → Peer → Bool
is_same_peer a b = bytes_eq a.address b.address && (a.port == b.port)

-- Whether two open flows have the same pair, context and Remotes.
abbrev pub is_same : OpenFlow → OpenFlow → Bool
is_same a b =
    (a.listener == b.listener) && ((a.talker == b.talker) && ((a.context == b.context)
    && (option_eq is_same_peer a.listener_at b.listener_at
    && option_eq is_same_peer a.talker_at b.talker_at)))

abbrev pub has : List OpenFlow → OpenFlow → Bool
has flows x = list_any (is_same x) flows
