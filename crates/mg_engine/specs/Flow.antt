-- Who hears whom, according to the modes and the history of edits (RFC 3525, sections 7.1.7 and 7.1.18). The rule that
-- a newcomer and every member hear each other is this project's own.
use Rattle.std.specs.Prelude.{ℕ, ◌==◌, ◌&&◌, ◌||◌, not, Bool, true, List, [], ◌∷◌, is_some}
use Rattle.std.specs.Prelude.{if◌then◌else◌}
use Rattle.std.specs.List.{list_any}
use Rattle.mg_topology.specs.Triple.{permits}
use Rattle.mg_words.specs.Mode.{talks, listens}
use Rattle.mg_rooms.specs.Registry.{record_at}
use Rattle.mg_engine.specs.Gateway.{Gateway, ContextEdit, Enter, Leave, Apply, context_of, mode_of}

abbrev pub has : List ℕ → ℕ → Bool
has members n = list_any (λ m. m == n) members

-- Whether the talker is in the first set of a triple and the listener in the second.
abbrev pub is_forward : List ℕ → List ℕ → ℕ → ℕ → Bool
is_forward first second talker listener = has first talker && has second listener

-- Whether a triple mentions a pair: one of the two is in its first set and the other in its second.
abbrev pub mentions : List ℕ → List ℕ → ℕ → ℕ → Bool
mentions first second a b = is_forward first second a b || is_forward first second b a

-- Whether the last word on a pair lets the listener hear the talker, looking back from the newest edit. The last word
-- is the last triple that mentions the pair after both entered their context. Without a last word, the two hear each
-- other.
abbrev pub may_hear : List ContextEdit → ℕ → ℕ → Bool
may_hear [] talker listener = true
may_hear (Enter n ∷ es) talker listener =
    if (talker == n) || (listener == n) then true else may_hear es talker listener
may_hear (Leave n ∷ es) talker listener = may_hear es talker listener
may_hear (Apply first second association ∷ es) talker listener =
    if mentions first second talker listener
    then permits association (is_forward first second talker listener)
    else may_hear es talker listener

-- Whether the two numbers name different terminations in the same context.
abbrev pub share_context : Gateway → ℕ → ℕ → Bool
share_context w a b =
    is_some (record_at w.rooms a)
    && (is_some (record_at w.rooms b)
    && ((context_of w a == context_of w b) && not (a == b)))

-- Whether the listener hears the talker, regardless of modes: they share a context, and the last word allows it.
abbrev pub hears : Gateway → ℕ → ℕ → Bool
hears w talker listener = share_context w talker listener && may_hear w.edits talker listener

-- Whether the talker is silenced for the listener: they share a context, the talker talks, and the last word mutes it
-- for the listener.
abbrev pub is_silenced : Gateway → ℕ → ℕ → Bool
is_silenced w talker listener =
    share_context w talker listener
    && (talks (mode_of w talker) && not (may_hear w.edits talker listener))

-- Whether the talker's speech flows to the listener. They must be different members of the same context, the talker
-- must talk, the listener must listen, and the last word must allow it. A number that doesn't name a termination has no
-- flow, because it neither talks nor listens.
abbrev pub flow : Gateway → ℕ → ℕ → Bool
flow w talker listener =
    (context_of w talker == context_of w listener)
    && (not (talker == listener)
    && (talks (mode_of w talker)
    && (listens (mode_of w listener)
    && may_hear w.edits talker listener)))
