-- Replies that can be written.
use Rattle.std.specs.Prelude.{◌≡◌, ◌||◌, Bool, true, false}
use Rattle.mg_reply.specs.Reply.{Answered, is_refusal, last_is_action}

-- Whether a reply can be written: it is a single error, or its last action has ended, or it is marked as too long.
abbrev pub is_whole : Answered → Bool
is_whole r = r.is_long || is_refusal r.items || last_is_action false r.items

abbrev pub IsWhole : Answered → Type 0
IsWhole r = is_whole r ≡ true
