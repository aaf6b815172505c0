-- Modes of a stream (RFC 3525, section 7.1.7), seen from outside the context. Except in `Loopback`, a termination that
-- receives from its peer is heard in the context, and one that sends to its peer hears the context.
use Rattle.std.specs.Prelude.{ℕ, List, Bool, true, false, codes}
use Rattle.mg_words.specs.declared.mode.Mode.{Mode}
use Rattle.mg_words.specs.declared.mode.Mode.TheVariants.{Inactive, SendOnly, ReceiveOnly}
use Rattle.mg_words.specs.declared.mode.Mode.TheVariants.{SendReceive, Loopback}

-- Whether the other members can hear a termination in this mode.
abbrev pub talks : Mode → Bool
talks ReceiveOnly = true
talks SendReceive = true
talks _ = false

-- Whether a termination in this mode can hear the other members.
abbrev pub listens : Mode → Bool
listens SendOnly = true
listens SendReceive = true
listens _ = false

-- The keyword in its long form.
unfoldable pub mode_text : Mode → List ℕ
mode_text Inactive = codes "Inactive"
mode_text SendOnly = codes "SendOnly"
mode_text ReceiveOnly = codes "ReceiveOnly"
mode_text SendReceive = codes "SendReceive"
mode_text Loopback = codes "Loopback"
