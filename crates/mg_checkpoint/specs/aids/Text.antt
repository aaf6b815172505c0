-- The text of a checkpoint. Its lines and script lines begin with different words.
use Rattle.std.specs.Prelude.{ℕ, ◌==◌, Bool, true, false, List, [], ◌∷◌, ◌++◌, codes, flat_map}
use Rattle.std.specs.Prelude.{count_by}
use Rattle.mg_words.specs.Mode.{mode_text}
use Rattle.mg_kept.specs.KeptReplies.{KeptReply}
use Rattle.mg_rooms.specs.declared.record.Record.{Record}
use Rattle.mg_rooms.specs.declared.context.Context.{Context}
use Rattle.mg_engine.specs.declared.sent_media.SentMedia.{SentMedia}
use Rattle.mg_checkpoint.specs.Said.{SaidTermination, Said}
use Rattle.mg_checkpoint.specs.aids.Forms.{numbered, closing, names, media_text, word}
use Rattle.mg_checkpoint.specs.aids.Forms.{rest_of_line}

-- The first line has the counts of control datagrams and ticks, and the second the next numbers.
abbrev pub opening_lines : (control ticks next_termination next_context : ℕ) → List ℕ
opening_lines control ticks next_termination next_context =
    numbered (codes "checkpoint after ") control
    ++ (numbered (codes "control datagrams and ") ticks ++ (codes "ticks\n"
    ++ (numbered (codes "next RTP/") next_termination ++ closing (codes "context ") next_context)))

abbrev pub first_lines : Said → List ℕ
first_lines s = opening_lines s.control s.ticks s.next_termination s.next_context

abbrev pub context_line : Context → List ℕ
context_line x =
    numbered (codes "context ") x.number ++ (codes "has " ++ (names x.members
    ++ closing (codes "in room ") x.room))

-- ## The line of a termination

abbrev pub place_text : Record → List ℕ
place_text r =
    numbered (codes "termination RTP/") r.number ++ (numbered (codes "context ") r.context
    ++ (numbered (codes "slot ") r.slot ++ numbered (codes "seat ") r.seat))

abbrev pub stream_text : Record → List ℕ
stream_text r =
    codes "mode " ++ (mode_text r.mode ++ (codes " " ++ numbered (codes "depth ") r.depth))

abbrev pub descriptors_text : Record → List ℕ
descriptors_text r =
    codes "local " ++ (media_text r.local ++ (codes "remote " ++ media_text r.remote))

abbrev pub record_text : Record → List ℕ
record_text r = place_text r ++ (stream_text r ++ descriptors_text r)

abbrev pub sending_text : Bool → List ℕ
sending_text true = codes "sending\n"
sending_text false = codes "paused\n"

abbrev pub sent_text : SentMedia → List ℕ
sent_text m =
    numbered (codes "timestamp ") m.timestamp ++ (numbered (codes "sequence ") m.sequence
    ++ (numbered (codes "sent ") m.sent ++ (numbered (codes "octets ") m.octets
    ++ sending_text m.is_sending)))

-- ## Listeners and terminations

-- The line of the talkers that a listener may not hear.
abbrev pub listener_line : ℕ → List ℕ → List ℕ
listener_line listener numbers =
    numbered (codes "listener RTP/") listener
    ++ (codes "has " ++ (names numbers ++ codes "muted\n"))

-- The line of the talkers that a listener may not hear, or nothing if there are none.
abbrev pub muted_line : ℕ → List ℕ → List ℕ
muted_line listener [] = []
muted_line listener (n ∷ ns) = listener_line listener (n ∷ ns)

abbrev pub termination_lines : SaidTermination → List ℕ
termination_lines t =
    (record_text t.termination ++ sent_text t.sent) ++ muted_line t.termination.number t.muted

-- ## The whole text

abbrev pub reply_line : KeptReply → List ℕ
reply_line r =
    numbered (codes "reply ") r.number ++ (codes "to " ++ (word r.sender ++ rest_of_line r.text))

abbrev pub body_of : Said → List ℕ
body_of s =
    first_lines s ++ (flat_map context_line s.contexts
    ++ (flat_map termination_lines s.terminations ++ flat_map reply_line s.replies))

-- The last line says how many lines are before it.
abbrev pub closing_line : (lines : ℕ) → List ℕ
closing_line lines = numbered (codes "end after ") lines ++ codes "lines\n"

abbrev pub last_line : List ℕ → List ℕ
last_line body = closing_line (count_by (λ b. b == 10) body)

abbrev pub text_of : Said → List ℕ
text_of s = body_of s ++ last_line (body_of s)
