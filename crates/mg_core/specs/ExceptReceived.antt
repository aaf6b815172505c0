-- RTP datagrams change only speech: the packets that terminations received, and nothing that a controller set.
use Rattle.std.specs.Prelude.{◌≡◌, nat_lt, not, ◌&&◌, Bool, false, List, filter, length, map}
use Rattle.mg_words.specs.Limits.{message_limit}
use Rattle.mg_engine.specs.Apart.{without_arrivals}
use Rattle.mg_core.specs.declared.event.Event.{Event}
use Rattle.mg_core.specs.declared.event.Event.TheVariants.{Control}
use Rattle.mg_core.specs.declared.state.CoreState.{CoreState}
use Rattle.mg_core.specs.Apart.{key_of}
use Rattle.mg_core.specs.Base.{IsBase, depths_in}
use Rattle.mg_core.specs.Counting.{is_media}
use Rattle.mg_core.specs.Headline.{HasHistory}
use Rattle.mg_core.specs.Step.{Sent, Run}
use Rattle.mg_core.specs.World.{World}

-- Two worlds agree except for what was received. They have the same configuration, terminations, contexts and topology.
-- The media of each termination are equal, except for its play list, current frame and counters of received packets. So
-- the numbers of its ticks and sent packets are equal, and determine the header of its next packet. The worlds keep
-- replies to the same requests, in the same order, but the texts of these replies may differ, because they can report
-- received packets. They have counted the same number of ticks.
pub record AgreeExceptReceived (a b : World) : Type 0 where
  pub config : a.gateway.config ≡ b.gateway.config
  pub rooms : a.gateway.rooms ≡ b.gateway.rooms
  pub edits : a.gateway.edits ≡ b.gateway.edits
  pub media : map without_arrivals a.gateway.media ≡ map without_arrivals b.gateway.media
  pub replies : map key_of a.replies ≡ map key_of b.replies
  pub ticks : a.tally.ticks ≡ b.tally.ticks

-- A control datagram that is longer than any message. It is answered with an error, and only counted.
abbrev pub is_oversized : Event → Bool
is_oversized (Control source bytes) = nat_lt message_limit (length bytes)
is_oversized _ = false

-- The events that can have lasting effects: all except RTP datagrams and oversized control datagrams.
abbrev pub lasting : List Event → List Event
lasting events = filter (λ e. not (is_media e) && not (is_oversized e)) events

-- Suppose two worlds agree except for what was received. Then they still agree in this way after the same events, even
-- if only the first world receives the RTP datagrams and the oversized control datagrams.
abbrev pub RtpChangesSpeechOnly : Type 0
RtpChangesSpeechOnly =
    (a b x y : World) (events : List Event) (s t : List Sent)
    → AgreeExceptReceived a b → Run a events s x → Run b (lasting events) t y
    → AgreeExceptReceived x y

-- Suppose two gateways began with bases that agree except for what was received. Both had the same events, except that
-- only one of them received the RTP datagrams and the oversized control datagrams. Then their worlds agree except for
-- what was received. Their play lists also have the same depths, because only commands set a depth.
abbrev pub RtpChangesSpeechOnlyInHistories : Type 0
RtpChangesSpeechOnlyInHistories =
    (a b : World) (events : List Event) (s t : List Sent) (v w : World)
    (one other : CoreState) → IsBase a → IsBase b → AgreeExceptReceived a b
    → HasHistory a events s v one → HasHistory b (lasting events) t w other
    → AgreeExceptReceived v w × (depths_in v ≡ depths_in w)
