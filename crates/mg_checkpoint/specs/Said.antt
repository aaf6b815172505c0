-- What a checkpoint says of a gateway.
use Rattle.std.specs.Prelude.{ℕ, not, ◌&&◌, ◌==◌, List, map, filter, zip}
use Rattle.mg_engine.specs.declared.sent_media.SentMedia.{SentMedia}
use Rattle.mg_engine.specs.Flow.{hears}
use Rattle.mg_engine.specs.Gateway.{Gateway, TerminationMedia}
use Rattle.mg_engine.specs.aids.Quiet.{sent_of}
use Rattle.mg_kept.specs.KeptReplies.{KeptReply}
use Rattle.mg_rooms.specs.declared.context.Context.{Context}
use Rattle.mg_rooms.specs.declared.record.Record.{Record}
use Rattle.mg_rooms.specs.Registry.{members_at}
use Rattle.mg_core.specs.World.{World, capped}

-- A termination: its record, what it has sent, and the members of its context that it may not hear.
pub record SaidTermination : Type 0 where
  pub termination : Record
  pub sent : SentMedia
  pub muted : List ℕ

-- The counts of control datagrams and ticks, the next numbers, the contexts and terminations in order of number, and
-- the kept replies, oldest first.
pub record Said : Type 0 where
  pub control : ℕ
  pub ticks : ℕ
  pub next_termination : ℕ
  pub next_context : ℕ
  pub contexts : List Context
  pub terminations : List SaidTermination
  pub replies : List KeptReply

-- The other members of a termination's context that the last word mutes for it, in order of entry.
abbrev pub muted_for : Gateway → Record → List ℕ
muted_for w r =
    filter (λ n. not (n == r.number) && not (hears w n r.number)) (members_at w.rooms r.context)

abbrev pub said_termination : Gateway → Record × TerminationMedia → SaidTermination
said_termination w (r, s) =
    record { termination = r; sent = sent_of w.config s; muted = muted_for w r }

abbrev pub said_terminations : Gateway → List SaidTermination
said_terminations w = map (said_termination w) (zip w.rooms.terminations w.media)

abbrev pub said_of : World → Said
said_of w = record {
  control = capped w.tally.control;
  ticks = capped w.tally.ticks;
  next_termination = w.gateway.rooms.next_termination;
  next_context = w.gateway.rooms.next_context;
  contexts = w.gateway.rooms.contexts;
  terminations = said_terminations w.gateway;
  replies = w.replies;
}
