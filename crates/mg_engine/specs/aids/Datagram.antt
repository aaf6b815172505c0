-- Packets to be sent.
use Rattle.std.specs.Prelude.{[], ◌∷◌, replicate}
use Rattle.mg_engine.specs.declared.datagram.Datagram.{Datagram}

-- A datagram of zeros, which fills the free entries of an outbox.
abbrev pub blank : Datagram
blank = record {
  from = 0;
  to = record { address = 0 ∷ 0 ∷ 0 ∷ 0 ∷ []; port = 0 };
  bytes = replicate 172 0;
}
