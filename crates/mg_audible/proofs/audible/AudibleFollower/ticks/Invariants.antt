use Rattle.std.proofs.Common.{◌≡◌, ◌++◌, List}
use Rattle.mg_core.specs.Follow.{ticks_of}
use Rattle.mg_core.specs.Note.{Note}
use Rattle.mg_core.specs.World.{World}
use Rattle.mg_audible.specs.aids.Keeping.{KeepsTimed}
use Rattle.mg_audible.proofs.audible.AudibleFollower.ticks.Given as goal

abbrev pub invariant-loop : goal.invariant-loop
invariant-loop g l = record {
  talker : l.self.pair.talker ≡ l.initial.self.pair.talker;
  keeps : (start : g.row.S.Denot) (base : World) (notes : List Note) →
      KeepsTimed base l.initial.self.pair.talker notes l.initial.self.pair.whole.state
      l.initial.self.pair.without.state l.initial.self.clock l.initial.self.open
      (g.S.Sink.told start l.initial.self.sink) →
      KeepsTimed base l.initial.self.pair.talker (notes ++ ticks_of l.counter) l.self.pair.whole.state
      l.self.pair.without.state l.self.clock l.self.open (g.S.Sink.told start l.self.sink);
}
