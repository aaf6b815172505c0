use Rattle.mg_engine.proofs.Common.{view}
use Rattle.mg_engine.proofs.RestoringLemmas.{kept_members, together_at, word_said}
use Rattle.mg_engine.proofs.engine.Engine.set_word.Goals as goal

pub set_word-requires-clause-together : goal.set_word-requires-clause-together
set_word-requires-clause-together c =
    let (t, l, s) = c.in-Some.ensures.some in
    together_at c.self.inside.rooms c.self.inside.flows c.args.talker c.args.listener t l c.in-Some.from c.in-Some.to
    c.self.invariant.sound c.self.invariant.members s

pub invariant_of-self : goal.invariant_of-self
invariant_of-self c =
    let h = c.self.invariant in
    record {
      sound = h.sound;
      limits = h.limits;
      media = h.media;
      held = h.held;
      members = kept_members c.self.inside.rooms c.self.inside.flows c.set_word.new.self c.set_word.ensures.places h.members;
      seats = h.seats;
      places = h.places;
      row_count = h.row_count;
      joined = h.joined;
    }

pub returns-in-Some-clause-word : goal.returns-in-Some-clause-word
returns-in-Some-clause-word c =
    let (t, l, s) = c.in-Some.ensures.some in
    rw (← c.self.view_is) (λ _. word_said (view c.self.inside) c.set_word.new.self c.args.talker c.args.listener t l
    c.in-Some.from c.in-Some.to c.args.is_heard c.self.invariant.sound c.self.invariant.members s
    c.set_word.ensures.hears)

pub returns-in-Some-clause-quiet : goal.returns-in-Some-clause-quiet
returns-in-Some-clause-quiet c = rw (← c.self.view_is) (λ quiet n r found. quiet n r found)
