use Rattle.std.proofs.Common.{refl, sym, ◌∙◌}
use Rattle.mg_audible.proofs.StepLemmas.{leads_media, leads_speech}
use Rattle.mg_audible.proofs.pair.Pair.media.Goals as goal

pub returns-then-is_speech : goal.returns-then-is_speech
returns-then-is_speech c =
    let self = c.args.self.now in
    record {
      value = leads_speech self.talker c.args.port c.args.source c.args.bytes.now c.media.result self.whole.state
          self.without.state c.media.new.self.state
          (λ v stands. sym (c.is_port_of-is_speech.ensures.value v stands) ∙ c.if-is_speech.true) c.media.ensures.taken;
      talker = refl;
    }

pub returns : goal.returns
returns c =
    let self = c.args.self.now in
    record {
      value = leads_media self.talker c.args.port c.args.source c.args.bytes.now c.media.result c.media-2.result
          self.whole.state self.without.state c.media.new.self.state c.media-2.new.self.state
          (λ v stands. sym (c.is_port_of-is_speech.ensures.value v stands) ∙ c.if-is_speech.false) c.media.ensures.taken
          c.media-2.ensures.taken;
      talker = refl;
    }
