use Rattle.std.proofs.Common.{ℕ, ◌*◌, refl, sym, ap, subst, ◌∙◌}
use Rattle.mg_text.specs.MessageReading.{Read}
use Rattle.mg_engine.specs.aids.Stands.{EngineState}
use Rattle.mg_engine.specs.Work.{RisesAtMost}
use Rattle.mg_engine.proofs.WorkLemmas.{stays}
use Rattle.mg_core.specs.aids.CoreView.{CoreView}
use Rattle.mg_core.specs.declared.answer.Answer.TheVariants.{Send}
use Rattle.mg_core.specs.declared.state.CoreState.{CoreState}
use Rattle.mg_core.specs.Step.{reported}
use Rattle.mg_core.specs.Work.{edits_by}
use Rattle.mg_core.specs.World.{with_control}
use Rattle.mg_core.specs.aids.Stands.{StandsFor}
use Rattle.mg_core.proofs.AnswerLemmas.{refuses}
use Rattle.mg_core.proofs.HeadlineLemmas.{continues}
use Rattle.mg_core.proofs.machine.Core.run.Goals as goal

pub returns-in-Message-clause-answered : goal.returns-in-Message-clause-answered
returns-in-Message-clause-answered c w h =
    let held = subst (λ (x : CoreView). StandsFor x.state w) (sym c.self.view_is) h in
    let reads = rw c.in-Message.is at c.requires.reading in
    let (next, represents, stands) = c.reply_to.ensures.replied (with_control w) (c.count_control.ensures.counted w held) in (
      next,
      (
        reported c.reply_to.result c.reply_to.new.self.answer,
        (Read c.in-Message.message, reads.0, represents),
        refl,
      ),
      stands,
    )

pub returns-in-Refused-clause-answered : goal.returns-in-Refused-clause-answered
returns-in-Refused-clause-answered c w h =
    let held = subst (λ (x : CoreView). StandsFor x.state w) (sym c.self.view_is) h in
    let counted = c.count_control.ensures.counted w held in
    let reads = rw c.in-Refused.is at c.requires.reading in
    let (reading, is, refused) = refuses c.args.bytes.now c.in-Refused.number reads (with_control w) in (
      with_control w,
      (
        reported Send c.refuse.new.self.answer,
        (reading, is, refused ∙ c.refuse.ensures.refused (with_control w) counted),
        refl,
      ),
      subst (λ (s : CoreState). StandsFor s (with_control w)) (sym c.refuse.ensures.state) counted,
    )

pub returns-in-Message-clause-headline : goal.returns-in-Message-clause-headline
returns-in-Message-clause-headline c = continues _ _ _ _ (returns-in-Message-clause-answered c)

pub returns-in-Refused-clause-headline : goal.returns-in-Refused-clause-headline
returns-in-Refused-clause-headline c = continues _ _ _ _ (returns-in-Refused-clause-answered c)

pub returns-in-Message-clause-work : goal.returns-in-Message-clause-work
returns-in-Message-clause-work c w h =
    let held = subst (λ (x : CoreView). StandsFor x.state w) (sym c.self.view_is) h in
    let reads = rw c.in-Message.is at c.requires.reading in
    let rises = c.reply_to.ensures.work (with_control w) (c.count_control.ensures.counted w held) in
    let edits = edits_by c.args.bytes.now (Read c.in-Message.message) (with_control w) in
    let before = ap (λ (e : EngineState). e.sums.work) c.count_control.ensures.engine ∙
    ap (λ (x : CoreView). x.state.engine.sums.work) c.self.view_is in (
      edits,
      (Read c.in-Message.message, reads.0, refl),
      subst (λ (n : ℕ). RisesAtMost (4 * edits) n c.reply_to.new.self.state.engine.sums.work) before rises,
    )

pub returns-in-Refused-clause-work : goal.returns-in-Refused-clause-work
returns-in-Refused-clause-work c w h =
    let reads = rw c.in-Refused.is at c.requires.reading in
    let (reading, is, refused) = refuses c.args.bytes.now c.in-Refused.number reads (with_control w) in
    let edits = edits_by c.args.bytes.now reading (with_control w) in
    let same = ap (λ (s : CoreState). s.engine.sums.work) c.refuse.ensures.state ∙
    ap (λ (e : EngineState). e.sums.work) c.count_control.ensures.engine ∙
    ap (λ (x : CoreView). x.state.engine.sums.work) c.self.view_is in (
      edits,
      (reading, is, refl),
      stays (4 * edits) c.args.self.now.state.engine.sums.work
          c.refuse.new.self.state.engine.sums.work same,
    )
