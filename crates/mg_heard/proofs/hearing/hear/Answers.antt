use Rattle.std.proofs.Common.{◌≡◌, ◌∷◌, List, [], ap, length, map, subst, ◌∙◌}
use Rattle.std.specs.List.{refill}
use Rattle.mg_core.specs.Follow.{IsFollowed}
use Rattle.mg_core.specs.Note.{Note, events_in}
use Rattle.mg_core.specs.declared.state.CoreState.{CoreState}
use Rattle.mg_heard.specs.Told.{TellsAll}
use Rattle.mg_heard.specs.aids.Calling.{AreCalled, AreMissing, called}
use Rattle.mg_heard.specs.aids.Keeping.{KeepsHeard}
use Rattle.mg_heard.proofs.CallingLemmas.{first_single, followed_more, single}
use Rattle.mg_heard.proofs.ContinueLemmas.{written}
use Rattle.mg_heard.proofs.hearing.hear.Goals as goal

pub returns-in_ok-sink-in-Ok-resume_from-clause-told : goal.returns-in_ok-sink-in-Ok-resume_from-clause-told
returns-in_ok-sink-in-Ok-resume_from-clause-told g c base talker listener stands told new =
    let first = c.in-Ok.follower in
    let vec = c.in-Ok-from_array.rolls in
    let at = c.deref_mut.ensures.value in
    let rolls = refill vec.len vec.items c.call_all.new.rolls in
    let is : rolls ≡ called base.gateway c.args.roll ∷ [] =
    written vec.len vec.items c.call_all.new.rolls vec.ok.0 (c.call_all.auto.rolls ∙ ap length at)
    ∙ c.call_all.ensures.value base stands ∙ ap (map (called base.gateway)) (at ∙ c.in-Ok-from_array.ensures.items) in
    let heard = c.resume_from.new.follower.follower in
    let last = c.resume_from.new.follower.rolls.items in
    let missing = c.missing_in-missing.result in
    let input = g.R.Read.remaining c.args.reader.now in
    let rest = g.R.Read.remaining c.resume_from.new.reader in
    let state = c.in-Ok-resume_from.core.state in
    subst (λ (s : g.row.S.Denot). (state : CoreState) × IsFollowed base input rest state
    (λ notes. AreMissing base (events_in notes) talker listener missing
    × TellsAll base notes (λ extent xs. g.S.Sink.told s c.in_ok-sink-in-Ok-resume_from.sink xs
    × (c.in_ok-sink-in-Ok-resume_from.extent ≡ extent))))
    c.in-Ok.ensures.sink (
      state,
      followed_more base input rest state
          (λ notes. KeepsHeard base notes heard.clock heard.is_changed heard.open (g.S.Sink.told first.sink heard.sink)
          × AreCalled base (events_in notes) rolls last)
          (λ notes. AreMissing base (events_in notes) talker listener missing
          × TellsAll base notes (λ extent xs. g.S.Sink.told first.sink c.in_ok-sink-in-Ok-resume_from.sink xs
          × (c.in_ok-sink-in-Ok-resume_from.extent ≡ extent)))
          (λ notes run f. (
            single base (events_in notes) talker listener c.args.roll rolls last missing
                is new (λ x one. c.missing_in-missing.ensures.value x (rw c.as_slice.ensures.value one)) f.1,
            c.in_ok-sink-in-Ok-resume_from.ensures.value first.sink base notes run f.0,
          ))
          (c.in-Ok-resume_from.ensures.followed base stands (
            c.in-Ok.ensures.start base told,
            first_single base talker listener c.args.roll rolls is new,
          )),
    )
