-- Everything that is reported to a sink about a talker: the intervals in which the talker was audible, for which the
-- laws hold, and all gaps.
use Rattle.std.specs.Prelude.{◌≡◌, ℕ, List, [], reverse, All}
use Rattle.mg_core.specs.Note.{Note, events_in}
use Rattle.mg_core.specs.World.{World}
use Rattle.mg_heard.specs.declared.entry.Entry.{Entry}
use Rattle.mg_heard.specs.Times.{gaps_of}
use Rattle.mg_heard.specs.Told.{HasMoments, IsDated, audible_in, gaps_in, intervals_in}
use Rattle.mg_audible.specs.Audible.{AreAudible}
use Rattle.mg_audible.specs.Laws.{TellsDifferences, TellsSpeech}

-- After a whole script, exactly its gaps and the intervals in which the talker is audible have been reported, in order
-- and each once. The intervals have the right dates.
pub record TellsAudible (base : World) (talker : ℕ) (notes : List Note)
    (Told : List Entry → Type 0) : Type 0 where
  pub xs : List Entry
  pub no_others : intervals_in xs ≡ []
  pub are : AreAudible base talker (events_in notes) (audible_in xs)
  pub differ : TellsDifferences base talker (events_in notes) (audible_in xs)
  pub speech : TellsSpeech base talker (events_in notes) (audible_in xs)
  pub gaps : gaps_in xs ≡ gaps_of (reverse notes)
  pub dated : All (HasMoments (IsDated (reverse notes))) xs
  pub told : Told xs
