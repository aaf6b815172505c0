-- Rolls while a script runs.
use Rattle.std.specs.Prelude.{◌≡◌, ◌&&◌, not, List, Option, is_some}
use Rattle.std.specs.List.{AllZip}
use Rattle.mg_engine.specs.Gateway.{Gateway}
use Rattle.mg_core.specs.declared.event.Event.{Event}
use Rattle.mg_core.specs.World.{World}
use Rattle.mg_heard.specs.declared.missing.Missing.{Missing}
use Rattle.mg_heard.specs.declared.party_name.PartyName.{PartyName}
use Rattle.mg_heard.specs.declared.roll.Roll.{Roll}
use Rattle.mg_heard.specs.declared.rule.Rule.{Rule}
use Rattle.mg_heard.specs.Came.{IsMissing, has_asked}

-- A roll after the terminations of this gateway were recorded.
abbrev pub called : Gateway → Roll → Roll
called w r = record r {
  missing = record {
    talker = r.missing.talker && not (has_asked r.talker w);
    listener = r.missing.listener && not (has_asked r.listener w);
  };
}

-- In a new roll, nobody has been recorded yet, so everybody who is named is missing.
pub record IsNew (talker listener : Option (List PartyName)) (r : Roll) : Type 0 where
  pub talker_is : r.talker ≡ talker
  pub listener_is : r.listener ≡ listener
  pub talker_waits : r.missing.talker ≡ is_some talker
  pub listener_waits : r.missing.listener ≡ is_some listener

-- The rolls are new, and each is for the talker and the listener of a rule.
abbrev pub AreFor : List Rule → List Roll → Type 0
AreFor rules rolls = AllZip (λ rule r. IsNew rule.talker rule.listener r) rules rolls

-- Whether the talker and the listener are missing after these events.
abbrev pub AreMissing : World → List Event → (talker listener : Option (List PartyName)) → Missing → Type 0
AreMissing base events talker listener missing =
    IsMissing base events talker missing.talker × IsMissing base events listener missing.listener

-- After these events, the roll `now` is for the same terminations as `start`, and records who is missing.
pub record IsCalled (base : World) (events : List Event) (start now : Roll) : Type 0 where
  pub talker_is : now.talker ≡ start.talker
  pub listener_is : now.listener ≡ start.listener
  pub missing : AreMissing base events start.talker start.listener now.missing

abbrev pub AreCalled : World → List Event → (start now : List Roll) → Type 0
AreCalled base events start now = AllZip (IsCalled base events) start now
