-- The outcome of an edit: its error, or the gateway after the edit together with what the edit changed.
use Rattle.std.specs.Prelude.{ℕ, List, ◌++◌, [], ◌∷◌, Some, None, Result, Ok, Err}
use Rattle.mg_rooms.specs.declared.record.Record.{Record}
use Rattle.mg_rooms.specs.declared.target.Target.{Target}
use Rattle.mg_rooms.specs.declared.target.Target.TheVariants as targets
use Rattle.mg_words.specs.declared.error_number.ErrorNumber.{ErrorNumber}
use Rattle.mg_words.specs.declared.error_number.ErrorNumber.TheVariants.{UnknownContext}
use Rattle.mg_words.specs.ResultSteps.{◌>>=◌}
use Rattle.mg_rooms.specs.declared.settings.Settings.{Settings}
use Rattle.mg_rooms.specs.Changes.{change}
use Rattle.mg_rooms.specs.Registry as rooms
use Rattle.mg_rooms.specs.Registry.{members_at}
use Rattle.mg_rooms.specs.Outcome as outcomes
use Rattle.mg_engine.specs.declared.edit.Edit.{Edit}
use Rattle.mg_engine.specs.declared.edit.Edit.TheVariants.{Add, Modify, Move, Subtract, Triples}
use Rattle.mg_engine.specs.declared.done.Done.{Done}
use Rattle.mg_engine.specs.declared.done.Done.TheVariants.{Termination, Topology}
use Rattle.mg_engine.specs.declared.topology_triple.TopologyTriple.{TopologyTriple}
use Rattle.mg_engine.specs.Steps.{play_after}
use Rattle.mg_engine.specs.Gateway.{Gateway, TerminationMedia, Enter, Leave, new_media}
use Rattle.mg_engine.specs.Triples.{check_triples, with_triples}

-- ## Media

abbrev pub tuned : Settings → TerminationMedia → TerminationMedia
tuned settings s = record s { play = play_after settings.depth s.play }

abbrev pub media_with : Settings → ℕ → List TerminationMedia → List TerminationMedia
media_with settings n list = change (λ s. s.number) n (λ s. Some (tuned settings s)) list

abbrev pub media_without : ℕ → List TerminationMedia → List TerminationMedia
media_without n list = change (λ s. s.number) n (λ _. None) list

-- ## Commands on a termination

-- The outcome for the gateway, given the outcome for the terminations and contexts.
abbrev pub done_with : (rooms.Registry → Record → Gateway)
    → Result (rooms.Registry × Record) ErrorNumber → Result (Gateway × Record) ErrorNumber
done_with f (Ok p) = Ok (f p.0 p.1, p.1)
done_with f (Err e) = Err e

abbrev pub added : Gateway → Settings → rooms.Registry → Record → Gateway
added w settings rooms r = record w {
  rooms = rooms;
  media = w.media ++ tuned settings (new_media r.number) ∷ [];
  edits = Enter r.number ∷ w.edits;
}

abbrev pub modified : Gateway → Settings → rooms.Registry → Record → Gateway
modified w settings rooms r = record w {
  rooms = rooms;
  media = media_with settings r.number w.media;
}

abbrev pub moved : Gateway → Settings → rooms.Registry → Record → Gateway
moved w settings rooms r =
    record (modified w settings rooms r) { edits = Enter r.number ∷ Leave r.number ∷ w.edits }

abbrev pub subtracted : Gateway → rooms.Registry → Record → Gateway
subtracted w rooms r = record w {
  rooms = rooms;
  media = media_without r.number w.media;
  edits = Leave r.number ∷ w.edits;
}

abbrev pub add : Gateway → Target → Settings → Result (Gateway × Record) ErrorNumber
add w target settings = done_with (added w settings) (outcomes.add w.rooms target settings)

abbrev pub modify : Gateway → Target → ℕ → Settings → Result (Gateway × Record) ErrorNumber
modify w target n settings =
    done_with (modified w settings) (outcomes.modify w.rooms target n settings)

abbrev pub move_to : Gateway → Target → ℕ → Settings → Result (Gateway × Record) ErrorNumber
move_to w target n settings =
    done_with (moved w settings) (outcomes.move_to w.rooms target n settings)

abbrev pub subtract : Gateway → Target → ℕ → Result (Gateway × Record) ErrorNumber
subtract w target n = done_with (subtracted w) (outcomes.subtract w.rooms target n)

-- ## Triples

-- The number of the action's context, if the context exists.
abbrev pub existing_context : rooms.Registry → Target → Result ℕ ErrorNumber
existing_context w (targets.Number c) = do
  _ ← outcomes.there w c
  Ok c
existing_context w _ = Err UnknownContext

-- The outcome of applying triples to the current members: either all triples are applied, or none.
unfoldable pub apply_triples : Gateway → Target → List TopologyTriple
    → Result (Gateway × ℕ) ErrorNumber
apply_triples w target xs = do
  c ← existing_context w.rooms target
  _ ← check_triples (members_at w.rooms c) xs
  Ok (record w { edits = with_triples (members_at w.rooms c) xs w.edits }, c)

-- ## Edits

abbrev pub Outcome : Type 0
Outcome = Result (Gateway × Done) ErrorNumber

-- The outcome of a command as the outcome of an edit.
abbrev pub done_as : {A : Type 0} → (A → Done) → Result (Gateway × A) ErrorNumber → Outcome
done_as f (Ok p) = Ok (p.0, f p.1)
done_as f (Err e) = Err e

abbrev pub outcome : Gateway → Edit → Outcome
outcome w (Add target settings) = done_as Termination (add w target settings)
outcome w (Modify target n settings) = done_as Termination (modify w target n settings)
outcome w (Move target n settings) = done_as Termination (move_to w target n settings)
outcome w (Subtract target n) = done_as Termination (subtract w target n)
outcome w (Triples target xs) = done_as Topology (apply_triples w target xs.items)
