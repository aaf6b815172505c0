-- One termination (RFC 3525, section 6.2).
use Rattle.std.specs.Prelude.{ℕ, None, Result, Ok, unwrap_or}
use Rattle.mg_sdp.specs.Choice.{local_choice, remote_choice}
use Rattle.mg_words.specs.declared.mode.Mode.TheVariants.{Inactive}
use Rattle.mg_words.specs.declared.error_number.ErrorNumber.{ErrorNumber}
use Rattle.mg_rooms.specs.declared.settings.Settings.{Settings}
use Rattle.mg_rooms.specs.declared.limits.Limits.{Limits}
use Rattle.mg_rooms.specs.declared.record.Record.{Record}
use Rattle.mg_rooms.specs.declared.place.EntryPlace.{EntryPlace}
use Rattle.mg_rooms.specs.Limits.{slot_port}
use Rattle.mg_words.specs.Limits.{first_depth}
use Rattle.mg_words.specs.ResultSteps.{◌>>=◌}
use Rattle.mg_rooms.specs.Settings.{depth_after, media_after}

-- A new termination, which is inactive.
abbrev pub fresh : ℕ → ℕ → EntryPlace → Record
fresh number slot place =
    record {
      number = number;
      context = place.context;
      slot = slot;
      seat = place.seat;
      mode = Inactive;
      depth = first_depth;
      local = None;
      remote = None;
    }

-- The termination at another place, with all other fields unchanged.
abbrev pub at_place : Record → EntryPlace → Record
at_place old place = record old { context = place.context; seat = place.seat }

-- The termination with a command's settings applied, or the error in its media.
abbrev pub with_settings : Limits → Settings → Record → Result Record ErrorNumber
with_settings limits settings old = do
  local ← media_after (local_choice limits.address (slot_port limits old.slot)) settings.local
      old.local
  remote ← media_after remote_choice settings.remote old.remote
  Ok (record old {
    mode = unwrap_or settings.mode old.mode;
    depth = depth_after settings.depth old.depth;
    local = local;
    remote = remote;
  })
