-- The parameters that a command's descriptors request (RFC 3525, sections 7.1.4 to 7.1.8 and 7.1.12).
use Rattle.std.specs.Prelude.{ℕ, ◌+◌, ◌/◌, Bool, true, false, List, Option, Some, None}
use Rattle.std.specs.Prelude.{Result, Ok, Err, if◌then◌else◌}
use Rattle.std.specs.List.{list_any}
use Rattle.std.specs.Option.{option_map}
use Rattle.mg_scan.specs.declared.span.Span.{Span}
use Rattle.mg_scan.specs.Span.{text_of}
use Rattle.mg_sdp.specs.declared.fault.SdpFault.{SdpFault}
use Rattle.mg_sdp.specs.declared.offer.Offer.{Offer}
use Rattle.mg_sdp.specs.Sessions.{sessions_of}
use Rattle.mg_words.specs.declared.mode.Mode.{Mode}
use Rattle.mg_rooms.specs.declared.media_setting.MediaSetting.{MediaSetting}
use Rattle.mg_rooms.specs.declared.media_setting.MediaSetting.TheVariants as settings
use Rattle.mg_text.specs.declared.descriptor.AuditWord.TheVariants as words
use Rattle.mg_text.specs.declared.descriptor.Descriptor.{Descriptor}
use Rattle.mg_text.specs.declared.media.ControlPart.TheVariants as controls
use Rattle.mg_commands.specs.declared.command_parameters.CommandParameters.{CommandParameters}
use Rattle.mg_commands.specs.declared.part.Part.{Part}
use Rattle.mg_commands.specs.declared.part.Part.TheVariants.{Audit, Audited, Local, Remote, Control}
use Rattle.mg_commands.specs.Part.{parts_of}
use Rattle.mg_commands.specs.Search.{first_of}
use Rattle.mg_commands.specs.Support.{is_jitter, jitter_of}

-- ## One part

abbrev pub mode_in : Part → Option Mode
mode_in (Control n (controls.Mode mode)) = Some mode
mode_in _ = None

-- The depth, in frames of 20 ms, of a play list that holds this many milliseconds, rounded up.
abbrev pub frames_for : ℕ → ℕ
frames_for jitter = (jitter + 19) / 20

abbrev pub depth_in : List ℕ → Part → Option ℕ
depth_in source (Control n (controls.Property name value)) =
    if is_jitter source name then option_map frames_for (jitter_of source value) else None
depth_in source _ = None

-- The alternatives in the content of a Local or Remote, unless the content is unreadable.
abbrev pub offer_setting : Result (List (Option Offer)) SdpFault → MediaSetting
offer_setting (Ok alternatives) = settings.Offer alternatives
offer_setting (Err fault) = settings.Unreadable

abbrev pub setting_of : List ℕ → Span → MediaSetting
setting_of source text = offer_setting (sessions_of (text_of source text))

abbrev pub local_in : List ℕ → Part → Option MediaSetting
local_in source (Local n text) = Some (setting_of source text)
local_in source _ = None

abbrev pub remote_in : List ℕ → Part → Option MediaSetting
remote_in source (Remote n text) = Some (setting_of source text)
remote_in source _ = None

abbrev pub is_audit : Part → Bool
is_audit Audit = true
is_audit _ = false

abbrev pub is_media_audit : Part → Bool
is_media_audit (Audited words.Media) = true
is_media_audit _ = false

abbrev pub is_statistics_audit : Part → Bool
is_statistics_audit (Audited words.Statistics) = true
is_statistics_audit _ = false

-- ## All parts

abbrev pub parameters_of : List ℕ → List Descriptor → CommandParameters
parameters_of source xs =
    record {
      settings = record {
        mode = first_of mode_in (parts_of xs);
        depth = first_of (depth_in source) (parts_of xs);
        local = first_of (local_in source) (parts_of xs);
        remote = first_of (remote_in source) (parts_of xs);
      };
      has_audit = list_any is_audit (parts_of xs);
      audits_media = list_any is_media_audit (parts_of xs);
      audits_statistics = list_any is_statistics_audit (parts_of xs);
    }
