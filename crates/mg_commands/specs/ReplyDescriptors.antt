-- The descriptors with which a reply reports about a termination (RFC 3525, sections 7.2 and 7.1.12).
use Rattle.std.specs.Prelude.{◌||◌, not, Bool, true, false, ◌∷◌, Option, Some}
use Rattle.mg_rooms.specs.declared.media_setting.MediaSetting.{MediaSetting}
use Rattle.mg_rooms.specs.declared.media_setting.MediaSetting.TheVariants as settings
use Rattle.mg_commands.specs.declared.command_parameters.CommandParameters.{CommandParameters}
use Rattle.mg_commands.specs.declared.reply_descriptors.ReplyDescriptors.{ReplyDescriptors}

-- Whether a non-blank Local was set.
abbrev pub is_offer : Option MediaSetting → Bool
is_offer (Some (settings.Offer (x ∷ xs))) = true
is_offer _ = false

-- The descriptors for an AuditValue: the descriptors that the command audits.
abbrev pub descriptors_by_audit : CommandParameters → ReplyDescriptors
descriptors_by_audit parameters =
    record {
      media = parameters.audits_media;
      local = false;
      statistics = parameters.audits_statistics;
    }

-- The descriptors after an Add, Modify or Move: the descriptors that the command audits and, if it set a non-blank
-- Local, this Local.
abbrev pub descriptors_after : CommandParameters → ReplyDescriptors
descriptors_after parameters =
    record (descriptors_by_audit parameters) { local = is_offer parameters.settings.local }

-- The descriptors before a Subtract: the descriptors that the command audits or, without an audit, the counters.
abbrev pub descriptors_before : CommandParameters → ReplyDescriptors
descriptors_before parameters =
    record (descriptors_by_audit parameters) {
      statistics = parameters.audits_statistics || not parameters.has_audit;
    }
