-- The findings of a walk over a command's descriptors, part by part.
use Rattle.std.specs.Prelude.{◌≡◌, ℕ, ◌||◌, false, List, Option, None, Some, IfNone}
use Rattle.std.specs.List.{fold}
use Rattle.std.specs.Option.{option_or}
use Rattle.mg_words.specs.declared.error_number.ErrorNumber.{ErrorNumber}
use Rattle.mg_commands.specs.declared.command_parameters.CommandParameters.{CommandParameters}
use Rattle.mg_commands.specs.declared.findings.Findings.{Findings}
use Rattle.mg_commands.specs.declared.part.Part.{Part}
use Rattle.mg_commands.specs.CommandParameters.{mode_in, depth_in, local_in, remote_in}
use Rattle.mg_commands.specs.CommandParameters.{is_audit, is_media_audit, is_statistics_audit}
use Rattle.mg_commands.specs.Support.{property_fault}

abbrev pub no_parameters : CommandParameters
no_parameters =
    record {
      settings = record { mode = None; depth = None; local = None; remote = None };
      has_audit = false;
      audits_media = false;
      audits_statistics = false;
    }

abbrev pub asked_with : List ℕ → CommandParameters → Part → CommandParameters
asked_with source a x =
    record {
      settings = record {
        mode = option_or a.settings.mode (mode_in x);
        depth = option_or a.settings.depth (depth_in source x);
        local = option_or a.settings.local (local_in source x);
        remote = option_or a.settings.remote (remote_in source x);
      };
      has_audit = a.has_audit || is_audit x;
      audits_media = a.audits_media || is_media_audit x;
      audits_statistics = a.audits_statistics || is_statistics_audit x;
    }

abbrev pub nothing_found : Findings
nothing_found = record { parameters = no_parameters; fault = None }

-- The earlier findings if there is a fault, otherwise the new findings.
abbrev pub unless_faulty : Option ErrorNumber → (before after : Findings) → Findings
unless_faulty (Some e) before after = before
unless_faulty None before after = after

abbrev pub with_part : List ℕ → Findings → Part → Findings
with_part source a x = unless_faulty a.fault a (record {
  parameters = asked_with source a.parameters x;
  fault = property_fault source x;
})

abbrev pub with_parts : List ℕ → Findings → List Part → Findings
with_parts source a xs = fold (with_part source) a xs

-- The parts were read up to the first fault or, without a fault, to the end.
pub record Reads (source : List ℕ) (fault : Option ErrorNumber) (xs : List Part)
    (old new : Findings) (result : Option ErrorNumber) : Type 0 where
  pub value : result ≡ fault
  pub found : IfNone result (new ≡ with_parts source old xs)
