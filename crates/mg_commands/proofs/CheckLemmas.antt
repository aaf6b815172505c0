-- Checking a command's text by checking its descriptors.
use Rattle.std.proofs.Common.{◌≡◌, ℕ, List, refl}
use Rattle.mg_words.specs.ResultSteps.{◌>>=◌}
use Rattle.mg_words.specs.declared.error_number.ErrorNumber.TheVariants.{NotServed}
use Rattle.mg_rooms.specs.Results.{passes}
use Rattle.mg_text.specs.declared.command.Command.{Command}
use Rattle.mg_commands.specs.Outcome.{check_command}
use Rattle.mg_commands.specs.aids.Steps.{is_served, check_descriptors}

pub by_descriptors : (source : List ℕ) (c : Command) →
    check_command source c ≡ (passes (is_served c) NotServed >>= (λ _. check_descriptors source c.descriptors))
by_descriptors source c = refl
