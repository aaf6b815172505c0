-- The run for a question about a script.
use Rattle.std.specs.Prelude.{List, Result}
use Rattle.clap.specs.Walk.{Row}
use Rattle.clap.specs.Kinds.{Kinds}
use Rattle.mg_words.specs.ResultSteps.{◌>>=◌}
use Rattle.mg_arguments.specs.declared.heard_request.HeardRequest.{HeardRequest}
use Rattle.mg_arguments.specs.declared.invocation.Invocation.{Invocation}
use Rattle.mg_arguments.specs.Options.{request_in}

-- The run for the question that the options ask about a script.
abbrev pub request_for : (HeardRequest → Result Invocation Kinds) → List Row
    → Result Invocation Kinds
request_for run found = request_in found >>= run
