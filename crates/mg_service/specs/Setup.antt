-- The setup of a session.
use Rattle.std.specs.Prelude.{ℕ, unwrap_or}
use Rattle.std.specs.Option.{option_map}
use Rattle.mg_engine.specs.declared.config.Config.{Config}
use Rattle.mg_serve.specs.Setup.{Setup}
use Rattle.mg_service.specs.Title.{title_line}
use Rattle.mg_service.specs.declared.service.Service.{Service}

-- The setup of a session, as the program creates it. A fence begins at the number that an operator sets, or by default
-- at the number that the journal has reached. A renewed journal begins with the title's line.
abbrev pub setup_of : Config → (reached : ℕ) → Service → Setup
setup_of config reached service = record {
  config = config;
  controllers = service.controllers;
  symmetric_rtp = service.symmetric_rtp;
  journal = option_map (λ path. service.durability) service.journal;
  fence = option_map (λ strict.
      record { reached = unwrap_or service.fence_from reached; strict = strict }) service.fence;
  head = title_line config;
  reached = unwrap_or service.fence_from reached;
}
