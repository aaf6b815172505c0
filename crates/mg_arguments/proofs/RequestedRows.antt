-- The requests of some command lines, as examples.
use Rattle.std.proofs.Common.{◌≡◌, ℕ, Bool, true, false, List, [], ◌∷◌, Option, Some, None, Ok, Err, refl, codes, replicate}
use Rattle.clap.proofs.OnLiterals.{clap_on_literals}
use Rattle.clap.specs.Walk.{Text}
use Rattle.clap.specs.declared.error.kind.ErrorKind.TheVariants as kind
use Rattle.mg_words.specs.Address.{address_of}
use Rattle.mg_core.specs.declared.shown.Shown.TheVariants.{Sent, SentAndFlows}
use Rattle.mg_engine.specs.Config.{standard}
use Rattle.mg_arguments.specs.declared.invocation.Invocation.TheVariants.{Replay, Serve, Live}
use Rattle.mg_service.specs.declared.service.Service.{Service}
use Rattle.mg_journal.specs.declared.durability.Durability.TheVariants.{Written, Synced}
use Rattle.mg_service.specs.declared.config_options.ConfigOptions.{ConfigOptions}
use Rattle.mg_service.specs.ConfigOptions.{config_or}
use Rattle.mg_arguments.specs.Options.{requested, command_line, heard_options, options}

abbrev slots : Text → List Text
slots number = codes "replay" ∷ codes "--slots" ∷ number ∷ []

abbrev at_address : Text → List Text
at_address text = codes "serve" ∷ codes "--address" ∷ text ∷ []

-- No option of the configuration is given.
abbrev none_given : ConfigOptions
none_given = record {
  address = None;
  control_address = None;
  control_port = None;
  base_port = None;
  slots = None;
  first_termination = None;
  first_context = None;
  ssrc = None;
  sequence = None;
  timestamp = None;
}

-- A gateway that anybody can control, with this many seconds between reports, and without a recording.
abbrev anybody : ℕ → Service
anybody report = record {
  controllers = [];
  bind_addresses = [];
  report = report;
  records = false;
  symmetric_rtp = false;
  metrics = None;
  journal = None;
  durability = Written;
  checkpoint_every = 0;
  fence = None;
  fence_from = None;
  given = none_given;
}

-- A gateway that anybody can control, with these options of the configuration.
abbrev with_given : ConfigOptions → Service
with_given given = record (anybody 0) { given = given }

replay_by_itself : requested (codes "replay" ∷ []) ≡ Ok (Replay standard Sent)
unfolding requested command_line options config_or clap_on_literals
replay_by_itself = refl

serve_by_itself : requested (codes "serve" ∷ []) ≡ Ok (Serve standard (anybody 0))
unfolding requested command_line options config_or clap_on_literals
serve_by_itself = refl

live_by_itself : requested (codes "live" ∷ []) ≡ Ok (Live standard (anybody 0) 5)
unfolding requested command_line options config_or clap_on_literals
live_by_itself = refl

live_with_both : requested (codes "live" ∷ codes "--slots=4" ∷ codes "--late" ∷ codes "0" ∷ []) ≡
    Ok (Live (record standard { slots = 4 }) (with_given (record none_given { slots = Some 4 })) 0)
unfolding requested command_line options config_or clap_on_literals
live_with_both = refl

with_reports : requested (codes "serve" ∷ codes "--report=10" ∷ []) ≡ Ok (Serve standard (anybody 10))
unfolding requested command_line options config_or clap_on_literals
with_reports = refl

live_with_reports : requested (codes "live" ∷ codes "--report=60" ∷ codes "--late=1" ∷ []) ≡ Ok (Live standard (anybody 60)
    1)
unfolding requested command_line options config_or clap_on_literals
live_with_reports = refl

serve_is_never_late : requested (codes "serve" ∷ codes "--late=5" ∷ []) ≡ Err (kind.UnknownArgument ∷ [])
unfolding requested command_line options config_or clap_on_literals
serve_is_never_late = refl

serve_records : requested (codes "serve" ∷ codes "--record" ∷ []) ≡ Ok (Serve standard (record (anybody 0) {
  records = true;
}))
unfolding requested command_line options config_or clap_on_literals
serve_records = refl

live_records : requested (codes "live" ∷ codes "--record" ∷ codes "--late=1" ∷ []) ≡
    Ok (Live standard (record (anybody 0) { records = true }) 1)
unfolding requested command_line options config_or clap_on_literals
live_records = refl

live_symmetric : requested (codes "live" ∷ codes "--symmetric-rtp" ∷ []) ≡
    Ok (Live standard (record (anybody 0) { symmetric_rtp = true }) 5)
unfolding requested command_line options config_or clap_on_literals
live_symmetric = refl

live_writes_metrics : requested (codes "live" ∷ codes "--metrics" ∷ codes "m.prom" ∷ []) ≡
    Ok (Live standard (record (anybody 0) { metrics = Some (codes "m.prom") }) 5)
unfolding requested command_line options config_or clap_on_literals
live_writes_metrics = refl

live_journals : requested (codes "live" ∷ codes "--journal=j.txt" ∷ []) ≡
    Ok (Live standard (record (anybody 0) { journal = Some (codes "j.txt") }) 5)
unfolding requested command_line options config_or clap_on_literals
live_journals = refl

serve_syncs : requested (codes "serve" ∷ codes "--sync" ∷ codes "--journal" ∷ codes "j.txt" ∷ []) ≡
    Ok (Serve standard (record (anybody 0) { journal = Some (codes "j.txt"); durability = Synced }))
unfolding requested command_line options config_or clap_on_literals
serve_syncs = refl

serve_renews : requested (codes "serve" ∷ codes "--journal=j.txt" ∷ codes "--checkpoint-every=50" ∷ []) ≡
    Ok (Serve standard (record (anybody 0) { journal = Some (codes "j.txt"); checkpoint_every = 50 }))
unfolding requested command_line options config_or clap_on_literals
serve_renews = refl

sync_without_a_journal : requested (codes "live" ∷ codes "--sync" ∷ []) ≡ Err (kind.ValueValidation ∷ [])
unfolding requested command_line options config_or clap_on_literals
sync_without_a_journal = refl

-- A gateway with a fence, which only 10.0.0.1 can control.
abbrev fenced : (strict : Bool) → (from : Option ℕ) → Service
fenced strict from = record (anybody 0) {
  controllers = (10 ∷ 0 ∷ 0 ∷ 1 ∷ []) ∷ [];
  fence = Some strict;
  fence_from = from;
}

live_behind_a_fence : requested (codes "live" ∷ codes "--fence" ∷ codes "--controller=10.0.0.1" ∷ []) ≡
    Ok (Live standard (fenced false None) 5)
unfolding requested command_line options config_or address_of clap_on_literals
live_behind_a_fence = refl

serve_behind_a_strict_fence : requested (codes "serve" ∷ codes "--controller=10.0.0.1" ∷ codes "--fence-strict"
    ∷ codes "--fence-from" ∷ codes "17" ∷ []) ≡ Ok (Serve standard (fenced true (Some 17)))
unfolding requested command_line options config_or address_of clap_on_literals
serve_behind_a_strict_fence = refl

fence_without_controllers : requested (codes "live" ∷ codes "--fence" ∷ []) ≡ Err (kind.ValueValidation ∷ [])
unfolding requested command_line options config_or clap_on_literals
fence_without_controllers = refl

fence_from_without_controllers : requested (codes "live" ∷ codes "--fence-from=1" ∷ []) ≡ Err (kind.ValueValidation ∷ [])
unfolding requested command_line options config_or clap_on_literals
fence_from_without_controllers = refl

journal_without_a_path : requested (codes "serve" ∷ codes "--journal=" ∷ []) ≡ Err (kind.ValueValidation ∷ [])
unfolding requested command_line options config_or clap_on_literals
journal_without_a_path = refl

replay_journals_nothing : requested (codes "replay" ∷ codes "--journal=j.txt" ∷ []) ≡ Err (kind.UnknownArgument ∷ [])
unfolding requested command_line options config_or clap_on_literals
replay_journals_nothing = refl

metrics_without_a_path : requested (codes "live" ∷ codes "--metrics=" ∷ []) ≡ Err (kind.ValueValidation ∷ [])
unfolding requested command_line options config_or clap_on_literals
metrics_without_a_path = refl

serve_writes_no_metrics : requested (codes "serve" ∷ codes "--metrics=m.prom" ∷ []) ≡ Err (kind.UnknownArgument ∷ [])
unfolding requested command_line options config_or clap_on_literals
serve_writes_no_metrics = refl

-- A gateway behind a router that translates addresses one to one.
live_bound : requested (codes "live" ∷ codes "--address=203.0.113.5" ∷ codes "--bind-address" ∷ codes "10.0.0.1" ∷ []) ≡
    Ok (Live (record standard { address = 203 ∷ 0 ∷ 113 ∷ 5 ∷ []; control_address = 203 ∷ 0 ∷ 113 ∷ 5 ∷ [] })
    (record (with_given (record none_given { address = Some (203 ∷ 0 ∷ 113 ∷ 5 ∷ []) })) { bind_addresses = (10 ∷ 0 ∷ 0 ∷ 1 ∷ []) ∷ [] })
    5)
unfolding requested command_line options config_or address_of clap_on_literals
live_bound = refl

serve_bound_to_all : requested (codes "serve" ∷ codes "--bind-address=0.0.0.0" ∷ []) ≡
    Ok (Serve standard (record (anybody 0) { bind_addresses = (0 ∷ 0 ∷ 0 ∷ 0 ∷ []) ∷ [] }))
unfolding requested command_line options config_or address_of clap_on_literals
serve_bound_to_all = refl

serve_bound_to_two : requested (codes "serve" ∷ codes "--bind-address=10.0.0.2" ∷ codes "--bind-address" ∷ codes "10.0.0.1" ∷ [])
    ≡ Ok (Serve standard (record (anybody 0) { bind_addresses = (10 ∷ 0 ∷ 0 ∷ 2 ∷ []) ∷ (10 ∷ 0 ∷ 0 ∷ 1 ∷ []) ∷ [] }))
unfolding requested command_line options config_or address_of clap_on_literals
serve_bound_to_two = refl

live_bound_to_nine : requested (codes "live" ∷ replicate 9 (codes "--bind-address=10.0.0.1")) ≡ Err (kind.ValueValidation ∷ [])
unfolding requested command_line options config_or clap_on_literals
live_bound_to_nine = refl

bound_to_many : requested (codes "live" ∷ codes "--bind-address=224.0.0.1" ∷ []) ≡ Err (kind.ValueValidation ∷ [])
unfolding requested command_line options config_or address_of clap_on_literals
bound_to_many = refl

replay_binds_nothing : requested (codes "replay" ∷ codes "--bind-address=10.0.0.1" ∷ []) ≡ Err (kind.UnknownArgument ∷ [])
unfolding requested command_line options config_or clap_on_literals
replay_binds_nothing = refl

live_draws_the_others : requested (codes "live" ∷ codes "--ssrc=7" ∷ codes "--timestamp=0" ∷ []) ≡
    Ok (Live (record standard { ssrc = 7 }) (with_given (record none_given { ssrc = Some 7; timestamp = Some 0 })) 5)
unfolding requested command_line options config_or clap_on_literals
live_draws_the_others = refl

records_no_value : requested (codes "live" ∷ codes "--record=yes" ∷ []) ≡ Err (kind.TooManyValues ∷ [])
unfolding requested command_line options config_or clap_on_literals
records_no_value = refl

replay_with_flows : requested (codes "replay" ∷ codes "--flows" ∷ codes "--slots=4" ∷ []) ≡
    Ok (Replay (record standard { slots = 4 }) SentAndFlows)
unfolding requested command_line options config_or clap_on_literals
replay_with_flows = refl

live_has_no_flows : requested (codes "live" ∷ codes "--flows" ∷ []) ≡ Err (kind.UnknownArgument ∷ [])
unfolding requested command_line options config_or clap_on_literals
live_has_no_flows = refl

replay_records_nothing : requested (codes "replay" ∷ codes "--record" ∷ []) ≡ Err (kind.UnknownArgument ∷ [])
unfolding requested command_line options config_or clap_on_literals
replay_records_nothing = refl

first_numbers : requested (codes "live" ∷ codes "--first-context=7" ∷ codes "--first-termination" ∷ codes "9" ∷ []) ≡
    Ok (Live (record standard { first_termination = 9; first_context = 7 })
    (with_given (record none_given { first_termination = Some 9; first_context = Some 7 })) 5)
unfolding requested command_line options config_or clap_on_literals
first_numbers = refl

two_controllers : requested (codes "live" ∷ codes "--controller=10.0.0.1" ∷ codes "--controller" ∷ codes "10.0.0.2" ∷ [])
    ≡ Ok (Live standard (record (anybody 0) { controllers = (10 ∷ 0 ∷ 0 ∷ 1 ∷ []) ∷ (10 ∷ 0 ∷ 0 ∷ 2 ∷ []) ∷ [] }) 5)
unfolding requested command_line options config_or address_of clap_on_literals
two_controllers = refl

no_controller : requested (codes "serve" ∷ codes "--controller=localhost" ∷ []) ≡ Err (kind.ValueValidation ∷ [])
unfolding requested command_line options config_or address_of clap_on_literals
no_controller = refl

replay_has_no_controller : requested (codes "replay" ∷ codes "--controller=10.0.0.1" ∷ []) ≡ Err (kind.UnknownArgument ∷ [])
unfolding requested command_line options config_or clap_on_literals
replay_has_no_controller = refl

with_slots : requested (slots (codes "4")) ≡ Ok (Replay (record standard { slots = 4 }) Sent)
unfolding requested command_line options config_or clap_on_literals
with_slots = refl

serve_with_slots : requested (codes "serve" ∷ codes "--slots=4" ∷ []) ≡
    Ok (Serve (record standard { slots = 4 }) (with_given (record none_given { slots = Some 4 })))
unfolding requested command_line options config_or clap_on_literals
serve_with_slots = refl

-- The options accept 0 slots. The run rejects them later.
with_no_slots : requested (slots (codes "0")) ≡ Ok (Replay (record standard { slots = 0 }) Sent)
unfolding requested command_line options config_or clap_on_literals
with_no_slots = refl

with_two : requested (codes "replay" ∷ codes "--ssrc=4294967295" ∷ codes "--control-port" ∷ codes "4000" ∷ []) ≡
    Ok (Replay (record standard { ssrc = 4294967295; control_port = 4000 }) Sent)
unfolding requested command_line options config_or clap_on_literals
with_two = refl

with_plus : requested (slots (codes "+7")) ≡ Ok (Replay (record standard { slots = 7 }) Sent)
unfolding requested command_line options config_or clap_on_literals
with_plus = refl

with_address : requested (at_address (codes "10.0.0.1")) ≡
    Ok (Serve (record standard { address = 10 ∷ 0 ∷ 0 ∷ 1 ∷ []; control_address = 10 ∷ 0 ∷ 0 ∷ 1 ∷ [] })
    (with_given (record none_given { address = Some (10 ∷ 0 ∷ 0 ∷ 1 ∷ []) })))
unfolding requested command_line options config_or address_of clap_on_literals
with_address = refl

with_leading_zeros : requested (at_address (codes "010.00.0.001")) ≡
    Ok (Serve (record standard { address = 10 ∷ 0 ∷ 0 ∷ 1 ∷ []; control_address = 10 ∷ 0 ∷ 0 ∷ 1 ∷ [] })
    (with_given (record none_given { address = Some (10 ∷ 0 ∷ 0 ∷ 1 ∷ []) })))
unfolding requested command_line options config_or address_of clap_on_literals
with_leading_zeros = refl

unspecified_address : requested (at_address (codes "0.0.0.0")) ≡ Err (kind.ValueValidation ∷ [])
unfolding requested command_line options config_or address_of clap_on_literals
unspecified_address = refl

multicast_address : requested (at_address (codes "224.0.0.1")) ≡ Err (kind.ValueValidation ∷ [])
unfolding requested command_line options config_or address_of clap_on_literals
multicast_address = refl

greatest_address : requested (at_address (codes "223.255.255.255")) ≡
    Ok (Serve (record standard { address = 223 ∷ 255 ∷ 255 ∷ 255 ∷ []; control_address = 223 ∷ 255 ∷ 255 ∷ 255 ∷ [] })
    (with_given (record none_given { address = Some (223 ∷ 255 ∷ 255 ∷ 255 ∷ []) })))
unfolding requested command_line options config_or address_of clap_on_literals
greatest_address = refl

-- Control messages can have an address of their own.
two_addresses : requested (codes "live" ∷ codes "--control-address=10.0.0.1" ∷ codes "--address" ∷ codes "192.0.2.1" ∷ [])
    ≡ Ok (Live (record standard { address = 192 ∷ 0 ∷ 2 ∷ 1 ∷ []; control_address = 10 ∷ 0 ∷ 0 ∷ 1 ∷ [] })
    (with_given (record none_given {
      address = Some (192 ∷ 0 ∷ 2 ∷ 1 ∷ []);
      control_address = Some (10 ∷ 0 ∷ 0 ∷ 1 ∷ []);
    })) 5)
unfolding requested command_line options config_or address_of clap_on_literals
two_addresses = refl

unspecified_control_address : requested (codes "live" ∷ codes "--control-address=0.0.0.0" ∷ []) ≡
    Err (kind.ValueValidation ∷ [])
unfolding requested command_line options config_or address_of clap_on_literals
unspecified_control_address = refl

three_parts : requested (at_address (codes "1.2.3")) ≡ Err (kind.ValueValidation ∷ [])
unfolding requested command_line options config_or address_of clap_on_literals
three_parts = refl

five_parts : requested (at_address (codes "1.2.3.4.5")) ≡ Err (kind.ValueValidation ∷ [])
unfolding requested command_line options config_or address_of clap_on_literals
five_parts = refl

address_twice : requested (codes "serve" ∷ codes "--address=10.0.0.1" ∷ codes "--address=10.0.0.1" ∷ []) ≡
    Err (kind.ArgumentConflict ∷ [])
unfolding requested command_line options config_or clap_on_literals
address_twice = refl

no_word : requested [] ≡ Err (kind.MissingSubcommand ∷ [])
unfolding requested command_line options config_or clap_on_literals
no_word = refl

number_too_large : requested (slots (codes "65536")) ≡ Err (kind.ValueValidation ∷ [])
unfolding requested command_line options config_or clap_on_literals
number_too_large = refl

no_number : requested (codes "replay" ∷ codes "--slots" ∷ []) ≡ Err (kind.InvalidValue ∷ [])
unfolding requested command_line options config_or clap_on_literals
no_number = refl

unknown_option : requested (codes "replay" ∷ codes "--colour" ∷ []) ≡ Err (kind.UnknownArgument ∷ [])
unfolding requested command_line options config_or clap_on_literals
unknown_option = refl

option_twice : requested (codes "replay" ∷ codes "--slots=1" ∷ codes "--slots=1" ∷ []) ≡ Err (kind.ArgumentConflict ∷ [])
unfolding requested command_line options config_or clap_on_literals
option_twice = refl

help : requested (codes "serve" ∷ codes "--help" ∷ []) ≡ Err (kind.DisplayHelp ∷ [])
unfolding requested command_line options config_or clap_on_literals
help = refl

help_of_all : requested (codes "--help" ∷ []) ≡ Err (kind.DisplayHelp ∷ [])
unfolding requested command_line options heard_options config_or clap_on_literals
help_of_all = refl

version : requested (codes "--version" ∷ []) ≡ Err (kind.DisplayVersion ∷ [])
unfolding requested command_line options heard_options config_or clap_on_literals
version = refl

unknown_word : requested (codes "record" ∷ []) ≡ Err (kind.UnknownArgument ∷ kind.InvalidSubcommand ∷ [])
unfolding requested command_line options heard_options config_or clap_on_literals
unknown_word = refl
