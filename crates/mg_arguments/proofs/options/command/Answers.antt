use Rattle.std.proofs.Common.{◌≡◌, ◌∙◌, true, ap, refl, codes}
use Rattle.clap.specs.Words.{Shape}
use Rattle.clap.specs.Simple.{app_of_fields, on_top}
use Rattle.mg_arguments.specs.Options.{check_line, command_line, heard_line, heard_options, live_line, options, replay_line, seal_line, sockets_line, verify_line}
use Rattle.mg_options.proofs.CommandLemmas.{adds_subcommand}
use Rattle.mg_arguments.proofs.options.command.Goals as goal

replay_is_plain : replay_line.top.is_plain ≡ true
unfolding options
replay_is_plain = refl

serve_is_plain : (sockets_line (codes "serve")).top.is_plain ≡ true
unfolding options
serve_is_plain = refl

live_is_plain : live_line.top.is_plain ≡ true
unfolding options
live_is_plain = refl

check_is_plain : check_line.top.is_plain ≡ true
check_is_plain = refl

heard_is_plain : heard_line.top.is_plain ≡ true
unfolding heard_options
heard_is_plain = refl

verify_is_plain : verify_line.top.is_plain ≡ true
verify_is_plain = refl

seal_is_plain : seal_line.top.is_plain ≡ true
seal_is_plain = refl

pub returns-clause-app : goal.returns-clause-app
unfolding command_line
returns-clause-app c =
    let required = ap app_of_fields c.subcommand_required.ensures ∙
    ap (on_top (λ (s : Shape). record s { subcommand_required = true })) c.program_command.ensures.app in
    let replay = adds_subcommand _ _ _ _ _ c.in_ok-subcommand.ensures required c.in_ok-replay.ensures.app
    replay_is_plain in
    let serve = adds_subcommand _ _ _ _ _ c.in_ok-subcommand-2.ensures replay c.in_ok-serve.ensures.app serve_is_plain
    in
    let live = adds_subcommand _ _ _ _ _ c.in_ok-subcommand-3.ensures serve c.in_ok-live.ensures.app live_is_plain in
    let check = adds_subcommand _ _ _ _ _ c.in_ok-subcommand-4.ensures live c.in_ok-check.ensures.app check_is_plain
    in
    let heard = adds_subcommand _ _ _ _ _ c.in_ok-subcommand-5.ensures check c.in_ok-heard_command.ensures.app
    heard_is_plain in
    let verify = adds_subcommand _ _ _ _ _ c.in_ok-subcommand-6.ensures heard c.in_ok-verify_command.ensures.app
    verify_is_plain in
    adds_subcommand _ _ _ _ _ c.in_ok-command.ensures verify c.seal_command.ensures.app seal_is_plain
